-- Files of which nothing was read.
use Rattle.std.proofs.Common.{◌≡◌, ℕ, suc, ◌+◌, List, [], ◌∷◌, ◌++◌, Option, Global, map, ap, refl, subst, sym, ◌∙◌, arith}
use Rattle.std.proofs.lemmas.List.{map-append}
use Rattle.std.specs.Io.Buffered.{reader_remaining}
use Rattle.std.specs.declared.io.buffered.BufReader.{BufReader}
use Rattle.streams.specs.declared.reader.StreamReader.{StreamReader}
use Rattle.streams.specs.Streams.{rest_of}
use Rattle.streams.specs.Ends.{still_to_read, IsUnread}
use Rattle.far_driver.specs.Sources.{unread}

-- one more source behind so many
pub one_more : {F : Type 0} (sources : List (BufReader (StreamReader F) Global)) (source : BufReader (StreamReader F) Global) (n : ℕ) → map (reader_remaining still_to_read) sources ≡ unread n → IsUnread (n + 1) source
    → map (reader_remaining still_to_read) (sources ++ source ∷ []) ≡ unread (n + 1)
one_more sources source n before fresh =
    let next : n + 1 ≡ suc n = omega arith in
    let last : unread n ++ rest_of (suc n) 0 ∷ [] ≡ unread (suc n) = refl in
    map-append (reader_remaining still_to_read) sources (source ∷ []) ∙ ap (λ known. known ++ reader_remaining still_to_read source ∷ []) before
    ∙ ap (λ known. unread n ++ known ∷ []) fresh ∙ subst (λ m. unread n ++ rest_of m 0 ∷ [] ≡ unread m) (sym next) last
