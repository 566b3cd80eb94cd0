-- The files that were read, one after another.
use Rattle.std.proofs.Common.{◌≡◌, ◌<◌, ◌+◌, ℕ, length, refl, arith, List, [], ◌∷◌, Option, Some, None, Result, IfSome, map, ap, ◌∙◌, sym, subst}
use Rattle.std.specs.Prelude.{slice_index_or, remove}
use Rattle.std.proofs.lemmas.List.{length-map}
use Rattle.command_file.specs.declared.command.Command.{Command}
use Rattle.command_file.specs.Lines.{lines_of}
use Rattle.command_file.specs.declared.fault.FileFault.{FileFault}
use Rattle.command_file.specs.declared.fault.FileFault.TheVariants as file
use Rattle.command_file.specs.Files.{IsFile, IsFileFault}
use Rattle.command_file.specs.Texts.{EndsSo}
use Rattle.far_driver.specs.declared.fault.RunFault.{RunFault}
use Rattle.far_driver.specs.declared.fault.RunFault.TheVariants as fault
use Rattle.far_driver.specs.Faults.{of_file}
use Rattle.far_driver.specs.Reading.{AreFiles, IsFirst, IsFaultFrom}

-- the first of a list that has one, and the others
pub removed : {A : Type 0} (xs rest : List A) (x : A) → 0 < length xs → x ≡ slice_index_or xs 0 x → rest ≡ remove xs 0 → xs ≡ x ∷ rest
removed [] rest x some is left = absurd (omega arith)
removed (y ∷ xs) rest x some is left = ap (λ z. z ∷ xs) (sym is) ∙ ap (λ zs. x ∷ zs) (sym left)

-- what was read of a file says of its bytes what it says of the lines that were read
pub known_file : (k : Option (List ℕ)) (lines : List (List ℕ)) (end : Result (Unit {0}) FileFault) (c : List Command) → IfSome k (λ bytes. EndsSo (lines_of bytes) lines end)
    → ((all : List (List ℕ)) → EndsSo all lines end → IsFile all c) → IfSome k (λ bytes. IsFile (lines_of bytes) c)
known_file None lines end c ends says = tt
known_file (Some bytes) lines end c ends says = says (lines_of bytes) ends

known_fault : (k : Option (List ℕ)) (lines : List (List ℕ)) (end : Result (Unit {0}) FileFault) (f : FileFault) → IfSome k (λ bytes. EndsSo (lines_of bytes) lines end)
    → ((all : List (List ℕ)) → EndsSo all lines end → IsFileFault all f) → IfSome k (λ bytes. IsFileFault (lines_of bytes) f)
known_fault None lines end f ends says = tt
known_fault (Some bytes) lines end f ends says = says (lines_of bytes) ends

pub first_file : {B : Type 0} (known : B → Option (List ℕ)) (files rest : List B) (file : B) (all old : List (List Command)) (c : List Command) → files ≡ file ∷ rest → all ≡ c ∷ old
    → IfSome (known file) (λ bytes. IsFile (lines_of bytes) c) → AreFiles (map known rest) old → AreFiles (map known files) all
first_file {B = B} known files rest file all old c files_are all_are one others =
    subst (λ (fs : List B). AreFiles (map known fs) all) (sym files_are)
    (subst (λ (cs : List (List Command)). AreFiles (map known (file ∷ rest)) cs) (sym all_are) (one, others))

-- ---- faults

own_fault : (from : ℕ) (k : Option (List ℕ)) (ks : List (Option (List ℕ))) (f : FileFault) → IfSome k (λ bytes. IsFileFault (lines_of bytes) f) → IsFaultFrom from (k ∷ ks) (of_file from f)
own_fault from k ks (file.BadLine line) h = record { before = []; known = k; behind = ks; is = refl; counted = omega arith; commands = []; files = tt; fits = h }
own_fault from k ks file.TooManyLines h = record { before = []; known = k; behind = ks; is = refl; counted = omega arith; commands = []; files = tt; fits = h }
own_fault from k ks file.Read h = record { before = []; known = k; behind = ks; is = refl; counted = omega arith; commands = []; files = tt; fits = h }
own_fault from k ks file.Memory h = tt

-- the fault of the first file, where its bytes have it
pub own_is_first : {B : Type 0} (known : B → Option (List ℕ)) (files rest : List B) (file : B) (from : ℕ) (f : FileFault) → files ≡ file ∷ rest
    → IfSome (known file) (λ bytes. IsFileFault (lines_of bytes) f) → IsFaultFrom from (map known files) (of_file from f)
own_is_first {B = B} known files rest file from f files_are own =
    subst (λ (fs : List B). IsFaultFrom from (map known fs) (of_file from f)) (sym files_are) (own_fault from (known file) (map known rest) f own)

-- and where the lines that were read of it do
pub first_fault : {B : Type 0} (known : B → Option (List ℕ)) (files rest : List B) (file : B) (from : ℕ) (lines : List (List ℕ)) (end : Result (Unit {0}) FileFault) (f : FileFault) → files ≡ file ∷ rest
    → IfSome (known file) (λ bytes. EndsSo (lines_of bytes) lines end) → ((all : List (List ℕ)) → EndsSo all lines end → IsFileFault all f) → IsFaultFrom from (map known files) (of_file from f)
first_fault known files rest file from lines end f files_are ends says = own_is_first known files rest file from f files_are (known_fault (known file) lines end f ends says)

first_later : (from : ℕ) (k : Option (List ℕ)) (ks : List (Option (List ℕ))) (c : List Command) (number : ℕ) (P : List ℕ → Type 0) → IfSome k (λ bytes. IsFile (lines_of bytes) c) → IsFirst (from + 1) ks number P → IsFirst from (k ∷ ks) number P
first_later from k ks c number P one first = record {
  before = k ∷ first.before;
  known = first.known;
  behind = first.behind;
  is = ap (λ (x : List (Option (List ℕ))). k ∷ x) first.is;
  counted = omega (arith, first.counted);
  commands = c ∷ first.commands;
  files = (one, first.files);
  fits = first.fits;
}

later : (from : ℕ) (k : Option (List ℕ)) (ks : List (Option (List ℕ))) (c : List Command) (f : RunFault) → IfSome k (λ bytes. IsFile (lines_of bytes) c) → IsFaultFrom (from + 1) ks f → IsFaultFrom from (k ∷ ks) f
later from k ks c (fault.BadLine number line) one h = first_later from k ks c number _ one h
later from k ks c (fault.TooManyLines number) one h = first_later from k ks c number _ one h
later from k ks c (fault.Read number) one h = first_later from k ks c number _ one h
later from k ks c fault.Memory one h = h
later from k ks c _ one h = absurd h

-- a fault of those behind a good file
pub later_fault : {B : Type 0} (known : B → Option (List ℕ)) (files rest : List B) (file : B) (from : ℕ) (c : List Command) (f : RunFault) → files ≡ file ∷ rest
    → IfSome (known file) (λ bytes. IsFile (lines_of bytes) c) → IsFaultFrom (from + 1) (map known rest) f → IsFaultFrom from (map known files) f
later_fault {B = B} known files rest file from c f files_are one h =
    subst (λ (fs : List B). IsFaultFrom from (map known fs) f) (sym files_are) (later from (known file) (map known rest) c f one h)

-- ---- how many there are

count_same : (ks : List (Option (List ℕ))) (fs : List (List Command)) → AreFiles ks fs → length fs ≡ length ks
count_same [] [] h = refl
count_same [] (f ∷ fs) h = absurd h
count_same (k ∷ ks) [] h = absurd h
count_same (k ∷ ks) (f ∷ fs) h = omega (arith, count_same ks fs h.1)

-- there are as many files as readers
pub given_count : {B : Type 0} (known : B → Option (List ℕ)) (readers : List B) (files : List (List Command)) → AreFiles (map known readers) files → length files ≡ length readers
given_count known readers files h = count_same (map known readers) files h ∙ length-map readers known
