-- What a look at the reader brought, of the line that the reader was at.
use Rattle.std.proofs.Common.{◌≡◌, ℕ, ◌+◌, ◌-◌, ◌<◌, ◌≤◌, min, Bool, true, false, List, [], ◌∷◌, ◌++◌, length, take, get_or, None, Some, IfSome, refl, sym, ap, subst, ◌∙◌, arith, inl, inr, append_assoc, append-nil, length-append, length-take-le}
use Rattle.std.specs.Prelude.{Option, MatchOption, OnSome, ◌⊎◌}
use Rattle.std.specs.Io.KnownBytes.{Keeps, Consumes, IsAtEnd, prepend_known}
use Rattle.std.proofs.lemmas.List.{take_more}
use Rattle.command_file.specs.declared.line.LineRead.{LineRead}
use Rattle.command_file.specs.declared.line.LineRead.TheVariants.{End, Line, TooLong}
use Rattle.command_file.specs.Lines.{lines_of}
use Rattle.command_file.specs.Reading.{HasNoFeed, TakesLine, BeginsTooLong, ReadsLine, Ends}
use Rattle.command_file.proofs.Lines.{lines_of-feed, lines_of-last, begins}

-- what was taken moved from the reader to the line
kept : (a c : Option (List ℕ)) (old part : List ℕ) → Consumes a c part → Keeps (prepend_known old a) (prepend_known (old ++ part) c)
kept None c old part took = tt
kept (Some bytes) None old part took = absurd took
kept (Some bytes) (Some rest) old part took = append_assoc old part rest ∙ ap (λ l. old ++ l) (sym took)

ended : (a c : Option (List ℕ)) (old part : List ℕ) → old ++ part ≡ [] → IsAtEnd a → OnSome a (IsAtEnd c) → IsAtEnd (prepend_known old a) × OnSome (prepend_known old a) (IsAtEnd c)
ended None c old part none end after = (tt, tt)
ended (Some bytes) c [] part none end after = (end, after)
ended (Some bytes) c (byte ∷ old) part none end after = absurd (omega (arith, ap length none))

fed : (a c : Option (List ℕ)) (old part : List ℕ) → Consumes a c (part ++ 10 ∷ []) → HasNoFeed (old ++ part) → TakesLine (prepend_known old a) c (old ++ part)
fed None c old part took free = tt
fed (Some bytes) None old part took free = absurd took
fed (Some bytes) (Some rest) old part took free =
    let whole : old ++ bytes ≡ (old ++ part) ++ 10 ∷ rest =
    ap (λ l. old ++ l) (took ∙ append_assoc part (10 ∷ []) rest) ∙ sym (append_assoc old part (10 ∷ rest)) in
    ap lines_of whole ∙ lines_of-feed (old ++ part) rest free

last : (a c : Option (List ℕ)) (old : List ℕ) → Consumes a c [] → IsAtEnd a → 0 < length old → HasNoFeed old → TakesLine (prepend_known old a) c old
last None c old took end some free = tt
last (Some bytes) None old took end some free = absurd took
last (Some bytes) (Some rest) [] took end some free = absurd (omega arith)
last (Some bytes) (Some rest) (byte ∷ old) took end some free =
    let whole : (byte ∷ old) ++ bytes ≡ byte ∷ old = ap (λ l. (byte ∷ old) ++ l) end ∙ append-nil (byte ∷ old) in
    let none : rest ≡ [] = sym took ∙ end in
    ap lines_of whole ∙ lines_of-last byte old free ∙ ap (λ l. (byte ∷ old) ∷ lines_of l) (sym none)

too_long_of : (line rest bytes : List ℕ) → bytes ≡ line ++ rest → HasNoFeed line → 1024 < length line → BeginsTooLong bytes
too_long_of [] rest bytes whole free long = absurd (omega arith)
too_long_of (byte ∷ line) rest bytes whole free long =
    let first = begins byte line rest free in
    record {
      line = (byte ∷ line) ++ first.more;
      rest = first.others;
      is = ap lines_of whole ∙ first.is;
      long = omega (arith, length-append (byte ∷ line) first.more);
    }

too_long : (a c : Option (List ℕ)) (old part : List ℕ) → Consumes a c part → HasNoFeed (old ++ part) → 1024 < length (old ++ part) → IfSome (prepend_known old a) BeginsTooLong
too_long None c old part took free long = tt
too_long (Some bytes) None old part took free long = absurd took
too_long (Some bytes) (Some rest) old part took free long =
    too_long_of (old ++ part) rest (old ++ bytes) (ap (λ l. old ++ l) took ∙ sym (append_assoc old part rest)) free long

module _ (a c : Option (List ℕ)) (old shown new : List ℕ) (count amount room : ℕ) (feed at_end : Bool)
    (took : Consumes a c (take amount shown))
    (empty : at_end ≡ true → length shown ≡ 0)
    (end : length shown ≡ 0 → IsAtEnd a × OnSome a (IsAtEnd c))
    (put : new ≡ old ++ take count shown)
    (free : HasNoFeed new)
    (at_feed : feed ≡ true → (amount ≡ count + 1) × (count < length shown) × (count < room) × (get_or shown count 0 ≡ 10))
    (no_feed : feed ≡ false → (amount ≡ count) × (count ≡ min (length shown) room))
    (short : length old ≤ 1024)
    (left : room ≡ 1025 - length old)
  where
    took_part : feed ≡ false → Consumes a c (take count shown)
    took_part isnt = subst (λ n. Consumes a c (take n shown)) (no_feed isnt).0 took

    took_line : feed ≡ true → Consumes a c (take count shown ++ 10 ∷ [])
    took_line is =
        let fact = at_feed is in
        let split : take amount shown ≡ take count shown ++ 10 ∷ [] =
        ap (λ n. take n shown) fact.0 ∙ take_more shown count 0 fact.1 ∙ ap (λ b. take count shown ++ b ∷ []) fact.3 in
        subst (Consumes a c) split took

    line_of : (feed ≡ true) ⊎ ((feed ≡ false) × (at_end ≡ true) × (0 < length new)) → TakesLine (prepend_known old a) c new × (length new ≤ 1024)
    line_of (inl is) =
        let fact = at_feed is in (
          subst (TakesLine (prepend_known old a) c) (sym put) (fed a c old (take count shown) (took_line is) (subst HasNoFeed put free)),
          omega (arith, ap length put, length-append old (take count shown), length-take-le count shown (omega arith)),
        )
    line_of (inr h) =
        let none = empty h.1 in
        let nothing : count ≡ 0 = omega (arith, (no_feed h.0).1) in
        let same : new ≡ old = put ∙ ap (λ n. old ++ take n shown) nothing ∙ append-nil old in (
          subst (TakesLine (prepend_known old a) c) (sym same) (last a c old (subst (λ n. Consumes a c (take n shown)) nothing (took_part h.0)) (end none).0 (omega (arith, ap length same)) (subst HasNoFeed same free)),
          omega (arith, ap length same),
        )

    pub look : (r : Option LineRead) → Ends new at_end feed r
        → MatchOption r ((length new ≤ 1024) × HasNoFeed new × Keeps (prepend_known old a) (prepend_known new c)) (λ read. ReadsLine (prepend_known old a) c new read)
    look None ends = (ends.2, free, subst (λ l. Keeps (prepend_known old a) (prepend_known l c)) (sym put) (kept a c old (take count shown) (took_part ends.0)))
    look (Some End) ends =
        let none = end (empty ends.1) in
        ended a c old (take count shown) (sym put ∙ ends.2) none.0 none.1
    look (Some Line) ends = line_of ends
    look (Some TooLong) ends = too_long a c old (take count shown) (took_part ends.0) (subst HasNoFeed put free) (omega (arith, ap length put))

-- a reader that shows no byte has none
pub at_end_from_shown : (a : Option (List ℕ)) (shown : List ℕ) → IfSome a (λ bytes. length shown ≡ 0 → bytes ≡ []) → length shown ≡ 0 → IsAtEnd a
at_end_from_shown None shown h none = tt
at_end_from_shown (Some bytes) shown h none = h none

pub within_shown : (count amount shown room : ℕ) (feed : Bool)
    → (feed ≡ true → (amount ≡ count + 1) × (count < shown) × (count < room))
    → (feed ≡ false → (amount ≡ count) × (count ≡ min shown room)) → amount ≤ shown
within_shown count amount shown room true is isnt = omega (arith, (is refl).0, (is refl).1)
within_shown count amount shown room false is isnt = omega (arith, (isnt refl).0, (isnt refl).1)
