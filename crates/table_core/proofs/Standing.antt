-- A machine that stands at a log: what it holds is what the log says.
use Rattle.std.proofs.Common.{zero, suc, ◌≡◌, ◌≢◌, ℕ, ◌+◌, ◌<◌, ◌≤◌, ◌==◌, Bool, true, false, if◌then◌else◌, List, [], ◌∷◌, ◌++◌, Option, Some, None, length, slice_index, slice_set, get_or, ◌⊎◌, inl, inr, refl, ap, sym, ◌∙◌, subst, arith, IsTrue}
use Rattle.std.proofs.lemmas.Bool.Decides.{nat_tests}
use Rattle.std.proofs.lemmas.Option.{slice_get_cases, slice_get_within}
use Rattle.std.proofs.lemmas.List.{get_or-set_same, get_or-set_other, length-set, append-nil}
use Rattle.std.specs.List.{slice_get}
use Rattle.std.specs.Option.{option_map}
use Rattle.std.specs.List.Sorted.{IsStrictlySortedBy}
use Rattle.std.specs.Map.{keys_of}
use Rattle.far_object.specs.Buckets.{key_cmp, bucket}
use Rattle.table_core.specs.declared.event.Event.{Event}
use Rattle.table_core.specs.declared.event.Event.TheVariants.{Enter, Named, Done, Moved}
use Rattle.table_core.specs.declared.limits.Limits.{Limits}
use Rattle.table_core.specs.declared.operation.Operation.{Operation}
use Rattle.table_core.specs.BucketWords.{name_of}
use Rattle.table_core.specs.Limits.{last_pass}
use Rattle.table_core.specs.Maps.{key_of, value_at, at_bucket, map_of, reply}
use Rattle.table_core.specs.Logs.{history, passes_of, names_of, naming, contents, pairs_of, installed, replaced, word}
use Rattle.table_core.specs.Lawful.{standing, IsDrawn, MayFollow, IsLawful, widest}
use Rattle.table_core.specs.Machines.{MachineView, buckets_of, namings, numbered, StandsAt, GoesOn, Answers}
use Rattle.table_core.specs.Changes.{standing_at, with_name, with_word}
use Rattle.table_core.proofs.Logs.{passes-append, names-append, naming-append, or_else, lawful_more, lawful_keeps, word-more}
use Rattle.table_core.proofs.Histories.{agree, answer}
use Rattle.far_object.proofs.Rising.{rising_filter}
use Rattle.table_core.proofs.Keys.{rising}

-- ---- names

module _ {K V : Type 0} where
  namings-append : (xs ys : List (Event K V)) → namings (xs ++ ys) ≡ namings xs ++ namings ys
  namings-append [] ys = refl
  namings-append (Enter p ∷ xs) ys = namings-append xs ys
  namings-append (Named n b es ∷ xs) ys = ap (λ (z : List (ℕ × List (K × V))). (b, es) ∷ z) (namings-append xs ys)
  namings-append (Done p op w ∷ xs) ys = namings-append xs ys
  namings-append (Moved b w ∷ xs) ys = namings-append xs ys

  pub length-namings : (xs : List (Event K V)) → length (namings xs) ≡ names_of xs
  length-namings [] = refl
  length-namings (Enter p ∷ xs) = length-namings xs
  length-namings (Named n b es ∷ xs) = omega (arith, length-namings xs)
  length-namings (Done p op w ∷ xs) = length-namings xs
  length-namings (Moved b w ∷ xs) = length-namings xs

  -- the naming of n, with one more name behind the others
  slice_get-push : (ts : List (ℕ × List (K × V))) (t : ℕ × List (K × V)) (i m : ℕ) → m ≡ length ts + 1
      → slice_get (ts ++ t ∷ []) i ≡ or_else (slice_get ts i) (if m == i + 1 then Some t else None)
  slice_get-push [] t zero m h = let is : (m == 0 + 1) ≡ true = grind (arith, nat_tests) in rw is refl
  slice_get-push [] t (suc i) m h = let is : (m == suc i + 1) ≡ false = let ne : m ≢ suc i + 1 = omega arith in grind (arith, nat_tests) in rw is refl
  slice_get-push (x ∷ ts) t zero m h = refl
  slice_get-push (x ∷ ts) t (suc i) m h =
      slice_get-push ts t i (length ts + 1) refl
      ∙ ap (λ (c : Bool). or_else (slice_get ts i) (if c then Some t else None)) (same (length ts + 1 == i + 1) (m == suc i + 1) refl refl)
    where
      same : (c d : Bool) → (length ts + 1 == i + 1) ≡ c → (m == suc i + 1) ≡ d → c ≡ d
      same true true p q = refl
      same false false p q = refl
      same true false p q = absurd (let e : length ts + 1 ≡ i + 1 = grind (arith, nat_tests) in let ne : m ≢ suc i + 1 = grind (arith, nat_tests) in ne (omega arith))
      same false true p q = absurd (let e : m ≡ suc i + 1 = grind (arith, nat_tests) in let ne : length ts + 1 ≢ i + 1 = grind (arith, nat_tests) in ne (omega arith))

  or_none : (o : Option (ℕ × List (K × V))) → or_else o None ≡ o
  or_none None = refl
  or_none (Some t) = refl

  -- the names in order give each name its naming
  abbrev AreNumbered : List (Event K V) → Type 0
  AreNumbered log = (n : ℕ) → naming log n ≡ numbered (namings log) n

  none_numbered : AreNumbered []
  none_numbered zero = refl
  none_numbered (suc n) = refl

  named_more : (log : List (Event K V)) (m b : ℕ) (es : List (K × V)) → m ≡ names_of log + 1 → AreNumbered log → (n : ℕ)
      → or_else (naming log n) (if m == n then Some (b, es) else None) ≡ numbered (namings log ++ (b, es) ∷ []) n
  named_more log m b es h are zero =
      let is : (m == 0) ≡ false = let ne : m ≢ 0 = omega arith in grind (arith, nat_tests) in
      rw (is, are zero) refl
  named_more log m b es h are (suc n) =
      let long : m ≡ length (namings log) + 1 = omega (arith, length-namings log) in
      ap (λ (o : Option (ℕ × List (K × V))). or_else o (if m == suc n then Some (b, es) else None)) (are (suc n))
      ∙ (ap (λ i. or_else (slice_get (namings log) n) (if m == i then Some (b, es) else None)) (let e : suc n ≡ n + 1 = omega arith in e)
      ∙ sym (slice_get-push (namings log) (b, es) n m long))

module _ {K V : Type 0} (ek : K → List ℕ) (ev : V → List ℕ) (l : Limits) where
  numbered_more : (log : List (Event K V)) (e : Event K V) → AreNumbered log → MayFollow ek ev l log e → AreNumbered (log ++ e ∷ [])
  numbered_more log (Enter p) are may n = naming-append log (Enter p ∷ []) n ∙ (or_none (naming log n) ∙ (are n ∙ ap (λ ts. numbered ts n) (sym (namings-append log (Enter p ∷ []) ∙ append-nil (namings log)))))
  numbered_more log (Named m b es) are may n =
      naming-append log (Named m b es ∷ []) n
      ∙ (named_more log m b es (let r = may.number in r.0) are n ∙ ap (λ ts. numbered ts n) (sym (namings-append log (Named m b es ∷ []))))
  numbered_more log (Done p op w) are may n = naming-append log (Done p op w ∷ []) n ∙ (or_none (naming log n) ∙ (are n ∙ ap (λ ts. numbered ts n) (sym (namings-append log (Done p op w ∷ []) ∙ append-nil (namings log)))))
  numbered_more log (Moved b w) are may n = naming-append log (Moved b w ∷ []) n ∙ (or_none (naming log n) ∙ (are n ∙ ap (λ ts. numbered ts n) (sym (namings-append log (Moved b w ∷ []) ∙ append-nil (namings log)))))

  pub naming_numbered : (log : List (Event K V)) → IsLawful ek ev l log → (n : ℕ) → naming log n ≡ numbered (namings log) n
  naming_numbered log h = lawful_keeps ek ev l AreNumbered numbered_more [] log none_numbered h

  -- a name was drawn for one of the buckets
  abbrev DrawnWithin : List (Event K V) → Type 0
  DrawnWithin log = (n b : ℕ) → IsDrawn log n b → b < l.buckets

  drawn_more : (log : List (Event K V)) (e : Event K V) → DrawnWithin log → MayFollow ek ev l log e → DrawnWithin (log ++ e ∷ [])
  drawn_more log e within may n b h = by (naming log n) refl e may h
    where
      by : (o : Option (ℕ × List (K × V))) → naming log n ≡ o → (e : Event K V) → MayFollow ek ev l log e → IsDrawn (log ++ e ∷ []) n b → b < l.buckets
      by (Some t) is e may h =
          within n b (ap (λ (o : Option (ℕ × List (K × V))). option_map (λ t. t.0) o) is ∙ (sym (ap (λ (o : Option (ℕ × List (K × V))). option_map (λ t. t.0) o) (naming-append log (e ∷ []) n ∙ ap (λ o. or_else o (naming (e ∷ []) n)) is)) ∙ h))
      by None is (Named m c es) may h = at (m == n) refl
        where
          at : (q : Bool) → (m == n) ≡ q → b < l.buckets
          at true same =
              let low = may.contents_kept in
              let k : c ≡ b = cc (simp (naming-append, is, same) at h) in
              omega (arith, low.0)
          at false same = absurd (cc (simp (naming-append, is, same) at h))
      by None is (Enter p) may h = absurd (cc (simp (naming-append, is) at h))
      by None is (Done p op w) may h = absurd (cc (simp (naming-append, is) at h))
      by None is (Moved c w) may h = absurd (cc (simp (naming-append, is) at h))

  pub drawn_within : (log : List (Event K V)) → IsLawful ek ev l log → (n b : ℕ) → IsDrawn log n b → b < l.buckets
  drawn_within log h = lawful_keeps ek ev l DrawnWithin drawn_more [] log (λ n b h. absurd cc) h

  -- the contents that stand in a bucket rise
  pub standing_rises : IsTrue l.honest → (log : List (Event K V)) → IsLawful ek ev l log → (b : ℕ) → IsStrictlySortedBy (key_cmp ek) (keys_of (standing ek ev l log b))
  standing_rises honest log h b =
      subst (λ (es : List (K × V)). IsStrictlySortedBy (key_cmp ek) (keys_of es)) (sym (agree ek ev l honest log h b))
      (rising_filter ek (λ k. bucket ek l.buckets k == b) (map_of ek ev (history log)) (rising ek ev (history log)))

-- ---- a machine at a log

module _ {K V : Type 0} (ek : K → List ℕ) (ev : V → List ℕ) (m : MachineView K V) (log : List (Event K V)) (s : StandsAt ek ev m log) where
  pub naming_at : (n : ℕ) → naming log n ≡ numbered m.names n
  naming_at n = naming_numbered ek ev (widest (buckets_of m)) log s.lawful n ∙ ap (λ ts. numbered ts n) (sym s.names)

  pub names_at : length m.names ≡ names_of log
  names_at = ap length s.names ∙ length-namings log

  pub stands_there : (b : ℕ) → b < buckets_of m → standing ek ev (widest (buckets_of m)) log b ≡ standing_at m b
  stands_there b h =
      ap pairs_of (naming_at (name_of (word ek (buckets_of m) log b)))
      ∙ ap (λ w. pairs_of (numbered m.names (name_of w))) (sym (s.words b h))

  pub rises_there : (b : ℕ) → b < buckets_of m → IsStrictlySortedBy (key_cmp ek) (keys_of (standing_at m b))
  rises_there b h = subst (λ (es : List (K × V)). IsStrictlySortedBy (key_cmp ek) (keys_of es)) (stands_there b h) (standing_rises ek ev (widest (buckets_of m)) refl log s.lawful b)

  pub gathers_there : (b : ℕ) → b < buckets_of m → standing_at m b ≡ at_bucket ek (buckets_of m) b (map_of ek ev (history log))
  gathers_there b h = sym (stands_there b h) ∙ agree ek ev (widest (buckets_of m)) refl log s.lawful b

  -- what a key has in its bucket is the reply of the map of the history
  pub replied : (op : Operation K V) (b : ℕ) → b ≡ bucket ek (buckets_of m) (key_of op) → b < buckets_of m
      → value_at ek (key_of op) (standing_at m b) ≡ reply ek (map_of ek ev (history log)) op
  replied op b is h =
      ap (λ (es : List (K × V)). value_at ek (key_of op) es) (sym (stands_there b h))
      ∙ (ap (λ c. value_at ek (key_of op) (standing ek ev (widest (buckets_of m)) log c)) is
      ∙ answer ek ev (widest (buckets_of m)) refl log s.lawful (key_of op))

  entered_word : (e : Event K V) → installed ek (buckets_of m) e ≡ None → (b : ℕ) → b < buckets_of m → slice_index m.words b ≡ word ek (buckets_of m) (log ++ e ∷ []) b
  entered_word e none b h = s.words b h ∙ sym (word-more ek ev (widest (buckets_of m)) log e b ∙ ap (λ o. replaced b (word ek (buckets_of m) log b) o) none)

  pub goes_enter : (p : ℕ) → MayFollow ek ev (widest (buckets_of m)) log (Enter p) → GoesOn ek ev m (record { words = m.words; names = m.names; passes = p }) log (Enter p)
  goes_enter p may = record {
    stands = record {
      lawful = lawful_more ek ev (widest (buckets_of m)) log (Enter p) s.lawful may;
      words = entered_word (Enter p) refl;
      names = s.names ∙ sym (namings-append log (Enter p ∷ []) ∙ append-nil (namings log));
      passes = (let r = may.pass in omega (arith, passes-append log (Enter p ∷ [])));
    };
    buckets = refl;
  }

  pub goes_named : (n b : ℕ) (es : List (K × V)) → MayFollow ek ev (widest (buckets_of m)) log (Named n b es)
      → GoesOn ek ev m (record { words = m.words; names = m.names ++ (b, es) ∷ []; passes = m.passes }) log (Named n b es)
  goes_named n b es may = record {
    stands = record {
      lawful = lawful_more ek ev (widest (buckets_of m)) log (Named n b es) s.lawful may;
      words = entered_word (Named n b es) refl;
      names = ap (λ ts. ts ++ (b, es) ∷ []) s.names ∙ sym (namings-append log (Named n b es ∷ []));
      passes = s.passes ∙ sym (let e : passes_of (log ++ Named n b es ∷ []) ≡ passes_of log = omega (arith, passes-append log (Named n b es ∷ [])) in e);
    };
    buckets = refl;
  }

  -- an event that installs at most a word
  goes_word : (e : Event K V) (b : ℕ) (w : Option ℕ) → MayFollow ek ev (widest (buckets_of m)) log e → b < buckets_of m
      → installed ek (buckets_of m) e ≡ option_map (λ word. (b, word)) w → namings (e ∷ []) ≡ [] → passes_of (e ∷ []) ≡ 0 → GoesOn ek ev m (with_word m b w) log e
  goes_word e b None may h is no_names no_passes = record {
    stands = record {
      lawful = lawful_more ek ev (widest (buckets_of m)) log e s.lawful may;
      words = entered_word e is;
      names = s.names ∙ sym (namings-append log (e ∷ []) ∙ (ap (λ ts. namings log ++ ts) no_names ∙ append-nil (namings log)));
      passes = s.passes ∙ sym (let e : passes_of (log ++ e ∷ []) ≡ passes_of log = omega (arith, passes-append log (e ∷ [])) in e);
    };
    buckets = refl;
  }
  goes_word e b (Some w) may h is no_names no_passes = record {
    stands = record {
      lawful = subst (λ n. IsLawful ek ev (widest n) (log ++ e ∷ [])) (sym same) (lawful_more ek ev (widest (buckets_of m)) log e s.lawful may);
      words = (λ c within. there c (let k : c < buckets_of m = omega (arith, same) in k) (b == c) refl ∙ sym (ap (λ n. word ek n (log ++ e ∷ []) c) same ∙ (word-more ek ev (widest (buckets_of m)) log e c ∙ ap (λ o. replaced c (word ek (buckets_of m) log c) o) is)));
      names = s.names ∙ sym (namings-append log (e ∷ []) ∙ (ap (λ ts. namings log ++ ts) no_names ∙ append-nil (namings log)));
      passes = s.passes ∙ sym (let e : passes_of (log ++ e ∷ []) ≡ passes_of log = omega (arith, passes-append log (e ∷ [])) in e);
    };
    buckets = same;
  }
    where
      same : length (slice_set m.words b w) ≡ buckets_of m
      same = length-set m.words b w

      there : (c : ℕ) → c < buckets_of m → (q : Bool) → (b == c) ≡ q → slice_index (slice_set m.words b w) c ≡ (if q then w else word ek (buckets_of m) log c)
      there c k true is = let e : c ≡ b = grind (arith, nat_tests) in ap (λ i. slice_index (slice_set m.words b w) i) e ∙ get_or-set_same m.words b w 0 h
      there c k false is = let ne : c ≢ b = grind (arith, nat_tests) in get_or-set_other m.words b c w 0 ne ∙ s.words c k

  pub goes_done : (p b : ℕ) (op : Operation K V) (w : Option ℕ) → b ≡ bucket ek (buckets_of m) (key_of op) → b < buckets_of m
      → MayFollow ek ev (widest (buckets_of m)) log (Done p op w) → GoesOn ek ev m (with_word m b w) log (Done p op w)
  goes_done p b op w is h may = goes_word (Done p op w) b w may h (ap (λ c. option_map (λ word. (c, word)) w) (sym is)) refl refl

  pub goes_moved : (b w : ℕ) → b < buckets_of m → MayFollow ek ev (widest (buckets_of m)) log (Moved b w) → GoesOn ek ev m (with_word m b (Some w)) log (Moved b w)
  goes_moved b w h may = goes_word (Moved b w) b (Some w) may h refl refl refl

  -- ---- the contents of a name

  pub no_contents : (n : ℕ) → n ≡ 0 → (n ≤ names_of log) × ([] ≡ contents log n)
  no_contents n is = (omega arith, sym (ap (λ k. contents log k) is ∙ ap pairs_of (naming_at 0)))

  pub none_named : (n : ℕ) → n ≢ 0 → numbered m.names n ≡ None → names_of log < n
  none_named zero ne is = absurd (ne refl)
  none_named (suc n) ne is = by (slice_get_cases m.names n).1
    where
      by : ((x : ℕ × List (K × V)) × (n < length m.names) × (slice_get m.names n ≡ Some x) × (get_or m.names n x ≡ x)) ⊎ ((length m.names ≤ n) × (slice_get m.names n ≡ None)) → names_of log < suc n
      by (inl h) = absurd (cc (h.2, is))
      by (inr h) = omega (arith, names_at, h.0)

  pub contents_named : (n : ℕ) (t : ℕ × List (K × V)) → n ≢ 0 → numbered m.names n ≡ Some t → (n ≤ names_of log) × (t.1 ≡ contents log n)
  contents_named zero t ne is = absurd (ne refl)
  contents_named (suc n) t ne is = (omega (arith, names_at, slice_get_within m.names n t is), sym (ap pairs_of (naming_at (suc n) ∙ is)))

  -- ---- the same of a machine that shows its fields

  pub entered : (inside : MachineView K V) → inside ≡ m → (p : ℕ) → p ≡ passes_of log + 1 → p ≤ last_pass → GoesOn ek ev m (record { words = inside.words; names = inside.names; passes = p }) log (Enter p)
  entered inside is p next few =
      let new : MachineView K V → MachineView K V = λ n. record { words = n.words; names = n.names; passes = p } in
      subst (λ (n : MachineView K V). GoesOn ek ev m n log (Enter p)) (ap new (sym is)) (goes_enter p (record { pass = (next, few); number = tt; drawn = tt; newer = tt; contents_kept = tt }))

  pub named : (new : MachineView K V) (n b : ℕ) (es pairs : List (K × V)) → new ≡ with_name m b es → pairs ≡ es → n ≡ names_of log + 1
      → MayFollow ek ev (widest (buckets_of m)) log (Named (names_of log + 1) b pairs) → GoesOn ek ev m new log (Named n b es)
  named new n b es pairs is same next may =
      subst (λ i. GoesOn ek ev m new log (Named i b es)) (sym next)
      (subst (λ (i : MachineView K V). GoesOn ek ev m i log (Named (names_of log + 1) b es)) (sym is)
      (goes_named (names_of log + 1) b es (subst (λ (x : List (K × V)). MayFollow ek ev (widest (buckets_of m)) log (Named (names_of log + 1) b x)) same may)))

  -- the name that was drawn is the last one of the new machine
  pub drew : (new : MachineView K V) (n b : ℕ) (es pairs : List (K × V)) → new ≡ with_name m b es → pairs ≡ es → MayFollow ek ev (widest (buckets_of m)) log (Named (names_of log + 1) b pairs)
      → ((log : List (Event K V)) → StandsAt ek ev new log → n ≡ names_of log) → (n ≡ names_of log + 1) × GoesOn ek ev m new log (Named n b es)
  drew new n b es pairs is same may count =
      let goes = named new (names_of log + 1) b es pairs is same refl may in
      let last = count (log ++ Named (names_of log + 1) b es ∷ []) goes.stands in
      let next : n ≡ names_of log + 1 = omega (arith, names-append log (Named (names_of log + 1) b es ∷ [])) in
      (next, named new n b es pairs is same next may)

  pub done : (new : MachineView K V) (p b : ℕ) (op : Operation K V) (w : Option ℕ) (a : Option V) → new ≡ with_word m b w → b ≡ bucket ek (buckets_of m) (key_of op) → b < buckets_of m
      → (IsStrictlySortedBy (key_cmp ek) (keys_of (standing_at m b)) → a ≡ value_at ek (key_of op) (standing_at m b))
      → MayFollow ek ev (widest (buckets_of m)) log (Done p op w) → Answers ek ev m new log p op w a
  done new p b op w a is here h answers may = record {
    goes_on = subst (λ (n : MachineView K V). GoesOn ek ev m n log (Done p op w)) (sym is) (goes_done p b op w here h may);
    answered = answers (rises_there b h) ∙ replied op b here h;
  }

  pub moved : (new : MachineView K V) (b w : ℕ) → new ≡ with_word m b (Some w) → b < buckets_of m → MayFollow ek ev (widest (buckets_of m)) log (Moved b w) → GoesOn ek ev m new log (Moved b w)
  moved new b w is h may = subst (λ (n : MachineView K V). GoesOn ek ev m n log (Moved b w)) (sym is) (goes_moved b w h may)

  -- ---- the same of an event that was kept

  pub followed : (new : MachineView K V) (e : Event K V) (p b : ℕ) (op kept : Operation K V) (w : Option ℕ) → new ≡ with_word m b w → b ≡ bucket ek (buckets_of m) (key_of op) → b < buckets_of m
      → MayFollow ek ev (widest (buckets_of m)) log (Done p op w) → op ≡ kept → e ≡ Done p kept w → GoesOn ek ev m new log e
  followed new e p b op kept w is here h may same event =
      subst (λ (x : Event K V). GoesOn ek ev m new log x) (ap (λ (o : Operation K V). Done p o w) same ∙ sym event)
      (subst (λ (n : MachineView K V). GoesOn ek ev m n log (Done p op w)) (sym is) (goes_done p b op w here h may))

  pub followed_move : (new : MachineView K V) (e : Event K V) (b w : ℕ) → new ≡ with_word m b (Some w) → b < buckets_of m → MayFollow ek ev (widest (buckets_of m)) log (Moved b w) → e ≡ Moved b w → GoesOn ek ev m new log e
  followed_move new e b w is h may event = subst (λ (x : Event K V). GoesOn ek ev m new log x) (sym event) (moved new b w is h may)
