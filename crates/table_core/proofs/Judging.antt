-- Whether an event may come next at a machine, and the rule that it breaks.
use Rattle.std.proofs.Common.{◌≡◌, ℕ, ◌+◌, ◌<◌, ◌≤◌, Bool, true, false, List, [], Option, Some, None, inl, inr, slice_index, refl, ap, sym, ◌∙◌, subst, arith, IsTrue, ◌↔◌, MatchOption}
use Rattle.std.specs.Prelude.{⊤}
use Rattle.std.specs.Option.{option_map}
use Rattle.std.specs.List.Sorted.{IsStrictlySortedBy}
use Rattle.std.specs.Map.{keys_of}
use Rattle.far_object.specs.Buckets.{key_cmp, bucket}
use Rattle.table_core.specs.declared.effect.Effect.{Effect}
use Rattle.table_core.specs.declared.event.Event.{Event}
use Rattle.table_core.specs.declared.event.Event.TheVariants.{Named, Done, Moved}
use Rattle.table_core.specs.declared.fault.Rule.{Rule}
use Rattle.table_core.specs.declared.fault.Rule.TheVariants.{NameUsed, NotNewer, WrongContents, WrongPass, Memory}
use Rattle.table_core.specs.declared.operation.Operation.{Operation}
use Rattle.table_core.specs.BucketWords.{name_of, place_of, empty_place}
use Rattle.table_core.specs.Limits.{last_name}
use Rattle.table_core.specs.Maps.{key_of, after}
use Rattle.table_core.specs.Logs.{passes_of, names_of, contents, pairs_of, installed, word}
use Rattle.table_core.specs.Lawful.{standing, IsDrawn, PassRule, NumberRule, DrawnRule, NewerRule, MayFollow, AreContents, widest}
use Rattle.table_core.specs.Machines.{MachineView, buckets_of, numbered, StandsAt, Breaks}
use Rattle.table_core.specs.Changes.{standing_at, with_effect, Installs, IsUnfit}
use Rattle.table_core.proofs.Standing.{naming_at, stands_there, rises_there, drawn_within}

module _ {K V : Type 0} (ek : K → List ℕ) (ev : V → List ℕ) (m : MachineView K V) (log : List (Event K V)) (s : StandsAt ek ev m log) where
  -- ---- the word of an event

  drawn_at : (n b : ℕ) → IsDrawn log n b → option_map (λ t. t.0) (numbered m.names n) ≡ Some b
  drawn_at n b h = sym (ap (λ (o : Option (ℕ × List (K × V))). option_map (λ t. t.0) o) (naming_at ek ev m log s n)) ∙ h

  at_drawn : (n b : ℕ) → option_map (λ t. t.0) (numbered m.names n) ≡ Some b → IsDrawn log n b
  at_drawn n b h = ap (λ (o : Option (ℕ × List (K × V))). option_map (λ t. t.0) o) (naming_at ek ev m log s n) ∙ h

  module _ (e : Event K V) (b w : ℕ) (is : installed ek (buckets_of m) e ≡ Some (b, w)) (h : b < buckets_of m) where
    drawn_of : DrawnRule ek ev (widest (buckets_of m)) log e → IsDrawn log (name_of w) b
    drawn_of d = subst (λ (o : Option (ℕ × ℕ)). MatchOption o ⊤ (λ t. IsDrawn log (name_of t.1) t.0)) is d

    of_drawn : IsDrawn log (name_of w) b → DrawnRule ek ev (widest (buckets_of m)) log e
    of_drawn d = subst (λ (o : Option (ℕ × ℕ)). MatchOption o ⊤ (λ t. IsDrawn log (name_of t.1) t.0)) (sym is) d

    newer_of : NewerRule ek ev (widest (buckets_of m)) log e → name_of (word ek (buckets_of m) log b) < name_of w
    newer_of d = subst (λ (o : Option (ℕ × ℕ)). MatchOption o ⊤ (λ t. name_of (word ek (buckets_of m) log t.0) < name_of t.1)) is d

    of_newer : name_of (word ek (buckets_of m) log b) < name_of w → NewerRule ek ev (widest (buckets_of m)) log e
    of_newer d = subst (λ (o : Option (ℕ × ℕ)). MatchOption o ⊤ (λ t. name_of (word ek (buckets_of m) log t.0) < name_of t.1)) (sym is) d

    stands_name : name_of (slice_index m.words b) ≡ name_of (word ek (buckets_of m) log b)
    stands_name = ap name_of (s.words b h)

    -- a word that may not be installed
    pub unfit : (rule : Rule) → PassRule ek ev (widest (buckets_of m)) log e → NumberRule ek ev (widest (buckets_of m)) log e → IsUnfit m b w rule → Breaks ek ev (widest (buckets_of m)) log e rule
    unfit NotNewer pass number u = (pass, number, of_drawn (at_drawn (name_of w) b u.0), λ d. (let n = newer_of d in let le = u.1 in let at = stands_name in absurd (omega arith)))
    unfit WrongContents pass number u = (pass, number, inl (λ d. u (drawn_at (name_of w) b (drawn_of d))))
    unfit NameUsed pass number u = absurd u
    unfit WrongPass pass number u = absurd u
    unfit Memory pass number u = absurd u

    -- one that may
    pub fit : (es : List (K × V)) → Installs m b w es → DrawnRule ek ev (widest (buckets_of m)) log e × NewerRule ek ev (widest (buckets_of m)) log e × (contents log (name_of w) ≡ es)
    fit es i = (
      of_drawn (at_drawn (name_of w) b (ap (λ (o : Option (ℕ × List (K × V))). option_map (λ t. t.0) o) i.named)),
      of_newer (let n = i.newer in let at = stands_name in omega arith),
      ap pairs_of (naming_at ek ev m log s (name_of w) ∙ i.named),
    )

  -- ---- calls

  -- the tests of the pairs tell whether they are what the operation makes of those that stand there
  module _ (op : Operation K V) (b : ℕ) (here : b ≡ bucket ek (buckets_of m) (key_of op)) (h : b < buckets_of m)
      (old : List (K × V)) (old_is : old ≡ standing_at m b) (effect : Effect K V)
      (makes : IsStrictlySortedBy (key_cmp ek) (keys_of old) → with_effect ek old effect ≡ after ek ev old op) where
    so : IsStrictlySortedBy (key_cmp ek) (keys_of old)
    so = subst (λ (es : List (K × V)). IsStrictlySortedBy (key_cmp ek) (keys_of es)) (sym old_is) (rises_there ek ev m log s b h)

    there : standing ek ev (widest (buckets_of m)) log (bucket ek (buckets_of m) (key_of op)) ≡ old
    there = ap (λ c. standing ek ev (widest (buckets_of m)) log c) (sym here) ∙ (stands_there ek ev m log s b h ∙ sym old_is)

    after_is : after ek ev (standing ek ev (widest (buckets_of m)) log (bucket ek (buckets_of m) (key_of op))) op ≡ with_effect ek old effect
    after_is = ap (λ (es : List (K × V)). after ek ev es op) there ∙ sym (makes so)

    module _ (p : ℕ) (pass : (0 < p) × (p ≤ passes_of log)) (r : Bool) where
      pub left_ok : (w : Option ℕ) → w ≡ None → (IsStrictlySortedBy (key_cmp ek) (keys_of old) → IsTrue r ↔ (with_effect ek old effect ≡ old)) → r ≡ true
          → MayFollow ek ev (widest (buckets_of m)) log (Done p op w)
      left_ok w is tells t =
          let kept = (tells so).0 t in
          subst (λ (o : Option ℕ). MayFollow ek ev (widest (buckets_of m)) log (Done p op o)) (sym is)
          (record { pass = pass; number = tt; drawn = tt; newer = tt; contents_kept = λ honest. after_is ∙ (kept ∙ sym there) })

      pub left_err : (w : Option ℕ) → w ≡ None → (IsStrictlySortedBy (key_cmp ek) (keys_of old) → IsTrue r ↔ (with_effect ek old effect ≡ old)) → r ≡ false
          → Breaks ek ev (widest (buckets_of m)) log (Done p op w) WrongContents
      left_err w is tells f =
          subst (λ (o : Option ℕ). Breaks ek ev (widest (buckets_of m)) log (Done p op o) WrongContents) (sym is)
          (pass, tt, inr (tt, tt, λ kept. (let t = (tells so).1 (sym after_is ∙ (kept refl ∙ there)) in absurd (cc (t, f)))))

    module _ (p : ℕ) (pass : (0 < p) × (p ≤ passes_of log)) (w : ℕ) (new : List (K × V)) (may : Installs m b w new) where
      installed_is : installed ek (buckets_of m) (Done p op (Some w)) ≡ Some (b, w)
      installed_is = ap (λ c. Some (c, w)) (sym here)

      pub changed_ok : (r q : Bool) → (IsStrictlySortedBy (key_cmp ek) (keys_of old) → IsTrue r ↔ (new ≡ with_effect ek old effect)) → r ≡ true
          → IsTrue q ↔ (place_of w ≡ empty_place → new ≡ []) → q ≡ true → MayFollow ek ev (widest (buckets_of m)) log (Done p op (Some w))
      changed_ok r q tells t places u =
          let f = fit (Done p op (Some w)) b w installed_is h new may in
          let is = (tells so).0 t in
          record {
            pass = pass;
            number = tt;
            drawn = f.0;
            newer = f.1;
            contents_kept = λ honest. record { same = f.2 ∙ (is ∙ sym after_is); none = λ place. after_is ∙ (sym is ∙ places.0 u place) };
          }

      -- the pairs are others
      pub changed_err : (r : Bool) → (IsStrictlySortedBy (key_cmp ek) (keys_of old) → IsTrue r ↔ (new ≡ with_effect ek old effect)) → r ≡ false
          → Breaks ek ev (widest (buckets_of m)) log (Done p op (Some w)) WrongContents
      changed_err r tells not =
          let f = fit (Done p op (Some w)) b w installed_is h new may in
          (pass, tt, inr (f.0, f.1, λ holds. (let k = holds refl in let t = (tells so).1 (sym f.2 ∙ (k.same ∙ after_is)) in absurd (cc (t, not)))))

      -- or the place isn't theirs
      pub placed_err : (q : Bool) → IsTrue q ↔ (place_of w ≡ empty_place → new ≡ []) → q ≡ false → Breaks ek ev (widest (buckets_of m)) log (Done p op (Some w)) WrongContents
      placed_err q places not =
          let f = fit (Done p op (Some w)) b w installed_is h new may in
          (pass, tt, inr (f.0, f.1, λ holds. (let k = holds refl in let t = places.1 (λ place. sym f.2 ∙ (k.same ∙ k.none place)) in absurd (cc (t, not)))))

  -- ---- moves

  module _ (b w : ℕ) where
    pub outside : buckets_of m ≤ b → Breaks ek ev (widest (buckets_of m)) log (Moved b w) WrongContents
    outside h = (tt, tt, inl (λ d. (let k = drawn_within ek ev (widest (buckets_of m)) log s.lawful (name_of w) b d in absurd (omega (arith, k)))))

    module _ (h : b < buckets_of m) (new : List (K × V)) (may : Installs m b w new) where
      pub move_ok : (r q : Bool) → IsTrue r ↔ (new ≡ standing_at m b) → r ≡ true → IsTrue q ↔ (place_of w ≡ empty_place → new ≡ []) → q ≡ true
          → MayFollow ek ev (widest (buckets_of m)) log (Moved b w)
      move_ok r q same t places u =
          let f = fit (Moved b w) b w refl h new may in
          let there = stands_there ek ev m log s b h in
          let is = same.0 t in
          record {
            pass = tt;
            number = tt;
            drawn = f.0;
            newer = f.1;
            contents_kept = (h, λ honest. record { same = f.2 ∙ (is ∙ sym there); none = λ place. there ∙ (sym is ∙ places.0 u place) });
          }

      pub move_err : (r : Bool) → IsTrue r ↔ (new ≡ standing_at m b) → r ≡ false → Breaks ek ev (widest (buckets_of m)) log (Moved b w) WrongContents
      move_err r same not =
          let f = fit (Moved b w) b w refl h new may in
          let there = stands_there ek ev m log s b h in
          (tt, tt, inr (f.0, f.1, λ holds. (let k = holds.1 refl in let t = same.1 (sym f.2 ∙ (k.same ∙ there)) in absurd (cc (t, not)))))

      pub move_place_err : (q : Bool) → IsTrue q ↔ (place_of w ≡ empty_place → new ≡ []) → q ≡ false → Breaks ek ev (widest (buckets_of m)) log (Moved b w) WrongContents
      move_place_err q places not =
          let f = fit (Moved b w) b w refl h new may in
          (tt, tt, inr (f.0, f.1, λ holds. (let k = holds.1 refl in let t = places.1 (λ place. sym f.2 ∙ (k.same ∙ k.none place)) in absurd (cc (t, not)))))

  -- ---- names

  pub names_ok : (b : ℕ) (es : List (K × V)) → names_of log < last_name → b < buckets_of m → AreContents ek (buckets_of m) b es → MayFollow ek ev (widest (buckets_of m)) log (Named (names_of log + 1) b es)
  names_ok b es few h are = record { pass = tt; number = (refl, omega arith); drawn = tt; newer = tt; contents_kept = (h, λ honest. are) }

  pub names_err : (b : ℕ) (es : List (K × V)) → names_of log < last_name → ((b < buckets_of m) × AreContents ek (buckets_of m) b es → ⊥) → Breaks ek ev (widest (buckets_of m)) log (Named (names_of log + 1) b es) WrongContents
  names_err b es few not = (tt, (refl, omega arith), inr (tt, tt, λ c. not (c.0, c.1 refl)))
