-- What a call on the plain table does to the log.
use Rattle.std.proofs.Common.{◌≡◌, ℕ, ◌+◌, ◌<◌, ◌≤◌, ◌==◌, Bool, true, false, cond, List, [], ◌∷◌, ◌++◌, Option, Some, None, refl, ap, sym, ◌∙◌, subst, arith, option_map, inl, inr}
use Rattle.std.proofs.lemmas.Bool.Decides.{nat_tests}
use Rattle.std.proofs.lemmas.List.Elements.{All-nil, All-cons}
use Rattle.std.specs.List.{All}
use Rattle.std.specs.List.Sorted.{IsStrictlySortedBy}
use Rattle.std.specs.Map.{keys_of}
use Rattle.far_object.specs.Buckets.{key_cmp, bucket}
use Rattle.table_core.specs.declared.event.Event.{Event}
use Rattle.table_core.specs.declared.event.Event.TheVariants.{Named, Done}
use Rattle.table_core.specs.declared.fault.Rule.{Rule}
use Rattle.table_core.specs.declared.fault.Rule.TheVariants.{NameUsed, NotNewer, WrongContents, WrongPass, Memory}
use Rattle.table_core.specs.declared.limits.Limits.{Limits}
use Rattle.table_core.specs.declared.operation.Operation.{Operation}
use Rattle.table_core.specs.BucketWords.{name_of, place_of, empty_place}
use Rattle.table_core.specs.Limits.{last_name}
use Rattle.table_core.specs.Maps.{key_of, at_bucket, after, map_of}
use Rattle.table_core.specs.Logs.{history, passes_of, names_of, naming, contents, pairs_of, word}
use Rattle.table_core.specs.Lawful.{AreContents, standing, MayFollow, IsLawful, widest}
use Rattle.table_core.specs.Machines.{Breaks}
use Rattle.table_core.proofs.Logs.{passes-append, names-append, naming-append, word-more, names_below, words_below, naming_kept}
use Rattle.far_object.proofs.Rising.{rising_filter}
use Rattle.table_core.proofs.Maps.{after_here, rising_after}
use Rattle.table_core.proofs.Keys.{rising}
use Rattle.table_core.proofs.Histories.{agree}

-- an event that may follow breaks no rule
pub unbroken : {K V : Type 0} (ek : K → List ℕ) (ev : V → List ℕ) (l : Limits) (log : List (Event K V)) (e : Event K V) (rule : Rule) → MayFollow ek ev l log e → Breaks ek ev l log e rule → rule ≡ Memory
unbroken ek ev l log e NameUsed may b = absurd (b.1 may.number)
unbroken ek ev l log e NotNewer may b = absurd (b.3 may.newer)
unbroken ek ev l log e WrongContents may b = elim b.2 [ inl n ↦ absurd (n may.drawn) | inr n ↦ absurd (n.2 may.contents_kept) ]
unbroken ek ev l log e WrongPass may b = absurd (b may.pass)
unbroken ek ev l log e Memory may b = refl

module _ {K V : Type 0} (ek : K → List ℕ) (buckets : ℕ) where
  all_here : (b : ℕ) (es : List (K × V)) → All (λ k. bucket ek buckets k ≡ b) (keys_of (at_bucket ek buckets b es))
  all_here b [] = All-nil (λ k. bucket ek buckets k ≡ b)
  all_here b (e ∷ es) = go (all_here b es) (bucket ek buckets e.0 == b) refl
    where
      go : All (λ k. bucket ek buckets k ≡ b) (keys_of (at_bucket ek buckets b es)) → (c : Bool) → (bucket ek buckets e.0 == b) ≡ c
          → All (λ k. bucket ek buckets k ≡ b) (keys_of (cond c (e ∷ at_bucket ek buckets b es) (at_bucket ek buckets b es)))
      go next true is = let same : bucket ek buckets e.0 ≡ b = grind (arith, nat_tests) in All-cons (λ k. bucket ek buckets k ≡ b) e.0 (keys_of (at_bucket ek buckets b es)) same next
      go next false is = next

  -- one bucket of a sorted list is contents of that bucket
  pub part_fits : (b : ℕ) (es : List (K × V)) → IsStrictlySortedBy (key_cmp ek) (keys_of es) → AreContents ek buckets b (at_bucket ek buckets b es)
  part_fits b es so = record { here = all_here b es; rising = rising_filter ek (λ k. bucket ek buckets k == b) es so }

module _ {K V : Type 0} (ek : K → List ℕ) (ev : V → List ℕ) (buckets : ℕ) (log : List (Event K V)) (lawful : IsLawful ek ev (widest buckets) log) where
  -- what an operation makes of the contents of its bucket is that bucket of the map behind it
  pub after_standing : (o : Operation K V) → after ek ev (standing ek ev (widest buckets) log (bucket ek buckets (key_of o))) o
      ≡ at_bucket ek buckets (bucket ek buckets (key_of o)) (after ek ev (map_of ek ev (history log)) o)
  after_standing o =
      ap (λ (m : List (K × V)). after ek ev m o) (agree ek ev (widest buckets) refl log lawful (bucket ek buckets (key_of o)))
      ∙ after_here ek ev buckets (bucket ek buckets (key_of o)) o (map_of ek ev (history log)) refl (rising ek ev (history log))

  pub after_fits : (o : Operation K V) → AreContents ek buckets (bucket ek buckets (key_of o)) (after ek ev (standing ek ev (widest buckets) log (bucket ek buckets (key_of o))) o)
  after_fits o =
      subst (λ (es : List (K × V)). AreContents ek buckets (bucket ek buckets (key_of o)) es) (sym (after_standing o))
      (part_fits ek buckets (bucket ek buckets (key_of o)) (after ek ev (map_of ek ev (history log)) o) (rising_after ek ev o (map_of ek ev (history log)) (rising ek ev (history log))))

  -- the next name for contents of a bucket may be drawn
  pub may_name : (b : ℕ) (es : List (K × V)) → names_of log < last_name → b < buckets → AreContents ek buckets b es → MayFollow ek ev (widest buckets) log (Named (names_of log + 1) b es)
  may_name b es room here fits = record { pass = tt; number = (refl, omega arith); drawn = tt; newer = tt; contents_kept = (here, λ _. fits) }

  -- a call that changes nothing may be done without a word
  pub may_check : (p : ℕ) (o : Operation K V) → 0 < p → p ≤ passes_of log
      → after ek ev (standing ek ev (widest buckets) log (bucket ek buckets (key_of o))) o ≡ standing ek ev (widest buckets) log (bucket ek buckets (key_of o))
      → MayFollow ek ev (widest buckets) log (Done p o None)
  may_check p o some entered same = record { pass = (some, entered); number = tt; drawn = tt; newer = tt; contents_kept = λ _. same }

  module _ (b : ℕ) (es : List (K × V)) (named : IsLawful ek ev (widest buckets) (log ++ Named (names_of log + 1) b es ∷ [])) where
    -- the name is new
    fresh : naming log (names_of log + 1) ≡ None
    fresh = go (naming log (names_of log + 1)) refl
      where
        go : (x : Option (ℕ × List (K × V))) → naming log (names_of log + 1) ≡ x → x ≡ None
        go None is = refl
        go (Some t) is =
            let below = names_below ek ev (widest buckets) log lawful (names_of log + 1) t.0 (ap (λ (x : Option (ℕ × List (K × V))). option_map (λ t. t.0) x) is) in
            absurd (omega arith)

    drawn : naming (log ++ Named (names_of log + 1) b es ∷ []) (names_of log + 1) ≡ Some (b, es)
    drawn =
        let same : ((names_of log + 1) == (names_of log + 1)) ≡ true = grind (arith, nat_tests) in
        naming-append log (Named (names_of log + 1) b es ∷ []) (names_of log + 1) ∙ rw (fresh, same) refl

    -- a naming leaves what stands
    pub still_standing : (c : ℕ) → standing ek ev (widest buckets) (log ++ Named (names_of log + 1) b es ∷ []) c ≡ standing ek ev (widest buckets) log c
    still_standing c =
        ap (λ (w : ℕ). contents (log ++ Named (names_of log + 1) b es ∷ []) (name_of w)) (word-more ek ev (widest buckets) log (Named (names_of log + 1) b es) c)
        ∙ ap pairs_of (naming_kept ek ev (widest buckets) log (log ++ Named (names_of log + 1) b es ∷ []) (name_of (word ek buckets log c)) named (Named (names_of log + 1) b es ∷ [], refl) (words_below ek ev (widest buckets) log c lawful))

    -- the word of the new name may be installed by a call that makes its contents
    pub may_install : (p : ℕ) (o : Operation K V) (w : ℕ) → 0 < p → p ≤ passes_of log → bucket ek buckets (key_of o) ≡ b → name_of w ≡ names_of log + 1 → (place_of w ≡ empty_place → es ≡ [])
        → es ≡ after ek ev (standing ek ev (widest buckets) log b) o → MayFollow ek ev (widest buckets) (log ++ Named (names_of log + 1) b es ∷ []) (Done p o (Some w))
    may_install p o w some entered key name place es_is = record {
      pass = (some, omega (arith, passes-append log (Named (names_of log + 1) b es ∷ [])));
      number = tt;
      drawn = rw (name, key, drawn) refl;
      newer =
          let low = words_below ek ev (widest buckets) log (bucket ek buckets (key_of o)) lawful in
          let more = word-more ek ev (widest buckets) log (Named (names_of log + 1) b es) (bucket ek buckets (key_of o)) in
          rw (more, name) (omega arith);
      contents_kept = λ _. record {
        same = rw (name, drawn) (es_is ∙ ap (λ (m : List (K × V)). after ek ev m o) (sym (still_standing b)) ∙ ap (λ (c : ℕ). after ek ev (standing ek ev (widest buckets) (log ++ Named (names_of log + 1) b es ∷ []) c) o) (sym key));
        none = λ e. sym (es_is ∙ ap (λ (m : List (K × V)). after ek ev m o) (sym (still_standing b)) ∙ ap (λ (c : ℕ). after ek ev (standing ek ev (widest buckets) (log ++ Named (names_of log + 1) b es ∷ []) c) o) (sym key)) ∙ place e;
      };
    }

    -- the installed contents stand in their bucket, and what stood in others stays
    pub standing_more : (p : ℕ) (o : Operation K V) (w : ℕ) → bucket ek buckets (key_of o) ≡ b → name_of w ≡ names_of log + 1
        → IsLawful ek ev (widest buckets) ((log ++ Named (names_of log + 1) b es ∷ []) ++ Done p o (Some w) ∷ []) → (c : ℕ)
        → standing ek ev (widest buckets) ((log ++ Named (names_of log + 1) b es ∷ []) ++ Done p o (Some w) ∷ []) c ≡ cond (b == c) es (standing ek ev (widest buckets) log c)
    standing_more p o w key name done c =
        ap (λ (x : ℕ). contents (((log ++ Named (names_of log + 1) b es ∷ [])) ++ Done p o (Some w) ∷ []) (name_of x)) (word-more ek ev (widest buckets) (log ++ Named (names_of log + 1) b es ∷ []) (Done p o (Some w)) c)
        ∙ rw key (go (b == c))
      where
        go : (q : Bool) → contents ((log ++ Named (names_of log + 1) b es ∷ []) ++ Done p o (Some w) ∷ []) (name_of (cond q w (word ek buckets (log ++ Named (names_of log + 1) b es ∷ []) c))) ≡ cond q es (standing ek ev (widest buckets) log c)
        go true =
            rw name
            (ap pairs_of (naming_kept ek ev (widest buckets) (log ++ Named (names_of log + 1) b es ∷ []) ((log ++ Named (names_of log + 1) b es ∷ []) ++ Done p o (Some w) ∷ []) (names_of log + 1) done (Done p o (Some w) ∷ [], refl) (omega (arith, names-append log (Named (names_of log + 1) b es ∷ []))))
            ∙ ap pairs_of drawn)
        go false =
            ap pairs_of (naming_kept ek ev (widest buckets) (log ++ Named (names_of log + 1) b es ∷ []) ((log ++ Named (names_of log + 1) b es ∷ []) ++ Done p o (Some w) ∷ []) (name_of (word ek buckets (log ++ Named (names_of log + 1) b es ∷ []) c)) done (Done p o (Some w) ∷ [], refl) (words_below ek ev (widest buckets) (log ++ Named (names_of log + 1) b es ∷ []) c named))
            ∙ still_standing c
        -- and a call without a word leaves what stands

  pub standing_checked : (p : ℕ) (o : Operation K V) → IsLawful ek ev (widest buckets) (log ++ Done p o None ∷ []) → (c : ℕ) → standing ek ev (widest buckets) (log ++ Done p o None ∷ []) c ≡ standing ek ev (widest buckets) log c
  standing_checked p o done c =
      ap (λ (w : ℕ). contents (log ++ Done p o None ∷ []) (name_of w)) (word-more ek ev (widest buckets) log (Done p o None) c)
      ∙ ap pairs_of (naming_kept ek ev (widest buckets) log (log ++ Done p o None ∷ []) (name_of (word ek buckets log c)) done (Done p o None ∷ [], refl) (words_below ek ev (widest buckets) log c lawful))
