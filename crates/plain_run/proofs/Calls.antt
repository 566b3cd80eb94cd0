-- What a call does to the plain table.
use Rattle.std.proofs.Common.{zero, suc, ◌≡◌, ◌≢◌, ℕ, ◌+◌, ◌<◌, ◌≤◌, ◌==◌, Bool, true, false, not, cond, List, [], ◌∷◌, ◌++◌, Option, Some, None, Ok, Err, length, get_or, refl, ap, sym, ◌∙◌, subst, arith, IsTrue, get_or-set_same, get_or-set_other}
use Rattle.std.proofs.lemmas.Bool.Decides.{nat_tests}
use Rattle.std.proofs.lemmas.List.{append-nil}
use Rattle.std.proofs.Math.ListN.{set, length-set}
use Rattle.std.specs.Map.{lookup}
use Rattle.std.specs.BTreeMap.{is_at}
use Rattle.far_object.specs.Encodings.{enc_text}
use Rattle.far_object.specs.Buckets.{key_cmp, bucket}
use Rattle.far_object.specs.Objects.{object_of, cut}
use Rattle.table_core.specs.declared.event.Event.TheVariants.{Enter, Named, Done}
use Rattle.table_core.specs.declared.fault.Rule.{Rule}
use Rattle.table_core.specs.declared.fault.Rule.TheVariants.{Memory}
use Rattle.table_core.specs.declared.operation.Operation.{Operation}
use Rattle.table_core.specs.declared.operation.Operation.TheVariants as op
use Rattle.table_core.specs.Maps.{key_of, value_at, at_bucket, is_met, after, map_of}
use Rattle.table_core.specs.Logs.{history, names_of}
use Rattle.table_core.specs.Lawful.{AreContents, standing, IsLawful, widest}
use Rattle.table_core.specs.Machines.{MachineView, buckets_of, StandsAt, Breaks, Answers, GoesOn}
use Rattle.table_core.proofs.Logs.{history-append, passes-append, names-append}
use Rattle.table_core.proofs.Histories.{answer}
use Rattle.table_core.proofs.Installing.{unbroken, after_standing, after_fits, may_check, still_standing, may_install, standing_more, standing_checked}
use Rattle.run_lines.specs.declared.refusal.LineRefusal.{LineRefusal}
use Rattle.run_lines.specs.declared.refusal.LineRefusal.TheVariants as refusal
use Rattle.plain_run.specs.declared.table.PlainTable.{PlainTable}
use Rattle.run_lines.specs.Calls.{Texts, Asked, sets, IsTooLong}
use Rattle.plain_run.specs.Tables.{Log, IsDrawnWord, object_in, IsAt, IsUnmade, Makes, IsWhy, CallEnds}

-- ---- a key that is not there

pub cut_absent : (k : List ℕ) (es : Texts) → lookup (is_at (key_cmp enc_text k)) es ≡ None → cut (key_cmp enc_text) k es ≡ es
cut_absent k [] h = refl
cut_absent k (e ∷ es) h = go (λ n. cut_absent k es n) (is_at (key_cmp enc_text k) e.0) h
  where
    go : (lookup (is_at (key_cmp enc_text k)) es ≡ None → cut (key_cmp enc_text) k es ≡ es) → (c : Bool) → cond c (Some e.1) (lookup (is_at (key_cmp enc_text k)) es) ≡ None
        → cond (not c) (e ∷ cut (key_cmp enc_text) k es) (cut (key_cmp enc_text) k es) ≡ e ∷ es
    go next true n = absurd cc
    go next false n = ap (λ (z : Texts). e ∷ z) (next n)

-- ---- the places of a list

set_same : (xs : List Texts) (b : ℕ) (x : Texts) → b < length xs → get_or (set xs b x) b [] ≡ x
set_same xs b x h = rw get_or-set_same refl

set_other : (xs : List Texts) (b c : ℕ) (x : Texts) → b ≢ c → get_or (set xs b x) c [] ≡ get_or xs c []
set_other xs b c x h = let flip : c ≢ b = λ e. h (sym e) in rw get_or-set_other refl

module _ (t : PlainTable) (log : Log) (at : IsAt t log) where
  -- ---- a call without a word

  pub refused : (o : Asked) (why : LineRefusal) → IsWhy (buckets_of t.machine) t.limit (map_of enc_text enc_text (history log)) o why → CallEnds t t log o (Err why)
  refused o why is = record { later = log; stands = at; buckets = refl; limit = refl; names = omega arith; went = (refl, is) }

  pub checked : (m : MachineView (List ℕ) (List ℕ)) (o : Asked) (reply : Option (List ℕ)) → Answers enc_text enc_text t.machine m log 1 o None reply
      → (IsTooLong (buckets_of t.machine) t.limit (map_of enc_text enc_text (history log)) o → ⊥)
      → CallEnds t (record { machine = m; objects = t.objects; limit = t.limit }) log o (Ok reply)
  checked m o reply a fits =
      let same : buckets_of m ≡ buckets_of t.machine = a.goes_on.buckets in
      let lawful : IsLawful enc_text enc_text (widest (buckets_of t.machine)) (log ++ Done 1 o None ∷ []) = subst (λ (n : ℕ). IsLawful enc_text enc_text (widest n) (log ++ Done 1 o None ∷ [])) same a.goes_on.stands.lawful in
      record {
        later = log ++ Done 1 o None ∷ [];
        stands = record {
          machine = a.goes_on.stands;
          sized = at.sized ∙ sym same;
          objects = λ b lt.
              at.objects b (subst (λ (n : ℕ). b < n) same lt)
              ∙ sym (subst (λ (n : ℕ). standing enc_text enc_text (widest n) (log ++ Done 1 o None ∷ []) b ≡ standing enc_text enc_text (widest (buckets_of t.machine)) log b) (sym same) (standing_checked enc_text enc_text (buckets_of t.machine) log at.machine.lawful 1 o lawful b));
          entered = omega (arith, at.entered, passes-append log (Done 1 o None ∷ []));
          limited = at.limited;
        };
        buckets = same;
        limit = refl;
        names = omega (arith, names-append log (Done 1 o None ∷ []));
        went = (history-append log (Done 1 o None ∷ []), a.answered, fits);
      }

  -- a call that changes nothing is refused for memory alone
  pub check_refused : (o : Asked) (b : ℕ) (rule : Rule) → b ≡ bucket enc_text (buckets_of t.machine) (key_of o) → b < buckets_of t.machine
      → after enc_text enc_text (object_in t.objects.items b) o ≡ object_in t.objects.items b → Breaks enc_text enc_text (widest (buckets_of t.machine)) log (Done 1 o None) rule → rule ≡ Memory
  check_refused o b rule is lt same breaks =
      let e : object_in t.objects.items b ≡ standing enc_text enc_text (widest (buckets_of t.machine)) log (bucket enc_text (buckets_of t.machine) (key_of o)) = at.objects b lt ∙ ap (λ (c : ℕ). standing enc_text enc_text (widest (buckets_of t.machine)) log c) is in
      let kept = subst (λ (es : Texts). after enc_text enc_text es o ≡ es) e same in
      unbroken enc_text enc_text (widest (buckets_of t.machine)) log (Done 1 o None) rule (may_check enc_text enc_text (buckets_of t.machine) log at.machine.lawful 1 o (omega arith) at.entered kept) breaks

  -- ---- a call that installs an object

  module _ (o : Asked) (b : ℕ) (es : Texts) (is : b ≡ bucket enc_text (buckets_of t.machine) (key_of o)) (lt : b < buckets_of t.machine) (es_is : es ≡ after enc_text enc_text (object_in t.objects.items b) o) where
    es_standing : es ≡ after enc_text enc_text (standing enc_text enc_text (widest (buckets_of t.machine)) log b) o
    es_standing = es_is ∙ ap (λ (m : Texts). after enc_text enc_text m o) (at.objects b lt)

    es_map : es ≡ at_bucket enc_text (buckets_of t.machine) (bucket enc_text (buckets_of t.machine) (key_of o)) (after enc_text enc_text (map_of enc_text enc_text (history log)) o)
    es_map =
        es_standing
        ∙ ap (λ (c : ℕ). after enc_text enc_text (standing enc_text enc_text (widest (buckets_of t.machine)) log c) o) is
        ∙ after_standing enc_text enc_text (buckets_of t.machine) log at.machine.lawful o

    pub is_contents : AreContents enc_text (buckets_of t.machine) b es
    is_contents =
        let P : ℕ → Type 0 = λ c. AreContents enc_text (buckets_of t.machine) c (after enc_text enc_text (standing enc_text enc_text (widest (buckets_of t.machine)) log c) o) in
        let fits : P b = subst P (sym is) (after_fits enc_text enc_text (buckets_of t.machine) log at.machine.lawful o) in
        subst (λ (x : Texts). AreContents enc_text (buckets_of t.machine) b x) (sym es_standing) fits

    -- the length tells whether the call is too long
    pub too_long : IsTrue (sets (map_of enc_text enc_text (history log)) o) → t.limit < length (object_of enc_text enc_text es) → IsTooLong (buckets_of t.machine) t.limit (map_of enc_text enc_text (history log)) o
    too_long so longer = record { sets = so; longer = subst (λ (x : Texts). t.limit < length (object_of enc_text enc_text x)) es_map longer }

    pub not_long : length (object_of enc_text enc_text es) ≤ t.limit → IsTooLong (buckets_of t.machine) t.limit (map_of enc_text enc_text (history log)) o → ⊥
    not_long short h =
        let s : length (object_of enc_text enc_text (at_bucket enc_text (buckets_of t.machine) (bucket enc_text (buckets_of t.machine) (key_of o)) (after enc_text enc_text (map_of enc_text enc_text (history log)) o))) ≤ t.limit =
        subst (λ (x : Texts). length (object_of enc_text enc_text x) ≤ t.limit) es_map short in
        let n = h.longer in
        omega (arith, s, n)

    module _ (m : MachineView (List ℕ) (List ℕ)) (named : GoesOn enc_text enc_text t.machine m log (Named (names_of log + 1) b es)) where
      buckets_same : buckets_of m ≡ buckets_of t.machine
      buckets_same = named.buckets

      named_lawful : IsLawful enc_text enc_text (widest (buckets_of t.machine)) (log ++ Named (names_of log + 1) b es ∷ [])
      named_lawful = subst (λ (n : ℕ). IsLawful enc_text enc_text (widest n) (log ++ Named (names_of log + 1) b es ∷ [])) named.buckets named.stands.lawful

      -- the name was drawn in vain
      pub drawn_in_vain : CallEnds t (record { machine = m; objects = t.objects; limit = t.limit }) log o (Err refusal.Memory)
      drawn_in_vain = record {
        later = log ++ Named (names_of log + 1) b es ∷ [];
        stands = record {
          machine = named.stands;
          sized = at.sized ∙ sym named.buckets;
          objects = λ c h.
              at.objects c (subst (λ (n : ℕ). c < n) named.buckets h)
              ∙ sym (subst (λ (n : ℕ). standing enc_text enc_text (widest n) (log ++ Named (names_of log + 1) b es ∷ []) c ≡ standing enc_text enc_text (widest (buckets_of t.machine)) log c) (sym named.buckets) (still_standing enc_text enc_text (buckets_of t.machine) log at.machine.lawful b es named_lawful c));
          entered = omega (arith, at.entered, passes-append log (Named (names_of log + 1) b es ∷ []));
          limited = at.limited;
        };
        buckets = named.buckets;
        limit = refl;
        names = omega (arith, names-append log (Named (names_of log + 1) b es ∷ []));
        went = (history-append log (Named (names_of log + 1) b es ∷ []) ∙ append-nil (history log), tt);
      }

      module _ (w : ℕ) (word : IsDrawnWord log es w) where
        -- the machine refuses the word for memory alone
        pub install_refused : (rule : Rule) → Breaks enc_text enc_text (widest (buckets_of m)) (log ++ Named (names_of log + 1) b es ∷ []) (Done 1 o (Some w)) rule → rule ≡ Memory
        install_refused rule breaks =
            unbroken enc_text enc_text (widest (buckets_of t.machine)) (log ++ Named (names_of log + 1) b es ∷ []) (Done 1 o (Some w)) rule
            (may_install enc_text enc_text (buckets_of t.machine) log at.machine.lawful b es named_lawful 1 o w (omega arith) at.entered (sym is) word.name word.empty es_standing)
            (subst (λ (n : ℕ). Breaks enc_text enc_text (widest n) (log ++ Named (names_of log + 1) b es ∷ []) (Done 1 o (Some w)) rule) named.buckets breaks)

        pub installed : (last : MachineView (List ℕ) (List ℕ)) (reply : Option (List ℕ)) → Answers enc_text enc_text m last (log ++ Named (names_of log + 1) b es ∷ []) 1 o (Some w) reply
            → (IsTooLong (buckets_of t.machine) t.limit (map_of enc_text enc_text (history log)) o → ⊥)
            → (new : PlainTable) → new.machine ≡ last → new.limit ≡ t.limit → new.objects.items ≡ set t.objects.items b es → CallEnds t new log o (Ok reply)
        installed last reply a fits new machine_is limit_is objects_is =
            let same : buckets_of new.machine ≡ buckets_of t.machine = ap (λ (x : MachineView (List ℕ) (List ℕ)). buckets_of x) machine_is ∙ (a.goes_on.buckets ∙ named.buckets) in
            let all : Log = (log ++ Named (names_of log + 1) b es ∷ []) ++ Done 1 o (Some w) ∷ [] in
            let stands : StandsAt enc_text enc_text new.machine ((log ++ Named (names_of log + 1) b es ∷ []) ++ Done 1 o (Some w) ∷ []) =
            subst (λ (x : MachineView (List ℕ) (List ℕ)). StandsAt enc_text enc_text x ((log ++ Named (names_of log + 1) b es ∷ []) ++ Done 1 o (Some w) ∷ [])) (sym machine_is) a.goes_on.stands in
            let lawful : IsLawful enc_text enc_text (widest (buckets_of t.machine)) ((log ++ Named (names_of log + 1) b es ∷ []) ++ Done 1 o (Some w) ∷ []) =
            subst (λ (n : ℕ). IsLawful enc_text enc_text (widest n) ((log ++ Named (names_of log + 1) b es ∷ []) ++ Done 1 o (Some w) ∷ [])) same stands.lawful in
            let h1 = history-append log (Named (names_of log + 1) b es ∷ []) ∙ append-nil (history log) in
            record {
              later = (log ++ Named (names_of log + 1) b es ∷ []) ++ Done 1 o (Some w) ∷ [];
              stands = record {
                machine = stands;
                sized = ap length objects_is ∙ (length-set t.objects.items b es ∙ (at.sized ∙ sym same));
                objects = λ c h.
                    subst (λ (n : ℕ). object_in new.objects.items c ≡ standing enc_text enc_text (widest n) ((log ++ Named (names_of log + 1) b es ∷ []) ++ Done 1 o (Some w) ∷ []) c) (sym same)
                    (ap (λ (xs : List Texts). get_or xs c []) objects_is ∙ (place c (subst (λ (n : ℕ). c < n) same h) (b == c) refl ∙ sym (standing_more enc_text enc_text (buckets_of t.machine) log at.machine.lawful b es named_lawful 1 o w (sym is) word.name lawful c)));
                entered = omega (arith, at.entered, passes-append (log ++ Named (names_of log + 1) b es ∷ []) (Done 1 o (Some w) ∷ []), passes-append log (Named (names_of log + 1) b es ∷ []));
                limited = omega (arith, limit_is, at.limited);
              };
              buckets = same;
              limit = limit_is;
              names = omega (arith, names-append (log ++ Named (names_of log + 1) b es ∷ []) (Done 1 o (Some w) ∷ []), names-append log (Named (names_of log + 1) b es ∷ []));
              went = (
                history-append (log ++ Named (names_of log + 1) b es ∷ []) (Done 1 o (Some w) ∷ []) ∙ ap (λ (h : List (ℕ × Operation (List ℕ) (List ℕ))). h ++ (1, o) ∷ []) h1,
                a.answered ∙ ap (λ (h : List (ℕ × Operation (List ℕ) (List ℕ))). value_at enc_text (key_of o) (map_of enc_text enc_text h)) h1,
                fits,
              );
            }
          where
            place : (c : ℕ) → c < buckets_of t.machine → (q : Bool) → (b == c) ≡ q → get_or (set t.objects.items b es) c [] ≡ cond (b == c) es (standing enc_text enc_text (widest (buckets_of t.machine)) log c)
            place c h true q =
                let same : b ≡ c = grind (arith, nat_tests) in
                rw q (subst (λ (x : ℕ). get_or (set t.objects.items b es) x [] ≡ es) same (set_same t.objects.items b es (omega (arith, at.sized))))
            place c h false q =
                let other : b ≢ c = grind (arith, nat_tests) in
                rw q (set_other t.objects.items b c es other ∙ at.objects c h)

-- ---- as the calls find it

-- the bucket of the operation's key, and that it is one of the table's
pub found : (b n m : ℕ) (k : List ℕ) (o : Asked) → b ≡ bucket enc_text n k → k ≡ key_of o → n ≡ m → 0 < n → (b ≡ bucket enc_text m (key_of o)) × (b < m)
found b n m k o is key same some =
    let here : b ≡ bucket enc_text m (key_of o) = is ∙ (ap (λ (x : List ℕ). bucket enc_text n x) key ∙ ap (λ (x : ℕ). bucket enc_text x (key_of o)) same) in
    let some_of : 0 < m = omega arith in
    (here, rw here (omega arith))

-- the machine refused the word, and the name was drawn in vain
pub vain_same : (t : PlainTable) (log : Log) (at : IsAt t log) (o : Asked) (b : ℕ) (es : Texts) (is : b ≡ bucket enc_text (buckets_of t.machine) (key_of o)) (lt : b < buckets_of t.machine)
    → es ≡ after enc_text enc_text (object_in t.objects.items b) o → (m : MachineView (List ℕ) (List ℕ)) → GoesOn enc_text enc_text t.machine m log (Named (names_of log + 1) b es)
    → (last : MachineView (List ℕ) (List ℕ)) → last ≡ m → (why : LineRefusal) → why ≡ refusal.Memory → CallEnds t (record { machine = last; objects = t.objects; limit = t.limit }) log o (Err why)
vain_same t log at o b es is lt es_is m named last same why memory =
    subst (λ (w : LineRefusal). CallEnds t (record { machine = last; objects = t.objects; limit = t.limit }) log o (Err w)) (sym memory)
    (subst (λ (x : MachineView (List ℕ) (List ℕ)). CallEnds t (record { machine = x; objects = t.objects; limit = t.limit }) log o (Err refusal.Memory)) (sym same) (drawn_in_vain t log at o b es is lt es_is m named))

-- ---- as the call finds it

-- a key has the value in its bucket's object that it has in the map
value_same : (t : PlainTable) (log : Log) (at : IsAt t log) (k : List ℕ) (b : ℕ) → b ≡ bucket enc_text (buckets_of t.machine) k → b < buckets_of t.machine
    → value_at enc_text k (object_in t.objects.items b) ≡ value_at enc_text k (map_of enc_text enc_text (history log))
value_same t log at k b is lt =
    ap (λ (m : Texts). value_at enc_text k m) (at.objects b lt ∙ ap (λ (c : ℕ). standing enc_text enc_text (widest (buckets_of t.machine)) log c) is)
    ∙ answer enc_text enc_text (widest (buckets_of t.machine)) refl log at.machine.lawful k

-- so an operation sets its key there where it does in the map
sets_same : (t : PlainTable) (log : Log) (at : IsAt t log) (o : Asked) (b : ℕ) → b ≡ bucket enc_text (buckets_of t.machine) (key_of o) → b < buckets_of t.machine
    → sets (object_in t.objects.items b) o ≡ sets (map_of enc_text enc_text (history log)) o
sets_same t log at (op.Put k v) b is lt = refl
sets_same t log at (op.Get k) b is lt = refl
sets_same t log at (op.Remove k) b is lt = refl
sets_same t log at (op.PutIf k expected v) b is lt = ap (λ (o : Option (List ℕ)). is_met enc_text expected o) (value_same t log at k b is lt)

-- what does not set its key is never too long
pub no_set : (buckets limit : ℕ) (m : Texts) (o : Asked) → sets m o ≡ false → IsTooLong buckets limit m o → ⊥
no_set buckets limit m o so h = let s = h.sets in cc

module _ (t : PlainTable) (log : Log) (at : IsAt t log) (o : Asked) (b : ℕ) (is : b ≡ bucket enc_text (buckets_of t.machine) (key_of o)) (lt : b < buckets_of t.machine) where
  -- the object could not be made
  pub unmade : (why : LineRefusal) → IsUnmade t.limit (object_in t.objects.items b) o why → CallEnds t t log o (Err why)
  unmade refusal.TooLong h =
      let so : IsTrue (sets (map_of enc_text enc_text (history log)) o) = sym (sets_same t log at o b is lt) ∙ h.0 in
      refused t log at o refusal.TooLong (too_long t log at o b _ is lt refl so h.1)
  unmade refusal.Memory h = refused t log at o refusal.Memory tt
  unmade _ h = absurd h

  -- no object is made, and no call is too long
  pub unchanged_fits : sets (object_in t.objects.items b) o ≡ false → IsTooLong (buckets_of t.machine) t.limit (map_of enc_text enc_text (history log)) o → ⊥
  unchanged_fits so = no_set (buckets_of t.machine) t.limit (map_of enc_text enc_text (history log)) o (sym (sets_same t log at o b is lt) ∙ so)

  -- the object that was made is not too long
  pub changed_fits : (es : Texts) → es ≡ after enc_text enc_text (object_in t.objects.items b) o → (IsTrue (sets (object_in t.objects.items b) o) → length (object_of enc_text enc_text es) ≤ t.limit)
      → IsTooLong (buckets_of t.machine) t.limit (map_of enc_text enc_text (history log)) o → ⊥
  changed_fits es es_is short h = not_long t log at o b es is lt es_is (short (sets_same t log at o b is lt ∙ h.sets)) h

-- ---- the objects that are made

-- a key that is not there
pub absent : (limit : ℕ) (es : Texts) (k : List ℕ) → lookup (is_at (key_cmp enc_text k)) es ≡ None → Makes limit es (op.Remove k) (Ok None)
absent limit es k none = (cut_absent k es none, refl, tt)

-- ---- a table that was opened

-- one more object without a pair
pub still_empty : (xs ys : List Texts) (x : Texts) → ys ≡ xs ++ x ∷ [] → x ≡ [] → ((b : ℕ) → get_or xs b [] ≡ []) → (b : ℕ) → get_or ys b [] ≡ []
still_empty xs ys x is none all b = rw (is, none) (go xs b all)
  where
    go : (xs : List Texts) (b : ℕ) → ((b : ℕ) → get_or xs b [] ≡ []) → get_or (xs ++ [] ∷ []) b [] ≡ []
    go [] zero all = refl
    go [] (suc b) all = refl
    go (y ∷ xs) zero all = all 0
    go (y ∷ xs) (suc b) all = go xs b (λ i. all (suc i))

-- a table without a pair, in which the first pass has entered
pub opened : (new : PlainTable) (m : MachineView (List ℕ) (List ℕ)) (p : ℕ) → StandsAt enc_text enc_text m [] → GoesOn enc_text enc_text m new.machine [] (Enter p)
    → length new.objects.items ≡ buckets_of m → ((b : ℕ) → object_in new.objects.items b ≡ []) → new.limit ≤ 1048576
    → (log : Log) × IsAt new log × (history log ≡ []) × (names_of log ≡ 0)
opened new m p at on sized empty limited =
    (Enter p ∷ [], record { machine = on.stands; sized = sized ∙ sym on.buckets; objects = λ b lt. empty b; entered = omega arith; limited = limited }, refl, refl)
