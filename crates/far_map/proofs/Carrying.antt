-- Pairs that are put, part after part, and those that are lost on the way.
use Rattle.std.proofs.Common.{◌≡◌, ℕ, Bool, IsTrue, List, [], ◌∷◌, ◌++◌, Option, Some, None, IfSome, IfNone, refl, ap, sym, ◌∙◌, subst, arith, append_assoc}
use Rattle.std.proofs.lemmas.List.{append-nil, map-append}
use Rattle.std.specs.List.Sorted.{IsPermutation}
use Rattle.std.proofs.lemmas.List.Sorted.{IsPermutation-refl, IsPermutation-trans, IsPermutation-append, IsPermutation-append_left, IsPermutation-append_right, IsPermutation-append_comm}
use Rattle.table_core.specs.declared.limits.Limits.{Limits}
use Rattle.table_core.specs.declared.operation.Operation.TheVariants as op
use Rattle.version_words.specs.Views.{Goes, calls}
use Rattle.migration.specs.Parts.{Takes, Loses}
use Rattle.far_map.specs.declared.refusal.MapRefusal.{MapRefusal}
use Rattle.far_map.specs.Answers.{IsRefused, IsDone}
use Rattle.far_map.specs.Loads.{Comes, puts, summed, PutsEach, IsLoading, Loads}
use Rattle.far_map.specs.Views.{View, Pairs, Call}

-- ---- sums

pub first_none : (a b : ℕ) → summed a b ≡ 0 → a ≡ 0
first_none a b h = omega (arith, h)

pub last_none : (a b : ℕ) → summed a b ≡ 0 → b ≡ 0
last_none a b h = omega (arith, h)

-- ---- what an option has

pub none_is : {A P : Type 0} (o : Option A) → o ≡ None → IfNone o P → P
none_is {A} {P} o is h = subst (λ (x : Option A). IfNone x P) is h

pub some_is : {A : Type 0} (P : A → Type 0) (o : Option A) (a : A) → o ≡ Some a → IfSome o P → P a
some_is {A} P o a is h = subst (λ (x : Option A). IfSome x P) is h

-- ---- lists in any order

module _ {A : Type 0} where
  same : (xs ys : List A) → xs ≡ ys → IsPermutation xs ys
  same xs ys is = subst (λ (zs : List A). IsPermutation xs zs) is (IsPermutation-refl xs)

  -- the middle two of four change places
  pub crossed : (ws xs ys zs : List A) → IsPermutation ((ws ++ xs) ++ (ys ++ zs)) ((ws ++ ys) ++ (xs ++ zs))
  crossed ws xs ys zs =
      let one : (ws ++ xs) ++ (ys ++ zs) ≡ ws ++ ((xs ++ ys) ++ zs) = append_assoc ws xs (ys ++ zs) ∙ ap (λ (w : List A). ws ++ w) (sym (append_assoc xs ys zs)) in
      let two : ws ++ ((ys ++ xs) ++ zs) ≡ (ws ++ ys) ++ (xs ++ zs) = ap (λ (w : List A). ws ++ w) (append_assoc ys xs zs) ∙ sym (append_assoc ws ys (xs ++ zs)) in
      let swap : IsPermutation (ws ++ ((xs ++ ys) ++ zs)) (ws ++ ((ys ++ xs) ++ zs)) =
      IsPermutation-append_right ws ((xs ++ ys) ++ zs) ((ys ++ xs) ++ zs) (IsPermutation-append_left zs (xs ++ ys) (ys ++ xs) (IsPermutation-append_comm xs ys)) in
      subst (λ (w : List A). IsPermutation w ((ws ++ ys) ++ (xs ++ zs))) (sym one) (subst (λ (w : List A). IsPermutation (ws ++ ((xs ++ ys) ++ zs)) w) two swap)

  -- what waits goes in two parts, of which the one comes to what was put, and the other to what was not
  pub went_on : (waited put others waiting put' others' waiting' gone : List A) → IsPermutation waited ((put ++ others) ++ waiting) → IsPermutation waiting (gone ++ waiting') → IsPermutation gone (put' ++ others')
      → IsPermutation waited (((put ++ put') ++ (others ++ others')) ++ waiting')
  went_on waited put others waiting put' others' waiting' gone h taken split =
      let a : IsPermutation ((put ++ others) ++ waiting) ((put ++ others) ++ ((put' ++ others') ++ waiting')) =
      IsPermutation-append_right (put ++ others) waiting ((put' ++ others') ++ waiting')
      (IsPermutation-trans waiting (gone ++ waiting') ((put' ++ others') ++ waiting') taken (IsPermutation-append_left waiting' gone (put' ++ others') split)) in
      let b : IsPermutation ((put ++ others) ++ ((put' ++ others') ++ waiting')) (((put ++ others) ++ (put' ++ others')) ++ waiting') = same _ _ (sym (append_assoc (put ++ others) (put' ++ others') waiting')) in
      let c : IsPermutation (((put ++ others) ++ (put' ++ others')) ++ waiting') (((put ++ put') ++ (others ++ others')) ++ waiting') =
      IsPermutation-append_left waiting' ((put ++ others) ++ (put' ++ others')) ((put ++ put') ++ (others ++ others')) (crossed put others put' others') in
      IsPermutation-trans waited ((put ++ others) ++ waiting) _ h (IsPermutation-trans _ _ _ a (IsPermutation-trans _ _ _ b c))

  -- the same where nothing is left out
  pub went_all : (waited put waiting put' waiting' gone : List A) → IsPermutation waited (put ++ waiting) → IsPermutation waiting (gone ++ waiting') → IsPermutation gone put' → IsPermutation waited ((put ++ put') ++ waiting')
  went_all waited put waiting put' waiting' gone h taken split =
      let a : IsPermutation (put ++ waiting) (put ++ (put' ++ waiting')) =
      IsPermutation-append_right put waiting (put' ++ waiting') (IsPermutation-trans waiting (gone ++ waiting') (put' ++ waiting') taken (IsPermutation-append_left waiting' gone put' split)) in
      let b : IsPermutation (put ++ (put' ++ waiting')) ((put ++ put') ++ waiting') = same _ _ (sym (append_assoc put put' waiting')) in
      IsPermutation-trans waited (put ++ waiting) _ h (IsPermutation-trans _ _ _ a b)

  -- what comes of what came
  pub comes_on : (first mid last : List A) (m n k : ℕ) → Comes first mid m → Comes mid last n → (k ≡ 0 → m ≡ 0) → (k ≡ 0 → n ≡ 0) → Comes first last k
  comes_on first mid last m n k g h before after = record {
    part = record {
      others = h.part.others ++ g.part.others;
      split =
          let both : IsPermutation (mid ++ g.part.others) ((last ++ h.part.others) ++ g.part.others) = IsPermutation-append_left g.part.others mid (last ++ h.part.others) h.part.split in
          IsPermutation-trans first (mid ++ g.part.others) _ g.part.split (IsPermutation-trans _ _ _ both (same _ _ (append_assoc last h.part.others g.part.others)));
    };
    all = λ none. IsPermutation-trans first mid last (g.all (before none)) (h.all (after none));
  }

-- ---- puts

module _ {V : Type 0} where
  puts_more : (xs ys : Pairs V) → puts (xs ++ ys) ≡ puts xs ++ puts ys
  puts_more xs ys = map-append (λ (e : List ℕ × V). op.Put e.0 e.1) xs ys

  pub puts_none : (pass : View V) → PutsEach [] pass pass 0
  puts_none pass = record { put = []; others = []; split = IsPermutation-refl []; all = λ none. IsPermutation-refl []; number = refl; made = sym (append-nil (calls pass)) }

  -- the pass went on, and made no call
  pub puts_on : (pairs : Pairs V) (old mid new : View V) (refused : ℕ) → PutsEach pairs old mid refused → Goes mid new → PutsEach pairs old new refused
  puts_on pairs old mid new refused h goes = record { put = h.put; others = h.others; split = h.split; all = h.all; number = goes.number ∙ h.number; made = goes.calls_stay ∙ h.made }

  -- one more was put
  put_one : (pairs : Pairs V) (old mid new : View V) (k : List ℕ) (v : V) (refused : ℕ) → PutsEach pairs old mid refused → new.number ≡ mid.number → calls new ≡ calls mid ++ op.Put k v ∷ [] → PutsEach (pairs ++ (k, v) ∷ []) old new refused
  put_one pairs old mid new k v refused h number made =
      let e : List ℕ × V = (k, v) in
      record {
        put = h.put ++ e ∷ [];
        others = h.others;
        split =
            let more : IsPermutation (pairs ++ e ∷ []) ((h.put ++ h.others) ++ (e ∷ [] ++ [])) = IsPermutation-append pairs (h.put ++ h.others) (e ∷ []) (e ∷ []) h.split (IsPermutation-refl (e ∷ [])) in
            let there : IsPermutation ((h.put ++ h.others) ++ (e ∷ [] ++ [])) ((h.put ++ e ∷ []) ++ (h.others ++ [])) = crossed h.put h.others (e ∷ []) [] in
            subst (λ (w : Pairs V). IsPermutation (pairs ++ e ∷ []) ((h.put ++ e ∷ []) ++ w)) (append-nil h.others) (IsPermutation-trans _ _ _ more there);
        all = λ none. IsPermutation-append pairs h.put (e ∷ []) (e ∷ []) (h.all none) (IsPermutation-refl (e ∷ []));
        number = number ∙ h.number;
        made = made ∙ (ap (λ (os : List (Call V)). os ++ op.Put k v ∷ []) h.made ∙ (append_assoc (calls old) (puts h.put) (op.Put k v ∷ []) ∙ ap (λ (os : List (Call V)). calls old ++ os) (sym (puts_more h.put (e ∷ [])))));
      }

  -- one more was refused
  left_one : (pairs : Pairs V) (old mid new : View V) (k : List ℕ) (v : V) (refused more : ℕ) → PutsEach pairs old mid refused → new.number ≡ mid.number → calls new ≡ calls mid → more ≡ summed refused 1 → PutsEach (pairs ++ (k, v) ∷ []) old new more
  left_one pairs old mid new k v refused more h number same_calls counted =
      let e : List ℕ × V = (k, v) in
      record {
        put = h.put;
        others = h.others ++ e ∷ [];
        split =
            let added : IsPermutation (pairs ++ e ∷ []) ((h.put ++ h.others) ++ e ∷ []) = IsPermutation-append_left (e ∷ []) pairs (h.put ++ h.others) h.split in
            subst (λ (w : Pairs V). IsPermutation (pairs ++ e ∷ []) w) (append_assoc h.put h.others (e ∷ [])) added;
        all = λ none. absurd (omega (arith, none, counted));
        number = number ∙ h.number;
        made = same_calls ∙ h.made;
      }

module _ {V : Type 0} (ev : V → List ℕ) (l : Limits) (limit : ℕ) where
  done_number : (old new : View V) (o : Call V) (answer : Option V) → IsDone ev l limit old new o answer → new.number ≡ old.number
  done_number old new o answer h = h.goes.number ∙ h.made.finished.call.number

  done_calls : (old new : View V) (o : Call V) (answer : Option V) → IsDone ev l limit old new o answer → calls new ≡ calls old ++ o ∷ []
  done_calls old new o answer h = h.goes.calls_stay ∙ h.made.finished.call.call_added

  -- one more pair, whose put was answered
  pub put_more : (pairs : Pairs V) (old mid new : View V) (k : List ℕ) (v : V) (refused : ℕ) (answer : Option V) → PutsEach pairs old mid refused → IsDone ev l limit mid new (op.Put k v) answer → PutsEach (pairs ++ (k, v) ∷ []) old new refused
  put_more pairs old mid new k v refused answer h done = put_one pairs old mid new k v refused h (done_number mid new (op.Put k v) answer done) (done_calls mid new (op.Put k v) answer done)

  -- one more pair, whose put was refused
  pub refused_more : (pairs : Pairs V) (old mid new : View V) (k : List ℕ) (v : V) (refused more : ℕ) (why : MapRefusal) → PutsEach pairs old mid refused → IsRefused ev l limit mid new (op.Put k v) why → more ≡ summed refused 1 → PutsEach (pairs ++ (k, v) ∷ []) old new more
  refused_more pairs old mid new k v refused more why h is counted = left_one pairs old mid new k v refused more h is.goes.number is.goes.calls_stay counted

-- ---- part after part

module _ {V : Type 0} (is_honest : Bool) where
  pub loading_none : (waited : Pairs V) (pass : View V) (lost : ℕ) → IsLoading is_honest waited waited pass pass lost
  loading_none waited pass lost = record {
    put = [];
    others = [];
    split = λ honest. IsPermutation-refl waited;
    all = λ honest none. IsPermutation-refl waited;
    made = sym (append-nil (calls pass));
  }

  -- a part was taken and put
  pub loading_more : (waited waiting waiting' pairs : Pairs V) (old mid here new : View V) (lost refused more : ℕ)
      → IsLoading is_honest waited waiting old mid lost → Goes mid here → Takes is_honest waiting waiting' pairs → PutsEach pairs here new refused → (more ≡ 0 → lost ≡ 0) → (more ≡ 0 → refused ≡ 0)
      → IsLoading is_honest waited waiting' old new more
  loading_more waited waiting waiting' pairs old mid here new lost refused more h goes t p before now = record {
    put = h.put ++ p.put;
    others = h.others ++ p.others;
    split = λ honest. went_on waited h.put h.others waiting p.put p.others waiting' pairs (h.split honest) (taken honest) p.split;
    all = λ honest none. went_all waited h.put waiting p.put waiting' pairs (h.all honest (before none)) (taken honest) (p.all (now none));
    made = p.made ∙ (ap (λ (os : List (Call V)). os ++ puts p.put) (goes.calls_stay ∙ h.made) ∙ (append_assoc (calls old) (puts h.put) (puts p.put) ∙ ap (λ (os : List (Call V)). calls old ++ os) (sym (puts_more h.put p.put))));
  }
    where
      taken : IsTrue is_honest → IsPermutation waiting (pairs ++ waiting')
      taken honest = subst (λ (w : Pairs V). IsPermutation waiting (w ++ waiting')) (sym (t.read honest)) t.is

  -- a part was lost
  pub loading_less : (waited waiting waiting' : Pairs V) (old mid new : View V) (lost more : ℕ) → IsLoading is_honest waited waiting old mid lost → Goes mid new → Loses waiting waiting' → (more ≡ 0 → ⊥) → IsLoading is_honest waited waiting' old new more
  loading_less waited waiting waiting' old mid new lost more h goes t some = record {
    put = h.put;
    others = h.others ++ t.gone;
    split = λ honest.
        let went : IsPermutation waited (((h.put ++ []) ++ (h.others ++ t.gone)) ++ waiting') = went_on waited h.put h.others waiting [] t.gone waiting' t.gone (h.split honest) t.is (IsPermutation-refl t.gone) in
        subst (λ (w : Pairs V). IsPermutation waited ((w ++ (h.others ++ t.gone)) ++ waiting')) (append-nil h.put) went;
    all = λ honest none. absurd (some none);
    made = goes.calls_stay ∙ h.made;
  }

  -- none was left
  pub loading_still : (waited waiting waiting' : Pairs V) (old mid new : View V) (lost : ℕ) → IsLoading is_honest waited waiting old mid lost → Goes mid new → waiting ≡ [] → waiting' ≡ [] → IsLoading is_honest waited waiting' old new lost
  loading_still waited waiting waiting' old mid new lost h goes none none' =
      let is : waiting ≡ waiting' = none ∙ sym none' in
      record {
        put = h.put;
        others = h.others;
        split = λ honest. subst (λ (w : Pairs V). IsPermutation waited ((h.put ++ h.others) ++ w)) is (h.split honest);
        all = λ honest zero. subst (λ (w : Pairs V). IsPermutation waited (h.put ++ w)) is (h.all honest zero);
        made = goes.calls_stay ∙ h.made;
      }

  -- all is put
  pub loaded : (waited waiting : Pairs V) (old new : View V) (lost : ℕ) → IsLoading is_honest waited waiting old new lost → waiting ≡ [] → calls old ≡ [] → Loads is_honest waited new lost
  loaded waited waiting old new lost h empty none = record {
    loaded = h.put;
    comes = λ honest. record {
      part = record {
        others = h.others;
        split = subst (λ (w : Pairs V). IsPermutation waited w) (append-nil (h.put ++ h.others)) (subst (λ (w : Pairs V). IsPermutation waited ((h.put ++ h.others) ++ w)) empty (h.split honest));
      };
      all = λ zero. subst (λ (w : Pairs V). IsPermutation waited w) (append-nil h.put) (subst (λ (w : Pairs V). IsPermutation waited (h.put ++ w)) empty (h.all honest zero));
    };
    made = h.made ∙ ap (λ (os : List (Call V)). os ++ puts h.put) none;
  }
