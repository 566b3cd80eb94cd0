-- Replies behind replies.
use Rattle.std.proofs.Common.{◌≡◌, ℕ, zero, suc, ◌+◌, ◌*◌, ◌<◌, ◌≤◌, ℤ, Bool, true, false, count_by, get_or, List, [], ◌∷◌, ◌++◌, length, take, flat_map, refl, sym, ap, subst, ◌∙◌, append_assoc, append-nil, arith}
use Rattle.std.proofs.lemmas.Grind.{flat_map-append, common_steps}
use Rattle.std.proofs.lemmas.List.{take_all}
use Rattle.std.proofs.lemmas.List.Sums.{count_by_more_yes, count_by_more_no}
use Rattle.resp.specs.Replies.{Token, token, Count, Number, String}
use Rattle.server_commands.specs.Replying.{members, AreReplies, Replies, RepliesEven, Tells, Grows}

pub both : (n m : ℕ) (r s : List Token) → AreReplies n r → AreReplies m s → AreReplies (n + m) (r ++ s)
both n m [] s e h =
    let k : m ≡ n + m = omega arith in
    subst (λ k. AreReplies k s) k h
both zero m (t ∷ r) s e h = absurd e
both (suc n) m (t ∷ r) s e h =
    let k : suc (n + m) ≡ suc n + m = omega arith in
    let j : n + members t + m ≡ n + m + members t = omega arith in
    subst (λ k. AreReplies k (t ∷ (r ++ s))) k (subst (λ k. AreReplies k (r ++ s)) j (both (n + members t) m r s e h))

pub more_replies : (n m : ℕ) (a b c : List ℕ) → Replies n a b → Replies m b c → Replies (n + m) a c
more_replies n m a b c p q = record {
  tokens = p.tokens ++ q.tokens;
  whole = both n m p.tokens q.tokens p.whole q.whole;
  spelled = q.spelled ∙ ap (λ x. x ++ flat_map token q.tokens) p.spelled ∙ append_assoc a (flat_map token p.tokens) (flat_map token q.tokens) ∙ ap (λ x. a ++ x) (sym (flat_map-append token p.tokens q.tokens));
}

pub no_reply : (a : List ℕ) → Replies 0 a a
no_reply a = record { tokens = []; whole = refl; spelled = sym (append-nil a) }

pub one_reply : (t : Token) (a b : List ℕ) → members t ≡ 0 → b ≡ a ++ token t → Replies 1 a b
one_reply t a b e h = record {
  tokens = t ∷ [];
  whole = let k : 0 + members t ≡ 0 = omega (arith, e) in k;
  spelled = h ∙ ap (λ x. a ++ x) (sym (append-nil (token t)));
}

pub array_reply : (n : ℕ) (a b c : List ℕ) → b ≡ a ++ token (Count n) → Replies n b c → Replies 1 a c
array_reply n a b c h p = record {
  tokens = Count n ∷ p.tokens;
  whole = let k : n ≡ 0 + n = omega arith in subst (λ k. AreReplies k p.tokens) k p.whole;
  spelled = p.spelled ∙ ap (λ x. x ++ flat_map token p.tokens) h ∙ append_assoc a (token (Count n)) (flat_map token p.tokens);
}

pub array_of : (i n : ℕ) (a b c : List ℕ) → i ≡ n → b ≡ a ++ token (Count n) → Replies i b c → Replies 1 a c
array_of i n a b c e h p = array_reply n a b c h (subst (λ n. Replies n b c) e p)

pub even_reply : (n : ℕ) (a b c : List ℕ) → b ≡ a ++ token (Count (2 * n)) → Replies (2 * n) b c → RepliesEven a c
even_reply n a b c h p = record {
  pairs = n;
  tokens = p.tokens;
  whole = p.whole;
  spelled = p.spelled ∙ ap (λ x. x ++ flat_map token p.tokens) h ∙ append_assoc a (token (Count (2 * n))) (flat_map token p.tokens);
}

pub grows_same : (a b : List ℕ) → b ≡ a → Grows a b
grows_same a b e = record { more = []; longer = e ∙ sym (append-nil a) }

pub grows_by : (a b x : List ℕ) → b ≡ a ++ x → Grows a b
grows_by a b x e = record { more = x; longer = e }

pub grows_replies : (n : ℕ) (a b : List ℕ) → Replies n a b → Grows a b
grows_replies n a b p = record { more = flat_map token p.tokens; longer = p.spelled }

pub grows_on : (a b c : List ℕ) → Grows a b → Grows b c → Grows a c
grows_on a b c p q = record {
  more = p.more ++ q.more;
  longer = q.longer ∙ ap (λ x. x ++ q.more) p.longer ∙ append_assoc a p.more q.more;
}

-- what was put behind is cut off
pub cut : (a b : List ℕ) (n : ℕ) → Grows a b → n ≡ length a → take n b ≡ a
cut a b n g e = grind (arith, common_steps)

-- two replies more for one that is asked for
pub asked_more : (xs : List Bool) (i : ℕ) (d : Bool) (a b c : List ℕ) → i < length xs → get_or xs i d ≡ true → Replies (2 * count_by (λ x. x) (take i xs)) a b → Replies 2 b c → Replies (2 * count_by (λ x. x) (take (i + 1) xs)) a c
asked_more xs i d a b c less is p q =
    let n = count_by_more_yes (λ (x : Bool). x) xs i d less is in
    let e : 2 * count_by (λ x. x) (take i xs) + 2 ≡ 2 * count_by (λ x. x) (take (i + 1) xs) = omega (arith, n) in
    subst (λ n. Replies n a c) e (more_replies (2 * count_by (λ x. x) (take i xs)) 2 a b c p q)

pub asked_less : (xs : List Bool) (i : ℕ) (d : Bool) (a b : List ℕ) → i < length xs → get_or xs i d ≡ false → Replies (2 * count_by (λ x. x) (take i xs)) a b → Replies (2 * count_by (λ x. x) (take (i + 1) xs)) a b
asked_less xs i d a b less not p =
    let n = count_by_more_no (λ (x : Bool). x) xs i d less not in
    subst (λ n. Replies (2 * n) a b) (sym n) p

pub asked_all : (xs : List Bool) (i n : ℕ) (a b c : List ℕ) → length xs ≤ i → n ≡ count_by (λ x. x) xs → b ≡ a ++ token (Count (2 * n)) → Replies (2 * count_by (λ x. x) (take i xs)) b c → RepliesEven a c
asked_all xs i n a b c past counted e p =
    let all : take i xs ≡ xs = take_all i xs past in
    let same : count_by (λ (x : Bool). x) (take i xs) ≡ n = ap (count_by (λ (x : Bool). x)) all ∙ sym counted in
    even_reply n a b c e (subst (λ n. Replies (2 * n) b c) same p)

pub even_is_one : (a b : List ℕ) → RepliesEven a b → Replies 1 a b
even_is_one a b p = record {
  tokens = Count (2 * p.pairs) ∷ p.tokens;
  whole = let k : 2 * p.pairs ≡ 0 + 2 * p.pairs = omega arith in subst (λ k. AreReplies k p.tokens) k p.whole;
  spelled = p.spelled;
}

pub tells_one : (t : Token) (a b : List ℕ) → b ≡ a ++ token t → Tells (t ∷ []) a b
tells_one t a b h = record { spelled = h ∙ ap (λ x. a ++ x) (sym (append-nil (token t))) }

pub tells_more : (r s : List Token) (a b c : List ℕ) → Tells r a b → Tells s b c → Tells (r ++ s) a c
tells_more r s a b c p q = record {
  spelled = q.spelled ∙ ap (λ x. x ++ flat_map token s) p.spelled ∙ append_assoc a (flat_map token r) (flat_map token s) ∙ ap (λ x. a ++ x) (sym (flat_map-append token r s));
}

pub replies_of : (n : ℕ) (r : List Token) (a b : List ℕ) → AreReplies n r → Tells r a b → Replies n a b
replies_of n r a b e p = record { tokens = r; whole = e; spelled = p.spelled }

-- a number that is written in another way
pub number_as : (y z : ℤ) (a b : List ℕ) → y ≡ z → Tells (Number y ∷ []) a b → Tells (Number z ∷ []) a b
number_as y z a b e p = subst (λ z. Tells (Number z ∷ []) a b) e p

pub figure_as : (name : List ℕ) (y z : ℤ) (a b : List ℕ) → y ≡ z → Tells (String name ∷ Number y ∷ []) a b → Tells (String name ∷ Number z ∷ []) a b
figure_as name y z a b e p = subst (λ z. Tells (String name ∷ Number z ∷ []) a b) e p
