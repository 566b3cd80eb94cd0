-- The boards are made.
use Rattle.version_words.proofs.Walk.{dcons, named, vptr, yes, plain, RefOf, shr_vals, shr_Tells, stay_dropped, Goes-dropped, Fml, a_type, dnil, inst_fn, param, bounded, fact, flft, ℕ, List, [], ◌∷◌, refl, Val, SProp, emp, ftrue, fsep, ‵, raw, ◌⊛◌, some, later, ◌$◌, ◌∵◌, !, qed, by, keep, split, fjoin, pick, await, use0, no_more, and_then, returns, enter, alloc_all, pass_all, free_all, look_at, get, sets, agg, fact_i, tables, RattleType, owns, types_at, nothing, Tuple, Stays, walk_of, proved, token, Token, token_made, ends}
use Rattle.version_words.specs.Rows.{fresh, limits_of}
use Rattle.version_words.specs.Tallies.{kept}
use Rattle.version_words.specs.contracts.sizes.Sizes as Sizes
use Rattle.version_words.specs.contracts.entry.Entry as Entry
use Rattle.version_words.specs.contracts.entry.Answer as Answer
use Rattle.version_words.specs.contracts.rule.Law as Law
use Rattle.version_words.specs.contracts.tally.start.{ended, clauses}
use Rattle.version_words.specs.contracts.tally.start.Key.{name as #self}
use Rattle.version_words.proofs.Offers.{begins}
use Rattle.version_words.proofs.tally.start.Statement.{statement}
use Rattle.version_words.proofs.tally.start.Code as code

pub start_spec : {M : Type 1} → statement M
start_spec 𝓤 𝓛 𝓜 𝓡 wired K V N _ _ _ gk dk gv dv gn dn ck cv _ _ _ _ _ =
    let H = 𝓛.H in let 𝓣 = tables 𝓤 H 𝓜 𝓡 𝓡.env in let K' : RattleType = param 0 K in let V' : RattleType = param 1 V in let En = ended K V N gk dk gv dv gn dn ck cv in
    let inst = bounded (a_type ∷ a_type ∷ a_type ∷ []) (K, (V, (N, tt))) (dcons dk (dcons dv (dcons dn (dcons ck (dcons cv dnil))))) in let fn = inst_fn inst code.function in let c = clauses K V N gk dk gv dv gn dn ck cv 𝓛 𝓜.mem 𝓡.returns in
    let E : RattleType = Entry.the_row K' V' in let A : RattleType = Answer.the_row E in let P : RattleType = Law.the_row K' V' in let S : RattleType = Sizes.the_row in let All : RattleType = Tuple (E ∷ A ∷ P ∷ []) in
    let hs : Stays En.signature.params En.kept = (stay_dropped (RefOf (0 ∷ []) tt (plain (λ _. S)) (λ _. tt)) yes, tt) in
    proved 𝓛 En hs c 𝓜 𝓡 (Goes-dropped 𝓛 4 (RefOf (0 ∷ []) tt (plain (λ _. S)) (λ _. tt)) yes (λ κs x f. refl), tt) (#self inst) fn (code.unfolded 𝓤 H 𝓜 𝓡 wired (K, (V, (N, tt))) dk dv dn ck cv)
    (λ κs. (shr_vals, tt)) (λ κs. (shr_Tells (named 0) κs.0 S, tt)) (λ κs qs bounds a gh are.
    let me = a.0.now in let at : Val = vptr a.0.ref_ptr.0 a.0.ref_ptr.1 in
    let y : (walk_of 𝓛 En hs c).Ghost = ((κs, qs, bounds, a, (at ∷ [], tt)), gh) in let Post : Val → SProp 𝓤 = (walk_of 𝓛 En hs c).post y in
    let toks : Fml = fsep (flft κs.0 qs.0) (fsep (flft κs.1.0 qs.1.0) (fsep (flft κs.1.1.0 qs.1.1.0) (fsep (flft κs.1.1.1.0 qs.1.1.1.0) ftrue))) in
    qed 𝓛 ((‵ toks ⊛ ‵ (owns (types_at En.signature.params κs) a y.0.4)) ∷ raw (fact 𝓤 _) ∷ raw (fact 𝓤 _) ∷ raw (fact 𝓤 _) ∷ ‵ ftrue ∷ []) ∵ split ! $ keep ! (0 ∷ []) $
    enter ! 𝓣.C 𝓣.Λ fn (at ∷ []) Post $ alloc_all ! (λ l. pass_all ! refl ((tt, tt), tt) $
    use0 𝓛 (later (some (λ (names : List ℕ). ‵ (kept {K = K.Denot} {V = V.Denot} names (fresh (limits_of me gn.honest)))))) (begins K.Denot V.Denot 𝓛 (limits_of me gn.honest)) $ await ! tt $ pick ! (λ names.
    use0 𝓛 (‵ ((Token All).own_val (record {}, tt) (token ∷ []))) (token_made All 𝓛) $ fjoin ! $ sets ! (agg ! (no_more !)) refl (tt, tt) $ sets ! (agg ! (and_then ! (get ! refl) (no_more !))) refl (tt, (tt, tt)) $
    nothing ! $ nothing ! $ fjoin ! $
    returns ! (look_at ! 0 refl) $ free_all ! refl $ keep ! (2 ∷ 0 ∷ 1 ∷ []) $
    by ! (ends 𝓛 En hs c y token (record { marker = record {}; names = names; shown = fresh (limits_of me gn.honest) }) (tt, tt) (tt, tt) (fact_i 𝓤 _ (emp 𝓤) refl)))))
