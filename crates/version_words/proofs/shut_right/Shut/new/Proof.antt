-- The tally goes under an invariant.
use Rattle.version_words.proofs.Walk.{a_type, dcons, dnil, inst_fn, param, bounded, fact, raw, ◌≡◌, ◌<◌, List, [], ◌∷◌, refl, named, Val, vptr, SProp, emp, Fml, ftrue, fsep, flft, ‵, ◌⊛◌, given, later, ◌$◌, ◌∵◌, !, qed, by, move, keep, drop, split, fsplit, fsplit3, fjoin, fjoin3, feq_i, learn, await, use0, use1, no_more, and_then, returns, enter, alloc_all, pass_all, free_all, look_at, get, sets, agg, fact_i, tables, yes, RattleType, owns, types_at, plain, RefOf, unit, shr_vals, shr_Tells, mut_vals, mut_Tells, opens, closes, nothing, Stays, stay_dropped, stay_ref, walk_of, Goes-dropped, Goes-ref, proved, token, Token, token_made, ends}
use Rattle.logbook.specs.contracts.tokens.Seen as Seen
use Rattle.version_words.specs.Boards.{no_slot, tally}
use Rattle.version_words.specs.Shuts.{shut_owns}
use Rattle.version_words.specs.contracts.entry.Entry as Entry
use Rattle.version_words.specs.contracts.entry.Answer as Answer
use Rattle.version_words.specs.contracts.rule.Law as Law
use Rattle.version_words.specs.contracts.rule.LawRuleEntryAnswerEntry.TheImpl.{ghosts}
use Rattle.version_words.specs.contracts.tally.Tally as Tally
use Rattle.version_words.specs.contracts.shut_right.Shut.new.{ended, clauses}
use Rattle.version_words.specs.contracts.shut_right.Shut.new.Key.{name as #self}
use Rattle.version_words.proofs.Shutting.{shuts}
use Rattle.version_words.proofs.Boards.{is_tally}
use Rattle.version_words.proofs.shut_right.Shut.new.Statement.{statement}
use Rattle.version_words.proofs.shut_right.Shut.new.Code as code

pub new_spec : {M : Type 1} → statement M
new_spec 𝓤 𝓛 𝓜 𝓡 wired K V _ _ gk dk gv dv ck cv _ _ _ _ =
    let H = 𝓛.H in let 𝓣 = tables 𝓤 H 𝓜 𝓡 𝓡.env in let K' : RattleType = param 0 K in let V' : RattleType = param 1 V in let En = ended K V gk dk gv dv ck cv in let inst = bounded (a_type ∷ a_type ∷ []) (K, (V, tt)) (dcons dk (dcons dv (dcons ck (dcons cv dnil)))) in let fn = inst_fn inst code.function in let c = clauses K V gk dk gv dv ck cv 𝓛 𝓜.mem 𝓡.returns in
    let E : RattleType = Entry.the_row K' V' in let A : RattleType = Answer.the_row E in let P : RattleType = Law.the_row K' V' in
    let S : RattleType = Seen.the_row E A P (ghosts K' V' gk dk gv dv ck cv) in let T : RattleType = Tally.the_row in
    let hs : Stays En.signature.params En.kept = (stay_dropped (RefOf (0 ∷ []) tt (plain (λ _. S)) (λ _. tt)) yes, (stay_ref (1 ∷ []) tt (plain (λ _. T)), tt)) in
    proved 𝓛 En hs c 𝓜 𝓡 (Goes-dropped 𝓛 4 (RefOf (0 ∷ []) tt (plain (λ _. S)) (λ _. tt)) yes (λ κs x f. refl), (Goes-ref 𝓛 4 1 tt (plain (λ _. T)), tt))
    (#self inst) fn (code.unfolded 𝓤 H 𝓜 𝓡 wired (K, (V, tt)) dk dv ck cv)
    (λ κs. (shr_vals, (mut_vals, tt))) (λ κs. (shr_Tells (named 0) κs.0 S, (mut_Tells (named 1) κs.1.0 T, tt))) (λ κs qs bounds a gh are.
    let me = a.0.now in let p = a.1.0.now in
    let vs₀ : Val = vptr a.0.ref_ptr.0 a.0.ref_ptr.1 in let vp : Val = vptr a.1.0.ref_ptr.0 a.1.0.ref_ptr.1 in
    let p' : T.Denot = record { marker = record {}; board = p.board; slot = no_slot } in
    let y : (walk_of 𝓛 En hs c).Ghost = ((κs, qs, bounds, a, (vs₀ ∷ [], (vp ∷ [], tt))), gh) in let Post : Val → SProp 𝓤 = (walk_of 𝓛 En hs c).post y in
    let toks : Fml = fsep (flft κs.0 qs.0) (fsep (flft κs.1.0 qs.1.0) (fsep (flft κs.1.1.0 qs.1.1.0) (fsep (flft κs.1.1.1.0 qs.1.1.1.0) ftrue))) in
    qed 𝓛 ((‵ toks ⊛ ‵ (owns (types_at En.signature.params κs) a y.0.4)) ∷ raw (fact 𝓤 _) ∷ raw (fact 𝓤 _) ∷ given ((0 < p.slot.held) × (p.slot.count ≡ 0)) (‵ ftrue) ∷ []) ∵ keep ! (3 ∷ 0 ∷ []) $ learn ! (λ asked. drop ! $ split ! $
    fsplit ! $ move ! (1 ∷ []) $ fsplit ! $ move ! (3 ∷ []) $ fsplit ! $ move ! (1 ∷ []) $ fsplit ! $ fsplit3 ! $ keep ! (1 ∷ 2 ∷ 5 ∷ 6 ∷ 7 ∷ []) $
    -- [the right; its token; no tokens; the other token]
    enter ! 𝓣.C 𝓣.Λ fn (vs₀ ∷ vp ∷ []) Post $ alloc_all ! (λ l. pass_all ! refl ((tt, tt), ((tt, tt), tt)) $
    opens ! tt T a.1.0.ref_ptr.0 a.1.0.ref_ptr.1 (λ ws. move ! (1 ∷ []) $ fsplit ! $ move ! (1 ∷ []) $
    use1 𝓛 (‵ (tally p.board p.slot.key 0)) (is_tally 𝓛 p.board p.slot asked.0 asked.1) $ use1 𝓛 (later (‵ (shut_owns me.book p.board p.slot.key))) (shuts 𝓛 me.book p.board p.slot.key) $ await ! tt $
    nothing ! $ move ! (2 ∷ 0 ∷ []) $ fjoin ! $ move ! (2 ∷ 0 ∷ 3 ∷ 4 ∷ 5 ∷ []) $ closes ! tt T p' ws a.1.0.ref_ptr.0 a.1.0.ref_ptr.1 $
    -- [two parts of the right; its token; the shut right; no tokens; the other token]
    use0 𝓛 (‵ ((Token unit).own_val (record {}, tt) (token ∷ []))) (token_made unit 𝓛) $ move ! (0 ∷ 4 ∷ []) $ fjoin ! $
    sets ! (agg ! (no_more !)) refl (tt, tt) $ sets ! (agg ! (and_then ! (get ! refl) (no_more !))) refl (tt, (tt, tt)) $
    nothing ! $ feq_i ! (List Val) (vp ∷ []) (vp ∷ []) refl $ move ! (0 ∷ 3 ∷ 4 ∷ []) $ fjoin3 ! $ fjoin ! $ nothing ! $ fjoin ! $
    move ! (2 ∷ 3 ∷ []) $ fjoin ! $ move ! (3 ∷ 0 ∷ []) $ fjoin ! $
    returns ! (look_at ! 0 refl) $ free_all ! refl $ keep ! (0 ∷ 1 ∷ 2 ∷ []) $
    by ! (ends 𝓛 En hs c y token (record { marker = record {}; book = me.book; board = p.board; key = p.slot.key }) (tt, (p', tt)) (tt, (tt, tt)) (fact_i 𝓤 _ (emp 𝓤) (refl, refl, refl, refl)))))))
