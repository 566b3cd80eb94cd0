-- The tallies make the offer.
use Rattle.version_words.proofs.Walk.{a_type, dcons, dnil, inst_fn, param, bounded, fact, ℕ, List, [], ◌∷◌, refl, named, Val, vptr, SProp, emp, Fml, ftrue, fsep, flft, ‵, raw, ◌⊛◌, given, ◌$◌, ◌∵◌, !, qed, by, move, keep, drop, split, fsplit, fsplit3, fjoin, fjoin3, feq_i, learn, use0, use1, use2, no_more, and_then, returns, enter, alloc_all, pass_all, free_all, look_at, get, sets, agg, fact_i, tables, yes, RattleType, owns, types_at, plain, RefOf, shr_vals, shr_Tells, mut_vals, mut_Tells, opens, closes, nothing, Tuple, Stays, stay_dropped, stay_ref, walk_of, Goes-dropped, Goes-ref, proved, token, Token, token_made, ends, None}
use Rattle.logbook.specs.Kept.{offer}
use Rattle.logbook.specs.contracts.tokens.Seen as Seen
use Rattle.version_words.specs.declared.entry.Entry.TheVariants.{Happened}
use Rattle.version_words.specs.Boards.{slot_owns, no_slot, board_at, LiesAt}
use Rattle.version_words.specs.Tallies.{kept, Answered, traded, about_of, Fair}
use Rattle.version_words.specs.contracts.entry.Entry as Entry
use Rattle.version_words.specs.contracts.entry.Answer as Answer
use Rattle.version_words.specs.contracts.rule.Law as Law
use Rattle.version_words.specs.contracts.rule.LawRuleEntryAnswerEntry.TheImpl.{ghosts}
use Rattle.version_words.specs.contracts.tally.Tally as Tally
use Rattle.version_words.specs.contracts.tally.Traded as Traded
use Rattle.version_words.specs.contracts.tally.offer.{ended, clauses}
use Rattle.version_words.specs.contracts.tally.offer.Key.{name as #self}
use Rattle.version_words.proofs.Offers.{makes_offer, lies}
use Rattle.version_words.proofs.tally.offer.Statement.{statement}
use Rattle.version_words.proofs.tally.offer.Code as code

pub offer_spec : {M : Type 1} → statement M
offer_spec 𝓤 𝓛 𝓜 𝓡 wired K V Y N _ _ _ _ gk dk gv dv gn dn ck cv _ _ _ _ _ =
    let H = 𝓛.H in let 𝓣 = tables 𝓤 H 𝓜 𝓡 𝓡.env in let K' : RattleType = param 0 K in let V' : RattleType = param 1 V in let Y' : RattleType = param 2 Y in let En = ended K V Y N gk dk gv dv gn dn ck cv in
    let inst = bounded (a_type ∷ a_type ∷ a_type ∷ a_type ∷ []) (K, (V, (Y, (N, tt)))) (dcons dk (dcons dv (dcons dn (dcons ck (dcons cv dnil))))) in let fn = inst_fn inst code.function in let c = clauses K V Y N gk dk gv dv gn dn ck cv 𝓛 𝓜.mem 𝓡.returns in
    let E : RattleType = Entry.the_row K' V' in let A : RattleType = Answer.the_row E in let P : RattleType = Law.the_row K' V' in let G : RattleType = Traded.the_row K' V' in
    let S : RattleType = Seen.the_row E A P (ghosts K' V' gk dk gv dv ck cv) in let T : RattleType = Tally.the_row in let All : RattleType = Tuple (E ∷ A ∷ P ∷ G ∷ []) in
    let hs : Stays En.signature.params En.kept = (stay_dropped (RefOf (0 ∷ []) tt (plain (λ _. S)) (λ _. tt)) yes, (stay_ref (1 ∷ []) tt (plain (λ _. T)), (stay_ref (2 ∷ []) tt (plain (λ _. T)), (stay_dropped (RefOf (3 ∷ []) tt (plain (λ _. Y')) (λ _. tt)) yes, tt)))) in
    proved 𝓛 En hs c 𝓜 𝓡 (Goes-dropped 𝓛 8 (RefOf (0 ∷ []) tt (plain (λ _. S)) (λ _. tt)) yes (λ κs x f. refl), (Goes-ref 𝓛 8 1 tt (plain (λ _. T)), (Goes-ref 𝓛 8 2 tt (plain (λ _. T)), (Goes-dropped 𝓛 8 (RefOf (3 ∷ []) tt (plain (λ _. Y')) (λ _. tt)) yes (λ κs x f. refl), tt))))
    (#self inst) fn (code.unfolded 𝓤 H 𝓜 𝓡 wired (K, (V, (Y, (N, tt)))) dk dv dn ck cv)
    (λ κs. (shr_vals, (mut_vals, (mut_vals, (shr_vals, tt))))) (λ κs. (shr_Tells (named 0) κs.0 S, (mut_Tells (named 1) κs.1.0 T, (mut_Tells (named 2) κs.1.1.0 T, (shr_Tells (named 3) κs.1.1.1.0 Y', tt))))) (λ κs qs bounds a gh are.
    let me = a.0.now in let p = a.1.0.now in let n = a.1.1.0.now in let e = gn.ask a.1.1.1.0.now in
    let vs₀ : Val = vptr a.0.ref_ptr.0 a.0.ref_ptr.1 in let vp : Val = vptr a.1.0.ref_ptr.0 a.1.0.ref_ptr.1 in let vn : Val = vptr a.1.1.0.ref_ptr.0 a.1.1.0.ref_ptr.1 in let ve : Val = vptr a.1.1.1.0.ref_ptr.0 a.1.1.1.0.ref_ptr.1 in
    let p' : T.Denot = record { marker = record {}; board = p.board; slot = no_slot } in let n' : T.Denot = record { marker = record {}; board = n.board; slot = no_slot } in
    let y : (walk_of 𝓛 En hs c).Ghost = ((κs, qs, bounds, a, (vs₀ ∷ [], (vp ∷ [], (vn ∷ [], (ve ∷ [], tt))))), gh) in let Post : Val → SProp 𝓤 = (walk_of 𝓛 En hs c).post y in
    let toks : Fml = fsep (flft κs.0 qs.0) (fsep (flft κs.1.0 qs.1.0) (fsep (flft κs.1.1.0 qs.1.1.0) (fsep (flft κs.1.1.1.0 qs.1.1.1.0) (fsep (flft κs.1.1.1.1.0 qs.1.1.1.1.0) (fsep (flft κs.1.1.1.1.1.0 qs.1.1.1.1.1.0) (fsep (flft κs.1.1.1.1.1.1.0 qs.1.1.1.1.1.1.0) (fsep (flft κs.1.1.1.1.1.1.1.0 qs.1.1.1.1.1.1.1.0) ftrue))))))) in
    let γ : ℕ = board_at me.names 0 in let ρ : ℕ = board_at me.names 1 in
    let O : Fml = offer (λ log. kept me.names log) (λ xs ys r. Answered (Happened e) xs ys r) (λ r. traded me.names (about_of e p.slot n.slot) r) in
    qed 𝓛 ((‵ toks ⊛ ‵ (owns (types_at En.signature.params κs) a y.0.4)) ∷ raw (fact 𝓤 _) ∷ raw (fact 𝓤 _) ∷ raw (fact 𝓤 _) ∷ raw (fact 𝓤 _) ∷ given (Fair e p.slot n.slot × LiesAt γ p.board p.slot × LiesAt ρ n.board n.slot) (‵ ftrue) ∷ []) ∵ keep ! (5 ∷ 0 ∷ []) $ learn ! (λ asked. drop ! $ split ! $
    -- [the tokens; what the arguments own], and at last [name; its token; pass; its token; the other tokens]
    fsplit ! $ move ! (1 ∷ []) $ fsplit ! $ move ! (1 ∷ []) $ fsplit ! $ move ! (4 ∷ []) $ fsplit ! $ move ! (1 ∷ []) $ fsplit ! $ fsplit3 ! $ move ! (3 ∷ []) $ fsplit ! $ fsplit3 ! $
    keep ! (1 ∷ 2 ∷ 8 ∷ 5 ∷ 6 ∷ 10 ∷ 9 ∷ 11 ∷ []) $
    enter ! 𝓣.C 𝓣.Λ fn (vs₀ ∷ vp ∷ vn ∷ ve ∷ []) Post $ alloc_all ! (λ l. pass_all ! refl ((tt, tt), ((tt, tt), ((tt, tt), ((tt, tt), tt)))) $
    opens ! tt T a.1.1.0.ref_ptr.0 a.1.1.0.ref_ptr.1 (λ us. move ! (1 ∷ []) $ fsplit ! $
    move ! (6 ∷ 7 ∷ 8 ∷ []) $ opens ! tt T a.1.0.ref_ptr.0 a.1.0.ref_ptr.1 (λ ws. move ! (1 ∷ []) $ fsplit ! $
    -- the two slots become the offer
    move ! (1 ∷ []) $ use1 𝓛 (‵ (slot_owns γ p.slot)) (lies K.Denot V.Denot 𝓛 γ p.board p.slot asked.1) $ move ! (7 ∷ []) $ use1 𝓛 (‵ (slot_owns ρ n.slot)) (lies K.Denot V.Denot 𝓛 ρ n.board n.slot asked.2) $
    move ! (1 ∷ 0 ∷ []) $ use2 𝓛 (‵ O) (makes_offer K.Denot V.Denot 𝓛 me.names e p.slot n.slot asked.0) $
    nothing ! $ move ! (2 ∷ 0 ∷ []) $ fjoin ! $ move ! (2 ∷ 0 ∷ 3 ∷ 4 ∷ 5 ∷ []) $ closes ! tt T p' ws a.1.0.ref_ptr.0 a.1.0.ref_ptr.1 $
    nothing ! $ move ! (5 ∷ 0 ∷ []) $ fjoin ! $ move ! (5 ∷ 0 ∷ 6 ∷ 7 ∷ 8 ∷ []) $ closes ! tt T n' us a.1.1.0.ref_ptr.0 a.1.1.0.ref_ptr.1 $
    use0 𝓛 (‵ ((Token All).own_val (record {}, tt) (token ∷ []))) (token_made All 𝓛) $ move ! (0 ∷ 7 ∷ []) $ fjoin ! $
    sets ! (agg ! (no_more !)) refl (tt, tt) $ sets ! (agg ! (and_then ! (get ! refl) (no_more !))) refl (tt, (tt, tt)) $
    -- what is left of the parameters, and the tokens
    nothing ! $ nothing ! $ fjoin ! $ feq_i ! (List Val) (vn ∷ []) (vn ∷ []) refl $ move ! (0 ∷ 3 ∷ 4 ∷ []) $ fjoin3 ! $ fjoin ! $ feq_i ! (List Val) (vp ∷ []) (vp ∷ []) refl $ move ! (0 ∷ 4 ∷ 5 ∷ []) $ fjoin3 ! $ fjoin ! $ nothing ! $ fjoin ! $
    move ! (2 ∷ 4 ∷ []) $ fjoin ! $ move ! (3 ∷ 0 ∷ []) $ fjoin ! $ move ! (3 ∷ 0 ∷ []) $ fjoin ! $
    returns ! (look_at ! 0 refl) $ free_all ! refl $ keep ! (0 ∷ 1 ∷ 2 ∷ []) $
    by ! (ends 𝓛 En hs c y token (record { marker = record {}; names = me.names; ask = Happened e; about = about_of e p.slot n.slot; state = None }) (tt, (p', (n', (tt, tt)))) (tt, (tt, (tt, (tt, tt)))) (fact_i 𝓤 _ (emp 𝓤) (refl, refl, refl, refl, refl, refl))))))))
