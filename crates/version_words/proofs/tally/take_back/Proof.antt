-- The gain is the two tallies.
use Rattle.version_words.proofs.Walk.{a_type, dnil, inst_fn, param, bounded, fact, List, [], ◌∷◌, refl, named, Val, vptr, vunit, SProp, emp, Fml, ftrue, fsep, flft, ‵, raw, ◌⊛◌, ◌$◌, ◌∵◌, !, qed, by, move, keep, drop, split, fsplit, fsplit3, fjoin, fjoin3, fpick, feq_i, of_opd, unit_lit, returns, enter, alloc_all, pass_all, free_all, look_at, sets, fact_i, tables, no, RattleType, owns, types_at, plain, mut_vals, mut_Tells, opens, closes, nothing, Tuple, Stays, stay_dropped, stay_ref, walk_of, Goes-dropped, Goes-ref, proved, token, token_told, ends}
use Rattle.version_words.specs.Tallies.{pass_after, name_after}
use Rattle.version_words.specs.Boards.{board_at}
use Rattle.logbook.specs.contracts.tokens.Gained as Gained
use Rattle.version_words.specs.contracts.entry.Entry as Entry
use Rattle.version_words.specs.contracts.entry.Answer as Answer
use Rattle.version_words.specs.contracts.tally.Tally as Tally
use Rattle.version_words.specs.contracts.tally.Traded as Traded
use Rattle.version_words.specs.contracts.tally.TradedGainEntryAnswerEntry.TheImpl.{ghosts}
use Rattle.version_words.specs.contracts.tally.take_back.{ended, clauses}
use Rattle.version_words.specs.contracts.tally.take_back.Key.{name as #self}
use Rattle.version_words.proofs.tally.take_back.Statement.{statement}
use Rattle.version_words.proofs.tally.take_back.Code as code

pub take_back_spec : {M : Type 1} → statement M
take_back_spec 𝓤 𝓛 𝓜 𝓡 wired K V _ _ =
    let H = 𝓛.H in let 𝓣 = tables 𝓤 H 𝓜 𝓡 𝓡.env in let K' : RattleType = param 0 K in let V' : RattleType = param 1 V in let En = ended K V in let inst = bounded (a_type ∷ a_type ∷ []) (K, (V, tt)) dnil in let fn = inst_fn inst code.function in let c = clauses K V 𝓛 𝓜.mem 𝓡.returns in
    let E : RattleType = Entry.the_row K' V' in let A : RattleType = Answer.the_row E in let G : RattleType = Traded.the_row K' V' in
    let D : RattleType = Gained.the_row E A G (ghosts K' V') in let T : RattleType = Tally.the_row in
    let hs : Stays En.signature.params En.kept = (stay_dropped (plain (λ _. D)) no, (stay_ref (0 ∷ []) tt (plain (λ _. T)), (stay_ref (1 ∷ []) tt (plain (λ _. T)), tt))) in
    proved 𝓛 En hs c 𝓜 𝓡 (Goes-dropped 𝓛 4 (plain (λ _. D)) no (λ κs x f. refl), (Goes-ref 𝓛 4 0 tt (plain (λ _. T)), (Goes-ref 𝓛 4 1 tt (plain (λ _. T)), tt)))
    (#self inst) fn (code.unfolded 𝓤 H 𝓜 𝓡 wired (K, (V, tt)))
    (λ κs. ((λ x. token ∷ []), (mut_vals, (mut_vals, tt)))) (λ κs. ((λ x vs is. token_told (Tuple (E ∷ A ∷ G ∷ [])) vs is.0), (mut_Tells (named 0) κs.0 T, (mut_Tells (named 1) κs.1.0 T, tt)))) (λ κs qs bounds a gh are.
    let d = a.0 in let p = a.1.0.now in let n = a.1.1.0.now in
    let vp : Val = vptr a.1.0.ref_ptr.0 a.1.0.ref_ptr.1 in let vn : Val = vptr a.1.1.0.ref_ptr.0 a.1.1.0.ref_ptr.1 in
    let p' : T.Denot = record { marker = record {}; board = board_at d.names 0; slot = pass_after d.about d.answer.done } in let n' : T.Denot = record { marker = record {}; board = board_at d.names 1; slot = name_after d.about d.answer.done } in
    let y : (walk_of 𝓛 En hs c).Ghost = ((κs, qs, bounds, a, (token ∷ [], (vp ∷ [], (vn ∷ [], tt)))), gh) in let Post : Val → SProp 𝓤 = (walk_of 𝓛 En hs c).post y in
    let toks : Fml = fsep (flft κs.0 qs.0) (fsep (flft κs.1.0 qs.1.0) (fsep (flft κs.1.1.0 qs.1.1.0) (fsep (flft κs.1.1.1.0 qs.1.1.1.0) ftrue))) in
    qed 𝓛 ((‵ toks ⊛ ‵ (owns (types_at En.signature.params κs) a y.0.4)) ∷ raw (fact 𝓤 _) ∷ raw (fact 𝓤 _) ∷ ‵ ftrue ∷ []) ∵ keep ! (0 ∷ []) $ split ! $
    -- [the tokens; what the arguments own], and at last [name; its token; pass; its token; no tokens; the gain]
    fsplit ! $ move ! (1 ∷ []) $ fsplit ! $ move ! (3 ∷ []) $ fsplit ! $ fsplit ! $ move ! (2 ∷ []) $ fsplit ! $ fsplit3 ! $ move ! (3 ∷ []) $ fsplit ! $ fsplit3 ! $
    keep ! (1 ∷ 2 ∷ 9 ∷ 5 ∷ 6 ∷ 11 ∷ 10 ∷ 8 ∷ []) $
    enter ! 𝓣.C 𝓣.Λ fn (token ∷ vp ∷ vn ∷ []) Post $ alloc_all ! (λ l. pass_all ! refl ((tt, (tt, tt)), ((tt, tt), ((tt, tt), tt))) $
    opens ! tt T a.1.1.0.ref_ptr.0 a.1.1.0.ref_ptr.1 (λ us. move ! (1 ∷ []) $ fsplit ! $
    move ! (6 ∷ 7 ∷ 8 ∷ []) $ opens ! tt T a.1.0.ref_ptr.0 a.1.0.ref_ptr.1 (λ ws. move ! (1 ∷ []) $ fsplit ! $
    move ! (13 ∷ []) $ fsplit3 ! $ move ! (2 ∷ []) $ fpick ! (λ told. drop ! $
    move ! (2 ∷ 0 ∷ []) $ fjoin ! $ move ! (3 ∷ 0 ∷ 4 ∷ 5 ∷ 6 ∷ []) $ closes ! tt T p' ws a.1.0.ref_ptr.0 a.1.0.ref_ptr.1 $
    move ! (5 ∷ 3 ∷ []) $ fjoin ! $ move ! (6 ∷ 0 ∷ 7 ∷ 8 ∷ 9 ∷ []) $ closes ! tt T n' us a.1.1.0.ref_ptr.0 a.1.1.0.ref_ptr.1 $
    sets ! (of_opd ! (unit_lit !)) refl (tt, tt) $
    nothing ! $ feq_i ! (List Val) (vn ∷ []) (vn ∷ []) refl $ move ! (0 ∷ 2 ∷ 3 ∷ []) $ fjoin3 ! $ fjoin ! $ feq_i ! (List Val) (vp ∷ []) (vp ∷ []) refl $ move ! (0 ∷ 3 ∷ 4 ∷ []) $ fjoin3 ! $ fjoin ! $ nothing ! $ fjoin ! $
    move ! (1 ∷ 5 ∷ []) $ fjoin ! $ move ! (2 ∷ 0 ∷ []) $ fjoin ! $ feq_i ! (List Val) (vunit ∷ []) (vunit ∷ []) refl $
    returns ! (look_at ! 0 refl) $ free_all ! refl $ keep ! (1 ∷ 2 ∷ 0 ∷ []) $
    by ! (ends 𝓛 En hs c y vunit tt (tt, (p', (n', tt))) (tt, (tt, (tt, tt))) (fact_i 𝓤 _ (emp 𝓤) (refl, refl, refl, refl, told))))))))
