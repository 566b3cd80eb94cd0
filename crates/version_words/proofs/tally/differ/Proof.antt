-- The book is opened beside the two tallies, with no step.
use Rattle.version_words.proofs.Walk.{a_type, dcons, dnil, inst_fn, param, bounded, fact, raw, ◌≡◌, ℕ, List, [], ◌∷◌, sym, refl, named, Val, vptr, vunit, SProp, emp, Fml, ftrue, fsep, flft, fhide, ‵, ◌⊛◌, given, later, ◌$◌, ◌∵◌, !, qed, by, move, keep, drop, split, fsplit, fsplit3, fjoin, fjoin3, feq_i, learn, await, use1, use3, of_opd, unit_lit, returns, enter, alloc_all, pass_all, free_all, look_at, sets, fact_i, tables, yes, RattleType, owns, types_at, plain, RefOf, shr_vals, shr_Tells, mut_vals, mut_Tells, opens, closes, nothing, Tuple, Stays, stay_dropped, stay_ref, walk_of, Goes-dropped, Goes-ref, proved, Token, ends, hidden_shr, unhide, lent_out}
use Rattle.std.specs.Prelude.{◌≢◌, ◌<◌}
use Rattle.std.specs.contracts.marker.PhantomData as marker
use Rattle.logbook.specs.Kept.{seen_owns}
use Rattle.logbook.specs.contracts.tokens.Seen as Seen
use Rattle.version_words.specs.Boards.{slot_owns, board_at}
use Rattle.version_words.specs.contracts.entry.Entry as Entry
use Rattle.version_words.specs.contracts.entry.Answer as Answer
use Rattle.version_words.specs.contracts.rule.Law as Law
use Rattle.version_words.specs.contracts.rule.LawRuleEntryAnswerEntry.TheImpl.{ghosts}
use Rattle.version_words.specs.contracts.tally.Tally as Tally
use Rattle.version_words.specs.contracts.tally.differ.{ended, clauses}
use Rattle.version_words.specs.contracts.tally.differ.Key.{name as #self}
use Rattle.version_words.proofs.Offers.{lies}
use Rattle.version_words.proofs.Apart.{the_rules, differs}
use Rattle.version_words.proofs.tally.differ.Statement.{statement}
use Rattle.version_words.proofs.tally.differ.Code as code

pub differ_spec : {M : Type 1} → statement M
differ_spec 𝓤 𝓛 𝓜 𝓡 wired K V _ _ gk dk gv dv ck cv _ _ _ _ =
    let H = 𝓛.H in let 𝓣 = tables 𝓤 H 𝓜 𝓡 𝓡.env in let K' : RattleType = param 0 K in let V' : RattleType = param 1 V in let En = ended K V gk dk gv dv ck cv in
    let inst = bounded (a_type ∷ a_type ∷ []) (K, (V, tt)) (dcons dk (dcons dv (dcons ck (dcons cv dnil)))) in let fn = inst_fn inst code.function in let c = clauses K V gk dk gv dv ck cv 𝓛 𝓜.mem 𝓡.returns in
    let E : RattleType = Entry.the_row K' V' in let A : RattleType = Answer.the_row E in let P : RattleType = Law.the_row K' V' in let All : RattleType = Tuple (E ∷ A ∷ P ∷ []) in
    let gs = ghosts K' V' gk dk gv dv ck cv in let S : RattleType = Seen.the_row E A P gs in let T : RattleType = Tally.the_row in
    let hs : Stays En.signature.params En.kept = (stay_dropped (RefOf (0 ∷ []) tt (plain (λ _. S)) (λ _. tt)) yes, (stay_ref (1 ∷ []) tt (plain (λ _. T)), (stay_ref (2 ∷ []) tt (plain (λ _. T)), tt))) in
    proved 𝓛 En hs c 𝓜 𝓡 (Goes-dropped 𝓛 5 (RefOf (0 ∷ []) tt (plain (λ _. S)) (λ _. tt)) yes (λ κs x f. refl), (Goes-ref 𝓛 5 1 tt (plain (λ _. T)), (Goes-ref 𝓛 5 2 tt (plain (λ _. T)), tt)))
    (#self inst) fn (code.unfolded 𝓤 H 𝓜 𝓡 wired (K, (V, tt)) dk dv ck cv)
    (λ κs. (shr_vals, (mut_vals, (mut_vals, tt)))) (λ κs. (shr_Tells (named 0) κs.0 S, (mut_Tells (named 1) κs.1.0 T, (mut_Tells (named 2) κs.1.1.0 T, tt)))) (λ κs qs bounds a gh are.
    let me = a.0.now in let p = a.1.0.now in let n = a.1.1.0.now in
    let vs₀ : Val = vptr a.0.ref_ptr.0 a.0.ref_ptr.1 in let vp : Val = vptr a.1.0.ref_ptr.0 a.1.0.ref_ptr.1 in let vn : Val = vptr a.1.1.0.ref_ptr.0 a.1.1.0.ref_ptr.1 in
    let y : (walk_of 𝓛 En hs c).Ghost = ((κs, qs, bounds, a, (vs₀ ∷ [], (vp ∷ [], (vn ∷ [], tt)))), gh) in let Post : Val → SProp 𝓤 = (walk_of 𝓛 En hs c).post y in
    let toks : Fml = fsep (flft κs.0 qs.0) (fsep (flft κs.1.0 qs.1.0) (fsep (flft κs.1.1.0 qs.1.1.0) (fsep (flft κs.1.1.1.0 qs.1.1.1.0) (fsep (flft κs.1.1.1.1.0 qs.1.1.1.1.0) ftrue)))) in
    let γ : ℕ = board_at me.names 0 in
    qed 𝓛 ((‵ toks ⊛ ‵ (owns (types_at En.signature.params κs) a y.0.4)) ∷ raw (fact 𝓤 _) ∷ raw (fact 𝓤 _) ∷ given ((0 < p.slot.held) × (0 < n.slot.held) × (p.board ≡ γ) × (n.board ≡ γ)) (‵ ftrue) ∷ []) ∵ keep ! (3 ∷ 0 ∷ []) $ learn ! (λ asked. drop ! $ split ! $
    fsplit ! $ move ! (1 ∷ []) $ fsplit ! $ move ! (1 ∷ []) $ fsplit ! $ move ! (4 ∷ []) $ fsplit ! $ move ! (1 ∷ []) $ fsplit ! $ fsplit3 ! $ move ! (3 ∷ []) $ fsplit ! $ fsplit3 ! $
    move ! (7 ∷ []) $ fsplit ! $ keep ! (1 ∷ 3 ∷ 4 ∷ 9 ∷ 7 ∷ 8 ∷ 11 ∷ 10 ∷ 12 ∷ []) $
    -- [what seen lends; the other tally, in two, and its token; the one, in two, and its token; the other tokens; the token of seen]
    enter ! 𝓣.C 𝓣.Λ fn (vs₀ ∷ vp ∷ vn ∷ []) Post $ alloc_all ! (λ l. pass_all ! refl ((tt, tt), ((tt, tt), ((tt, tt), tt))) $
    use1 𝓛 (‵ (hidden_shr (Token All) κs.0 (record {}, tt) a.0.ref_ptr.0 a.0.ref_ptr.1) ⊛ ‵ (fhide (seen_owns E.coded.code (the_rules K.Denot V.Denot gk.enc gv.enc) me.book me.names me.log)))
    (lent_out 𝓛 (Seen.struct E A P gs) (Seen.the_codes E.Denot A.Denot P.Denot E.coded A.coded P.coded (marker.the_row All).coded) (Seen.the_heap E A P gs) (Seen.the_lent E A P gs) κs.0 me a.0.ref_ptr.0 a.0.ref_ptr.1) $ split ! $ drop ! $ unhide ! $
    move ! (1 ∷ 2 ∷ 3 ∷ []) $ opens ! tt T a.1.1.0.ref_ptr.0 a.1.1.0.ref_ptr.1 (λ us. move ! (1 ∷ []) $ fsplit ! $
    move ! (7 ∷ 8 ∷ 9 ∷ []) $ opens ! tt T a.1.0.ref_ptr.0 a.1.0.ref_ptr.1 (λ ws. move ! (1 ∷ []) $ fsplit ! $
    -- [fields and slot of the one; its cell; three of its borrow; the same of the other; what was seen; the other tokens; the token of seen]
    move ! (1 ∷ []) $ use1 𝓛 (‵ (slot_owns γ p.slot)) (lies K.Denot V.Denot 𝓛 γ p.board p.slot (λ _. asked.2)) $ move ! (7 ∷ []) $ use1 𝓛 (‵ (slot_owns γ n.slot)) (lies K.Denot V.Denot 𝓛 γ n.board n.slot (λ _. asked.3)) $
    move ! (12 ∷ 1 ∷ 0 ∷ []) $ use3 𝓛 (later (given (p.slot.key ≢ n.slot.key) (‵ (slot_owns γ p.slot) ⊛ ‵ (slot_owns γ n.slot)))) (differs K.Denot V.Denot gk.enc gv.enc 𝓛 E.coded me.book me.names me.log p.slot n.slot asked.0 asked.1) $ await ! tt $ learn ! (λ other. split ! $
    use1 𝓛 (‵ (slot_owns p.board p.slot)) (lies K.Denot V.Denot 𝓛 p.board γ p.slot (λ _. sym asked.2)) $ move ! (2 ∷ 0 ∷ []) $ fjoin ! $ move ! (2 ∷ 0 ∷ 3 ∷ 4 ∷ 5 ∷ []) $ closes ! tt T p ws a.1.0.ref_ptr.0 a.1.0.ref_ptr.1 $
    move ! (3 ∷ []) $ use1 𝓛 (‵ (slot_owns n.board n.slot)) (lies K.Denot V.Denot 𝓛 n.board γ n.slot (λ _. sym asked.3)) $ move ! (4 ∷ 0 ∷ []) $ fjoin ! $ move ! (4 ∷ 0 ∷ 5 ∷ 6 ∷ 7 ∷ []) $ closes ! tt T n us a.1.1.0.ref_ptr.0 a.1.1.0.ref_ptr.1 $
    sets ! (of_opd ! (unit_lit !)) refl (tt, tt) $
    nothing ! $ feq_i ! (List Val) (vn ∷ []) (vn ∷ []) refl $ move ! (0 ∷ 2 ∷ 3 ∷ []) $ fjoin3 ! $ fjoin ! $ feq_i ! (List Val) (vp ∷ []) (vp ∷ []) refl $ move ! (0 ∷ 3 ∷ 4 ∷ []) $ fjoin3 ! $ fjoin ! $ nothing ! $ fjoin ! $
    move ! (1 ∷ 3 ∷ []) $ fjoin ! $ move ! (2 ∷ 0 ∷ []) $ fjoin ! $ move ! (2 ∷ 0 ∷ []) $ fjoin ! $ feq_i ! (List Val) (vunit ∷ []) (vunit ∷ []) refl $
    returns ! (look_at ! 0 refl) $ free_all ! refl $ keep ! (1 ∷ 2 ∷ 0 ∷ []) $
    by ! (ends 𝓛 En hs c y vunit tt (tt, (p, (n, tt))) (tt, (tt, (tt, tt))) (fact_i 𝓤 _ (emp 𝓤) (other, refl, refl)))))))))
