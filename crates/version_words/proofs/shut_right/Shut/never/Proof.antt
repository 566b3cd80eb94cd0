-- The book is opened beside the right, with no step.
use Rattle.version_words.proofs.Walk.{a_type, dcons, dnil, inst_fn, param, bounded, fact, raw, ◌≡◌, ℕ, List, [], ◌∷◌, refl, named, Val, vptr, vunit, SProp, emp, Fml, ftrue, fsep, flft, fhide, ‵, ◌⊛◌, given, later, ◌$◌, ◌∵◌, !, qed, by, move, keep, drop, split, fsplit, fjoin, feq_i, learn, await, rewrite, use1, use2, of_opd, unit_lit, returns, enter, alloc_all, pass_all, free_all, look_at, sets, fact_i, tables, yes, RattleType, owns, types_at, plain, RefOf, unit, shr_vals, shr_Tells, nothing, Tuple, Stays, stay_dropped, walk_of, Goes-dropped, proved, Token, ends, hidden_shr, unhide, lent_out}
use Rattle.std.specs.contracts.marker.PhantomData as marker
use Rattle.logbook.specs.Pages.{Book}
use Rattle.logbook.specs.Kept.{seen_owns}
use Rattle.logbook.specs.contracts.tokens.Seen as Seen
use Rattle.version_words.specs.Boards.{total}
use Rattle.version_words.specs.Boards.{board_at}
use Rattle.version_words.specs.Tallies.{installs_in, events}
use Rattle.version_words.specs.Shuts.{shut_owns}
use Rattle.version_words.specs.contracts.entry.Entry as Entry
use Rattle.version_words.specs.contracts.entry.Answer as Answer
use Rattle.version_words.specs.contracts.rule.Law as Law
use Rattle.version_words.specs.contracts.rule.LawRuleEntryAnswerEntry.TheImpl.{ghosts}
use Rattle.version_words.specs.contracts.shut_right.Shut as Shut
use Rattle.version_words.specs.contracts.shut_right.Shut.never.{ended, clauses}
use Rattle.version_words.specs.contracts.shut_right.Shut.never.Key.{name as #self}
use Rattle.version_words.proofs.Never.{the_rules, nevers}
use Rattle.version_words.proofs.shut_right.Shut.never.Statement.{statement}
use Rattle.version_words.proofs.shut_right.Shut.never.Code as code

pub never_spec : {M : Type 1} → statement M
never_spec 𝓤 𝓛 𝓜 𝓡 wired K V _ _ gk dk gv dv ck cv _ _ _ _ =
    let H = 𝓛.H in let 𝓣 = tables 𝓤 H 𝓜 𝓡 𝓡.env in let K' : RattleType = param 0 K in let V' : RattleType = param 1 V in let En = ended K V gk dk gv dv ck cv in let inst = bounded (a_type ∷ a_type ∷ []) (K, (V, tt)) (dcons dk (dcons dv (dcons ck (dcons cv dnil)))) in let fn = inst_fn inst code.function in let c = clauses K V gk dk gv dv ck cv 𝓛 𝓜.mem 𝓡.returns in
    let E : RattleType = Entry.the_row K' V' in let A : RattleType = Answer.the_row E in let P : RattleType = Law.the_row K' V' in let All : RattleType = Tuple (E ∷ A ∷ P ∷ []) in
    let S : RattleType = Seen.the_row E A P (ghosts K' V' gk dk gv dv ck cv) in let Sh : RattleType = Shut.the_row in
    let hs : Stays En.signature.params En.kept = (stay_dropped (RefOf (0 ∷ []) tt (plain (λ _. Sh)) (λ _. tt)) yes, (stay_dropped (RefOf (1 ∷ []) tt (plain (λ _. S)) (λ _. tt)) yes, tt)) in
    proved 𝓛 En hs c 𝓜 𝓡 (Goes-dropped 𝓛 4 (RefOf (0 ∷ []) tt (plain (λ _. Sh)) (λ _. tt)) yes (λ κs x f. refl), (Goes-dropped 𝓛 4 (RefOf (1 ∷ []) tt (plain (λ _. S)) (λ _. tt)) yes (λ κs x f. refl), tt))
    (#self inst) fn (code.unfolded 𝓤 H 𝓜 𝓡 wired (K, (V, tt)) dk dv ck cv)
    (λ κs. (shr_vals, (shr_vals, tt))) (λ κs. (shr_Tells (named 0) κs.0 Sh, (shr_Tells (named 1) κs.1.0 S, tt))) (λ κs qs bounds a gh are.
    let d = a.0.now in let me = a.1.0.now in
    let vd : Val = vptr a.0.ref_ptr.0 a.0.ref_ptr.1 in let vs₀ : Val = vptr a.1.0.ref_ptr.0 a.1.0.ref_ptr.1 in
    let y : (walk_of 𝓛 En hs c).Ghost = ((κs, qs, bounds, a, (vd ∷ [], (vs₀ ∷ [], tt))), gh) in let Post : Val → SProp 𝓤 = (walk_of 𝓛 En hs c).post y in
    let toks : Fml = fsep (flft κs.0 qs.0) (fsep (flft κs.1.0 qs.1.0) (fsep (flft κs.1.1.0 qs.1.1.0) (fsep (flft κs.1.1.1.0 qs.1.1.1.0) ftrue))) in
    qed 𝓛 ((‵ toks ⊛ ‵ (owns (types_at En.signature.params κs) a y.0.4)) ∷ raw (fact 𝓤 _) ∷ raw (fact 𝓤 _) ∷ given ((d.book ≡ me.book) × (d.board ≡ board_at me.names 1)) (‵ ftrue) ∷ []) ∵ keep ! (3 ∷ 0 ∷ []) $ learn ! (λ asked. drop ! $ split ! $
    move ! (1 ∷ []) $ fsplit ! $ move ! (1 ∷ []) $ fsplit ! $ fsplit ! $ move ! (3 ∷ []) $ fsplit ! $ keep ! (1 ∷ 3 ∷ 5 ∷ []) $
    -- [what self lends; what seen lends; the tokens]
    enter ! 𝓣.C 𝓣.Λ fn (vd ∷ vs₀ ∷ []) Post $ alloc_all ! (λ l. pass_all ! refl ((tt, tt), ((tt, tt), tt)) $
    use1 𝓛 (‵ (hidden_shr (Token unit) κs.0 (record {}, tt) a.0.ref_ptr.0 a.0.ref_ptr.1) ⊛ ‵ (fhide (shut_owns d.book d.board d.key)))
    (lent_out 𝓛 Shut.struct (Shut.the_codes (marker.the_row unit).coded) Shut.the_heap Shut.the_lent κs.0 d a.0.ref_ptr.0 a.0.ref_ptr.1) $ split ! $ drop ! $ unhide ! $ move ! (1 ∷ []) $
    use1 𝓛 (‵ (hidden_shr (Token All) κs.1.0 (record {}, tt) a.1.0.ref_ptr.0 a.1.0.ref_ptr.1) ⊛ ‵ (fhide (seen_owns E.coded.code (the_rules K.Denot V.Denot gk.enc gv.enc) me.book me.names me.log)))
    (lent_out 𝓛 (Seen.struct E A P (ghosts K' V' gk dk gv dv ck cv)) (Seen.the_codes E.Denot A.Denot P.Denot E.coded A.coded P.coded (marker.the_row All).coded) (Seen.the_heap E A P (ghosts K' V' gk dk gv dv ck cv)) (Seen.the_lent E A P (ghosts K' V' gk dk gv dv ck cv)) κs.1.0 me a.1.0.ref_ptr.0 a.1.0.ref_ptr.1) $ split ! $ drop ! $ unhide ! $
    rewrite ! 1 (λ (b : Book). ‵ (shut_owns b d.board d.key)) asked.0 refl $ rewrite ! 1 (λ (ρ : ℕ). ‵ (shut_owns me.book ρ d.key)) asked.1 refl $
    use2 𝓛 (later (given (total installs_in (events me.log) d.key ≡ 0) (‵ ftrue))) (nevers K.Denot V.Denot gk.enc gv.enc 𝓛 E.coded me.book me.names me.log d.key) $ await ! tt $ learn ! (λ never. drop ! $
    sets ! (of_opd ! (unit_lit !)) refl (tt, tt) $ nothing ! $ nothing ! $ fjoin ! $ nothing ! $ fjoin ! $ feq_i ! (List Val) (vunit ∷ []) (vunit ∷ []) refl $
    returns ! (look_at ! 0 refl) $ free_all ! refl $ keep ! (2 ∷ 1 ∷ 0 ∷ []) $
    by ! (ends 𝓛 En hs c y vunit tt (tt, (tt, tt)) (tt, (tt, tt)) (fact_i 𝓤 _ (emp 𝓤) never))))))
