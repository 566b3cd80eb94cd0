-- A command that was run, as one step of its pass.
use Rattle.std.proofs.Common.{◌≡◌, ℕ, ◌==◌, true, IsTrue, List, [], ◌∷◌, ◌++◌, Option, Result, Ok, Err, refl, ap, sym, ◌∙◌, arith, inl, inr, length, length-append}
use Rattle.std.proofs.lemmas.Bool.Decides.{nat_tests}
use mathlib.Core.List.{IsPrefix}
use Rattle.table_core.specs.declared.event.Event.TheVariants.{Done}
use Rattle.table_core.specs.declared.limits.Limits.{Limits}
use Rattle.table_core.specs.Logs.{history}
use Rattle.table_core.proofs.Logs.{history-append}
use Rattle.command_file.specs.declared.command.Command.{Command}
use Rattle.command_file.specs.declared.command.Command.TheVariants.{Map, Table}
use Rattle.command_file.specs.declared.command.MapCommand.{MapCommand}
use Rattle.run_lines.specs.declared.refusal.LineRefusal.{LineRefusal}
use Rattle.run_lines.specs.Calls.{Asked, operation_of}
use Rattle.run_lines.specs.Replies.{line_of}
use Rattle.run_lines.proofs.Replying.{Step}
use Rattle.version_words.specs.Views.{calls_of}
use Rattle.version_words.proofs.Calling.{calls-append, calls_kept, calls_between}
use Rattle.threaded_run.specs.Replies.{View, Log, MayReply, AnswersWith, RunsTo, held_behind}

pub history_grows : (xs ys : Log) → IsPrefix xs ys → IsPrefix (history xs) (history ys)
history_grows xs ys pre = (history pre.0, sym (history-append xs pre.0) ∙ ap history pre.1)

-- the calls of the pass before its answered call are those that it had made
past : (p : ℕ) (o : Asked) (w : Option ℕ) (xs before ys : Log) → IsPrefix xs before → ys ≡ before ++ Done p o w ∷ [] → calls_of p ys ≡ calls_of p xs ++ o ∷ [] → calls_of p before ≡ calls_of p xs
past p o w xs before ys pre is more =
    let own : calls_of p (Done p o w ∷ []) ≡ o ∷ [] = let e : (p == p) ≡ true = grind (arith, nat_tests) in rw e refl in
    let split : calls_of p ys ≡ calls_of p before ++ o ∷ [] = ap (calls_of p) is ∙ (calls-append p before (Done p o w ∷ []) ∙ ap (λ (l : List Asked). calls_of p before ++ l) own) in
    calls_kept p xs before pre (omega (arith, ap length more, ap length split, length-append (calls_of p before) (o ∷ []), length-append (calls_of p xs) (o ∷ [])))

module _ (l : Limits) (limit : ℕ) where
  number_stays : (old new : View) (c : MapCommand) (r : Result (Option (List ℕ)) LineRefusal) → AnswersWith l limit old new c r → (new.number ≡ old.number) × IsPrefix old.front new.front
  number_stays old new c (Ok answer) h = (h.finished.call.number, h.finished.call.grows)
  number_stays old new c (Err why) h = (h.goes.number, h.goes.grows)

  pub stays : (old new : View) (held later : Option (List ℕ)) (c : Command) (line : List ℕ) → RunsTo l limit old new held later c line → (new.number ≡ old.number) × IsPrefix old.front new.front
  stays old new held later (Map c) line h = number_stays old new c h.0 h.2
  stays old new held later (Table c) line h = (h.0.number, h.0.grows)

  answered : IsTrue l.honest → (old new : View) (held later : Option (List ℕ)) (c : MapCommand) (r : Result (Option (List ℕ)) LineRefusal) → AnswersWith l limit old new c r → later ≡ held_behind c r held
      → Step (MayReply l.buckets limit) (history old.front) (history new.front) old.number held (Map c) (line_of r) later
  answered honest old new held later c (Ok answer) h behind =
      let o : Asked = operation_of c in
      let at = h.finished.answered honest in
      let more : calls_of old.number new.front ≡ calls_of old.number old.front ++ o ∷ [] = ap (λ (q : ℕ). calls_of q new.front) (sym h.finished.call.number) ∙ h.finished.call.call_added in
      inl (
        answer,
        refl,
        record {
          before = history at.0;
          later = [];
          stands = ap history at.2 ∙ history-append at.0 (Done old.number o at.1 ∷ []);
          past = past old.number o at.1 old.front at.0 new.front at.3 at.2 more;
          told = at.4;
          may = h.may honest at.0 (Done old.number o at.1) at.2;
        },
        more,
        behind,
      )
  answered honest old new held later c (Err why) h behind =
      let s = h.seen honest in
      let same : calls_of old.number new.front ≡ calls_of old.number old.front = ap (λ (q : ℕ). calls_of q new.front) (sym h.goes.number) ∙ h.goes.calls_stay in
      let rest : IsPrefix (history s.0) (history new.front) = history_grows s.0 new.front s.2 in
      inr (
        record {
          why = why;
          line_is = refl;
          place = record { before = history s.0; later = rest.0; stands = sym rest.1; past = calls_between old.number old.front s.0 new.front s.1 s.2 same };
          may = s.3;
        },
        same,
        behind,
      )

  pub step : IsTrue l.honest → (old new : View) (held later : Option (List ℕ)) (c : Command) (line : List ℕ) → RunsTo l limit old new held later c line → Step (MayReply l.buckets limit) (history old.front) (history new.front) old.number held c line later
  step honest old new held later (Map c) line h = rw h.1 (answered honest old new held later c h.0 h.2 h.3)
  step honest old new held later (Table c) line h = (h.1, ap (λ (q : ℕ). calls_of q new.front) (sym h.0.number) ∙ h.0.calls_stay)
