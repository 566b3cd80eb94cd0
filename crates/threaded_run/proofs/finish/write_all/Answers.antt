use Rattle.std.proofs.Common.{rules, ◌++◌, ◌∷◌, ℕ, List, Option, map}
use Rattle.std.specs.Prelude.{Result, Ok, Err, IfOk, codes}
use Rattle.std.specs.Io.KnownBytes.{Appends}
use Rattle.far_pairs.specs.Bundles.{all_of}
use Rattle.run_lines.specs.Calls.{Texts}
use Rattle.run_lines.specs.Output.{file_texts}
use Rattle.run_lines.proofs.Written.{both}
use Rattle.threaded_run.specs.Ends.{AreLinesOf, Holds, Writes}
use Rattle.threaded_run.proofs.Ending.{ended, faulted}
use Rattle.threaded_run.proofs.finish.write_all.Goals as goal

-- the contents behind the text
by : {E : Type 0} (pairs : Texts) (contents : Result (List ℕ) E) (front middle after : Option (List ℕ)) (text : List ℕ) → IfOk contents (AreLinesOf pairs) → Appends front middle text
    → Holds contents (λ lines. Appends middle after (codes "contents" ++ 10 ∷ lines)) → Writes pairs front after text
by pairs (Ok lines) front middle after text are first behind = record { lines = lines; are = are; wrote = both front middle after _ _ first behind }
by pairs (Err refusal) front middle after text are first behind = absurd behind

pub returns-clause-written : goal.returns-clause-written
returns-clause-written g c =
    ended c.write_contents.result _ _
    (λ h. by (all_of c.args.bundles.now) _ (g.W.Write.contents c.args.out.now) _ (g.W.Write.contents c.write_contents.new.out) (file_texts 1 (map (λ t. t.items) c.args.texts.now)) (search rules) (search rules) h)
    c.write_contents.ensures.written

pub returns-clause-fault : goal.returns-clause-fault
returns-clause-fault g c =
    faulted c.write_contents.result _ _ (λ e h. h (g.W.Write.contents c.args.out.now) (file_texts 1 (map (λ t. t.items) c.args.texts.now)) (search rules)) c.write_contents.ensures.fault
