use Rattle.std.proofs.Common.{List, vec_len, subst}
use Rattle.far_blob.specs.Encodings.{enc_blob}
use Rattle.version_words.specs.Rows.{limits_of}
use Rattle.hash_table.specs.Configs.{sizes_of}
use Rattle.far_map.specs.Settings.{config_of}
use Rattle.far_map.specs.Generations.{IsRenewed}
use Rattle.farcalls.specs.Serving.{ServesOn, all_fresh}
use Rattle.farcalls.specs.declared.states.SessionState.{SessionState}
use Rattle.farcalls.proofs.Pushed.{if_ok}
use Rattle.farcalls.proofs.session_run.run_sessions.Goals as goal

pub returns-in-Ok-run_renewed-clause-served : goal.returns-in-Ok-run_renewed-clause-served
returns-in-Ok-run_renewed-clause-served g c =
    let T : Type 0 = SessionState g.row.P-Input.Denot g.row.P-Output.Denot in
    let settings = c.args.settings in
    let kept = c.in-Ok-run_renewed.ended.kept.items in
    let lost = c.in-Ok-run_renewed.ended.lost in
    let Q : List T → List T → Type 0 = λ before after. IsRenewed enc_blob (λ worker l begun ended one other. ServesOn g.P.Input.Read.remaining g.P.Output.Write.contents (g.P.Pipes.opens c.args.pipes.now worker) l settings.is_far begun ended one other)
    (limits_of (sizes_of (config_of settings.map (vec_len c.args.devices))) g.D.Device.HONEST) settings.map.limit before after lost in
    let B : List T → Type 0 = λ before. Q before kept in
    let ran : Q (all_fresh settings.sessions) kept = subst B c.in-Ok-fresh.ensures c.in-Ok-run_renewed.ensures.ran in
    let A : List T → Type 0 = λ after. Q (all_fresh settings.sessions) after in
    if_ok c.ends_of.result (λ ends is. (lost, subst A is ran)) c.ends_of.ensures

pub returns-in-Ok-run_renewed-clause-within : goal.returns-in-Ok-run_renewed-clause-within
returns-in-Ok-run_renewed-clause-within g c = if_ok c.ends_of.result (λ ends is. c.in-Ok-run_renewed.ensures.within) c.ends_of.ensures
