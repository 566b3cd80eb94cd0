use Rattle.std.proofs.Common.{◌≡◌, ◌+◌, ℕ, List, vec_len, sym, subst, ◌∙◌}
use Rattle.far_blob.specs.Encodings.{enc_blob}
use Rattle.version_words.specs.Rows.{limits_of}
use Rattle.hash_table.specs.Configs.{sizes_of}
use Rattle.hash_table.specs.declared.config.Config.{Config}
use Rattle.far_map.specs.Settings.{config_of}
use Rattle.far_map.specs.Generations.{IsRenewed}
use Rattle.far_server.specs.Serving.{IsTerm, all_fresh}
use Rattle.far_server.specs.declared.states.WorkerState.{WorkerState}
use Rattle.far_server.proofs.Pushed.{if_ok}
use Rattle.far_server.proofs.run.run_server.Goals as goal

pub returns-in-Ok-run_renewed-clause-served : goal.returns-in-Ok-run_renewed-clause-served
returns-in-Ok-run_renewed-clause-served g c =
    let T : Type 0 = WorkerState g.row.P-Input.Denot g.row.P-Output.Denot in
    let devices : ℕ = vec_len c.args.devices in
    let workers : ℕ = c.args.settings.workers + 1 in
    let kept = c.in-Ok-run_renewed.ended.kept.items in
    let lost = c.in-Ok-run_renewed.ended.lost in
    let Q : Config → ℕ → List T → List T → Type 0 = λ config limit before after. IsRenewed enc_blob (λ worker l begun ended one other. IsTerm g.P.Input.Read.remaining g.P.Output.Write.contents (g.P.Pipes.opens c.args.pipes.now worker) l c.args.settings worker begun ended one other)
    (limits_of (sizes_of config) g.D.Device.HONEST) limit before after lost in
    let own : Config = config_of c.map_of-map.result devices in
    let same : Config = config_of c.args.settings.map devices in
    let most : ℕ = c.map_of-map.result.limit in
    let all_workers : c.in-Some.all_workers ≡ workers = c.in-Some.ensures.1 in
    let B : List T → Type 0 = λ before. Q own most before kept in
    let N : ℕ → Type 0 = λ n. Q own most (all_fresh n) kept in
    let ran : Q own most (all_fresh workers) kept = subst N all_workers (subst B c.in-Ok-fresh.ensures c.in-Ok-run_renewed.ensures.ran) in
    let C : Config → Type 0 = λ config. Q config most (all_fresh workers) kept in
    let L : ℕ → Type 0 = λ limit. Q same limit (all_fresh workers) kept in
    let ran_as_asked : Q same c.args.settings.map.limit (all_fresh workers) kept = subst L c.map_of-map.ensures.limit (subst C (c.map_of-map.ensures.config devices) ran) in
    let A : List T → Type 0 = λ after. Q same c.args.settings.map.limit (all_fresh workers) after in
    if_ok c.ends_of.result (λ ends is. (lost, subst A is ran_as_asked)) c.ends_of.ensures

pub returns-in-Ok-run_renewed-clause-within : goal.returns-in-Ok-run_renewed-clause-within
returns-in-Ok-run_renewed-clause-within g c = if_ok c.ends_of.result (λ ends is. sym (c.map_of-map.ensures.within (vec_len c.args.devices)) ∙ c.in-Ok-run_renewed.ensures.within) c.ends_of.ensures
