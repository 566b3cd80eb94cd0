use Rattle.std.proofs.Common.{◌≡◌, ℕ, List, Option, None, map, rules, arith, sym, ap, ◌∙◌, subst}
use Rattle.std.specs.Prelude.{vec_len}
use Rattle.hash_table.specs.declared.config.Config.{Config}
use Rattle.hash_table.specs.Openings.{WasOpened}
use Rattle.far_map.specs.declared.settings.Settings.{Settings}
use Rattle.far_map.specs.declared.settings.Setting.{Setting}
use Rattle.far_map.specs.Faults.{IsEarlyFault}
use Rattle.far_map.specs.Settings.{config_of, first_bad}
use Rattle.run_lines.specs.Output.{file_texts}
use Rattle.threaded_run.specs.Settings.{settings_of}
use Rattle.threaded_run.proofs.Lanes.{config_back, none_bad}
use Rattle.threaded_run.proofs.Ending.{always, ended, before, lines_of_files, ran_files}
use Rattle.threaded_run.proofs.run.run_files.Goals as goal

-- the map's settings are those of the run
back : (settings : Settings) (devices : ℕ) (c : Config) → settings ≡ settings_of c → config_of (settings_of c) devices ≡ c → config_of settings devices ≡ c
back settings devices c is h = ap (λ (s : Settings). config_of s devices) is ∙ h

pub of_run-requires : goal.of_run-requires
of_run-requires g c =
    let n = vec_len c.args.devices in
    let none : first_bad c.settings_of-settings.result n ≡ None = ap (λ (s : Settings). first_bad s n) c.settings_of-settings.ensures ∙ none_bad n c.args.config c.requires.within in
    subst (λ (first : Option Setting). IsEarlyFault first c.in-Err.fault) none c.in-Err.ensures.fault

pub returns-clause-opened : goal.returns-clause-opened
returns-clause-opened g c =
    let n = vec_len c.args.devices in
    always c.finish.result (WasOpened c.args.config) (subst WasOpened (back c.settings_of-settings.result n c.args.config c.settings_of-settings.ensures (config_back n c.args.config c.requires.within)) c.in-Ok.ensures.opened)

pub returns-clause-ran : goal.returns-clause-ran
returns-clause-ran g c =
    let n = vec_len c.args.devices in
    let texts = map (λ t. t.items) c.as_slice-2.result.now in
    ended c.finish.result _ _
    (λ w honest. ran_files g.D.Device.HONEST c.args.config (config_of c.settings_of-settings.result n) c.settings_of-settings.result.limit c.len-count.result c.args.files.items c.new-work.result.scripts.now c.in-Ok.ran.0.items texts c.in-Ok.ran.1
    (back c.settings_of-settings.result n c.args.config c.settings_of-settings.ensures (config_back n c.args.config c.requires.within)) (ap (λ (s : Settings). s.limit) c.settings_of-settings.ensures) (search (rules, arith)) (search rules)
    (search rules) (g.W.Write.contents c.args.out.now) (g.W.Write.contents c.finish.new.out) c.in-Ok.ensures.ran honest w)
    c.finish.ensures.written

pub returns-clause-before : goal.returns-clause-before
returns-clause-before g c =
    let n = vec_len c.args.devices in
    let texts = map (λ t. t.items) c.as_slice-2.result.now in
    before c.finish.result c.args.files.items (g.W.Write.contents c.args.out.now) (g.W.Write.contents c.finish.new.out) (file_texts 1 texts)
    (lines_of_files g.D.Device.HONEST c.args.config (config_of c.settings_of-settings.result n) c.settings_of-settings.result.limit c.len-count.result c.args.files.items c.new-work.result.scripts.now c.in-Ok.ran.0.items texts c.in-Ok.ran.1
    (back c.settings_of-settings.result n c.args.config c.settings_of-settings.ensures (config_back n c.args.config c.requires.within)) (ap (λ (s : Settings). s.limit) c.settings_of-settings.ensures) (search (rules, arith)) (search rules)
    (search rules) c.in-Ok.ensures.ran) c.finish.ensures.fault
