use denote.Param.Send.{sendable}
use Rattle.std.proofs.Common.{Result, Ok, Err, OnOk, Global, map, string_bytes, refl, subst}
use Rattle.std.proofs.Crossing as vecs
use Rattle.std.proofs.MapsCrossing as maps
use Rattle.file_device.proofs.Sent as file
use Rattle.resp_device.proofs.Sent as resp
use Rattle.far_driver.specs.Runs.{AnswersFiles}
use Rattle.farrun.specs.Runs.{WasOpenedFor}
use Rattle.farrun.proofs.far_run.run_asked.Goals as goal

-- what follows from a premise that holds
given : {T E A : Type 0} (P : Type 0) (result : Result T E) → OnOk result (A → P) → A → OnOk result P
given P (Ok done) ran a = ran a
given P (Err fault) ran a = tt

pub run_over-requires-send-D : goal.run_over-requires-send-D
run_over-requires-send-D g c κs within = search (sendable, vecs.crosses, maps.crosses, resp.device_send) depth 40 fits 100000

pub returns-in-Ok-clause-opened : goal.returns-in-Ok-clause-opened
returns-in-Ok-clause-opened g c =
    subst (λ words. OnOk c.run_over.result (WasOpenedFor (map (string_bytes {Z = Global}) words))) c.as_slice-words.ensures.value c.run_over.ensures.opened

pub returns-then-is_empty-clause-opened : goal.returns-then-is_empty-clause-opened
returns-then-is_empty-clause-opened g c =
    subst (λ words. OnOk c.run_over-then-is_empty.result (WasOpenedFor (map (string_bytes {Z = Global}) words))) c.as_slice-words.ensures.value c.run_over-then-is_empty.ensures.opened

pub run_over-requires-in-Ok-open_lanes-2-send-D : goal.run_over-requires-in-Ok-open_lanes-2-send-D
run_over-requires-in-Ok-open_lanes-2-send-D g c κs within = search (sendable, vecs.crosses, maps.crosses, file.device_send, file.disk_send) depth 40 fits 100000

pub returns-in-Ok-open_lanes-2-clause-opened : goal.returns-in-Ok-open_lanes-2-clause-opened
returns-in-Ok-open_lanes-2-clause-opened g c =
    subst (λ words. OnOk c.run_over-in-Ok-open_lanes-2.result (WasOpenedFor (map (string_bytes {Z = Global}) words))) c.as_slice-words.ensures.value c.run_over-in-Ok-open_lanes-2.ensures.opened

pub returns-in-Ok-clause-far : goal.returns-in-Ok-clause-far
returns-in-Ok-clause-far g c = λ then.
    subst (λ words. OnOk c.run_over.result (AnswersFiles (map (string_bytes {Z = Global}) words) (g.W.Write.contents c.args.out.now) (g.W.Write.contents c.run_over.new.out))) c.as_slice-words.ensures.value (given _ c.run_over.result c.run_over.ensures.files then)

pub returns-then-is_empty-clause-far : goal.returns-then-is_empty-clause-far
returns-then-is_empty-clause-far g c = λ then.
    subst (λ words. OnOk c.run_over-then-is_empty.result (AnswersFiles (map (string_bytes {Z = Global}) words) (g.W.Write.contents c.args.out.now) (g.W.Write.contents c.run_over-then-is_empty.new.out))) c.as_slice-words.ensures.value (given _ c.run_over-then-is_empty.result c.run_over-then-is_empty.ensures.files refl)

pub returns-in-Ok-open_lanes-2-clause-far : goal.returns-in-Ok-open_lanes-2-clause-far
returns-in-Ok-open_lanes-2-clause-far g c = λ then.
    subst (λ words. OnOk c.run_over-in-Ok-open_lanes-2.result (AnswersFiles (map (string_bytes {Z = Global}) words) (g.W.Write.contents c.args.out.now) (g.W.Write.contents c.run_over-in-Ok-open_lanes-2.new.out))) c.as_slice-words.ensures.value (given _ c.run_over-in-Ok-open_lanes-2.result c.run_over-in-Ok-open_lanes-2.ensures.files then)
