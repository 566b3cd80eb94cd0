use Rattle.resp_device.proofs.Keys.{keys_apart}
use Rattle.resp_device.proofs.laws.keys_are_apart.Goals as goal

pub returns : goal.returns
returns c = λ prefix lane i j si sj same. keys_apart prefix lane i j si sj same
