use Rattle.std.proofs.Common.{◌≡◌, ℕ, List, [], ◌∷◌, ◌++◌, ap, ◌∙◌}
use Rattle.std.specs.Int.{w128, to_be_bytes}
use Rattle.hex.specs.Hex.{encode_lower}
use Rattle.resp_device.specs.Wire.{key_of}
use Rattle.resp_device.proofs.Spelling.{on_ok, key_joined}
use Rattle.resp_device.proofs.requests.Requests.make_key.Goals as goal

pub returns-clause-key : goal.returns-clause-key
returns-clause-key c =
    let prefix = c.to_be_bytes.result in
    let lane = encode_lower (c.args.self.now.lane ∷ []) in
    let id = c.to_be_bytes-2.result in
    let last = c.push_hex-3.new.out.items in
    let P : Type 0 = last ≡ c.push-2.new.self.items ++ encode_lower id in
    let Q : Type 0 = last ≡ key_of c.args.self.now.prefix c.args.self.now.lane c.args.id in
    let joins : P → Q = λ e.
    key_joined c.clear.new.self.items c.push_hex.new.out.items c.push.new.self.items c.push_hex-2.new.out.items c.push-2.new.self.items last (encode_lower prefix) lane (encode_lower id) 58 c.clear.ensures.items c.in_ok-push_hex.ensures c.in_ok-push.ensures.items c.in_ok-push_hex-2.ensures c.in_ok-push-2.ensures.items e
    ∙ (ap (λ (l : List ℕ). encode_lower l ++ 58 ∷ (lane ++ 58 ∷ encode_lower id)) c.to_be_bytes.ensures
    ∙ ap (λ (l : List ℕ). encode_lower (to_be_bytes w128 c.args.self.now.prefix) ++ 58 ∷ (lane ++ 58 ∷ encode_lower l)) c.to_be_bytes-2.ensures) in
    on_ok c.push_hex-3.result {P = P} {Q = Q} joins c.push_hex-3.ensures
