use Rattle.std.proofs.Common.{◌≡◌, ℕ, List, map, false, refl, sym, ap, ◌∙◌, of_calls}
use Rattle.far_server.proofs.Flushing.{noted, kept}
use Rattle.far_server.proofs.all_keys.all_keys_in.Goals as goal

pub returns : goal.returns
returns g c =
    let v = c.in-Ok.ensures.visits in
    let q = c.for_each_in.new.visit in
    let keys_name = kept _ (λ s. s.0.ghost_name) (λ f p h r. search of_calls) _ v.0 q v.2 in
    let short_name = kept _ (λ s. s.1.ghost_name) (λ f p h r. search of_calls) _ v.0 q v.2 in
    let keys_are = c.keys-2-1.given.1 (sym keys_name) in
    let short_is = c.is_short-2-1.given.1 (sym short_name) in
    let whole : q.1.now ≡ false = sym short_is ∙ c.if-is_short.false in
    let all : q.0.now.items ≡ map (λ p. p.0) v.0 = noted _ (λ s. s.0.now.items) (λ s. s.1.now) (λ f p h r noted_it. search of_calls) _ v.0 q c.new-keys.ensures.items v.2 whole in
    record { goes = c.in-Ok.ensures.goes; pairs = v.0; are = v.1; found = ap (λ k. k.items) keys_are ∙ all }
