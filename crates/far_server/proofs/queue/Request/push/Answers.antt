use Rattle.std.proofs.Common.{◌≡◌, ℕ, List, [], ◌∷◌, ◌++◌, length, sym, subst}
use Rattle.resp.specs.declared.place.Span.{Span}
use Rattle.resp.specs.Parsing.{arguments_in, AreWithin}
use Rattle.far_server.proofs.Held.{one_held, one_within}
use Rattle.far_server.proofs.queue.Request.push.Goals as goal

pub returns-clause-pushed : goal.returns-clause-pushed
returns-clause-pushed c =
    let len : c.len-from.result ≡ length c.args.self.now.bytes.items = search in
    let S : ℕ → Span = λ n. record { from = n; len = length c.args.argument.now } in
    let P : List ℕ → List Span → Type 0 = λ bytes spans. arguments_in bytes spans ≡ arguments_in c.args.self.now.bytes.items c.args.self.now.spans.items ++ c.args.argument.now ∷ [] in
    subst (λ (bytes : List ℕ). P bytes c.push.new.self.items) (sym c.in_ok-extend_from_slice.ensures.items)
    (subst (λ (spans : List Span). P (c.args.self.now.bytes.items ++ c.args.argument.now) spans) (sym c.in_ok-push.ensures.items)
    (subst (λ (n : ℕ). P (c.args.self.now.bytes.items ++ c.args.argument.now) (c.args.self.now.spans.items ++ S n ∷ [])) (sym len) (one_held c.args.self.now.bytes.items c.args.argument.now c.args.self.now.spans.items c.requires)))

pub returns-clause-within : goal.returns-clause-within
returns-clause-within c =
    let len : c.len-from.result ≡ length c.args.self.now.bytes.items = search in
    let S : ℕ → Span = λ n. record { from = n; len = length c.args.argument.now } in
    subst (λ (bytes : List ℕ). AreWithin (length bytes) c.push.new.self.items) (sym c.in_ok-extend_from_slice.ensures.items)
    (subst (λ (spans : List Span). AreWithin (length (c.args.self.now.bytes.items ++ c.args.argument.now)) spans) (sym c.in_ok-push.ensures.items)
    (subst (λ (n : ℕ). AreWithin (length (c.args.self.now.bytes.items ++ c.args.argument.now)) (c.args.self.now.spans.items ++ S n ∷ [])) (sym len) (one_within c.args.self.now.bytes.items c.args.argument.now c.args.self.now.spans.items c.requires)))
