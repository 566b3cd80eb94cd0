use Rattle.std.proofs.Common.{◌≡◌, ℕ, ◌+◌, ◌-◌, ◌<◌, ◌≤◌, List, [], ◌∷◌, ◌++◌, length, drop, inl, arith, ap, sym, ◌∙◌, subst, length-drop}
use Rattle.std.proofs.lemmas.List.{length-map, take_rest, length_push}
use Rattle.resp.specs.declared.place.Span.{Span}
use Rattle.resp.specs.declared.limits.Limits.{Limits}
use Rattle.resp.specs.Lines.{Lacks, Spoilt, Begins}
use Rattle.resp.specs.Requests.{bulk, part, IsShortOf, IsBulkCause}
use Rattle.resp.specs.Parsing.{argument_in, arguments_in, AreWithin}
use Rattle.resp.proofs.Arrays.{HasArguments, head_short, head_bad, array_short, array_bad, array_cause, array_more, array_whole, within_more, arguments_more}
use Rattle.resp.proofs.array.array_at.Goals as goal

pub returns-in-Short-clause-parses : goal.returns-in-Short-clause-parses
returns-in-Short-clause-parses c = rw c.least.ensures (head_short c.args.limits c.in-Short.value c.in-Short.missing c.args.bytes.now (omega arith) (omega arith) c.in-Short.ensures)

pub returns-in-Bad-clause-parses : goal.returns-in-Bad-clause-parses
returns-in-Bad-clause-parses c = (head_bad c.args.limits c.in-Bad.at c.args.bytes.now c.in-Bad.ensures, inl c.in-Bad.ensures)

counted : (bytes : List ℕ) (spans : List Span) (count done : ℕ) → length spans ≡ done → done < count → count ≡ length (arguments_in bytes spans) + ((count - done - 1) + 1)
counted bytes spans count done is below = omega (arith, length-map spans (argument_in bytes))

pub returns-in-Short-bulk_at-clause-parses : goal.returns-in-Short-bulk_at-clause-parses
returns-in-Short-bulk_at-clause-parses c =
    let bytes = c.args.bytes.now in
    let at = c.loop-done.at in
    let spans = c.loop-done.spans.items in
    let count = c.in-Whole.value in
    let done = c.loop-done.done in
    let n = c.in-Short-bulk_at.missing in
    let P : List ℕ → Type 0 = λ l. Lacks bulk (IsShortOf c.loop-done.room) l n in
    let lacks : Lacks bulk (IsShortOf c.loop-done.room) (drop at bytes) n = subst P (take_rest bytes at) c.in-Short-bulk_at.ensures.0 in
    rw c.least-in-Short-bulk_at.ensures (array_short c.args.limits bytes count c.loop-done.room at (count - done - 1) n (arguments_in bytes spans) c.loop-done.invariant.has (counted bytes spans count done c.loop-done.invariant.counted (omega arith)) lacks)

pub returns-in-Bad-bulk_at-clause-parses : goal.returns-in-Bad-bulk_at-clause-parses
returns-in-Bad-bulk_at-clause-parses c =
    let bytes = c.args.bytes.now in
    let at = c.loop-done.at in
    let spans = c.loop-done.spans.items in
    let count = c.in-Whole.value in
    let done = c.loop-done.done in
    let j = c.in-Bad-bulk_at.place in
    let fault = c.in-Bad-bulk_at.fault in
    let P : List ℕ → Type 0 = λ l. Spoilt bulk (IsShortOf c.loop-done.room) l j × IsBulkCause c.loop-done.room l j fault in
    let bad : Spoilt bulk (IsShortOf c.loop-done.room) (drop at bytes) j × IsBulkCause c.loop-done.room (drop at bytes) j fault = subst P (take_rest bytes at) c.in-Bad-bulk_at.ensures in
    let has = c.loop-done.invariant.has in
    let all = counted bytes spans count done c.loop-done.invariant.counted (omega arith) in (
      array_bad c.args.limits bytes count c.loop-done.room at (count - done - 1) j (arguments_in bytes spans) has all bad.0,
      array_cause c.args.limits bytes count c.loop-done.room at (count - done - 1) j (arguments_in bytes spans) fault has all bad.1,
    )

more : (limits : Limits) (bytes : List ℕ) (spans items : List Span) (count done room at from len : ℕ) → HasArguments limits bytes count room at (arguments_in bytes spans) → (Begins bulk (IsShortOf room) (drop at bytes) (part (drop at bytes) from len) (from + len + 2) × (from + len + 2 ≤ length (drop at bytes)) × (length (part (drop at bytes) from len) ≡ len)) → items ≡ spans ++ record { from = at + from; len = len } ∷ [] → HasArguments limits bytes count (room - len) (at + (from + len + 2)) (arguments_in bytes items)
more limits bytes spans items count done room at from len has whole is =
    let within : at + (from + len + 2) ≤ length bytes = omega (arith, whole.1, length-drop at bytes, has.within) in
    let r = array_more limits bytes count room at (from + len + 2) (arguments_in bytes spans) (part (drop at bytes) from len) has whole.0 within in
    let P : ℕ → Type 0 = λ n. HasArguments limits bytes count (room - n) (at + (from + len + 2)) (arguments_in bytes spans ++ part (drop at bytes) from len ∷ []) in
    let Q : List (List ℕ) → Type 0 = λ a. HasArguments limits bytes count (room - len) (at + (from + len + 2)) a in
    subst Q (sym (ap (arguments_in bytes) is ∙ arguments_more bytes spans at from len)) (subst P whole.2 r)

pub loop-done-preserved : goal.loop-done-preserved
loop-done-preserved c =
    let bytes = c.args.bytes.now in
    let at = c.loop-done.at in
    let spans = c.loop-done.spans.items in
    let room = c.loop-done.room in
    let from = c.in-Whole-bulk_at.from in
    let len = c.in-Whole-bulk_at.len in
    let P : List ℕ → Type 0 = λ l. Begins bulk (IsShortOf room) l (part l from len) (from + len + 2) × (from + len + 2 ≤ length l) × (length (part l from len) ≡ len) in
    let whole : Begins bulk (IsShortOf room) (drop at bytes) (part (drop at bytes) from len) (from + len + 2) × (from + len + 2 ≤ length (drop at bytes)) × (length (part (drop at bytes) from len) ≡ len) = subst P (take_rest bytes at) c.in-Whole-bulk_at.ensures in
    let s : Span = record { from = at + from; len = len } in
    let items : c.push.new.self.items ≡ spans ++ record { from = at + from; len = len } ∷ [] = c.in_ok-push-in-Whole-bulk_at.ensures.items in
    let W : List Span → Type 0 = AreWithin (length bytes) in
    record {
      has = more c.args.limits bytes spans c.push.new.self.items c.in-Whole.value c.loop-done.done room at from len c.loop-done.invariant.has whole items;
      counted = omega (arith, ap length items, length_push spans s);
      within = subst W (sym items) (within_more (length bytes) spans s c.loop-done.invariant.within (omega (arith, whole.1, length-drop at bytes, c.loop-done.invariant.has.within)));
      few = omega (arith, c.in_ok-push-in-Whole-bulk_at.ensures.len, c.loop-done.invariant.few);
      room = omega (arith, c.push.ensures.capacity, c.loop-done.invariant.room);
    }

pub returns-clause-parses : goal.returns-clause-parses
returns-clause-parses c =
    let bytes = c.args.bytes.now in
    let spans = c.loop-done.spans.items in
    let all : c.in-Whole.value ≡ length (arguments_in bytes spans) = omega (arith, length-map spans (argument_in bytes), c.loop-done.invariant.counted) in (
      array_whole c.args.limits bytes c.in-Whole.value c.loop-done.room c.loop-done.at (arguments_in bytes spans) c.loop-done.invariant.has all,
      c.loop-done.invariant.has.within,
      c.loop-done.invariant.within,
    )
