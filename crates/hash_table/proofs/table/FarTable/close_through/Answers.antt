use Rattle.std.proofs.Common.{◌≡◌, ◌∙◌, ◌++◌, length, take, drop, ap, sym, subst, arith}
use Rattle.std.proofs.Math.Seq.{take-append_seam}
use Rattle.hash_table.specs.Closes.{AreBack}
use Rattle.hash_table.proofs.table.FarTable.close_through.Goals as goal

pub returns-in-Err-clause-back : goal.returns-in-Err-clause-back
returns-in-Err-clause-back g c =
    let news = c.close_callers_through.new.callers in
    let rest = drop (length news) c.args.callers.items in
    let back = subst (λ olds. AreBack olds news) c.deref_mut.ensures.value c.close_callers_through.ensures.back in
    let count = c.close_callers_through.ensures.back.count in
    let len = c.deref_mut.ensures.len in
    let is : c.args.callers.len ≡ length news = omega (arith, count, len) in
    subst (λ callers. AreBack c.args.callers.items callers) (sym (ap (λ n. take n (news ++ rest)) is ∙ take-append_seam news rest)) back
