use Rattle.std.proofs.Common.{arith}
use Rattle.wl_plan.specs.Contents.{contents}
use Rattle.wl_plan.proofs.LinkLaws.{content_at, content_past, within_at}
use Rattle.wl_plan.proofs.objects.ObjectList.get.Goals as goal

pub returns-then-object-len-clause-within : goal.returns-then-object-len-clause-within
returns-then-object-len-clause-within c =
    let objects = c.self.inside.objects.items in
    let at = content_at objects c.args.object c.index.result.now
    (omega (arith, c.if-object-len.true, c.len.ensures)) c.index.ensures in
    rw c.as_slice.ensures.value
    (within_at (contents objects) c.args.object c.index.result.now.items c.self.invariant at)

pub returns-else-object-len-clause-bytes : goal.returns-else-object-len-clause-bytes
returns-else-object-len-clause-bytes c =
    rw (← c.self.view_is)
    (content_past c.self.inside.objects.items c.args.object
    (omega (arith, c.if-object-len.false, c.len.ensures)))
