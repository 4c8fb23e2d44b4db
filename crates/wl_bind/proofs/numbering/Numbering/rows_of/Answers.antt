use Rattle.std.proofs.Common.{◌<◌, length, rules}
use Rattle.wl_bind.specs.steps.Numbered.{AreObjectIndices}
use Rattle.wl_lists.proofs.Rows.{row_more}
use Rattle.wl_bind.proofs.numbering.Numbering.rows_of.Goals as goal

pub loop-object-preserved : goal.loop-object-preserved
loop-object-preserved c =
    let input = c.args.self.now.input.now in
    let objects = input.link.objects in
    let k = c.loop-object.object in
    let lt : k < length objects = search rules in
    row_more (AreObjectIndices input c.args.own) objects c.loop-object.rows.items c.push.new.self.items k c.in_ok-indices_of.field-0
    lt c.in_ok-indices_of.ensures c.in_ok-push.ensures.items c.loop-object.invariant
