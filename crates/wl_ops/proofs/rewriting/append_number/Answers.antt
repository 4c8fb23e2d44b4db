use Rattle.std.proofs.Common.{◌<◌, ◌^◌, ◌++◌, arith}
use Rattle.wl_ops.proofs.ShiftLaws.{appended}
use Rattle.wl_ops.proofs.rewriting.append_number.Goals as goal

pub returns : goal.returns
returns c =
    let a = rw (c.from.ensures, c.in_ok-extend_from_slice.ensures.items) at c.push_uleb.ensures.ok in
    let lt : c.args.index < 2 ^ 32 = omega arith in
    appended c.args.index (c.args.out.now.items ++ c.args.before.now) c.push_uleb.new.out.items c.push_uleb.result lt a
