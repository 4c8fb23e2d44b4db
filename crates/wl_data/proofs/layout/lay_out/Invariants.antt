use Rattle.std.proofs.Common.{take}
use Rattle.wl_data.specs.Layouts.{AreLaidOut}
use Rattle.wl_data.proofs.layout.lay_out.Given as goal

abbrev pub invariant-loop-segment : goal.invariant-loop-segment
invariant-loop-segment l = AreLaidOut l.pass (take l.segment-index l.segments) l.fn.frontier l.frontier l.layouts.items
