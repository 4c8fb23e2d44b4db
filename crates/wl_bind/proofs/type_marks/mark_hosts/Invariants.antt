use Rattle.std.proofs.Common.{◌≡◌, ◌≤◌, drop}
use Rattle.wl_bind.specs.steps.Merging.{mark_all, host_types}
use Rattle.wl_bind.proofs.HostMarkLaws.{types_left}
use Rattle.wl_bind.proofs.type_marks.mark_hosts.Given as goal

abbrev pub invariant-loop-import : goal.invariant-loop-import
invariant-loop-import l = record {
  few : l.number ≤ l.import-index;
  rest :
      mark_all l.marks.items (types_left l.input l.object l.file.symbols l.number (drop l.import-index l.import-items))
      ≡ mark_all l.fn.marks.items (host_types l.input l.object);
}
