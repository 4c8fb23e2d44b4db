use Rattle.std.proofs.Common.{take}
use Rattle.wl_bind.specs.GlobalSpace.{global_space}
use Rattle.wl_bind.specs.IndexMaps.{got_mem_globals, got_func_globals}
use Rattle.wl_bind.specs.Parts.{ArePlacesOf}
use Rattle.wl_bind.proofs.got_globals.got_globals.Given as goal

abbrev pub invariant-loop-number : goal.invariant-loop-number
invariant-loop-number l =
    let input = l.numbering.input.now in
    record {
      mem : ArePlacesOf (global_space input) (take l.number (got_mem_globals input l.object l.file)) l.mem;
      func : ArePlacesOf (global_space input) (take l.number (got_func_globals input l.object l.file)) l.func;
    }
