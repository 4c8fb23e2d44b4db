use Rattle.std.proofs.Common.{map, take}
use Rattle.wl_custom.specs.declared.infos.WasmInitFunc.{WasmInitFunc}
use Rattle.wl_ctors.specs.CallSteps.{AddsCalls}
use Rattle.wl_ctors.proofs.calls.push_calls.Given as goal

abbrev pub invariant-loop-function : goal.invariant-loop-function
invariant-loop-function l =
    AddsCalls l.input
    (map (λ (f : WasmInitFunc). (l.object, f)) (take l.function-index l.file.init_funcs))
    l.fn.calls.items l.calls.items
