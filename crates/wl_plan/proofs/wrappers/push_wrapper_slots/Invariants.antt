use Rattle.std.proofs.Common.{◌≡◌, ◌++◌, map, take}
use Rattle.wl_index.specs.declared.index.TheConstants.{WASM_DEAD_INDEX}
use Rattle.wl_exports.specs.Wrapped.{WrapperEntry}
use Rattle.wl_plan.proofs.wrappers.push_wrapper_slots.Given as goal

abbrev pub invariant-loop-wrapper : goal.invariant-loop-wrapper
invariant-loop-wrapper l =
    l.slots ≡ l.initial.slots
    ++ map (λ (w : WrapperEntry). WASM_DEAD_INDEX) (take l._wrapper-index l.wrappers)
