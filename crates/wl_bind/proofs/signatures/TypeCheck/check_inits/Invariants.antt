use Rattle.std.proofs.Common.{◌≡◌, ℕ, ◌<◌, false, slice_index_or}
use Rattle.wl_custom.specs.declared.infos.WasmInitFunc.{WasmInitFunc}
use Rattle.wl_bind.specs.BindingSteps.{is_mismatch}
use Rattle.wl_bind.proofs.signatures.TypeCheck.check_inits.Given as goal

abbrev pub invariant-loop-function : goal.invariant-loop-function
invariant-loop-function l =
    (k : ℕ) (f : WasmInitFunc) → k < l.function-index → slice_index_or l.file.init_funcs k f ≡ f → is_mismatch l.self.input.now l.object f.symbol_index ≡ false
