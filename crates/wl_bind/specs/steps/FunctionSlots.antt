-- The function slots of a link, as they are handed on.
use Rattle.std.specs.Prelude.{◌≡◌, map}
use Rattle.wl_custom.specs.declared.symbols.WasmSymbolKind.TheVariants.{Func}
use Rattle.wl_symbols.specs.Left.{first_slot, stub_slots}
use Rattle.wl_symbols.specs.Input.{Input}
use Rattle.wl_bind.specs.FunctionBinding.{left_functions, link_stubs}
use Rattle.wl_bind.specs.FunctionSymbols.{function_bindings}
use Rattle.wl_bind.specs.steps.HostSlots.{AreHostFunctions}
use Rattle.wl_bind.specs.Resolutions.{function_resolution}
use Rattle.wl_bind.specs.SlotRows.{slot_rows}
use Rattle.wl_bind.specs.declared.function_slots.FunctionSlots.{FunctionSlots}

-- what each is bound to and resolved to, and those that are stubs' and the host's
pub record AreFunctionSlots (input : Input) (s : FunctionSlots) : Type 0 where
  pub bindings : s.bindings ≡ function_bindings input
  pub resolutions : s.resolutions.items
      ≡ slot_rows (function_resolution input) Func 0 input.link.objects
  pub stub_slots : s.weak.slots.items ≡ stub_slots input.link.objects (left_functions input)
  pub stubs : s.weak.stubs ≡ map first_slot (link_stubs input)
  pub hosts : AreHostFunctions input s.hosts
