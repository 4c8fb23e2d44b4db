use Rattle.std.proofs.Common.{◌||◌, ◌&&◌, filter_map}
use Rattle.wl_custom.specs.RelocationTypes.{is_table_index, is_global_index}
use Rattle.wl_bind.specs.Sameness.{same_target}
use Rattle.wl_symbols.specs.Relocations.{relocations}
use Rattle.wl_bind.specs.Scan.{table_function_of, table_functions, function_of, names_function}
use Rattle.wl_bind.specs.declared.binding.FunctionTarget.TheVariants.{Stub}
use Rattle.wl_lists.proofs.Firsts.{in_firsts}
use Rattle.wl_lists.proofs.In.{in_at}
use Rattle.wl_bind.proofs.ListedLaws.{made_of_some}
use Rattle.wl_bind.proofs.SameLaws.{no_stub_slotted}
use Rattle.wl_bind.proofs.laws.stubs_have_no_slot.Goals as goal

pub returns : goal.returns
returns c = λ input i object slot at.
    let stub = Stub object slot in
    let list = filter_map (table_function_of input) (relocations input) in
    let made = made_of_some (table_function_of input) (relocations input) stub (in_firsts same_target list stub (in_at (table_functions input) i stub at)) in
    no_stub_slotted ((is_table_index made.x.relocation.ty || is_global_index made.x.relocation.ty) && names_function input made.x)
    (function_of input made.x) object slot made.is
