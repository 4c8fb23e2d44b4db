use Rattle.std.proofs.Common.{◌∙◌, arith}
use Rattle.std.proofs.lemmas.List.Sums.{length-filter}
use Rattle.wl_linking.specs.Spaces.{is_of_kind}
use Rattle.wl_module.specs.Imports.{Imported}
use Rattle.wl_module.specs.declared.imports.ExternalKind.TheVariants as external
use Rattle.wl_custom.specs.declared.symbols.WasmSymbolKind.TheVariants.{Func, Global}
use Rattle.wl_symbols.specs.ImportSlots.{slot_imports}
use Rattle.wl_symbols.proofs.SlotNumberLaws.{slots_length, slot_number}
use Rattle.wl_symbols.proofs.slot_laws.slots_are_numbered.Goals as goal

pub returns : goal.returns
returns c = record {
  functions = λ object o. slots_length object Func o.symbols 0 (slot_imports Func o.imports) ∙ length-filter (λ (i : Imported). is_of_kind external.Func i.entity) o.imports;
  globals = λ object o. slots_length object Global o.symbols 0 (slot_imports Global o.imports) ∙ length-filter (λ (i : Imported). is_of_kind external.Global i.entity) o.imports;
  number = λ object kind o n t here. let e = slot_number object kind o.symbols 0 (slot_imports kind o.imports) n t here in omega (arith, e);
}
