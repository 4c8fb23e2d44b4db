-- The laws of imports and exports.
use Rattle.std.proofs.Common.{[], ◌∷◌, refl}
use Rattle.wl_bytes.proofs.Readings.{IsReading}
use Rattle.wl_module.specs.declared.imports.ExternalKind.{ExternalKind}
use Rattle.wl_module.specs.declared.imports.ExternalKind.TheVariants.{Func, Table, Memory, Global}
use Rattle.wl_module.specs.declared.imports.ImportEntity.TheVariants.{Func as AFunction, Table as ATable, Memory as AMemory, Global as AGlobal}
use Rattle.wl_bytes.specs.Lists.{Listed, ListedFault, list_at}
use Rattle.wl_module.specs.Imports.{kind_code, kind_error, IsExternalKind, ExternalKindFault, external_kind_at, IsEntity, EntityFault, entity_at, import_from, IsImport, ImportFault, import_at, memory_import_once, plain_imports, ArePlacedImports, placed_imports_of, AreImports, ImportsFault, imports_of}
use Rattle.wl_module.specs.Exports.{export_from, IsExport, ExportFault, export_at, AreExports, ExportsFault, exports_of}
use Rattle.wl_bytes.proofs.ReadingLaws.{both, seen}
use Rattle.wl_bytes.proofs.ListLaws.{AreAll, coded_reading, number_reading, word_reading, list_reading, whole_reading, IsWholeReading, seen_reading}
use Rattle.wl_bytes.proofs.CheckLaws.{placed_name_reading}
use Rattle.wl_bytes.proofs.AfterLaws.{list_once_reading}
use Rattle.wl_module.proofs.LimitLaws.{memory_type_reading, table_type_reading}
use Rattle.wl_module.proofs.GlobalLaws.{global_type_reading}

-- ---- kinds

all_kinds : AreAll kind_code (Func ∷ Table ∷ Memory ∷ Global ∷ [])
all_kinds Func = refl
all_kinds Table = refl
all_kinds Memory = refl
all_kinds Global = refl

kind_reading : IsReading IsExternalKind ExternalKindFault external_kind_at
unfolding external_kind_at
kind_reading = coded_reading kind_code (Func ∷ Table ∷ Memory ∷ Global ∷ []) kind_error all_kinds

-- ---- imports

entity_reading : (kind : ExternalKind) → IsReading (IsEntity kind) (EntityFault kind) (entity_at kind)
unfolding entity_at
entity_reading Func = seen (λ n. AFunction n) number_reading
entity_reading Table = seen (λ t. ATable t) table_type_reading
entity_reading Memory = seen (λ m. AMemory m) memory_type_reading
entity_reading Global = seen (λ g. AGlobal g) global_type_reading

import_reading : IsReading IsImport ImportFault import_at
unfolding import_at
import_reading = seen import_from (both word_reading (λ _. both placed_name_reading (λ _. both kind_reading entity_reading)))

pub placed_imports_reading : IsWholeReading ArePlacedImports ImportsFault placed_imports_of
placed_imports_reading = whole_reading _ _ _ (list_once_reading memory_import_once import_reading)

pub imports_reading : IsWholeReading AreImports ImportsFault imports_of
imports_reading = seen_reading plain_imports ArePlacedImports ImportsFault placed_imports_of placed_imports_reading

-- ---- exports

pub export_reading : IsReading IsExport ExportFault export_at
unfolding export_at
export_reading = seen export_from (both word_reading (λ _. both kind_reading (λ _. number_reading)))

pub exports_reading : IsWholeReading AreExports ExportsFault exports_of
exports_reading = whole_reading (Listed IsExport) (ListedFault IsExport ExportFault) (list_at export_at) (list_reading IsExport ExportFault export_at export_reading)
