-- The export section (core specification, "Export Section").
use Rattle.std.specs.Prelude.{ℕ, List, Result}
use Rattle.wl_bytes.specs.Cursor.{Cursor}
use Rattle.wl_bytes.specs.Leb.{IsU32}
use Rattle.wl_bytes.specs.Items.{IsName}
use Rattle.wl_bytes.specs.Grammar.{Then, ThenFault, then_at, map_at}
use Rattle.wl_module.specs.declared.imports.ExternalKind.{ExternalKind}
use Rattle.wl_bytes.specs.declared.read_error.ReadError.{ReadError}
use Rattle.wl_bytes.specs.Lists.{NumberFault, number_at, WordFault, word_at, Listed, ListedFault, list_at, Whole, WholeFault, whole_of}
use Rattle.wl_bytes.specs.Checks.{Seen}
use Rattle.wl_module.specs.Imports.{IsExternalKind, ExternalKindFault, external_kind_at}

-- an export as clauses see it: its name, and which thing of which kind
pub record Exported : Type 0 where
  pub name : List ℕ
  pub kind : ExternalKind
  pub index : ℕ

-- the first of the three that is at fault
abbrev pub ExportFault : ReadError → Cursor → Type 0
ExportFault =
    ThenFault IsName WordFault (λ _. ThenFault IsExternalKind ExternalKindFault (λ _. NumberFault))

-- what was read as an export
abbrev pub export_from : List ℕ × (ExternalKind × ℕ) → Exported
export_from p = record { name = p.0; kind = p.1.0; index = p.1.1 }

-- a name, a kind, and an index
abbrev pub IsExport : ℕ → Exported → List ℕ → Type 0
IsExport = Seen (Then IsName (λ _. Then IsExternalKind (λ _. IsU32))) export_from

-- the next export
unfoldable pub export_at : Cursor → Result (Exported × Cursor) ReadError
export_at c =
    map_at export_from (then_at word_at (λ _. then_at external_kind_at (λ _. number_at))) c

-- the payload is a list of these exports
abbrev pub AreExports : List Exported → List ℕ → Type 0
AreExports = Whole (Listed IsExport)

-- what is wrong with a payload that is no list of exports
abbrev pub ExportsFault : ReadError → List ℕ → Type 0
ExportsFault = WholeFault (Listed IsExport) (ListedFault IsExport ExportFault)

-- the exports of a whole payload
abbrev pub exports_of : List ℕ → Result (List Exported) ReadError
exports_of payload = whole_of (list_at export_at) payload
