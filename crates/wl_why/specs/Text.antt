-- Why units are kept, as text.
use Rattle.std.specs.Prelude.{◌≡◌, ℕ, ◌==◌, ◌&&◌, Bool, false, not, if◌then◌else◌, List, [], ◌∷◌, ◌++◌, Option, Some, None, filter, codes, decimal}
use Rattle.std.specs.List.{flat_map, list_any}
use Rattle.wl_symbols.specs.Link.{Link}
use Rattle.wl_symbols.specs.Units.{units_of, unit_index, unit_number_if}
use Rattle.wl_symbols.specs.declared.units.LinkUnit.{LinkUnit}
use Rattle.wl_symbols.specs.declared.units.UnitCounts.{UnitCounts}
use Rattle.wl_symbols.specs.declared.units.WasmGcUnit.{WasmGcUnit}
use Rattle.wl_symbols.specs.declared.units.WasmGcUnit.TheVariants.{DefinedFunction, DefinedGlobal, DataSegment, FunctionImport, GlobalImport}
use Rattle.wl_why.specs.Certificate.{step_unit, unit_at_place, IsValid}
use Rattle.wl_why.specs.Units.{all_units}
use Rattle.wl_why.specs.declared.certificate.Step.{Step}

-- ---- units

-- the kind of a unit
abbrev pub unit_kind_name : WasmGcUnit → List ℕ
unit_kind_name (DefinedFunction k) = codes "function"
unit_kind_name (DefinedGlobal k) = codes "global"
unit_kind_name (DataSegment k) = codes "segment"
unit_kind_name (FunctionImport k) = codes "funcimport"
unit_kind_name (GlobalImport k) = codes "globalimport"

-- a unit after a blank: its object's number, its kind, and its number among those of the kind
abbrev pub unit_text : LinkUnit → List ℕ
unit_text u =
    codes " " ++ decimal u.object ++ codes " " ++ unit_kind_name u.unit ++ codes " "
    ++ decimal (unit_index u.unit)

-- ---- kept units

-- the unit that a step comes from, after a blank
abbrev pub from_text : Option LinkUnit → List ℕ
from_text None = []
from_text (Some u) = codes " from" ++ unit_text u

-- why the unit of a step is kept: another step's unit refers to it; it is kept by itself; or
-- nothing is left out
abbrev pub reason_text : Bool → List Step → Option ℕ → List ℕ
reason_text collects steps None = if collects then codes " root" else codes " off"
reason_text collects steps (Some from) = from_text (unit_at_place steps from)

-- the line of a step
abbrev pub why_line : Bool → List Step → Step → List ℕ
why_line collects steps s =
    codes "why" ++ unit_text (step_unit s) ++ reason_text collects steps s.from ++ codes "\n"

-- ---- units that are left out

-- the two are units of the same kind with the same number
abbrev pub is_same : WasmGcUnit → WasmGcUnit → Bool
is_same (DefinedFunction j) (DefinedFunction k) = j == k
is_same (DefinedGlobal j) (DefinedGlobal k) = j == k
is_same (DataSegment j) (DataSegment k) = j == k
is_same (FunctionImport j) (FunctionImport k) = j == k
is_same (GlobalImport j) (GlobalImport k) = j == k
is_same u v = false

-- the unit has a step
abbrev pub is_listed : List Step → LinkUnit → Bool
is_listed steps u = list_any (λ (s : Step). (s.object == u.object) && is_same s.unit u.unit) steps

-- the line of a unit that has none
abbrev pub drop_line : LinkUnit → List ℕ
drop_line u = codes "drop" ++ unit_text u ++ codes "\n"

-- the lines of the units that aren't marked
abbrev pub drop_lines : List LinkUnit → List Bool → List ℕ
drop_lines [] marks = []
drop_lines (u ∷ units) [] = []
drop_lines (u ∷ units) (is_marked ∷ marks) =
    (if is_marked then [] else drop_line u) ++ drop_lines units marks

-- the number of the unit of a step, if it exists
abbrev pub step_number : List UnitCounts → Step → Option ℕ
step_number ns s = unit_number_if ns (step_unit s)

-- ---- all lines

-- a line for each step in order, and then one for each unit that has none, by object, kind and
-- number
abbrev pub certificate_text : Link → List Step → List ℕ
certificate_text link steps =
    flat_map (why_line link.args.gc_sections steps) steps
    ++ flat_map drop_line
    (filter (λ u. not (is_listed steps u)) (all_units (units_of link.objects)))

-- the text is that of a valid certificate
pub record IsWhyText (link : Link) (text : List ℕ) : Type 0 where
  pub steps : List Step
  pub valid : IsValid link steps
  pub is : text ≡ certificate_text link steps
