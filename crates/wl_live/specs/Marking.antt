-- What is marked, and which faults that shows.
use Rattle.std.specs.Prelude.{◌≡◌, ℕ, ◌+◌, ◌&&◌, Bool, true, false, if◌then◌else◌, List, Contains, count_by, slice_index_or}
use Rattle.wl_bytes.specs.declared.read_error.ReadError.{ReadError}
use Rattle.wl_reach.specs.Marks.{count_set}
use Rattle.wl_reach.specs.Search.{IsReached}
use Rattle.wl_symbols.specs.Link.{Link}
use Rattle.wl_symbols.specs.Units.{exists, unit_number}
use Rattle.wl_live.specs.Facts.{Facts}
use Rattle.wl_live.specs.Table.{Reference, Begins, Leads, references}
use Rattle.wl_live.specs.declared.object_facts.UnitFault.{UnitFault}
use Rattle.wl_symbols.specs.declared.units.LinkUnit.{LinkUnit}
use Rattle.wl_symbols.specs.declared.units.UnitCounts.{UnitCounts}
use Rattle.wl_symbols.specs.Live.{Live, is_live}

-- of the units that exist exactly those are marked to which references of the table lead from where
-- they begin
pub record UnitsReached
    (ns : List UnitCounts) (refs : List Reference) (begins : List LinkUnit) (marks : List Bool)
    : Type 0 where
  pub only : (u : LinkUnit) → exists ns u ≡ true
      → slice_index_or marks (unit_number ns u) false ≡ true
      → IsReached (Begins ns begins) (Leads ns refs) u
  pub every : (u : LinkUnit) → exists ns u ≡ true → IsReached (Begins ns begins) (Leads ns refs) u
      → slice_index_or marks (unit_number ns u) false ≡ true

-- the reference leads from a live unit to one that exists
abbrev pub is_followed : Live → Reference → Bool
is_followed live r = exists live.units r.to && is_live live r.from

-- a step for each unit that is live, and one for each of the references that lead from one
abbrev pub search_steps : Live → List Reference → ℕ
search_steps live refs = count_set live.marks + count_by (is_followed live) refs

-- the steps in which the live units are found; none where all are kept without a search
abbrev pub steps_to : Link → List Facts → Live → ℕ
steps_to link facts live =
    if link.args.gc_sections then search_steps live (references link live.units facts) else 0

-- none of these faults is of a live unit
abbrev pub HasNoKept : Live → ℕ → List UnitFault → Type 0
HasNoKept live object faults =
    (f : UnitFault) → Contains faults f
    → is_live live (record { object = object; unit = f.unit }) ≡ true → ⊥

-- the error is that of one of these faults, whose unit is live
abbrev pub IsKeptOne : Live → ℕ → List UnitFault → ReadError → Type 0
IsKeptOne live object faults e =
    (f : UnitFault) × Contains faults f
    × (is_live live (record { object = object; unit = f.unit }) ≡ true) × (f.error ≡ e)
