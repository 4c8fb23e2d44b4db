-- What a live set knows.
use Rattle.std.specs.Prelude.{◌≡◌, ℕ, zero, suc, ◌+◌, ◌&&◌, Bool, true, false, if◌then◌else◌, List, Option, Some, None, length, slice_index_or}
use Rattle.wl_symbols.specs.Link.{Link}
use Rattle.wl_symbols.specs.Units.{units_of, total_of, exists, unit_number, unit_index, sibling_of}
use Rattle.wl_symbols.specs.Kept.{IsKept}
use Rattle.wl_symbols.specs.References.{NumbersSegments}
use Rattle.wl_symbols.specs.declared.units.LinkUnit.{LinkUnit}
use Rattle.wl_symbols.specs.declared.units.UnitCounts.{UnitCounts}

-- the units of each object, a mark for each unit, and another for each that is the function of a
-- body that numbers segments
pub record Live : Type 0 where
  pub units : List UnitCounts
  pub marks : List Bool
  pub numbering : List Bool

-- the unit exists and is marked
abbrev pub is_live : Live → LinkUnit → Bool
is_live live u = exists live.units u && slice_index_or live.marks (unit_number live.units u) false

-- the unit exists, and is marked as the function of a body that numbers segments
abbrev pub numbers_segments : Live → LinkUnit → Bool
numbers_segments live u =
    exists live.units u && slice_index_or live.numbering (unit_number live.units u) false

-- of the units that there are exactly those are marked whose body numbers segments
pub record IsNumberingOf (link : Link) (units : List UnitCounts) (marks : List Bool) : Type 0 where
  pub sized : length marks ≡ total_of units
  pub only : (u : LinkUnit) → exists units u ≡ true
      → slice_index_or marks (unit_number units u) false ≡ true → NumbersSegments link u
  pub every : (u : LinkUnit) → exists units u ≡ true → NumbersSegments link u
      → slice_index_or marks (unit_number units u) false ≡ true

-- there is a mark for each unit of these objects, and exactly those that are kept are marked; so it
-- is with those whose bodies number segments
pub record IsLiveOf (link : Link) (live : Live) : Type 0 where
  pub units : live.units ≡ units_of link.objects
  pub sized : length live.marks ≡ total_of live.units
  pub only : (u : LinkUnit) → is_live live u ≡ true → IsKept link u
  pub every : (u : LinkUnit) → exists (units_of link.objects) u ≡ true → IsKept link u
      → is_live live u ≡ true
  pub numbering : IsNumberingOf link live.units live.numbering

-- how many units of the kind with a number below n are live
abbrev pub live_below : Live → LinkUnit → ℕ → ℕ
live_below live u zero = 0
live_below live u (suc n) =
    live_below live u n
    + (if is_live live (record { object = u.object; unit = sibling_of u.unit n }) then 1 else 0)

-- how many live units of its kind stand before a live one in its object
abbrev pub ordinal_of : Live → LinkUnit → Option ℕ
ordinal_of live u = if is_live live u then Some (live_below live u (unit_index u.unit)) else None

-- two units of one kind and one object
pub record AreOfOneKind (u v : LinkUnit) : Type 0 where
  pub object : v.object ≡ u.object
  pub kind : v.unit ≡ sibling_of u.unit (unit_index v.unit)
