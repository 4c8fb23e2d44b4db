-- Slots of one import with different types.
use Rattle.std.specs.Prelude.{◌≡◌, ◌⊎◌, ◌&&◌, Bool, true, false, not, List, [], Contains, Option, Some, None, find, if◌then◌else◌}
use Rattle.indexmap.specs.IndexSet.{insert_all}
use Rattle.wl_module.specs.Types.{FunctionType, same_value, same_type}
use Rattle.wl_module.specs.declared.globals.GlobalType.{GlobalType}
use Rattle.wl_module.specs.declared.imports.ImportEntity.{ImportEntity}
use Rattle.wl_module.specs.declared.imports.ImportEntity.TheVariants as entity
use Rattle.wl_linking.specs.Object.{Object}
use Rattle.wl_linking.specs.declared.error.LinkError.{LinkError}
use Rattle.wl_linking.specs.declared.error.LinkError.TheVariants.{ConflictingTypes}
use Rattle.wl_symbols.specs.ImportSlots.{ImportSlot}
use Rattle.wl_symbols.specs.Left.{same_field, same_import, stub_slots}
use Rattle.wl_symbols.specs.Input.{Input}
use Rattle.wl_bind.specs.FunctionBinding.{left_functions, host_functions}
use Rattle.wl_bind.specs.FunctionTypes.{slot_type}
use Rattle.wl_bind.specs.GlobalBinding.{host_globals}

-- ---- types of slots

-- the same type of functions; two that aren't there are the same
abbrev pub same_function_type : Option FunctionType → Option FunctionType → Bool
same_function_type (Some a) (Some b) = same_type a b
same_function_type (Some a) None = false
same_function_type None (Some b) = false
same_function_type None None = true

-- the type of a global that is imported
abbrev pub global_type : ImportEntity → Option GlobalType
global_type (entity.Global g) = Some g
global_type (entity.Func number) = None
global_type (entity.Table t) = None
global_type (entity.Memory m) = None

-- the same type of globals: of the value, and whether it may change
abbrev pub same_global_type : Option GlobalType → Option GlobalType → Bool
same_global_type (Some a) (Some b) =
    same_value a.content_type b.content_type
    && (if a.mutable then b.mutable else not b.mutable)
same_global_type (Some a) None = false
same_global_type None (Some b) = false
same_global_type None None = true

-- the two slots have the same type: as functions, and as globals
abbrev pub same_slot_type : List Object → ImportSlot → ImportSlot → Bool
same_slot_type objects a b =
    same_function_type (slot_type objects a) (slot_type objects b)
    && same_global_type (global_type a.item.entity) (global_type b.item.entity)

-- ---- conflicts

-- the second slot is of the first one's import, and has another type
abbrev pub differs : List Object → (ImportSlot → ImportSlot → Bool) → ImportSlot → ImportSlot → Bool
differs objects same first t = same first t && not (same_slot_type objects first t)

-- slots of one import, the first of which is the first of all these slots that is of that import,
-- and the second the first of them that has another type than that
pub record IsConflict (objects : List Object) (same : ImportSlot → ImportSlot → Bool)
    (slots : List ImportSlot) (e : LinkError) : Type 0 where
  pub first : ImportSlot
  pub is_first : Contains (insert_all same [] slots) first
  pub second : ImportSlot
  pub is_second : find (differs objects same first) slots ≡ Some second
  pub told : e ≡ ConflictingTypes first.item.name first.object first.number
      second.object second.number

-- two slots of one stub have different types
abbrev pub IsStubConflict : Input → LinkError → Type 0
IsStubConflict input =
    IsConflict input.link.objects same_field
    (stub_slots input.link.objects (left_functions input))

-- two slots of one host import have different types
abbrev pub IsHostConflict : Input → LinkError → Type 0
IsHostConflict input e =
    IsConflict input.link.objects same_import (host_functions input) e
    ⊎ IsConflict input.link.objects same_import (host_globals input) e
