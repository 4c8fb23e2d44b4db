-- What function slots are bound to, by cases.
use Rattle.std.specs.Prelude.{◌≡◌, ◌⊎◌, true, false, Contains, Some, None}
use Rattle.wl_symbols.specs.ImportSlots.{ImportSlot}
use Rattle.wl_symbols.specs.SlotTargets.{slot_target}
use Rattle.wl_symbols.specs.declared.targets.SlotTarget.{SlotTarget}
use Rattle.wl_symbols.specs.Left.{is_stub}
use Rattle.wl_symbols.specs.Input.{Input}
use Rattle.wl_bind.specs.FunctionBinding.{left_functions, host_functions, named_function}
use Rattle.wl_bind.specs.declared.binding.FunctionTarget.{FunctionTarget}
use Rattle.wl_bind.specs.declared.binding.FunctionTarget.TheVariants.{Stub, Host}

-- names bind the slot to that
pub record IsNamed (input : Input) (t : ImportSlot) (target : FunctionTarget) : Type 0 where
  pub named : SlotTarget
  pub bound : slot_target input.link t ≡ Some named
  pub target_is : target ≡ named_function named

-- names leave the slot, it is a stub's, and the target is the stub that has its field name
pub record IsOfStub (input : Input) (t : ImportSlot) (target : FunctionTarget) : Type 0 where
  pub left : slot_target input.link t ≡ None
  pub stub : is_stub input.link.objects (left_functions input) t ≡ true
  pub first : ImportSlot
  pub stands : Contains (left_functions input) first
  pub first_is : is_stub input.link.objects (left_functions input) first ≡ true
  pub name : t.item.name ≡ first.item.name
  pub target_is : target ≡ Stub first.object first.number

-- names leave the slot, it is no stub's, and the target is the host import of its two names
pub record IsOfHost (input : Input) (t : ImportSlot) (target : FunctionTarget) : Type 0 where
  pub left : slot_target input.link t ≡ None
  pub no_stub : is_stub input.link.objects (left_functions input) t ≡ false
  pub first : ImportSlot
  pub stands : Contains (host_functions input) first
  pub module_ : t.item.origin ≡ first.item.origin
  pub name : t.item.name ≡ first.item.name
  pub target_is : target ≡ Host first.object first.number

-- one of the three
abbrev pub IsBoundAs : Input → ImportSlot → FunctionTarget → Type 0
IsBoundAs input t target =
    IsNamed input t target ⊎ (IsOfStub input t target ⊎ IsOfHost input t target)
