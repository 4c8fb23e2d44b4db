-- Why a link has no plan.
use Rattle.std.specs.Prelude.{◌≡◌, ◌⊎◌, ◌≤◌, ◌^◌, List}
use Rattle.wl_module.specs.Bodies.{Body}
use Rattle.wl_linking.specs.Steps.{Step, NoStep}
use Rattle.wl_linking.specs.declared.error.LinkError.{LinkError}
use Rattle.wl_linking.specs.declared.error.LinkError.TheVariants.{TooLarge}
use Rattle.wl_linking.specs.declared.error.Quantity.TheVariants.{Size}
use Rattle.wl_symbols.specs.Link.{Link}
use Rattle.wl_symbols.specs.Repeats.{IsDuplicate}
use Rattle.wl_data.specs.Sizes.{all_encoded_bytes, body_bytes}
use Rattle.wl_features.specs.Faults.{feature_steps}
use Rattle.wl_live.specs.Entry.{IsEntryFault}
use Rattle.wl_live.specs.Faults.{IsKeptFault}
use Rattle.wl_symbols.specs.Live.{Live, IsLiveOf}
use Rattle.wl_bind.specs.Bound.{bind_steps}
use Rattle.wl_symbols.specs.Input.{Input}
use Rattle.wl_bind.specs.SpaceFaults.{IsSpaceTooLarge}
use Rattle.wl_exports.specs.Faults.{IsExportFault}
use Rattle.wl_exports.specs.Wrapped.{AreTooManyWrappers}
use Rattle.wl_places.specs.Addresses.{IsAddressTooHigh}
use Rattle.wl_plan.specs.Bodies.{AreBodies, IsBodyFault}
use Rattle.wl_plan.specs.Fixups.{IsFixupFault}
use Rattle.wl_plan.specs.Globals.{IsGlobalFault}
use Rattle.wl_places.specs.Placing.{IsPlacing, place_steps}
use Rattle.wl_places.specs.declared.placing.Placing.{Placing}

-- ---- where it is known where things lie

-- a global can't start, or a field can't take an address
abbrev pub IsNumberFault : Input → Placing → LinkError → Type 0
IsNumberFault input g e = IsGlobalFault input g e ⊎ IsFixupFault input g e

-- that, or a constant of a body that the linker makes is too great
abbrev pub IsValueFault : Input → Placing → LinkError → Type 0
IsValueFault input g e = IsNumberFault input g e ⊎ IsBodyFault input g e

-- bodies of so many bytes that the size of their section can't be measured
pub record HasLargeBodies (input : Input) (g : Placing) : Type 0 where
  pub bodies : List Body
  pub are_bodies : AreBodies input g bodies
  pub large : 2 ^ 62 ≤ body_bytes bodies

-- the bodies, or the segments, have that many bytes together
abbrev pub IsSizeFault : Input → Placing → LinkError → Type 0
IsSizeFault input g e =
    (e ≡ TooLarge Size)
    × (HasLargeBodies input g ⊎ (2 ^ 62 ≤ all_encoded_bytes g.places.layouts))

-- the reasons that are judged where each address is one, in their order
abbrev pub value_steps : Input → Placing → LinkError → Type 0
value_steps input g =
    Step (IsValueFault input g)
    (Step (IsExportFault input)
    (Step (IsSizeFault input g)
    NoStep))

-- all of them
abbrev pub placed_fault : Input → Placing → LinkError → Type 0
placed_fault input g = Step (IsAddressTooHigh input g) (value_steps input g)

-- one of them holds where things lie
pub record IsPlacedFault (input : Input) (e : LinkError) : Type 0 where
  pub placing : Placing
  pub placed : IsPlacing input placing
  pub fault : placed_fault input placing e

-- the reasons that are judged from the placing of data on
abbrev pub laid_fault : Input → LinkError → Type 0
laid_fault input = place_steps input (Step (IsPlacedFault input) NoStep)

-- ---- where it is known what is kept

-- the reasons, in the order in which they are judged
abbrev pub kept_fault : Input → LinkError → Type 0
kept_fault input =
    bind_steps input
    (Step (IsSpaceTooLarge input)
    (Step (AreTooManyWrappers input)
    (laid_fault input)))

-- the link, and what is kept of it
abbrev pub input_of : Link → Live → Input
input_of link live = record { link = link; live = live }

-- one of them holds where things are kept
pub record IsLaterFault (link : Link) (e : LinkError) : Type 0 where
  pub live : Live
  pub kept : IsLiveOf link live
  pub fault : kept_fault (input_of link live) e

-- ---- all of them

-- why these objects have no plan: the first of these steps that has a cause
abbrev pub link_fault : Link → LinkError → Type 0
link_fault link =
    Step (IsDuplicate link.objects)
    (feature_steps link
    (Step (IsEntryFault link)
    (Step (IsKeptFault link)
    (Step (IsLaterFault link)
    NoStep))))
