-- Why the things of a link can't be numbered.
use Rattle.std.specs.Prelude.{◌≡◌, ◌⊎◌, ◌<◌, length, ⊤}
use Rattle.wl_linking.specs.declared.error.LinkError.{LinkError}
use Rattle.wl_linking.specs.declared.error.LinkError.TheVariants.{OutOfMemory, TooLarge}
use Rattle.wl_linking.specs.declared.error.Quantity.TheVariants.{Space}
use Rattle.wl_linking.specs.Steps.{Step, NoStep}
use Rattle.wl_index.specs.declared.index.TheConstants.{MAX_ENTRIES}
use Rattle.wl_symbols.specs.Input.{Input}
use Rattle.wl_bind.specs.Bound.{bind_steps}
use Rattle.wl_bind.specs.FunctionSpace.{function_parts, function_space}
use Rattle.wl_bind.specs.GlobalSpace.{global_parts, global_space}
use Rattle.wl_bind.specs.OutputTypes.{output_types}
use Rattle.wl_bind.specs.Parts.{total, lengths_of, IsOver}

-- the function space or the global space has too many entries
abbrev pub AreTooMany : Input → Type 0
AreTooMany input =
    (MAX_ENTRIES < length (function_space input)) ⊎ (MAX_ENTRIES < length (global_space input))

-- memory ran out, or the parts before the objects' own functions, or those before their own globals,
-- have too many entries together
abbrev pub ArePartsOver : Input → LinkError → Type 0
ArePartsOver input e =
    IsOver (total (lengths_of (function_parts input))) e
    ⊎ IsOver (total (lengths_of (global_parts input))) e

-- memory ran out, or one of the two would have too many
abbrev pub IsSpaceOver : Input → LinkError → Type 0
IsSpaceOver input OutOfMemory = ⊤
IsSpaceOver input (TooLarge what) = (what ≡ Space) × AreTooMany input
IsSpaceOver input _ = ⊥

-- the types, the functions or the globals of the output would be too many; wrappers of exports come
-- on top of these
pub record IsSpaceTooLarge (input : Input) (e : LinkError) : Type 0 where
  pub told : e ≡ TooLarge Space
  pub over : (MAX_ENTRIES < length (output_types input)) ⊎ AreTooMany input

-- the reasons, in the order in which they are judged
abbrev pub index_fault : Input → LinkError → Type 0
index_fault input = bind_steps input (Step (IsSpaceTooLarge input) NoStep)
