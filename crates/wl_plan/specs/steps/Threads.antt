-- How what begins threads is gathered.
use Rattle.std.specs.Prelude.{◌≡◌, ◌⊎◌, ℕ, ◌++◌, List, Contains, Some, slice_get}
use Rattle.std.specs.List.{AllZip}
use Rattle.std.specs.Option.{option_map, option_to_list}
use Rattle.wl_symbols.specs.declared.entry.Definition.{Definition}
use Rattle.wl_synth.specs.declared.parts.TlsGotFixup.{TlsGotFixup}
use Rattle.wl_places.specs.Addresses.{address_of_definition}
use Rattle.wl_linking.specs.declared.error.LinkError.{LinkError}
use Rattle.wl_linking.specs.declared.error.LinkError.TheVariants as link
use Rattle.wl_ops.specs.declared.op.Op.{Op}
use Rattle.wl_synth.specs.Encoding.{IsEncoded, EncodeFault}
use Rattle.wl_synth.specs.declared.error.SynthError.{SynthError}
use Rattle.wl_synth.specs.declared.error.SynthError.TheVariants as synth
use Rattle.wl_symbols.specs.Input.{Input}
use Rattle.wl_bind.specs.Scan.{got_mem}
use Rattle.wl_symbols.specs.Relocations.{relocations}
use Rattle.wl_symbols.specs.declared.relocated.Relocated.{Relocated}
use Rattle.wl_plan.specs.Bodies.{IsBodyFault}
use Rattle.wl_plan.specs.Fixups.{IsFixup}
use Rattle.wl_plan.specs.Threads.{place_in_block, IsGotFixup}
use Rattle.wl_output.specs.declared.fixups.Fixup.{Fixup}
use Rattle.wl_places.specs.declared.placing.Placing.{Placing}

-- it is what a kept relocation becomes
pub record IsFixupOf (input : Input) (g : Placing) (f : Fixup) : Type 0 where
  pub relocated : Relocated
  pub kept : Contains (relocations input) relocated
  pub is : IsFixup input g relocated f

-- what is reported where a body isn't encoded
abbrev pub body_error : SynthError → LinkError
body_error synth.OutOfMemory = link.OutOfMemory
body_error (synth.Range number) = link.ConstantRange number

-- memory runs out, or a constant of a body is too great
abbrev pub IsBodyRefusal : Input → Placing → LinkError → Type 0
IsBodyRefusal input g e = (e ≡ link.OutOfMemory) ⊎ IsBodyFault input g e

-- the bytes are a body of operators that are so
pub record IsSpelledFor (are_ops : List Op → Type 0) (bytes : List ℕ) : Type 0 where
  pub ops : List Op
  pub are : are_ops ops
  pub encoded : IsEncoded ops bytes

-- memory runs out, or a constant of such operators is too great
abbrev pub IsUnspelled : (List Op → Type 0) → LinkError → Type 0
IsUnspelled are_ops e =
    (e ≡ link.OutOfMemory)
    ⊎ ((ops : List Op) × (number : ℕ) × are_ops ops × EncodeFault ops (synth.Range number)
    × (e ≡ link.ConstantRange number))

-- the list grows by what the global of that entry of the GOT list of data is set to
pub record AddsGot (input : Input) (g : Placing) (k : ℕ) (old new : List TlsGotFixup) : Type 0 where
  pub definition : Definition
  pub here : slice_get (got_mem input) k ≡ Some definition
  pub more : List TlsGotFixup
  pub are :
      AllZip (IsGotFixup input)
      (option_to_list
      (option_map (λ (place : ℕ). (k, place))
      (place_in_block (address_of_definition input g definition))))
      more
  pub grown : new ≡ old ++ more
