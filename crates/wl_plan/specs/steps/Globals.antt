-- How globals of the output come to be.
use Rattle.std.specs.Prelude.{◌≡◌, ℕ, ◌∷◌, ◌++◌, Bool, true, false, List, [], if◌then◌else◌, Contains, Result, Ok, Err}
use Rattle.std.specs.List.{AllZip}
use Rattle.std.specs.Option.{option_map_or}
use Rattle.wl_linking.specs.Steps.{Clear}
use Rattle.wl_linking.specs.declared.error.LinkError.{LinkError}
use Rattle.wl_symbols.specs.declared.entry.Definition.{Definition}
use Rattle.wl_symbols.specs.LinkerNames.{named_global}
use Rattle.wl_symbols.specs.declared.linker_symbol.WasmLinkerSymbol.TheVariants as linker
use Rattle.wl_symbols.specs.declared.made_sort.NamedGlobal.{NamedGlobal}
use Rattle.wl_symbols.specs.declared.units.WasmGcUnit.TheVariants.{DefinedGlobal as OwnGlobal}
use Rattle.wl_bind.specs.GlobalSpace.{GlobalEntry, GlobalOf, made_global_part, address_part, got_mem_part, got_func_part, dynamic_part, forced_part}
use Rattle.wl_symbols.specs.Input.{Input, keeps}
use Rattle.wl_bind.specs.Sameness.{same_definition}
use Rattle.wl_bind.specs.Scan.{got_mem_of}
use Rattle.wl_bind.specs.declared.binding.GlobalTarget.TheVariants.{Defined}
use Rattle.wl_symbols.specs.declared.relocated.Relocated.{Relocated}
use Rattle.wl_places.specs.AddressSteps.{IsBook}
use Rattle.wl_places.specs.Addresses.{IsAddressTooHigh}
use Rattle.wl_plan.specs.steps.Bindings.{AreBindings}
use Rattle.wl_plan.specs.Globals.{IsConstant, i32_global, start_of_global, may_change, origin_of_global, IsPlannedGlobal}
use Rattle.wl_places.specs.IndexedMaps.{AreWholeMaps}
use Rattle.wl_plan.specs.declared.global_starts.GlobalSources.{GlobalSources}
use Rattle.wl_plan.specs.declared.global_starts.Start.{Start}
use Rattle.wl_output.specs.declared.entities.GlobalOrigin.TheVariants as origin
use Rattle.wl_plan.specs.declared.layout.PlannedGlobal.{PlannedGlobal}

-- ---- sources

-- they are those of one link, where no address is past the last one
pub record AreSources (s : GlobalSources) : Type 0 where
  pub book : IsBook s.book.now
  pub bindings : AreBindings s.book.now.input.now s.bindings.now
  pub maps : AreWholeMaps s.book.now.input.now s.book.now.placing.now s.maps.now
  pub low : Clear (IsAddressTooHigh s.book.now.input.now s.book.now.placing.now)

-- ---- what a global starts with

-- what was found is what the entry starts with, or why it can't
abbrev pub AnswersStart : GlobalSources → GlobalEntry → Result Start LinkError → Type 0
AnswersStart s entry (Ok start) =
    (start_of_global s.book.now.input.now s.book.now.placing.now entry ≡ Ok start.number)
    × ((may_change s.book.now.input.now s.book.now.placing.now entry ≡ start.mutable)
    × (origin_of_global entry ≡ origin.Made start.made))
AnswersStart s entry (Err e) =
    start_of_global s.book.now.input.now s.book.now.placing.now entry ≡ Err e

-- the relocation asks for the entry of that definition in the GOT list of data
abbrev pub asks_for_entry : Input → Definition → Relocated → Bool
asks_for_entry input d r = option_map_or (same_definition d) (got_mem_of input r) false

-- ---- lists that grow

-- the list grows by a global that the linker makes, which starts so
pub record AddsMade (start : Start) (old new : List PlannedGlobal) : Type 0 where
  pub body : List ℕ
  pub constant : IsConstant start.number body
  pub grown : new ≡ old ++ record {
    global = record { ty = i32_global start.mutable; body = body; owned = true };
    origin = origin.Made start.made;
  } ∷ []

-- the list grows by globals that are these entries
pub record AddsPart (s : GlobalSources) (part : List GlobalEntry) (old new : List PlannedGlobal)
    : Type 0 where
  pub more : List PlannedGlobal
  pub are : AllZip (IsPlannedGlobal s.book.now.input.now s.book.now.placing.now) part more
  pub grown : new ≡ old ++ more

-- one of these entries can't start
pub record IsPartFault (s : GlobalSources) (part : List GlobalEntry) (e : LinkError) : Type 0 where
  pub entry : GlobalEntry
  pub one : Contains part entry
  pub fault : start_of_global s.book.now.input.now s.book.now.placing.now entry ≡ Err e

-- ---- parts

-- the global of that name, where the output has it
abbrev pub named_part : Input → NamedGlobal → List GlobalEntry
named_part input named = made_global_part input (named_global named)

-- those that the output has
abbrev pub linker_parts : Input → List GlobalEntry
linker_parts input =
    made_global_part input linker.MemoryBase
    ++ (made_global_part input linker.TableBase
    ++ (made_global_part input linker.StackPointer
    ++ (made_global_part input linker.TlsBase
    ++ (made_global_part input linker.TlsSize
    ++ made_global_part input linker.TlsAlign))))

-- all that the linker makes
abbrev pub made_parts : Input → List GlobalEntry
made_parts input =
    linker_parts input
    ++ (address_part input
    ++ (got_mem_part input
    ++ (got_func_part input
    ++ (dynamic_part input
    ++ forced_part input))))

-- a global of an object, where it is kept
abbrev pub own_global_part : Input → ℕ → ℕ → List GlobalEntry
own_global_part input object number =
    if keeps input object (OwnGlobal number) then GlobalOf (Defined object number) ∷ [] else []
