-- The parts that a plan is made from.
use Rattle.std.specs.Prelude.{◌≡◌, ◌≤◌, MatchOption, false, length, Some, slice_get}
use Rattle.wl_index.specs.declared.index.TheConstants.{MAX_ENTRIES}
use Rattle.wl_bind.specs.FunctionSpace.{InitMemory, function_space}
use Rattle.wl_bind.specs.Made.{has_init_memory, has_shared_tls}
use Rattle.wl_symbols.specs.Input.{Input}
use Rattle.wl_bind.specs.OutputTypes.{output_types}
use Rattle.wl_exports.specs.Wrapped.{AreWrappers}
use Rattle.wl_places.specs.AddressSteps.{IsBook}
use Rattle.wl_places.specs.Addresses.{segment_space}
use Rattle.wl_plan.specs.Bodies.{AreBodies}
use Rattle.wl_plan.specs.BodySteps.{IsRenumbering}
use Rattle.wl_plan.specs.steps.Bindings.{AreBindings}
use Rattle.wl_plan.specs.Extras.{output_debug_sections}
use Rattle.wl_plan.specs.Fixups.{AreFixups}
use Rattle.wl_plan.specs.Functions.{AreOutputFunctions}
use Rattle.wl_plan.specs.Globals.{ArePlannedGlobals}
use Rattle.wl_plan.specs.Imports.{AreImports, own_memory}
use Rattle.wl_places.specs.IndexedMaps.{AreWholeMaps}
use Rattle.wl_plan.specs.steps.Outline.{AreFew, HasWrapperRoom}
use Rattle.wl_places.specs.Placing.{IsPlacing}
use Rattle.wl_plan.specs.steps.Sizes.{HasSizes}
use Rattle.wl_plan.specs.Table.{AreElements, function_slots, output_table}
use Rattle.wl_places.specs.declared.addresses.AddressBook.{AddressBook}
use Rattle.wl_places.specs.declared.placing.Placing.{Placing}
use Rattle.wl_plan.specs.declared.plan.OutputModule.{OutputModule}
use Rattle.wl_plan.specs.declared.plan.OutputNames.{OutputNames}
use Rattle.wl_plan.specs.declared.plan.OutputParts.{OutputParts}
use Rattle.wl_plan.specs.declared.plan.OutputValues.{OutputValues}
use Rattle.wl_plan.specs.declared.plan.PlacedThings.{PlacedThings}
use Rattle.wl_plan.specs.declared.rewriting.Renumbering.{Renumbering}

-- they are those of one link, and there is room for its segments
pub record ArePlacedThings (t : PlacedThings) : Type 0 where
  pub placed : IsPlacing t.input.now t.placing.now
  pub bindings : AreBindings t.input.now t.bindings.now
  pub maps : AreWholeMaps t.input.now t.placing.now t.maps.now
  pub functions : AreOutputFunctions t.input.now (output_types t.input.now) t.functions.now
  pub wrappers : AreWrappers t.input.now t.wrappers.now
  pub few : AreFew t.input.now
  pub wrapper_room : HasWrapperRoom t.input.now
  pub room : length (segment_space t.placing.now) ≤ MAX_ENTRIES

-- the book is of the same link
pub record IsBookOf (t : PlacedThings) (book : AddressBook) : Type 0 where
  pub book_is : IsBook book
  pub input : book.input.now ≡ t.input.now
  pub placing : book.placing.now ≡ t.placing.now

-- and so are the numbers of segments
pub record IsRenumberingOf (t : PlacedThings) (r : Renumbering) : Type 0 where
  pub is : IsRenumbering r
  pub input : r.input.now ≡ t.input.now
  pub placing : r.placing.now ≡ t.placing.now

-- what takes its numbers from where things lie
pub record HasValues (input : Input) (g : Placing) (values : OutputValues) : Type 0 where
  pub globals : ArePlannedGlobals input g values.globals
  pub elements : AreElements input values.elements
  pub slots : values.slots ≡ function_slots input
  pub fixups : AreFixups input g values.fixups

-- what is imported, and the debug sections
pub record HasNames (input : Input) (g : Placing) (names : OutputNames) : Type 0 where
  pub imports : AreImports input (output_types input) g names.imports
  pub debug_sections : names.debug_sections ≡ output_debug_sections input.link

-- all of them
pub record HasPartsOf (input : Input) (g : Placing) (parts : OutputParts) : Type 0 where
  pub bodies : AreBodies input g parts.bodies
  pub values : HasValues input g parts.values
  pub names : HasNames input g parts.names
  pub sizes : HasSizes parts.bodies g.places.layouts parts.sizes

-- what the options and the bindings say
pub record IsOutputModule (input : Input) (g : Placing) (m : OutputModule) : Type 0 where
  pub memory : m.memory ≡ own_memory input g
  pub table : m.table ≡ output_table input
  pub start : MatchOption m.start_function
      (has_init_memory input ≡ false)
      (λ index. slice_get (function_space input) index ≡ Some InitMemory)
  pub shared_tls : m.shared_memory_tls ≡ has_shared_tls input
