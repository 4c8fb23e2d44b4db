-- What `resolve_reloc` answers for the kept relocations of a link.
use Rattle.std.specs.Prelude.{◌≡◌, ℕ, List, Some, Result, Err, Contains, slice_get}
use Rattle.std.specs.List.{AllByRecursion}
use Rattle.wl_linking.specs.Fitting.{IsWhole}
use Rattle.wl_linking.specs.Object.{Object}
use Rattle.wl_linking.specs.Steps.{Clear}
use Rattle.wl_custom.specs.RelocationTypes.{taking_of}
use Rattle.wl_reloc.specs.Resolving.{resolved}
use Rattle.wl_reloc.specs.declared.error.RelocError.{RelocError}
use Rattle.wl_index.specs.declared.index_map.WasmObjectIndexMap.{WasmObjectIndexMap}
use Rattle.wl_custom.specs.declared.takings.AddressBase.{AddressBase}
use Rattle.wl_custom.specs.declared.takings.Taking.TheVariants.{Address}
use Rattle.wl_symbols.specs.Live.{IsLiveOf}
use Rattle.wl_symbols.specs.Input.{Input}
use Rattle.wl_symbols.specs.Relocations.{relocations}
use Rattle.wl_bind.specs.SpaceFaults.{index_fault}
use Rattle.wl_symbols.specs.declared.relocated.Relocated.{Relocated}
use Rattle.wl_plan.specs.Fixups.{address_taken, IsAddressReason}
use Rattle.wl_plan.specs.Table.{space_slots}
use Rattle.wl_plan.specs.Threads.{bases_of}
use Rattle.wl_plan.specs.declared.layout.WasmLayout.{WasmLayout}
use Rattle.wl_places.specs.declared.placing.Placing.{Placing}

-- a link of whole objects, of which this is kept, whose references are bound and whose things have
-- their numbers
pub record IsNumbered (input : Input) : Type 0 where
  pub whole : AllByRecursion IsWhole input.link.objects
  pub kept : IsLiveOf input.link input.live
  pub clear : Clear (index_fault input)

-- what is answered for the relocation, by the map and the symbols of its object
abbrev pub answer_for : Input → Placing → Object → WasmObjectIndexMap → Relocated
    → Result ℕ RelocError
answer_for input g o m r =
    resolved (record {
      map = m;
      symbols = o.symbols;
      slots = space_slots input;
      bases = bases_of g;
    }) r.relocation

-- these are its object, and the map of that
pub record IsOf (input : Input) (maps : List WasmObjectIndexMap) (r : Relocated) (o : Object)
    (m : WasmObjectIndexMap) : Type 0 where
  pub kept : Contains (relocations input) r
  pub object : slice_get input.link.objects r.object ≡ Some o
  pub map : slice_get maps r.object ≡ Some m

-- it names data, whose address has no value in its field, or one that doesn't fit
pub record HasNoAddress (input : Input) (g : Placing) (r : Relocated) (why : RelocError)
    : Type 0 where
  pub base : AddressBase
  pub takes : taking_of r.relocation.ty ≡ Address base
  pub fault : address_taken input g r base ≡ Err why
  pub reason : IsAddressReason why

-- what is answered for the relocation by the layout of a plan, by the map and the symbols of its
-- object
abbrev pub answer_by : WasmLayout → Object → WasmObjectIndexMap → Relocated → Result ℕ RelocError
answer_by layout o m r =
    resolved (record {
      map = m;
      symbols = o.symbols;
      slots = layout.function_table_slots;
      bases = record { memory_base = layout.memory_base; tls_base = layout.tls_base };
    }) r.relocation
