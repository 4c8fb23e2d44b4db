-- What begins threads: the segments that are copied, and what a thread's block holds (object file
-- linking, version 2; the threads proposal).
use Rattle.std.specs.Prelude.{◌≡◌, ℕ, ℤ, pos, ◌+◌, List, [], ◌∷◌, ◌++◌, Option, Some, None, Result, Ok, Err, slice_get}
use Rattle.std.specs.List.{AllZip, filter_map}
use Rattle.std.specs.Option.{option_map, option_map_or, option_and_then, option_to_list}
use Rattle.wl_symbols.specs.declared.entry.Definition.{Definition}
use Rattle.wl_symbols.specs.declared.linker_symbol.WasmLinkerSymbol.TheVariants.{TlsBase}
use Rattle.wl_index.specs.declared.data_address.WasmDataAddress.{WasmDataAddress}
use Rattle.wl_index.specs.declared.data_address.WasmDataAddress.TheVariants.{Missing, Placed, Passive, TlsOffset}
use Rattle.wl_reloc.specs.Addresses.{deferred_at}
use Rattle.wl_reloc.specs.declared.addresses.AddressBases.{AddressBases}
use Rattle.wl_reloc.specs.declared.error.RelocError.{RelocError}
use Rattle.wl_synth.specs.Bodies.{ThreadBlock}
use Rattle.wl_synth.specs.declared.parts.TlsGotFixup.{TlsGotFixup}
use Rattle.wl_synth.specs.declared.parts.TlsPointerFixup.{TlsPointerFixup}
use Rattle.wl_bind.specs.GlobalSpace.{GlobalOf, global_space}
use Rattle.wl_symbols.specs.Input.{Input}
use Rattle.wl_bind.specs.Scan.{got_mem}
use Rattle.wl_symbols.specs.Relocations.{relocations}
use Rattle.wl_bind.specs.declared.binding.GlobalTarget.TheVariants.{Made, GotMem}
use Rattle.wl_symbols.specs.declared.relocated.FixupPlace.{FixupPlace}
use Rattle.wl_symbols.specs.declared.relocated.FixupPlace.TheVariants.{Code, Segment}
use Rattle.wl_symbols.specs.declared.relocated.Relocated.{Relocated}
use Rattle.wl_places.specs.Copies.{template_copies}
use Rattle.wl_places.specs.Addresses.{layouts_of, segment_start, symbol_address, address_of_definition}
use Rattle.wl_places.specs.declared.placing.Placing.{Placing}

-- ---- pointers

-- the address of the data symbol that a relocation names
abbrev pub address_named : Input → Placing → Relocated → WasmDataAddress
address_named input g r = symbol_address input g r.object r.relocation.index

-- from where addresses are counted
abbrev pub bases_of : Placing → AddressBases
bases_of g = record { memory_base = g.memory_base; tls_base = g.places.tls_base }

-- a place in the block of a thread, if the address is one
abbrev pub place_in_block : WasmDataAddress → Option ℕ
place_in_block (TlsOffset place) = Some place
place_in_block Missing = None
place_in_block (Placed place) = None
place_in_block Passive = None

-- where the template begins in the block in which a field lies; code lies in none
abbrev pub template_at : FixupPlace → WasmDataAddress → Option ℕ
template_at Code start = None
template_at Segment start = place_in_block start

abbrev pub template_start : Placing → Relocated → Option ℕ
template_start g r = template_at r.place (segment_start (layouts_of g r.object) r.site.unit)

-- the place in the block that the field takes when a thread starts: it lies in a template, and
-- names data of the block
abbrev pub pointer_named : Input → Placing → Relocated → Result (Option ℤ) RelocError
pointer_named input g r =
    option_map_or
    (λ (start : ℕ).
    deferred_at r.relocation.ty r.relocation.addend (Some (address_named input g r)))
    (template_start g r) (Ok None)

-- the pointer that a thread stores where the field lies
abbrev pub pointer_at : Relocated → ℕ → Result (Option ℤ) RelocError → Option TlsPointerFixup
pointer_at r start (Ok (Some offset)) =
    Some (record { dest = start + r.site.position; offset = offset })
pointer_at r start (Ok None) = None
pointer_at r start (Err why) = None

abbrev pub pointer_of : Input → Placing → Relocated → Option TlsPointerFixup
pointer_of input g r =
    option_and_then (λ (start : ℕ). pointer_at r start (pointer_named input g r))
    (template_start g r)

-- all of them, in the order of the kept relocations
abbrev pub tls_pointers : Input → Placing → List TlsPointerFixup
tls_pointers input g = filter_map (pointer_of input g) (relocations input)

-- ---- globals

-- the entries of the GOT list of data that lie in the block, the first of these entries having that
-- number, each with its number and its place in the block
abbrev pub got_places_from : Input → Placing → ℕ → List Definition → List (ℕ × ℕ)
got_places_from input g k [] = []
got_places_from input g k (d ∷ ds) =
    option_to_list
    (option_map (λ (place : ℕ). (k, place)) (place_in_block (address_of_definition input g d)))
    ++ got_places_from input g (k + 1) ds

abbrev pub got_places : Input → Placing → List (ℕ × ℕ)
got_places input g = got_places_from input g 0 (got_mem input)

-- the global of such an entry gets its address
pub record IsGotFixup (input : Input) (p : ℕ × ℕ) (f : TlsGotFixup) : Type 0 where
  pub global : slice_get (global_space input) f.global ≡ Some (GlobalOf (GotMem p.0))
  pub offset : f.offset ≡ pos p.1

-- ---- the block

-- the block of a thread: `__tls_base` holds its base
pub record IsThreadBlock (input : Input) (g : Placing) (b : ThreadBlock) : Type 0 where
  pub base : slice_get (global_space input) b.base_global ≡ Some (GlobalOf (Made TlsBase))
  pub size : b.size ≡ g.places.tls_size
  pub templates : b.templates ≡ template_copies g
  pub pointers : b.pointers ≡ tls_pointers input g
  pub got : AllZip (IsGotFixup input) (got_places input g) b.got
