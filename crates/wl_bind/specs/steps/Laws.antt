-- What laws of the crates below say of objects, names, slots and live sets, together.
use Rattle.std.specs.Prelude.{◌≡◌, ◌≤◌, ℕ, true, false, List, length, map, Some, slice_get, Contains, MatchOption}
use Rattle.wl_bytes.specs.declared.reader.TheConstants.{MAX_LEN}
use Rattle.wl_module.specs.declared.imports.ExternalKind.{ExternalKind}
use Rattle.wl_module.specs.declared.imports.ExternalKind.TheVariants as external
use Rattle.wl_linking.specs.Fitting.{IsWhole, IsFitting}
use Rattle.wl_linking.specs.Object.{Object}
use Rattle.wl_linking.specs.Spaces.{count_imports}
use Rattle.wl_custom.specs.Symbols.{Symbol as LinkedSymbol}
use Rattle.wl_custom.specs.declared.symbols.WasmSymbolKind.{WasmSymbolKind}
use Rattle.wl_custom.specs.declared.symbols.WasmSymbolKind.TheVariants.{Func, Global}
use Rattle.wl_symbols.specs.Entries.{symbol_in, is_private}
use Rattle.wl_symbols.specs.ImportSlots.{ImportSlot, object_slots}
use Rattle.wl_symbols.specs.Left.{same_import, first_imports, first_slot, first_like, place_of_import}
use Rattle.wl_symbols.specs.Link.{Link}
use Rattle.wl_symbols.specs.Live.{Live, is_live, IsLiveOf}
use Rattle.wl_symbols.specs.Names.{named, def, StandsFor, IsUnknown}
use Rattle.wl_symbols.specs.References.{RefersBySlot, RefersBySymbol}
use Rattle.wl_symbols.specs.SlotCases.{IsLeft, IsBoundTo}
use Rattle.wl_symbols.specs.SlotTargets.{own_number, is_definition_of, slot_target}
use Rattle.wl_symbols.specs.declared.units.LinkUnit.{LinkUnit}

-- the laws, each as the crate that has it says it
pub record LinkLaws : Type 0 where
  pub fitting : (o : Object) → IsWhole o → IsFitting o
  pub few : (o : Object) (kind : ExternalKind) → IsWhole o → count_imports kind o.imports ≤ MAX_LEN
  pub functions : (object : ℕ) (o : Object)
      → length (object_slots object Func o) ≡ count_imports external.Func o.imports
  pub globals : (object : ℕ) (o : Object)
      → length (object_slots object Global o) ≡ count_imports external.Global o.imports
  pub numbers : (kind : WasmSymbolKind) (o : Object) (k : ℕ) (s : LinkedSymbol) → IsWhole o
      → slice_get o.symbols k ≡ Some s → is_definition_of kind s ≡ true
      → (n : ℕ) × (own_number kind o s.index ≡ Some n)
  pub by_symbol : (link : Link) (live : Live) (u v : LinkUnit) → IsLiveOf link live
      → is_live live u ≡ true → RefersBySymbol link u v → is_live live v ≡ true
  pub by_slot : (link : Link) (live : Live) (u v : LinkUnit) → IsLiveOf link live
      → is_live live u ≡ true → RefersBySlot link u v → is_live live v ≡ true
  pub targets : (link : Link) (t : ImportSlot)
      → MatchOption (slot_target link t) (IsLeft link t) (IsBoundTo link t)
  pub names : (link : Link) (name : List ℕ)
      → MatchOption (named link name) (IsUnknown link name) (StandsFor link name)
  pub symbols : (link : Link) (object symbol : ℕ) (s : LinkedSymbol)
      → symbol_in link.objects object symbol ≡ Some s → is_private s ≡ false
      → StandsFor link s.name (def link object symbol)
  pub imports : (slots : List ImportSlot) (t : ImportSlot) → Contains slots t
      → (p : ℕ)
      × (place_of_import t.item.origin t.item.name (map first_slot (first_imports slots)) ≡ Some p)
      × (slice_get (map first_slot (first_imports slots)) p
      ≡ Some (first_slot (first_like same_import (first_imports slots) t)))
