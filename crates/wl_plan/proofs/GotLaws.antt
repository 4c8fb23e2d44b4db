-- Globals that hold addresses in the block of a thread.
use Rattle.std.proofs.Common.{◌≡◌, ◌∙◌, ◌≤◌, ◌<◌, ℕ, ◌+◌, Bool, List, [], ◌∷◌, ◌++◌, length, take, refl, sym, ap, subst, arith, append-nil, length-take-le, take-append-drop, Option, Some, None, slice_get, Contains, if◌then◌else◌, inl, inr}
use Rattle.std.specs.Prelude.{Ok, Err, nat_lt, pos}
use Rattle.std.specs.List.{AllZip}
use Rattle.std.proofs.lemmas.Bool.{cases_Bool}
use Rattle.std.proofs.lemmas.Bool.Decides.{nat_tests}
use Rattle.std.proofs.lemmas.List.{take_more, take_all}
use Rattle.std.proofs.lemmas.Option.{get_or_from_slice_get}
use Rattle.std.proofs.lemmas.List.FromFn.{length-map-range_with_len}
use Rattle.wl_linking.specs.Steps.{Clear}
use Rattle.wl_linking.specs.declared.error.LinkError.TheVariants.{ConstantRange}
use Rattle.wl_symbols.specs.declared.entry.Definition.{Definition}
use Rattle.wl_index.specs.declared.data_address.WasmDataAddress.{WasmDataAddress}
use Rattle.wl_index.specs.declared.data_address.WasmDataAddress.TheVariants.{Missing, Placed, Passive, TlsOffset}
use Rattle.wl_synth.specs.declared.parts.TlsGotFixup.{TlsGotFixup}
use Rattle.wl_bind.specs.GlobalSpace.{GlobalOf, global_parts, global_space, got_mem_part}
use Rattle.wl_symbols.specs.Input.{Input}
use Rattle.wl_bind.specs.MadeIndices.{AreMadeIndices}
use Rattle.wl_bind.specs.Parts.{HasEntry}
use Rattle.wl_bind.specs.Scan.{got_mem}
use Rattle.wl_bind.specs.declared.binding.GlobalTarget.TheVariants as global
use Rattle.wl_bind.specs.declared.indices.LinkerDefinedIndices.{LinkerDefinedIndices}
use Rattle.wl_places.specs.Addresses.{address_of_definition}
use Rattle.wl_plan.specs.Globals.{IsGlobalFault, first_asking, got_address, got_mem_start, max_constant, start_of_global}
use Rattle.wl_plan.specs.Threads.{IsGotFixup, got_places, got_places_from, place_in_block}
use Rattle.wl_plan.specs.steps.Threads.{AddsGot}
use Rattle.wl_places.specs.declared.placing.Placing.{Placing}
use Rattle.wl_lists.proofs.In.{at_is_in}
use Rattle.wl_lists.proofs.Places.{there_is}
use Rattle.wl_plan.proofs.RunningLaws.{behind_hosts}
use Rattle.wl_plan.proofs.TableSlotLaws.{has_entry}
use Rattle.wl_plan.proofs.ThreadLaws.{got_more}

-- the list of entries has one of that place
pub got_has : (input : Input) (i : LinkerDefinedIndices) (k : ℕ) → AreMadeIndices input i
    → k < length (got_mem input) → HasEntry i.globals 8 k
got_has input i k are lt =
    let long : length (got_mem_part input) ≡ length (got_mem input) =
    length-map-range_with_len (λ (n : ℕ). GlobalOf (global.GotMem n)) 0 (length (got_mem input)) in
    has_entry (global_parts input) i.globals 8 9 k (length (got_mem_part input)) are.globals refl refl (omega (arith, lt, long))

-- an entry that is there
pub entry_there : (input : Input) (k : ℕ) (found : Option Definition) → found ≡ slice_get (got_mem input) k
    → k < length (got_mem input) → found ≡ None → ⊥
entry_there input k found is lt none =
    let d = there_is (got_mem input) k lt in
    absurd (let bad : ◌≡◌ {A = Option Definition} None (Some d.0) = sym none ∙ (is ∙ d.1) in cc)

pub entry_in : (input : Input) (k : ℕ) (found : Option Definition) (d : Definition) → found ≡ slice_get (got_mem input) k
    → found ≡ Some d → Contains (got_mem input) d
entry_in input k found d is some = at_is_in (got_mem input) k d (sym is ∙ some)

block_place : (a : WasmDataAddress) (place : ℕ) → place_in_block a ≡ Some place → a ≡ TlsOffset place
block_place Missing place e = absurd cc
block_place (Placed other) place e = absurd cc
block_place Passive place e = absurd cc
block_place (TlsOffset other) place e = let same : other ≡ place = cc in ap (λ (n : ℕ). TlsOffset n) same

-- where each global can start, such a place is no greater than the greatest constant
pub low_place : (input : Input) (g : Placing) (k i place : ℕ) (d : Definition) → Clear (IsGlobalFault input g)
    → slice_get (global_space input) i ≡ Some (GlobalOf (global.GotMem k)) → slice_get (got_mem input) k ≡ Some d
    → place_in_block (address_of_definition input g d) ≡ Some place → place ≤ 2147483647
low_place input g k i place d clear stands here block = elim (cases_Bool (nat_lt max_constant place)) [
  | inl great ↦
      let own = behind_hosts input (global.GotMem k) i stands (λ object slot e. absurd cc) in
      let address = block_place (address_of_definition input g d) place block in
      let starts : start_of_global input g (GlobalOf (global.GotMem k)) ≡ Err (ConstantRange place) =
      ap (got_mem_start input g) here
      ∙ (ap (got_address (first_asking input d)) address
      ∙ ap (λ (b : Bool). if b then Err (ConstantRange place) else Ok 0) great) in
      absurd (clear.none (ConstantRange place) (record {
        entry = GlobalOf (global.GotMem k);
        one = at_is_in _ own.k (GlobalOf (global.GotMem k)) own.own;
        fault = starts;
      }))
  | inr low ↦ grind (arith, nat_tests)
]

-- an entry that lies in no block adds nothing, and one that does adds its global
pub adds_no_got : (input : Input) (g : Placing) (k : ℕ) (d : Definition) (old : List TlsGotFixup)
    → slice_get (got_mem input) k ≡ Some d → place_in_block (address_of_definition input g d) ≡ None
    → AddsGot input g k old old
adds_no_got input g k d old here none = record {
  definition = d;
  here = here;
  more = [];
  are = rw none tt;
  grown = sym (append-nil old);
}

pub adds_got : (input : Input) (g : Placing) (k place : ℕ) (d : Definition) (f : TlsGotFixup) (old new : List TlsGotFixup)
    → slice_get (got_mem input) k ≡ Some d → place_in_block (address_of_definition input g d) ≡ Some place
    → slice_get (global_space input) f.global ≡ Some (GlobalOf (global.GotMem k)) → f.offset ≡ pos place
    → new ≡ old ++ f ∷ [] → AddsGot input g k old new
adds_got input g k place d f old new here block stands offset grown = record {
  definition = d;
  here = here;
  more = f ∷ [];
  are = rw block (record { global = stands; offset = offset }, tt);
  grown = grown;
}

-- ---- the entries one after the other

-- the fixups are those of the first entries
abbrev pub AreGotUpTo : Input → Placing → ℕ → List TlsGotFixup → Type 0
AreGotUpTo input g k fixups = AllZip (IsGotFixup input) (got_places_from input g 0 (take k (got_mem input))) fixups

pub got_step : (input : Input) (g : Placing) (k : ℕ) (old new : List TlsGotFixup) → AreGotUpTo input g k old
    → k < length (got_mem input) → AddsGot input g k old new → AreGotUpTo input g (k + 1) new
got_step input g k old new so_far within adds =
    let ds : List Definition = got_mem input in
    let less : k ≤ length ds = omega (arith, within) in
    let one = got_more input g k old new ds (take k ds) so_far (length-take-le k ds less) (take-append-drop k ds) refl adds in
    let more : take (k + 1) ds ≡ take k ds ++ one.0 ∷ [] =
    take_more ds k one.0 within
    ∙ ap (λ (d : Definition). take k ds ++ d ∷ []) (get_or_from_slice_get ds k one.0 one.0 one.1) in
    subst (λ (xs : List Definition). AllZip (IsGotFixup input) (got_places_from input g 0 xs) new) (sym more) one.2

pub got_all : (input : Input) (g : Placing) (k : ℕ) (fixups : List TlsGotFixup) → AreGotUpTo input g k fixups
    → length (got_mem input) ≤ k → AllZip (IsGotFixup input) (got_places input g) fixups
got_all input g k fixups so_far whole =
    subst (λ (xs : List Definition). AllZip (IsGotFixup input) (got_places_from input g 0 xs) fixups)
    (take_all k (got_mem input) whole) so_far
