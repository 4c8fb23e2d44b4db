-- What runs of functions do that the linker makes, by the plan.
use Rattle.std.proofs.Common.{◌≡◌, ◌≢◌, ◌⊎◌, ◌∙◌, ◌≤◌, inl, inr, ℕ, zero, suc, ◌+◌, Bool, true, false, cond, List, [], ◌∷◌, ◌++◌, length, drop, refl, sym, ap, subst, arith, append_assoc, Option, Some, None, slice_get, sum_by}
use Rattle.std.specs.List.{AllByRecursion, AllZip, count_by}
use Rattle.std.specs.Option.{option_map, option_map_or, option_to_list}
use Rattle.std.proofs.lemmas.Bool.{and_parts}
use Rattle.std.proofs.lemmas.List.{length-map}
use Rattle.std.proofs.lemmas.List.Sums.{sum_by-append, sum_by-cons}
use Rattle.std.proofs.lemmas.Option.{slice_get_within}
use Rattle.wl_module.specs.Bodies.{Body}
use Rattle.wl_module.specs.declared.types.ValType.TheVariants.{I32 as I32Type}
use Rattle.wl_symbols.specs.declared.entry.Definition.{Definition}
use Rattle.wl_symbols.specs.declared.linker_symbol.WasmLinkerSymbol.{WasmLinkerSymbol}
use Rattle.wl_symbols.specs.declared.linker_symbol.WasmLinkerSymbol.TheVariants.{InitTls, TlsBase}
use Rattle.wl_symbols.specs.ImportSlots.{ImportSlot}
use Rattle.wl_symbols.specs.Left.{HostImport, first_imports, first_slot}
use Rattle.wl_data.specs.DataPlaces.{DataInput, IsDataPlaces, AreSeparate, EndBy, IsLastWord, in_one_row, is_template, lies_in_memory}
use Rattle.wl_data.specs.Segments.{SegmentLayout}
use Rattle.wl_data.specs.declared.places.DataPlaces.{DataPlaces}
use Rattle.wl_index.specs.declared.data_address.WasmDataAddress.{WasmDataAddress}
use Rattle.wl_index.specs.declared.data_address.WasmDataAddress.TheVariants.{Missing, Placed, Passive, TlsOffset}
use Rattle.wl_ops.specs.declared.op.Op.{Op}
use Rattle.wl_synth.specs.Bodies.{ThreadBlock, init_tls_ops, init_memory_ops}
use Rattle.wl_synth.specs.Calls.{TrapsAtOnce}
use Rattle.wl_synth.specs.Encoding.{IsEncoded}
use Rattle.wl_synth.specs.Machine.{World, State, Done, Runs}
use Rattle.wl_synth.specs.Memory.{CanInitMemory, InitsMemory}
use Rattle.wl_synth.specs.ThreadLocal.{CanInitTls, IsInitialized, IsWordGlobal, NameDistinct}
use Rattle.wl_synth.specs.declared.calls.TheConstants.{UNREACHABLE_FUNCTION_BODY}
use Rattle.wl_synth.specs.declared.parts.PassiveSegmentCopy.{PassiveSegmentCopy}
use Rattle.wl_synth.specs.declared.parts.TlsGotFixup.{TlsGotFixup}
use Rattle.wl_bind.specs.EntryTypes.{function_slot}
use Rattle.wl_bind.specs.FunctionSpace.{FunctionEntry, FunctionOf, InitMemory, function_space, host_function_part}
use Rattle.wl_bind.specs.GlobalBinding.{host_globals}
use Rattle.wl_bind.specs.GlobalSpace.{GlobalEntry, GlobalOf, global_space, global_parts, host_global_part, object_globals}
use Rattle.wl_symbols.specs.Input.{Input}
use Rattle.wl_bind.specs.Made.{has_shared_tls}
use Rattle.wl_bind.specs.OutputTypes.{output_types}
use Rattle.wl_bind.specs.Parts.{joined}
use Rattle.wl_bind.specs.Scan.{got_mem}
use Rattle.wl_bind.specs.Shared.{function_imports, global_imports}
use Rattle.wl_bind.specs.declared.binding.FunctionTarget.TheVariants as function
use Rattle.wl_bind.specs.declared.binding.GlobalTarget.{GlobalTarget}
use Rattle.wl_bind.specs.declared.binding.GlobalTarget.TheVariants as global
use Rattle.wl_places.specs.Addresses.{address_of_definition}
use Rattle.wl_plan.specs.Bodies.{AreBodies, IsBodyOf, IsEncodedBody, IsMadeBody}
use Rattle.wl_plan.specs.Functions.{own_functions, origin_of, AreOutputFunctions, IsOutputFunction, IsWrapperFunction}
use Rattle.wl_plan.specs.Globals.{is_in_block, may_change, IsMadeGlobal, IsPlannedGlobal, own_globals}
use Rattle.wl_plan.specs.Imports.{AreImports, IsFunctionImport, IsGlobalImport, memory_imports, memory_import}
use Rattle.wl_plan.specs.Origins.{Origin, OfLinker, OfInitMemory, OfStub, OfWrapper, PlannedFunction}
use Rattle.wl_places.specs.Placing.{data_input}
use Rattle.wl_plan.specs.Plan.{IsPlan}
use Rattle.wl_plan.specs.PlannedImports.{PlannedImport, is_global_entity, is_global_import}
use Rattle.wl_plan.specs.Resolved.{IsNumbered}
use Rattle.wl_plan.specs.Running.{HasMadeBody, HasRoomFor, HoldsPlan, HoldsSegment, MakesBlock, LaysSegments}
use Rattle.wl_plan.specs.Threads.{got_places, got_places_from, place_in_block, IsGotFixup, IsThreadBlock}
use Rattle.wl_places.specs.Copies.{is_filled_template, shared_copies}
use Rattle.wl_plan.specs.declared.layout.LinkPlan.{LinkPlan}
use Rattle.wl_plan.specs.declared.layout.PlannedGlobal.{PlannedGlobal}
use Rattle.wl_places.specs.declared.placing.Placing.{Placing}
use Rattle.wl_plan.proofs.CopyLaws.{copies_clear, copies_disjoint, copies_fit, ends_less, separate_less}
use Rattle.wl_plan.proofs.FunctionLaws.{made_is}
use Rattle.wl_lists.proofs.Later.{AllLater}
use Rattle.wl_lists.proofs.Places.{came_at}
use Rattle.wl_lists.proofs.In.{in_at}
use Rattle.wl_lists.proofs.Beside.{zip_right, zip_length, zip_left}
use Rattle.wl_plan.proofs.PointerLaws.{all_inside, pointers_apart, pointers_within}
use Rattle.wl_plan.proofs.PositionLaws.{WholeFit}
use Rattle.wl_places.proofs.SmallLaws.{SegmentsHaveLayouts}
use Rattle.wl_lists.proofs.Places.{append_split}

-- ---- what laws of lower crates say

pub record PlaceLaws : Type 0 where
  pub memory : (d : DataInput) (p : DataPlaces) → IsDataPlaces d p
      → EndBy lies_in_memory p.data_end (in_one_row p.layouts)
  pub before_flag : (d : DataInput) (p : DataPlaces) (flag : ℕ) → IsDataPlaces d p
      → p.flag ≡ Some flag → EndBy lies_in_memory flag (in_one_row p.layouts)
  pub flag : (d : DataInput) (p : DataPlaces) (flag : ℕ) → IsDataPlaces d p
      → p.flag ≡ Some flag → IsLastWord flag p.data_end
  pub block : (d : DataInput) (p : DataPlaces) → IsDataPlaces d p
      → EndBy is_template p.tls_size (in_one_row p.layouts)
  pub apart : (d : DataInput) (p : DataPlaces) → IsDataPlaces d p
      → AreSeparate lies_in_memory (in_one_row p.layouts)
  pub block_apart : (d : DataInput) (p : DataPlaces) → IsDataPlaces d p
      → AreSeparate is_template (in_one_row p.layouts)
  pub shared : (d : DataInput) (p : DataPlaces) (i : ℕ) (l : SegmentLayout) → IsDataPlaces d p
      → slice_get (in_one_row p.layouts) i ≡ Some l → l.shared_init ≡ true
      → (l.passive ≡ true) × (lies_in_memory l ≡ true)
  pub own : (d : DataInput) (p : DataPlaces) (i : ℕ) (l : SegmentLayout) → IsDataPlaces d p
      → slice_get (in_one_row p.layouts) i ≡ Some l → l.tls_template ≡ true
      → (l.passive ≡ true) × (d.options.shared_tls ≡ true)

-- ---- the function of an origin

pub record IsOwn (input : Input) (g : Placing) (f : PlannedFunction) (b : Body) (place : ℕ) : Type 0 where
  pub entry : FunctionEntry
  pub here : slice_get (own_functions input) place ≡ Some entry
  pub origin : origin_of input entry ≡ Some f.origin
  pub body : IsBodyOf input g entry b

pub own_or_wrapper : (input : Input) (g : Placing) (functions : List PlannedFunction) (bodies : List Body)
    (place : ℕ) (f : PlannedFunction) (b : Body)
    → AreOutputFunctions input (output_types input) functions → AreBodies input g bodies
    → slice_get functions place ≡ Some f → slice_get bodies place ≡ Some b
    → IsOwn input g f b place ⊎ ((name : List ℕ) × (f.origin ≡ OfWrapper name))
own_or_wrapper input g functions bodies place f b are bodies_are at there =
    let own = own_functions input in
    let listed : slice_get (are.own ++ are.wrappers) place ≡ Some f =
    subst (λ (fs : List PlannedFunction). slice_get fs place ≡ Some f) are.parts at in
    let spelled : slice_get (bodies_are.own ++ bodies_are.wrappers) place ≡ Some b =
    subst (λ (bs : List Body). slice_get bs place ≡ Some b) bodies_are.parts there in
    let R = IsOutputFunction input (output_types input) in
    elim (append_split are.own are.wrappers place f listed) [
      | inl front ↦
          let z = zip_left R own are.own place f are.are_own front in
          elim (append_split bodies_are.own bodies_are.wrappers place b spelled) [
            | inl first ↦
                let y = zip_left (IsBodyOf input g) own bodies_are.own place b bodies_are.are_own first in
                let one : slice_get own place ≡ Some z.0 = z.1 in
                let two : slice_get own place ≡ Some y.0 = y.1 in
                let same : y.0 ≡ z.0 = cc in
                inl (record {
                  entry = z.0;
                  here = z.1;
                  origin = (z.2).origin;
                  body = subst (λ (e : FunctionEntry). IsBodyOf input g e b) same y.2;
                })
            | inr behind ↦
                let within = slice_get_within are.own place f front in
                let long = zip_length R own are.own are.are_own in
                let other = zip_length (IsBodyOf input g) own bodies_are.own bodies_are.are_own in
                let at_place = behind.1 in
                absurd (omega (arith, within, long, other, at_place))
          ]
      | inr behind ↦
          let w = zip_left (IsWrapperFunction input (output_types input)) _ are.wrappers behind.0 f are.are_wrappers behind.2 in
          inr ((w.0).name, (w.2).origin)
    ]

pub linker_entry : (input : Input) (entry : FunctionEntry) (m : WasmLinkerSymbol)
    → origin_of input entry ≡ Some (OfLinker m) → entry ≡ FunctionOf (function.Made m)
linker_entry input (FunctionOf (function.Defined object number)) m e = absurd cc
linker_entry input (FunctionOf (function.Made n)) m e =
    let same : n ≡ m = cc in ap (λ (x : WasmLinkerSymbol). FunctionOf (function.Made x)) same
linker_entry input (FunctionOf (function.Host object slot)) m e = absurd cc
linker_entry input (FunctionOf (function.Stub object slot)) m e = absurd (at (function_slot input object slot) e)
  where
    at : (t : Option ImportSlot) → option_map (λ (x : ImportSlot). OfStub x.item.name) t ≡ Some (OfLinker m) → ⊥
    at None h = absurd cc
    at (Some t) h = absurd cc
linker_entry input InitMemory m e = absurd cc

init_entry : (input : Input) (entry : FunctionEntry) → origin_of input entry ≡ Some OfInitMemory
    → entry ≡ InitMemory
init_entry input (FunctionOf (function.Defined object number)) e = absurd cc
init_entry input (FunctionOf (function.Made n)) e = absurd cc
init_entry input (FunctionOf (function.Host object slot)) e = absurd cc
init_entry input (FunctionOf (function.Stub object slot)) e = absurd (at (function_slot input object slot) e)
  where
    at : (t : Option ImportSlot) → option_map (λ (x : ImportSlot). OfStub x.item.name) t ≡ Some OfInitMemory → ⊥
    at None h = absurd cc
    at (Some t) h = absurd cc
init_entry input InitMemory e = refl

pub not_linker : (o : Origin) (m : WasmLinkerSymbol) (name : List ℕ) → o ≡ OfLinker m → o ≡ OfWrapper name → ⊥
not_linker o m name a b = absurd (let e : OfLinker m ≡ OfWrapper name = sym a ∙ b in cc)

not_init : (o : Origin) (name : List ℕ) → o ≡ OfInitMemory → o ≡ OfWrapper name → ⊥
not_init o name a b = absurd (let e : OfInitMemory ≡ OfWrapper name = sym a ∙ b in cc)

-- the function of the linker's under a name
pub record IsMadeThere (input : Input) (g : Placing) (entry : FunctionEntry) (b : Body) : Type 0 where
  pub place : ℕ
  pub here : slice_get (own_functions input) place ≡ Some entry
  pub body : IsBodyOf input g entry b

pub linker_body : (input : Input) (plan : LinkPlan) (is : IsPlan input plan) (m : WasmLinkerSymbol) (b : Body)
    → HasMadeBody plan (OfLinker m) b → IsMadeThere input is.placing (FunctionOf (function.Made m)) b
linker_body input plan is m b h =
    elim (own_or_wrapper input is.placing plan.layout.function_type_indices plan.layout.function_bodies h.place
    h.function b is.spaces.functions is.bodies.bodies h.here h.body) [
      | inl own ↦
          let entry = linker_entry input own.entry m (own.origin ∙ ap (λ (o : Origin). Some o) h.origin_is) in
          record {
            place = h.place;
            here = own.here ∙ ap (λ (e : FunctionEntry). Some e) entry;
            body = subst (λ (e : FunctionEntry). IsBodyOf input is.placing e b) entry own.body;
          }
      | inr wrapper ↦ absurd (not_linker h.function.origin m wrapper.0 h.origin_is wrapper.1)
    ]

pub init_body : (input : Input) (plan : LinkPlan) (is : IsPlan input plan) (b : Body)
    → HasMadeBody plan OfInitMemory b → IsMadeThere input is.placing InitMemory b
init_body input plan is b h =
    elim (own_or_wrapper input is.placing plan.layout.function_type_indices plan.layout.function_bodies h.place
    h.function b is.spaces.functions is.bodies.bodies h.here h.body) [
      | inl own ↦
          let entry = init_entry input own.entry (own.origin ∙ ap (λ (o : Origin). Some o) h.origin_is) in
          record {
            place = h.place;
            here = own.here ∙ ap (λ (e : FunctionEntry). Some e) entry;
            body = subst (λ (e : FunctionEntry). IsBodyOf input is.placing e b) entry own.body;
          }
      | inr wrapper ↦ absurd (not_init h.function.origin wrapper.0 h.origin_is wrapper.1)
    ]

-- ---- the memory is filled once

-- what the law of bodies says
abbrev pub LaidOnce : Type 0
LaidOnce = (w : World) (s : State) (flag : ℕ) (copies : List PassiveSegmentCopy) (body : List ℕ)
    → IsEncoded (init_memory_ops flag copies) body → CanInitMemory w s flag copies
    → InitsMemory w s flag copies body

pub segments_laid : LaidOnce → PlaceLaws → (input : Input) (plan : LinkPlan) (is : IsPlan input plan)
    (w : World) (s : State) (b : Body) → HasMadeBody plan OfInitMemory b → HoldsPlan plan w s
    → w.is_shared ≡ true → plan.layout.data_end ≤ length s.memory
    → LaysSegments plan is.placing w s b
segments_laid law laws input plan is w s b made holds shared room =
    let g = is.placing in
    let d = data_input input in
    let rows = in_one_row g.places.layouts in
    let laid = is.placed.laid in
    let there = init_body input plan is b made in
    let body : IsEncodedBody input g InitMemory b = there.body in
    let ops = body.are_ops in
    let word = laws.flag d g.places ops.flag laid ops.flag_is in
    let end : plan.layout.data_end ≡ g.places.data_end = is.places.data_end in
    let last = word.last in
    let passive : (k : ℕ) (l : SegmentLayout) → slice_get rows k ≡ Some l → l.shared_init ≡ true → l.passive ≡ true =
    λ k l e t. (laws.shared d g.places k l laid e t).0 in
    let lies : (k : ℕ) (l : SegmentLayout) → slice_get rows k ≡ Some l → l.shared_init ≡ true → lies_in_memory l ≡ true =
    λ k l e t. (laws.shared d g.places k l laid e t).1 in
    let test : SegmentLayout → Bool = λ l. l.shared_init in
    let segments = subst (λ (ls : List (List SegmentLayout)). AllZip HoldsSegment (in_one_row ls) s.segments)
    is.places.data_layouts holds.segments in
    let can : CanInitMemory w s ops.flag (shared_copies g) = record {
      shared = shared;
      aligned = word.aligned;
      within = omega (arith, last, end, room);
      segments = copies_fit test (length s.memory) rows s.segments segments passive
          (ends_less lies_in_memory test g.places.data_end (length s.memory) rows lies (omega (arith, end, room))
          (laws.memory d g.places laid));
      clear = copies_clear test ops.flag 4 0 rows
          (ends_less lies_in_memory test ops.flag ops.flag rows lies (omega arith) (laws.before_flag d g.places ops.flag laid ops.flag_is));
      disjoint = copies_disjoint test 0 rows (separate_less lies_in_memory test rows lies (laws.apart d g.places laid));
    } in
    let encoded : IsEncoded (init_memory_ops ops.flag (shared_copies g)) body.bytes =
    subst (λ (os : List Op). IsEncoded os body.bytes) ops.are body.encoded in
    let runs = law w s ops.flag (shared_copies g) body.bytes encoded can in
    record {
      flag = ops.flag;
      flag_is = ops.flag_is;
      last = omega (arith, last, end);
      inits = subst (λ (t : List ℕ). InitsMemory w s ops.flag (shared_copies g) t) (sym body.made.bytes_are) runs;
    }

-- ---- globals of the linker's

abbrev bit : Bool → ℕ
bit b = cond b 1 0

none_global : (input : Input) (hosts : List HostImport) (is : List PlannedImport)
    → AllZip (IsFunctionImport input (output_types input)) hosts is → count_by is_global_import is ≡ 0
none_global input [] [] p = refl
none_global input [] (i ∷ is) p = absurd p
none_global input (h ∷ hosts) [] p = absurd p
none_global input (h ∷ hosts) (i ∷ is) p =
    let head : is_global_import i ≡ false = ap is_global_entity p.0.entity in
    let rest = none_global input hosts is p.1 in
    let split = sum_by-cons (λ (x : PlannedImport). cond (is_global_import x) 1 0) i is in
    let first : ◌≡◌ {A = ℕ} (cond (is_global_import i) 1 0) 0 = ap (λ (b : Bool). bit b) head in
    omega (arith, split, first, rest)

each_global : (input : Input) (hosts : List HostImport) (is : List PlannedImport)
    → AllZip (IsGlobalImport input) hosts is → count_by is_global_import is ≡ length hosts
each_global input [] [] p = refl
each_global input [] (i ∷ is) p = absurd p
each_global input (h ∷ hosts) [] p = absurd p
each_global input (h ∷ hosts) (i ∷ is) p =
    let head : is_global_import i ≡ true = ap is_global_entity p.0.entity in
    let rest = each_global input hosts is p.1 in
    let split = sum_by-cons (λ (x : PlannedImport). cond (is_global_import x) 1 0) i is in
    let first : ◌≡◌ {A = ℕ} (cond (is_global_import i) 1 0) 1 = ap (λ (b : Bool). bit b) head in
    omega (arith, split, first, rest)

no_memory : (input : Input) (g : Placing) → count_by is_global_import (memory_imports input g) ≡ 0
no_memory input g = at input.link.args.import_memory
  where
    at : (name : Option _) → count_by is_global_import (option_map_or (λ n. memory_import g.memory n ∷ []) name []) ≡ 0
    at None = refl
    at (Some name) = refl

global_hosts : (input : Input) → length (global_imports input) ≡ length (host_global_part input)
global_hosts input =
    length-map (first_imports (host_globals input)) first_slot
    ∙ sym (length-map (first_imports (host_globals input)) (λ (t : ImportSlot). GlobalOf (global.Host t.object t.number)))

-- as many are imported as the space has hosts
pub imported_globals : (input : Input) (g : Placing) (imports : List PlannedImport)
    → AreImports input (output_types input) g imports
    → count_by is_global_import imports ≡ length (host_global_part input)
imported_globals input g imports are =
    let f : PlannedImport → ℕ = λ (x : PlannedImport). cond (is_global_import x) 1 0 in
    let one = none_global input (function_imports input) are.functions are.are_functions in
    let two = each_global input (global_imports input) are.globals are.are_globals in
    let three = no_memory input g in
    let whole : count_by is_global_import imports ≡ sum_by f ((are.functions ++ are.globals) ++ memory_imports input g) =
    ap (sum_by f) are.all in
    let left = sum_by-append f (are.functions ++ are.globals) (memory_imports input g) in
    let right = sum_by-append f are.functions are.globals in
    let hosts = global_hosts input in
    omega (arith, whole, left, right, one, two, three, hosts)

no_host : (input : Input) (t : GlobalTarget) (i : ℕ) → slice_get (host_global_part input) i ≡ Some (GlobalOf t)
    → (object : ℕ) × (slot : ℕ) × (t ≡ global.Host object slot)
no_host input t i e =
    let c = came_at (λ (x : ImportSlot). GlobalOf (global.Host x.object x.number)) (first_imports (host_globals input)) i (GlobalOf t) e in
    ((c.0).object, (c.0).number, (let same : GlobalOf (global.Host (c.0).object (c.0).number) ≡ GlobalOf t = c.2 in cc))

-- where an entry that isn't imported stands after the imports
pub record IsBehindHosts (input : Input) (i : ℕ) (entry : GlobalEntry) : Type 0 where
  pub k : ℕ
  pub index : i ≡ length (host_global_part input) + k
  pub own : slice_get (own_globals input) k ≡ Some entry

drop_whole : {X : Type 0} (xs ys : List X) (k : ℕ) → slice_get (drop (length xs) (xs ++ ys)) k ≡ slice_get ys k
drop_whole [] [] k = refl
drop_whole [] (y ∷ ys) k = refl
drop_whole (x ∷ xs) ys k = drop_whole xs ys k

-- what the linker makes, without what is imported
abbrev other_globals : Input → List GlobalEntry
other_globals input = joined (drop 1 (global_parts input))

pub behind_hosts : (input : Input) (t : GlobalTarget) (i : ℕ)
    → slice_get (global_space input) i ≡ Some (GlobalOf t)
    → ((object slot : ℕ) → t ≡ global.Host object slot → ⊥) → IsBehindHosts input i (GlobalOf t)
behind_hosts input t i at never =
    let hosts = host_global_part input in
    let rest = other_globals input in
    let own = object_globals input in
    let whole : (hosts ++ rest) ++ own ≡ hosts ++ (rest ++ own) = append_assoc hosts rest own in
    let here : slice_get (hosts ++ (rest ++ own)) i ≡ Some (GlobalOf t) =
    subst (λ (es : List GlobalEntry). slice_get es i ≡ Some (GlobalOf t)) whole at in
    elim (append_split hosts (rest ++ own) i (GlobalOf t) here) [
      | inl front ↦ (let h = no_host input t i front in absurd (never h.0 h.1 h.2))
      | inr behind ↦ record {
        k = behind.0;
        index = behind.1;
        own = ap (λ (es : List GlobalEntry). slice_get (drop (length hosts) es) behind.0) whole
            ∙ drop_whole hosts (rest ++ own) behind.0 ∙ behind.2;
      }
    ]

-- a global of 32 bits that the linker makes and may be set
pub word_global : (input : Input) (plan : LinkPlan) (is : IsPlan input plan) (w : World) (s : State)
    → HoldsPlan plan w s → (i k : ℕ) (entry : GlobalEntry) → i ≡ length (host_global_part input) + k
    → slice_get (own_globals input) k ≡ Some entry
    → ((p : PlannedGlobal) → IsPlannedGlobal input is.placing entry p → IsMadeGlobal input is.placing entry p.global)
    → may_change input is.placing entry ≡ true → IsWordGlobal w s.globals i
word_global input plan is w s holds i k entry index own made change =
    let g = is.placing in
    let p = zip_right (IsPlannedGlobal input g) (own_globals input) plan.layout.globals k entry is.spaces.globals own in
    let m = made p.0 p.2 in
    let content : (p.0).global.ty.content_type ≡ I32Type = ap (λ t. t.content_type) m.ty in
    let mutable : (p.0).global.ty.mutable ≡ true = ap (λ t. t.mutable) m.ty ∙ change in
    let word = holds.globals k p.0 p.1 content in
    let count = imported_globals input g plan.layout.imports is.spaces.imports in
    let same : count_by is_global_import plan.layout.imports + k ≡ i = omega (arith, count, index) in
    subst (IsWordGlobal w s.globals) same (word.value, word.holds, word.mutable ∙ mutable)

-- ---- globals that hold addresses in the block

in_places : (input : Input) (g : Placing) (P : ℕ × ℕ → Type 0) (k : ℕ) (ds : List Definition)
    → ((n place : ℕ) (d : Definition) → slice_get ds n ≡ Some d
    → place_in_block (address_of_definition input g d) ≡ Some place → P (k + n, place))
    → AllByRecursion P (got_places_from input g k ds)
in_places input g P k [] f = tt
in_places input g P k (d ∷ ds) f =
    at (place_in_block (address_of_definition input g d)) refl
    (in_places input g P (k + 1) ds (λ n place e at_n is.
    let same : k + suc n ≡ (k + 1) + n = omega arith in
    subst (λ (i : ℕ). P (i, place)) same (f (suc n) place e at_n is)))
  where
    at : (o : Option ℕ) → place_in_block (address_of_definition input g d) ≡ o
        → AllByRecursion P (got_places_from input g (k + 1) ds)
        → AllByRecursion P (option_to_list (option_map (λ (place : ℕ). (k, place)) o) ++ got_places_from input g (k + 1) ds)
    at None e rest = rest
    at (Some place) e rest =
        let same : k + zero ≡ k = omega arith in
        (subst (λ (i : ℕ). P (i, place)) same (f zero place d refl e), rest)

-- none has the number of another
abbrev HaveOtherNumbers : ℕ × ℕ → ℕ × ℕ → Type 0
HaveOtherNumbers p q = p.0 ≢ q.0

places_differ : (input : Input) (g : Placing) (k : ℕ) (ds : List Definition)
    → AllLater HaveOtherNumbers (got_places_from input g k ds)
places_differ input g k [] = tt
places_differ input g k (d ∷ ds) =
    at (place_in_block (address_of_definition input g d)) (places_differ input g (k + 1) ds)
  where
    at : (o : Option ℕ) → AllLater HaveOtherNumbers (got_places_from input g (k + 1) ds)
        → AllLater HaveOtherNumbers (option_to_list (option_map (λ (place : ℕ). (k, place)) o) ++ got_places_from input g (k + 1) ds)
    at None rest = rest
    at (Some place) rest =
        (in_places input g (λ (q : ℕ × ℕ). k ≢ q.0) (k + 1) ds (λ n other e at_n is. omega arith), rest)

zip_each : {A B : Type 0} (R : A → B → Type 0) (Q : A → Type 0) (P : B → Type 0) (xs : List A) (ys : List B)
    → AllZip R xs ys → AllByRecursion Q xs → ((x : A) (y : B) → R x y → Q x → P y) → AllByRecursion P ys
zip_each R Q P [] [] z q f = tt
zip_each R Q P [] (y ∷ ys) z q f = absurd z
zip_each R Q P (x ∷ xs) [] z q f = absurd z
zip_each R Q P (x ∷ xs) (y ∷ ys) z q f = (f x y z.0 q.0, zip_each R Q P xs ys z.1 q.1 f)

got_distinct : (input : Input) (ps : List (ℕ × ℕ)) (fs : List TlsGotFixup) → AllZip (IsGotFixup input) ps fs
    → AllLater HaveOtherNumbers ps → NameDistinct fs
got_distinct input [] [] z later = tt
got_distinct input [] (f ∷ fs) z later = absurd z
got_distinct input (p ∷ ps) [] z later = absurd z
got_distinct input (p ∷ ps) (f ∷ fs) z later = (
  zip_each (IsGotFixup input) (HaveOtherNumbers p) (λ (h : TlsGotFixup). h.global ≢ f.global) ps fs z.1 later.0
      (λ q h is ne e.
      let here : slice_get (global_space input) f.global ≡ Some (GlobalOf (global.GotMem q.0)) =
      subst (λ (n : ℕ). slice_get (global_space input) n ≡ Some (GlobalOf (global.GotMem q.0))) e is.global in
      let there : slice_get (global_space input) f.global ≡ Some (GlobalOf (global.GotMem p.0)) = z.0.global in
      let same : p.0 ≡ q.0 = cc in
      ne same),
  got_distinct input ps fs z.1 later.1,
)

in_block : (a : WasmDataAddress) (place : ℕ) → place_in_block a ≡ Some place → is_in_block a ≡ true
in_block Missing place e = absurd cc
in_block (Placed other) place e = absurd cc
in_block Passive place e = absurd cc
in_block (TlsOffset other) place e = refl

got_changes : (input : Input) (g : Placing)
    → AllByRecursion (λ (p : ℕ × ℕ). may_change input g (GlobalOf (global.GotMem p.0)) ≡ true) (got_places input g)
got_changes input g =
    in_places input g (λ (p : ℕ × ℕ). may_change input g (GlobalOf (global.GotMem p.0)) ≡ true) 0 (got_mem input)
    (λ n place d e is.
    let same : 0 + n ≡ n = omega arith in
    let here : slice_get (got_mem input) (0 + n) ≡ Some d =
    ap (λ (i : ℕ). slice_get (got_mem input) i) same ∙ e in
    ap (λ (o : Option Definition). option_map_or (λ (x : Definition). is_in_block (address_of_definition input g x)) o false) here
    ∙ in_block (address_of_definition input g d) place is)

-- ---- the block of a thread

drop_get : {X : Type 0} (n k : ℕ) (xs : List X) → slice_get (drop n xs) k ≡ slice_get xs (n + k)
drop_get zero k xs = let same : k ≡ 0 + k = omega arith in ap (λ (i : ℕ). slice_get xs i) same
drop_get (suc n) k [] = refl
drop_get (suc n) k (x ∷ xs) =
    let same : suc (n + k) ≡ suc n + k = omega arith in
    drop_get n k xs ∙ ap (λ (i : ℕ). slice_get (x ∷ xs) i) same

-- there are blocks where the function is that fills them
blocks_there : (input : Input) (place : ℕ) → slice_get (own_functions input) place ≡ Some (FunctionOf (function.Made InitTls))
    → has_shared_tls input ≡ true
blocks_there input place here =
    let there = sym (drop_get (length (host_function_part input)) place (function_space input)) ∙ here in
    made_is input InitTls
    (in_at (function_space input) (length (host_function_part input) + place) (FunctionOf (function.Made InitTls)) there)

-- what the law of bodies says
abbrev pub BlockMade : Type 0
BlockMade = (w : World) (s : State) (base : ℕ) (b : ThreadBlock) (body : List ℕ)
    → IsEncoded (init_tls_ops b) body → CanInitTls w s base b
    → (t : State) × Runs w 0 body s (Done t) × IsInitialized s base b t

not_got : (i k : ℕ) (space : List GlobalEntry) (n : ℕ) → slice_get space i ≡ Some (GlobalOf (global.GotMem n))
    → slice_get space k ≡ Some (GlobalOf (global.Made TlsBase)) → i ≢ k
not_got i k space n a b e =
    let there : slice_get space k ≡ Some (GlobalOf (global.GotMem n)) =
    subst (λ (x : ℕ). slice_get space x ≡ Some (GlobalOf (global.GotMem n))) e a in
    absurd (let bad : Some (GlobalOf (global.GotMem n)) ≡ Some (GlobalOf (global.Made TlsBase)) = sym there ∙ b in cc)

can_init : WholeFit → SegmentsHaveLayouts → PlaceLaws → (input : Input) (plan : LinkPlan) (is : IsPlan input plan)
    (w : World) (s : State) (base : ℕ) (block : ThreadBlock) → IsNumbered input → HoldsPlan plan w s
    → HasRoomFor plan s base → has_shared_tls input ≡ true → IsThreadBlock input is.placing block
    → CanInitTls w s base block
can_init fits layouts laws input plan is w s base block numbered holds room shared is_block =
    let g = is.placing in
    let d = data_input input in
    let rows = in_one_row g.places.layouts in
    let laid = is.placed.laid in
    let size : plan.layout.tls_size ≡ g.places.tls_size = is.places.tls_size in
    let own_size = is_block.size in
    let enough = room.room in
    let template : (k : ℕ) (l : SegmentLayout) → slice_get rows k ≡ Some l → is_filled_template l ≡ true → l.tls_template ≡ true =
    λ k l e t. (and_parts l.tls_template _ t).0 in
    let segments = subst (λ (ls : List (List SegmentLayout)). AllZip HoldsSegment (in_one_row ls) s.segments)
    is.places.data_layouts holds.segments in
    let fit = copies_fit is_filled_template g.places.tls_size rows s.segments segments
    (λ k l e t. (laws.own d g.places k l laid e (template k l e t)).0)
    (ends_less is_template is_filled_template g.places.tls_size g.places.tls_size rows template (omega arith) (laws.block d g.places laid)) in
    let inside = all_inside fits layouts input g numbered.whole is.placed in
    let within = pointers_within input g inside (laws.block d g.places laid) in
    let apart = pointers_apart fits input g numbered.whole inside (laws.block_apart d g.places laid) in
    let base_at = behind_hosts input (global.Made TlsBase) block.base_global is_block.base (λ object slot e. absurd cc) in
    let got_word : (p : ℕ × ℕ) (f : TlsGotFixup) → IsGotFixup input p f
    → may_change input g (GlobalOf (global.GotMem p.0)) ≡ true
    → IsWordGlobal w s.globals f.global × (f.global ≢ block.base_global) =
    λ p f h change.
    let at = behind_hosts input (global.GotMem p.0) f.global h.global (λ object slot e. absurd cc) in (
      word_global input plan is w s holds f.global at.k (GlobalOf (global.GotMem p.0)) at.index at.own (λ q made. made.global_is) change,
      not_got f.global block.base_global (global_space input) p.0 h.global is_block.base,
    ) in
    record {
      is_word = room.is_word;
      pages = room.pages;
      given = room.given;
      room = omega (arith, enough, size, own_size);
      templates = rw (is_block.templates, own_size) fit;
      pointers = rw (is_block.pointers, own_size) within;
      apart = rw (is_block.pointers) apart;
      base_global = word_global input plan is w s holds block.base_global base_at.k (GlobalOf (global.Made TlsBase)) base_at.index base_at.own
          (λ q made. made.global_is) shared;
      got = zip_each (IsGotFixup input) (λ (p : ℕ × ℕ). may_change input g (GlobalOf (global.GotMem p.0)) ≡ true)
          (λ (f : TlsGotFixup). IsWordGlobal w s.globals f.global × (f.global ≢ block.base_global)) (got_places input g) block.got
          is_block.got (got_changes input g) got_word;
      distinct = got_distinct input (got_places input g) block.got is_block.got (places_differ input g 0 (got_mem input));
    }

pub block_made : BlockMade → WholeFit → SegmentsHaveLayouts → PlaceLaws → (input : Input) (plan : LinkPlan)
    (is : IsPlan input plan) (w : World) (s : State) (base : ℕ) (b : Body) → IsNumbered input
    → HasMadeBody plan (OfLinker InitTls) b → HoldsPlan plan w s → HasRoomFor plan s base
    → MakesBlock input is.placing w s base b
block_made law fits layouts laws input plan is w s base b numbered made holds room =
    let g = is.placing in
    let there = linker_body input plan is InitTls b made in
    let body : IsEncodedBody input g (FunctionOf (function.Made InitTls)) b = there.body in
    let ops = body.are_ops in
    let shared = blocks_there input there.place there.here in
    let can = can_init fits layouts laws input plan is w s base ops.block numbered holds room shared ops.is_block in
    let encoded : IsEncoded (init_tls_ops ops.block) body.bytes =
    subst (λ (os : List Op). IsEncoded os body.bytes) ops.are body.encoded in
    let done = law w s base ops.block body.bytes encoded can in
    record {
      block = ops.block;
      is_block = ops.is_block;
      after = done.0;
      runs = subst (λ (t : List ℕ). Runs w 0 t s (Done done.0)) (sym body.made.bytes_are) done.1;
      is_initialized = done.2;
    }

-- ---- stubs

stub_entry : (input : Input) (entry : FunctionEntry) (name : List ℕ) → origin_of input entry ≡ Some (OfStub name)
    → (object : ℕ) × (slot : ℕ) × (entry ≡ FunctionOf (function.Stub object slot))
stub_entry input (FunctionOf (function.Defined object number)) name e = absurd cc
stub_entry input (FunctionOf (function.Made n)) name e = absurd cc
stub_entry input (FunctionOf (function.Host object slot)) name e = absurd cc
stub_entry input (FunctionOf (function.Stub object slot)) name e = (object, slot, refl)
stub_entry input InitMemory name e = absurd cc

not_stub : (o : Origin) (stub name : List ℕ) → o ≡ OfStub stub → o ≡ OfWrapper name → ⊥
not_stub o stub name a b = absurd (let e : OfStub stub ≡ OfWrapper name = sym a ∙ b in cc)

pub stub_traps : TrapsAtOnce UNREACHABLE_FUNCTION_BODY → (input : Input) (plan : LinkPlan) (is : IsPlan input plan)
    (name : List ℕ) (b : Body) → HasMadeBody plan (OfStub name) b → TrapsAtOnce b.bytes
stub_traps law input plan is name b h =
    elim (own_or_wrapper input is.placing plan.layout.function_type_indices plan.layout.function_bodies h.place
    h.function b is.spaces.functions is.bodies.bodies h.here h.body) [
      | inl own ↦
          let entry = stub_entry input own.entry name (own.origin ∙ ap (λ (o : Origin). Some o) h.origin_is) in
          let body : IsMadeBody UNREACHABLE_FUNCTION_BODY b =
          subst (λ (e : FunctionEntry). IsBodyOf input is.placing e b) entry.2 own.body in
          subst (λ (t : List ℕ). TrapsAtOnce t) (sym body.bytes_are) law
      | inr wrapper ↦ absurd (not_stub h.function.origin name wrapper.0 h.origin_is wrapper.1)
    ]
