-- The parts of a plan fit one another: types, bodies, numbers of segments, and slots.
use Rattle.std.proofs.Common.{◌≡◌, ◌≢◌, ◌∙◌, inl, inr, ℕ, zero, suc, ◌+◌, ◌-◌, ◌<◌, ◌≤◌, ◌||◌, ◌&&◌, Bool, true, false, List, [], ◌∷◌, ◌++◌, length, map, refl, sym, ap, subst, arith, Option, Some, None, slice_get, get_or, length-append, Contains, position}
use Rattle.std.specs.List.{AllZip, filter_map, cons_option}
use Rattle.std.specs.Option.{option_map, unwrap_or}
use Rattle.std.proofs.Math.Nat.{le-max_left}
use Rattle.std.proofs.lemmas.Bool.{cases_Bool}
use Rattle.std.proofs.lemmas.List.Quantifiers.{position-Some}
use Rattle.std.proofs.lemmas.Option.{same_Some, slice_get_within}
use Rattle.wl_module.specs.Bodies.{Body}
use Rattle.wl_module.specs.Types.{FunctionType}
use Rattle.wl_module.specs.declared.limits.TableType.{TableType}
use Rattle.wl_custom.specs.RelocationTypes.{is_table_index, is_table_number, is_global_index}
use Rattle.wl_index.specs.declared.index.TheConstants.{WASM_DEAD_INDEX}
use Rattle.wl_lists.proofs.Beside.{zip_length, zip_left, zip_right}
use Rattle.wl_lists.proofs.Firsts.{in_firsts}
use Rattle.wl_lists.proofs.Found.{any_in}
use Rattle.wl_lists.proofs.In.{IsIn, at_is_in, in_split, list_in, place_in}
use Rattle.wl_lists.proofs.Places.{append_split, came_at, there_is}
use Rattle.wl_ops.specs.Decoding.{AreTaken}
use Rattle.wl_ops.specs.Numbers.{AreTold, HasNumbers}
use Rattle.wl_ops.specs.Rewriting.{Rewrites, renumbered}
use Rattle.wl_ops.specs.Standing.{Keeps}
use Rattle.wl_ops.specs.declared.op.DataIndexImm.{DataIndexImm}
use Rattle.wl_ops.specs.declared.op.Op.{Op}
use Rattle.wl_symbols.specs.ImportSlots.{ImportSlot}
use Rattle.wl_symbols.specs.Input.{Input, keeps}
use Rattle.wl_symbols.specs.Relocations.{relocations}
use Rattle.wl_symbols.specs.declared.relocated.Relocated.{Relocated}
use Rattle.wl_symbols.specs.declared.units.WasmGcUnit.TheVariants.{DataSegment}
use Rattle.wl_bind.specs.EntryTypes.{function_slot, type_of_entry}
use Rattle.wl_bind.specs.FunctionSpace.{FunctionEntry, FunctionOf, InitMemory, function_space}
use Rattle.wl_bind.specs.Made.{has_table, table_size}
use Rattle.wl_bind.specs.OutputTypes.{output_types}
use Rattle.wl_bind.specs.Parts.{StandOnce}
use Rattle.wl_bind.specs.Sameness.{same_target}
use Rattle.wl_bind.specs.Scan.{asks_for_table, names_function, table_function_of, table_functions}
use Rattle.wl_bind.specs.declared.binding.FunctionTarget.{FunctionTarget}
use Rattle.wl_bind.specs.declared.binding.FunctionTarget.TheVariants as function
use Rattle.wl_exports.specs.Exports.{ExportEntry}
use Rattle.wl_exports.specs.Wrappers.{wrapped}
use Rattle.wl_places.specs.Addresses.{segment_space}
use Rattle.wl_plan.specs.Bodies.{IsBodyIn, IsBodyOf, IsRenumbered, IsWrapperBody, body_in}
use Rattle.wl_places.specs.SegmentNumbers.{new_number, same_segment}
use Rattle.wl_plan.specs.Functions.{IsOutputFunction, IsTypeNumber, IsWrapperFunction, origin_of, own_functions}
use Rattle.wl_plan.specs.Origins.{Origin, OfObject, OfStub, OfWrapper, PlannedFunction}
use Rattle.wl_plan.specs.Plan.{IsPlan}
use Rattle.wl_plan.specs.Running.{HasMadeBody}
use Rattle.wl_plan.specs.Table.{IsElement, slot_behind_first, slot_of_entry, space_slots, wrapper_slots}
use Rattle.wl_plan.specs.declared.layout.LinkPlan.{LinkPlan}
use Rattle.wl_places.specs.declared.placing.Placing.{Placing}
use Rattle.wl_plan.proofs.RunningLaws.{own_or_wrapper}
use Rattle.wl_places.proofs.SegmentLaws.{same_pair}

-- ---- types and bodies

pub body_for_each : (input : Input) (plan : LinkPlan) → IsPlan input plan
    → length plan.layout.function_bodies ≡ length plan.layout.function_type_indices
body_for_each input plan is =
    let fs = is.spaces.functions in
    let bs = is.bodies.bodies in
    let types = output_types input in
    let f_own = zip_length (IsOutputFunction input types) (own_functions input) fs.own fs.are_own in
    let f_last = zip_length (IsWrapperFunction input types) (wrapped input) fs.wrappers fs.are_wrappers in
    let b_own = zip_length (IsBodyOf input is.placing) (own_functions input) bs.own bs.are_own in
    let b_last = zip_length (IsWrapperBody input) (wrapped input) bs.wrappers bs.are_wrappers in
    let f_all = ap (λ (xs : List PlannedFunction). length xs) fs.parts ∙ length-append fs.own fs.wrappers in
    let b_all = ap (λ (xs : List Body). length xs) bs.parts ∙ length-append bs.own bs.wrappers in
    omega (arith, f_own, f_last, b_own, b_last, f_all, b_all)

typed_within : (types : List FunctionType) (ty : Option FunctionType) (number : ℕ)
    → IsTypeNumber types ty number → number < length types
typed_within types ty number h = slice_get_within types number h.0 h.2

pub function_typed : (input : Input) (plan : LinkPlan) (f : PlannedFunction) → IsPlan input plan
    → Contains plan.layout.function_type_indices f
    → f.type_index < length plan.layout.output_types
function_typed input plan f is there =
    let fs = is.spaces.functions in
    let types = output_types input in
    let listed : IsIn (fs.own ++ fs.wrappers) f =
    subst (λ (xs : List PlannedFunction). IsIn xs f) fs.parts
    (list_in plan.layout.function_type_indices f there) in
    let within : f.type_index < length types = elim (in_split fs.own fs.wrappers f listed) [
      | inl own ↦
          let k = place_in fs.own f own in
          let z = zip_left (IsOutputFunction input types) (own_functions input) fs.own k.0 f fs.are_own k.1 in
          typed_within types (type_of_entry input z.0) f.type_index (z.2).typed
      | inr last ↦
          let k = place_in fs.wrappers f last in
          let z = zip_left (IsWrapperFunction input types) (wrapped input) fs.wrappers k.0 f fs.are_wrappers k.1 in
          typed_within types (type_of_entry input (z.2).function) f.type_index (z.2).typed
    ] in
    rw is.spaces.types within

-- ---- bodies of objects

object_entry : (input : Input) (entry : FunctionEntry) (object number : ℕ)
    → origin_of input entry ≡ Some (OfObject object number)
    → entry ≡ FunctionOf (function.Defined object number)
object_entry input (FunctionOf (function.Defined o n)) object number e =
    let first : o ≡ object = cc in
    let second : n ≡ number = cc in
    rw (first, second) refl
object_entry input (FunctionOf (function.Made m)) object number e = absurd cc
object_entry input (FunctionOf (function.Host o slot)) object number e = absurd cc
object_entry input (FunctionOf (function.Stub o slot)) object number e =
    absurd (at (function_slot input o slot) e)
  where
    at : (t : Option ImportSlot) → option_map (λ (x : ImportSlot). OfStub x.item.name) t ≡ Some (OfObject object number) → ⊥
    at None h = absurd cc
    at (Some t) h = absurd cc
object_entry input InitMemory object number e = absurd cc

not_object : (o : Origin) (object number : ℕ) (name : List ℕ) → o ≡ OfObject object number
    → o ≡ OfWrapper name → ⊥
not_object o object number name a b =
    absurd (let e : OfObject object number ≡ OfWrapper name = sym a ∙ b in cc)

object_body : (input : Input) (plan : LinkPlan) (is : IsPlan input plan) (object number : ℕ)
    (b : Body) → HasMadeBody plan (OfObject object number) b
    → IsBodyIn input is.placing object number b
object_body input plan is object number b h =
    elim (own_or_wrapper input is.placing plan.layout.function_type_indices plan.layout.function_bodies
    h.place h.function b is.spaces.functions is.bodies.bodies h.here h.body) [
      | inl own ↦
          let entry = object_entry input own.entry object number
          (own.origin ∙ ap (λ (o : Origin). Some o) h.origin_is) in
          subst (λ (e : FunctionEntry). IsBodyOf input is.placing e b) entry own.body
      | inr wrapper ↦
          absurd (not_object h.function.origin object number wrapper.0 h.origin_is wrapper.1)
    ]

-- its bytes are those of the object's own with other numbers
renumbered_body : (input : Input) (plan : LinkPlan) (is : IsPlan input plan) (object number : ℕ)
    (own b : Body) → HasMadeBody plan (OfObject object number) b
    → body_in input object number ≡ Some own
    → IsRenumbered input is.placing object own.bytes b.bytes
renumbered_body input plan is object number own b h here =
    let body = object_body input plan is object number b h in
    subst (λ (x : Body). IsRenumbered input is.placing object x.bytes b.bytes)
    (same_Some body.own own (sym body.here ∙ here)) body.bytes

-- what a lower crate says of rewritten bodies
abbrev pub KeepsOperators : Type 0
KeepsOperators = (new : ℕ → Option ℕ) (numbers : List DataIndexImm) (body other : List ℕ)
    → HasNumbers numbers body → Rewrites new 0 numbers body other → Keeps new numbers body other

pub operators_kept : KeepsOperators → (input : Input) (plan : LinkPlan) (is : IsPlan input plan)
    (object number : ℕ) (own b : Body) (ops : List Op) → HasMadeBody plan (OfObject object number) b
    → body_in input object number ≡ Some own → AreTaken ops own.bytes
    → AreTaken (map (renumbered (new_number input is.placing object)) ops) b.bytes
operators_kept law input plan is object number own b ops h here taken =
    let re = renumbered_body input plan is object number own b h here in
    let kept = law (new_number input is.placing object) re.numbers own.bytes b.bytes re.theirs.0 re.rewritten in
    kept.operators ops taken

-- ---- numbers of segments

all_new : (new : ℕ → Option ℕ) (place : ℕ) (ns : List DataIndexImm) (x y : List ℕ)
    → Rewrites new place ns x y → (n : DataIndexImm) → IsIn ns n
    → (k : ℕ) × (new n.index ≡ Some k)
all_new new place [] x y h n there = absurd there
all_new new place (m ∷ ns) x y (before, digits, later, k, short, more, parts, at, long, found, fits, made, rest) n (inl is) =
    (k, subst (λ (d : DataIndexImm). new d.index ≡ Some k) is found)
all_new new place (m ∷ ns) x y (before, digits, later, k, short, more, parts, at, long, found, fits, made, rest) n (inr behind) =
    all_new new (m.offset + m.len) ns later more rest n behind

-- a new number is the place of the same segment
named_there : (input : Input) (g : Placing) (object number place : ℕ)
    → new_number input g object number ≡ Some place
    → slice_get (segment_space g) place ≡ Some (object, number)
named_there input g object number place e =
    elim (cases_Bool (keeps input object (DataSegment number))) [
      | inl kept ↦
          let found : position (same_segment (object, number)) (segment_space g) ≡ Some place = rw kept at e in
          let d : ℕ × ℕ = (object, number) in
          let at = position-Some (same_segment d) (segment_space g) place d found in
          let there = there_is (segment_space g) place at.0 in
          let is : there.0 ≡ get_or (segment_space g) place d = item_read (segment_space g) place d there.0 there.1 in
          let same : d ≡ there.0 = same_pair d there.0 (subst (λ (p : ℕ × ℕ). same_segment d p ≡ true) (sym is) at.1) in
          there.1 ∙ ap (λ (p : ℕ × ℕ). Some p) (sym same)
      | inr dropped ↦ absurd (let none : None ≡ Some place = rw dropped at e in cc)
    ]
  where
    item_read : (xs : List (ℕ × ℕ)) (k : ℕ) (d p : ℕ × ℕ) → slice_get xs k ≡ Some p → p ≡ get_or xs k d
    item_read [] k d p e = absurd cc
    item_read (x ∷ xs) zero d p e = sym (same_Some x p e)
    item_read (x ∷ xs) (suc k) d p e = item_read xs k d p e

-- what a lower crate says of the numbers of a body
abbrev pub NumbersAreOne : Type 0
NumbersAreOne = (body : List ℕ) (numbers others : List DataIndexImm) → HasNumbers numbers body
    → HasNumbers others body → numbers ≡ others

pub numbers_named : NumbersAreOne → (input : Input) (plan : LinkPlan) (is : IsPlan input plan)
    (object number : ℕ) (own b : Body) (numbers : List DataIndexImm) (n : DataIndexImm)
    → HasMadeBody plan (OfObject object number) b → body_in input object number ≡ Some own
    → AreTold numbers own.bytes → Contains numbers n
    → (place : ℕ) × (new_number input is.placing object n.index ≡ Some place)
    × (slice_get (segment_space is.placing) place ≡ Some (object, n.index))
numbers_named one input plan is object number own b numbers n h here told there =
    let re = renumbered_body input plan is object number own b h here in
    let same : numbers ≡ re.numbers = one own.bytes numbers re.numbers told.0 re.theirs.0 in
    let listed : IsIn re.numbers n = subst (λ (ns : List DataIndexImm). IsIn ns n) same (list_in numbers n there) in
    let new = all_new (new_number input is.placing object) 0 re.numbers own.bytes b.bytes re.rewritten n listed in
    (new.0, new.1, named_there input is.placing object n.index new.0 new.1)

-- ---- slots

record Chosen {X Y : Type 0} (f : X → Option Y) (xs : List X) (y : Y) : Type 0 where
  pub from : X
  pub there : IsIn xs from
  pub gives : f from ≡ Some y

chosen_from : {X Y : Type 0} (f : X → Option Y) (xs : List X) (y : Y) → IsIn (filter_map f xs) y
    → Chosen f xs y
chosen_from f [] y h = absurd h
chosen_from {X} {Y} f (x ∷ xs) y h = at (f x) refl (chosen_from f xs y) h
  where
    at : (o : Option Y) → f x ≡ o → (IsIn (filter_map f xs) y → Chosen f xs y)
        → IsIn (cons_option o (filter_map f xs)) y → Chosen f (x ∷ xs) y
    at None e rest h =
        let c = rest h in
        record { from = c.from; there = inr c.there; gives = c.gives }
    at (Some z) e rest (inl is) =
        record { from = x; there = inl refl; gives = e ∙ ap (λ (w : Y). Some w) is }
    at (Some z) e rest (inr behind) =
        let c = rest behind in
        record { from = c.from; there = inr c.there; gives = c.gives }

asks_by : (a b m n : Bool) → ((a || b) && n) ≡ true → (a || m || (b && n)) ≡ true
asks_by true b m n h = refl
asks_by false false m n h = absurd (let bad : false ≡ true = h in cc)
asks_by false true m false h = absurd (let bad : false ≡ true = h in cc)
asks_by false true true true h = refl
asks_by false true false true h = refl

-- a function of the table was asked for
asked_for : (input : Input) (r : Relocated) (target : FunctionTarget)
    → table_function_of input r ≡ Some target → asks_for_table input r ≡ true
asked_for input r target e =
    let a = is_table_index r.relocation.ty in
    let b = is_global_index r.relocation.ty in
    let n = names_function input r in
    elim (cases_Bool ((a || b) && n)) [
      | inl asks ↦ asks_by a b (is_table_number r.relocation.ty) n asks
      | inr not ↦ absurd (let none : None ≡ Some target = rw not at e in cc)
    ]

-- where the table has a function, there is a table
table_is_there : (input : Input) (target : FunctionTarget) → IsIn (table_functions input) target
    → has_table input ≡ true
table_is_there input target h =
    let listed = in_firsts same_target (filter_map (table_function_of input) (relocations input)) target h in
    let c = chosen_from (table_function_of input) (relocations input) target listed in
    let asks = any_in (asks_for_table input) (relocations input) c.from c.there (asked_for input c.from target c.gives) in
    rw asks refl

-- what a slot after the first is of
record HasPlace (input : Input) (target : FunctionTarget) (slot : ℕ) : Type 0 where
  place : ℕ
  found : position (same_target target) (table_functions input) ≡ Some place
  slot_is : slot ≡ place + 1

place_by : (input : Input) (target : FunctionTarget) (slot : ℕ)
    → unwrap_or (slot_behind_first input target) WASM_DEAD_INDEX ≡ slot → slot ≢ WASM_DEAD_INDEX
    → HasPlace input target slot
place_by input target slot e not = at (position (same_target target) (table_functions input)) refl e
  where
    at : (o : Option ℕ) → position (same_target target) (table_functions input) ≡ o
        → unwrap_or (option_map (λ (place : ℕ). place + 1) o) WASM_DEAD_INDEX ≡ slot
        → HasPlace input target slot
    at None found is = absurd (not (sym is))
    at (Some place) found is = record { place = place; found = found; slot_is = sym is }

entry_place : (input : Input) (entry : FunctionEntry) (slot : ℕ) → slot_of_entry input entry ≡ slot
    → slot ≢ 0 → slot ≢ WASM_DEAD_INDEX
    → (target : FunctionTarget) × (entry ≡ FunctionOf target) × HasPlace input target slot
entry_place input (FunctionOf (function.Stub o s)) slot e some not = absurd (some (sym e))
entry_place input (FunctionOf (function.Defined o n)) slot e some not =
    (function.Defined o n, refl, place_by input (function.Defined o n) slot e not)
entry_place input (FunctionOf (function.Made m)) slot e some not =
    (function.Made m, refl, place_by input (function.Made m) slot e not)
entry_place input (FunctionOf (function.Host o s)) slot e some not =
    (function.Host o s, refl, place_by input (function.Host o s) slot e not)
entry_place input InitMemory slot e some not = absurd (not (sym e))

all_wrappers_none : (es : List ExportEntry) (k slot : ℕ)
    → slice_get (map (λ (e : ExportEntry). WASM_DEAD_INDEX) es) k ≡ Some slot → slot ≡ WASM_DEAD_INDEX
all_wrappers_none es k slot e =
    let c = came_at (λ (x : ExportEntry). WASM_DEAD_INDEX) es k slot e in sym (c.2)

-- what lower crates say of targets and of the space
pub record SlotLaws : Type 0 where
  pub one : (a b : FunctionTarget) → same_target a b ≡ true → a ≡ b
  pub once : (input : Input) → StandOnce (function_space input)

element_of : SlotLaws → (input : Input) (elements : List ℕ) (target : FunctionTarget) (index place : ℕ)
    → AllZip (IsElement input) (table_functions input) elements
    → position (same_target target) (table_functions input) ≡ Some place
    → slice_get (function_space input) index ≡ Some (FunctionOf target)
    → (slice_get elements place ≡ Some index) × IsIn (table_functions input) target
    × (place < length (table_functions input))
element_of laws input elements target index place zip found stands =
    let table : List FunctionTarget = table_functions input in
    let at = position-Some (same_target target) table place target found in
    let there = there_is table place at.0 in
    let is : there.0 ≡ get_or table place target = read table place target there.0 there.1 in
    let same : target ≡ there.0 =
    laws.one target there.0 (subst (λ (t : FunctionTarget). same_target target t ≡ true) (sym is) at.1) in
    let here : slice_get table place ≡ Some target = there.1 ∙ ap (λ (t : FunctionTarget). Some t) (sym same) in
    let z = zip_right (IsElement input) table elements place target zip here in
    let equal : z.0 ≡ index = laws.once input z.0 index (FunctionOf target) z.2 stands in
    (z.1 ∙ ap (λ (n : ℕ). Some n) equal, at_in table place target here, at.0)
  where
    read : (xs : List FunctionTarget) (k : ℕ) (d p : FunctionTarget) → slice_get xs k ≡ Some p → p ≡ get_or xs k d
    read [] k d p e = absurd cc
    read (x ∷ xs) zero d p e = sym (same_Some x p e)
    read (x ∷ xs) (suc k) d p e = read xs k d p e

    at_in : (xs : List FunctionTarget) (k : ℕ) (x : FunctionTarget) → slice_get xs k ≡ Some x → IsIn xs x
    at_in xs k x e = list_in xs x (at_is_in xs k x e)

pub slot_holds : SlotLaws → (input : Input) (plan : LinkPlan) (index slot : ℕ) → IsPlan input plan
    → slice_get plan.layout.function_table_slots index ≡ Some slot → slot ≢ 0 → slot ≢ WASM_DEAD_INDEX
    → (slice_get plan.layout.element_functions (slot - 1) ≡ Some index)
    × ((t : TableType) × (plan.layout.table ≡ Some t) × (slot < t.initial))
slot_holds laws input plan index slot is here some not =
    let listed : slice_get (space_slots input ++ wrapper_slots input) index ≡ Some slot =
    subst (λ (ns : List ℕ). slice_get ns index ≡ Some slot) is.entities.slots here in
    elim (append_split (space_slots input) (wrapper_slots input) index slot listed) [
      | inl front ↦
          let c = came_at (slot_of_entry input) (function_space input) index slot front in
          let p = entry_place input c.0 slot c.2 some not in
          let stands : slice_get (function_space input) index ≡ Some (FunctionOf p.0) =
          c.1 ∙ ap (λ (e : FunctionEntry). Some e) p.1 in
          let place = p.2.place in
          let e = element_of laws input plan.layout.element_functions p.0 index place is.entities.elements p.2.found stands in
          let before : slot - 1 ≡ place = (let at = p.2.slot_is in omega (arith, at)) in
          let t : TableType = record { initial = table_size input; maximum = Some (table_size input) } in
          let has = table_is_there input p.0 e.1 in
          let there : plan.layout.table ≡ Some t = is.entities.table ∙ (rw has refl) in
          let within : slot < table_size input =
          (let at = p.2.slot_is in let lt = e.2 in
          let most : length (table_functions input) + 1 ≤ table_size input = le-max_left (length (table_functions input) + 1) _ in omega (arith, at, lt, most)) in
          (rw before e.0, (t, there, within))
      | inr behind ↦ absurd (not (all_wrappers_none (wrapped input) behind.0 slot behind.2))
    ]
