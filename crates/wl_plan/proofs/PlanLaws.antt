-- The plan of a link, part by part: its steps, and how many things there are.
use Rattle.std.proofs.Common.{◌≡◌, ◌∙◌, ◌⊎◌, ◌<◌, ◌≤◌, ◌^◌, ℕ, ◌+◌, List, [], ◌∷◌, ◌++◌, length, map, refl, sym, ap, subst, arith, inl, inr, length-append, length-drop}
use Rattle.std.proofs.lemmas.Bool.{cases_lt}
use Rattle.std.proofs.lemmas.List.{length-map}
use Rattle.std.proofs.lemmas.List.Sums.{sum_by-cons}
use Rattle.wl_module.specs.Bodies.{Body}
use Rattle.wl_linking.specs.Steps.{Clear, Refuses, Step}
use Rattle.wl_linking.specs.declared.error.LinkError.{LinkError}
use Rattle.wl_linking.specs.declared.error.LinkError.TheVariants.{TooLarge}
use Rattle.wl_linking.specs.declared.error.Quantity.TheVariants.{Space}
use Rattle.wl_symbols.specs.ImportSlots.{ImportSlot}
use Rattle.wl_symbols.specs.Left.{first_imports, first_slot}
use Rattle.wl_symbols.specs.declared.linker_symbol.WasmLinkerSymbol.TheVariants.{CallCtors, InitTls}
use Rattle.wl_index.specs.declared.index.TheConstants.{MAX_ENTRIES}
use Rattle.wl_data.specs.Segments.{SegmentLayout}
use Rattle.wl_data.specs.Sizes.{all_encoded_bytes, body_bytes, segment_count}
use Rattle.wl_data.specs.DataPlaces.{IsPastMemory}
use Rattle.wl_data.specs.Stack.{IsBadStackSize}
use Rattle.wl_bind.specs.Bound.{bind_steps}
use Rattle.wl_bind.specs.Conflicts.{IsStubConflict, IsHostConflict}
use Rattle.wl_bind.specs.FunctionBinding.{host_functions}
use Rattle.wl_bind.specs.FunctionSpace.{FunctionOf, function_space, host_function_part, init_memory_part, made_function_part, object_functions, stub_part}
use Rattle.wl_bind.specs.GlobalSpace.{global_space}
use Rattle.wl_symbols.specs.Input.{Input}
use Rattle.wl_bind.specs.Kinds.{IsWrongKind}
use Rattle.wl_bind.specs.OutputTypes.{output_types}
use Rattle.wl_bind.specs.Parts.{StandOnce, joined}
use Rattle.wl_bind.specs.References.{IsSettled}
use Rattle.wl_bind.specs.Shared.{function_imports}
use Rattle.wl_bind.specs.Signatures.{IsMismatch}
use Rattle.wl_bind.specs.SpaceFaults.{IsSpaceTooLarge, index_fault}
use Rattle.wl_bind.specs.Undefined.{IsUndefinedData, IsUndefinedImport}
use Rattle.wl_bind.specs.declared.binding.FunctionTarget.TheVariants.{Host}
use Rattle.wl_places.specs.Addresses.{numbers_from, segment_space}
use Rattle.wl_exports.specs.Wrapped.{WrapperEntry, IsWrapper, AreWrappers}
use Rattle.wl_exports.specs.Wrappers.{wrapped}
use Rattle.wl_plan.specs.Bodies.{IsBodyFault, IsBodyOf, IsWrapperBody, AreBodies}
use Rattle.wl_plan.specs.BodySteps.{AreSoundBodies}
use Rattle.wl_plan.specs.Faults.{HasLargeBodies, IsNumberFault, IsPlacedFault, IsSizeFault, IsValueFault, placed_fault}
use Rattle.wl_plan.specs.Functions.{IsOutputFunction, AreOwnFunctions, IsWrapperFunction, AreOutputFunctions, own_functions}
use Rattle.wl_plan.specs.Origins.{PlannedFunction}
use Rattle.wl_plan.specs.steps.Outline.{AreFew, HasWrapperRoom}
use Rattle.wl_places.specs.Placing.{IsPlacing, AreTooManySegments, IsMemoryFault, data_input, place_steps}
use Rattle.wl_plan.specs.steps.Sizes.{IsTooBig}
use Rattle.wl_places.specs.declared.placing.Placing.{Placing}
use Rattle.wl_linking.proofs.StepLaws.{IsRow, clear_both, refuses_for, refuses_memory, refuses_more, row_end, row_more, first_clear, rest_clear}
use Rattle.wl_lists.proofs.Beside.{zip_length}
use Rattle.wl_plan.specs.steps.Threads.{IsBodyRefusal}
use Rattle.wl_plan.proofs.UniqueBodies.{FormsAreOne, NoneGreat, body_clear, bodies_one}

-- ---- rows of steps

-- those by which references can't be bound, and things not numbered
abbrev pub index_row : Input → (LinkError → Type 0) → LinkError → Type 0
index_row input rest = bind_steps input (Step (IsSpaceTooLarge input) rest)

pub index_is_row : (input : Input) → IsRow (index_row input)
index_is_row input =
    row_more (IsWrongKind input) _ (row_more (IsMismatch input) _ (row_more (IsUndefinedData input) _
    (row_more (IsStubConflict input) _ (row_more (IsUndefinedImport input) _
    (row_more (IsHostConflict input) _ (row_more (IsSpaceTooLarge input) _ row_end))))))

-- those by which data can't be placed
abbrev pub place_row : Input → (LinkError → Type 0) → LinkError → Type 0
place_row input rest = place_steps input rest

pub place_is_row : (input : Input) → IsRow (place_row input)
place_is_row input =
    row_more (AreTooManySegments input) _ (row_more (IsBadStackSize input.link.args.z_stack_size) _
    (row_more (IsPastMemory (data_input input)) _ (row_more (IsMemoryFault input) _ row_end)))

-- ---- what clear steps say

pub settled_by : (input : Input) → AreSoundBodies input → Clear (index_fault input) → IsSettled input
settled_by input sound clear = record {
  whole = sound.whole;
  kept = sound.kept;
  kinds = first_clear (IsWrongKind input) _ clear;
}

pub signatures_by : (input : Input) → Clear (index_fault input) → Clear (IsMismatch input)
signatures_by input clear =
    first_clear (IsMismatch input) _ (rest_clear (IsWrongKind input) _ clear)

space_clear : (input : Input) → Clear (index_fault input) → Clear (IsSpaceTooLarge input)
space_clear input clear =
    first_clear (IsSpaceTooLarge input) _ (rest_clear (IsHostConflict input) _
    (rest_clear (IsUndefinedImport input) _ (rest_clear (IsStubConflict input) _
    (rest_clear (IsUndefinedData input) _ (rest_clear (IsMismatch input) _
    (rest_clear (IsWrongKind input) _ clear))))))

pub at_most : (n : ℕ) → (MAX_ENTRIES < n → ⊥) → n ≤ MAX_ENTRIES
at_most n none = elim (cases_lt MAX_ENTRIES n) [ inl over ↦ absurd (none over) | inr le ↦ le ]

pub few_by : (input : Input) → Clear (index_fault input) → AreFew input
few_by input clear =
    let none = space_clear input clear in
    record {
      types = at_most (length (output_types input)) (λ over.
          none.none (TooLarge Space) (record { told = refl; over = inl over }));
      functions = at_most (length (function_space input)) (λ over.
          none.none (TooLarge Space) (record { told = refl; over = inr (inl over) }));
      globals = at_most (length (global_space input)) (λ over.
          none.none (TooLarge Space) (record { told = refl; over = inr (inr over) }));
    }

-- ---- where things lie

abbrev pub OnePlacing : Type 0
OnePlacing = (input : Input) (a b : Placing) → IsPlacing input a → IsPlacing input b → a ≡ b

pub placed_clear : OnePlacing → (input : Input) (g : Placing) → IsPlacing input g
    → Clear (placed_fault input g) → Clear (IsPlacedFault input)
placed_clear one input g placed clear = record {
  none = λ e h. clear.none e (subst (λ (x : Placing). placed_fault input x e)
      (one input h.placing g h.placed placed) h.fault);
}

pub placed_refuses : (input : Input) (g : Placing) (e : LinkError) → IsPlacing input g
    → Refuses (placed_fault input g) e → Refuses (IsPlacedFault input) e
placed_refuses input g e placed h = record {
  cause_is = λ other. record { placing = g; placed = placed; fault = h.cause_is other };
}

-- ---- how many functions there are

pub hosts_length : (input : Input) → length (function_imports input) ≡ length (host_function_part input)
hosts_length input =
    length-map (first_imports (host_functions input)) first_slot
    ∙ sym (length-map (first_imports (host_functions input)) (λ (t : ImportSlot). FunctionOf (Host t.object t.number)))

pub front_within : {X : Type 0} (xs : List X) (xss : List (List X)) (ys : List X)
    → length xs ≤ length (joined (xs ∷ xss) ++ ys)
front_within xs xss ys =
    let all = length-append (xs ++ joined xss) ys in
    let front = length-append xs (joined xss) in
    omega (arith, all, front)

pub hosts_within : (input : Input) → length (host_function_part input) ≤ length (function_space input)
hosts_within input =
    front_within (host_function_part input)
    (made_function_part input CallCtors ∷ made_function_part input InitTls ∷ init_memory_part input
    ∷ stub_part input ∷ []) (object_functions input)

pub bodies_few : (input : Input) (g : Placing) (bodies : List Body) → HasWrapperRoom input
    → AreBodies input g bodies → length bodies ≤ MAX_ENTRIES
bodies_few input g bodies few h =
    let own = zip_length (IsBodyOf input g) (own_functions input) h.own h.are_own in
    let wrappers = zip_length (IsWrapperBody input) (wrapped input) h.wrappers h.are_wrappers in
    let both = ap (λ (bs : List Body). length bs) h.parts ∙ length-append h.own h.wrappers in
    let len = length-drop (length (host_function_part input)) (function_space input) in
    omega (arith, few, own, wrappers, both, len)

-- with those that are imported, the functions are as many as the space has entries
pub functions_all : (input : Input) (functions : List PlannedFunction)
    → AreOwnFunctions input (output_types input) functions
    → length (function_imports input) + length functions ≡ length (function_space input)
functions_all input functions h =
    let same = zip_length (IsOutputFunction input (output_types input)) (own_functions input) functions h in
    let len = length-drop (length (host_function_part input)) (function_space input) in
    let hosts = hosts_length input in
    let within = hosts_within input in
    omega (arith, same, len, hosts, within)

-- the wrappers come on top of these
pub functions_wrapped : (input : Input) (functions : List PlannedFunction) (ws : List WrapperEntry)
    → AreOutputFunctions input (output_types input) functions → AreWrappers input ws
    → length (function_imports input) + length functions ≡ length (function_space input) + length ws
functions_wrapped input functions ws h zip =
    let own = functions_all input h.own h.are_own in
    let more = zip_length (IsWrapperFunction input (output_types input)) (wrapped input) h.wrappers h.are_wrappers in
    let all = zip_length (IsWrapper input) (wrapped input) ws zip in
    let both = ap (λ (fs : List PlannedFunction). length fs) h.parts ∙ length-append h.own h.wrappers in
    omega (arith, own, more, all, both)

-- ---- how many segments there are

numbers_length : (n : ℕ) (rows : List (List SegmentLayout))
    → length (numbers_from n rows) ≡ segment_count rows
numbers_length n [] = refl
numbers_length n (row ∷ rows) =
    let here = length-append (map (λ (l : SegmentLayout). (n, l.segment_index)) row) (numbers_from (n + 1) rows) in
    let len = length-map {B = ℕ × ℕ} row (λ (l : SegmentLayout). (n, l.segment_index)) in
    let rest = numbers_length (n + 1) rows in
    let sum : segment_count (row ∷ rows) ≡ length row + segment_count rows =
    sum_by-cons length row rows in
    omega (arith, here, len, rest, sum)

pub segments_few : (g : Placing) → length (segment_space g) ≤ MAX_ENTRIES
    → segment_count g.places.layouts ≤ MAX_ENTRIES
segments_few g few =
    let len = numbers_length 0 g.places.layouts in omega (arith, few, len)

-- ---- sizes

large_as : (input : Input) (g : Placing) (bodies : List Body) (rows : List (List SegmentLayout))
    → AreBodies input g bodies
    → ((2 ^ 62 ≤ body_bytes bodies) ⊎ (2 ^ 62 ≤ all_encoded_bytes rows))
    → (HasLargeBodies input g ⊎ (2 ^ 62 ≤ all_encoded_bytes rows))
large_as input g bodies rows are (inl large) =
    inl (record { bodies = bodies; are_bodies = are; large = large })
large_as input g bodies rows are (inr large) = inr large

pub size_refuses : (input : Input) (g : Placing) (bodies : List Body) (e : LinkError)
    → AreBodies input g bodies → IsTooBig bodies g.places.layouts e → IsSizeFault input g e
size_refuses input g bodies e are h = (h.0, large_as input g bodies g.places.layouts are h.1)

large_one : FormsAreOne → (input : Input) (g : Placing) (bodies : List Body)
    (rows : List (List SegmentLayout)) → StandOnce (function_space input)
    → StandOnce (global_space input) → AreBodies input g bodies
    → (HasLargeBodies input g ⊎ (2 ^ 62 ≤ all_encoded_bytes rows))
    → ((2 ^ 62 ≤ body_bytes bodies) ⊎ (2 ^ 62 ≤ all_encoded_bytes rows))
large_one forms input g bodies rows once globals are (inl h) =
    inl (subst (λ (bs : List Body). 2 ^ 62 ≤ body_bytes bs)
    (bodies_one forms input g once globals h.bodies bodies h.are_bodies are) h.large)
large_one forms input g bodies rows once globals are (inr large) = inr large

pub size_clear : FormsAreOne → (input : Input) (g : Placing) (bodies : List Body)
    → StandOnce (function_space input) → StandOnce (global_space input) → AreBodies input g bodies
    → Clear (IsTooBig bodies g.places.layouts) → Clear (IsSizeFault input g)
size_clear forms input g bodies once globals are clear = record {
  none = λ e h. clear.none e (h.0, large_one forms input g bodies g.places.layouts once globals are h.1);
}

-- ---- values and bodies

pub first_of_both : (cause other : LinkError → Type 0) → Clear (λ (e : LinkError). cause e ⊎ other e) → Clear cause
first_of_both cause other clear = record { none = λ e h. clear.none e (inl h) }

-- no global, no field and no body refuses
pub values_clear : FormsAreOne → NoneGreat → (input : Input) (g : Placing) → StandOnce (global_space input)
    → (bodies : List Body) → AreBodies input g bodies → Clear (IsNumberFault input g) → Clear (IsValueFault input g)
values_clear forms none input g once bodies are clear =
    clear_both (IsNumberFault input g) (IsBodyFault input g) clear (body_clear forms none input g once are.own are.are_own)

pub number_refuses : (input : Input) (g : Placing) (e : LinkError) → Refuses (IsNumberFault input g) e
    → Refuses (IsValueFault input g) e
number_refuses input g e h = refuses_more (IsNumberFault input g) (IsValueFault input g) e (λ x. inl x) h

pub body_refuses : (input : Input) (g : Placing) (e : LinkError) → IsBodyRefusal input g e
    → Refuses (IsValueFault input g) e
body_refuses input g e (inl memory) = refuses_memory (IsValueFault input g) e memory
body_refuses input g e (inr fault) = refuses_for (IsValueFault input g) e (inr fault)
