-- The listing of a plan counts nothing beyond 32 bits.
use Rattle.std.proofs.Common.{◌≡◌, ◌∙◌, ◌≤◌, ◌+◌, ◌^◌, ℕ, Bool, true, false, cond, not, ◌||◌, List, [], ◌∷◌, length, map, filter, drop, refl, sym, ap, subst, arith}
use Rattle.std.specs.List.{AllByRecursion, AllZip}
use Rattle.std.proofs.lemmas.List.{length-append, length-map, length-drop}
use Rattle.wl_bytes.specs.declared.reader.TheConstants.{MAX_LEN}
use Rattle.wl_custom.specs.Debug.{DebugInput}
use Rattle.wl_module.specs.Bodies.{Body}
use Rattle.wl_module.specs.Types.{FunctionType}
use Rattle.wl_linking.specs.Fitting.{IsObject, IsWhole}
use Rattle.wl_linking.specs.Object.{Object}
use Rattle.wl_linking.specs.Steps.{Clear}
use Rattle.wl_symbols.specs.Input.{Input}
use Rattle.wl_symbols.specs.Link.{Link, link_of}
use Rattle.wl_symbols.specs.Live.{Live, IsLiveOf}
use Rattle.wl_words.specs.declared.args.WasmArgs.{WasmArgs}
use Rattle.wl_data.specs.DataPlaces.{AllCanBePlaced, DataInput, HasLayout, HaveLayouts, IsDataPlaces, in_output_order, is_thread_local}
use Rattle.wl_data.specs.Layouts.{CanBePlaced}
use Rattle.wl_data.specs.Segments.{KeptData, SegmentLayout}
use Rattle.wl_data.specs.declared.options.DataOptions.{DataOptions}
use Rattle.wl_data.specs.declared.places.DataPlaces.{DataPlaces}
use Rattle.wl_bind.specs.FunctionSpace.{function_space, host_function_part}
use Rattle.wl_bind.specs.GlobalSpace.{global_parts, global_space, host_global_part, object_globals}
use Rattle.wl_bind.specs.OutputTypes.{output_types}
use Rattle.wl_bind.specs.Scan.{table_functions}
use Rattle.wl_bind.specs.SpaceFaults.{index_fault}
use Rattle.wl_exports.specs.Wrapped.{AreTooManyWrappers}
use Rattle.wl_exports.specs.Wrappers.{wrapped}
use Rattle.wl_index.specs.declared.index.TheConstants.{MAX_ENTRIES}
use Rattle.wl_check.specs.Ranges.{IsSmall}
use Rattle.wl_places.specs.Addresses.{numbers_from, segment_space}
use Rattle.wl_plan.specs.Bodies.{AreBodies, IsBodyOf, IsWrapperBody, object_debug_sections}
use Rattle.wl_plan.specs.Contents.{AllWithin}
use Rattle.wl_plan.specs.Faults.{IsLaterFault, input_of, kept_fault, laid_fault, link_fault}
use Rattle.wl_plan.specs.Functions.{AreOutputFunctions, IsOutputFunction, IsWrapperFunction, own_functions}
use Rattle.wl_plan.specs.Globals.{ArePlannedGlobals, IsPlannedGlobal, own_globals}
use Rattle.wl_places.specs.KeptData.{all_segments}
use Rattle.wl_plan.specs.LinkPlan.{IsLinkPlan, IsPlanOf}
use Rattle.wl_plan.specs.ObjectSegments.{ObjectSegment, of_object, segments_of_objects}
use Rattle.wl_plan.specs.Objects.{AreObjects}
use Rattle.wl_plan.specs.Origins.{PlannedFunction}
use Rattle.wl_plan.specs.steps.Outline.{AreFew, HasWrapperRoom}
use Rattle.wl_places.specs.Placing.{AreTooManySegments, IsPlacing, data_input, data_options}
use Rattle.wl_places.specs.declared.placing.Placing.{Placing}
use Rattle.wl_plan.specs.Plan.{IsPlan}
use Rattle.wl_plan.specs.PlanLines.{AreDebugSectionsSmall, ArePayloadsSmall, HasListing, first_function, first_global}
use Rattle.wl_plan.specs.Table.{IsElement}
use Rattle.wl_plan.specs.declared.layout.LinkPlan.{LinkPlan}
use Rattle.wl_linking.proofs.StepLaws.{first_clear, rest_clear}
use Rattle.wl_lists.proofs.Beside.{zip_length}
use Rattle.wl_lists.proofs.Places.{all_append}
use Rattle.wl_plan.proofs.CallLaws.{imported_functions}
use Rattle.wl_plan.proofs.DebugBounds.{SectionsStand, debug_within}
use Rattle.wl_plan.proofs.PlanLaws.{few_by, front_within, hosts_within, index_is_row}
use Rattle.wl_plan.proofs.PlannedLaws.{behind_index, wrapper_room}
use Rattle.wl_plan.proofs.RunningLaws.{imported_globals}
use Rattle.wl_plan.proofs.TableLaws.{TableIs, table_is_few}

-- ---- the things of spaces

-- the functions of a plan with those that are imported
functions_few : (input : Input) (plan : LinkPlan) (is : IsPlan input plan) → HasWrapperRoom input
    → first_function plan + length plan.layout.function_type_indices ≤ MAX_ENTRIES
functions_few input plan is room =
    let h : AreOutputFunctions input (output_types input) plan.layout.function_type_indices = is.spaces.functions in
    let hosts = imported_functions input is.placing plan.layout.imports is.spaces.imports in
    let within = hosts_within input in
    let own = zip_length (IsOutputFunction input (output_types input)) (own_functions input) h.own h.are_own in
    let len = length-drop (length (host_function_part input)) (function_space input) in
    let more = zip_length (IsWrapperFunction input (output_types input)) (wrapped input) h.wrappers h.are_wrappers in
    let both = ap (λ (fs : List PlannedFunction). length fs) h.parts ∙ length-append h.own h.wrappers in
    omega (arith, room, hosts, within, own, len, more, both)

-- and their bodies
bodies_few : (input : Input) (plan : LinkPlan) (is : IsPlan input plan) → HasWrapperRoom input
    → first_function plan + length plan.layout.function_bodies ≤ MAX_ENTRIES
bodies_few input plan is room =
    let h : AreBodies input is.placing plan.layout.function_bodies = is.bodies.bodies in
    let hosts = imported_functions input is.placing plan.layout.imports is.spaces.imports in
    let within = hosts_within input in
    let own = zip_length (IsBodyOf input is.placing) (own_functions input) h.own h.are_own in
    let len = length-drop (length (host_function_part input)) (function_space input) in
    let more = zip_length (IsWrapperBody input) (wrapped input) h.wrappers h.are_wrappers in
    let both = ap (λ (bs : List Body). length bs) h.parts ∙ length-append h.own h.wrappers in
    omega (arith, room, hosts, within, own, len, more, both)

-- the globals
globals_few : (input : Input) (plan : LinkPlan) (is : IsPlan input plan) → AreFew input
    → first_global plan + length plan.layout.globals ≤ MAX_ENTRIES
globals_few input plan is few =
    let h : ArePlannedGlobals input is.placing plan.layout.globals = is.spaces.globals in
    let hosts = imported_globals input is.placing plan.layout.imports is.spaces.imports in
    let within : length (host_global_part input) ≤ length (global_space input) =
    front_within (host_global_part input) (drop 1 (global_parts input)) (object_globals input) in
    let own = zip_length (IsPlannedGlobal input is.placing) (own_globals input) plan.layout.globals h in
    let len = length-drop (length (host_global_part input)) (global_space input) in
    let most = few.globals in
    omega (arith, most, hosts, within, own, len)

-- the functions of the table
elements_few : (input : Input) (plan : LinkPlan) (is : IsPlan input plan) → TableIs input → AreFew input
    → length plan.layout.element_functions ≤ MAX_ENTRIES
elements_few input plan is table few =
    let same = zip_length (IsElement input) (table_functions input) plan.layout.element_functions is.entities.elements in
    let within = table_is_few input table in
    let most = few.functions in
    omega (arith, same, within, most)

-- ---- segments

-- there are as many of them as numbers
as_many : (object : ℕ) (rows : List (List SegmentLayout)) → length (segments_of_objects object rows) ≡ length (numbers_from object rows)
as_many object [] = refl
as_many object (row ∷ rows) =
    let f : SegmentLayout → ObjectSegment = of_object object in
    let g : SegmentLayout → ℕ × ℕ = λ l. (object, l.segment_index) in
    let one = length-append (map f row) (segments_of_objects (object + 1) rows) in
    let two = length-append (map g row) (numbers_from (object + 1) rows) in
    let front = length-map row f in
    let other = length-map row g in
    let rest = as_many (object + 1) rows in
    omega (arith, one, two, front, other, rest)

abbrev IsShort : SegmentLayout → Type 0
IsShort l = IsSmall (length l.payload)

one_passing : {X : Type 0} (P : X → Type 0) (b : Bool) (x : X) (xs : List X) → P x → AllByRecursion P xs → AllByRecursion P (cond b (x ∷ xs) xs)
one_passing P true x xs here rest = (here, rest)
one_passing P false x xs here rest = rest

-- what all have, those that pass a test have
all_passing : {X : Type 0} (P : X → Type 0) (test : X → Bool) (xs : List X) → AllByRecursion P xs → AllByRecursion P (filter test xs)
all_passing P test [] h = tt
all_passing {X} P test (x ∷ xs) h = one_passing P (test x) x (filter test xs) h.0 (all_passing P test xs h.1)

zip_short : (o : DataOptions) (ss : List KeptData) (ls : List SegmentLayout) → AllByRecursion CanBePlaced ss → AllZip (HasLayout o) ss ls → AllByRecursion IsShort ls
zip_short o [] [] can h = tt
zip_short o [] (l ∷ ls) can h = absurd h
zip_short o (s ∷ ss) [] can h = absurd h
zip_short o (s ∷ ss) (l ∷ ls) can h =
    let same = ap (λ (p : List ℕ). length p) h.0.payload in
    let small = can.0.small in
    (omega (arith, same, small), zip_short o ss ls can.1 h.1)

-- in the order of the output
laid_short : (o : DataOptions) (ss : List KeptData) (ls : List SegmentLayout) → AllByRecursion CanBePlaced ss → HaveLayouts o ss ls → AllByRecursion IsShort ls
laid_short o ss ls can h =
    zip_short o (in_output_order ss) ls
    (all_append CanBePlaced (filter (λ (s : KeptData). not s.tls) ss) (filter is_thread_local ss)
    (all_passing CanBePlaced (λ (s : KeptData). not s.tls) ss can) (all_passing CanBePlaced is_thread_local ss can)) h

numbered_short : (object : ℕ) (ls : List SegmentLayout) → AllByRecursion IsShort ls → ArePayloadsSmall (map (of_object object) ls)
numbered_short object [] h = tt
numbered_short object (l ∷ ls) h = (h.0, numbered_short object ls h.1)

rows_short : (o : DataOptions) (object : ℕ) (rows : List (List KeptData)) (laid : List (List SegmentLayout)) → AllByRecursion AllCanBePlaced rows → AllZip (HaveLayouts o) rows laid
    → ArePayloadsSmall (segments_of_objects object laid)
rows_short o object [] [] can h = tt
rows_short o object [] (ls ∷ laid) can h = absurd h
rows_short o object (ss ∷ rows) [] can h = absurd h
rows_short o object (ss ∷ rows) (ls ∷ laid) can h =
    all_append (λ (s : ObjectSegment). IsSmall (length s.layout.payload)) (map (of_object object) ls) (segments_of_objects (object + 1) laid)
    (numbered_short object ls (laid_short o ss ls can.0 h.0)) (rows_short o (object + 1) rows laid can.1 h.1)

-- ---- debug sections

all_small : (i : ℕ) (ds : List DebugInput) (bound : ℕ) → bound ≤ MAX_LEN → AllByRecursion (λ (d : DebugInput). length d.payload ≤ bound) ds
    → AreDebugSectionsSmall (map (λ (d : DebugInput). record d { object_index = i }) ds)
all_small i [] bound le h = tt
all_small i (d ∷ ds) bound le h =
    let here = h.0 in
    (omega (arith, here, le), all_small i ds bound le h.1)

objects_small : SectionsStand → (i : ℕ) (objects : List Object) → AllByRecursion IsWhole objects → AreDebugSectionsSmall (object_debug_sections i objects)
objects_small stand i [] h = tt
objects_small stand i (o ∷ objects) h =
    all_append (λ (d : DebugInput). IsSmall (length d.payload)) (map (λ (d : DebugInput). record d { object_index = i }) o.debug_sections) (object_debug_sections (i + 1) objects)
    (all_small i o.debug_sections (length o.bytes) h.0.within (debug_within stand o o.bytes h.0.object)) (objects_small stand (i + 1) objects h.1)

kept_small : (b : Bool) (ds : List DebugInput) → AreDebugSectionsSmall ds → AreDebugSectionsSmall (cond b [] ds)
kept_small true ds h = tt
kept_small false ds h = h

-- ---- what a plan says

-- what is known of objects and of what their references are bound to
pub record LawsBelow : Type 0 where
  pub stand : SectionsStand
  pub placed : (input : Input) → AllByRecursion IsWhole input.link.objects → AllByRecursion AllCanBePlaced (all_segments input)
  pub few : (input : Input) (g : Placing) → Clear (AreTooManySegments input) → IsPlacing input g → length (segment_space g) ≤ MAX_ENTRIES
  pub layouts : (d : DataInput) (places : DataPlaces) → IsDataPlaces d places → AllZip (HaveLayouts d.options) d.objects places.layouts

all_but_last : (link : Link) → Clear (link_fault link) → Clear (IsLaterFault link)
all_but_last link clear =
    first_clear (IsLaterFault link) _ (rest_clear _ _ (rest_clear _ _ (rest_clear _ _ (rest_clear _ _ (rest_clear _ _ (rest_clear _ _ clear))))))

kept_none : (link : Link) (live : Live) → IsLiveOf link live → Clear (link_fault link) → Clear (kept_fault (input_of link live))
kept_none link live kept clear = record {
  none = λ e f. (all_but_last link clear).none e (record { live = live; kept = kept; fault = f });
}

index_none : (input : Input) → Clear (kept_fault input) → Clear (index_fault input)
index_none input clear = record { none = (index_is_row input).first (behind_index input) clear }

behind_none : (input : Input) → Clear (kept_fault input) → Clear (behind_index input)
behind_none input clear =
    rest_clear _ _ (rest_clear _ _ (rest_clear _ _ (rest_clear _ _ (rest_clear _ _ (rest_clear _ _ (rest_clear _ _ clear))))))

-- there is room for the things of a plan
pub few_of_plan : (link : Link) (plan : LinkPlan) (is : IsPlanOf link plan) → AreFew (input_of link is.live)
few_of_plan link plan is = few_by (input_of link is.live) (index_none (input_of link is.live) (kept_none link is.live is.kept is.clear))

segments_none : (input : Input) → Clear (kept_fault input) → Clear (AreTooManySegments input)
segments_none input clear =
    first_clear (AreTooManySegments input) _ (rest_clear (AreTooManyWrappers input) (laid_fault input) (behind_none input clear))

-- the listing of the plan of what is kept of whole objects
pub listing_of : LawsBelow → (input : Input) (plan : LinkPlan) → IsPlan input plan → TableIs input → AllByRecursion IsWhole input.link.objects → Clear (kept_fault input) → HasListing plan
listing_of laws input plan is table whole clear =
    let few = few_by input (index_none input clear) in
    let room = wrapper_room input (first_clear (AreTooManyWrappers input) (laid_fault input) (behind_none input clear)) in
    let types : length plan.layout.output_types ≡ length (output_types input) = ap (λ (ts : List FunctionType). length ts) is.spaces.types in
    let types_few = few.types in
    let functions = functions_few input plan is room in
    let bodies = bodies_few input plan is room in
    let globals = globals_few input plan is few in
    let elements = elements_few input plan is table few in
    let laid : AllZip (HaveLayouts (data_options input)) (all_segments input) is.placing.places.layouts =
    laws.layouts (data_input input) is.placing.places is.placed.laid in
    let numbers = laws.few input is.placing (segments_none input clear) is.placed in
    let many = as_many 0 is.placing.places.layouts in
    let same = is.places.data_layouts in
    let segments : length (segments_of_objects 0 is.placing.places.layouts) ≤ MAX_ENTRIES = omega (arith, numbers, many) in
    let short = rows_short (data_options input) 0 (all_segments input) is.placing.places.layouts (laws.placed input whole) laid in
    record {
      types = omega (arith, types, types_few);
      functions = omega (arith, functions);
      bodies = omega (arith, bodies);
      globals = omega (arith, globals);
      slots = omega (arith, elements);
      segments = subst (λ (rows : List (List SegmentLayout)). 0 + length (segments_of_objects 0 rows) ≤ 2 ^ 32) (sym same) (omega (arith, segments));
      payloads = subst (λ (rows : List (List SegmentLayout)). ArePayloadsSmall (segments_of_objects 0 rows)) (sym same) short;
      debug_sections = subst (λ (ds : List DebugInput). AreDebugSectionsSmall ds) (sym is.bodies.debug_sections)
          (kept_small (input.link.args.strip_all || input.link.args.strip_debug) (object_debug_sections 0 input.link.objects) (objects_small laws.stand 0 input.link.objects whole));
    }

-- that of a link of whole objects
pub plan_listing : LawsBelow → ((input : Input) → AllByRecursion IsWhole input.link.objects → IsLiveOf input.link input.live → Clear (index_fault input) → TableIs input)
    → (link : Link) (plan : LinkPlan) → AllByRecursion IsWhole link.objects → IsPlanOf link plan → HasListing plan
plan_listing laws table link plan whole is =
    let input : Input = input_of link is.live in
    let clear = kept_none link is.live is.kept is.clear in
    listing_of laws input plan is.is_plan (table input whole is.kept (index_none input clear)) whole clear

-- objects that aren't longer than an object may be are whole
pub whole_of : (files : List Object) (objects : List (List ℕ)) → AreObjects files objects → AllWithin objects → AllByRecursion IsWhole files
whole_of [] [] are within = tt
whole_of [] (bytes ∷ objects) are within = absurd are
whole_of (file ∷ files) [] are within = absurd are
whole_of (file ∷ files) (bytes ∷ objects) are within =
    let same : bytes ≡ file.bytes = sym (ap (λ (o : Object). o.bytes) are.0.items.items) in (
      record {
        object = subst (λ (b : List ℕ). IsObject file b) same are.0;
        within = subst (λ (b : List ℕ). length b ≤ MAX_LEN) same within.0;
      },
      whole_of files objects are.1 within.1,
    )

-- that of objects that were read
pub link_listing : LawsBelow → ((input : Input) → AllByRecursion IsWhole input.link.objects → IsLiveOf input.link input.live → Clear (index_fault input) → TableIs input)
    → (objects : List (List ℕ)) (args : WasmArgs) (plan : LinkPlan) → AllWithin objects → IsLinkPlan objects args plan → HasListing plan
link_listing laws table objects args plan within is =
    plan_listing laws table (link_of is.files args) plan (whole_of is.files objects is.grammar within) is.planned
