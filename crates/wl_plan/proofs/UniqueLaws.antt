-- A link has one plan at most: each part is fixed by the link and the parts before it.
use Rattle.std.proofs.Common.{◌≡◌, ◌∙◌, ℕ, Bool, true, false, codes, List, length, sym, ap, subst}
use Rattle.wl_module.specs.Exports.{Exported}
use Rattle.wl_data.specs.DataPlaces.{DataInput, IsDataPlaces}
use Rattle.wl_data.specs.Sizes.{segment_count, all_encoded_bytes}
use Rattle.wl_data.specs.declared.places.DataPlaces.{DataPlaces}
use Rattle.wl_words.specs.Args.{emits_stripped_section}
use Rattle.wl_symbols.specs.Link.{Link}
use Rattle.wl_features.specs.Taken.{AreTaken}
use Rattle.wl_bind.specs.FunctionSpace.{function_space}
use Rattle.wl_bind.specs.GlobalSpace.{global_space}
use Rattle.wl_symbols.specs.Input.{Input}
use Rattle.wl_bind.specs.OutputTypes.{output_types}
use Rattle.wl_bind.specs.Parts.{StandOnce}
use Rattle.wl_exports.specs.Wrapped.{AreOutputExports}
use Rattle.wl_plan.specs.Extras.{AreTakenIf, AreOutputFeatures}
use Rattle.wl_plan.specs.Fixups.{AreFixups}
use Rattle.wl_places.specs.Placing.{data_input, placing_of, IsPlacing}
use Rattle.wl_plan.specs.Plan.{HasEntities, HasPlaces, HasSpaces, HasCodeSize, HasBodies, IsPlan}
use Rattle.wl_plan.specs.PlanParts.{Entities, Places, Spaces, Bodies, entities_of, places_of, spaces_of, bodies_of}
use Rattle.wl_output.specs.declared.fixups.Fixup.{Fixup}
use Rattle.wl_plan.specs.declared.layout.LinkPlan.{LinkPlan}
use Rattle.wl_plan.specs.declared.layout.WasmLayout.{WasmLayout}
use Rattle.wl_places.specs.declared.placing.Placing.{Placing}
use Rattle.wl_places.proofs.SmallLaws.{SegmentsHaveLayouts}
use Rattle.wl_plan.proofs.UniqueBodies.{FormsAreOne, bodies_one, section_one, text_one, fixups_one}
use Rattle.wl_plan.proofs.UniqueEntities.{functions_one, imports_one, elements_one, start_one, globals_one}
use Rattle.wl_plan.proofs.UniqueParts.{AreOnce, maps_one}
use Rattle.wl_plan.proofs.UniqueSegments.{segments_once}

-- ---- what laws of lower crates say

-- the features that the output has are one list
abbrev pub FeaturesAreOne : Type 0
FeaturesAreOne = (link : Link) (a b : List (List ℕ)) → AreTaken link a → AreTaken link b → a ≡ b

-- the exports are one list
abbrev pub ExportsAreOne : Type 0
ExportsAreOne = (input : Input) (a b : List Exported) → AreOutputExports input a
    → AreOutputExports input b → a ≡ b

-- what a layout names: its features, and its exports
pub record NamesAreOne : Type 0 where
  pub features : FeaturesAreOne
  pub exports : ExportsAreOne

-- data lies in one way, where each segment has its layout; spaces have nothing twice
pub record LawsBelow : Type 0 where
  pub forms : FormsAreOne
  pub places : (d : DataInput) (p q : DataPlaces) → IsDataPlaces d p → IsDataPlaces d q → p ≡ q
  pub layouts : SegmentsHaveLayouts
  pub functions : (input : Input) → StandOnce (function_space input)
  pub globals : (input : Input) → StandOnce (global_space input)
  pub types : (input : Input) → StandOnce (output_types input)
  pub names : NamesAreOne

pub placing_one : LawsBelow → (input : Input) (g h : Placing) → IsPlacing input g → IsPlacing input h → g ≡ h
placing_one laws input g h p q =
    p.whole
    ∙ ap (placing_of input) (laws.places (data_input input) g.places h.places p.laid q.laid)
    ∙ sym q.whole

all_once : LawsBelow → (input : Input) (g : Placing) → IsPlacing input g → AreOnce input g
all_once laws input g p = record {
  functions = laws.functions input;
  globals = laws.globals input;
  types = laws.types input;
  segments = segments_once laws.layouts input g p;
}

-- ---- the parts

code_size_one : FormsAreOne → (a b : WasmLayout) → a.function_bodies ≡ b.function_bodies
    → HasCodeSize a → HasCodeSize b → a.code_section_size ≡ b.code_section_size
code_size_one forms a b bodies p q =
    let text = text_one forms b.function_bodies p.0 q.0 (rw bodies at p.1) q.1 in
    section_one forms (length b.function_bodies) (length q.0) a.code_section_size b.code_section_size
    (rw (bodies, text) at p.2) q.2

listed_one : FeaturesAreOne → (shown : Bool) (link : Link) (a b : List (List ℕ))
    → AreTakenIf shown link a → AreTakenIf shown link b → a ≡ b
listed_one one true link a b p q = one link a b p q
listed_one one false link a b p q = p ∙ sym q

features_one : FeaturesAreOne → (link : Link) (a b : List (List ℕ)) → AreOutputFeatures link a
    → AreOutputFeatures link b → a ≡ b
features_one one link a b p q =
    listed_one one (emits_stripped_section link.args (codes "target_features")) link a b p q

pub entities_one : LawsBelow → (input : Input) (a b : WasmLayout) → HasEntities input a
    → HasEntities input b → entities_of a ≡ entities_of b
entities_one laws input a b p q =
    let elements = elements_one input (laws.functions input) a.element_functions b.element_functions
    p.elements q.elements in
    let start = start_one input (laws.functions input) a.start_function b.start_function p.start
    q.start in
    λ i. record {
      table = (p.table ∙ sym q.table) i;
      elements = elements i;
      slots = (p.slots ∙ sym q.slots) i;
      start = start i;
    }

pub places_one : LawsBelow → (input : Input) (g : Placing) (a b : WasmLayout) → HasPlaces input g a
    → HasPlaces input g b → places_of a ≡ places_of b
places_one laws input g a b p q =
    let data_size = section_one laws.forms (segment_count g.places.layouts)
    (all_encoded_bytes g.places.layouts) a.data_section_size b.data_section_size p.data_size
    q.data_size in
    λ i. record {
      data_layouts = (p.data_layouts ∙ sym q.data_layouts) i;
      memory = (p.memory ∙ sym q.memory) i;
      memory_base = (p.memory_base ∙ sym q.memory_base) i;
      tls_base = (p.tls_base ∙ sym q.tls_base) i;
      tls_size = (p.tls_size ∙ sym q.tls_size) i;
      tls_align = (p.tls_align ∙ sym q.tls_align) i;
      shared_tls = (p.shared_tls ∙ sym q.shared_tls) i;
      data_end = (p.data_end ∙ sym q.data_end) i;
      data_size = data_size i;
    }

pub spaces_one : LawsBelow → (input : Input) (g : Placing) → IsPlacing input g → (a b : WasmLayout)
    → HasSpaces input g a → HasSpaces input g b → spaces_of a ≡ spaces_of b
spaces_one laws input g placed a b p q =
    let once = all_once laws input g placed in
    let imports = imports_one input (output_types input) g once.types a.imports b.imports p.imports
    q.imports in
    let functions = functions_one input (output_types input) once.types a.function_type_indices
    b.function_type_indices p.functions q.functions in
    let globals = globals_one laws.forms input g a.globals b.globals p.globals q.globals in
    let exports = laws.names.exports input a.exports b.exports p.exports q.exports in
    let maps = maps_one input g once a.object_index_maps b.object_index_maps p.maps q.maps in
    λ i. record {
      types = (p.types ∙ sym q.types) i;
      imports = imports i;
      functions = functions i;
      globals = globals i;
      maps = maps i;
      exports = exports i;
    }

pub fixup_lists_one : LawsBelow → (input : Input) (g : Placing) → IsPlacing input g
    → (a b : List Fixup) → AreFixups input g a → AreFixups input g b → a ≡ b
fixup_lists_one laws input g placed a b p q =
    fixups_one laws.forms input g (all_once laws input g placed) a b p q

pub body_parts_one : LawsBelow → (input : Input) (g : Placing) (a b : WasmLayout)
    → HasBodies input g a → HasBodies input g b → bodies_of a ≡ bodies_of b
body_parts_one laws input g a b p q =
    let bodies = bodies_one laws.forms input g (laws.functions input) (laws.globals input)
    a.function_bodies b.function_bodies p.bodies q.bodies in
    let code_size = code_size_one laws.forms a b bodies p.size q.size in
    let features = features_one laws.names.features input.link a.features b.features p.features
    q.features in
    λ i. record {
      bodies = bodies i;
      code_size = code_size i;
      features = features i;
      debug_sections = (p.debug_sections ∙ sym q.debug_sections) i;
    }

-- ---- the plan

-- each part is one
pub record PartsAreOne : Type 0 where
  pub placings : (input : Input) (g h : Placing) → IsPlacing input g → IsPlacing input h → g ≡ h
  pub entities : (input : Input) (a b : WasmLayout) → HasEntities input a → HasEntities input b
      → entities_of a ≡ entities_of b
  pub places : (input : Input) (g : Placing) (a b : WasmLayout) → HasPlaces input g a
      → HasPlaces input g b → places_of a ≡ places_of b
  pub spaces : (input : Input) (g : Placing) (a b : WasmLayout) → IsPlacing input g
      → HasSpaces input g a → HasSpaces input g b → spaces_of a ≡ spaces_of b
  pub fixups : (input : Input) (g : Placing) (a b : List Fixup) → IsPlacing input g
      → AreFixups input g a → AreFixups input g b → a ≡ b
  pub bodies : (input : Input) (g : Placing) (a b : WasmLayout) → HasBodies input g a
      → HasBodies input g b → bodies_of a ≡ bodies_of b

make_plan : Entities → Places → Spaces → List Fixup → Bodies → LinkPlan
make_plan entities places spaces fixups bodies = record {
  layout = record {
    output_types = spaces.types;
    imports = spaces.imports;
    function_type_indices = spaces.functions;
    function_bodies = bodies.bodies;
    globals = spaces.globals;
    memory = places.memory;
    table = entities.table;
    element_functions = entities.elements;
    function_table_slots = entities.slots;
    object_data_layouts = places.data_layouts;
    exports = spaces.exports;
    start_function = entities.start;
    memory_base = places.memory_base;
    tls_base = places.tls_base;
    shared_memory_tls = places.shared_tls;
    tls_size = places.tls_size;
    tls_align = places.tls_align;
    data_end = places.data_end;
    code_section_size = bodies.code_size;
    data_section_size = places.data_size;
    features = bodies.features;
    debug_sections = bodies.debug_sections;
    object_index_maps = spaces.maps;
  };
  fixups = fixups;
}

-- the plan of a link where things lie so
record IsPlanAt (input : Input) (g : Placing) (plan : LinkPlan) : Type 0 where
  pub entities : HasEntities input plan.layout
  pub places : HasPlaces input g plan.layout
  pub spaces : HasSpaces input g plan.layout
  pub fixups : AreFixups input g plan.fixups
  pub bodies : HasBodies input g plan.layout

plan_at : (input : Input) (plan : LinkPlan) (p : IsPlan input plan) → IsPlanAt input p.placing plan
plan_at input plan p = record {
  entities = p.entities;
  places = p.places;
  spaces = p.spaces;
  fixups = p.fixups;
  bodies = p.bodies;
}

plan_there_one : PartsAreOne → (input : Input) (g : Placing) → IsPlacing input g → (a b : LinkPlan)
    → IsPlanAt input g a → IsPlanAt input g b → a ≡ b
unfolding make_plan
plan_there_one parts input g placed a b p q =
    let entities = parts.entities input a.layout b.layout p.entities q.entities in
    let places = parts.places input g a.layout b.layout p.places q.places in
    let spaces = parts.spaces input g a.layout b.layout placed p.spaces q.spaces in
    let fixups = parts.fixups input g a.fixups b.fixups placed p.fixups q.fixups in
    let bodies = parts.bodies input g a.layout b.layout p.bodies q.bodies in
    λ i. make_plan (entities i) (places i) (spaces i) (fixups i) (bodies i)

-- two plans of a link in which the same is kept are one
pub plans_one : PartsAreOne → (input : Input) (a b : LinkPlan) → IsPlan input a → IsPlan input b
    → a ≡ b
plans_one parts input a b p q =
    let same = parts.placings input p.placing q.placing p.placed q.placed in
    plan_there_one parts input q.placing q.placed a b
    (subst (λ (g : Placing). IsPlanAt input g a) same (plan_at input a p)) (plan_at input b q)
