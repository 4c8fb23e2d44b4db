-- Marks that are asked for unit by unit are those of the live set, and with them the steps are
-- counted.
use Rattle.std.proofs.Common.{append_assoc, ◌≡◌, ◌∙◌, ℕ, ◌+◌, ◌<◌, Bool, true, false, List, [], ◌∷◌, ◌++◌, length, map, get_or, count_by, refl, sym, ap, arith, All, Some, slice_get}
use Rattle.std.proofs.lemmas.Option.{slice_get-get_or}
use Rattle.std.proofs.lemmas.List.{same_lists, length-map, map-append, get_or-map, get_or_default}
use Rattle.std.proofs.lemmas.List.FromFn.{map-range_with_len_more}
use Rattle.wl_reach.specs.Marks.{count_set}
use Rattle.wl_reach.specs.declared.graph.Edge.{Edge}
use Rattle.wl_symbols.specs.Link.{Link}
use Rattle.wl_symbols.specs.Live.{Live, IsLiveOf, is_live}
use Rattle.wl_symbols.specs.Units.{units_of, total_of, sibling_of}
use Rattle.wl_symbols.specs.declared.units.LinkUnit.{LinkUnit}
use Rattle.wl_symbols.specs.declared.units.UnitCounts.{UnitCounts}
use Rattle.wl_symbols.specs.declared.units.WasmGcUnit.{WasmGcUnit}
use Rattle.wl_symbols.specs.declared.units.WasmGcUnit.TheVariants.{DefinedFunction}
use Rattle.wl_live.specs.Facts.{Facts}
use Rattle.wl_live.specs.Marking.{steps_to}
use Rattle.wl_live.specs.Table.{found, edge_of, link_edges, references}
use Rattle.wl_live.proofs.StepLaws.{edges_followed}
use Rattle.wl_why.specs.Units.{unit_of_kind, kind_units, all_units}
use Rattle.wl_why.proofs.UnitLaws.{HasNumber, all_at, length-all}

-- ---- unit by unit

-- one mark more
pub push_mark : (live : Live) (xs ys zs : List Bool) (object : ℕ) (kind : WasmGcUnit) (k : ℕ) (u : WasmGcUnit) (b : Bool) → ys ≡ xs ++ map (is_live live) (kind_units object kind k) → u ≡ sibling_of kind k → b ≡ is_live live (record { object = object; unit = u }) → zs ≡ ys ++ b ∷ [] → zs ≡ xs ++ map (is_live live) (kind_units object kind (k + 1))
push_mark live xs ys zs object kind k u b before is asked after =
    let us : List LinkUnit = kind_units object kind k in
    let v : LinkUnit = unit_of_kind object kind k in
    let more : kind_units object kind (k + 1) ≡ us ++ v ∷ [] = map-range_with_len_more (unit_of_kind object kind) 0 k k (omega arith) in
    let marks : map (is_live live) (kind_units object kind (k + 1)) ≡ map (is_live live) us ++ is_live live v ∷ [] =
    ap (λ (l : List LinkUnit). map (is_live live) l) more ∙ map-append (is_live live) us (v ∷ []) in
    let mark : b ≡ is_live live v = asked ∙ ap (λ (w : WasmGcUnit). is_live live (record { object = object; unit = w })) is in
    after
    ∙ (ap (λ (w : Bool). ys ++ w ∷ []) mark
    ∙ (ap (λ (l : List Bool). l ++ is_live live v ∷ []) before
    ∙ (append_assoc xs (map (is_live live) us) (is_live live v ∷ []) ∙ ap (λ (l : List Bool). xs ++ l) (sym marks))))

-- ---- all of them

abbrev no_unit : LinkUnit
no_unit = record { object = 0; unit = DefinedFunction 0 }

mark_of : (live : Live) (k : ℕ) (u : LinkUnit) → HasNumber live.units k u → is_live live u ≡ get_or live.marks k false
mark_of live k u h = rw (h.there, h.number) refl

mark_at : (live : Live) → length live.marks ≡ total_of live.units → (k : ℕ) (d : Bool) → k < length (map (is_live live) (all_units live.units)) → get_or (map (is_live live) (all_units live.units)) k d ≡ get_or live.marks k d
mark_at live size k d lt =
    let us : List LinkUnit = all_units live.units in
    let within : k < length us = rw length-map at lt in
    let u : LinkUnit = get_or us k no_unit in
    let here : slice_get us k ≡ Some u = slice_get-get_or us k no_unit within in
    let marked : k < length live.marks = omega (arith, within, length-all live.units, size) in
    get_or-map (is_live live) us k no_unit d within
    ∙ (mark_of live k u (all_at live.units k u here) ∙ get_or_default live.marks k false d marked)

pub marks_are : (live : Live) → length live.marks ≡ total_of live.units → map (is_live live) (all_units live.units) ≡ live.marks
marks_are live size =
    same_lists (map (is_live live) (all_units live.units)) live.marks
    (length-map (all_units live.units) (is_live live) ∙ (length-all live.units ∙ sym size))
    (mark_at live size)

pub marks_live : (link : Link) (live : Live) (ns : List UnitCounts) → IsLiveOf link live → ns ≡ units_of link.objects → map (is_live live) (all_units ns) ≡ live.marks
marks_live link live ns of is = ap (λ (l : List UnitCounts). map (is_live live) (all_units l)) (is ∙ sym of.units) ∙ marks_are live of.sized

-- ---- the steps

-- edges between units begin where there is a mark
pub edges_within : (link : Link) (live : Live) (edges listed : List Edge) (marks : List Bool) → IsLiveOf link live → marks ≡ live.marks → listed ≡ edges → All (λ (e : Edge). e.from < total_of (units_of link.objects)) edges → All (λ (e : Edge). e.from < length marks) listed
edges_within link live edges listed marks of told same all = λ k d lt.
    let within : k < length edges = omega (arith, lt, ap length same) in
    let here : get_or listed k d ≡ get_or edges k d = ap (λ (l : List Edge). get_or l k d) same in
    omega (arith, ap (λ (e : Edge). e.from) here, all k d within, ap length told, of.sized, ap total_of of.units)

pub steps_are : (link : Link) (live : Live) (facts : List Facts) (marks : List Bool) (edges : List Edge) → link.args.gc_sections ≡ true → live.units ≡ units_of link.objects → marks ≡ live.marks → edges ≡ link_edges link facts → count_set marks + count_by (λ (e : Edge). get_or marks e.from false) edges ≡ steps_to link facts live
steps_are link live facts marks edges on units are listed =
    let there : edges ≡ found (edge_of live.units) (references link live.units facts) = listed ∙ ap (λ (ns : List UnitCounts). found (edge_of ns) (references link ns facts)) (sym units) in
    rw (on, are, there, edges_followed live.units live.marks live.numbering (references link live.units facts)) refl

pub steps_found : (link : Link) (live : Live) (facts : List Facts) (marks again : List Bool) (edges : List Edge) (units followed steps : ℕ) → link.args.gc_sections ≡ true → IsLiveOf link live → marks ≡ live.marks → again ≡ live.marks → edges ≡ link_edges link facts → units ≡ count_set again → followed ≡ count_by (λ (e : Edge). get_or marks e.from false) edges → steps ≡ units + followed → steps ≡ steps_to link facts live
steps_found link live facts marks again edges units followed steps on of are are_again listed counted by_edges sum =
    sum ∙ rw (counted, by_edges, are, are_again) (steps_are link live facts live.marks edges on of.units refl listed)
