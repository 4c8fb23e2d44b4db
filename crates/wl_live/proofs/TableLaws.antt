-- The table that is laid mention by mention is that of all references.
use Rattle.std.proofs.Common.{◌≡◌, ℕ, ◌+◌, ◌<◌, ◌≤◌, List, [], ◌∷◌, ◌++◌, map, refl, ap, sym, ◌∙◌, subst, arith, Option, Some, None, All, Contains, length, get_or, append_assoc, append-nil, length-append}
use Rattle.std.specs.List.{flat_map}
use Rattle.std.specs.Option.{option_and_then, option_map, option_to_list}
use Rattle.std.proofs.lemmas.List.Elements.{All-append, All-contains, All-nil, All-same, Contains-append_right}
use Rattle.wl_custom.specs.Symbols.{Symbol}
use Rattle.wl_reach.specs.declared.graph.Edge.{Edge}
use Rattle.wl_reach.specs.Graph.{Building, HasRoom, graph_of}
use Rattle.wl_reach.proofs.GraphLaws.{All-one, HasRoom-none, length-graph_of, room_left}
use Rattle.wl_symbols.specs.Link.{Link}
use Rattle.wl_symbols.specs.Entries.{symbol_in}
use Rattle.wl_symbols.specs.DefinedUnits.{unit_at, replacing_unit, other_unit}
use Rattle.wl_symbols.specs.Units.{unit_number_if, total_of}
use Rattle.wl_symbols.proofs.NumberingLaws.{number_if_parts, unit_number-lt}
use Rattle.wl_symbols.specs.declared.units.LinkUnit.{LinkUnit}
use Rattle.wl_symbols.specs.declared.units.UnitCounts.{UnitCounts}
use Rattle.wl_symbols.specs.declared.units.WasmGcUnit.TheVariants.{DataSegment}
use Rattle.wl_live.specs.Facts.{Facts}
use Rattle.wl_live.specs.Table.{Reference, reference, symbol_references, user_of, use_references, slot_references, segment_reference, object_references, references_from, found, edge_of}
use Rattle.wl_live.specs.Mentions.{referring, most_references, object_mentions, mentions_from, all_mentions}
use Rattle.wl_live.specs.Laying.{mention_references, followed_references, edge_to, mention_edges, all_edges, IsLaying}
use Rattle.wl_live.specs.declared.mentions.Cause.{Cause}
use Rattle.wl_live.specs.declared.mentions.Cause.TheVariants.{Relocation, Slot, Number}
use Rattle.wl_live.specs.declared.mentions.Mention.{Mention}
use Rattle.wl_live.specs.declared.object_facts.SegmentUse.{SegmentUse}
use Rattle.wl_live.specs.declared.object_facts.SymbolUse.{SymbolUse}
use Rattle.wl_live.specs.declared.references.Followed.{Followed}
use Rattle.wl_lists.proofs.In.{Contains-here}
use Rattle.wl_live.proofs.ReachLaws.{edges_from-lt, edges_to-lt}

-- ---- joined lists

flat_map-append : {X Y : Type 0} (f : X → List Y) (xs ys : List X) → flat_map f (xs ++ ys) ≡ flat_map f xs ++ flat_map f ys
flat_map-append f [] ys = refl
flat_map-append {Y = Y} f (x ∷ xs) ys = ap (λ (l : List Y). f x ++ l) (flat_map-append f xs ys) ∙ sym (append_assoc (f x) (flat_map f xs) (flat_map f ys))

flat_map-map : {X Y Z : Type 0} (f : Y → List Z) (g : X → Y) (h : X → List Z) → ((x : X) → f (g x) ≡ h x) → (xs : List X) → flat_map f (map g xs) ≡ flat_map h xs
flat_map-map f g h same [] = refl
flat_map-map {Z = Z} f g h same (x ∷ xs) = ap (λ (l : List Z). l ++ flat_map f (map g xs)) (same x) ∙ ap (λ (l : List Z). h x ++ l) (flat_map-map f g h same xs)

flat_map-single : {X Y : Type 0} (f : X → Y) (xs : List X) → flat_map (λ x. f x ∷ []) xs ≡ map f xs
flat_map-single f [] = refl
flat_map-single {Y = Y} f (x ∷ xs) = ap (λ (l : List Y). f x ∷ l) (flat_map-single f xs)

found-flat_map : {X Y Z : Type 0} (f : Y → Option Z) (g : X → List Y) (xs : List X) → found f (flat_map g xs) ≡ flat_map (λ x. found f (g x)) xs
found-flat_map f g [] = refl
found-flat_map {Z = Z} f g (x ∷ xs) = flat_map-append (λ y. option_to_list (f y)) (g x) (flat_map g xs) ∙ ap (λ (l : List Z). found f (g x) ++ l) (found-flat_map f g xs)

-- ---- the references of mentions

pub object_mentioned : (link : Link) (ns : List UnitCounts) (k : ℕ) (f : Facts) → flat_map (mention_references link ns) (object_mentions k f) ≡ object_references link ns k f
object_mentioned link ns k f =
    let refs : Mention → List Reference = mention_references link ns in
    let uses : List Mention = map (λ (u : SymbolUse). record { object = k; cause = Relocation u }) f.uses in
    let slots : List Mention = map (λ (u : SymbolUse). record { object = k; cause = Slot u }) f.slots in
    let numbers : List Mention = map (λ (u : SegmentUse). record { object = k; cause = Number u }) f.segments in
    let first : flat_map refs uses ≡ flat_map (use_references link ns k) f.uses = flat_map-map refs (λ (u : SymbolUse). record { object = k; cause = Relocation u }) (use_references link ns k) (λ u. refl) f.uses in
    let second : flat_map refs slots ≡ flat_map (slot_references link ns k) f.slots = flat_map-map refs (λ (u : SymbolUse). record { object = k; cause = Slot u }) (slot_references link ns k) (λ u. refl) f.slots in
    let third : flat_map refs numbers ≡ map (segment_reference k) f.segments =
    flat_map-map refs (λ (u : SegmentUse). record { object = k; cause = Number u }) (λ (u : SegmentUse). segment_reference k u ∷ []) (λ u. refl) f.segments ∙ flat_map-single (segment_reference k) f.segments in
    flat_map-append refs uses (slots ++ numbers)
    ∙ (ap (λ (l : List Reference). flat_map refs uses ++ l) (flat_map-append refs slots numbers)
    ∙ rw (first, second, third) refl)

references_mentioned : (link : Link) (ns : List UnitCounts) (k : ℕ) (facts : List Facts) → flat_map (mention_references link ns) (mentions_from k facts) ≡ references_from link ns k facts
references_mentioned link ns k [] = refl
references_mentioned link ns k (f ∷ facts) =
    flat_map-append (mention_references link ns) (object_mentions k f) (mentions_from (k + 1) facts)
    ∙ rw (object_mentioned link ns k f, references_mentioned link ns (k + 1) facts) refl

pub edges_mentioned : (link : Link) (ns : List UnitCounts) (facts : List Facts) → flat_map (mention_edges link ns) (all_mentions facts) ≡ all_edges link ns facts
edges_mentioned link ns facts =
    sym (found-flat_map (edge_of ns) (mention_references link ns) (all_mentions facts))
    ∙ ap (found (edge_of ns)) (references_mentioned link ns 0 facts)

-- ---- the edges of one mention

-- the edges from a unit of that number
abbrev pub edges_from : List UnitCounts → Option ℕ → Option LinkUnit → List Edge
edges_from ns from to = option_to_list (option_and_then (λ (a : ℕ). edge_to ns a to) from)

edges_to-none : (ns : List UnitCounts) (from : Option ℕ) → edges_from ns from None ≡ []
edges_to-none ns None = refl
edges_to-none ns (Some a) = refl

edge_found : (ns : List UnitCounts) (u : LinkUnit) (to : Option LinkUnit) → found (edge_of ns) (reference u to) ≡ edges_from ns (unit_number_if ns u) to
edge_found ns u None = sym (edges_to-none ns (unit_number_if ns u))
edge_found ns u (Some v) = append-nil (option_to_list (edge_of ns (record { from = u; to = v })))

two_found : (ns : List UnitCounts) (u : LinkUnit) (own other : Option LinkUnit) → found (edge_of ns) (reference u own ++ reference u other) ≡ edges_from ns (unit_number_if ns u) own ++ edges_from ns (unit_number_if ns u) other
two_found ns u own other =
    flat_map-append (λ (r : Reference). option_to_list (edge_of ns r)) (reference u own) (reference u other)
    ∙ rw (edge_found ns u own, edge_found ns u other) refl

pub edges_found : (link : Link) (ns : List UnitCounts) (m : Mention) (f : Followed) (from : Option ℕ) → followed_references f ≡ mention_references link ns m → unit_number_if ns f.from ≡ from → mention_edges link ns m ≡ edges_from ns from f.own ++ edges_from ns from f.other
edges_found link ns m f from is number =
    ap (found (edge_of ns)) (sym is)
    ∙ (two_found ns f.from f.own f.other ∙ ap (λ (p : Option ℕ). edges_from ns p f.own ++ edges_from ns p f.other) number)

-- ---- how many they are, and of which unit

-- at most two references of one unit
abbrev Few : Link → List UnitCounts → Mention → Type 0
Few link ns m =
    (own other : Option LinkUnit) × (mention_references link ns m ≡ reference (referring m) own ++ reference (referring m) other)
    × (length (option_to_list own) + length (option_to_list other) ≤ most_references m.cause)

one_at_most : {X : Type 0} (o : Option X) → length (option_to_list o) ≤ 1
one_at_most None = omega arith
one_at_most (Some x) = omega arith

few_by_symbol : (link : Link) (ns : List UnitCounts) (u : LinkUnit) (j : ℕ) (o : Option Symbol) → (own other : Option LinkUnit) × (symbol_references link ns u j o ≡ reference u own ++ reference u other)
few_by_symbol link ns u j None = (None, None, refl)
few_by_symbol link ns u j (Some s) = (unit_at ns u.object s, replacing_unit link ns u.object j s, refl)

few_by_cause : (link : Link) (ns : List UnitCounts) (k : ℕ) (c : Cause) → Few link ns (record { object = k; cause = c })
few_by_cause link ns k (Relocation used) =
    let f = few_by_symbol link ns (user_of k used) used.symbol (symbol_in link.objects k used.symbol) in
    (f.0, f.1, f.2, omega (arith, one_at_most f.0, one_at_most f.1))
few_by_cause link ns k (Slot used) = (None, other_unit link ns k used.symbol, refl, omega (arith, one_at_most (other_unit link ns k used.symbol)))
few_by_cause link ns k (Number used) = (None, Some (record { object = k; unit = DataSegment used.segment }), refl, omega arith)

mention_parts : (link : Link) (ns : List UnitCounts) (m : Mention) (f : Few link ns m) → mention_edges link ns m ≡ edges_from ns (unit_number_if ns (referring m)) f.0 ++ edges_from ns (unit_number_if ns (referring m)) f.1
mention_parts link ns m f = ap (found (edge_of ns)) f.2 ∙ two_found ns (referring m) f.0 f.1

edges_from-few : (ns : List UnitCounts) (from : Option ℕ) (to : Option LinkUnit) → length (edges_from ns from to) ≤ length (option_to_list to)
edges_from-few ns None to = omega arith
edges_from-few ns (Some a) None = omega arith
edges_from-few ns (Some a) (Some v) = one_at_most (edge_to ns a (Some v))

edge-from : (a : ℕ) (n : Option ℕ) → All (λ (e : Edge). e.from ≡ a) (option_to_list (option_map (λ b. record { from = a; to = b }) n))
edge-from a None = All-nil (λ (e : Edge). e.from ≡ a)
edge-from a (Some b) = All-one (λ (e : Edge). e.from ≡ a) (record { from = a; to = b }) refl

edges_from-node : (ns : List UnitCounts) (a : ℕ) (to : Option LinkUnit) → All (λ (e : Edge). e.from ≡ a) (edges_from ns (Some a) to)
edges_from-node ns a None = All-nil (λ (e : Edge). e.from ≡ a)
edges_from-node ns a (Some v) = edge-from a (unit_number_if ns v)

pub mention_few : (link : Link) (ns : List UnitCounts) (m : Mention) → length (mention_edges link ns m) ≤ most_references m.cause
mention_few link ns m =
    let f : Few link ns m = few_by_cause link ns m.object m.cause in
    let from = unit_number_if ns (referring m) in
    omega (arith, ap length (mention_parts link ns m f), length-append (edges_from ns from f.0) (edges_from ns from f.1), edges_from-few ns from f.0, edges_from-few ns from f.1, f.3)

pub mention_node : (link : Link) (ns : List UnitCounts) (m : Mention) (a : ℕ) → unit_number_if ns (referring m) ≡ Some a → All (λ (e : Edge). e.from ≡ a) (mention_edges link ns m)
mention_node link ns m a number =
    let f : Few link ns m = few_by_cause link ns m.object m.cause in
    let parts : mention_edges link ns m ≡ edges_from ns (Some a) f.0 ++ edges_from ns (Some a) f.1 = rw number at (mention_parts link ns m f) in
    All-same (λ (e : Edge). e.from ≡ a) _ _ parts (All-append (λ (e : Edge). e.from ≡ a) (edges_from ns (Some a) f.0) (edges_from ns (Some a) f.1) (edges_from-node ns a f.0) (edges_from-node ns a f.1))

pub mention_none : (link : Link) (ns : List UnitCounts) (m : Mention) → unit_number_if ns (referring m) ≡ None → mention_edges link ns m ≡ []
mention_none link ns m number =
    let f : Few link ns m = few_by_cause link ns m.object m.cause in
    rw number at (mention_parts link ns m f)

pub number_if-lt : (ns : List UnitCounts) (u : LinkUnit) (n : ℕ) → unit_number_if ns u ≡ Some n → n < total_of ns
number_if-lt ns u n e = let p = number_if_parts ns u n e in rw (← p.1) (unit_number-lt ns u p.0)

-- ---- room for them

-- the edges up to here have their room
pub record IsCounting (all left : List Edge) (rooms : List ℕ) : Type 0 where
  pub done : List Edge
  pub parts : done ++ left ≡ all
  pub room : HasRoom rooms done

pub counting_begins : (all : List Edge) (rooms : List ℕ) → IsCounting all all rooms
counting_begins all rooms = record { done = []; parts = refl; room = HasRoom-none rooms }

pub counting_goes_on : (all more left : List Edge) (old new : List ℕ) → ((edges : List Edge) → HasRoom old edges → HasRoom new (edges ++ more)) → IsCounting all (more ++ left) old → IsCounting all left new
counting_goes_on all more left old new has c = record {
  done = c.done ++ more;
  parts = append_assoc c.done more left ∙ c.parts;
  room = has c.done c.room;
}

pub counting_ends : (all : List Edge) (rooms : List ℕ) → IsCounting all [] rooms → HasRoom rooms all
counting_ends all rooms c = subst (HasRoom rooms) (sym (append-nil c.done) ∙ c.parts) c.room

-- ---- each in its place

pub laying_begins : (ns : List UnitCounts) (refs : List Reference) (table : Building) → length table.rooms ≡ total_of ns → HasRoom table.rooms (found (edge_of ns) refs) → table.graph ≡ graph_of (length table.rooms) [] → IsLaying (found (edge_of ns) refs) (found (edge_of ns) refs) table
laying_begins ns refs table size room none = record {
  done = [];
  parts = refl;
  laid = none;
  room = room;
  from = rw size (edges_from-lt ns refs);
  to = rw size (edges_to-lt ns refs);
}

-- what the edge that comes next asks for
pub record Fits (table : Building) (e : Edge) : Type 0 where
  pub from : e.from < length table.graph
  pub to : e.to < length table.graph
  pub room : length (get_or table.graph e.from []) < get_or table.rooms e.from 0

pub laying_fits : (all left : List Edge) (e : Edge) (table : Building) → IsLaying all (e ∷ left) table → Fits table e
laying_fits all left e table l =
    let n = length table.rooms in
    let size : length table.graph ≡ n = ap (λ (g : List (List ℕ)). length g) l.laid ∙ length-graph_of n l.done in
    let next : Contains all e = subst (λ (es : List Edge). Contains es e) l.parts (Contains-append_right l.done (e ∷ left) e (Contains-here e left)) in
    let from : e.from < n = All-contains (λ (x : Edge). x.from < n) all e l.from next in
    record {
      from = rw size from;
      to = rw size (All-contains (λ (x : Edge). x.to < n) all e l.to next);
      room = rw l.laid (room_left n table.rooms l.done e left refl (subst (HasRoom table.rooms) (sym l.parts) l.room) from);
    }

pub laying_goes_on : (all left : List Edge) (e : Edge) (old new : Building) → new.rooms ≡ old.rooms → ((n : ℕ) (edges : List Edge) → old.graph ≡ graph_of n edges → new.graph ≡ graph_of n (edges ++ e ∷ [])) → IsLaying all (e ∷ left) old → IsLaying all left new
laying_goes_on all left e old new same laid l = record {
  done = l.done ++ e ∷ [];
  parts = append_assoc l.done (e ∷ []) left ∙ l.parts;
  laid = rw same (laid (length old.rooms) l.done l.laid);
  room = rw same l.room;
  from = rw same l.from;
  to = rw same l.to;
}

pub laying_ends : (all : List Edge) (table : Building) → IsLaying all [] table → table.graph ≡ graph_of (length table.rooms) all
laying_ends all table l = l.laid ∙ ap (graph_of (length table.rooms)) (sym (append-nil l.done) ∙ l.parts)
