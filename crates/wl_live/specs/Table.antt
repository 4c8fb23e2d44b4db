-- All references and all that is kept by itself as lists, by what objects say of their units; the
-- references also as edges between numbers.
use Rattle.std.specs.Prelude.{◌≡◌, ℕ, ◌+◌, true, if◌then◌else◌, List, [], ◌∷◌, ◌++◌, length, map, Option, Some, None, Contains, flat_map, option_map}
use Rattle.std.specs.Option.{option_and_then, option_to_list}
use Rattle.wl_module.specs.Exports.{Exported}
use Rattle.wl_linking.specs.Object.{Object}
use Rattle.wl_custom.specs.Symbols.{Symbol, is_weak}
use Rattle.wl_custom.specs.declared.infos.WasmInitFunc.{WasmInitFunc}
use Rattle.wl_reach.specs.declared.graph.Edge.{Edge}
use Rattle.wl_symbols.specs.Link.{Link}
use Rattle.wl_symbols.specs.Entries.{symbol_in}
use Rattle.wl_symbols.specs.Units.{units_of, units_at, exists, unit_number_if, total_of}
use Rattle.wl_symbols.specs.DefinedUnits.{unit_at, replacing_unit, other_unit, named_unit}
use Rattle.wl_symbols.specs.Roots.{export_unit, is_root_symbol}
use Rattle.wl_live.specs.Facts.{Facts}
use Rattle.wl_live.specs.declared.object_facts.SymbolUse.{SymbolUse}
use Rattle.wl_live.specs.declared.object_facts.SegmentUse.{SegmentUse}
use Rattle.wl_symbols.specs.declared.units.LinkUnit.{LinkUnit}
use Rattle.wl_symbols.specs.declared.units.UnitCounts.{UnitCounts}
use Rattle.wl_symbols.specs.declared.units.WasmGcUnit.{WasmGcUnit}
use Rattle.wl_symbols.specs.declared.units.WasmGcUnit.TheVariants.{DefinedFunction, DataSegment}

-- ---- references

-- a unit refers to another
pub record Reference : Type 0 where
  pub from : LinkUnit
  pub to : LinkUnit

-- a reference to a unit, if there is one
abbrev pub reference : LinkUnit → Option LinkUnit → List Reference
reference u to = option_to_list (option_map (λ v. record { from = u; to = v }) to)

-- what a unit that names a symbol refers to: the symbol's unit, and that of what it stands for
-- where that is followed too
abbrev pub symbol_references :
    Link → List UnitCounts → LinkUnit → ℕ → Option Symbol → List Reference
symbol_references link ns u symbol None = []
symbol_references link ns u symbol (Some s) =
    reference u (unit_at ns u.object s) ++ reference u (replacing_unit link ns u.object symbol s)

-- the unit of an object that uses a symbol
abbrev pub user_of : ℕ → SymbolUse → LinkUnit
user_of object used = record { object = object; unit = used.unit }

-- what a relocation makes its unit refer to
abbrev pub use_references : Link → List UnitCounts → ℕ → SymbolUse → List Reference
use_references link ns object used =
    symbol_references link ns (user_of object used) used.symbol
    (symbol_in link.objects object used.symbol)

-- what a symbol makes its import slot refer to
abbrev pub slot_references : Link → List UnitCounts → ℕ → SymbolUse → List Reference
slot_references link ns object used =
    reference (user_of object used) (other_unit link ns object used.symbol)

-- what the number of a segment makes its body refer to
abbrev pub segment_reference : ℕ → SegmentUse → Reference
segment_reference object used = record {
  from = record { object = object; unit = DefinedFunction used.function };
  to = record { object = object; unit = DataSegment used.segment };
}

-- what the units of an object refer to
abbrev pub object_references : Link → List UnitCounts → ℕ → Facts → List Reference
object_references link ns object facts =
    flat_map (use_references link ns object) facts.uses
    ++ (flat_map (slot_references link ns object) facts.slots
    ++ map (segment_reference object) facts.segments)

-- what the units of the objects from that number on refer to
abbrev pub references_from : Link → List UnitCounts → ℕ → List Facts → List Reference
references_from link ns object [] = []
references_from link ns object (f ∷ facts) =
    object_references link ns object f ++ references_from link ns (object + 1) facts

-- all references, one for each relocation and case, number and symbol of a slot; repeats are kept
abbrev pub references : Link → List UnitCounts → List Facts → List Reference
references link ns facts = references_from link ns 0 facts

-- ---- what is kept by itself, as a list

-- the unit with its object, if there is one
abbrev pub placed : ℕ → Option WasmGcUnit → List LinkUnit
placed object unit = option_to_list (option_map (λ u. record { object = object; unit = u }) unit)

-- the exports of an object
abbrev pub export_roots : List UnitCounts → ℕ → List Exported → List LinkUnit
export_roots ns object exports =
    flat_map (λ x. placed object (export_unit (units_at ns object) x.kind x.index)) exports

-- the unit of the symbol of that number, if it is kept
abbrev pub symbol_root : Link → List UnitCounts → ℕ → ℕ → Symbol → List LinkUnit
symbol_root link ns object number s =
    if is_root_symbol link object number s then option_to_list (unit_at ns object s) else []

-- the symbols from that number on that are kept
abbrev pub symbol_roots : Link → List UnitCounts → ℕ → ℕ → List Symbol → List LinkUnit
symbol_roots link ns object number [] = []
symbol_roots link ns object number (s ∷ symbols) =
    symbol_root link ns object number s ++ symbol_roots link ns object (number + 1) symbols

-- the unit of the symbol, and where that is weak also the unit of what an object defines in its
-- place
abbrev pub init_root : Link → List UnitCounts → ℕ → ℕ → Option Symbol → List LinkUnit
init_root link ns object number None = []
init_root link ns object number (Some s) =
    option_to_list (unit_at ns object s)
    ++ (if is_weak s then option_to_list (other_unit link ns object number) else [])

-- the functions of an object that run at the start
abbrev pub init_roots : Link → List UnitCounts → ℕ → List WasmInitFunc → List LinkUnit
init_roots link ns object functions =
    flat_map
    (λ f. init_root link ns object f.symbol_index (symbol_in link.objects object f.symbol_index))
    functions

-- what an object keeps by itself
abbrev pub object_roots : Link → List UnitCounts → ℕ → Object → List LinkUnit
object_roots link ns object o =
    export_roots ns object o.exports
    ++ (symbol_roots link ns object 0 o.symbols ++ init_roots link ns object o.init_funcs)

-- what the objects from that number on keep by themselves
abbrev pub roots_from : Link → List UnitCounts → ℕ → List Object → List LinkUnit
roots_from link ns object [] = []
roots_from link ns object (o ∷ os) =
    object_roots link ns object o ++ roots_from link ns (object + 1) os

-- the units of names that are to be exported
abbrev pub forced_roots : Link → List UnitCounts → List (List ℕ) → List LinkUnit
forced_roots link ns names = flat_map (λ name. option_to_list (named_unit link ns name)) names

-- the unit of the entry
abbrev pub entry_unit : Link → List UnitCounts → Option LinkUnit
entry_unit link ns = option_and_then (λ name. named_unit link ns name) link.args.entry

-- what is kept by itself
abbrev pub roots : Link → List UnitCounts → List LinkUnit
roots link ns =
    roots_from link ns 0 link.objects
    ++ (forced_roots link ns link.args.export_symbols ++ option_to_list (entry_unit link ns))

-- ---- edges

-- what is found for each, where something is
abbrev pub found : {X Y : Type 0} → (X → Option Y) → List X → List Y
found f xs = flat_map (λ x. option_to_list (f x)) xs

-- the edge of a reference, where both units exist
abbrev pub edge_of : List UnitCounts → Reference → Option Edge
edge_of ns r =
    option_and_then (λ a. option_map (λ b. record { from = a; to = b }) (unit_number_if ns r.to))
    (unit_number_if ns r.from)

-- the edges of the table
abbrev pub link_edges : Link → List Facts → List Edge
link_edges link facts =
    found (edge_of (units_of link.objects))
    (references link (units_of link.objects) facts)

-- at most so many steps are taken: one for each unit, and one for each entry
abbrev pub most_steps : Link → List Facts → ℕ
most_steps link facts = total_of (units_of link.objects) + length (link_edges link facts)

-- ---- chains in the table

-- a reference of the table leads from one unit that exists to another
pub record Leads (ns : List UnitCounts) (refs : List Reference) (u v : LinkUnit) : Type 0 where
  pub from : exists ns u ≡ true
  pub to : exists ns v ≡ true
  pub listed : Contains refs (record { from = u; to = v })

-- a unit that exists is listed
pub record Begins (ns : List UnitCounts) (begins : List LinkUnit) (u : LinkUnit) : Type 0 where
  pub unit : exists ns u ≡ true
  pub listed : Contains begins u
