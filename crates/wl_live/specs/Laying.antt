-- The table of references as it is laid: mention by mention, as edges between numbers.
use Rattle.std.specs.Prelude.{◌≡◌, ℕ, ◌<◌, List, [], ◌∷◌, ◌++◌, length, Option, All, option_map}
use Rattle.std.specs.Option.{option_and_then, option_to_list}
use Rattle.wl_reach.specs.Graph.{Building, HasRoom, graph_of}
use Rattle.wl_reach.specs.declared.graph.Edge.{Edge}
use Rattle.wl_symbols.specs.Link.{Link}
use Rattle.wl_symbols.specs.Units.{unit_number_if}
use Rattle.wl_symbols.specs.declared.units.LinkUnit.{LinkUnit}
use Rattle.wl_symbols.specs.declared.units.UnitCounts.{UnitCounts}
use Rattle.wl_live.specs.Facts.{Facts}
use Rattle.wl_live.specs.Table.{Reference, reference, use_references, slot_references, segment_reference, references, found, edge_of}
use Rattle.wl_live.specs.declared.mentions.Cause.{Cause}
use Rattle.wl_live.specs.declared.mentions.Cause.TheVariants.{Relocation, Slot, Number}
use Rattle.wl_live.specs.declared.mentions.Mention.{Mention}
use Rattle.wl_live.specs.declared.references.Followed.{Followed}
use Rattle.wl_live.specs.declared.table.MentionEdges.{MentionEdges}

-- ---- the references of a mention

-- by its cause, in the object of that number
abbrev pub cause_references : Link → List UnitCounts → ℕ → Cause → List Reference
cause_references link ns object (Relocation used) = use_references link ns object used
cause_references link ns object (Slot used) = slot_references link ns object used
cause_references link ns object (Number used) = segment_reference object used ∷ []

-- what a mention makes its unit refer to
abbrev pub mention_references : Link → List UnitCounts → Mention → List Reference
mention_references link ns m = cause_references link ns m.object m.cause

-- the references that are followed
abbrev pub followed_references : Followed → List Reference
followed_references f = reference f.from f.own ++ reference f.from f.other

-- ---- their edges

-- the edge from that number to a unit that exists
abbrev pub edge_to : List UnitCounts → ℕ → Option LinkUnit → Option Edge
edge_to ns from to =
    option_and_then
    (λ v. option_map (λ n. record { from = from; to = n }) (unit_number_if ns v)) to

-- the edges, of which there are at most two
abbrev pub edges : MentionEdges → List Edge
edges e = option_to_list e.own ++ option_to_list e.other

-- the edges of a mention
abbrev pub mention_edges : Link → List UnitCounts → Mention → List Edge
mention_edges link ns m = found (edge_of ns) (mention_references link ns m)

-- the edges of all references
abbrev pub all_edges : Link → List UnitCounts → List Facts → List Edge
all_edges link ns facts = found (edge_of ns) (references link ns facts)

-- ---- the table

-- of all these edges, for which there is room, those are left, and the others are laid
pub record IsLaying (all left : List Edge) (table : Building) : Type 0 where
  pub done : List Edge
  pub parts : done ++ left ≡ all
  pub laid : table.graph ≡ graph_of (length table.rooms) done
  pub room : HasRoom table.rooms all
  pub from : All (λ e. e.from < length table.rooms) all
  pub to : All (λ e. e.to < length table.rooms) all
