-- Which units are kept.
use Rattle.std.specs.Prelude.{◌≡◌, ◌⊎◌, false}
use Rattle.wl_reach.specs.Search.{IsReached}
use Rattle.wl_symbols.specs.Link.{Link}
use Rattle.wl_symbols.specs.References.{Refers}
use Rattle.wl_symbols.specs.Roots.{IsRoot}
use Rattle.wl_symbols.specs.declared.units.LinkUnit.{LinkUnit}

-- collection is off, or a list of units begins with a root, each of its members refers to the next,
-- and the last is this one
abbrev pub IsKept : Link → LinkUnit → Type 0
IsKept link u = (link.args.gc_sections ≡ false) ⊎ IsReached (IsRoot link) (Refers link) u
