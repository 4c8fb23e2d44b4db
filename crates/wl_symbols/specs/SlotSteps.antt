-- Slots while symbols are added to them.
use Rattle.std.specs.Prelude.{ℕ, zero, suc, List, [], ◌∷◌, ◌++◌}
use Rattle.wl_symbols.specs.ImportSlots.{ImportSlot}

-- a slot with the number of one more symbol after the others
abbrev pub with_symbol : ℕ → ImportSlot → ImportSlot
with_symbol symbol t = record t { symbols = t.symbols ++ symbol ∷ [] }

-- the slots, of which the one at that place, if there is one, has one more symbol
abbrev pub with_symbol_at : ℕ → ℕ → List ImportSlot → List ImportSlot
with_symbol_at place symbol [] = []
with_symbol_at zero symbol (t ∷ slots) = with_symbol symbol t ∷ slots
with_symbol_at (suc place) symbol (t ∷ slots) = t ∷ with_symbol_at place symbol slots
