-- Names that say where they stand (core specification, "Names").
use Rattle.std.specs.Prelude.{◌≡◌, ℕ, ◌+◌, ◌-◌, List, length, Result}
use Rattle.wl_bytes.specs.Cursor.{Cursor}
use Rattle.wl_bytes.specs.Items.{IsName}
use Rattle.wl_bytes.specs.declared.read_error.ReadError.{ReadError}
use Rattle.wl_bytes.specs.Lists.{word_at}
use Rattle.wl_bytes.specs.Checks.{measured_at}

-- a name, and how many bytes lie before its text: it ends where its spelling ends
abbrev pub IsPlacedName : ℕ → List ℕ × ℕ → List ℕ → Type 0
IsPlacedName place w text = IsName place w.0 text × (w.1 + length w.0 ≡ place + length text)

-- a name with its place
abbrev pub placed_name : ℕ → ℕ → List ℕ → List ℕ × ℕ
placed_name place len name = (name, place + len - length name)

-- the next name, with its place
unfoldable pub placed_name_at : Cursor → Result ((List ℕ × ℕ) × Cursor) ReadError
placed_name_at c = measured_at placed_name word_at c
