-- Texts as bytes.
use Rattle.std.specs.Prelude.{ℕ, List, length, nat_lt, filter, map, string_bytes, String}
use Rattle.std.specs.declared.alloc.Global.{Global}

-- each text as its bytes
abbrev pub texts : List (String Global) → List (List ℕ)
texts words = map string_bytes words

-- those that aren't empty
abbrev pub nonempty : List (List ℕ) → List (List ℕ)
nonempty names = filter (λ name. nat_lt 0 (length name)) names
