-- The linker's names, each of which is that of one.
use Rattle.std.proofs.Common.{◌≡◌, ℕ, Bool, true, List, [], ◌∷◌, refl, inl, inr, Option, Some, None, find}
use Rattle.std.specs.Option.{option_and_then}
use Rattle.std.specs.Str.{bytes_eq}
use Rattle.std.proofs.lemmas.Slice.Eq.{bytes_eq-Decides}
use Rattle.std.proofs.lemmas.Bool.{cases_Bool}
use Rattle.wl_symbols.specs.LinkerNames.{name_of, sort_of, IsOfSort, exists_under, all_made, symbol_named, if_exists, made_of}
use Rattle.wl_symbols.specs.Names.{IsMade}
use Rattle.wl_words.specs.declared.args.WasmArgs.{WasmArgs}
use Rattle.wl_symbols.specs.declared.linker_symbol.WasmLinkerSymbol.{WasmLinkerSymbol}
use Rattle.wl_symbols.specs.declared.linker_symbol.WasmLinkerSymbol.TheVariants.{DataEnd}

-- each is that of a function, of a global, or of data
pub by_sort : (m : WasmLinkerSymbol) → IsOfSort m (sort_of m)
by_sort DataEnd = refl
by_sort _ = refl

-- each is the one of its name
pub parse_name : (m : WasmLinkerSymbol) → symbol_named (name_of m) ≡ Some m
parse_name DataEnd = refl
parse_name _ = refl

find_passes : (p : WasmLinkerSymbol → Bool) (xs : List WasmLinkerSymbol) (m : WasmLinkerSymbol) → find p xs ≡ Some m → p m ≡ true
find_passes p [] m e = absurd cc
find_passes p (x ∷ xs) m e = elim (cases_Bool (p x)) [
  | inl t ↦ (let same : Some x ≡ Some m = rw t at e in let is : x ≡ m = cc in rw (← is) t)
  | inr f ↦ find_passes p xs m (rw f at e)
]

pub named_is : (name : List ℕ) (m : WasmLinkerSymbol) → symbol_named name ≡ Some m → name_of m ≡ name
named_is name m e = (bytes_eq-Decides (name_of m) name).0 (find_passes (λ made. bytes_eq (name_of made) name) all_made m e)

exists_is : (args : WasmArgs) (m n : WasmLinkerSymbol) → if_exists args m ≡ Some n → (m ≡ n) × (exists_under args m ≡ true)
exists_is args m n e = elim (cases_Bool (exists_under args m)) [
  | inl t ↦ (let same : Some m ≡ Some n = rw t at e in (cc, t))
  | inr f ↦ (let same : None ≡ Some n = rw f at e in absurd cc)
]

made_from : (args : WasmArgs) (name : List ℕ) (m : WasmLinkerSymbol) (found : Option WasmLinkerSymbol) → symbol_named name ≡ found → option_and_then (if_exists args) found ≡ Some m → IsMade args name m
made_from args name m None e h = absurd cc
made_from args name m (Some n) e h =
    let x = exists_is args n m h in
    rw (← x.0) (record { name_is = named_is name n e; exists_ = x.1 })

pub made_is : (args : WasmArgs) (name : List ℕ) (m : WasmLinkerSymbol) → made_of args name ≡ Some m → IsMade args name m
made_is args name m e = made_from args name m (symbol_named name) refl e

pub is_made : (args : WasmArgs) (name : List ℕ) (m : WasmLinkerSymbol) → IsMade args name m → made_of args name ≡ Some m
is_made args name m h = rw (← h.name_is, parse_name m, h.exists_) refl

pub none_made : (args : WasmArgs) (name : List ℕ) → made_of args name ≡ None → (m : WasmLinkerSymbol) → IsMade args name m → ⊥
none_made args name e m h = let is = is_made args name m h in absurd cc
