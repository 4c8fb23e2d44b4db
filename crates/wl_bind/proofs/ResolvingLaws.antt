-- What slots are resolved to, rule by rule.
use Rattle.std.proofs.Common.{◌≡◌, ℕ, suc, ◌==◌, ◌&&◌, Bool, false, not, List, [], ◌∷◌, length, map, Option, Some, None, refl, sym, ap, inl, inr, arith}
use Rattle.std.proofs.Math.Bool.{and-false}
use Rattle.std.specs.List.{position, position_or_len}
use Rattle.std.specs.Option.{option_or, option_map, option_map_or}
use Rattle.std.specs.Str.{bytes_eq}
use Rattle.std.proofs.lemmas.Bool.{cases_Bool, eqb-true}
use Rattle.std.proofs.lemmas.Slice.Eq.{bytes_eq-Decides}
use Rattle.std.proofs.lemmas.List.{length-map}
use Rattle.wl_custom.specs.Symbols.{Symbol as LinkedSymbol, has_name}
use Rattle.wl_symbols.specs.Entries.{symbol_in}
use Rattle.wl_symbols.specs.LinkerNames.{name_of}
use Rattle.wl_symbols.specs.declared.entry.Definition.{Definition}
use Rattle.wl_symbols.specs.declared.entry.Definition.TheVariants.{Symbol, Made}
use Rattle.wl_symbols.specs.declared.linker_symbol.WasmLinkerSymbol.{WasmLinkerSymbol}
use Rattle.wl_symbols.specs.declared.linker_symbol.WasmLinkerSymbol.TheVariants.{DataEnd}
use Rattle.wl_symbols.specs.Input.{Input}
use Rattle.wl_bind.specs.Scan.{definition_name}
use Rattle.wl_bind.specs.GlobalBinding.{is_called}
use Rattle.wl_bind.specs.Later.{has_that_name}

-- ---- places in lists

-- a test of what is made of each passes where a test of each does
at_or_behind : {X Y : Type 0} (f : X → Y) (p : Y → Bool) (q : X → Bool) → ((x : X) → p (f x) ≡ q x) → (xs : List X)
    → position_or_len p (map f xs) ≡ position_or_len q xs
at_or_behind f p q same [] = refl
at_or_behind f p q same (x ∷ xs) = rw (same x, at_or_behind f p q same xs) refl

pub mapped_position : {X Y : Type 0} (f : X → Y) (p : Y → Bool) (q : X → Bool) → ((x : X) → p (f x) ≡ q x) → (xs : List X)
    → position p (map f xs) ≡ position q xs
mapped_position f p q same xs = rw (at_or_behind f p q same xs, length-map xs f) refl

-- ---- options

-- what is made of the first that gives something
pub joined : {X Y : Type 0} (f : X → Y) (a b c : Option X) (g : Option Y)
    → option_or (option_map f a) (option_or (option_map f b) (option_or (option_map f c) g))
    ≡ option_or (option_map f (option_or a (option_or b c))) g
joined f None None (Some x) g = refl
joined f _ _ _ g = refl

-- ---- names of definitions

-- nothing that the linker makes has an empty name
made_is_named : (m : WasmLinkerSymbol) → bytes_eq (name_of m) [] ≡ false
made_is_named DataEnd = refl
made_is_named _ = refl

-- an entry of an empty name has no name
filled : (x : ℕ) (name : List ℕ) → (length (x ∷ name) == 0) ≡ false
filled x name = elim (cases_Bool (length (x ∷ name) == 0)) [
  | inl e ↦ (let none : suc (length name) ≡ 0 = eqb-true (length (x ∷ name)) 0 e in absurd (omega (arith, none)))
  | inr e ↦ e
]

unnamed : (name : List ℕ) → has_that_name name [] ≡ false
unnamed [] = refl
unnamed (x ∷ name) = rw (filled x name) refl

symbol_called : (s : LinkedSymbol) (name : List ℕ) → has_that_name name s.name ≡ (has_name s && bytes_eq s.name name)
symbol_called s name = elim (cases_Bool (bytes_eq s.name name)) [
  | inl e ↦ (let one : s.name ≡ name = (bytes_eq-Decides s.name name).0 e in
      ap (λ (n : List ℕ). not (length n == 0) && bytes_eq s.name name) (sym one))
  | inr e ↦ rw (e, and-false (not (length name == 0)), and-false (has_name s)) refl
]

called_in : (s : Option LinkedSymbol) (name : List ℕ)
    → has_that_name name (option_map_or (λ (s : LinkedSymbol). s.name) s [])
    ≡ option_map_or (λ (s : LinkedSymbol). has_name s && bytes_eq s.name name) s false
called_in None name = unnamed name
called_in (Some s) name = symbol_called s name

made_called : (m : WasmLinkerSymbol) (name : List ℕ) → has_that_name name (name_of m) ≡ bytes_eq (name_of m) name
made_called m [] = sym (made_is_named m)
made_called m (x ∷ name) = rw (filled x name) refl

pub called : (input : Input) (name : List ℕ) (d : Definition) → has_that_name name (definition_name input d) ≡ is_called input name d
called input name (Symbol object number) = called_in (symbol_in input.link.objects object number) name
called input name (Made m) = made_called m name
