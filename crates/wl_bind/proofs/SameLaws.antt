-- Definitions and functions that are the same are one; lists of first occurrences hold each once.
use Rattle.std.proofs.Common.{◌≡◌, ◌&&◌, ℕ, Bool, true, eqb, List, [], Option, Some, None, refl, sym, ap, ◌∙◌, if◌then◌else◌, slice_get, true≢false, eq-eqb, rules}
use Rattle.std.specs.Option.{option_and_then}
use Rattle.indexmap.specs.IndexSet.{insert_all}
use Rattle.wl_bind.specs.Scan.{unless_stub}
use Rattle.std.proofs.lemmas.Bool.{eqb-true, and_parts}
use denote.Enum.Bare.{same_true, true_same}
use Rattle.wl_symbols.specs.contracts.linker_symbol.WasmLinkerSymbol.{the_type}
use Rattle.wl_symbols.specs.contracts.linker_symbol.WasmLinkerSymbolPartialEq.TheImpl as made
use Rattle.wl_symbols.specs.declared.linker_symbol.WasmLinkerSymbol.{WasmLinkerSymbol}
use Rattle.wl_symbols.specs.declared.entry.Definition.{Definition}
use Rattle.wl_symbols.specs.declared.entry.Definition.TheVariants as definition
use Rattle.wl_bind.specs.declared.binding.FunctionTarget.{FunctionTarget}
use Rattle.wl_bind.specs.declared.binding.FunctionTarget.TheVariants as function
use Rattle.wl_bind.specs.Sameness.{same_definition, same_target, same_pair}
use Rattle.wl_lists.proofs.Firsts.{distinct-self}
use Rattle.wl_lists.proofs.Once.{once_from}

pub made_one : (a b : WasmLinkerSymbol) → made.ghosts.eq a b ≡ true → a ≡ b
made_one a b e = same_true the_type (search rules) a b e

pub made_self : (a : WasmLinkerSymbol) → made.ghosts.eq a a ≡ true
made_self a = true_same the_type a a refl

pub eqb_self : (n : ℕ) → eqb n n ≡ true
eqb_self n = eq-eqb n n refl

-- the two numbers of two things
pairs_one : {T : Type 0} (f : ℕ → ℕ → T) (a b c d : ℕ) → (eqb a c && eqb b d) ≡ true → f a b ≡ f c d
pairs_one f a b c d e = let h = and_parts (eqb a c) (eqb b d) e in rw (eqb-true a c h.0, eqb-true b d h.1) refl

pub pairs_self : (a b : ℕ) → (eqb a a && eqb b b) ≡ true
pairs_self a b = rw (eqb_self a, eqb_self b) refl

pub definition_one : (a b : Definition) → same_definition a b ≡ true → a ≡ b
definition_one (definition.Symbol o s) (definition.Symbol p t) e = pairs_one (λ x y. definition.Symbol x y) o s p t e
definition_one (definition.Made m) (definition.Made n) e = ap (λ x. definition.Made x) (made_one m n e)
definition_one _ _ e = absurd (true≢false (sym e))

pub definition_self : (a : Definition) → same_definition a a ≡ true
definition_self (definition.Symbol o s) = pairs_self o s
definition_self (definition.Made m) = made_self m

pub target_one : (a b : FunctionTarget) → same_target a b ≡ true → a ≡ b
target_one (function.Defined o s) (function.Defined p t) e = pairs_one (λ x y. function.Defined x y) o s p t e
target_one (function.Made m) (function.Made n) e = ap (λ x. function.Made x) (made_one m n e)
target_one (function.Host o s) (function.Host p t) e = pairs_one (λ x y. function.Host x y) o s p t e
target_one (function.Stub o s) (function.Stub p t) e = pairs_one (λ x y. function.Stub x y) o s p t e
target_one _ _ e = absurd (true≢false (sym e))

pub target_self : (a : FunctionTarget) → same_target a a ≡ true
target_self (function.Defined o s) = pairs_self o s
target_self (function.Made m) = made_self m
target_self (function.Host o s) = pairs_self o s
target_self (function.Stub o s) = pairs_self o s

pub pair_one : (a b : Definition × FunctionTarget) → same_pair a b ≡ true → a ≡ b
pair_one a b e =
    let h = and_parts (same_definition a.0 b.0) (same_target a.1 b.1) e in
    let first = definition_one a.0 b.0 h.0 in
    let second = target_one a.1 b.1 h.1 in
    λ i. (first i, second i)

pub pair_self : (a : Definition × FunctionTarget) → same_pair a a ≡ true
pair_self a = rw (definition_self a.0, target_self a.1) refl

-- ---- lists of first occurrences

-- two places that hold the same are one
pub first_once : {K : Type 0} (eq : K → K → Bool) → ((a : K) → eq a a ≡ true) → ((a b : K) → eq a b ≡ true → a ≡ b) → (xs : List K)
    → (i k : ℕ) (f g : K) → slice_get (insert_all eq [] xs) i ≡ Some f → slice_get (insert_all eq [] xs) k ≡ Some g → eq f g ≡ true → i ≡ k
first_once eq self one xs i k f g at_i at_k same =
    once_from (insert_all eq [] xs) (distinct-self eq self xs) i k f at_i (at_k ∙ ap Some (sym (one f g same)))

-- ---- stubs

-- no stub is made a function of the table
pub no_stub_slotted : (b : Bool) (o : Option FunctionTarget) (object slot : ℕ)
    → (if b then option_and_then unless_stub o else None) ≡ Some (function.Stub object slot) → ⊥
no_stub_slotted true (Some (function.Stub p t)) object slot is = cc
no_stub_slotted _ _ object slot is = cc
