-- Types with the same parameters and results are one value.
use Rattle.std.proofs.Common.{◌≡◌, ◌∙◌, ℕ, true, List, [], ◌∷◌, refl, sym, ap, Some, get_or, slice_get, position}
use Rattle.std.proofs.lemmas.Bool.{and_parts}
use Rattle.std.specs.Cmp.Lexicographic.{pointwise}
use Rattle.std.proofs.lemmas.List.Quantifiers.{position-Some}
use Rattle.std.proofs.lemmas.Option.{slice_get-get_or}
use Rattle.wl_module.specs.Types.{FunctionType, same_type, same_value}
use Rattle.wl_module.specs.SameType.{value_is}
use Rattle.wl_module.specs.declared.types.ValType.{ValType}

values_are : (a b : List ValType) → pointwise same_value a b ≡ true → a ≡ b
values_are [] [] e = refl
values_are [] (y ∷ ys) e = absurd cc
values_are (x ∷ xs) [] e = absurd cc
values_are (x ∷ xs) (y ∷ ys) e =
    let first : x ≡ y = value_is x y (and_parts (same_value x y) (pointwise same_value xs ys) e).0 in
    let rest : xs ≡ ys = values_are xs ys (and_parts (same_value x y) (pointwise same_value xs ys) e).1 in
    cc

pub type_is : (a b : FunctionType) → same_type a b ≡ true → a ≡ b
type_is a b e =
    let params : a.params ≡ b.params = values_are a.params b.params (and_parts (pointwise same_value a.params b.params) (pointwise same_value a.results b.results) e).0 in
    let results : a.results ≡ b.results = values_are a.results b.results (and_parts (pointwise same_value a.params b.params) (pointwise same_value a.results b.results) e).1 in
    λ i. record { params = params i; results = results i }

-- at the place of a type stands the type
pub type_at : (types : List FunctionType) (ty : FunctionType) (place : ℕ) → position (same_type ty) types ≡ Some place → slice_get types place ≡ Some ty
type_at types ty place e =
    let found = position-Some (same_type ty) types place ty e in
    let is : ty ≡ get_or types place ty = type_is ty (get_or types place ty) found.1 in
    slice_get-get_or types place ty found.0 ∙ ap (λ (t : FunctionType). Some t) (sym is)
