-- The places of types in a list.
use Rattle.std.proofs.Common.{◌≡◌, ◌∙◌, ℕ, Bool, true, List, [], ◌∷◌, refl, sym, ap, subst, inl, inr, Some, slice_get, get_or, position, Contains}
use Rattle.std.specs.List.{list_any}
use Rattle.std.proofs.lemmas.Bool.{cases_Bool}
use Rattle.std.proofs.lemmas.List.Quantifiers.{position-Some}
use Rattle.std.proofs.lemmas.Option.{slice_get-get_or}
use Rattle.wl_module.specs.SameType.{types_equiv}
use Rattle.wl_module.specs.Types.{FunctionType, same_type}
use Rattle.wl_lists.proofs.In.{IsIn, list_in}

any_in : {X : Type 0} (same : X → X → Bool) (xs : List X) (x : X) → ((x : X) → same x x ≡ true) → IsIn xs x
    → list_any (same x) xs ≡ true
any_in same [] x self h = absurd h
any_in {X} same (y ∷ xs) x self h = elim h [
  | inl e ↦ (let P : X → Type 0 = λ z. same x z ≡ true in let t : same x y ≡ true = subst P (sym e) (self x) in rw t refl)
  | inr r ↦ elim (cases_Bool (same x y)) [ inl t ↦ rw t refl | inr f ↦ rw f (any_in same xs x self r) ]
]

-- a type that is there is found
pub type_there : (types : List FunctionType) (ty : FunctionType) → Contains types ty
    → list_any (same_type ty) types ≡ true
type_there types ty has = any_in same_type types ty types_equiv.refl (list_in types ty has)

-- at the place of a type stands the type
pub type_at : (types : List FunctionType) (ty : FunctionType) (place : ℕ)
    → ((a b : FunctionType) → same_type a b ≡ true → a ≡ b) → position (same_type ty) types ≡ Some place
    → slice_get types place ≡ Some ty
type_at types ty place one e =
    let found = position-Some (same_type ty) types place ty e in
    let is : ty ≡ get_or types place ty = one ty (get_or types place ty) found.1 in
    slice_get-get_or types place ty found.0 ∙ ap (λ (t : FunctionType). Some t) (sym is)
