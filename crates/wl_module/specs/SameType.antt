-- Function types are the same where their parameters and results are; laws by which maps take them
-- as keys.
use Rattle.std.specs.Prelude.{◌≡◌, ℕ, true, ◌++◌}
use Rattle.std.specs.Cmp.{IsEquivalence, IsPartialEquivalence, partial_equiv_from_equiv, on_equiv, and_equiv, nat_eq_equiv}
use Rattle.std.specs.Cmp.Lexicographic.{lists_equiv}
use Rattle.std.specs.Hash.{HashWrites, Alike, slice, on_Alike, and-Alike, items_Alike}
use Rattle.std.proofs.Common.{refl, sym, ap, ◌∙◌, cond, eqb}
use Rattle.std.proofs.lemmas.Bool.{eqb-true}
use Rattle.wl_module.specs.Types.{FunctionType, value_type_code, same_value, same_type}
use Rattle.wl_module.specs.declared.types.ValType.{ValType}
use Rattle.wl_module.specs.declared.types.ValType.TheVariants.{I32, I64, F32, F64, V128, FuncRef, ExternRef}
use Rattle.wl_module.specs.contracts.types.ValTypeHash.TheImpl as value_hash

-- what the hash of a value type is made of
abbrev pub value_input : ValType → HashWrites
value_input = value_hash.ghosts.hash_input

-- what the hash of a function type is made of: its parameters, then its results
abbrev pub type_input : FunctionType → HashWrites
type_input t = slice value_input t.params ++ slice value_input t.results

-- the value type of a byte; any for other bytes
type_of_code : ℕ → ValType
type_of_code code =
    cond (eqb code 0x7f) I32 (cond (eqb code 0x7e) I64
    (cond (eqb code 0x7d) F32 (cond (eqb code 0x7c) F64
    (cond (eqb code 0x7b) V128 (cond (eqb code 0x70) FuncRef ExternRef)))))

decodes : (a : ValType) → type_of_code (value_type_code a) ≡ a
unfolding type_of_code
decodes I32 = refl
decodes I64 = refl
decodes F32 = refl
decodes F64 = refl
decodes V128 = refl
decodes FuncRef = refl
decodes ExternRef = refl

-- value types with one byte are one
pub value_is : (a b : ValType) → same_value a b ≡ true → a ≡ b
value_is a b e =
    sym (decodes a) ∙ ap type_of_code (eqb-true (value_type_code a) (value_type_code b) e) ∙ decodes
    b

values_equiv : IsEquivalence same_value
values_equiv = on_equiv value_type_code nat_eq_equiv

pub types_equiv : IsEquivalence same_type
types_equiv = and_equiv
    (on_equiv (λ (t : FunctionType). t.params) (lists_equiv values_equiv))
    (on_equiv (λ (t : FunctionType). t.results) (lists_equiv values_equiv))

pub types_per : IsPartialEquivalence same_type
types_per = partial_equiv_from_equiv types_equiv

values_alike : Alike same_value value_input
values_alike = record { fed = λ x y h. ap value_input (value_is x y h) }

pub types_alike : Alike same_type type_input
types_alike = and-Alike
    (on_Alike (λ (t : FunctionType). t.params) (items_Alike values_alike))
    (on_Alike (λ (t : FunctionType). t.results) (items_Alike values_alike))
