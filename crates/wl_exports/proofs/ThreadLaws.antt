-- The exports of the blocks of threads, of the stack pointer, and the features that ask for it.
use Rattle.std.proofs.Common.{◌≡◌, ◌∙◌, ℕ, suc, ◌||◌, Bool, true, false, List, [], ◌∷◌, ◌++◌, map, refl, sym, ap, subst, arith, inl, inr, if◌then◌else◌, All, Contains, true≢false, Some, None}
use Rattle.std.specs.Borrow.{Bor}
use Rattle.std.specs.List.{list_any}
use Rattle.std.specs.Option.{option_to_list}
use Rattle.std.proofs.lemmas.Bool.{cases_Bool}
use Rattle.wl_module.specs.Exports.{Exported}
use Rattle.wl_symbols.specs.LinkerNames.{name_of}
use Rattle.wl_symbols.specs.Link.{Link}
use Rattle.wl_symbols.specs.declared.linker_symbol.WasmLinkerSymbol.TheVariants as linker
use Rattle.wl_features.specs.Taken.{AreTaken, taken_names}
use Rattle.wl_symbols.specs.Input.{Input}
use Rattle.wl_bind.specs.Made.{has_shared_tls}
use Rattle.wl_exports.specs.Exports.{ExportEntry, export_of, made_entity, thread_exports, stack_pointer_export}
use Rattle.wl_exports.specs.steps.Exports.{AddsExports, uses_mutable_globals}
use Rattle.wl_lists.proofs.Found.{any_in}
use Rattle.wl_lists.proofs.In.{IsIn, list_in}
use Rattle.wl_exports.proofs.GrowLaws.{adds_more, adds_same}
use Rattle.wl_exports.proofs.MadeLaws.{made_entry}

three : (b : Bool) (x y z : ExportEntry)
    → option_to_list (if b then Some x else None) ++ option_to_list (if b then Some y else None)
    ++ option_to_list (if b then Some z else None) ≡ (if b then x ∷ y ∷ z ∷ [] else [])
three true x y z = refl
three false x y z = refl

pub thread_three : (input : Input) (old one two new : List Exported)
    → AddsExports input (option_to_list (made_entry input linker.TlsSize (name_of linker.TlsSize))) old one
    → AddsExports input (option_to_list (made_entry input linker.TlsAlign (name_of linker.TlsAlign))) one two
    → AddsExports input (option_to_list (made_entry input linker.InitTls (name_of linker.InitTls))) two new
    → AddsExports input (thread_exports input) old new
thread_three input old one two new a b d =
    let size : List ExportEntry = option_to_list (made_entry input linker.TlsSize (name_of linker.TlsSize)) in
    let align : List ExportEntry = option_to_list (made_entry input linker.TlsAlign (name_of linker.TlsAlign)) in
    let init : List ExportEntry = option_to_list (made_entry input linker.InitTls (name_of linker.InitTls)) in
    adds_same input ((size ++ align) ++ init) (thread_exports input) old new
    (three (has_shared_tls input) (export_of (name_of linker.TlsSize) (made_entity linker.TlsSize))
    (export_of (name_of linker.TlsAlign) (made_entity linker.TlsAlign))
    (export_of (name_of linker.InitTls) (made_entity linker.InitTls)))
    (adds_more input (size ++ align) init old two new (adds_more input size align old one two a b) d)

pub stack_one : (input : Input) (old new : List Exported) → uses_mutable_globals input.link ≡ true
    → AddsExports input (option_to_list (made_entry input linker.StackPointer (name_of linker.StackPointer))) old new
    → AddsExports input (stack_pointer_export input) old new
stack_one input old new used a =
    adds_same input (option_to_list (made_entry input linker.StackPointer (name_of linker.StackPointer)))
    (stack_pointer_export input) old new (rw used refl) a

-- ---- features

any_some : (p : List ℕ → Bool) (names : List (List ℕ)) → list_any p names ≡ true
    → (name : List ℕ) × IsIn names name × (p name ≡ true)
any_some p [] e = absurd cc
any_some p (n ∷ names) e = elim (cases_Bool (p n)) [
  | inl t ↦ (n, inl refl, t)
  | inr f ↦ (let r = any_some p names (rw f at e) in (r.0, inr r.1, r.2))
]

all_in : {X : Type 0} (P : X → Type 0) (xs : List X) (x : X) → All P xs → IsIn xs x → P x
all_in P [] x all h = absurd h
all_in P (y ∷ xs) x all h = elim h [
  | inl e ↦ subst P e (all 0 y (omega arith))
  | inr r ↦ all_in P xs x (λ k d lt. all (suc k) d (omega (arith, lt))) r
]

one_way : (p : List ℕ → Bool) (names more : List (List ℕ)) → All (Contains more) names
    → list_any p names ≡ true → list_any p more ≡ true
one_way p names more all e =
    let r = any_some p names e in
    any_in p more r.0 (list_in more r.0 (all_in (Contains more) names r.0 all r.1)) r.2

-- the same names are used
pub used_is : (link : Link) (names : List (List ℕ)) (p : List ℕ → Bool) → AreTaken link names
    → list_any p names ≡ list_any p (taken_names link)
used_is link names p are = elim (cases_Bool (list_any p names)) [
  | inl t ↦ t ∙ sym (one_way p names (taken_names link) are.no_other t)
  | inr f ↦ elim (cases_Bool (list_any p (taken_names link))) [
    | inl t ↦ absurd (true≢false (sym (one_way p (taken_names link) names are.all t) ∙ f))
    | inr g ↦ f ∙ sym g
  ]
]

pub any_map : (p : List ℕ → Bool) (names : List (Bor (List ℕ)))
    → list_any p (map (λ (n : Bor (List ℕ)). n.now) names) ≡ list_any (λ (n : Bor (List ℕ)). p n.now) names
any_map p [] = refl
any_map p (n ∷ names) = ap (λ (b : Bool). p n.now || b) (any_map p names)
