-- What wrappers call: what runs the constructors, and a function that isn't imported.
use Rattle.std.proofs.Common.{◌≡◌, ◌∙◌, ◌≤◌, ◌⊎◌, ℕ, zero, suc, ◌&&◌, ◌||◌, Bool, true, false, not, nat_le, List, [], ◌∷◌, length, filter, refl, subst, arith, inl, inr, Some, slice_get, if◌then◌else◌}
use Rattle.std.proofs.lemmas.Bool.{and_parts}
use Rattle.std.specs.List.{list_any}
use Rattle.std.specs.Str.{bytes_eq}
use Rattle.std.proofs.lemmas.Option.{same_Some}
use Rattle.wl_symbols.specs.LinkerNames.{name_of}
use Rattle.wl_symbols.specs.declared.linker_symbol.WasmLinkerSymbol.TheVariants.{CallCtors, InitTls}
use Rattle.wl_bind.specs.FunctionSpace.{host_function_part}
use Rattle.wl_symbols.specs.Input.{Input}
use Rattle.wl_bind.specs.Made.{is_made, is_bound, is_forced, has_init_functions}
use Rattle.wl_exports.specs.Exports.{ExportEntry, Entity, exports}
use Rattle.wl_exports.specs.Wrapped.{WrapperEntry, IsWrapper, AreWrappers}
use Rattle.wl_exports.specs.Wrappers.{is_ctors_name, calls_ctors, wraps, can_wrap, is_own, is_own_function, wrapped}
use Rattle.wl_lists.proofs.Beside.{zip_left}
use Rattle.wl_exports.proofs.WrapLaws.{own_by_index}

-- ---- what passes a test

kept_if : {X : Type 0} (b : Bool) (y : X) (zs : List X) (i : ℕ) (x : X)
    → slice_get (if b then y ∷ zs else zs) i ≡ Some x
    → ((b ≡ true) × (y ≡ x)) ⊎ ((k : ℕ) × (slice_get zs k ≡ Some x))
kept_if true y zs zero x at = inl (refl, same_Some y x at)
kept_if true y zs (suc k) x at = inr (k, at)
kept_if false y zs i x at = inr (i, at)

filter_passes : {X : Type 0} (p : X → Bool) (xs : List X) (i : ℕ) (x : X)
    → slice_get (filter p xs) i ≡ Some x → p x ≡ true
filter_passes p [] i x at = absurd cc
filter_passes {X} p (y ∷ ys) i x at = elim (kept_if (p y) y (filter p ys) i x at) [
  | inl h ↦ subst (λ (z : X). p z ≡ true) h.1 h.0
  | inr h ↦ filter_passes p ys h.0 x h.1
]

wrapped_test : (b : Bool) (es : List ExportEntry) (i : ℕ) (e : ExportEntry)
    → slice_get (if b then filter can_wrap es else []) i ≡ Some e → (b ≡ true) × (can_wrap e ≡ true)
wrapped_test true es i e at = (refl, filter_passes can_wrap es i e at)
wrapped_test false es i e at = absurd cc

-- ---- what runs the constructors

made_so : (a b c : Bool) → a ≡ true → ((a || b) || c) ≡ true
made_so true b c e = refl
made_so false b c e = absurd cc

pub constructors_made : (input : Input) (i : ℕ) (e : ExportEntry) → slice_get (wrapped input) i ≡ Some e
    → is_made input CallCtors ≡ true
constructors_made input i e at =
    let wrap : wraps input ≡ true = (wrapped_test (wraps input) (exports input) i e at).0 in
    let own = not (list_any calls_ctors input.link.objects) in
    let named = not (list_any (λ (x : ExportEntry). is_ctors_name x.name) (exports input)) in
    let some = (and_parts (has_init_functions input) own (and_parts (has_init_functions input && own) named wrap).0).0 in
    made_so (has_init_functions input) (is_bound input CallCtors) (is_forced input CallCtors) some

-- ---- functions that aren't imported

le_by : (a b : ℕ) → nat_le a b ≡ true → a ≤ b
le_by a b h = grind arith

pub calls_own : (input : Input) (ws : List WrapperEntry) (i : ℕ) (w : WrapperEntry) → AreWrappers input ws
    → slice_get ws i ≡ Some w → length (host_function_part input) ≤ w.original
calls_own input ws i w zip at =
    let found = zip_left (IsWrapper input) (wrapped input) ws i w zip at in
    let e : ExportEntry = found.0 in
    let is : IsWrapper input e w = found.2 in
    let can : can_wrap e ≡ true = (wrapped_test (wraps input) (exports input) i e found.1).1 in
    let own : is_own_function e.entity ≡ true =
    (and_parts (is_own_function e.entity) (not (bytes_eq (name_of InitTls) e.name)) can).0 in
    let of_function : is_own is.function ≡ true =
    subst (λ (x : Entity). is_own_function x ≡ true) is.leads own in
    let hosts = length (host_function_part input) in
    le_by hosts w.original (own_by_index input w.original hosts is.function refl is.original ∙ of_function)
