-- Exports and wrappers are one list each.
use Rattle.std.proofs.Common.{◌≡◌, ◌∙◌, ℕ, zero, suc, ◌<◌, Bool, true, false, List, [], ◌∷◌, length, take, filter, refl, sym, ap, arith, Some, slice_get}
use Rattle.std.specs.List.{AllZip}
use Rattle.wl_module.specs.Exports.{Exported}
use Rattle.wl_bind.specs.FunctionSpace.{FunctionEntry, function_space}
use Rattle.wl_bind.specs.GlobalSpace.{global_space}
use Rattle.wl_symbols.specs.Input.{Input}
use Rattle.wl_bind.specs.Parts.{StandOnce}
use Rattle.wl_exports.specs.Exports.{ExportEntry, Entity, OfFunction, OfGlobal, OfTable, OfMemory, exports}
use Rattle.wl_exports.specs.Sources.{IsOf}
use Rattle.wl_exports.specs.Wrapped.{WrapperEntry, is_wrapped, IsExportIf, IsWrapper, AreOutputExports, AreWrappers}
use Rattle.wl_exports.specs.Wrappers.{wrapped}
use Rattle.wl_lists.proofs.Places.{there_is}

export_one : (a b : Exported) → a.name ≡ b.name → a.kind ≡ b.kind → a.index ≡ b.index → a ≡ b
export_one a b n k x = λ i. record { name = n i; kind = k i; index = x i }

of_one : (input : Input) (entity : Entity) (a b : Exported) → StandOnce (function_space input)
    → StandOnce (global_space input) → IsOf input entity a → IsOf input entity b
    → (a.kind ≡ b.kind) × (a.index ≡ b.index)
of_one input (OfFunction f) a b functions globals x y = (x.0 ∙ sym y.0, functions a.index b.index f x.1 y.1)
of_one input (OfGlobal g) a b functions globals x y = (x.0 ∙ sym y.0, globals a.index b.index g x.1 y.1)
of_one input OfTable a b functions globals x y = (x.0 ∙ sym y.0, x.1 ∙ sym y.1)
of_one input OfMemory a b functions globals x y = (x.0 ∙ sym y.0, x.1 ∙ sym y.1)

if_one : (input : Input) (wraps : Bool) (number : ℕ) (e : ExportEntry) (a b : Exported)
    → StandOnce (function_space input) → StandOnce (global_space input)
    → IsExportIf wraps input number e a → IsExportIf wraps input number e b → a ≡ b
if_one input false number e a b functions globals x y =
    let h = of_one input e.entity a b functions globals x.leads y.leads in
    export_one a b (x.name ∙ sym y.name) h.0 h.1
if_one input true number e a b functions globals x y =
    export_one a b (x.0 ∙ sym y.0) (x.1 ∙ sym y.1) (x.2 ∙ sym y.2)

-- lists that agree at each place
same_lists : (xs ys : List Exported) (n : ℕ) → length xs ≡ n → length ys ≡ n
    → ((k : ℕ) (a b : Exported) → k < n → slice_get xs k ≡ Some a → slice_get ys k ≡ Some b → a ≡ b) → xs ≡ ys
same_lists [] [] n la lb same = refl
same_lists [] (b ∷ ys) n la lb same = absurd (omega (arith, la, lb))
same_lists (a ∷ xs) [] n la lb same = absurd (omega (arith, la, lb))
same_lists (a ∷ xs) (b ∷ ys) zero la lb same = absurd (omega (arith, la))
same_lists (a ∷ xs) (b ∷ ys) (suc n) la lb same =
    let first : a ≡ b = same 0 a b (omega arith) refl refl in
    let rest : xs ≡ ys = same_lists xs ys n (omega (arith, la)) (omega (arith, lb))
    (λ k x y lt at_a at_b. same (suc k) x y (omega (arith, lt)) at_a at_b) in
    λ i. first i ∷ rest i

pub exports_one : (input : Input) (xs ys : List Exported) → StandOnce (function_space input)
    → StandOnce (global_space input) → AreOutputExports input xs → AreOutputExports input ys → xs ≡ ys
exports_one input xs ys functions globals x y =
    same_lists xs ys (length (exports input)) x.len y.len
    (λ k a b lt at_a at_b.
    let e = there_is (exports input) k lt in
    if_one input (is_wrapped input e.0) (length (filter (is_wrapped input) (take k (exports input)))) e.0 a b
    functions globals (x.each k e.0 a e.1 at_a) (y.each k e.0 b e.1 at_b))

function_of : (a b : FunctionEntry) → OfFunction a ≡ OfFunction b → a ≡ b
function_of a b e = cc

wrapper_one : (input : Input) (e : ExportEntry) (a b : WrapperEntry) → StandOnce (function_space input)
    → IsWrapper input e a → IsWrapper input e b → a ≡ b
wrapper_one input e a b functions x y =
    let names : a.name ≡ b.name = x.name ∙ sym y.name in
    let one : x.function ≡ y.function = function_of x.function y.function (sym x.leads ∙ y.leads) in
    let here : slice_get (function_space input) b.original ≡ Some x.function =
    y.original ∙ ap (λ (f : FunctionEntry). Some f) (sym one) in
    let originals : a.original ≡ b.original =
    functions a.original b.original x.function x.original here in
    λ i. record { name = names i; original = originals i }

wrappers_zip : (input : Input) (es : List ExportEntry) (xs ys : List WrapperEntry)
    → StandOnce (function_space input) → AllZip (IsWrapper input) es xs → AllZip (IsWrapper input) es ys → xs ≡ ys
wrappers_zip input [] [] [] functions x y = refl
wrappers_zip input [] [] (b ∷ ys) functions x y = absurd y
wrappers_zip input [] (a ∷ xs) ys functions x y = absurd x
wrappers_zip input (e ∷ es) [] ys functions x y = absurd x
wrappers_zip input (e ∷ es) (a ∷ xs) [] functions x y = absurd y
wrappers_zip input (e ∷ es) (a ∷ xs) (b ∷ ys) functions x y =
    let first = wrapper_one input e a b functions x.0 y.0 in
    let rest = wrappers_zip input es xs ys functions x.1 y.1 in
    λ i. first i ∷ rest i

pub wrappers_one : (input : Input) (xs ys : List WrapperEntry) → StandOnce (function_space input)
    → AreWrappers input xs → AreWrappers input ys → xs ≡ ys
wrappers_one input xs ys functions x y = wrappers_zip input (wrapped input) xs ys functions x y
