-- Lists of exports that grow.
use Rattle.std.proofs.Common.{◌≡◌, ◌∙◌, ℕ, zero, suc, ◌+◌, ◌<◌, List, [], ◌∷◌, ◌++◌, length, filter_map, take, get_or, sym, ap, subst, arith, Option, Some, slice_get, append_assoc, append-nil, add-one, Result, Ok, Err, OnOk}
use Rattle.std.specs.Option.{option_map, option_to_list}
use Rattle.wl_module.specs.Exports.{Exported}
use Rattle.wl_linking.specs.Object.{Object}
use Rattle.wl_symbols.specs.Input.{Input}
use Rattle.wl_bind.specs.Parts.{by_object}
use Rattle.wl_exports.specs.Exports.{ExportEntry, export_of, own_entity}
use Rattle.wl_exports.specs.steps.Exports.{AddsExports}
use Rattle.wl_exports.specs.Sources.{IsPlainExport}
use Rattle.wl_lists.proofs.Beside.{zip_joined}
use Rattle.wl_exports.proofs.ListLaws.{filter_map_more}

pub adds_more : (input : Input) (front behind : List ExportEntry) (old middle new : List Exported)
    → AddsExports input front old middle → AddsExports input behind middle new
    → AddsExports input (front ++ behind) old new
adds_more input front behind old middle new a b = record {
  more = a.more ++ b.more;
  are = zip_joined (IsPlainExport input) front behind a.more b.more a.are b.are;
  grown =
      b.grown ∙ (ap (λ (xs : List Exported). xs ++ b.more) a.grown ∙ append_assoc old a.more b.more);
}

pub adds_same : (input : Input) (entries others : List ExportEntry) (old new : List Exported)
    → entries ≡ others → AddsExports input entries old new → AddsExports input others old new
adds_same input entries others old new same a =
    subst (λ (es : List ExportEntry). AddsExports input es old new) same a

-- what one more item gives
pub adds_next : {X : Type 0} (input : Input) (f : X → Option ExportEntry) (xs : List X) (i : ℕ) (x : X)
    (old middle new : List Exported) → i < length xs → x ≡ get_or xs i x
    → AddsExports input (filter_map f (take i xs)) old middle
    → AddsExports input (option_to_list (f x)) middle new
    → AddsExports input (filter_map f (take (i + 1) xs)) old new
adds_next input f xs i x old middle new lt is a b =
    adds_same input (filter_map f (take i xs) ++ option_to_list (f x)) (filter_map f (take (i + 1) xs)) old new
    (sym (filter_map_more f xs i x lt is))
    (adds_more input (filter_map f (take i xs)) (option_to_list (f x)) old middle new a b)

-- ---- object by object

pub object_more : {X : Type 0} (f : ℕ → Object → List X) (n k m : ℕ) (objects : List Object) (o : Object)
    → n + k ≡ m → slice_get objects k ≡ Some o
    → by_object f n (take (suc k) objects) ≡ by_object f n (take k objects) ++ f m o
object_more f n k m [] o same at = absurd cc
object_more {X} f n zero m (p ∷ objects) o same at =
    let is : p ≡ o = cc in
    let number : n ≡ m = omega (arith, same) in
    append-nil (f n p) ∙ (ap (λ (q : Object). f n q) is ∙ ap (λ (i : ℕ). f i o) number)
object_more {X} f n (suc k) m (p ∷ objects) o same at =
    ap (λ (xs : List X). f n p ++ xs) (object_more f (n + 1) k m objects o (omega (arith, same)) at)
    ∙ sym (append_assoc (f n p) (by_object f (n + 1) (take k objects)) (f m o))

pub adds_object : (input : Input) (f : ℕ → Object → List ExportEntry) (objects : List Object) (k : ℕ) (o : Object)
    (old middle new : List Exported) → slice_get objects k ≡ Some o
    → AddsExports input (by_object f 0 (take k objects)) old middle → AddsExports input (f k o) middle new
    → AddsExports input (by_object f 0 (take (k + 1) objects)) old new
adds_object input f objects k o old middle new at a b =
    let more : by_object f 0 (take k objects) ++ f k o ≡ by_object f 0 (take (k + 1) objects) =
    rw add-one (sym (object_more f 0 k k objects o (omega arith) at)) in
    adds_same input (by_object f 0 (take k objects) ++ f k o) (by_object f 0 (take (k + 1) objects)) old new more
    (adds_more input (by_object f 0 (take k objects)) (f k o) old middle new a b)

-- the export of what an object exports
abbrev pub own_export : Input → ℕ → Object → Exported → Option ExportEntry
own_export input object o e = option_map (export_of e.name) (own_entity input object o e)

pub ok_then : {T E : Type 0} (r : Result T E) (P Q : Type 0) → (P → Q) → OnOk r P → OnOk r Q
ok_then (Ok x) P Q f p = f p
ok_then (Err e) P Q f p = tt
