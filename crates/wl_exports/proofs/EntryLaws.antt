-- Exports by names and by symbols, one after the other.
use Rattle.std.proofs.Common.{◌≡◌, ◌∙◌, ◌<◌, ℕ, zero, suc, ◌+◌, ◌&&◌, not, true, false, List, [], ◌∷◌, ◌++◌, length, filter_map, take, get_or, refl, sym, ap, subst, arith, Option, Some, None, slice_get, Contains, append_assoc, append-nil, add-one, if◌then◌else◌}
use Rattle.std.proofs.lemmas.Bool.{and_parts, not-true}
use Rattle.std.specs.Option.{option_map, option_and_then, option_to_list}
use Rattle.std.specs.Prelude.{string_bytes, String}
use Rattle.std.specs.declared.alloc.Global.{Global}
use Rattle.std.proofs.lemmas.List.{take_more, map-append}
use Rattle.wl_module.specs.Exports.{Exported}
use Rattle.wl_linking.specs.Object.{Object}
use Rattle.wl_custom.specs.Symbols.{Symbol as LinkedSymbol, is_data, has_name, is_undefined, is_function}
use Rattle.wl_custom.specs.declared.symbols.WasmSymbolKind.{WasmSymbolKind}
use Rattle.wl_custom.specs.declared.symbols.WasmSymbolKind.TheVariants.{Func, Data, Global as GlobalKind, Section, Event, Table}
use Rattle.wl_symbols.specs.Names.{named}
use Rattle.wl_words.specs.Texts.{texts}
use Rattle.wl_symbols.specs.declared.entry.Definition.{Definition}
use Rattle.wl_symbols.specs.declared.entry.Definition.TheVariants.{Symbol}
use Rattle.wl_custom.specs.Symbols.{is_defined_function}
use Rattle.wl_symbols.specs.Roots.{is_candidate}
use Rattle.wl_bind.specs.ExportedData.{is_made_name}
use Rattle.wl_bind.specs.FunctionSpace.{FunctionEntry, FunctionOf}
use Rattle.wl_symbols.specs.Input.{Input}
use Rattle.wl_bind.specs.declared.binding.FunctionTarget.TheVariants as function
use Rattle.wl_symbols.specs.SlotTargets.{own_number}
use Rattle.wl_exports.specs.Exports.{ExportEntry, Entity, OfFunction, export_of, by_names, object_entity, defined_entity, defined_of_kind, named_entity, only_function, named_function, unless_made, candidate, by_symbol, candidates, is_code, stack_pointer_export, dynamic_exports}
use Rattle.wl_exports.specs.steps.Exports.{IsPlainIf, AddsExports, takes}
use Rattle.wl_exports.specs.declared.dynamic.Wanted.{Wanted}
use Rattle.wl_lists.proofs.In.{in_at, in_list}
use Rattle.wl_lists.proofs.Places.{item_at, mapped_at}
use Rattle.wl_exports.proofs.GrowLaws.{adds_more, adds_same}
use Rattle.wl_exports.proofs.ShownLaws.{Found, entity_found}
use Rattle.wl_exports.proofs.ListLaws.{one_item}

-- ---- by names

front_more : {X Y : Type 0} (f : X → Option Y) (xs : List X) (w x : X) (o : Option Y) → f w ≡ o
    → filter_map f (xs ++ x ∷ []) ≡ filter_map f xs ++ option_to_list (f x)
    → filter_map f ((w ∷ xs) ++ x ∷ []) ≡ filter_map f (w ∷ xs) ++ option_to_list (f x)
front_more f xs w x None e rest = rw e rest
front_more {X} {Y} f xs w x (Some y) e rest = rw e (ap (λ (ys : List Y). y ∷ ys) rest)

filter_map_append : {X Y : Type 0} (f : X → Option Y) (xs : List X) (x : X)
    → filter_map f (xs ++ x ∷ []) ≡ filter_map f xs ++ option_to_list (f x)
filter_map_append f [] x = one_item (f x)
filter_map_append f (w ∷ xs) x = front_more f xs w x (f w) refl (filter_map_append f xs x)

-- the texts of one more
pub texts_more : (items : List (String Global)) (i : ℕ) (s : String Global) → i < length items → s ≡ get_or items i s
    → texts (take (i + 1) items) ≡ texts (take i items) ++ string_bytes s ∷ []
texts_more items i s lt is =
    ap texts (take_more items i s lt)
    ∙ (map-append string_bytes (take i items) (get_or items i s ∷ [])
    ∙ ap (λ (z : String Global). texts (take i items) ++ string_bytes z ∷ []) (sym is))

-- the export of what stands for a name
abbrev pub name_entry : (List ℕ → Option Entity) → List ℕ → Option ExportEntry
name_entry entity name = option_map (export_of name) (entity name)

pub names_next : (input : Input) (entity : List ℕ → Option Entity) (items : List (String Global)) (i : ℕ) (s : String Global)
    (name : List ℕ) (old middle new : List Exported) → i < length items → s ≡ get_or items i s → name ≡ string_bytes s
    → AddsExports input (by_names entity (texts (take i items))) old middle
    → AddsExports input (option_to_list (name_entry entity name)) middle new
    → AddsExports input (by_names entity (texts (take (i + 1) items))) old new
names_next input entity items i s name old middle new lt is named_so a b =
    let front : List (List ℕ) = texts (take i items) in
    let more : by_names entity front ++ option_to_list (name_entry entity name)
    ≡ by_names entity (texts (take (i + 1) items)) =
    ap (λ (n : List ℕ). by_names entity front ++ option_to_list (name_entry entity n)) named_so
    ∙ (sym (filter_map_append (name_entry entity) front (string_bytes s))
    ∙ ap (by_names entity) (sym (texts_more items i s lt is))) in
    adds_same input (by_names entity front ++ option_to_list (name_entry entity name))
    (by_names entity (texts (take (i + 1) items))) old new more
    (adds_more input (by_names entity front) (option_to_list (name_entry entity name)) old middle new a b)

-- the name is one of them
pub name_in : (items : List (String Global)) (i : ℕ) (s : String Global) (name : List ℕ) (names : List (List ℕ))
    → i < length items → s ≡ get_or items i s → name ≡ string_bytes s → texts items ≡ names → Contains names name
name_in items i s name names lt is named_so are =
    let at : slice_get (texts items) i ≡ Some (string_bytes s) = mapped_at string_bytes items i s (item_at items i s lt is) in
    let here : slice_get names i ≡ Some name =
    subst (λ (ns : List (List ℕ)). slice_get ns i ≡ Some name) are
    (at ∙ ap (λ (n : List ℕ). Some n) (sym named_so)) in
    in_list names name (in_at names i name here)

-- ---- what a name stands for

pub plain_same : (input : Input) (name : List ℕ) (e other : Option Entity) (x : Option Exported) → e ≡ other
    → IsPlainIf input (option_map (export_of name) other) x → IsPlainIf input (option_map (export_of name) e) x
plain_same input name e other x same is =
    subst (λ (d : Option Entity). IsPlainIf input (option_map (export_of name) d) x) (sym same) is

pub entity_named : (input : Input) (name : List ℕ) (d : Option Definition) → named input.link name ≡ d
    → named_entity input name ≡ option_and_then (object_entity input) d
entity_named input name d names = ap (option_and_then (object_entity input)) names

pub unless_is : (input : Input) (name : List ℕ) → is_made_name input name ≡ false
    → unless_made input name ≡ named_entity input name
unless_is input name unmade = rw unmade refl

-- ---- the entry's function

function_kind : (kind : WasmSymbolKind) → is_function kind ≡ true → kind ≡ Func
function_kind Func e = refl
function_kind Data e = absurd cc
function_kind GlobalKind e = absurd cc
function_kind Section e = absurd cc
function_kind Event e = absurd cc
function_kind Table e = absurd cc

pub function_parts_of : (s : LinkedSymbol) → is_defined_function s ≡ true → (s.kind ≡ Func) × (is_undefined s ≡ false)
function_parts_of s e =
    let h = and_parts (is_function s.kind) (not (is_undefined s)) e in
    (function_kind s.kind h.0, not-true (is_undefined s) h.1)

all_functions : (f : ℕ → FunctionEntry) (n : Option ℕ)
    → option_and_then only_function (option_map (λ k. OfFunction (f k)) n) ≡ option_map (λ k. OfFunction (f k)) n
all_functions f None = refl
all_functions f (Some k) = refl

-- a function that it defines
entry_same : (input : Input) (object number : ℕ) (o : Object) (s : LinkedSymbol) → is_defined_function s ≡ true
    → option_and_then only_function (defined_entity input object number o s) ≡ defined_entity input object number o s
entry_same input object number o s holds =
    let h = function_parts_of s holds in
    let is : defined_entity input object number o s ≡ defined_of_kind object number o Func s.index =
    rw h.1 (ap (λ (k : WasmSymbolKind). defined_of_kind object number o k s.index) h.0) in
    ap (option_and_then only_function) is
    ∙ (all_functions (λ n. FunctionOf (function.Defined object n)) (own_number Func o s.index) ∙ sym is)

-- what the entry's name stands for, where that is this symbol
pub named_by : (input : Input) (name : List ℕ) (object number : ℕ) (s : LinkedSymbol)
    → named input.link name ≡ Some (Symbol object number) → (f : Found input.link.objects object number s)
    → named_entity input name ≡ defined_entity input object number f.owner s
named_by input name object number s names f =
    entity_named input name (Some (Symbol object number)) names ∙ entity_found input object number s f

pub entry_is : (input : Input) (name : List ℕ) (object number : ℕ) (s : LinkedSymbol)
    → named input.link name ≡ Some (Symbol object number)
    → (f : Found input.link.objects object number s) → is_defined_function s ≡ true
    → named_function input name ≡ defined_entity input object number f.owner s
entry_is input name object number s names f holds =
    ap (option_and_then only_function) (named_by input name object number s names f)
    ∙ entry_same input object number f.owner s holds

pub forced_is : (input : Input) (name : List ℕ) (object number : ℕ) (s : LinkedSymbol)
    → is_made_name input name ≡ false → named input.link name ≡ Some (Symbol object number)
    → (f : Found input.link.objects object number s)
    → unless_made input name ≡ defined_entity input object number f.owner s
forced_is input name object number s unmade names f =
    unless_is input name unmade ∙ named_by input name object number s names f

-- ---- symbol by symbol

symbol_more : (f : ℕ → LinkedSymbol → Option ExportEntry) (n k m : ℕ) (symbols : List LinkedSymbol) (s : LinkedSymbol)
    → n + k ≡ m → slice_get symbols k ≡ Some s
    → by_symbol f n (take (suc k) symbols) ≡ by_symbol f n (take k symbols) ++ option_to_list (f m s)
symbol_more f n k m [] s same at = absurd cc
symbol_more f n zero m (x ∷ symbols) s same at =
    let is : x ≡ s = cc in
    let number : n ≡ m = omega (arith, same) in
    append-nil (option_to_list (f n x))
    ∙ (ap (λ (y : LinkedSymbol). option_to_list (f n y)) is ∙ ap (λ (i : ℕ). option_to_list (f i s)) number)
symbol_more f n (suc k) m (x ∷ symbols) s same at =
    ap (λ (es : List ExportEntry). option_to_list (f n x) ++ es)
    (symbol_more f (n + 1) k m symbols s (omega (arith, same)) at)
    ∙ sym (append_assoc (option_to_list (f n x)) (by_symbol f (n + 1) (take k symbols)) (option_to_list (f m s)))

pub adds_symbol : (input : Input) (f : ℕ → LinkedSymbol → Option ExportEntry) (symbols : List LinkedSymbol) (k : ℕ)
    (s : LinkedSymbol) (old middle new : List Exported) → slice_get symbols k ≡ Some s
    → AddsExports input (by_symbol f 0 (take k symbols)) old middle
    → AddsExports input (option_to_list (f k s)) middle new
    → AddsExports input (by_symbol f 0 (take (k + 1) symbols)) old new
adds_symbol input f symbols k s old middle new at a b =
    let more : by_symbol f 0 (take k symbols) ++ option_to_list (f k s) ≡ by_symbol f 0 (take (k + 1) symbols) =
    rw add-one (sym (symbol_more f 0 k k symbols s (omega arith) at)) in
    adds_same input (by_symbol f 0 (take k symbols) ++ option_to_list (f k s)) (by_symbol f 0 (take (k + 1) symbols))
    old new more (adds_more input (by_symbol f 0 (take k symbols)) (option_to_list (f k s)) old middle new a b)

-- what a symbol gives, if its kind is wanted
abbrev pub wanted_candidate : Input → Wanted → ℕ → Object → ℕ → LinkedSymbol → Option ExportEntry
wanted_candidate input wanted object o number s =
    if takes wanted s.kind then candidate input object number o s else None

pub candidate_is : (input : Input) (wanted : Wanted) (object number : ℕ) (o : Object) (s : LinkedSymbol)
    → takes wanted s.kind ≡ true → (has_name s && is_candidate input.link object number s) ≡ true
    → wanted_candidate input wanted object o number s
    ≡ option_map (export_of s.name) (defined_entity input object number o s)
candidate_is input wanted object number o s kind holds = rw (kind, holds) refl

-- the one name, if it is asked for
pub names_one : (entity : List ℕ → Option Entity) (asked : Option (List ℕ)) (name : List ℕ) → asked ≡ Some name
    → option_to_list (name_entry entity name) ≡ by_names entity (option_to_list asked)
names_one entity asked name e =
    sym (ap (λ (o : Option (List ℕ)). by_names entity (option_to_list o)) e ∙ one_item (name_entry entity name))

pub dynamic_is : (input : Input) → input.link.args.export_dynamic ≡ true
    → (stack_pointer_export input ++ candidates input is_code) ++ candidates input is_data ≡ dynamic_exports input
dynamic_is input dynamic = rw dynamic refl
