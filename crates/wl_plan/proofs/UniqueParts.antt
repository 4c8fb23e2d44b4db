-- What is fixed entry by entry is one list, and a thing has one place in a space in which nothing
-- stands twice.
use Rattle.std.proofs.Common.{◌≡◌, ◌∙◌, ℕ, ◌+◌, List, [], ◌∷◌, ◌++◌, length, refl, sym, ap, arith, Option, Some, None}
use Rattle.std.specs.List.{AllZip}
use Rattle.wl_linking.specs.Object.{Object}
use Rattle.wl_index.specs.declared.index_map.WasmObjectIndexMap.{WasmObjectIndexMap}
use Rattle.wl_index.specs.declared.data_address.WasmDataAddress.{WasmDataAddress}
use Rattle.wl_bind.specs.FunctionSpace.{function_space, local_functions}
use Rattle.wl_bind.specs.GlobalSpace.{global_space, local_globals}
use Rattle.wl_bind.specs.IndexMaps.{symbol_functions, got_mem_globals, got_func_globals}
use Rattle.wl_symbols.specs.Input.{Input}
use Rattle.wl_bind.specs.OutputTypes.{output_types, local_types}
use Rattle.wl_bind.specs.Parts.{StandOnce, IsIndexOf, AreIndicesOf, IsPlaceOf, ArePlacesOf, AreRows}
use Rattle.wl_places.specs.Addresses.{segment_space, local_segments}
use Rattle.wl_places.specs.IndexedMaps.{IsWholeMap, AreWholeMaps}
use Rattle.wl_places.specs.declared.placing.Placing.{Placing}

-- ---- lists

pub some_one : {X : Type 0} (o : Option X) (x y : X) → o ≡ Some x → o ≡ Some y → x ≡ y
some_one o x y p q = cc

pub cut_one : {X : Type 0} (a b c d : List X) → a ++ b ≡ c ++ d → length a ≡ length c → (a ≡ c) × (b ≡ d)
cut_one [] b [] d e len = (refl, e)
cut_one [] b (y ∷ c) d e len = absurd (omega (arith, len))
cut_one (x ∷ a) b [] d e len = absurd (omega (arith, len))
cut_one {X} (x ∷ a) b (y ∷ c) d e len =
    let first : x ≡ y = cc in
    let rest : a ++ b ≡ c ++ d = cc in
    let more = cut_one a b c d rest (omega (arith, len)) in
    (ap (λ (z : X). z ∷ a) first ∙ ap (λ (zs : List X). y ∷ zs) more.0, more.1)

-- a relation gives each thing one other at most
abbrev pub GivesOne : {A B : Type 0} → (A → B → Type 0) → Type 0
GivesOne {A} {B} R = (a : A) (x y : B) → R a x → R a y → x ≡ y

pub zip_one : {A B : Type 0} (R : A → B → Type 0) → GivesOne R → (things : List A) (xs ys : List B)
    → AllZip R things xs → AllZip R things ys → xs ≡ ys
zip_one R one [] [] [] p q = refl
zip_one R one [] [] (y ∷ ys) p q = absurd q
zip_one R one [] (x ∷ xs) ys p q = absurd p
zip_one R one (a ∷ things) [] ys p q = absurd p
zip_one R one (a ∷ things) (x ∷ xs) [] p q = absurd q
zip_one {A} {B} R one (a ∷ things) (x ∷ xs) (y ∷ ys) p q =
    ap (λ (z : B). z ∷ xs) (one a x y p.0 q.0)
    ∙ ap (λ (zs : List B). y ∷ zs) (zip_one R one things xs ys p.1 q.1)

pub rows_one : {X : Type 0} (IsRow : ℕ → Object → X → Type 0)
    → ((i : ℕ) (o : Object) (x y : X) → IsRow i o x → IsRow i o y → x ≡ y)
    → (i : ℕ) (objects : List Object) (xs ys : List X)
    → AreRows IsRow i objects xs → AreRows IsRow i objects ys → xs ≡ ys
rows_one IsRow one i [] [] [] p q = refl
rows_one IsRow one i [] [] (y ∷ ys) p q = absurd q
rows_one IsRow one i [] (x ∷ xs) ys p q = absurd p
rows_one IsRow one i (o ∷ objects) [] ys p q = absurd p
rows_one IsRow one i (o ∷ objects) (x ∷ xs) [] p q = absurd q
rows_one {X} IsRow one i (o ∷ objects) (x ∷ xs) (y ∷ ys) p q =
    ap (λ (z : X). z ∷ xs) (one i o x y p.0 q.0)
    ∙ ap (λ (zs : List X). y ∷ zs) (rows_one IsRow one (i + 1) objects xs ys p.1 q.1)

-- ---- places in a space

pub index_one : {X : Type 0} (space : List X) → StandOnce space → GivesOne (IsIndexOf space)
index_one space once None i k p q = p ∙ sym q
index_one space once (Some x) i k p q = once i k x p q

pub indices_one : {X : Type 0} (space : List X) → StandOnce space → (entries : List (Option X))
    (xs ys : List ℕ) → AreIndicesOf space entries xs → AreIndicesOf space entries ys → xs ≡ ys
indices_one space once entries xs ys p q =
    zip_one (IsIndexOf space) (index_one space once) entries xs ys p q

pub place_one : {X : Type 0} (space : List X) → StandOnce space → GivesOne (IsPlaceOf space)
place_one space once None i k p q = p ∙ sym q
place_one space once (Some x) None k p q = absurd p
place_one space once (Some x) (Some i) None p q = absurd q
place_one space once (Some x) (Some i) (Some k) p q = ap (λ (n : ℕ). Some n) (once i k x p q)

pub places_one : {X : Type 0} (space : List X) → StandOnce space → (entries : List (Option X))
    (xs ys : List (Option ℕ)) → ArePlacesOf space entries xs → ArePlacesOf space entries ys
    → xs ≡ ys
places_one space once entries xs ys p q =
    zip_one (IsPlaceOf space) (place_one space once) entries xs ys p q

-- ---- spaces in which nothing stands twice

-- those of functions, globals, types and segments are
pub record AreOnce (input : Input) (g : Placing) : Type 0 where
  pub functions : StandOnce (function_space input)
  pub globals : StandOnce (global_space input)
  pub types : StandOnce (output_types input)
  pub segments : StandOnce (segment_space g)

-- ---- maps

make_map : List ℕ → List ℕ → List ℕ → List ℕ → List WasmDataAddress → List (Option ℕ)
    → List (Option ℕ) → List (Option ℕ) → WasmObjectIndexMap
make_map types functions globals segments addresses redirects got_mem got_func = record {
  type_indices = types;
  function_indices = functions;
  global_indices = globals;
  segment_indices = segments;
  data_addresses = addresses;
  function_symbol_redirects = redirects;
  got_mem_globals = got_mem;
  got_func_globals = got_func;
}

map_one : (input : Input) (g : Placing) → AreOnce input g → (i : ℕ) (o : Object)
    (m n : WasmObjectIndexMap) → IsWholeMap input g i o m → IsWholeMap input g i o n → m ≡ n
unfolding make_map
map_one input g once i o m n p q =
    let types = indices_one (output_types input) once.types (local_types input i o)
    m.type_indices n.type_indices p.types q.types in
    let functions = indices_one (function_space input) once.functions (local_functions input i o)
    m.function_indices n.function_indices p.functions q.functions in
    let globals = indices_one (global_space input) once.globals (local_globals input i o)
    m.global_indices n.global_indices p.globals q.globals in
    let segments = indices_one (segment_space g) once.segments (local_segments input i o)
    m.segment_indices n.segment_indices p.segments q.segments in
    let addresses : m.data_addresses ≡ n.data_addresses = p.addresses ∙ sym q.addresses in
    let redirects = places_one (function_space input) once.functions (symbol_functions input i o)
    m.function_symbol_redirects n.function_symbol_redirects p.redirects q.redirects in
    let got_mem = places_one (global_space input) once.globals (got_mem_globals input i o)
    m.got_mem_globals n.got_mem_globals p.got_mem q.got_mem in
    let got_func = places_one (global_space input) once.globals (got_func_globals input i o)
    m.got_func_globals n.got_func_globals p.got_func q.got_func in
    let h : make_map m.type_indices m.function_indices m.global_indices m.segment_indices
    m.data_addresses m.function_symbol_redirects m.got_mem_globals m.got_func_globals
    ≡ make_map n.type_indices n.function_indices n.global_indices n.segment_indices
    n.data_addresses n.function_symbol_redirects n.got_mem_globals n.got_func_globals =
    rw (types, functions, globals, segments, addresses, redirects, got_mem, got_func) refl in
    h

pub maps_one : (input : Input) (g : Placing) → AreOnce input g → (ms ns : List WasmObjectIndexMap)
    → AreWholeMaps input g ms → AreWholeMaps input g ns → ms ≡ ns
maps_one input g once ms ns p q =
    rows_one (IsWholeMap input g) (map_one input g once) 0 input.link.objects ms ns p q
