-- The globals of the symbols of an object.
use Rattle.std.proofs.Common.{◌≡◌, ◌∙◌, ◌||◌, ◌&&◌, ◌<◌, ℕ, zero, suc, ◌+◌, Bool, true, false, if◌then◌else◌, List, [], ◌∷◌, ◌++◌, length, map, replicate, get_or, take, position, refl, sym, ap, subst, arith, Option, Some, None, slice_get, ◌==◌}
use Rattle.std.proofs.Math.Bool.{or-false}
use Rattle.std.specs.List.{list_any, range_with_len}
use Rattle.std.specs.Option.{IsSome, option_map, option_and_then}
use Rattle.std.proofs.lemmas.Bool.{eqb-true}
use Rattle.std.proofs.lemmas.List.{nil_from_length}
use Rattle.std.proofs.lemmas.List.Folds.{list_any-append}
use Rattle.std.proofs.lemmas.List.FromFn.{length-map-range_with_len, get_or-map-range_with_len}
use Rattle.std.proofs.lemmas.Option.{get_or_from_slice_get}
use Rattle.wl_linking.specs.Object.{Object}
use Rattle.wl_custom.specs.RelocationTypes.{is_global_index}
use Rattle.wl_symbols.specs.Entries.{symbol_in}
use Rattle.wl_symbols.specs.Names.{def}
use Rattle.wl_symbols.specs.declared.entry.Definition.{Definition}
use Rattle.wl_bind.specs.FunctionSymbols.{fun}
use Rattle.wl_bind.specs.GlobalSpace.{GlobalOf, global_space}
use Rattle.wl_bind.specs.steps.GotGlobals.{marked, func_global_if}
use Rattle.wl_bind.specs.IndexMaps.{is_global_of, has_global, is_data_symbol, mem_place, got_mem_global, got_mem_globals, func_place, got_func_global, got_func_globals}
use Rattle.wl_symbols.specs.Input.{Input}
use Rattle.wl_bind.specs.steps.Numbering.{IsNumbering}
use Rattle.wl_bind.specs.Parts.{IsPlaceOf, ArePlacesOf, HasEntry}
use Rattle.wl_bind.specs.Sameness.{same_definition, same_pair}
use Rattle.wl_bind.specs.Scan.{got_mem, got_func, got_mem_entry, got_func_entry, Named}
use Rattle.wl_bind.specs.declared.binding.FunctionTarget.{FunctionTarget}
use Rattle.wl_bind.specs.declared.binding.GlobalTarget.TheVariants.{GotMem, GotFunc}
use Rattle.wl_bind.specs.declared.numbering.Numbering.{Numbering}
use Rattle.wl_symbols.specs.declared.relocated.Relocated.{Relocated}
use Rattle.wl_lists.proofs.Found.{position_map}
use Rattle.wl_bind.proofs.ListLaws.{place_lt}
use Rattle.wl_bind.proofs.MarkLaws.{one_more}
use Rattle.wl_lists.proofs.Splits.{splits}
use Rattle.wl_bind.proofs.NumberingLaws.{zip_more}
use Rattle.wl_bind.proofs.GlobalIndexLaws.{has_mem, has_func}

-- ---- marks of symbols

-- one relocation more
pub relocation_more : (n : ℕ) (seen : List Relocated) (r : Relocated) (old new : List Bool)
    → new ≡ marked old r
    → old ≡ map (λ k. list_any (is_global_of k) seen) (range_with_len 0 n)
    → new ≡ map (λ k. list_any (is_global_of k) (seen ++ r ∷ [])) (range_with_len 0 n)
relocation_more n seen r old new is so_far =
    let f = λ (k : ℕ). list_any (is_global_of k) seen in
    let g = λ (k : ℕ). list_any (is_global_of k) (seen ++ r ∷ []) in
    is ∙ (ap (λ (bs : List Bool). marked bs r) so_far
    ∙ one_more f g n r.relocation.index (is_global_index r.relocation.ty)
    (λ k. list_any-append (is_global_of k) seen (r ∷ [])
    ∙ ap (λ (b : Bool). list_any (is_global_of k) seen || b) (or-false (is_global_of k r))))

-- ---- places in the GOT lists

pub mem_placed : (input : Input) (mems : List (Named Definition)) (d : Definition)
    → mems ≡ map (got_mem_entry input) (got_mem input)
    → position (λ e. same_definition d e.key) mems
    ≡ position (same_definition d) (got_mem input)
mem_placed input mems d are =
    ap (position (λ (e : Named Definition). same_definition d e.key)) are
    ∙ position_map (got_mem_entry input) (λ e. same_definition d e.key) (got_mem input)

pub func_placed : (input : Input) (funcs : List (Named (Definition × FunctionTarget))) (d : Definition)
    (f : FunctionTarget) → funcs ≡ map (got_func_entry input) (got_func input)
    → position (λ e. same_pair (d, f) e.key) funcs
    ≡ position (same_pair (d, f)) (got_func input)
func_placed input funcs d f are =
    ap (position (λ (e : Named (Definition × FunctionTarget)). same_pair (d, f) e.key)) are
    ∙ position_map (got_func_entry input) (λ e. same_pair (d, f) e.key)
    (got_func input)

-- ---- entries of the GOT lists

then_lt : {F X : Type 0} (test : F → X → Bool) (xs : List X) (o : Option F) (p : ℕ)
    → option_and_then (λ f. position (test f) xs) o ≡ Some p → p < length xs
then_lt test xs None p is = absurd cc
then_lt test xs (Some f) p is = place_lt (test f) xs p is

-- the place of a definition has a global
pub mem_has : (n : Numbering) → IsNumbering n.input.now n → (object number place : ℕ)
    → mem_place n.input.now object number ≡ Some place → HasEntry n.indices.now.globals 8 place
mem_has n is object number place at =
    has_mem n is place (place_lt (same_definition (def n.input.now.link object number)) (got_mem n.input.now) place at)

pub func_has : (n : Numbering) → IsNumbering n.input.now n → (object number place : ℕ)
    → func_place n.input.now object number ≡ Some place → HasEntry n.indices.now.globals 9 place
func_has n is object number place at =
    has_func n is place (then_lt (λ (f : FunctionTarget). same_pair (def n.input.now.link object number, f)) (got_func n.input.now)
    (fun n.input.now object number) place at)

-- ---- where a GOT list is empty

-- no index is one of none
all_none : {X : Type 0} (space : List X) (f : ℕ → Option X) (from n : ℕ)
    → ((k : ℕ) → f k ≡ None) → ArePlacesOf space (map f (range_with_len from n)) (replicate n None)
all_none space f from zero none = tt
all_none {X} space f from (suc n) none = (
  subst (λ (o : Option X). IsPlaceOf space o None) (sym (none from)) refl,
  all_none space f (from + 1) n none,
)

at_none : {X : Type 0} (b : Bool) (f : ℕ → X) (place : Option ℕ) → place ≡ None
    → (if b then option_map f place else None) ≡ None
at_none true f place e = ap (option_map f) e
at_none false f place e = refl

no_func_place : (input : Input) (d : Definition) (o : Option FunctionTarget)
    → [] ≡ map (got_func_entry input) (got_func input)
    → option_and_then (λ f. position (same_pair (d, f)) (got_func input)) o ≡ None
no_func_place input d None empty = refl
no_func_place input d (Some f) empty = sym (func_placed input [] d f empty)

-- an empty list has no place, so no symbol has a global
pub no_func_global : (input : Input) (object number : ℕ) (mark : Bool) (funcs : List (Named (Definition × FunctionTarget)))
    → funcs ≡ map (got_func_entry input) (got_func input) → (length funcs == 0) ≡ true
    → func_global_if input object number mark ≡ None
no_func_global input object number mark funcs are empty =
    at_none mark (λ p. GlobalOf (GotFunc p)) (func_place input object number)
    (no_func_place input (def input.link object number) (fun input object number)
    (sym (nil_from_length funcs (eqb-true (length funcs) 0 empty)) ∙ are))

pub mem_none : (input : Input) (object : ℕ) (o : Object) (mems : List (Named Definition))
    → mems ≡ map (got_mem_entry input) (got_mem input) → (length mems == 0) ≡ true
    → ArePlacesOf (global_space input) (got_mem_globals input object o)
    (replicate (length o.symbols) None)
mem_none input object o mems are empty =
    let none : [] ≡ map (got_mem_entry input) (got_mem input) =
    sym (nil_from_length mems (eqb-true (length mems) 0 empty)) ∙ are in
    all_none (global_space input) (got_mem_global input object o) 0 (length o.symbols) (λ k.
    at_none (is_data_symbol input object k && has_global input object o k)
    (λ p. GlobalOf (GotMem p)) (mem_place input object k)
    (sym (mem_placed input [] (def input.link object k) none)))

pub func_none : (input : Input) (object : ℕ) (o : Object) (funcs : List (Named (Definition × FunctionTarget)))
    → funcs ≡ map (got_func_entry input) (got_func input) → (length funcs == 0) ≡ true
    → ArePlacesOf (global_space input) (got_func_globals input object o)
    (replicate (length o.symbols) None)
func_none input object o funcs are empty =
    all_none (global_space input) (got_func_global input object o) 0 (length o.symbols)
    (λ k. no_func_global input object k (has_global input object o k) funcs are empty)

-- ---- by symbols

there_at : {X : Type 0} (xs : List X) (i : ℕ) → i < length xs → IsSome (slice_get xs i)
there_at xs i lt = let s = splits xs i lt in rw s.here refl

-- there is a symbol for each mark
pub symbol_there : (objects : List Object) (object : ℕ) (o : Object) (g : ℕ → Bool) (i : ℕ)
    (marks : List Bool) → slice_get objects object ≡ Some o
    → marks ≡ map g (range_with_len 0 (length o.symbols)) → i < length marks
    → IsSome (symbol_in objects object i)
symbol_there objects object o g i marks here are lt =
    let long : length marks ≡ length o.symbols =
    ap (λ (bs : List Bool). length bs) are ∙ length-map-range_with_len g 0 (length o.symbols) in
    rw here (there_at o.symbols i (omega (arith, long, lt)))

-- the place of what one more symbol gives by its mark
pub symbol_more : {X : Type 0} (space : List X) (f : ℕ → Bool → Option X) (g : ℕ → Bool)
    (n i : ℕ) (marks : List Bool) (mark : Bool) (old new : List (Option ℕ)) (place : Option ℕ)
    → marks ≡ map g (range_with_len 0 n) → i < length marks → IsPlaceOf space (f i mark) place
    → mark ≡ get_or marks i mark → new ≡ old ++ place ∷ []
    → ArePlacesOf space (take i (map (λ k. f k (g k)) (range_with_len 0 n))) old
    → ArePlacesOf space (take (i + 1) (map (λ k. f k (g k)) (range_with_len 0 n))) new
symbol_more {X} space f g n i marks mark old new place are lt stands at pushed so_far =
    let h : ℕ → Option X = λ k. f k (g k) in
    let os : List (Option X) = map h (range_with_len 0 n) in
    let long : length marks ≡ n =
    ap (λ (bs : List Bool). length bs) are ∙ length-map-range_with_len g 0 n in
    let within : i < n = omega (arith, long, lt) in
    let all : length os ≡ n = length-map-range_with_len h 0 n in
    let same : 0 + i ≡ i = omega arith in
    let set : mark ≡ g i = at ∙ (ap (λ (bs : List Bool). get_or bs i mark) are
    ∙ get_or-map-range_with_len g 0 n i i mark within same) in
    zip_more (IsPlaceOf space) os old new i place (omega (arith, within, all)) (λ o here.
    let is : o ≡ h i = sym (get_or_from_slice_get os i o o here)
    ∙ get_or-map-range_with_len h 0 n i i o within same in
    subst (λ (x : Option X). IsPlaceOf space x place)
    (ap (λ (b : Bool). f i b) set ∙ sym is) stands) pushed so_far
