-- The lengths of the parts of spaces, and the addresses of the linker's that are exported.
use Rattle.std.proofs.Common.{◌≡◌, ◌∙◌, ◌⊎◌, ℕ, ◌<◌, ◌≤◌, Bool, true, false, List, [], ◌∷◌, ◌++◌, length, map, refl, sym, ap, subst, arith, inl, inr, Option, Some, None, Result, Ok, Err, IfOk, IfErr, slice_get, get_or, position, filter_map, if◌then◌else◌, MatchOption, length-append}
use Rattle.std.specs.List.{list_any}
use Rattle.std.specs.Str.{bytes_eq}
use Rattle.std.proofs.lemmas.Bool.{cases_Bool}
use Rattle.std.proofs.lemmas.List.{length-map}
use Rattle.std.proofs.lemmas.List.Quantifiers.{position-Some}
use Rattle.std.proofs.lemmas.Option.{slice_get-get_or}
use Rattle.std.proofs.lemmas.Slice.Eq.{bytes_eq-Decides}
use Rattle.wl_index.specs.declared.index.TheConstants.{MAX_ENTRIES}
use Rattle.wl_linking.specs.Steps.{Refuses}
use Rattle.wl_linking.specs.declared.error.LinkError.{LinkError}
use Rattle.wl_linking.specs.declared.error.LinkError.TheVariants as fault
use Rattle.wl_symbols.specs.LinkerNames.{sort_of, name_of}
use Rattle.wl_symbols.specs.LinkerRows.{kind_of_sort}
use Rattle.wl_words.specs.declared.args.WasmArgs.{WasmArgs}
use Rattle.wl_symbols.specs.declared.linker_symbol.WasmLinkerSymbol.{WasmLinkerSymbol}
use Rattle.wl_symbols.specs.declared.linker_symbol.WasmLinkerSymbol.TheVariants as made
use Rattle.wl_symbols.specs.declared.made_sort.MadeSort.{MadeSort}
use Rattle.wl_symbols.specs.declared.made_sort.MadeSort.TheVariants.{Data}
use Rattle.wl_symbols.specs.Input.{Input}
use Rattle.wl_bind.specs.ExportedAddresses.{data_named, exported_addresses}
use Rattle.wl_bind.specs.FunctionSpace.{function_parts, object_functions}
use Rattle.wl_bind.specs.GlobalSpace.{AddressOf, address_part, global_parts, object_globals, global_space}
use Rattle.wl_bind.specs.Made.{is_forced, is_made}
use Rattle.wl_bind.specs.MadeIndices.{AreMadeIndices, StandsAt, IsMadeIndex}
use Rattle.wl_bind.specs.Parts.{joined, lengths_of, starts_from, total, AreStarts, IsOver}
use Rattle.wl_bind.specs.steps.Parts.{entry_of}
use Rattle.wl_bind.specs.Sameness.{same_made}
use Rattle.wl_bind.specs.OutputTypes.{output_types}
use Rattle.wl_bind.specs.SpaceFaults.{AreTooMany, IsSpaceOver, IsSpaceTooLarge}
use Rattle.wl_bind.specs.declared.indices.LinkerDefinedIndices.{LinkerDefinedIndices}
use Rattle.wl_bind.specs.declared.parts.PartStarts.{PartStarts}
use Rattle.wl_types.specs.Types.{IsFull}
use Rattle.wl_linking.proofs.StepLaws.{refuses_for, refuses_memory}
use Rattle.wl_lists.proofs.Found.{any_in}
use Rattle.wl_lists.proofs.In.{IsIn, list_in}
use Rattle.wl_lists.proofs.Places.{mapped_at}
use Rattle.wl_bind.proofs.ListLaws.{made_of_one}
use Rattle.wl_bind.proofs.ListedLaws.{some_place_of, still_in}
use Rattle.wl_bind.proofs.PlaceLaws.{joined_length}
use Rattle.wl_bind.proofs.SameLaws.{made_one, made_self}
use Rattle.wl_bind.proofs.StartLaws.{entry_found}
use Rattle.indexmap.proofs.CallerLemmas.{Contains-list_any}

-- ---- lengths of parts

pub length_if : {X : Type 0} (b : Bool) (x : X) → length (if b then x ∷ [] else []) ≡ (if b then 1 else 0)
length_if true x = refl
length_if false x = refl

pub lengths_mapped : {X Y Z : Type 0} (f : X → Y) (g : X → Z) (xs : List X) → length (map f xs) ≡ length (map g xs)
lengths_mapped f g xs = length-map xs f ∙ sym (length-map xs g)

-- starts by the lengths of parts are those of the parts
pub starts_ok : {X : Type 0} (r : Result PartStarts LinkError) (parts : List (List X)) (lengths : List ℕ)
    → lengths ≡ lengths_of parts → IfOk r (λ s. s.starts ≡ starts_from 0 lengths) → IfOk r (λ s. s.end ≡ total lengths)
    → IfOk r (λ s. s.end ≤ MAX_ENTRIES) → IfOk r (AreStarts parts)
starts_ok (Ok s) parts lengths same starts end room = record {
  starts = starts ∙ ap (starts_from 0) same;
  end = end ∙ ap total same;
  room = room;
}
starts_ok (Err e) parts lengths same starts end room = tt

pub starts_err : {X : Type 0} (r : Result PartStarts LinkError) (parts : List (List X)) (lengths : List ℕ)
    → lengths ≡ lengths_of parts → IfErr r (IsOver (total lengths)) → IfErr r (IsOver (total (lengths_of parts)))
starts_err r parts lengths same err = subst (λ (ls : List ℕ). IfErr r (IsOver (total ls))) same err

-- ---- where parts are too long, so is the space

longer : {X : Type 0} (parts : List (List X)) (rest : List X) → MAX_ENTRIES < total (lengths_of parts)
    → MAX_ENTRIES < length (joined parts ++ rest)
longer parts rest lt =
    let all = length-append (joined parts) rest in
    let front = joined_length parts in
    omega (arith, lt, all, front)

pub over_as : (input : Input) (count : ℕ) (e : LinkError) → (MAX_ENTRIES < count → AreTooMany input) → IsOver count e
    → IsSpaceOver input e
over_as input count fault.OutOfMemory many over = tt
over_as input count (fault.TooLarge what) many over = (over.0, many over.1)
over_as input count _ many over = absurd over

pub functions_over : (input : Input) (e : LinkError) → IsOver (total (lengths_of (function_parts input))) e → IsSpaceOver input e
functions_over input e over =
    over_as input (total (lengths_of (function_parts input))) e
    (λ lt. inl (longer (function_parts input) (object_functions input) lt)) over

pub globals_over : (input : Input) (e : LinkError) → IsOver (total (lengths_of (global_parts input))) e → IsSpaceOver input e
globals_over input e over =
    over_as input (total (lengths_of (global_parts input))) e
    (λ lt. inr (longer (global_parts input) (object_globals input) lt)) over

-- too many entries are why things can't be numbered
pub space_refuses : (input : Input) (e : LinkError) → IsSpaceOver input e → Refuses (IsSpaceTooLarge input) e
space_refuses input fault.OutOfMemory over = refuses_memory (IsSpaceTooLarge input) fault.OutOfMemory refl
space_refuses input (fault.TooLarge what) over =
    refuses_for (IsSpaceTooLarge input) (fault.TooLarge what)
    (record { told = ap fault.TooLarge over.0; over = inr over.1 })
space_refuses input _ over = absurd over

-- and so are too many types
pub types_refuse : (input : Input) (e : LinkError) → IsFull (output_types input) e → Refuses (IsSpaceTooLarge input) e
types_refuse input fault.OutOfMemory full = refuses_memory (IsSpaceTooLarge input) fault.OutOfMemory refl
types_refuse input (fault.TooLarge what) full =
    refuses_for (IsSpaceTooLarge input) (fault.TooLarge what)
    (record { told = ap fault.TooLarge full.0; over = inl full.1 })
types_refuse input _ full = absurd full

-- ---- places of exported addresses

data_by_name : (m : WasmLinkerSymbol) → sort_of m ≡ Data → data_named (name_of m) ≡ Some m
data_by_name made.DataEnd e = refl
data_by_name _ e = cc

forced_is_made : (input : Input) (m : WasmLinkerSymbol) → sort_of m ≡ Data → is_made input m ≡ is_forced input m
forced_is_made input made.DataEnd e = refl
forced_is_made input _ e = cc

placed_one : {X : Type 0} (p : X → Bool) (xs : List X) (x : X) → IsIn xs x → p x ≡ true → position p xs ≡ None → ⊥
placed_one p xs x h t none =
    let place = some_place_of p xs (any_in p xs x h t) in
    let both : None ≡ Some place.0 = sym none ∙ place.1 in
    absurd cc

-- where the address of data has no place, its name isn't to be exported
not_listed : (args : WasmArgs) (m : WasmLinkerSymbol) → sort_of m ≡ Data
    → position (λ a. same_made a m) (exported_addresses args) ≡ None
    → (list_any (bytes_eq (name_of m)) args.export_symbols ≡ true) ⊎ (list_any (bytes_eq (name_of m)) args.export_symbols ≡ false)
    → list_any (bytes_eq (name_of m)) args.export_symbols ≡ false
not_listed args m is_data_of none (inr f) = f
not_listed args m is_data_of none (inl t) =
    let named = Contains-list_any bytes_eq (λ a b e. (bytes_eq-Decides a b).0 e) args.export_symbols (name_of m) t in
    let among = made_of_one data_named args.export_symbols (name_of m) m (list_in args.export_symbols (name_of m) named) (data_by_name m is_data_of) in
    let first = still_in same_made made_one (filter_map data_named args.export_symbols) m (made_self m) among in
    absurd (placed_one (λ a. same_made a m) (exported_addresses args) m first (made_self m) none)

-- the address of data has no index where its place isn't found
pub address_absent : (input : Input) (i : LinkerDefinedIndices) (m : WasmLinkerSymbol) → AreMadeIndices input i
    → sort_of m ≡ Data → position (λ a. same_made a m) i.exported.addresses.keys ≡ None
    → is_made input m ≡ false
address_absent input i m are is none =
    let none' = ap (λ (list : List WasmLinkerSymbol). position (λ a. same_made a m) list) (sym are.exported.addresses) ∙ none in
    forced_is_made input m is
    ∙ not_listed input.link.args m is none' (cases_Bool (list_any (bytes_eq (name_of m)) input.link.args.export_symbols))

found_as : (input : Input) (m : WasmLinkerSymbol) (index : Option ℕ) → sort_of m ≡ Data
    → MatchOption index ⊥ (λ place. slice_get (global_space input) place ≡ Some (AddressOf m)) → IsMadeIndex input m index
found_as input m None is at = absurd at
found_as input m (Some place) is at = subst (λ (s : MadeSort). StandsAt input m (kind_of_sort s) place) (sym is) at

-- the address of data is the start of its part plus its place
pub address_there : (input : Input) (i : LinkerDefinedIndices) (m : WasmLinkerSymbol) (place : ℕ) (index : Option ℕ)
    → AreMadeIndices input i → sort_of m ≡ Data
    → position (λ a. same_made a m) i.exported.addresses.keys ≡ Some place → index ≡ entry_of i.globals 7 place
    → IsMadeIndex input m index
address_there input i m place index are is at entry =
    let at' : position (λ a. same_made a m) (exported_addresses input.link.args) ≡ Some place =
    ap (λ (list : List WasmLinkerSymbol). position (λ a. same_made a m) list) (sym are.exported.addresses) ∙ at in
    let found = position-Some (λ a. same_made a m) (exported_addresses input.link.args) place m at' in
    let same : get_or (exported_addresses input.link.args) place m ≡ m =
    made_one (get_or (exported_addresses input.link.args) place m) m found.1 in
    let there : slice_get (exported_addresses input.link.args) place ≡ Some m =
    slice_get-get_or (exported_addresses input.link.args) place m found.0 ∙ ap (λ (x : WasmLinkerSymbol). Some x) same in
    found_as input m index is
    (entry_found (global_parts input) (object_globals input) i.globals 7 (address_part input) place (AddressOf m) index ⊥
    entry are.globals refl (mapped_at AddressOf (exported_addresses input.link.args) place m there))
