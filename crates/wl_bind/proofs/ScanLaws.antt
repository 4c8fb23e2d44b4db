-- What one walk over the kept relocations finds is what each question asks for.
use Rattle.std.proofs.Common.{◌≡◌, ◌∙◌, ◌∷◌, [], ◌||◌, Bool, false, List, Option, Some, None, refl, inl, inr, filter_map, find, fold, sym}
use Rattle.std.specs.List.{list_any, cons_option}
use Rattle.std.specs.Option.{option_or, option_map}
use Rattle.std.proofs.lemmas.Bool.{cases_Bool}
use Rattle.indexmap.specs.IndexSet.{insert_all}
use Rattle.wl_custom.specs.RelocationTypes.{is_memory_relative, is_table_relative}
use Rattle.wl_linking.specs.declared.error.UndefinedSymbol.{UndefinedSymbol}
use Rattle.wl_symbols.specs.Input.{Input}
use Rattle.wl_symbols.specs.declared.entry.Definition.{Definition}
use Rattle.wl_symbols.specs.Relocations.{relocations}
use Rattle.wl_symbols.specs.declared.relocated.Relocated.{Relocated}
use Rattle.wl_bind.specs.BindingSteps.{names_mismatch}
use Rattle.wl_bind.specs.GotSteps.{insert_some, add_entry, insert_all_as, with_all_mem, with_all_func}
use Rattle.wl_bind.specs.steps.Kinds.{is_wrong_relocation}
use Rattle.wl_bind.specs.Sameness.{same_definition, same_pair, same_target}
use Rattle.wl_bind.specs.Scan.{Scanned, Named, got_mem_of, got_mem_entry, got_func_of, got_func_entry, table_function_of, asks_for_table, scan_of}
use Rattle.wl_bind.specs.steps.Scanning.{Found, scan_part, nothing_found, first_such, found_at, found_in}
use Rattle.wl_bind.specs.Undefined.{same_undefined, undefined_data_of}
use Rattle.wl_bind.specs.UndefinedSteps.{insert_some as insert_undefined}
use Rattle.wl_bind.specs.declared.binding.FunctionTarget.{FunctionTarget}
use Rattle.wl_bind.specs.declared.scan.RelocNeeds.{RelocNeeds}
use Rattle.wl_bind.proofs.GotLaws.{all_as}
use Rattle.std.proofs.Math.Bool.{or_assoc, or-false}

-- ---- one more of a list

-- entries with that of a first key, where there is one, before those of other keys
module _ {K : Type 0} (eq : K → K → Bool) (entry : K → Named K) where
  first_as : (es : List (Named K)) (k : Option K) (ks : List K)
      → insert_all_as eq entry (add_entry eq es (option_map entry k)) ks ≡ insert_all_as eq entry es (cons_option k ks)
  first_as es None ks = refl
  first_as es (Some k) ks = refl

-- keys with a first one, where there is one, before other keys
first_key : {K : Type 0} (eq : K → K → Bool) (keys : List K) (k : Option K) (ks : List K)
    → insert_all eq (insert_some eq keys k) ks ≡ insert_all eq keys (cons_option k ks)
first_key eq keys None ks = refl
first_key eq keys (Some k) ks = refl

first_name : (names : List UndefinedSymbol) (k : Option UndefinedSymbol) (ks : List UndefinedSymbol)
    → insert_all same_undefined (insert_undefined names k) ks ≡ insert_all same_undefined names (cons_option k ks)
first_name names None ks = refl
first_name names (Some k) ks = refl

first_found : (old : Option Relocated) (test : Relocated → Bool) (r : Relocated) (rs : List Relocated)
    → option_or (first_such old (test r) r) (find test rs) ≡ option_or old (find test (r ∷ rs))
first_found (Some s) test r rs = refl
first_found None test r rs = elim (cases_Bool (test r)) [ inl y ↦ rw y refl | inr n ↦ rw n refl ]

or_none : (r : Option Relocated) → r ≡ option_or r None
or_none None = refl
or_none (Some x) = refl

-- ---- records by their fields

abbrev the_needs : Bool → Bool → Bool → RelocNeeds
the_needs memory_base table_base table = record { memory_base = memory_base; table_base = table_base; table = table }

needs_are : (n : RelocNeeds) (m b t : Bool) → n.memory_base ≡ m → n.table_base ≡ b → n.table ≡ t → n ≡ the_needs m b t
needs_are n m b t memory base table = rw (← memory, ← base, ← table) refl

same_needs : {a b c d e f : Bool} → a ≡ b → c ≡ d → e ≡ f → the_needs a c e ≡ the_needs b d f
same_needs x y z = rw (x, y, z) refl

abbrev the_scan : List (Named Definition) → List (Named (Definition × FunctionTarget)) → List FunctionTarget → RelocNeeds → Scanned
the_scan m f t n = record { got_mem = m; got_func = f; table_functions = t; needs = n }

-- ---- a field each

module _ (input : Input) where
  mem_from : (rs : List Relocated) (f : Found) → (fold (found_at input) f rs).got_mem ≡ with_all_mem input f.got_mem (filter_map (got_mem_of input) rs)
  mem_from [] f = refl
  mem_from (r ∷ rs) f =
      mem_from rs (found_at input f r) ∙ first_as same_definition (got_mem_entry input) f.got_mem (got_mem_of input r) (filter_map (got_mem_of input) rs)

  func_from : (rs : List Relocated) (f : Found) → (fold (found_at input) f rs).got_func ≡ with_all_func input f.got_func (filter_map (got_func_of input) rs)
  func_from [] f = refl
  func_from (r ∷ rs) f =
      func_from rs (found_at input f r) ∙ first_as same_pair (got_func_entry input) f.got_func (got_func_of input r) (filter_map (got_func_of input) rs)

  table_from : (rs : List Relocated) (f : Found)
      → (fold (found_at input) f rs).table_functions ≡ insert_all same_target f.table_functions (filter_map (table_function_of input) rs)
  table_from [] f = refl
  table_from (r ∷ rs) f =
      table_from rs (found_at input f r) ∙ first_key same_target f.table_functions (table_function_of input r) (filter_map (table_function_of input) rs)

  pub undefined_from : (rs : List Relocated) (f : Found)
      → (fold (found_at input) f rs).undefined ≡ insert_all same_undefined f.undefined (filter_map (undefined_data_of input) rs)
  undefined_from [] f = refl
  undefined_from (r ∷ rs) f =
      undefined_from rs (found_at input f r) ∙ first_name f.undefined (undefined_data_of input r) (filter_map (undefined_data_of input) rs)

  pub wrong_from : (rs : List Relocated) (f : Found) → (fold (found_at input) f rs).wrong ≡ option_or f.wrong (find (is_wrong_relocation input) rs)
  wrong_from [] f = or_none f.wrong
  wrong_from (r ∷ rs) f = wrong_from rs (found_at input f r) ∙ first_found f.wrong (is_wrong_relocation input) r rs

  pub mismatch_from : (rs : List Relocated) (f : Found) → (fold (found_at input) f rs).mismatch ≡ option_or f.mismatch (find (names_mismatch input) rs)
  mismatch_from [] f = or_none f.mismatch
  mismatch_from (r ∷ rs) f = mismatch_from rs (found_at input f r) ∙ first_found f.mismatch (names_mismatch input) r rs

  abbrev all_needs : RelocNeeds → List Relocated → RelocNeeds
  all_needs n rs =
      the_needs (n.memory_base || list_any (λ (r : Relocated). is_memory_relative r.relocation.ty) rs)
      (n.table_base || list_any (λ (r : Relocated). is_table_relative r.relocation.ty) rs) (n.table || list_any (asks_for_table input) rs)

  needs_from : (rs : List Relocated) (f : Found) → (fold (found_at input) f rs).needs ≡ all_needs f.needs rs
  needs_from [] f = needs_are f.needs (f.needs.memory_base || false) (f.needs.table_base || false) (f.needs.table || false)
      (sym (or-false f.needs.memory_base)) (sym (or-false f.needs.table_base)) (sym (or-false f.needs.table))
  needs_from (r ∷ rs) f =
      needs_from rs (found_at input f r)
      ∙ same_needs (or_assoc f.needs.memory_base (is_memory_relative r.relocation.ty) (list_any (λ (q : Relocated). is_memory_relative q.relocation.ty) rs))
      (or_assoc f.needs.table_base (is_table_relative r.relocation.ty) (list_any (λ (q : Relocated). is_table_relative q.relocation.ty) rs))
      (or_assoc f.needs.table (asks_for_table input r) (list_any (asks_for_table input) rs))

-- ---- all of it

scan_is : {mems ms : List (Named Definition)} {funcs fs : List (Named (Definition × FunctionTarget))} {table ts : List FunctionTarget} {needs ns : RelocNeeds}
    → mems ≡ ms → funcs ≡ fs → table ≡ ts → needs ≡ ns → the_scan mems funcs table needs ≡ the_scan ms fs ts ns
scan_is m f t n = rw (m, f, t, n) refl

-- what the relocations ask for
pub scan_found : (input : Input) → scan_part (found_in input) ≡ scan_of input
scan_found input =
    let all = relocations input in
    scan_is
    (mem_from input all nothing_found ∙ all_as same_definition (got_mem_entry input) (λ k. refl) [] (filter_map (got_mem_of input) all))
    (func_from input all nothing_found ∙ all_as same_pair (got_func_entry input) (λ k. refl) [] (filter_map (got_func_of input) all))
    (table_from input all nothing_found) (needs_from input all nothing_found)
