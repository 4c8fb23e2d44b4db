-- What function slots are bound to, by cases.
use Rattle.std.proofs.Common.{◌≡◌, ◌∙◌, Bool, true, false, not, List, [], find, refl, sym, inl, inr, Some, None, Contains, bytes_eq}
use Rattle.std.specs.List.{list_any}
use Rattle.std.specs.Option.{is_none}
use Rattle.std.proofs.lemmas.Bool.{and_parts}
use Rattle.std.proofs.lemmas.Slice.Eq.{bytes_eq-Decides}
use Rattle.wl_custom.specs.declared.symbols.WasmSymbolKind.TheVariants.{Func}
use Rattle.wl_symbols.specs.ImportSlots.{ImportSlot}
use Rattle.wl_symbols.specs.SlotTargets.{slot_target}
use Rattle.wl_symbols.specs.Left.{same_field, same_import, is_stub, first_imports}
use Rattle.wl_symbols.specs.Input.{Input}
use Rattle.wl_symbols.specs.KeptSlots.{kept_slots}
use Rattle.wl_bind.specs.FunctionBinding.{left_functions, link_stubs, host_functions, binds_function}
use Rattle.wl_bind.specs.BindingCases.{IsOfStub, IsOfHost, IsBoundAs}
use Rattle.wl_lists.proofs.Found.{cases_option}
use Rattle.wl_lists.proofs.In.{Contains-filter, in_list, in_filter, list_in}
use Rattle.wl_bind.proofs.FindLaws.{find_some}
use Rattle.wl_bind.proofs.LeftLaws.{stub_found, no_stub, named_binds, any_listed, found_stub, stub_bound, host_bound}
use Rattle.wl_bind.proofs.ListLaws.{none_found}
use Rattle.wl_lists.proofs.Firsts.{in_firsts}
use Rattle.wl_bind.proofs.OnceParts.{passes}

-- ---- slots

pub own_import : (t : ImportSlot) → same_import t t ≡ true
own_import t = rw ((bytes_eq-Decides t.item.origin t.item.origin).1 refl, (bytes_eq-Decides t.item.name t.item.name).1 refl) refl

-- the slot is a stub's
stub_case : (input : Input) (t s : ImportSlot) → Contains (left_functions input) t → slot_target input.link t ≡ None → find (same_field t) (link_stubs input) ≡ Some s
    → IsOfStub input t (binds_function input t)
stub_case input t s listed none is =
    let so : is_stub input.link.objects (left_functions input) t ≡ true = stub_found input.link.objects (left_functions input) t s listed is in
    let f = found_stub input.link.objects (left_functions input) t s is in
    record {
      left = none;
      stub = so;
      first = s;
      stands = in_list (left_functions input) s (in_filter (is_stub input.link.objects (left_functions input)) (left_functions input) s f.0);
      first_is = passes (is_stub input.link.objects (left_functions input)) (left_functions input) s f.0;
      name = f.1;
      target_is = stub_bound input t s none so is;
    }

-- the slot is a host import's
host_found : (input : Input) (t s : ImportSlot) → slot_target input.link t ≡ None → is_stub input.link.objects (left_functions input) t ≡ false
    → find (same_import t) (first_imports (host_functions input)) ≡ Some s → IsOfHost input t (binds_function input t)
host_found input t s none no_stub_of is =
    let among = find_some (same_import t) (first_imports (host_functions input)) s is in
    let origin : bytes_eq t.item.origin s.item.origin ≡ true = (and_parts (bytes_eq t.item.origin s.item.origin) (bytes_eq t.item.name s.item.name) among.1).0 in
    let name : bytes_eq t.item.name s.item.name ≡ true = (and_parts (bytes_eq t.item.origin s.item.origin) (bytes_eq t.item.name s.item.name) among.1).1 in
    record {
      left = none;
      no_stub = no_stub_of;
      first = s;
      stands = in_list (host_functions input) s
          (in_firsts same_import (host_functions input) s (list_in (first_imports (host_functions input)) s among.0));
      module_ = (bytes_eq-Decides t.item.origin s.item.origin).0 origin;
      name = (bytes_eq-Decides t.item.name s.item.name).0 name;
      target_is = host_bound input t s none no_stub_of is;
    }

host_case : (input : Input) (t : ImportSlot) → Contains (left_functions input) t → slot_target input.link t ≡ None → find (same_field t) (link_stubs input) ≡ None
    → IsOfHost input t (binds_function input t)
host_case input t listed none no_one =
    let so : is_stub input.link.objects (left_functions input) t ≡ false = no_stub input.link.objects (left_functions input) t listed no_one in
    let hosts : List ImportSlot = host_functions input in
    let test : ImportSlot → Bool = λ (s : ImportSlot). not (is_stub input.link.objects (left_functions input) s) in
    let passed : not (is_stub input.link.objects (left_functions input) t) ≡ true = rw so refl in
    let here : Contains hosts t = Contains-filter test (left_functions input) t listed passed in
    let any : list_any (same_import t) (first_imports hosts) ≡ true = any_listed same_import [] hosts t (own_import t) (list_in hosts t here) in
    elim (cases_option (find (same_import t) (first_imports hosts))) [
      | inr s ↦ host_found input t s.0 none so s.1
      | inl nothing ↦ absurd (let both : true ≡ false = sym any ∙ none_found (same_import t) (first_imports hosts) nothing in cc)
    ]

-- what a kept slot is bound to
pub bound_as : (input : Input) (t : ImportSlot) → Contains (kept_slots input Func) t → IsBoundAs input t (binds_function input t)
bound_as input t kept = elim (cases_option (slot_target input.link t)) [
  | inr n ↦ inl (record { named = n.0; bound = n.1; target_is = named_binds input t n.0 n.1 })
  | inl none ↦
      (let no_name : is_none (slot_target input.link t) ≡ true = rw none refl in
      let listed : Contains (left_functions input) t = Contains-filter (λ (s : ImportSlot). is_none (slot_target input.link s)) (kept_slots input Func) t kept no_name in
      elim (cases_option (find (same_field t) (link_stubs input))) [
        | inr s ↦ inr (inl (stub_case input t s.0 listed none s.1))
        | inl no_one ↦ inr (inr (host_case input t listed none no_one))
      ])
]
