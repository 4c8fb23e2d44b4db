use Rattle.std.proofs.Common.{◌≡◌, ◌∙◌, ℕ, List, [], ap, map}
use Rattle.indexmap.specs.IndexSet.{insert_all}
use Rattle.wl_symbols.specs.Left.{is_stub_name, stub_slots, first_slot}
use Rattle.wl_symbols.specs.LeftSteps.{has_same_name, is_told_stub}
use Rattle.wl_symbols.proofs.TellingLaws.{told_stubs, told_hosts, map_all}
use Rattle.wl_symbols.proofs.left.divide_slots.Goals as goal

pub returns-clause-stub_slots : goal.returns-clause-stub_slots
returns-clause-stub_slots c =
    let says : (q : List ℕ) → is_told_stub c.in_ok-names.names q ≡ is_stub_name c.args.table.now.objects c.args.slots.items q =
    λ q. rw (← c.deref.ensures.value) (c.in_ok-names.ensures q) in
    c.in_ok-stub_slots.ensures.stub_slots ∙ told_stubs c.args.table.now.objects c.args.slots.items (is_told_stub c.in_ok-names.names) says

pub returns-clause-stubs : goal.returns-clause-stubs
returns-clause-stubs c =
    let says : (q : List ℕ) → is_told_stub c.in_ok-names.names q ≡ is_stub_name c.args.table.now.objects c.args.slots.items q =
    λ q. rw (← c.deref.ensures.value) (c.in_ok-names.ensures q) in
    let are : c.in_ok-stub_slots.stub_slots.items ≡ stub_slots c.args.table.now.objects c.args.slots.items =
    c.in_ok-stub_slots.ensures.stub_slots ∙ told_stubs c.args.table.now.objects c.args.slots.items (is_told_stub c.in_ok-names.names) says in
    c.in_ok-stubs.ensures ∙ ap (λ ts. insert_all has_same_name [] (map first_slot ts)) (c.deref-2.ensures.value ∙ are)
    ∙ map_all first_slot has_same_name [] (stub_slots c.args.table.now.objects c.args.slots.items)

pub returns-clause-host_slots : goal.returns-clause-host_slots
returns-clause-host_slots c =
    let says : (q : List ℕ) → is_told_stub c.in_ok-names.names q ≡ is_stub_name c.args.table.now.objects c.args.slots.items q =
    λ q. rw (← c.deref.ensures.value) (c.in_ok-names.ensures q) in
    c.in_ok-stub_slots.ensures.host_slots ∙ told_hosts c.args.table.now.objects c.args.slots.items (is_told_stub c.in_ok-names.names) says
