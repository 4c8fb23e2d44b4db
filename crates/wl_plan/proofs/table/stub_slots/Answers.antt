use Rattle.std.proofs.Common.{◌≡◌, ◌∙◌, ◌<◌, ◌≤◌, List, length, arith, subst, take}
use Rattle.wl_module.specs.Types.{FunctionType}
use Rattle.wl_index.specs.declared.index.TheConstants.{WASM_DEAD_INDEX}
use Rattle.wl_bind.specs.FunctionBinding.{link_stubs}
use Rattle.wl_bind.specs.FunctionSpace.{FunctionOf, function_space}
use Rattle.wl_bind.specs.FunctionTypes.{stub_types}
use Rattle.wl_bind.specs.declared.binding.FunctionTarget.TheVariants.{Stub}
use Rattle.wl_plan.specs.steps.Table.{stub_slot}
use Rattle.wl_plan.proofs.FunctionLaws.{stubs_length}
use Rattle.wl_plan.proofs.TableSlotLaws.{StubStands, all_dead, index_within, stub_has_entry, stub_set, stub_stands_at, stubs_set}
use Rattle.wl_plan.proofs.table.stub_slots.Goals as goal

pub loop-stub-init : goal.loop-stub-init
loop-stub-init c =
    c.in_ok-slots.ensures.items_if_clones_equal (λ y e. e)
    ∙ all_dead (function_space c.args.input.now) c.args.count WASM_DEAD_INDEX c.requires.all

pub stub-requires : goal.stub-requires
stub-requires c =
    let input = c.args.input.now in
    let b = c.requires.bindings in
    let k = c.loop-stub.stub in
    let stubs : c.as_slice-stub-end.result.now ≡ stub_types input = c.as_slice-stub-end.ensures ∙ b.stubs in
    let many : length (stub_types input) ≡ length (link_stubs input) =
    stubs_length input (λ entry has. c.entries_have_types.ensures input entry b.settled has) in
    let few : k < length (stub_types input) =
    subst (λ (ts : List FunctionType). k < length ts) stubs c.loop-stub-test.true in
    let lt : k < length (link_stubs input) = omega (arith, few, many) in
    stub_has_entry input c.args.bindings.now.indices k b.indices lt

pub set_slot-requires : goal.set_slot-requires
set_slot-requires c =
    let input = c.args.input.now in
    let b = c.requires.bindings in
    let k = c.loop-stub.stub in
    let stubs : c.as_slice-stub-end.result.now ≡ stub_types input = c.as_slice-stub-end.ensures ∙ b.stubs in
    let many : length (stub_types input) ≡ length (link_stubs input) =
    stubs_length input (λ entry has. c.entries_have_types.ensures input entry b.settled has) in
    let few : k < length (stub_types input) =
    subst (λ (ts : List FunctionType). k < length ts) stubs c.loop-stub-test.true in
    let lt : k < length (link_stubs input) = omega (arith, few, many) in
    let is : StubStands input k c.stub.result =
    stub_stands_at input k c.stub.result lt (c.stub.ensures input b.indices) in
    index_within (stub_slot (take k (link_stubs input))) (function_space input) c.stub.result
    (FunctionOf (Stub is.slot.object is.slot.number)) c.loop-stub.slots.items c.loop-stub.invariant is.stands

pub loop-stub-preserved : goal.loop-stub-preserved
loop-stub-preserved c =
    let input = c.args.input.now in
    let b = c.requires.bindings in
    let k = c.loop-stub.stub in
    let stubs : c.as_slice-stub-end.result.now ≡ stub_types input = c.as_slice-stub-end.ensures ∙ b.stubs in
    let many : length (stub_types input) ≡ length (link_stubs input) =
    stubs_length input (λ entry has. c.entries_have_types.ensures input entry b.settled has) in
    let few : k < length (stub_types input) =
    subst (λ (ts : List FunctionType). k < length ts) stubs c.loop-stub-test.true in
    let lt : k < length (link_stubs input) = omega (arith, few, many) in
    let is : StubStands input k c.stub.result =
    stub_stands_at input k c.stub.result lt (c.stub.ensures input b.indices) in
    stub_set input k c.stub.result is.slot c.loop-stub.slots.items c.set_slot.new.slots.items
    (c.entries_stand_once.ensures.functions input) is.at is.stands c.set_slot.ensures c.loop-stub.invariant

pub returns : goal.returns
returns c =
    let input = c.args.input.now in
    let b = c.requires.bindings in
    let k = c.loop-stub.stub in
    let stubs : c.as_slice-stub-end.result.now ≡ stub_types input = c.as_slice-stub-end.ensures ∙ b.stubs in
    let many : length (stub_types input) ≡ length (link_stubs input) =
    stubs_length input (λ entry has. c.entries_have_types.ensures input entry b.settled has) in
    let few : length (stub_types input) ≤ k =
    subst (λ (ts : List FunctionType). length ts ≤ k) stubs c.loop-stub-test.false in
    let le : length (link_stubs input) ≤ k = omega (arith, few, many) in
    stubs_set input k c.loop-stub.slots.items le c.loop-stub.invariant
