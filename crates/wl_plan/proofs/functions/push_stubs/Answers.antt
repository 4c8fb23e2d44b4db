use Rattle.std.proofs.Common.{◌≡◌, ◌∙◌, ◌<◌, ◌≤◌, List, length, map, get_or, ap, sym, subst, eqb-true}
use Rattle.wl_module.specs.Types.{FunctionType}
use Rattle.wl_symbols.specs.Left.{HostImport, first_slot}
use Rattle.wl_bind.specs.FunctionBinding.{link_stubs}
use Rattle.wl_bind.specs.FunctionTypes.{stub_types}
use Rattle.wl_bind.specs.OutputTypes.{output_types}
use Rattle.wl_plan.proofs.FunctionLaws.{StubIs, adds_none, contains_in, no_stubs, stub_is, stub_more, stub_place, stubs_done}
use Rattle.wl_plan.proofs.functions.push_stubs.Goals as goal

pub returns-then-is_empty : goal.returns-then-is_empty
returns-then-is_empty c =
    let input = c.args.input.now in
    let b = c.requires.bindings in
    let types : c.as_slice-types.result.now ≡ stub_types input = c.as_slice-types.ensures ∙ b.stubs in
    let none : length c.as_slice-types.result.now ≡ 0 =
    eqb-true (length c.as_slice-types.result.now) 0 (sym c.is_empty.ensures ∙ c.if-is_empty.true) in
    no_stubs input c.args.functions.now.items (λ entry has. c.entries_have_types.ensures input entry b.settled has)
    (ap (λ (ts : List FunctionType). length ts) (sym types) ∙ none)

pub bounds-types-place : goal.bounds-types-place
bounds-types-place c =
    let input = c.args.input.now in
    let k = c.loop-place.place in
    let b = c.requires.bindings in
    let hosts : c.as_slice-stub-items.result.now ≡ map first_slot (link_stubs input) =
    c.as_slice-stub-items.ensures ∙ c.in_ok-stubs.ensures in
    let types : c.as_slice-types.result.now ≡ stub_types input = c.as_slice-types.ensures ∙ b.stubs in
    let lt : k < length (map first_slot (link_stubs input)) =
    subst (λ (hs : List HostImport). k < length hs) hosts c.loop-place-test.true in
    subst (λ (ts : List FunctionType). k < length ts) (sym types)
    (stub_place input k (λ entry has. c.entries_have_types.ensures input entry b.settled has) lt)

pub loop-place-init : goal.loop-place-init
loop-place-init c = adds_none c.args.input.now c.args.functions.now.items

pub loop-place-preserved : goal.loop-place-preserved
loop-place-preserved c =
    let input = c.args.input.now in
    let k = c.loop-place.place in
    let b = c.requires.bindings in
    let h = c.stub-item.result in
    let ty = c.index-types-place.result in
    let hosts : c.as_slice-stub-items.result.now ≡ map first_slot (link_stubs input) =
    c.as_slice-stub-items.ensures ∙ c.in_ok-stubs.ensures in
    let types : c.as_slice-types.result.now ≡ stub_types input = c.as_slice-types.ensures ∙ b.stubs in
    let is : StubIs input k c.index-types-place.result h.name =
    stub_is input k h ty (λ entry has. c.entries_have_types.ensures input entry b.settled has)
    (subst (λ (hs : List HostImport). k < length hs) hosts c.loop-place-test.true)
    (c.stub-item.is ∙ ap (λ (hs : List HostImport). get_or hs k h) hosts)
    (c.index-types-place.is ∙ ap (λ (ts : List FunctionType). get_or ts k ty) types) in
    stub_more input k ty c.args.bindings.now.types h.name c.stub.inside.name.now c.type_number.result
    c.args.functions.now.items c.loop-place.functions.items c.push.new.self.items b.types
    (ap (λ (g : HostImport). g.name) c.stub.view_is) is
    (c.type_number.ensures (contains_in c.args.bindings.now.types (output_types input) ty b.types is.one))
    c.in_ok-push.ensures.items c.loop-place.invariant

pub returns : goal.returns
returns c =
    let input = c.args.input.now in
    let k = c.loop-place.place in
    let hosts : c.as_slice-stub-items.result.now ≡ map first_slot (link_stubs input) =
    c.as_slice-stub-items.ensures ∙ c.in_ok-stubs.ensures in
    stubs_done input k c.args.functions.now.items c.loop-place.functions.items
    (subst (λ (hs : List HostImport). length hs ≤ k) hosts c.loop-place-test.false) c.loop-place.invariant
