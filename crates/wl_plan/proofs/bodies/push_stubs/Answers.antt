use Rattle.std.proofs.Common.{◌≡◌, ◌∙◌, ◌≤◌, ◌<◌, ℕ, List, length, map, take, ap, arith, subst}
use Rattle.std.proofs.lemmas.List.{take_all}
use Rattle.wl_module.specs.Types.{FunctionType}
use Rattle.wl_symbols.specs.ImportSlots.{ImportSlot}
use Rattle.wl_bind.specs.FunctionBinding.{link_stubs}
use Rattle.wl_bind.specs.FunctionSpace.{stub_part}
use Rattle.wl_bind.specs.FunctionTypes.{stub_types}
use Rattle.wl_symbols.specs.Input.{Input}
use Rattle.wl_plan.specs.BodySteps.{AddsMadeBody}
use Rattle.wl_plan.proofs.FunctionLaws.{HaveTypes, stubs_length}
use Rattle.wl_plan.proofs.GrowLaws.{stub_entry, stubs_more, adds_none, adds_same}
use Rattle.wl_plan.proofs.bodies.push_stubs.Goals as goal

stubs_long : (input : Input) (types : List FunctionType) → types ≡ stub_types input → HaveTypes input
    → length types ≡ length (link_stubs input)
stubs_long input types are typed =
    ap (λ (ts : List FunctionType). length ts) are ∙ stubs_length input typed

pub loop-made-init : goal.loop-made-init
loop-made-init c = (omega arith, λ input g b. adds_none input g c.args.bodies.now.items)

pub loop-made-preserved : goal.loop-made-preserved
loop-made-preserved c =
    let made = c.loop-made.made in
    let old = c.loop-made.bodies.items in
    let new = c.push_made.new.bodies.items in (
      omega (arith, c.loop-made-test.true),
      λ input g b.
          let long = stubs_long input c.as_slice-types.result.now (c.as_slice-types.ensures ∙ b.stubs)
          (λ entry has. c.entries_have_types.ensures input entry b.settled has) in
          let lt : made < length (link_stubs input) = omega (arith, long, c.loop-made-test.true) in
          stubs_more input g (link_stubs input) made c.args.bodies.now.items old new lt
          (c.loop-made.invariant.1 input g b)
          (subst (λ (t : List ℕ). AddsMadeBody t old new) c.in_ok-from_slice.ensures.items
          c.in_ok-push_made.ensures),
    )

pub returns : goal.returns
returns c = λ input g b.
    let stubs : List ImportSlot = link_stubs input in
    let made = c.loop-made.made in
    let long = stubs_long input c.as_slice-types.result.now (c.as_slice-types.ensures ∙ b.stubs)
    (λ entry has. c.entries_have_types.ensures input entry b.settled has) in
    let le : length stubs ≤ made = omega (arith, long, c.loop-made-test.false) in
    adds_same input g (map stub_entry (take made stubs)) (stub_part input)
    c.args.bodies.now.items c.loop-made.bodies.items
    (ap (λ (ts : List ImportSlot). map stub_entry ts) (take_all made stubs le))
    (c.loop-made.invariant.1 input g b)
