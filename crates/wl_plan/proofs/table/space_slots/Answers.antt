use Rattle.std.proofs.Common.{◌∙◌, ◌≤◌, arith, get_or, length, take}
use Rattle.wl_bind.specs.FunctionSpace.{FunctionOf, function_space}
use Rattle.wl_bind.specs.Scan.{table_functions}
use Rattle.wl_plan.specs.steps.Table.{slot_among}
use Rattle.wl_plan.proofs.TableLaws.{TableIs}
use Rattle.wl_plan.proofs.TableSlotLaws.{ElementIs, element_fits, element_is, element_set, elements_length, elements_set, index_within}
use Rattle.wl_plan.proofs.table.space_slots.Goals as goal

pub overflow_cast-place : goal.overflow_cast-place
overflow_cast-place c =
    let input = c.args.input.now in
    let b = c.requires.bindings in
    let k = c.loop-place.place in
    let table : TableIs c.args.input.now = record {
      kept = λ target has. c.table_functions_are_kept.ensures input target b.settled has;
      once = λ i k f g e h s. c.table_functions_stand_once.ensures.table input i k f g e h s;
      itself = c.same_targets_are_one.ensures.itself;
      stubs = λ i o s e. c.stubs_have_no_slot.ensures input i o s e;
    } in
    let fits = element_fits input c.args.elements.now k table c.requires.elements b.room c.loop-place-test.true in
    omega (arith, fits)

pub overflow_add-place : goal.overflow_add-place
overflow_add-place c =
    let input = c.args.input.now in
    let b = c.requires.bindings in
    let k = c.loop-place.place in
    let table : TableIs c.args.input.now = record {
      kept = λ target has. c.table_functions_are_kept.ensures input target b.settled has;
      once = λ i k f g e h s. c.table_functions_stand_once.ensures.table input i k f g e h s;
      itself = c.same_targets_are_one.ensures.itself;
      stubs = λ i o s e. c.stubs_have_no_slot.ensures input i o s e;
    } in
    let fits = element_fits input c.args.elements.now k table c.requires.elements b.room c.loop-place-test.true in
    omega (arith, fits)

pub set_slot-requires : goal.set_slot-requires
set_slot-requires c =
    let input = c.args.input.now in
    let k = c.loop-place.place in
    let is : ElementIs c.args.input.now c.loop-place.place (get_or c.args.elements.now c.loop-place.place 0) =
    element_is input c.args.elements.now k 0 c.requires.elements c.loop-place-test.true in
    index_within (slot_among (take k (table_functions input))) (function_space input)
    (get_or c.args.elements.now k 0) (FunctionOf is.target) c.loop-place.slots.items c.loop-place.invariant is.stands

pub loop-place-preserved : goal.loop-place-preserved
loop-place-preserved c =
    let input = c.args.input.now in
    let b = c.requires.bindings in
    let k = c.loop-place.place in
    let table : TableIs c.args.input.now = record {
      kept = λ target has. c.table_functions_are_kept.ensures input target b.settled has;
      once = λ i k f g e h s. c.table_functions_stand_once.ensures.table input i k f g e h s;
      itself = c.same_targets_are_one.ensures.itself;
      stubs = λ i o s e. c.stubs_have_no_slot.ensures input i o s e;
    } in
    let is : ElementIs c.args.input.now c.loop-place.place (get_or c.args.elements.now c.loop-place.place 0) =
    element_is input c.args.elements.now k 0 c.requires.elements c.loop-place-test.true in
    element_set input k (get_or c.args.elements.now k 0) is.target c.loop-place.slots.items
    c.set_slot.new.slots.items (c.entries_stand_once.ensures.functions input) table
    c.same_targets_are_one.ensures.functions is.at is.stands c.set_slot.ensures c.loop-place.invariant

pub returns : goal.returns
returns c =
    let input = c.args.input.now in
    let k = c.loop-place.place in
    let many = elements_length input c.args.elements.now c.requires.elements in
    let le : length (table_functions c.args.input.now) ≤ c.loop-place.place =
    omega (arith, many, c.loop-place-test.false) in
    c.new.ensures ∙ elements_set input k c.loop-place.slots.items le c.loop-place.invariant
