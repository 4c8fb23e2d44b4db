use Rattle.std.proofs.Common.{◌≡◌, ◌∙◌, Some, ap, arith, position, sym}
use Rattle.wl_bind.specs.Sameness.{same_target}
use Rattle.wl_bind.specs.Scan.{Scanned, table_functions}
use Rattle.wl_plan.proofs.TableLaws.{TableIs, slot_fits}
use Rattle.wl_plan.proofs.table.slot_behind_first.Goals as goal

pub overflow_cast-result : goal.overflow_cast-result
overflow_cast-result c =
    let input = c.args.input.now in
    let b = c.requires.bindings in
    let table : TableIs c.args.input.now = record {
      kept = λ target has. c.table_functions_are_kept.ensures input target b.settled has;
      once = λ i k f g e h s. c.table_functions_stand_once.ensures.table input i k f g e h s;
      itself = c.same_targets_are_one.ensures.itself;
      stubs = λ i o s e. c.stubs_have_no_slot.ensures input i o s e;
    } in
    let at : position (same_target c.args.target) (table_functions c.args.input.now) ≡ Some c.in_ok-place.place =
    ap (λ (s : Scanned). position (same_target c.args.target) s.table_functions) (sym b.scan)
    ∙ (sym c.table_place.ensures ∙ c.in_ok-place.was) in
    let fits = slot_fits input c.args.target c.in_ok-place.place table b.room at in
    omega (arith, fits)

pub overflow_add-result : goal.overflow_add-result
overflow_add-result c =
    let input = c.args.input.now in
    let b = c.requires.bindings in
    let table : TableIs c.args.input.now = record {
      kept = λ target has. c.table_functions_are_kept.ensures input target b.settled has;
      once = λ i k f g e h s. c.table_functions_stand_once.ensures.table input i k f g e h s;
      itself = c.same_targets_are_one.ensures.itself;
      stubs = λ i o s e. c.stubs_have_no_slot.ensures input i o s e;
    } in
    let at : position (same_target c.args.target) (table_functions c.args.input.now) ≡ Some c.in_ok-place.place =
    ap (λ (s : Scanned). position (same_target c.args.target) s.table_functions) (sym b.scan)
    ∙ (sym c.table_place.ensures ∙ c.in_ok-place.was) in
    let fits = slot_fits input c.args.target c.in_ok-place.place table b.room at in
    omega (arith, fits)
