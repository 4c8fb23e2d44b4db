use Rattle.std.proofs.Common.{◌≡◌, ◌∙◌, ◌≤◌, ℕ, List, ◌++◌, ap, arith, length, map, rules, subst, sym}
use Rattle.wl_linking.specs.Steps.{Clear}
use Rattle.wl_bind.specs.FunctionSpace.{function_space}
use Rattle.wl_bind.specs.Scan.{table_functions}
use Rattle.wl_index.specs.declared.index.TheConstants.{WASM_DEAD_INDEX, MAX_ENTRIES}
use Rattle.wl_symbols.specs.Input.{Input}
use Rattle.wl_exports.specs.Wrapped.{WrapperEntry}
use Rattle.wl_plan.specs.steps.Positions.{AreMovedFields}
use Rattle.wl_plan.specs.Fixups.{AreFixups, IsFixupFault}
use Rattle.wl_plan.specs.steps.Fixups.{HasRoom}
use Rattle.wl_plan.specs.Globals.{ArePlannedGlobals, IsGlobalFault}
use Rattle.wl_plan.specs.Table.{function_slots, space_slots}
use Rattle.wl_places.specs.declared.placing.Placing.{Placing}
use Rattle.wl_linking.proofs.StepLaws.{clear_both}
use Rattle.wl_plan.proofs.SlotLaws.{TableLaws, few_in_table}
use Rattle.wl_plan.proofs.WrapperLaws.{dead_are}
use Rattle.wl_plan.proofs.plan.output_values.Goals as goal

pub all_fixups-requires-clause-sources : goal.all_fixups-requires-clause-sources
all_fixups-requires-clause-sources c =
    let input = c.args.things.now.input.now in
    let things = c.requires.things in
    let laws : TableLaws = record {
      once = c.table_functions_stand_once.ensures.table;
      itself = c.same_targets_are_one.ensures.itself;
    } in
    let within : length (table_functions input) ≤ length (function_space input) =
    few_in_table laws input c.in_ok-elements.elements c.in_ok-elements.ensures in
    let room : length (function_space input) ≤ MAX_ENTRIES = things.few.functions in
    let slots : c.as_slice-2.result.now ≡ space_slots input = search rules in
    let few : HasRoom input = record {
      types = things.few.types;
      globals = things.few.globals;
      table = omega (arith, within, room);
    } in
    record {
      book = c.requires.book.book_is;
      settled = rw (c.requires.book.input) things.bindings.settled;
      room = rw (c.requires.book.input) few;
      maps = rw (c.requires.book.input, c.requires.book.placing) things.maps;
      slots = rw (c.requires.book.input) slots;
    }

pub returns-clause-clear : goal.returns-clause-clear
returns-clause-clear c =
    let input = c.args.things.now.input.now in
    let g = c.args.things.now.placing.now in
    let first : Clear (IsGlobalFault input g) =
    rw (c.requires.book.input, c.requires.book.placing) at c.in_ok-globals.ensures.clear in
    let second : Clear (IsFixupFault input g) =
    rw (c.requires.book.input, c.requires.book.placing) at c.in_ok-fixups.ensures.clear in
    clear_both (IsGlobalFault input g) (IsFixupFault input g) first second

pub returns-clause-ok : goal.returns-clause-ok
returns-clause-ok c =
    let input = c.args.things.now.input.now in
    let g = c.args.things.now.placing.now in
    let ws = c.args.things.now.wrappers.now in
    let globals : ArePlannedGlobals input g c.in_ok-globals.globals =
    rw (c.requires.book.input, c.requires.book.placing) at c.in_ok-globals.ensures.ok in
    let slots : c.push_wrapper_slots.new.slots ≡ function_slots input =
    c.in_ok-push_wrapper_slots.ensures
    ∙ (ap (λ (ns : List ℕ). ns ++ map (λ (w : WrapperEntry). WASM_DEAD_INDEX) ws) c.in_ok-slots.ensures
    ∙ ap (λ (ns : List ℕ). space_slots input ++ ns) (dead_are input ws c.requires.things.wrappers)) in
    let fixups : AreFixups input g c.in_ok-fixups.fixups =
    rw (c.requires.book.input, c.requires.book.placing) at c.in_ok-fixups.ensures.ok in
    record {
      globals = globals;
      elements = c.in_ok-elements.ensures;
      slots = slots;
      fixups = fixups;
    }

pub all_fixups-requires-clause-positions : goal.all_fixups-requires-clause-positions
all_fixups-requires-clause-positions c =
    let input = c.args.things.now.input.now in
    let book = c.args.book.now in
    let positions = c.args.positions.now in
    let placed : AreMovedFields input book.placing.now positions =
    subst (λ (p : Placing). AreMovedFields input p positions) (sym c.requires.book.placing) c.requires.positions in
    subst (λ (i : Input). AreMovedFields i book.placing.now positions) (sym c.requires.book.input) placed
