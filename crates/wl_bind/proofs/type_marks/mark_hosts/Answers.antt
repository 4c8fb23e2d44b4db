use Rattle.std.proofs.Common.{◌∙◌, sym, ap, arith, if◌then◌else◌, None}
use Rattle.wl_module.specs.Imports.{Imported}
use Rattle.wl_custom.specs.declared.symbols.WasmSymbolKind.TheVariants.{Func}
use Rattle.wl_symbols.specs.ImportSlots.{is_slot_of}
use Rattle.wl_bind.specs.FunctionTypes.{type_number}
use Rattle.wl_bind.specs.steps.Merging.{mark, mark_all, host_types}
use Rattle.wl_bind.specs.steps.Shared.{is_host_at}
use Rattle.wl_bind.proofs.HostMarkLaws.{all_left, host_marked, other_passed, types_done}
use Rattle.wl_bind.proofs.type_marks.mark_hosts.Goals.{then-is_slot_of, else-is_slot_of}
use Rattle.wl_bind.proofs.type_marks.mark_hosts.Goals as goal

pub loop-import-init : goal.loop-import-init
loop-import-init c = record {
  few = omega arith;
  rest = ap (mark_all c.args.marks.now.items) (all_left c.args.input.now c.args.object c.args.file.now _ c.requires.object c.imports-import-items.ensures);
}

pub loop-import-preserved : goal.loop-import-preserved
loop-import-preserved c =
    let input = c.args.input.now in
    let object = c.args.object in
    let symbols = c.args.file.now.symbols in
    let items = c.imports-import-items.result.now in
    let all = mark_all c.args.marks.now.items (host_types input object) in
    let entity = ap (λ (i : Imported). is_slot_of Func i.entity) (sym c.import.view_is) ∙ sym c.is_slot_of.ensures in
    elim c.if-is_slot_of.branch [
      | then-is_slot_of w ↦ record {
        few = omega (arith, w.number-is, c.loop-import.invariant.few);
        rest = host_marked input object symbols items c.loop-import.import-index c.loop-import.number c.if-is_slot_of.number c.import-item.result
            c.loop-import.marks.items c.if-is_slot_of.marks.items all c.loop-import-test.true c.import-item.is (entity ∙ w.if-is_slot_of.true) w.number-is
            (ap (λ m. m.items) w.marks-is ∙ (w.mark_host.ensures
            ∙ ap (λ (i : Imported). mark c.loop-import.marks.items (if is_host_at input Func object c.loop-import.number then type_number i.entity else None)) c.import.view_is))
            c.loop-import.invariant.rest;
      }
      | else-is_slot_of w ↦ record {
        few = omega (arith, w.number-is, c.loop-import.invariant.few);
        rest = other_passed input object symbols items c.loop-import.import-index c.loop-import.number c.if-is_slot_of.number c.import-item.result
            c.loop-import.marks.items c.if-is_slot_of.marks.items all c.loop-import-test.true c.import-item.is (entity ∙ w.if-is_slot_of.false) w.number-is
            (ap (λ m. m.items) w.marks-is) c.loop-import.invariant.rest;
      }
    ]

pub returns : goal.returns
returns c =
    types_done c.args.input.now c.args.object c.args.file.now.symbols c.imports-import-items.result.now
    c.loop-import.import-index c.loop-import.number c.loop-import.marks.items _ c.loop-import-test.false c.loop-import.invariant.rest
