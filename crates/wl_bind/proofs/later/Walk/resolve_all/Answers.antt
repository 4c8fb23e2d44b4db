use Rattle.std.proofs.Common.{◌∙◌, sym, ap, arith}
use Rattle.wl_module.specs.Imports.{Imported}
use Rattle.wl_custom.specs.declared.symbols.WasmSymbolKind.TheVariants.{Global as GlobalKind}
use Rattle.wl_symbols.specs.ImportSlots.{is_slot_of}
use Rattle.wl_bind.specs.Later.{walk_of, walked_at, walked}
use Rattle.wl_bind.proofs.WalkLaws.{walk_slot, walk_other, walk_end}
use Rattle.wl_bind.proofs.later.Walk.resolve_all.Goals.{then-is_slot_of, else-is_slot_of}
use Rattle.wl_bind.proofs.later.Walk.resolve_all.Goals as goal

pub loop-import-preserved : goal.loop-import-preserved
loop-import-preserved c =
    let s = c.args.self.now in
    let walk = walk_of s.input.now s.scan.now s.object in
    let entity = ap (λ (i : Imported). is_slot_of GlobalKind i.entity) (sym c.import.view_is) ∙ sym c.is_slot_of.ensures in
    elim c.if-is_slot_of.branch [
      | then-is_slot_of w ↦ record {
        few = omega (arith, w.number-is, c.loop-import.invariant.few);
        rest = walk_slot (walked_at walk) GlobalKind c.imports-import-items.result.now
            c.loop-import.import-index c.loop-import.number c.if-is_slot_of.number
            c.import-item.result c.loop-import.resolutions c.if-is_slot_of.resolutions
            (walked walk c.args.file.now c.args.resolutions.now) c.loop-import-test.true c.import-item.is
            (entity ∙ w.if-is_slot_of.true) w.number-is (w.resolutions-is ∙ w.resolve_at.ensures)
            c.loop-import.invariant.rest;
      }
      | else-is_slot_of w ↦ record {
        few = omega (arith, w.number-is, c.loop-import.invariant.few);
        rest = walk_other (walked_at walk) GlobalKind c.imports-import-items.result.now
            c.loop-import.import-index c.loop-import.number c.if-is_slot_of.number
            c.import-item.result c.loop-import.resolutions c.if-is_slot_of.resolutions
            (walked walk c.args.file.now c.args.resolutions.now) c.loop-import-test.true c.import-item.is
            (entity ∙ w.if-is_slot_of.false) w.number-is w.resolutions-is
            c.loop-import.invariant.rest;
      }
    ]

pub returns : goal.returns
returns c =
    let s = c.args.self.now in
    let walk = walk_of s.input.now s.scan.now s.object in
    walk_end (walked_at walk) GlobalKind c.imports-import-items.result.now
    c.loop-import.import-index c.loop-import.number c.loop-import.resolutions
    (walked walk c.args.file.now c.args.resolutions.now) c.loop-import-test.false c.loop-import.invariant.rest
