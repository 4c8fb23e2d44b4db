use Rattle.std.proofs.Common.{◌∙◌, ap, List}
use Rattle.wl_linking.specs.Object.{Object}
use Rattle.wl_bind.specs.Scan.{Scanned}
use Rattle.wl_bind.specs.Stepped.{stepped}
use Rattle.wl_bind.specs.Later.{globals_walked}
use Rattle.wl_bind.proofs.GlobalLaws.{absorbed}
use Rattle.wl_bind.proofs.SteppedLaws.{turn, last_turn}
use Rattle.wl_bind.proofs.absorbing.absorb_got_imports.Goals as goal

pub loop-object-preserved : goal.loop-object-preserved
loop-object-preserved c =
    let step = globals_walked c.args.input.now c.args.scan.now in
    let files = c.as_slice-files.result.now in
    turn step files c.loop-object.object c.index-files-object.result c.loop-object.rows c.absorb_globals_at.new.rows
    (stepped step 0 files c.args.rows.now) c.loop-object-test.true c.index-files-object.is c.absorb_globals_at.ensures
    c.loop-object.invariant

pub returns : goal.returns
returns c =
    let input = c.args.input.now in
    let step = globals_walked input c.args.scan.now in
    let files = c.as_slice-files.result.now in
    absorbed input c.args.rows.now c.loop-object.rows c.requires.rows
    (last_turn step files c.loop-object.object c.loop-object.rows (stepped step 0 files c.args.rows.now)
    c.loop-object-test.false c.loop-object.invariant
    ∙ (ap (λ (os : List Object). stepped step 0 os c.args.rows.now) (c.as_slice-files.ensures.objects ∙ c.files.ensures.objects)
    ∙ ap (λ (s : Scanned). stepped (globals_walked input s) 0 input.link.objects c.args.rows.now) c.requires.scan))
