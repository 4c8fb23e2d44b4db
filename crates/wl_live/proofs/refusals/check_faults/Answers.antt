use Rattle.std.proofs.Common.{◌≡◌, ◌<◌, ◌≤◌, ◌∙◌, ap, sym, arith, length, Some, slice_get}
use Rattle.std.specs.List.{AllByRecursion}
use Rattle.std.proofs.lemmas.Option.{slice_get-get_or}
use Rattle.wl_linking.specs.Fitting.{IsWhole}
use Rattle.wl_live.specs.Facts.{Facts, AreFacts}
use Rattle.wl_lists.proofs.Beside.{zip_length}
use Rattle.wl_live.proofs.RefusalLaws.{ClearTo-more, Clear-from, Refuses-from}
use Rattle.wl_live.proofs.refusals.check_faults.Goals as goal

pub bounds-facts-object : goal.bounds-facts-object
bounds-facts-object c =
    let lt : c.loop-object.object < length c.args.symbols.now.objects = rw (c.as_slice-files.ensures.objects, c.files.ensures) at c.loop-object-test.true in
    omega (arith, zip_length AreFacts c.args.symbols.now.objects c.args.facts.now c.requires.facts)

pub returns-in-Some-clause-err : goal.returns-in-Some-clause-err
returns-in-Some-clause-err c =
    let facts = c.args.facts.now in
    let k = c.loop-object.object in
    let said = c.index-facts-object.result in
    let lt : k < length c.args.symbols.now.objects = rw (c.as_slice-files.ensures.objects, c.files.ensures) at c.loop-object-test.true in
    let within : k < length facts = omega (arith, zip_length AreFacts c.args.symbols.now.objects facts c.requires.facts) in
    let at : slice_get facts k ≡ Some said = slice_get-get_or facts k said within ∙ ap (λ (x : Facts). Some x) (sym c.index-facts-object.is) in
    rw c.object_refusal.ensures (Refuses-from c.args.symbols.now c.args.live.now facts k said c.in-Some.error c.requires.live c.requires.facts at (rw c.faults.ensures at c.in-Some.ensures))

pub loop-object-preserved : goal.loop-object-preserved
loop-object-preserved c =
    let facts = c.args.facts.now in
    let k = c.loop-object.object in
    let said = c.index-facts-object.result in
    let lt : k < length c.args.symbols.now.objects = rw (c.as_slice-files.ensures.objects, c.files.ensures) at c.loop-object-test.true in
    let within : k < length facts = omega (arith, zip_length AreFacts c.args.symbols.now.objects facts c.requires.facts) in
    let at : slice_get facts k ≡ Some said = slice_get-get_or facts k said within ∙ ap (λ (x : Facts). Some x) (sym c.index-facts-object.is) in
    ClearTo-more c.args.live.now facts k said c.loop-object.invariant at (rw c.faults.ensures at c.in_default.ensures)

pub returns-clause-clear : goal.returns-clause-clear
returns-clause-clear c =
    let whole : AllByRecursion IsWhole c.args.symbols.now.objects = rw (c.as_slice-files.ensures.objects, c.files.ensures) at c.as_slice-files.ensures.whole in
    let le : length c.args.symbols.now.objects ≤ c.loop-object.object = rw (c.as_slice-files.ensures.objects, c.files.ensures) at c.loop-object-test.false in
    Clear-from c.args.symbols.now c.args.live.now c.args.facts.now c.loop-object.object whole c.requires.live c.requires.facts c.loop-object.invariant le
