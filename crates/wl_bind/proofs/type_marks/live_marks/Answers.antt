use Rattle.std.proofs.Common.{◌≡◌, ◌∙◌, ap, length, false, replicate, List}
use Rattle.wl_module.specs.Types.{FunctionType}
use Rattle.wl_bind.proofs.MergeLaws.{all_marked}
use Rattle.wl_bind.proofs.type_marks.live_marks.Goals as goal

pub returns : goal.returns
returns c =
    let functions = rw c.functions.ensures at c.mark_functions.ensures in
    let none : c.in_ok-marks.marks.items ≡ replicate (length c.args.file.now.types) false =
    c.in_ok-marks.ensures.items_if_clones_equal (λ y same. same)
    ∙ ap (λ (types : List FunctionType). replicate (length types) false) c.types.ensures in
    all_marked c.args.input.now c.args.object c.args.file.now c.in_ok-marks.marks.items
    c.mark_functions.new.marks.items
    c.mark_hosts.new.marks.items c.mark_relocations.new.marks.items c.requires.object none functions
    c.mark_hosts.ensures c.mark_relocations.ensures
