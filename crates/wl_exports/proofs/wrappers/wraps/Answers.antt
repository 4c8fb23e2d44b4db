use Rattle.std.proofs.Common.{◌≡◌, ◌∙◌, sym, true, false}
use Rattle.std.specs.List.{list_any}
use Rattle.wl_bind.specs.Made.{has_init_functions}
use Rattle.wl_exports.specs.Wrappers.{calls_ctors}
use Rattle.wl_exports.proofs.WrapLaws.{wraps_is}
use Rattle.wl_exports.proofs.wrappers.wraps.Goals as goal

pub returns : goal.returns
returns c =
    let input = c.args.input.now in
    let some : has_init_functions input ≡ true =
    sym c.has_init_functions.ensures ∙ c.if-not-has_init_functions.false in
    let own : list_any calls_ctors input.link.objects ≡ false =
    sym c.has_own_call.ensures ∙ c.if-has_own_call.false in
    wraps_is input c.args.exports.now c.exports_ctors.result some own c.requires c.exports_ctors.ensures
