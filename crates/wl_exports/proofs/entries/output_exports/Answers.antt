use Rattle.std.proofs.Common.{◌∙◌}
use Rattle.wl_exports.proofs.NameLaws.{all_exports}
use Rattle.wl_exports.proofs.entries.output_exports.Goals as goal

pub returns : goal.returns
returns c =
    let input = c.args.sources.now.input.now in
    all_exports input c.new-exports.result.items c.push_first.new.exports.items c.new-later.result.items
    c.push_later.new.exports.items c.as_slice.result.now c.new.result
    c.new-exports.ensures.items c.in_ok-push_first.ensures c.new-later.ensures.items c.in_ok-push_later.ensures
    c.as_slice.ensures.value (c.new.ensures ∙ c.in_ok-push_untaken.ensures)
