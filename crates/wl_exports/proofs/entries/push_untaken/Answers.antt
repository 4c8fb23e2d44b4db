use Rattle.std.proofs.Common.{◌≡◌, ◌∙◌, ◌++◌, not, List, ℕ, take, ap, sym}
use Rattle.wl_module.specs.Exports.{Exported}
use Rattle.wl_exports.specs.steps.Names.{has_export}
use Rattle.wl_exports.proofs.NameLaws.{holds_next, untaken_next}
use Rattle.wl_exports.proofs.entries.push_untaken.Goals as goal

pub loop-export-preserved : goal.loop-export-preserved
loop-export-preserved c =
    let before = c.args.exports.now.items in
    let i = c.loop-export.export-index in
    let x = c.export-item.result in
    let view = ap (λ (y : Exported). y.name) c.export.view_is in
    let is : x.name ≡ c.export.inside.name.now = cc in
    let free : c.in_ok-is_free.is_free
    ≡ not (has_export x.name (before ++ take i c.args.later.now)) =
    c.in_ok-is_free.ensures.free
    ∙ ap not (c.loop-export.invariant.names c.export.inside.name.now
    ∙ ap (λ (n : List ℕ). has_export n (before ++ take i c.args.later.now)) (sym is)) in
    record {
      names = holds_next c.loop-export.taken c.take_name.new.taken before c.args.later.now i x
          c.export.inside.name.now c.loop-export-test.true c.export-item.is is
          c.in_ok-is_free.ensures.names c.loop-export.invariant.names;
      grown = untaken_next before c.args.later.now i x c.loop-export.exports.items c.push_if.new.exports.items
          c.in_ok-is_free.is_free c.loop-export-test.true c.export-item.is free c.in_ok-push_if.ensures
          c.loop-export.invariant.grown;
    }
