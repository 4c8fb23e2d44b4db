use Rattle.std.proofs.Common.{◌∙◌}
use Rattle.wl_features.specs.Disallowing.{first_in}
use Rattle.wl_features.proofs.NameLaws.{disallowed_more, other_more}
use Rattle.wl_features.proofs.DisallowingLaws.{with_both}
use Rattle.wl_features.proofs.disallowed.add_features.Goals as goal
use Rattle.wl_features.proofs.disallowed.add_features.Goals.{then-feature-eq-TARGET_FEATURE_PREFIX_DISALLOWED+in_ok-add_name, else-feature-eq-TARGET_FEATURE_PREFIX_DISALLOWED}

pub loop-feature-preserved : goal.loop-feature-preserved
loop-feature-preserved c = λ q.
    let inside = c.feature.inside in
    let features = c.args.features.now in
    let k = c.loop-feature.feature-index in
    elim c.if-feature-eq-TARGET_FEATURE_PREFIX_DISALLOWED.branch [
      | then-feature-eq-TARGET_FEATURE_PREFIX_DISALLOWED+in_ok-add_name w ↦
          rw (
            w.firsts-is,
            disallowed_more features k c.feature-item.result c.loop-feature-test.true
                c.feature-item.is inside.prefix inside.name.now c.feature.view_is q
                w.if-feature-eq-TARGET_FEATURE_PREFIX_DISALLOWED.true,
          )
          (w.in_ok-add_name.ensures q ∙ rw (c.loop-feature.invariant q)
          (with_both (first_in c.args.firsts.now q) _ _ c.args.object))
      | else-feature-eq-TARGET_FEATURE_PREFIX_DISALLOWED w ↦
          rw (
            w.firsts-is,
            other_more features k c.feature-item.result c.loop-feature-test.true
                c.feature-item.is inside.prefix inside.name.now c.feature.view_is q
                w.if-feature-eq-TARGET_FEATURE_PREFIX_DISALLOWED.false,
          )
          (c.loop-feature.invariant q)
    ]
