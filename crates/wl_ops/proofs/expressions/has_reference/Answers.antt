use Rattle.std.proofs.Common.{rules, subst, sym}
use Rattle.std.proofs.lemmas.Bool.{false≢true}
use Rattle.wl_ops.specs.Expressions.{HasReference}
use Rattle.wl_ops.proofs.ReferenceLaws.{reference_at, reference_behind, reference_on, reference_fails, next_shortens}
use Rattle.wl_ops.proofs.expressions.has_reference.Goals as goal

pub returns-in-Ok-true : goal.returns-in-Ok-true
returns-in-Ok-true c = (
  λ on. subst HasReference c.new-reader.ensures (c.loop-reader.invariant.0 (reference_at _ _ _ c.in-Ok-true.ensures (search rules))),
  λ h. search rules,
)

pub loop-reader-smaller : goal.loop-reader-smaller
loop-reader-smaller c = next_shortens _ _ _ c.in-Ok-false.ensures

pub loop-reader-preserved : goal.loop-reader-preserved
loop-reader-preserved c = (
  λ h. c.loop-reader.invariant.0 (reference_behind _ _ _ c.in-Ok-false.ensures h),
  λ h. reference_on _ _ _ c.in-Ok-false.ensures (search rules) (c.loop-reader.invariant.1 h),
)

pub returns-in-Err-Malformed : goal.returns-in-Err-Malformed
returns-in-Err-Malformed c = (
  λ on. absurd (false≢true on),
  λ h. absurd (reference_fails _ _ c.in-Err-Malformed.ensures (search rules) (c.loop-reader.invariant.1 (subst HasReference (sym c.new-reader.ensures) h))),
)

pub returns-in-Err-Unsupported : goal.returns-in-Err-Unsupported
returns-in-Err-Unsupported c = (
  λ on. absurd (false≢true on),
  λ h. absurd (reference_fails _ _ c.in-Err-Unsupported.ensures (search rules) (c.loop-reader.invariant.1 (subst HasReference (sym c.new-reader.ensures) h))),
)
