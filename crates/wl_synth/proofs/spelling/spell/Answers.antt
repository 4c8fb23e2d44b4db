use Rattle.std.proofs.Common.{◌≡◌, [], ◌∷◌, drop, ◌+◌, arith, get_or, add-one, drop-cons, Result, Ok, Err, IsErr, IsErrAnd, MatchResult, subst, sym}
use Rattle.wl_synth.specs.declared.error.SynthError.{SynthError}
use Rattle.std.proofs.lemmas.Grind.{common_steps}
use Rattle.wl_synth.specs.declared.operator.Operator.TheVariants.{Block}
use Rattle.wl_synth.specs.Spelling.{as_ops}
use Rattle.wl_synth.proofs.OpLaws.{ReadAgain}
use Rattle.wl_synth.proofs.SpellLaws.{op_more, range_more, fault_of_all, made_whole}
use Rattle.wl_synth.proofs.spelling.spell.Goals as goal

handed_on : {V : Type 0} (P : V → Type 0) (Q : SynthError → Type 0) (r : Result V SynthError) (e : SynthError) → Q e → IsErr r × IsErrAnd r (λ d. d ≡ e) → MatchResult r P Q
handed_on P Q (Ok v) e q is = absurd is.1
handed_on P Q (Err d) e q is = subst Q (sym is.1) q

pub loop-operator-preserved : goal.loop-operator-preserved
loop-operator-preserved c =
    let os = c.args.operators.now in
    let i = c.loop-operator.operator-index in
    let o = get_or os i Block in
    let front : drop i os ≡ o ∷ drop (i + 1) os = rw (add-one) (drop-cons os i Block c.loop-operator-test.true) in
    record {
      made = op_more (as_ops os) os i o c.loop-operator.out.items c.push_operator.new.out.items front c.loop-operator.invariant.made c.in_ok-push_operator.ensures.added;
      in_range = range_more (as_ops os) os i o front c.in_ok-push_operator.ensures.in_range c.loop-operator.invariant.in_range;
    }

pub returns-in_err-push_operator : goal.returns-in_err-push_operator
returns-in_err-push_operator c =
    let os = c.args.operators.now in
    let i = c.loop-operator.operator-index in
    let o = get_or os i Block in
    let front : drop i os ≡ o ∷ drop (i + 1) os = rw (add-one) (drop-cons os i Block c.loop-operator-test.true) in
    let told = fault_of_all os i o c.in_err-push_operator.field-0.0 front c.in_err-push_operator.ensures in
    handed_on _ _ c.from_residual-in_err-push_operator.result c.in_err-push_operator.field-0.0 told c.from_residual-in_err-push_operator.ensures

pub returns : goal.returns
returns c =
    let none : drop c.loop-operator.operator-index c.args.operators.now ≡ [] = grind (arith, common_steps) in
    let again : ReadAgain = record {
      unsigned = c.written_unsigned_is_read.ensures;
      s32 = c.written_signed_is_read.ensures.s32;
      s33 = c.written_signed_is_read.ensures.s33;
      s64 = c.written_signed_is_read.ensures.s64;
    } in
    made_whole again c.args.operators.now c.loop-operator.operator-index c.loop-operator.out.items none c.loop-operator.invariant.made c.loop-operator.invariant.in_range
