use Rattle.wildplan.proofs.Generating.{one_more}
use Rattle.wildplan.proofs.generate.generate.Goals as goal

pub loop-number-preserved : goal.loop-number-preserved
loop-number-preserved c =
    one_more c.args.n c.loop-number.number c.push_object.new.objects c.loop-number.objects
    c.in_ok-generated_object.field-0.items c.loop-number.invariant
    c.in_ok-generated_object.ensures.object c.in_ok-push_object.ensures
