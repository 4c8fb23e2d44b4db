use Rattle.std.proofs.Common.{arith, take}
use Rattle.std.specs.Prelude.{filter}
use Rattle.wl_data.specs.DataPlaces.{is_thread_local, in_one_row}
use Rattle.wl_data.proofs.QuestionLaws.{greatest_more_row, some_greatest}
use Rattle.wl_data.proofs.placing.tls_alignment.Goals as goal

pub loop-object-preserved : goal.loop-object-preserved
loop-object-preserved c =
    let more = greatest_more_row c.args.objects.now c.loop-object.object-index c.object-item.result c.loop-object-test.true c.object-item.is in
    cc

pub returns-clause-some : goal.returns-clause-some
returns-clause-some c = omega (arith, some_greatest (filter is_thread_local (in_one_row (take c.loop-object.object-index c.args.objects.now))))
