use Rattle.wl_plan.proofs.LinkLaws.{taken_by}
use Rattle.wl_plan.proofs.module_layout.build_output_module_layout.Goals as goal

pub plan_kept-requires-clause-features : goal.plan_kept-requires-clause-features
plan_kept-requires-clause-features c =
    taken_by c.args.input.now.link c.files.result.now c.args-args.result.now
    c.in_ok-features.features c.files.ensures.objects c.args-args.ensures c.in_ok-features.ensures
