use Rattle.wl_plan.proofs.LinkLaws.{link_err, link_ok}
use Rattle.wl_plan.proofs.link.plan_link.Goals as goal

pub returns-clause-ok : goal.returns-clause-ok
returns-clause-ok c =
    link_ok c.args.objects.now c.args.args.now c.in_ok-files.files c.plan_files.result
    c.in_ok-files.ensures.ok c.plan_files.ensures.ok

pub returns-clause-err : goal.returns-clause-err
returns-clause-err c =
    link_err c.args.objects.now c.args.args.now c.in_ok-files.files c.plan_files.result
    c.in_ok-files.ensures.ok c.plan_files.ensures.err
