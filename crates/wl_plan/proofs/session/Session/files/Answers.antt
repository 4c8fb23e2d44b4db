use Rattle.wl_plan.proofs.SessionLaws.{held_objects}
use Rattle.wl_plan.proofs.session.Session.files.Goals as goal

pub returns : goal.returns
returns c =
    held_objects c.args.self.now c.self.inside.kept c.files-files.result.now c.self.inside.args.now
    c.self.view_is c.files-files.ensures c.objects_are_whole.ensures
