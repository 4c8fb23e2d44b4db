use Rattle.wl_plan.proofs.objects.ObjectList.none_is_longer.Goals as goal

pub returns : goal.returns
returns c = rw (← c.self.view_is) c.self.invariant
