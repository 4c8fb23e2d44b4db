use Rattle.wl_symbols.specs.Link.{link_of}
use Rattle.wildplan.proofs.modes.mode_text.Goals as goal

pub check_text-requires : goal.check_text-requires
check_text-requires c =
    c.plans_have_listings.ensures.whole (link_of c.args.files.now c.args.args.now) c.args.plan.now (rw c.as_slice-objects.ensures.objects at c.as_slice-objects.ensures.whole) c.requires

pub run_text-requires : goal.run_text-requires
run_text-requires c = c.plans_can_be_loaded.ensures (link_of c.args.files.now c.args.args.now) c.args.plan.now c.requires
