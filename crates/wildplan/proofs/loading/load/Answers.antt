use Rattle.wildplan.proofs.LoadingLaws.{parts_fit}
use Rattle.wildplan.proofs.loading.load.Goals as goal

pub new-requires : goal.new-requires
new-requires c = parts_fit c.args.plan.now c.in_ok-image_parts.field-0 c.requires c.in_ok-image_parts.ensures.parts
