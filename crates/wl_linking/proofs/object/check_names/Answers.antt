use Rattle.std.proofs.Common.{ap}
use Rattle.wl_linking.specs.Object.{Object}
use Rattle.wl_linking.proofs.ImportNameLaws.{named_by_range}
use Rattle.wl_linking.proofs.object.check_names.Goals as goal

pub check_slots-requires : goal.check_slots-requires
check_slots-requires c =
    rw (c.as_slice.ensures, ap (λ (o : Object). o.symbols) c.contents.view_is) (named_by_range c.args.contents.now.bytes c.args.contents.now.symbols c.requires)
