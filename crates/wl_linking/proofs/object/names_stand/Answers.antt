use Rattle.wl_linking.proofs.ImportNameLaws.{object_names_stand}
use Rattle.wl_linking.proofs.object.names_stand.Goals as goal

pub returns : goal.returns
returns c = object_names_stand
