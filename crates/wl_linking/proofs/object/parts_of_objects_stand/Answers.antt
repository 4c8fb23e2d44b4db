use Rattle.wl_linking.proofs.StretchLaws.{parts_stand_in}
use Rattle.wl_linking.proofs.object.parts_of_objects_stand.Goals as goal

pub returns : goal.returns
returns c = parts_stand_in
