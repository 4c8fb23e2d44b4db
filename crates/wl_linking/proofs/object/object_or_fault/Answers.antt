use Rattle.wl_linking.proofs.ObjectLaws.{object_one, object_either, frame_first, section_first}
use Rattle.wl_linking.proofs.AlternativeLaws.{object_some}
use Rattle.wl_linking.proofs.object.object_or_fault.Goals as goal

pub returns : goal.returns
returns c = record { some = object_some; one = object_one; either = object_either; frame_first = frame_first; section_first = section_first }
