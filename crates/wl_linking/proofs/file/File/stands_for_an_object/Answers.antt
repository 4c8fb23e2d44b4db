use Rattle.std.proofs.Common.{subst}
use Rattle.wl_bytes.specs.declared.reader.TheConstants.{MAX_LEN}
use Rattle.wl_linking.specs.Fitting.{HasFewItems}
use Rattle.wl_linking.proofs.FewLaws.{whole_few}
use Rattle.wl_linking.proofs.file.File.stands_for_an_object.Goals as goal

pub returns-clause-few : goal.returns-clause-few
returns-clause-few c = subst (HasFewItems MAX_LEN) c.self.view_is (whole_few c.self.inside.contents c.self.invariant.whole)
