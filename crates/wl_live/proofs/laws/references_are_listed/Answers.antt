use Rattle.wl_symbols.specs.Units.{units_of}
use Rattle.wl_live.proofs.FactLaws.{references-one}
use Rattle.wl_live.proofs.ReferenceLaws.{in_references, references_in}
use Rattle.wl_live.proofs.laws.references_are_listed.Goals as goal

pub returns : goal.returns
returns c =
    let only = c.numbers_are_one.ensures.one in
    record {
      how = λ link facts u v all. (λ m. in_references link facts u v all m, λ h. references_in only link facts u v all h);
      refers = λ link facts u v all from to.
          (λ m. record { from = from; to = to; how = in_references link facts u v all m }, λ r. references_in only link facts u v all r.how);
      one = λ link facts others a b. references-one only link (units_of link.objects) 0 link.objects facts others a b;
    }
