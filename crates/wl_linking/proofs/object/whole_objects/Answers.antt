use Rattle.wl_linking.proofs.WholeLaws.{whole_fits, whole_types, as_many_code_sites, code_units, as_many_data_sites, data_units}
use Rattle.wl_linking.proofs.FewLaws.{whole_few, few_imports}
use Rattle.wl_linking.proofs.object.whole_objects.Goals as goal

pub returns : goal.returns
returns c = record {
  fitting = whole_fits;
  few = whole_few;
  imports = few_imports;
  types = whole_types;
  code_sites = as_many_code_sites;
  code_units = code_units;
  data_sites = as_many_data_sites;
  data_units = data_units;
}
