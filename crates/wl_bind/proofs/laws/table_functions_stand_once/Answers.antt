use Rattle.std.proofs.Common.{filter_map}
use Rattle.wl_bind.specs.Sameness.{same_definition, same_target, same_pair}
use Rattle.wl_symbols.specs.Relocations.{relocations}
use Rattle.wl_bind.specs.Scan.{got_mem_of, got_func_of, table_function_of}
use Rattle.wl_bind.proofs.SameLaws.{definition_one, definition_self, target_one, target_self, pair_one, pair_self, first_once}
use Rattle.wl_bind.proofs.laws.table_functions_stand_once.Goals as goal

pub returns : goal.returns
returns c = record {
  table = λ input. first_once same_target target_self target_one (filter_map (table_function_of input) (relocations input));
  mem = λ input. first_once same_definition definition_self definition_one (filter_map (got_mem_of input) (relocations input));
  func = λ input. first_once same_pair pair_self pair_one (filter_map (got_func_of input) (relocations input));
}
