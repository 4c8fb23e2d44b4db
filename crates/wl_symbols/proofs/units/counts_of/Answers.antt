use Rattle.wl_symbols.proofs.NumberingLaws.{counts_small}
use Rattle.wl_symbols.proofs.units.counts_of.Goals as goal

pub returns-clause-small : goal.returns-clause-small
returns-clause-small c =
    rw (c.num_defined_functions.ensures, c.num_defined_globals.ensures, c.num_data_segments.ensures, c.num_function_imports.ensures, c.num_global_imports.ensures)
    (counts_small c.args.file.now c.stands_for_an_object.ensures.few)
