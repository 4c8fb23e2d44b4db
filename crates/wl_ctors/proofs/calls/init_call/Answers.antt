use Rattle.std.proofs.Common.{◌<◌, ◌^◌, arith, refl}
use Rattle.wl_ctors.specs.CallSteps.{result_count}
use Rattle.wl_ctors.proofs.CallLaws.{Laws, results_fit, call_is}
use Rattle.wl_ctors.proofs.calls.init_call.Goals as goal

pub overflow_cast-result : goal.overflow_cast-result
overflow_cast-result c =
    let laws : Laws = record {
      symbols = c.init_functions_have_symbols.ensures;
      types = c.whole_objects.ensures.types;
      short = λ o number ty whole at.
          let few = (c.types_are_short.ensures o number ty whole at).1 in
          omega (arith, few);
      numbers = c.definitions_have_numbers.ensures;
      roots = c.live_units_are_closed.ensures.root;
    } in
    let fits : result_count c.args.file.now c.args.function.symbol_index < 2 ^ 32 =
    results_fit laws c.args.input.now c.args.object c.args.file.now c.args.function
    c.requires.settled c.requires.here c.requires.one in
    let counted = c.result_count.ensures in
    omega (arith, fits, counted)

pub returns : goal.returns
returns c =
    let laws : Laws = record {
      symbols = c.init_functions_have_symbols.ensures;
      types = c.whole_objects.ensures.types;
      short = λ o number ty whole at.
          let few = (c.types_are_short.ensures o number ty whole at).1 in
          omega (arith, few);
      numbers = c.definitions_have_numbers.ensures;
      roots = c.live_units_are_closed.ensures.root;
    } in
    call_is laws c.args.input.now c.args.object c.args.file.now
    c.args.map.now.function_symbol_redirects c.args.function _ c.requires.settled
    c.requires.signatures c.requires.here c.requires.map.redirects c.requires.one refl
    c.target_index.ensures c.result_count.ensures
