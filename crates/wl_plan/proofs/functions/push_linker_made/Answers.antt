use Rattle.std.proofs.Common.{◌≡◌, ◌++◌}
use Rattle.std.specs.Option.{option_to_list}
use Rattle.wl_symbols.specs.declared.linker_symbol.WasmLinkerSymbol.TheVariants.{CallCtors, InitTls}
use Rattle.wl_bind.specs.FunctionSpace.{init_memory_part, made_function_part}
use Rattle.wl_plan.specs.steps.Functions.{AddsFunctions, linker_functions}
use Rattle.wl_plan.proofs.FunctionLaws.{adds_if_some, adds_more, ok_then}
use Rattle.wl_plan.proofs.functions.push_linker_made.Goals as goal

pub returns : goal.returns
returns c = λ input b.
    let old = c.args.functions.now.items in
    let one = c.push_if_some.new.functions.items in
    let two = c.push_if_some-2.new.functions.items in
    let new = c.push_if_some-3.new.functions.items in
    let ctors = made_function_part input CallCtors in
    let tls = made_function_part input InitTls in
    let memory = init_memory_part input in
    ok_then c.push_if_some-3.result (new ≡ two ++ option_to_list c.init_memory_function.result)
    (AddsFunctions input (linker_functions input) old new)
    (λ last. adds_more input (ctors ++ tls) memory old two new
    (adds_more input ctors tls old one two
    (adds_if_some input ctors c.made_function-constructors.result old one (c.made_function-constructors.ensures input b)
    c.in_ok-push_if_some.ensures)
    (adds_if_some input tls c.made_function-thread_start.result one two (c.made_function-thread_start.ensures input b)
    c.in_ok-push_if_some-2.ensures))
    (adds_if_some input memory c.init_memory_function.result two new (c.init_memory_function.ensures input b)
    last))
    c.push_if_some-3.ensures
