use Rattle.std.proofs.Common.{◌≡◌, ◌∙◌, ap, arith, length, sym}
use Rattle.wl_bind.specs.FunctionSpace.{function_space, host_function_part}
use Rattle.wl_symbols.specs.Input.{Input}
use Rattle.wl_bind.specs.Shared.{Shared, function_imports}
use Rattle.wl_plan.proofs.PlanLaws.{functions_all, hosts_length}
use Rattle.wl_plan.proofs.outline.seen_of.Goals as goal

pub output_interface-requires-clause-hosts : goal.output_interface-requires-clause-hosts
output_interface-requires-clause-hosts c =
    let input = c.args.input.now in
    let hosts : c.functions-hosts.result.now ≡ function_imports input =
    c.functions-hosts.ensures ∙ ap (λ (s : Shared). s.functions) c.requires.bindings.shared in
    ap length hosts ∙ hosts_length input
    ∙ ap (λ (i : Input). length (host_function_part i)) (sym c.requires.same)

pub output_interface-requires-clause-functions : goal.output_interface-requires-clause-functions
output_interface-requires-clause-functions c =
    let input = c.args.input.now in
    let hosts : c.functions-hosts.result.now ≡ function_imports input =
    c.functions-hosts.ensures ∙ ap (λ (s : Shared). s.functions) c.requires.bindings.shared in
    let all = functions_all input c.in_ok-own.own.items c.in_ok-own.ensures in
    let space = ap (λ (i : Input). length (function_space i)) c.requires.same in
    omega (arith, ap length hosts, all, space)

pub with_wrappers-requires-clause-hosts : goal.with_wrappers-requires-clause-hosts
with_wrappers-requires-clause-hosts c =
    let input = c.args.input.now in
    let hosts : c.functions-hosts.result.now ≡ function_imports input =
    c.functions-hosts.ensures ∙ ap (λ (s : Shared). s.functions) c.requires.bindings.shared in
    ap length hosts ∙ hosts_length input
