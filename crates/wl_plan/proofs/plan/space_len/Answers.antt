use Rattle.std.proofs.Common.{◌≡◌, ◌∙◌, ap, arith, length}
use Rattle.wl_bind.specs.Shared.{Shared, function_imports}
use Rattle.wl_plan.proofs.PlanLaws.{functions_wrapped}
use Rattle.wl_plan.proofs.plan.space_len.Goals as goal

pub overflow_sub-result : goal.overflow_sub-result
overflow_sub-result c =
    let input = c.args.things.now.input.now in
    let hosts : c.functions-hosts.result.now ≡ function_imports input =
    c.functions-hosts.ensures ∙ ap (λ (s : Shared). s.functions) c.requires.bindings.shared in
    let all = functions_wrapped input c.args.things.now.functions.now c.args.things.now.wrappers.now
    c.requires.functions c.requires.wrappers in
    omega (arith, all, ap length hosts)

pub returns : goal.returns
returns c =
    let input = c.args.things.now.input.now in
    let hosts : c.functions-hosts.result.now ≡ function_imports input =
    c.functions-hosts.ensures ∙ ap (λ (s : Shared). s.functions) c.requires.bindings.shared in
    let all = functions_wrapped input c.args.things.now.functions.now c.args.things.now.wrappers.now
    c.requires.functions c.requires.wrappers in
    omega (arith, all, ap length hosts)
