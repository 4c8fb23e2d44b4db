use Rattle.std.proofs.Common.{◌≡◌, ◌∙◌, ◌≤◌, ℕ, List, length, get_or, ap, sym, subst}
use Rattle.std.specs.List.{AllZip}
use Rattle.wl_bind.specs.Scan.{Scanned, table_functions}
use Rattle.wl_bind.specs.declared.binding.FunctionTarget.{FunctionTarget}
use Rattle.wl_bind.specs.declared.binding.FunctionTarget.TheVariants.{Defined}
use Rattle.wl_plan.specs.Table.{IsElement}
use Rattle.wl_plan.proofs.TableLaws.{element_more, elements_done, target_at, target_listed}
use Rattle.wl_plan.proofs.table.element_functions.Goals as goal

pub function_index-requires-clause-here : goal.function_index-requires-clause-here
function_index-requires-clause-here c =
    let input = c.args.input.now in
    let b = c.requires.bindings in
    let items = c.listed-target-items.result.now in
    let k = c.loop-target.target-index in
    let all : c.listed-target-items.result.now ≡ table_functions input =
    c.listed-target-items.ensures ∙ ap (λ (s : Scanned). s.table_functions) b.scan in
    c.table_functions_are_kept.ensures input (get_or items k (Defined 0 0)) b.settled
    (target_listed input k (Defined 0 0) items all c.loop-target-test.true)

pub loop-target-preserved : goal.loop-target-preserved
loop-target-preserved c =
    let input = c.args.input.now in
    let items = c.listed-target-items.result.now in
    let k = c.loop-target.target-index in
    let all : c.listed-target-items.result.now ≡ table_functions input =
    c.listed-target-items.ensures ∙ ap (λ (s : Scanned). s.table_functions) c.requires.bindings.scan in
    element_more input k (get_or items k (Defined 0 0)) c.function_index.result c.loop-target.elements.items
    c.push.new.self.items (target_at input k (Defined 0 0) items all c.loop-target-test.true)
    c.function_index.ensures c.in_ok-push.ensures.items c.loop-target.invariant

pub returns : goal.returns
returns c =
    let input = c.args.input.now in
    let k = c.loop-target.target-index in
    let all : c.listed-target-items.result.now ≡ table_functions input =
    c.listed-target-items.ensures ∙ ap (λ (s : Scanned). s.table_functions) c.requires.bindings.scan in
    subst (λ (es : List ℕ). AllZip (IsElement input) (table_functions input) es) (sym c.new.ensures)
    (elements_done input k c.loop-target.elements.items
    (subst (λ (ts : List FunctionTarget). length ts ≤ k) all c.loop-target-test.false) c.loop-target.invariant)
