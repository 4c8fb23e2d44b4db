use Rattle.std.proofs.Common.{◌≡◌, ◌∙◌, ℕ, List, subst}
use Rattle.wl_symbols.specs.Link.{link_of}
use Rattle.wl_words.specs.declared.args.WasmArgs.{WasmArgs}
use Rattle.wl_words.specs.declared.modes.Mode.{Mode}
use Rattle.wl_words.specs.declared.modes.Mode.TheVariants.{Listing}
use Rattle.wl_plan.specs.PlanLines.{listing_text}
use Rattle.wildplan.specs.Modes.{IsTextOf, IsPlanText}
use Rattle.wildplan.specs.Promises.{input_told}
use Rattle.wildplan.specs.Replacing.{PlanInputs}
use Rattle.wildplan.proofs.promises.texts_keep_their_promises.Goals as goal

pub returns-clause-grammar : goal.returns-clause-grammar
returns-clause-grammar c = λ words inputs args text is. is.sound

pub returns-clause-bound : goal.returns-clause-bound
returns-clause-bound c = λ words inputs args text is. (
  c.plans_keep_their_promises.ensures.bound (link_of is.is_plan.files args) is.plan is.is_plan.planned,
  c.plans_keep_their_promises.ensures.fitting (link_of is.is_plan.files args) is.plan is.is_plan.planned,
)

pub returns-clause-listing : goal.returns-clause-listing
returns-clause-listing c = λ words inputs args text is plain.
    subst (λ (m : Mode). IsTextOf words inputs.compared m (link_of is.is_plan.files args) is.plan text) plain is.is_text

pub returns-clause-kept : goal.returns-clause-kept
returns-clause-kept c = λ words inputs args text is.
    c.plans_keep_their_promises.ensures.kept (link_of is.is_plan.files args) is.plan is.is_plan.planned

pub returns-clause-spaces : goal.returns-clause-spaces
returns-clause-spaces c = λ words inputs args text is.
    c.plans_keep_their_promises.ensures.spaces (input_told words inputs args text is) is.plan is.is_plan.planned.is_plan

pub returns-clause-placed : goal.returns-clause-placed
returns-clause-placed c = λ words inputs args text is.
    c.plans_keep_their_promises.ensures.placed (input_told words inputs args text is) is.plan is.is_plan.planned.is_plan

pub returns-clause-values : goal.returns-clause-values
returns-clause-values c = λ words inputs args text is.
    c.plans_keep_their_promises.ensures.values (link_of is.is_plan.files args) is.plan is.is_plan.planned
