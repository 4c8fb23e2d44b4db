use Rattle.std.proofs.Common.{◌≡◌, ◌∙◌, ℕ, true, false, get_or, ap, refl, sym}
use Rattle.wl_symbols.specs.Live.{Live, is_live}
use Rattle.wl_symbols.specs.declared.units.WasmGcUnit.TheVariants.{DefinedFunction}
use Rattle.wl_symbols.specs.Input.{keeps}
use Rattle.wl_plan.specs.steps.Functions.{own_function_part}
use Rattle.wl_plan.proofs.FunctionLaws.{LeadsToType, no_own, none_is, own_found, own_leads, own_within}
use Rattle.wl_plan.proofs.functions.kept_function.Goals as goal

pub bounds-types-functions : goal.bounds-types-functions
bounds-types-functions c =
    let input = c.args.input.now in
    let i = c.args.object in
    let k = c.args.function in
    let keep : keeps input i (DefinedFunction k) ≡ true =
    ap (λ (l : Live). is_live l (record { object = i; unit = DefinedFunction k })) (sym c.live.ensures.live)
    ∙ sym c.if-not-is_live.ensures in
    let led : LeadsToType input i c.args.file.now c.args.types.now k =
    own_leads input i c.args.file.now c.args.types.now k (λ object o. c.types_have_indices.ensures.functions input object o)
    c.requires.settled c.requires.here c.requires.types c.requires.within keep in
    own_within input i c.args.file.now c.args.types.now c.functions.result.now k 0 c.functions.ensures led

pub returns-then-not-is_live : goal.returns-then-not-is_live
returns-then-not-is_live c =
    let input = c.args.input.now in
    let i = c.args.object in
    let k = c.args.function in
    let keep : keeps input i (DefinedFunction k) ≡ false =
    ap (λ (l : Live). is_live l (record { object = i; unit = DefinedFunction k })) (sym c.live.ensures.live)
    ∙ sym c.if-not-is_live.ensures in
    none_is input (own_function_part input i k) (no_own input i k keep)

pub returns : goal.returns
returns c =
    let input = c.args.input.now in
    let i = c.args.object in
    let k = c.args.function in
    let index : ℕ = get_or c.args.types.now (get_or c.functions.result.now k 0) 0 in
    let keep : keeps input i (DefinedFunction k) ≡ true =
    ap (λ (l : Live). is_live l (record { object = i; unit = DefinedFunction k })) (sym c.live.ensures.live)
    ∙ sym c.if-not-is_live.ensures in
    let led : LeadsToType input i c.args.file.now c.args.types.now k =
    own_leads input i c.args.file.now c.args.types.now k (λ object o. c.types_have_indices.ensures.functions input object o)
    c.requires.settled c.requires.here c.requires.types c.requires.within keep in
    own_found input i c.args.file.now c.args.types.now c.functions.result.now k 0 0 index c.functions.ensures refl led keep
