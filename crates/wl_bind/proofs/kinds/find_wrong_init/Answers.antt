use Rattle.std.proofs.Common.{◌∙◌, ◌+◌, Option, ap, sym, drop}
use Rattle.std.specs.Option.{option_or, option_map}
use Rattle.wl_custom.specs.declared.infos.WasmInitFunc.{WasmInitFunc}
use Rattle.wl_bind.specs.steps.Kinds.{is_wrong_at, init_place, wrong_init_from}
use Rattle.wl_bind.proofs.FindLaws.{find_next}
use Rattle.wl_bind.proofs.kinds.find_wrong_init.Goals as goal

pub loop-function-preserved : goal.loop-function-preserved
loop-function-preserved c =
    let input = c.args.input.now in
    let object = c.loop-object.object in
    let items = c.init_funcs-function-items.result.now in
    c.loop-function.invariant
    ∙ ap (λ (o : Option WasmInitFunc). option_or (option_map (init_place object) o)
    (wrong_init_from input (object + 1) (drop (object + 1) input.link.objects)))
    (find_next (is_wrong_at input object) items c.loop-function.function-index _ c.loop-function-test.true
    (sym c.is_wrong_init.ensures ∙ c.if-is_wrong_init.false))
