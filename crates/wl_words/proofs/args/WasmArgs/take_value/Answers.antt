use Rattle.std.proofs.Common.{refl}
use Rattle.std.proofs.lemmas.Result.{err_from_is_err_and}
use Rattle.wl_words.specs.Faults.{lacking, unsound, alone}
use Rattle.wl_words.specs.declared.options.OptionKind.TheVariants.{Value}
use Rattle.wl_words.proofs.ModeLaws.{keeps_no_other}
use Rattle.wl_words.proofs.args.WasmArgs.take_value.Goals as goal

pub returns-in-None-clause-err : goal.returns-in-None-clause-err
returns-in-None-clause-err c =
    record {
      cause_is = λ not. alone (keeps_no_other _ c.args.at _ (Value c.args.setting) _ c.requires.option c.requires.keeps) (lacking (rw c.in-None.is at c.value_at.ensures.none) refl);
    }

pub returns-in_err-take_setting-in-Some-clause-err :
    goal.returns-in_err-take_setting-in-Some-clause-err
returns-in_err-take_setting-in-Some-clause-err c =
    let p = err_from_is_err_and c.from_residual.result c.from_residual.ensures.1 in
    let refuses = c.in_err-take_setting-in-Some.ensures.err in
    rw (p.1, p.2) (record {
      cause_is = λ not. alone (keeps_no_other _ c.args.at _ (Value c.args.setting) _ c.requires.option c.requires.keeps) (unsound c.args.setting c.in-Some.value.now c.in-Some.place c.in-Some.ensures.value (refuses.cause_is not));
    })
