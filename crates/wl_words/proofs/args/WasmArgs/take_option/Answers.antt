use Rattle.std.proofs.Common.{refl}
use Rattle.std.proofs.lemmas.Result.{err_from_is_err_and}
use Rattle.wl_words.specs.Faults.{unknown, valued, bare, with_value, other, alone}
use Rattle.wl_words.proofs.ModeLaws.{valued_no_other}
use Rattle.wl_words.proofs.args.WasmArgs.take_option.Goals as goal

pub returns-in-Some-clause-err : goal.returns-in-Some-clause-err
returns-in-Some-clause-err c =
    let named = rw (c.in-Nothing.is, c.in-Some.is) at c.requires.option in
    record {
      cause_is = λ not. alone (valued_no_other _ c.args.at _ c.in-Nothing.flag _ named) (unknown (valued c.in-Nothing.flag _ named) refl);
    }

pub returns-in_err-keep_mode-in-None-clause-err : goal.returns-in_err-keep_mode-in-None-clause-err
returns-in_err-keep_mode-in-None-clause-err c =
    let p = err_from_is_err_and c.from_residual.result c.from_residual.ensures.1 in
    let named = rw (c.in-Nothing.is, c.in-None.is) at c.requires.option in
    rw (p.1, p.2) (record {
      cause_is = λ not. other (bare c.in-Nothing.flag named c.in_err-keep_mode-in-None.ensures.other) c.in_err-keep_mode-in-None.ensures.err;
    })

pub returns-in_err-keep_mode-in-Value-clause-err : goal.returns-in_err-keep_mode-in-Value-clause-err
returns-in_err-keep_mode-in-Value-clause-err c =
    let p = err_from_is_err_and c.from_residual-in_err-keep_mode-in-Value.result c.from_residual-in_err-keep_mode-in-Value.ensures.1 in
    let named = rw c.in-Value.is at c.requires.option in
    rw (p.1, p.2) (record {
      cause_is = λ not. other (with_value c.in-Value.setting _ named c.in_err-keep_mode-in-Value.ensures.other) c.in_err-keep_mode-in-Value.ensures.err;
    })
