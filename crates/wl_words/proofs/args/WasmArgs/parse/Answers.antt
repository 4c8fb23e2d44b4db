use Rattle.std.proofs.Common.{sym, ◌∙◌}
use Rattle.wl_words.specs.Args.{whole}
use Rattle.wl_words.proofs.WholeLaws.{none_whole, all_named}
use Rattle.wl_words.proofs.args.WasmArgs.parse.Goals as goal

pub returns-in-Some-clause-err : goal.returns-in-Some-clause-err
returns-in-Some-clause-err c =
    let parsed = c.in_ok-args.ensures.ok in
    record {
      cause_is = λ not. whole parsed.items c.in_ok-args.args parsed.spelled parsed.asked (sym c.whole_fault.ensures ∙ c.in-Some.is);
    }

pub returns-in-None-clause-ok : goal.returns-in-None-clause-ok
returns-in-None-clause-ok c =
    let parsed = c.in_ok-args.ensures.ok in
    record {
      items = parsed.items;
      spelled = parsed.spelled;
      asked = parsed.asked;
      sound = none_whole c.in_ok-args.args (sym c.whole_fault.ensures ∙ c.in-None.is);
    }

pub returns-in-None-clause-replaced : goal.returns-in-None-clause-replaced
returns-in-None-clause-replaced c = all_named c.in_ok-args.args (sym c.whole_fault.ensures ∙ c.in-None.is)
