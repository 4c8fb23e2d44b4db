use Rattle.std.proofs.Common.{rules, ◌≡◌, None, sym, ◌∙◌, refl}
use Rattle.wl_words.specs.Options.{front_of, taken_by}
use Rattle.wl_words.specs.Items.{Object}
use Rattle.wl_words.specs.Faults.{unnamed, unknown, alone}
use Rattle.wl_words.proofs.ModeLaws.{keeps_none, unnamed_no_other}
use Rattle.wl_words.proofs.args.WasmArgs.take_item.Goals as goal

pub returns-then-not-is_option-clause-ok : goal.returns-then-not-is_option-clause-ok
returns-then-not-is_option-clause-ok c =
    let inputs = c.in_ok-push.ensures in
    record {
      item = Object c.args.at;
      stands = (record { word = c.args.word.now; here = c.requires.word; plain = sym c.is_option.ensures ∙ c.if-not-is_option.true }, refl, refl);
      keeps = keeps_none _;
      adds = search rules;
    }

pub returns-in-None-clause-err : goal.returns-in-None-clause-err
returns-in-None-clause-err c =
    let none : taken_by (front_of c.args.word.now) ≡ None = rw (← c.parts_of-parts.ensures.front) (sym c.taken_by.ensures ∙ c.in-None.is) in
    record {
      cause_is = λ not. alone (unnamed_no_other _ c.args.at _ c.args.word.now c.requires.word none) (unknown (unnamed c.args.word.now c.requires.word (sym c.is_option.ensures ∙ c.if-not-is_option.false) none) refl);
    }
