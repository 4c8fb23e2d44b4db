use Rattle.std.proofs.Common.{◌∙◌, length, ap, arith}
use Rattle.wl_symbols.specs.Entries.{entries_of}
use Rattle.wl_symbols.specs.Index.{all_entries}
use Rattle.wl_symbols.specs.Adding.{firsts_in}
use Rattle.wl_symbols.specs.Bearers.{found_in, Lists}
use Rattle.wl_symbols.proofs.RepeatLaws.{one_strong, none_twice, first_repeat}
use Rattle.wl_symbols.proofs.CountLaws.{all_few}
use Rattle.wl_symbols.proofs.IndexLaws.{all_are}
use Rattle.wl_symbols.proofs.ToldLaws.{told_all, told_whole, met_whole}
use Rattle.wl_symbols.proofs.index.NameIndex.table_counted.Goals as goal

pub returns-in-Some-clause-err : goal.returns-in-Some-clause-err
returns-in-Some-clause-err g c =
    let is = all_are c.args.files.now c.as_slice.result.now (c.as_slice.ensures.value ∙ (c.self.view_is ∙ c.requires)) in
    let have : Lists (found_in c.self.inside.lists.lists) (all_entries c.as_slice.result.now) = rw c.as_slice.ensures.value c.self.invariant.lists in
    let two = met_whole (found_in c.self.inside.lists.lists) c.args.files.now (firsts_in c.in_ok-names.names.names.firsts) (firsts_in c.tell_objects.new.names.names.firsts) (all_entries c.as_slice.result.now) c.args.steps.now c.tell_objects.new.steps c.in-Some.repeat is have c.in_ok-names.ensures (rw c.in-Some.is at c.in_ok-repeat.ensures.tells) in
    record { cause_is = λ not. (c.in-Some.repeat, first_repeat c.args.files.now c.in-Some.repeat two, c.in_ok-duplicate.ensures) }

pub of-requires : goal.of-requires
of-requires g c =
    let is = all_are c.args.files.now c.as_slice.result.now (c.as_slice.ensures.value ∙ (c.self.view_is ∙ c.requires)) in
    let have : Lists (found_in c.self.inside.lists.lists) (all_entries c.as_slice.result.now) = rw c.as_slice.ensures.value c.self.invariant.lists in
    let told = told_whole (found_in c.self.inside.lists.lists) c.args.files.now (firsts_in c.in_ok-names.names.names.firsts) (firsts_in c.tell_objects.new.names.names.firsts) (all_entries c.as_slice.result.now) c.args.steps.now c.tell_objects.new.steps is have c.in_ok-names.ensures (rw c.in_default.is at c.in_ok-repeat.ensures.tells) in
    told_all (entries_of 0 c.args.files.now) (firsts_in c.tell_objects.new.names.names.firsts) told.0

pub returns-clause-one : goal.returns-clause-one
returns-clause-one g c =
    let is = all_are c.args.files.now c.as_slice.result.now (c.as_slice.ensures.value ∙ (c.self.view_is ∙ c.requires)) in
    let have : Lists (found_in c.self.inside.lists.lists) (all_entries c.as_slice.result.now) = rw c.as_slice.ensures.value c.self.invariant.lists in
    let told = told_whole (found_in c.self.inside.lists.lists) c.args.files.now (firsts_in c.in_ok-names.names.names.firsts) (firsts_in c.tell_objects.new.names.names.firsts) (all_entries c.as_slice.result.now) c.args.steps.now c.tell_objects.new.steps is have c.in_ok-names.ensures (rw c.in_default.is at c.in_ok-repeat.ensures.tells) in
    one_strong c.args.files.now told.0.clear

pub returns-clause-clear : goal.returns-clause-clear
returns-clause-clear g c =
    let is = all_are c.args.files.now c.as_slice.result.now (c.as_slice.ensures.value ∙ (c.self.view_is ∙ c.requires)) in
    let have : Lists (found_in c.self.inside.lists.lists) (all_entries c.as_slice.result.now) = rw c.as_slice.ensures.value c.self.invariant.lists in
    let told = told_whole (found_in c.self.inside.lists.lists) c.args.files.now (firsts_in c.in_ok-names.names.names.firsts) (firsts_in c.tell_objects.new.names.names.firsts) (all_entries c.as_slice.result.now) c.args.steps.now c.tell_objects.new.steps is have c.in_ok-names.ensures (rw c.in_default.is at c.in_ok-repeat.ensures.tells) in
    none_twice c.args.files.now (one_strong c.args.files.now told.0.clear)

pub returns-clause-counted : goal.returns-clause-counted
returns-clause-counted g c =
    let is = all_are c.args.files.now c.as_slice.result.now (c.as_slice.ensures.value ∙ (c.self.view_is ∙ c.requires)) in
    let have : Lists (found_in c.self.inside.lists.lists) (all_entries c.as_slice.result.now) = rw c.as_slice.ensures.value c.self.invariant.lists in
    let told = told_whole (found_in c.self.inside.lists.lists) c.args.files.now (firsts_in c.in_ok-names.names.names.firsts) (firsts_in c.tell_objects.new.names.names.firsts) (all_entries c.as_slice.result.now) c.args.steps.now c.tell_objects.new.steps is have c.in_ok-names.ensures (rw c.in_default.is at c.in_ok-repeat.ensures.tells) in
    let steps = told.1 in
    let rows = c.in_ok-of.ensures.counted in
    omega (arith, steps, rows)

pub returns-in_err-repeat-clause-cost : goal.returns-in_err-repeat-clause-cost
returns-in_err-repeat-clause-cost g c =
    let same = ap length (all_are c.args.files.now c.as_slice.result.now (c.as_slice.ensures.value ∙ (c.self.view_is ∙ c.requires))) in
    let few = all_few 0 c.args.files.now in
    omega (arith, same, few)

pub returns-in_err-duplicate-clause-cost : goal.returns-in_err-duplicate-clause-cost
returns-in_err-duplicate-clause-cost g c =
    let same = ap length (all_are c.args.files.now c.as_slice.result.now (c.as_slice.ensures.value ∙ (c.self.view_is ∙ c.requires))) in
    let few = all_few 0 c.args.files.now in
    omega (arith, same, few)

pub returns-in-Some-clause-cost : goal.returns-in-Some-clause-cost
returns-in-Some-clause-cost g c =
    let same = ap length (all_are c.args.files.now c.as_slice.result.now (c.as_slice.ensures.value ∙ (c.self.view_is ∙ c.requires))) in
    let few = all_few 0 c.args.files.now in
    omega (arith, same, few)

pub returns-in_err-of-clause-cost : goal.returns-in_err-of-clause-cost
returns-in_err-of-clause-cost g c =
    let same = ap length (all_are c.args.files.now c.as_slice.result.now (c.as_slice.ensures.value ∙ (c.self.view_is ∙ c.requires))) in
    let few = all_few 0 c.args.files.now in
    omega (arith, same, few)

pub returns-clause-cost : goal.returns-clause-cost
returns-clause-cost g c =
    let same = ap length (all_are c.args.files.now c.as_slice.result.now (c.as_slice.ensures.value ∙ (c.self.view_is ∙ c.requires))) in
    let few = all_few 0 c.args.files.now in
    omega (arith, same, few)
