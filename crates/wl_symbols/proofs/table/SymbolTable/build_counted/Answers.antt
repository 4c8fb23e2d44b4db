use Rattle.std.proofs.Common.{[]}
use Rattle.wl_symbols.specs.Entries.{entries_of}
use Rattle.wl_symbols.specs.Adding.{firsts_in, Adds, Meets}
use Rattle.wl_symbols.proofs.AdditionLaws.{none_none}
use Rattle.wl_symbols.proofs.RepeatLaws.{one_strong, none_twice, first_repeat}
use Rattle.wl_symbols.proofs.table.SymbolTable.build_counted.Goals as goal

pub returns-in-Some-clause-err : goal.returns-in-Some-clause-err
returns-in-Some-clause-err g c =
    let meets : Meets (firsts_in c.in_ok-names.names.names.firsts) (entries_of 0 c.args.files.now) c.in-Some.repeat = rw (c.in-Some.is, c.as_slice-2.ensures.objects) at c.in_ok-repeat.ensures.adds in
    record { cause_is = λ not. (c.in-Some.repeat, first_repeat c.args.files.now c.in-Some.repeat (meets [] c.in_ok-names.ensures none_none), c.in_ok-duplicate.ensures) }

pub of-requires : goal.of-requires
of-requires g c =
    let adds : Adds (firsts_in c.in_ok-names.names.names.firsts) (firsts_in c.add_files.new.names.names.firsts) (entries_of 0 c.args.files.now) = rw (c.in_default.is, c.as_slice-2.ensures.objects) at c.in_ok-repeat.ensures.adds in
    adds.found [] c.in_ok-names.ensures

pub returns-clause-one : goal.returns-clause-one
returns-clause-one g c =
    let adds : Adds (firsts_in c.in_ok-names.names.names.firsts) (firsts_in c.add_files.new.names.names.firsts) (entries_of 0 c.args.files.now) = rw (c.in_default.is, c.as_slice-2.ensures.objects) at c.in_ok-repeat.ensures.adds in
    one_strong c.args.files.now (adds.clear [] c.in_ok-names.ensures none_none)

pub returns-clause-clear : goal.returns-clause-clear
returns-clause-clear g c =
    let adds : Adds (firsts_in c.in_ok-names.names.names.firsts) (firsts_in c.add_files.new.names.names.firsts) (entries_of 0 c.args.files.now) = rw (c.in_default.is, c.as_slice-2.ensures.objects) at c.in_ok-repeat.ensures.adds in
    none_twice c.args.files.now (one_strong c.args.files.now (adds.clear [] c.in_ok-names.ensures none_none))
