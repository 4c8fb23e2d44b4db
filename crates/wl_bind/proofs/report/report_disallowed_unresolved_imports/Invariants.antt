use Rattle.std.proofs.Common.{◌≡◌, ◌+◌, ◌++◌, drop}
use Rattle.std.specs.List.{filter_map}
use Rattle.indexmap.specs.IndexSet.{insert_all}
use Rattle.wl_bind.specs.Undefined.{same_undefined, undefined_import_of, undefined_from, undefined_imports}
use Rattle.wl_bind.proofs.report.report_disallowed_unresolved_imports.Given as goal

abbrev pub invariant-loop-object : goal.invariant-loop-object
invariant-loop-object l =
    insert_all same_undefined l.names (undefined_from l.input l.object (drop l.object l.input.link.objects))
    ≡ undefined_imports l.input

abbrev pub invariant-loop-symbol : goal.invariant-loop-symbol
invariant-loop-symbol l =
    insert_all same_undefined l.names (filter_map (undefined_import_of l.input l.object) (drop l.symbol-index l.symbol-items)
    ++ undefined_from l.input (l.object + 1) (drop (l.object + 1) l.input.link.objects))
    ≡ undefined_imports l.input
