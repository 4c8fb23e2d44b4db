use Rattle.std.proofs.Common.{◌≡◌, drop}
use Rattle.indexmap.specs.IndexSet.{insert_all}
use Rattle.wl_module.specs.Types.{same_type}
use Rattle.wl_bind.proofs.merging.merge_listed.Given as goal

abbrev pub invariant-loop-ty : goal.invariant-loop-ty
invariant-loop-ty l =
    insert_all same_type l.merger (drop l.ty-index l.types)
    ≡ insert_all same_type l.fn.merger l.types
