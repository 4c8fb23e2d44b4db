use Rattle.std.proofs.Common.{◌≡◌, drop, bytes_eq}
use Rattle.std.specs.List.{list_any}
use Rattle.wl_words.specs.Texts.{texts}
use Rattle.wl_bind.specs.Made.{is_forced}
use Rattle.wl_bind.proofs.needs.is_forced.Given as goal

abbrev pub invariant-loop-other : goal.invariant-loop-other
invariant-loop-other l =
    is_forced l.input l.fn.made ≡ list_any (bytes_eq l.name) (texts (drop l.other-index l.names))
