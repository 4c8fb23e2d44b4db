use Rattle.std.proofs.Common.{ℕ, List, take, Contains}
use Rattle.wl_words.specs.Texts.{texts}
use Rattle.wl_exports.specs.steps.Checking.{IsSoundName}
use Rattle.wl_exports.proofs.checking.check_required.Given as goal

abbrev pub invariant-loop-name : goal.invariant-loop-name
invariant-loop-name l =
    (name : List ℕ) → Contains (texts (take l.name-index l.name-items)) name
    → IsSoundName l.sources.input.now name
