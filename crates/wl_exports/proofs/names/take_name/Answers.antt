use Rattle.std.proofs.Common.{◌∙◌, ℕ, List}
use Rattle.std.specs.Borrow.{Bor}
use Rattle.std.specs.Str.{bytes_eq}
use Rattle.wl_exports.specs.steps.Names.{holds_name}
use Rattle.wl_exports.proofs.NameLaws.{cond_or}
use Rattle.wl_exports.proofs.names.take_name.Goals as goal

pub returns-clause-names : goal.returns-clause-names
returns-clause-names c = λ wanted.
    let q : Bor (List ℕ) = record { ref_ptr = (0, 0); now = wanted } in
    c.in_ok-insert.ensures.updates.0 q
    ∙ cond_or (bytes_eq c.args.name.now wanted) (holds_name c.args.taken.now wanted)
