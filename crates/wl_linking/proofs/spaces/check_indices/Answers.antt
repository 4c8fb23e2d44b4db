use Rattle.std.proofs.Common.{sym, ◌∙◌, inl, inr}
use Rattle.wl_linking.proofs.spaces.check_indices.Goals as goal
use Rattle.wl_linking.proofs.spaces.check_indices.Goals.{then-not-core_names_exist-via-then-not-core_names_exist, then-not-core_names_exist-via-else-not-core_names_exist+then-not-linked_names_exist}

pub returns-then-not-core_names_exist : goal.returns-then-not-core_names_exist
returns-then-not-core_names_exist c = elim c.then-not-core_names_exist.branch [
  | then-not-core_names_exist-via-then-not-core_names_exist w ↦ inl (rw c.spaces_of-spaces.ensures at (sym c.core_names_exist.ensures ∙ w.if-not-core_names_exist.true))
  | then-not-core_names_exist-via-else-not-core_names_exist+then-not-linked_names_exist w ↦ inr (rw c.spaces_of-spaces.ensures at (sym w.linked_names_exist.ensures ∙ w.if-not-linked_names_exist.true))
]
