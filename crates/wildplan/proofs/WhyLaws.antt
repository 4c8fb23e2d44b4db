-- Steps of a link that has a plan.
use Rattle.std.proofs.Common.{◌≡◌, sym, subst}
use Rattle.wl_linking.specs.Steps.{Clear, Step, NoStep, here}
use Rattle.wl_linking.proofs.StepLaws.{first_clear, rest_clear}
use Rattle.wl_linking.specs.declared.error.LinkError.{LinkError}
use Rattle.wl_symbols.specs.Link.{Link}
use Rattle.wl_symbols.specs.Repeats.{IsDuplicate}
use Rattle.wl_features.specs.Faults.{feature_steps, IsBadFeature, IsSharedFault, IsConflict}
use Rattle.wl_live.specs.Entry.{IsEntryFault}
use Rattle.wl_live.specs.Faults.{IsKeptFault}
use Rattle.wl_plan.specs.Faults.{link_fault, IsLaterFault}

kept_steps : Link → LinkError → Type 0
kept_steps link = Step (IsKeptFault link) (Step (IsLaterFault link) NoStep)

-- no name is defined twice
pub none_twice : (link : Link) → Clear (link_fault link) → Clear (IsDuplicate link.objects)
none_twice link clear = record { none = λ e fault. clear.none e (here fault) }

-- and no unit is kept that can't be
pub none_kept : (link : Link) → Clear (link_fault link) → Clear (IsKeptFault link)
unfolding kept_steps
none_kept link clear =
    first_clear (IsKeptFault link) (Step (IsLaterFault link) NoStep)
    (rest_clear (IsEntryFault link) (kept_steps link)
    (rest_clear (IsConflict link) (Step (IsEntryFault link) (kept_steps link))
    (rest_clear (IsSharedFault link) (Step (IsConflict link) (Step (IsEntryFault link) (kept_steps link)))
    (rest_clear (IsBadFeature link.objects) (Step (IsSharedFault link) (Step (IsConflict link) (Step (IsEntryFault link) (kept_steps link))))
    (rest_clear (IsDuplicate link.objects) (feature_steps link (Step (IsEntryFault link) (kept_steps link))) clear)))))

-- so no unit of the same link
pub none_kept_in : (link same : Link) → same ≡ link → Clear (link_fault link) → Clear (IsKeptFault same)
none_kept_in link same is clear = subst (λ (l : Link). Clear (IsKeptFault l)) (sym is) (none_kept link clear)
