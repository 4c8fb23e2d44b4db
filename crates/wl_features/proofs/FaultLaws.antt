-- Why features don't fit together, step by step.
use Rattle.std.proofs.Common.{◌≡◌, false}
use Rattle.wl_linking.specs.Steps.{Clear, Refuses, here, behind}
use Rattle.wl_linking.specs.declared.error.LinkError.{LinkError}
use Rattle.wl_symbols.specs.Link.{Link}
use Rattle.wl_features.specs.Faults.{IsBadFeature, IsSharedFault, IsConflict, feature_fault}
use Rattle.wl_features.proofs.SharedLaws.{not_checked}

pub no_conflict : (link : Link) → link.args.check_features ≡ false → Clear (IsConflict link)
no_conflict link off = record { none = λ e h. let on = h.checked in cc }

module _ (link : Link) where
  no_fault : Clear (IsBadFeature link.objects) → Clear (IsSharedFault link)
      → Clear (IsConflict link)
      → (e : LinkError) → feature_fault link e → ⊥
  no_fault bad shared conflict e (here h) = bad.none e h
  no_fault bad shared conflict e (behind _ (here h)) = shared.none e h
  no_fault bad shared conflict e (behind _ (behind _ (here h))) = conflict.none e h
  no_fault bad shared conflict e (behind _ (behind _ (behind _ h))) = h

  pub fault_clear : Clear (IsBadFeature link.objects) → Clear (IsSharedFault link)
      → Clear (IsConflict link)
      → Clear (feature_fault link)
  fault_clear bad shared conflict = record { none = no_fault bad shared conflict }

  -- prefixes alone are looked at
  pub unchecked_clear : link.args.check_features ≡ false → Clear (IsBadFeature link.objects)
      → Clear (feature_fault link)
  unchecked_clear off bad = fault_clear bad (not_checked link off) (no_conflict link off)

  pub refuses_shared : (e : LinkError) → Clear (IsBadFeature link.objects)
      → Refuses (IsSharedFault link) e → Refuses (feature_fault link) e
  refuses_shared e bad h = record { cause_is = λ other. behind bad (here (h.cause_is other)) }

  pub refuses_conflict : (e : LinkError) → Clear (IsBadFeature link.objects)
      → Clear (IsSharedFault link)
      → Refuses (IsConflict link) e → Refuses (feature_fault link) e
  refuses_conflict e bad shared h = record {
    cause_is = λ other. behind bad (behind shared (here (h.cause_is other)));
  }
