-- Whether memory can be shared.
use Rattle.std.proofs.Common.{◌≡◌, ℕ, true, false, List, Contains, codes, refl}
use Rattle.wl_linking.specs.Steps.{Clear, Refuses, here, behind}
use Rattle.wl_linking.specs.declared.error.LinkError.{LinkError}
use Rattle.wl_linking.specs.declared.error.LinkError.TheVariants.{SharedMemoryFeature}
use Rattle.wl_linking.specs.declared.error.SharedMemoryNeed.{SharedMemoryNeed}
use Rattle.wl_linking.specs.declared.error.SharedMemoryNeed.TheVariants.{Disallowed, Atomics, BulkMemory}
use Rattle.wl_symbols.specs.Link.{Link}
use Rattle.wl_features.specs.Taken.{AreTaken}
use Rattle.wl_features.specs.Faults.{IsSharedDisallowed, IsLacking, shared_steps, IsSharedFault}
use Rattle.wl_features.specs.Disallowing.{NoneDisallows, IsFirstBy}
use Rattle.wl_features.proofs.DisallowingLaws.{none_at_all}
use Rattle.wl_features.proofs.TakenLaws.{has_taken, is_taken}

-- ---- none

pub not_checked : (link : Link) → link.args.check_features ≡ false → Clear (IsSharedFault link)
not_checked link off = record { none = λ e h. let on = h.0 in cc }

module _ (link : Link) (names : List (List ℕ)) (taken : AreTaken link names) where
  allowed_clear : NoneDisallows link.objects (codes "shared-mem") → Clear (IsSharedDisallowed link)
  allowed_clear none = record {
    none = λ e h. none_at_all link.objects (codes "shared-mem") h.0 none h.1;
  }

  has_clear : (name : List ℕ) (need : SharedMemoryNeed) → Contains names name
      → Clear (IsLacking link name need)
  has_clear name need at = record { none = λ e h. h.0 (is_taken link names taken name at) }

  no_step : NoneDisallows link.objects (codes "shared-mem") → Contains names (codes "atomics")
      → Contains names (codes "bulk-memory")
      → (e : LinkError) → shared_steps link e → ⊥
  no_step none atomics bulk e (here h) = (allowed_clear none).none e h
  no_step none atomics bulk e (behind _ (here h)) =
      (has_clear (codes "atomics") Atomics atomics).none e h
  no_step none atomics bulk e (behind _ (behind _ (here h))) =
      (has_clear (codes "bulk-memory") BulkMemory bulk).none e h
  no_step none atomics bulk e (behind _ (behind _ (behind _ h))) = h

  pub can_share : NoneDisallows link.objects (codes "shared-mem") → Contains names (codes "atomics")
      → Contains names (codes "bulk-memory")
      → Clear (IsSharedFault link)
  can_share none atomics bulk = record { none = λ e h. no_step none atomics bulk e h.2 }

  -- ---- some

  pub shared_refuses : (need : SharedMemoryNeed) → link.args.check_features ≡ true
      → link.args.shared_memory ≡ true
      → shared_steps link (SharedMemoryFeature need)
      → Refuses (IsSharedFault link) (SharedMemoryFeature need)
  shared_refuses need checked shared h = record { cause_is = λ other. (checked, shared, h) }

  pub shared_disallowed : (object : ℕ) → IsFirstBy link.objects (codes "shared-mem") object
      → shared_steps link (SharedMemoryFeature (Disallowed object))
  shared_disallowed object first = here (object, first.by, refl)

  lacking : (name : List ℕ) (need : SharedMemoryNeed) → (Contains names name → ⊥)
      → IsLacking link name need (SharedMemoryFeature need)
  lacking name need none = (λ at. none (has_taken link names taken name at), refl)

  pub lacks_atomics : NoneDisallows link.objects (codes "shared-mem")
      → (Contains names (codes "atomics") → ⊥)
      → shared_steps link (SharedMemoryFeature Atomics)
  lacks_atomics none off =
      behind (allowed_clear none) (here (lacking (codes "atomics") Atomics off))

  pub lacks_bulk : NoneDisallows link.objects (codes "shared-mem")
      → Contains names (codes "atomics") → (Contains names (codes "bulk-memory") → ⊥)
      → shared_steps link (SharedMemoryFeature BulkMemory)
  lacks_bulk none atomics off =
      behind (allowed_clear none)
      (behind (has_clear (codes "atomics") Atomics atomics)
      (here (lacking (codes "bulk-memory") BulkMemory off)))
