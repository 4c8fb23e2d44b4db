-- A valid certificate lists exactly what is kept.
use Rattle.std.proofs.Common.{◌≡◌, ◌↔◌, ℕ, zero, suc, ◌<◌, true, List, inl, inr, refl, subst, arith, Option, Some, None, slice_get}
use Rattle.std.proofs.lemmas.Bool.{cases_Bool, and_parts}
use Rattle.wl_reach.specs.Search.{IsReached}
use Rattle.wl_reach.proofs.ChainLaws.{IsReached-root, IsReached-step, IsReached-closed}
use Rattle.wl_symbols.specs.Link.{Link}
use Rattle.wl_symbols.specs.Units.{units_of, exists}
use Rattle.wl_symbols.specs.References.{Refers}
use Rattle.wl_symbols.specs.Roots.{IsRoot}
use Rattle.wl_symbols.specs.Kept.{IsKept}
use Rattle.wl_symbols.specs.Live.{Live, is_live, IsLiveOf}
use Rattle.wl_symbols.specs.declared.units.LinkUnit.{LinkUnit}
use Rattle.wl_why.specs.Certificate.{step_unit, unit_at_place, IsListed, IsValid}
use Rattle.wl_why.specs.declared.certificate.Step.{Step}
use Rattle.wl_why.proofs.Numbering.{step_here}

-- ---- what is listed is kept

pub reached_by_cases : (link : Link) (steps : List Step) (place : ℕ) (s : Step) (o : Option ℕ) → link.args.gc_sections ≡ true → IsValid link steps → slice_get steps place ≡ Some s → s.from ≡ o → ((j : ℕ) (w : LinkUnit) → j < place → unit_at_place steps j ≡ Some w → IsReached (IsRoot link) (Refers link) w) → IsReached (IsRoot link) (Refers link) (step_unit s)
reached_by_cases link steps place s None on valid at is before = IsReached-root (IsRoot link) (Refers link) (step_unit s) (valid.root on place s at is)
reached_by_cases link steps place s (Some from) on valid at is before =
    let c = valid.from on place from s at is in
    IsReached-step (IsRoot link) (Refers link) c.unit (step_unit s) (before from c.unit c.before c.at) c.refers

-- the steps before that place are of reached units
pub reached_below : (link : Link) (steps : List Step) → link.args.gc_sections ≡ true → IsValid link steps → (n place : ℕ) (u : LinkUnit) → place < n → unit_at_place steps place ≡ Some u → IsReached (IsRoot link) (Refers link) u
reached_below link steps on valid zero place u lt at = absurd (omega arith)
reached_below link steps on valid (suc n) place u lt at =
    let s = step_here steps place u at in
    subst (IsReached (IsRoot link) (Refers link)) s.2
    (reached_by_cases link steps place s.0 s.0.from on valid s.1 refl
    (λ j w before here. reached_below link steps on valid n j w (omega (arith, lt, before)) here))

pub listed_kept : (link : Link) (steps : List Step) → IsValid link steps → (u : LinkUnit) → IsListed steps u → IsKept link u
listed_kept link steps valid u m =
    elim (cases_Bool link.args.gc_sections) [
      | inl on ↦ inr (reached_below link steps on valid (suc m.0) m.0 u (omega arith) m.1)
      | inr off ↦ inl off
    ]

-- ---- what is kept is listed

pub kept_listed : (link : Link) (steps : List Step) → IsValid link steps → (u : LinkUnit) → exists (units_of link.objects) u ≡ true → IsKept link u → IsListed steps u
kept_listed link steps valid u there (inl off) = valid.all off u there
kept_listed link steps valid u there (inr reached) =
    elim (cases_Bool link.args.gc_sections) [
      | inr off ↦ valid.all off u there
      | inl on ↦ IsReached-closed (IsRoot link) (Refers link) (IsListed steps) (λ x root. valid.roots on x root) (λ x y m refers. valid.closed on x y m refers) u reached
    ]

pub listed_is_kept : (link : Link) (steps : List Step) → IsValid link steps → (u : LinkUnit) → IsListed steps u ↔ ((exists (units_of link.objects) u ≡ true) × IsKept link u)
listed_is_kept link steps valid u = (λ m. (valid.exist m.0 u m.1, listed_kept link steps valid u m), λ p. kept_listed link steps valid u p.0 p.1)

-- ---- of a live set

pub listed_is_live : (link : Link) (steps : List Step) (live : Live) → IsValid link steps → IsLiveOf link live → (u : LinkUnit) → IsListed steps u ↔ (is_live live u ≡ true)
listed_is_live link steps live valid is u = (
  λ m. is.every u (valid.exist m.0 u m.1) (listed_kept link steps valid u m),
  λ on.
      let p = and_parts (exists live.units u) _ on in
      let there : exists (units_of link.objects) u ≡ true = rw is.units at p.0 in
      kept_listed link steps valid u there (is.only u on),
)
