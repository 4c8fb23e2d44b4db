-- How far units are from roots, and that a certificate that is breadth first knows no longer way than needed.
use Rattle.std.proofs.Common.{◌≡◌, ℕ, zero, suc, ◌+◌, ◌<◌, ◌≤◌, true, List, length, get_or, inl, inr, refl, ap, sym, ◌∙◌, subst, arith, add-one, Option, Some, None, slice_get}
use Rattle.std.proofs.lemmas.Bool.{cases_lt}
use Rattle.std.proofs.lemmas.Option.{slice_get_within, slice_get-get_or, same_Some}
use Rattle.wl_reach.specs.Search.{IsChain}
use Rattle.wl_reach.proofs.ChainLaws.{IsChain-closed}
use Rattle.wl_symbols.specs.Link.{Link}
use Rattle.wl_symbols.specs.References.{Refers}
use Rattle.wl_symbols.specs.Roots.{IsRoot}
use Rattle.wl_symbols.specs.declared.units.LinkUnit.{LinkUnit}
use Rattle.wl_why.specs.BreadthFirst.{IsBreadthFirst}
use Rattle.wl_why.specs.Certificate.{step_unit, unit_at_place, IsListed, IsValid}
use Rattle.wl_why.specs.declared.certificate.Step.{Step}
use Rattle.wl_why.proofs.Numbering.{unit_here, step_here, same_step_here}
use Rattle.wl_why.proofs.WalkLaws.{none_some}

-- the step at the place comes from none
pub record IsFirst (steps : List Step) (place : ℕ) : Type 0 where
  pub step : Step
  pub at : slice_get steps place ≡ Some step
  pub none : step.from ≡ None

-- the step at the place comes from one with this property
pub record IsBehind (steps : List Step) (P : ℕ → Type 0) (place : ℕ) : Type 0 where
  pub step : Step
  pub at : slice_get steps place ≡ Some step
  pub from : ℕ
  pub comes : step.from ≡ Some from
  pub rest : P from

-- so many steps lie before it
abbrev pub HasDepth : List Step → ℕ → ℕ → Type 0
HasDepth steps zero place = IsFirst steps place
HasDepth steps (suc n) place = IsBehind steps (HasDepth steps n) place

-- what stands later isn't nearer to a root
pub depth_le : (link : Link) (steps : List Step) → IsBreadthFirst link steps → (m n p q : ℕ) → p ≤ q → HasDepth steps m p → HasDepth steps n q → m ≤ n
depth_le link steps bf zero n p q le a b = omega arith
depth_le link steps bf (suc m) zero p q le a b =
    elim (cases_lt p q) [
      | inl lt ↦ absurd (none_some a.step.from a.from (bf.ahead p q a.step b.step lt a.at b.at b.none) a.comes)
      | inr ge ↦
          let here : p ≡ q = omega (arith, le, ge) in
          let same : b.step ≡ a.step = same_step_here steps q b.step a.step b.at (subst (λ (k : ℕ). slice_get steps k ≡ Some a.step) here a.at) in
          absurd (none_some a.step.from a.from (ap (λ (s : Step). s.from) (sym same) ∙ b.none) a.comes)
    ]
depth_le link steps bf (suc m) (suc n) p q le a b =
    elim (cases_lt p q) [
      | inl lt ↦ omega (arith, depth_le link steps bf m n a.from b.from (bf.order p q a.from b.from a.step b.step lt a.at b.at a.comes b.comes) a.rest b.rest)
      | inr ge ↦
          let here : p ≡ q = omega (arith, le, ge) in
          let same : a.step ≡ b.step = same_step_here steps q a.step b.step (subst (λ (k : ℕ). slice_get steps k ≡ Some a.step) here a.at) b.at in
          let source : a.from ≡ b.from = same_Some a.from b.from (sym a.comes ∙ (ap (λ (s : Step). s.from) same ∙ b.comes)) in
          omega (arith, depth_le link steps bf m n a.from b.from (omega (arith, source)) a.rest b.rest)
    ]

-- each step has a depth
pub depth_by_cases : (link : Link) (steps : List Step) (place : ℕ) (s : Step) (o : Option ℕ) → link.args.gc_sections ≡ true → IsValid link steps → slice_get steps place ≡ Some s → s.from ≡ o → ((j : ℕ) (w : LinkUnit) → j < place → unit_at_place steps j ≡ Some w → (m : ℕ) × HasDepth steps m j) → (m : ℕ) × HasDepth steps m place
depth_by_cases link steps place s None on valid at is before = (0, record { step = s; at = at; none = is })
depth_by_cases link steps place s (Some from) on valid at is before =
    let c = valid.from on place from s at is in
    let d = before from c.unit c.before c.at in
    (suc d.0, record { step = s; at = at; from = from; comes = is; rest = d.1 })

pub depth_below : (link : Link) (steps : List Step) → link.args.gc_sections ≡ true → IsValid link steps → (n place : ℕ) (u : LinkUnit) → place < n → unit_at_place steps place ≡ Some u → (m : ℕ) × HasDepth steps m place
depth_below link steps on valid zero place u lt at = absurd (omega arith)
depth_below link steps on valid (suc n) place u lt at =
    let s = step_here steps place u at in
    depth_by_cases link steps place s.0 s.0.from on valid s.1 refl
    (λ j w before here. depth_below link steps on valid n j w (omega (arith, lt, before)) here)

-- no member of a chain is farther from a root than its place in the chain
pub depth_in_chain : (link : Link) (steps : List Step) → link.args.gc_sections ≡ true → IsValid link steps → IsBreadthFirst link steps → (other : List LinkUnit) (last : LinkUnit) → IsChain (IsRoot link) (Refers link) other last → (k : ℕ) (x : LinkUnit) → slice_get other k ≡ Some x → (q m : ℕ) → unit_at_place steps q ≡ Some x → HasDepth steps m q → m ≤ k
depth_in_chain link steps on valid bf other last c k x at q zero here d = omega arith
depth_in_chain link steps on valid bf other last c zero x at q (suc m) here d =
    let same : c.begins.0 ≡ step_unit d.step = same_Some c.begins.0 (step_unit d.step) (sym c.begins.1 ∙ (at ∙ (sym here ∙ unit_here steps q d.step d.at))) in
    let root : IsRoot link (step_unit d.step) = subst (IsRoot link) same c.begins.2 in
    absurd (none_some d.step.from d.from (bf.root q d.step d.at root) d.comes)
depth_in_chain link steps on valid bf other last c (suc k) x at q (suc m) here d =
    let next : slice_get other (k + 1) ≡ Some x = rw add-one at in
    let within : k + 1 < length other = slice_get_within other (k + 1) x next in
    let y : LinkUnit = get_or other k x in
    let before : slice_get other k ≡ Some y = slice_get-get_or other k x (omega arith) in
    let listed : IsListed steps y = IsChain-closed (IsRoot link) (Refers link) (IsListed steps) (λ u root. valid.roots on u root) (λ u v m refers. valid.closed on u v m refers) other last c k y before in
    let same : x ≡ step_unit d.step = same_Some x (step_unit d.step) (sym here ∙ unit_here steps q d.step d.at) in
    let refers : Refers link y (step_unit d.step) = subst (λ (w : LinkUnit). Refers link y w) same (c.linked k y x before next) in
    let depth = depth_below link steps on valid (suc listed.0) listed.0 y (omega arith) listed.1 in
    let source : d.from ≤ listed.0 = bf.first q d.from listed.0 d.step y d.at d.comes listed.1 refers in
    let near : depth.0 ≤ k = depth_in_chain link steps on valid bf other last c k y before listed.0 depth.0 listed.1 depth.1 in
    omega (arith, near, depth_le link steps bf m depth.0 d.from listed.0 source d.rest depth.1)
