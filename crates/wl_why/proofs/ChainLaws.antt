-- The chain that a certificate has for one unit.
use Rattle.std.proofs.Common.{◌≡◌, ℕ, suc, ◌+◌, ◌-◌, ◌<◌, ◌≤◌, nat_lt, true, false, List, [], ◌∷◌, ◌++◌, length, reverse, refl, ap, sym, ◌∙◌, subst, arith, append_assoc, Option, Some, None, slice_get}
use Rattle.std.proofs.lemmas.Bool.{lt-ltb, ltb-true, cond-true}
use Rattle.std.proofs.lemmas.List.{reverse-append, append-nil, length_push, length-reverse}
use Rattle.std.proofs.lemmas.Option.{slice_get_within, cond_some}
use Rattle.wl_reach.specs.Search.{IsChain}
use Rattle.wl_reach.proofs.ChainLaws.{IsChain-push}
use Rattle.wl_symbols.specs.Link.{Link}
use Rattle.wl_symbols.specs.References.{Refers}
use Rattle.wl_symbols.specs.Roots.{IsRoot}
use Rattle.wl_symbols.specs.declared.units.LinkUnit.{LinkUnit}
use Rattle.wl_why.specs.Certificate.{step_unit, unit_at_place, IsValid}
use Rattle.wl_why.specs.Chain.{Explains, IsShortest, earlier_place}
use Rattle.wl_why.specs.declared.certificate.Step.{Step}
use Rattle.wl_why.proofs.DepthLaws.{HasDepth, depth_in_chain}
use Rattle.wl_why.proofs.Numbering.{unit_here, same_unit_here}

-- the units after the place, last first, go on from any chain to its unit up to the last one
pub record ChainTo (steps : List Step) (last place : ℕ) (chain : List LinkUnit) : Type 0 where
  pub within : place < length steps
  pub on : (link : Link) → IsValid link steps → link.args.gc_sections ≡ true → (u w : LinkUnit) (front : List LinkUnit) → unit_at_place steps last ≡ Some u → unit_at_place steps place ≡ Some w → IsChain (IsRoot link) (Refers link) front w → IsChain (IsRoot link) (Refers link) (front ++ reverse chain) u
  pub off : (link : Link) → IsValid link steps → link.args.gc_sections ≡ false → (place ≡ last) × (chain ≡ [])

pub chain_none : (steps : List Step) (last : ℕ) → last < length steps → ChainTo steps last last []
chain_none steps last lt = record {
  within = lt;
  on = λ link valid is u w front at here c.
      let same : w ≡ u = same_unit_here steps last w u here at in
      rw append-nil (subst (IsChain (IsRoot link) (Refers link) front) same c);
  off = λ link valid is. (refl, refl);
}

pub earlier_parts : (o : Option ℕ) (place from : ℕ) → earlier_place o place ≡ Some from → (o ≡ Some from) × (from < place)
earlier_parts None place from e = absurd (cc)
earlier_parts (Some j) place from e =
    let p = cond_some (nat_lt j place) j from e in
    (ap Some p.1, rw p.1 at (ltb-true j place p.0))

pub earlier_is : (o : Option ℕ) (place from : ℕ) → o ≡ Some from → from < place → earlier_place o place ≡ Some from
earlier_is o place from e lt = rw e (cond-true (nat_lt from place) (Some from) None (lt-ltb from place lt))

-- one unit more
pub reverse_more : (front chain : List LinkUnit) (x : LinkUnit) → (front ++ x ∷ []) ++ reverse chain ≡ front ++ reverse (chain ++ x ∷ [])
reverse_more front chain x = append_assoc front (x ∷ []) (reverse chain) ∙ ap (λ (l : List LinkUnit). front ++ l) (sym (reverse-append chain (x ∷ [])))

pub chain_more : (steps : List Step) (last place from : ℕ) (s : Step) (chain : List LinkUnit) → ChainTo steps last place chain → slice_get steps place ≡ Some s → earlier_place s.from place ≡ Some from → ChainTo steps last from (chain ++ step_unit s ∷ [])
chain_more steps last place from s chain t at e =
    let p = earlier_parts s.from place from e in
    record {
      within = omega (arith, p.1, t.within);
      on = λ link valid on u w front end here c.
          let c' = valid.from on place from s at p.0 in
          let same : w ≡ c'.unit = same_unit_here steps from w c'.unit here c'.at in
          let more : IsChain (IsRoot link) (Refers link) (front ++ step_unit s ∷ []) (step_unit s) =
          IsChain-push (IsRoot link) (Refers link) front w (step_unit s) c (subst (λ (x : LinkUnit). Refers link x (step_unit s)) (sym same) c'.refers) in
          let whole = t.on link valid on u (step_unit s) (front ++ step_unit s ∷ []) end (unit_here steps place s at) more in
          subst (λ (l : List LinkUnit). IsChain (IsRoot link) (Refers link) l u) (reverse_more front chain (step_unit s)) whole;
      off = λ link valid off.
          let both : None ≡ Some from = sym (valid.off off place s at) ∙ p.0 in absurd (cc);
    }

-- the certificate has nothing before this place that the step comes from
pub first_from : (link : Link) (steps : List Step) (place : ℕ) (s : Step) (o : Option ℕ) → IsValid link steps → link.args.gc_sections ≡ true → slice_get steps place ≡ Some s → s.from ≡ o → earlier_place o place ≡ None → o ≡ None
first_from link steps place s None valid on at is none = refl
first_from link steps place s (Some j) valid on at is none =
    let c = valid.from on place j s at is in
    let both : Some j ≡ None = sym (earlier_is (Some j) place j refl c.before) ∙ none in absurd (cc)

pub chain_end : (steps : List Step) (last place : ℕ) (s : Step) (chain : List LinkUnit) (u : LinkUnit) → ChainTo steps last place chain → slice_get steps place ≡ Some s → earlier_place s.from place ≡ None → unit_at_place steps last ≡ Some u → Explains steps u (reverse (chain ++ step_unit s ∷ []))
chain_end steps last place s chain u t at none end = record {
  on = λ link valid on.
      let first : s.from ≡ None = first_from link steps place s s.from valid on at refl none in
      let root : IsRoot link (step_unit s) = valid.root on place s at first in
      let whole = t.on link valid on u (step_unit s) (step_unit s ∷ []) end (unit_here steps place s at) (single link (step_unit s) root) in
      subst (λ (l : List LinkUnit). IsChain (IsRoot link) (Refers link) l u) (sym (reverse-append chain (step_unit s ∷ []))) whole;
  off = λ link valid off.
      let p = t.off link valid off in
      let same : step_unit s ≡ u = same_unit_here steps last (step_unit s) u (subst (λ (k : ℕ). unit_at_place steps k ≡ Some (step_unit s)) p.0 (unit_here steps place s at)) end in
      rw (p.1, same) refl;
}
  where
    single : (link : Link) (x : LinkUnit) → IsRoot link x → IsChain (IsRoot link) (Refers link) (x ∷ []) x
    single link x r = record {
      begins = (x, refl, r);
      linked = λ k y z here next. absurd (let within = slice_get_within (x ∷ []) (k + 1) z next in omega arith);
      ends = refl;
    }

-- ---- how long it is

-- what lies before the place and what was gone through lie before the last one
abbrev pub DepthTo : List Step → ℕ → ℕ → List LinkUnit → Type 0
DepthTo steps last place chain = (m : ℕ) → HasDepth steps m place → HasDepth steps (m + length chain) last

pub depth_none : (steps : List Step) (last : ℕ) → DepthTo steps last last []
depth_none steps last m d = let same : m ≡ m + 0 = omega arith in subst (λ (n : ℕ). HasDepth steps n last) same d

pub depth_more : (steps : List Step) (last place from : ℕ) (s : Step) (chain : List LinkUnit) (x : LinkUnit) → DepthTo steps last place chain → slice_get steps place ≡ Some s → earlier_place s.from place ≡ Some from → DepthTo steps last from (chain ++ x ∷ [])
depth_more steps last place from s chain x to at e m d =
    let p = earlier_parts s.from place from e in
    let whole : HasDepth steps (suc m + length chain) last = to (suc m) (record { step = s; at = at; from = from; comes = p.0; rest = d }) in
    let same : suc m + length chain ≡ m + length (chain ++ x ∷ []) = omega (arith, length_push chain x) in
    subst (λ (n : ℕ). HasDepth steps n last) same whole

pub shortest : (steps : List Step) (last place : ℕ) (s : Step) (chain : List LinkUnit) (u : LinkUnit) → DepthTo steps last place chain → slice_get steps place ≡ Some s → earlier_place s.from place ≡ None → unit_at_place steps last ≡ Some u → IsShortest steps u (reverse (chain ++ step_unit s ∷ []))
shortest steps last place s chain u to at none end link valid on bf other c =
    let first : s.from ≡ None = first_from link steps place s s.from valid on at refl none in
    let depth : HasDepth steps (0 + length chain) last = to 0 (record { step = s; at = at; none = first }) in
    let near : 0 + length chain ≤ length other - 1 = depth_in_chain link steps on valid bf other u c (length other - 1) u c.ends last (0 + length chain) end depth in
    let some : length other - 1 < length other = slice_get_within other (length other - 1) u c.ends in
    omega (arith, near, some, length-reverse (chain ++ step_unit s ∷ []), length_push chain (step_unit s))
