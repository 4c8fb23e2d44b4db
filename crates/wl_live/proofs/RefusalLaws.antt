-- A link is refused exactly where a unit is kept that can't be.
use Rattle.std.proofs.Common.{◌≡◌, ℕ, ◌+◌, ◌<◌, ◌≤◌, true, false, List, [], ◌∷◌, ◌++◌, length, get_or, take, inl, inr, ap, sym, ◌∙◌, subst, arith, Some, slice_get, Contains}
use Rattle.std.specs.List.{AllByRecursion}
use Rattle.std.proofs.lemmas.Bool.{cases_lt, false≢true}
use Rattle.std.proofs.lemmas.List.{take_more, take_all, get_or_default}
use Rattle.std.proofs.lemmas.List.Elements.{Contains-append_cases, All-from_recursion}
use Rattle.std.proofs.lemmas.Option.{same_Some, slice_get_within, slice_get-get_or}
use Rattle.wl_bytes.specs.declared.read_error.ReadError.{ReadError}
use Rattle.wl_linking.specs.Fitting.{IsWhole}
use Rattle.wl_linking.specs.Steps.{Clear, Refuses}
use Rattle.wl_symbols.specs.Link.{Link}
use Rattle.wl_symbols.specs.Units.{units_of, has_unit, exists}
use Rattle.wl_live.specs.Faults.{object_refusal, IsKeptFault}
use Rattle.wl_live.specs.Facts.{Facts, AreFacts, AreAllFacts}
use Rattle.wl_symbols.specs.Live.{Live, is_live, IsLiveOf}
use Rattle.wl_live.specs.Marking.{HasNoKept, IsKeptOne}
use Rattle.wl_live.specs.declared.object_facts.UnitFault.{UnitFault}
use Rattle.wl_symbols.specs.declared.units.UnitCounts.{UnitCounts}
use Rattle.wl_lists.proofs.Beside.{zip_left, zip_right}
use Rattle.wl_symbols.proofs.ExistLaws.{units_of-at}
use Rattle.wl_live.proofs.FaultLaws.{fault_exists}
use Rattle.wl_live.proofs.JoinLaws.{in_single}

-- ---- the faults of an object, one by one

pub HasNoKept-more : (live : Live) (object : ℕ) (faults : List UnitFault) (k : ℕ) (f : UnitFault) → HasNoKept live object (take k faults) → k < length faults → get_or faults k f ≡ f → (is_live live (record { object = object; unit = f.unit }) ≡ true → ⊥) → HasNoKept live object (take (k + 1) faults)
HasNoKept-more live object faults k f h lt at off g m on =
    let whole : take (k + 1) faults ≡ take k faults ++ f ∷ [] = take_more faults k f lt ∙ ap (λ (x : UnitFault). take k faults ++ x ∷ []) at in
    elim (Contains-append_cases (take k faults) (f ∷ []) g (subst (λ (l : List UnitFault). Contains l g) whole m)) [
      | inl before ↦ h g before on
      | inr last ↦ off (subst (λ (x : UnitFault). is_live live (record { object = object; unit = x.unit }) ≡ true) (in_single f g last) on)
    ]

pub HasNoKept-next : (live : Live) (object : ℕ) (faults : List UnitFault) (k : ℕ) (d : UnitFault) → HasNoKept live object (take k faults) → k < length faults → false ≡ is_live live (record { object = object; unit = (get_or faults k d).unit }) → HasNoKept live object (take (k + 1) faults)
HasNoKept-next live object faults k d h lt off = HasNoKept-more live object faults k (get_or faults k d) h lt (get_or_default faults k (get_or faults k d) d lt) (λ on. false≢true (off ∙ on))

pub HasNoKept-all : (live : Live) (object : ℕ) (faults : List UnitFault) (k : ℕ) → HasNoKept live object (take k faults) → length faults ≤ k → HasNoKept live object faults
HasNoKept-all live object faults k h le = subst (λ (l : List UnitFault). HasNoKept live object l) (take_all k faults le) h

-- ---- object by object

-- of the first n objects no unit is kept that can't be
abbrev pub ClearTo : Live → List Facts → ℕ → Type 0
ClearTo live facts n = (k : ℕ) (f : Facts) → k < n → slice_get facts k ≡ Some f → HasNoKept live k f.faults

pub ClearTo-more : (live : Live) (facts : List Facts) (n : ℕ) (f : Facts) → ClearTo live facts n → slice_get facts n ≡ Some f → HasNoKept live n f.faults → ClearTo live facts (n + 1)
ClearTo-more live facts n f h at here k g lt is =
    elim (cases_lt k n) [
      | inl less ↦ h k g less is
      | inr more ↦
          let same : k ≡ n = omega arith in
          let equal : f ≡ g = same_Some f g (sym at ∙ (rw same at is)) in
          rw same (subst (λ (x : Facts). HasNoKept live n x.faults) equal here)
    ]

pub Clear-from : (link : Link) (live : Live) (facts : List Facts) (n : ℕ) → AllByRecursion IsWhole link.objects → IsLiveOf link live → AreAllFacts link.objects facts → ClearTo live facts n → length link.objects ≤ n → Clear (IsKeptFault link)
Clear-from link live facts n whole is all clear le = record {
  none = λ e f.
      let z = zip_right AreFacts link.objects facts f.unit.object f.object all f.here in
      let found = z.2.faults.every f.unit.unit f.cause f.fault in
      let within : f.unit.object < length link.objects = slice_get_within link.objects f.unit.object f.object f.here in
      let here : get_or link.objects f.unit.object f.object ≡ f.object = same_Some _ f.object (sym (slice_get-get_or link.objects f.unit.object f.object within) ∙ f.here) in
      let fits : IsWhole f.object = rw here at (All-from_recursion IsWhole link.objects whole f.unit.object f.object within) in
      let there : exists (units_of link.objects) f.unit ≡ true = subst (λ (n : UnitCounts). has_unit n f.unit.unit ≡ true) (sym (units_of-at link.objects f.unit.object f.object f.here)) (fault_exists f.object f.unit.unit f.cause fits f.fault) in
      let on : is_live live f.unit ≡ true = is.every f.unit there f.kept in
      clear f.unit.object z.0 (omega arith) z.1 found.0 found.1
      (rw found.2 on);
}

pub Refuses-from : (link : Link) (live : Live) (facts : List Facts) (k : ℕ) (f : Facts) (e : ReadError) → IsLiveOf link live → AreAllFacts link.objects facts → slice_get facts k ≡ Some f → IsKeptOne live k f.faults e → Refuses (IsKeptFault link) (object_refusal k e)
Refuses-from link live facts k f e is all at kept =
    let z = zip_left AreFacts link.objects facts k f all at in
    record {
      cause_is = λ other. record {
        unit = record { object = k; unit = kept.0.unit };
        kept = is.only (record { object = k; unit = kept.0.unit }) kept.2;
        object = z.0;
        here = z.1;
        cause = kept.0.error;
        fault = z.2.faults.only kept.0 kept.1;
        told = ap (λ (x : ReadError). object_refusal k x) (sym kept.3);
      };
    }
