-- Fixups one after the other.
use Rattle.std.proofs.Common.{◌≡◌, ◌<◌, ℕ, zero, suc, List, [], ◌∷◌, ◌++◌, length, get_or, refl, sym, subst, arith, Contains}
use Rattle.std.specs.List.{AllByRecursion, AllZip}
use Rattle.std.proofs.lemmas.List.Elements.{Contains-append_right}
use Rattle.wl_linking.specs.Steps.{Clear, Refuses}
use Rattle.wl_linking.specs.declared.error.LinkError.{LinkError}
use Rattle.wl_symbols.specs.Relocations.{relocations}
use Rattle.wl_symbols.specs.declared.relocated.Relocated.{Relocated}
use Rattle.wl_plan.specs.steps.Fixups.{IsRefusedAt, NoneRefused}
use Rattle.wl_plan.specs.Fixups.{IsFixupFault}
use Rattle.wl_plan.specs.declared.fixups.FixupSources.{FixupSources}
use Rattle.wl_lists.proofs.Beside.{zip_joined}
use Rattle.wl_plan.proofs.FixupLaws.{field_reason}

-- ---- the relocation at hand

-- it follows those that were seen
next_is : {X : Type 0} (all seen left more : List X) (x : X) → seen ++ left ≡ all
    → left ≡ x ∷ more → seen ++ x ∷ more ≡ all
next_is all seen left more x is steps = rw (← steps) is

pub next_is_kept : (all seen left more : List Relocated) (r : Relocated) → seen ++ left ≡ all
    → left ≡ r ∷ more → Contains all r
next_is_kept all seen left more r is steps =
    subst (λ (rs : List Relocated). Contains rs r) (next_is all seen left more r is steps)
    (Contains-append_right seen (r ∷ more) r (0, omega arith, refl))

-- ---- lists side by side

-- one more on both sides
pub zip_more : {X Y : Type 0} (R : X → Y → Type 0) (xs : List X) (x : X) (old new : List Y) (y : Y)
    → AllZip R xs old → R x y → new ≡ old ++ y ∷ [] → AllZip R (xs ++ x ∷ []) new
zip_more R xs x old new y h r pushed = rw pushed (zip_joined R xs (x ∷ []) old (y ∷ []) h (r, tt))

pub all_more : {X : Type 0} (P : X → Type 0) (xs : List X) (x : X) → AllByRecursion P xs → P x
    → AllByRecursion P (xs ++ x ∷ [])
all_more P [] x h p = (p, tt)
all_more P (z ∷ xs) x h p = (h.0, all_more P xs x h.1 p)

one_from : {X : Type 0} (P : X → Type 0) (xs : List X) (x : X) (k : ℕ) → k < length xs
    → get_or xs k x ≡ x → AllByRecursion P xs → P x
one_from P [] x k lt is h = absurd (omega (arith, lt))
one_from P (z ∷ xs) x zero lt is h = subst P is h.0
one_from P (z ∷ xs) x (suc k) lt is h = one_from P xs x k (omega (arith, lt)) is h.1

-- ---- refusals

pub one_refused : (s : FixupSources) (r : Relocated) (e : LinkError)
    → Contains (relocations s.book.now.input.now) r → IsRefusedAt s r e
    → Refuses (IsFixupFault s.book.now.input.now s.book.now.placing.now) e
one_refused s r e kept h = record {
  cause_is = λ other. record {
    relocated = r;
    kept = kept;
    base = h.base;
    takes = h.takes;
    why = h.why;
    fault = h.fault;
    reason = field_reason s.book.now.input.now s.book.now.placing.now r h.base h.why h.fault;
    told = h.told;
  };
}

refused_of : (s : FixupSources) (e : LinkError) (h : IsFixupFault s.book.now.input.now s.book.now.placing.now e)
    → IsRefusedAt s h.relocated e
refused_of s e h =
    record { base = h.base; takes = h.takes; why = h.why; fault = h.fault; told = h.told }

pub none_refused : (s : FixupSources) (rs : List Relocated) → rs ≡ relocations s.book.now.input.now
    → NoneRefused s rs → Clear (IsFixupFault s.book.now.input.now s.book.now.placing.now)
none_refused s rs is all = record {
  none = λ e h. (let among = subst (λ (xs : List Relocated). Contains xs h.relocated) (sym is) h.kept in
      (one_from (λ (r : Relocated). Clear (IsRefusedAt s r)) rs h.relocated among.0 among.1 among.2
      all).none e (refused_of s e h));
}
