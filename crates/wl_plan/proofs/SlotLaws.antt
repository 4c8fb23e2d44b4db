-- How many functions the table has, and their slots.
use Rattle.std.proofs.Common.{◌≡◌, ◌≢◌, ◌⊎◌, ◌∙◌, ◌<◌, ◌≤◌, ℕ, zero, suc, ◌+◌, Bool, true, not, eqb, List, [], ◌∷◌, length, get_or, refl, sym, ap, subst, arith, inl, inr, Option, Some, slice_get, slice_index_or, Contains, position, if◌then◌else◌}
use Rattle.std.specs.List.{AllZip, position_or_len, prefix_len}
use Rattle.std.specs.Option.{option_map}
use Rattle.std.proofs.lemmas.Bool.{cases_Bool, eqb-true, eqb-false, eq-eqb, lt-ltb}
use Rattle.std.proofs.lemmas.Option.{slice_get_within}
use Rattle.wl_index.specs.declared.index.TheConstants.{WASM_DEAD_INDEX, MAX_ENTRIES}
use Rattle.wl_bind.specs.FunctionSpace.{FunctionEntry, FunctionOf, function_space}
use Rattle.wl_symbols.specs.Input.{Input}
use Rattle.wl_bind.specs.References.{HasSlot}
use Rattle.wl_bind.specs.Sameness.{same_target}
use Rattle.wl_bind.specs.Scan.{table_functions}
use Rattle.wl_bind.specs.declared.binding.FunctionTarget.{FunctionTarget}
use Rattle.wl_bind.specs.declared.binding.FunctionTarget.TheVariants.{Defined, Made, Host, Stub}
use Rattle.wl_plan.specs.Table.{slot_of, slot_behind_first, IsElement, AreElements}

-- ---- different numbers below a bound

cases_eq : (a b : ℕ) → (a ≡ b) ⊎ (a ≢ b)
cases_eq a b = elim (cases_Bool (eqb a b)) [
  | inl same ↦ inl (eqb-true a b same)
  | inr other ↦ inr (eqb-false a b other)
]

-- in the place of the greatest number another one
moved : ℕ → ℕ → (ℕ → ℕ) → ℕ → ℕ
moved m v e k = if eqb (e k) m then v else e k

moved_at : (m v : ℕ) (e : ℕ → ℕ) (k : ℕ) → e k ≡ m → moved m v e k ≡ v
unfolding moved
moved_at m v e k is = rw (eq-eqb (e k) m is) refl

moved_not : (m v : ℕ) (e : ℕ → ℕ) (k : ℕ) → e k ≢ m → moved m v e k ≡ e k
unfolding moved
moved_not m v e k is = elim (cases_Bool (eqb (e k) m)) [
  | inl same ↦ absurd (is (eqb-true (e k) m same))
  | inr other ↦ rw other refl
]

-- the numbers of the first places are below that bound, and no two are the same
record AreApart (m n : ℕ) (e : ℕ → ℕ) : Type 0 where
  below : (k : ℕ) → k < n → e k < m
  apart : (i k : ℕ) → i < n → k < n → e i ≡ e k → i ≡ k

moved_below : (m n : ℕ) (e : ℕ → ℕ) → AreApart (suc m) (suc n) e → (k : ℕ) → k < n
    → moved m (e n) e k < m
moved_below m n e h k lt = elim (cases_eq (e k) m) [
  | inl is ↦ elim (cases_eq (e n) m) [
    | inl last ↦ (let same = h.apart k n (omega (arith, lt)) (omega arith) (is ∙ sym last) in
        absurd (omega (arith, same, lt)))
    | inr other ↦ (let at = moved_at m (e n) e k is in
        omega (arith, at, other, h.below n (omega arith)))
  ]
  | inr other ↦ (let at = moved_not m (e n) e k other in
      omega (arith, at, other, h.below k (omega (arith, lt))))
]

moved_apart : (m n : ℕ) (e : ℕ → ℕ) → AreApart (suc m) (suc n) e → (i k : ℕ) → i < n → k < n
    → moved m (e n) e i ≡ moved m (e n) e k → i ≡ k
moved_apart m n e h i k lti ltk same = elim (cases_eq (e i) m) [
  | inl i-is ↦ elim (cases_eq (e k) m) [
    | inl k-is ↦ h.apart i k (omega (arith, lti)) (omega (arith, ltk)) (i-is ∙ sym k-is)
    | inr k-not ↦ (let last = h.apart n k (omega arith) (omega (arith, ltk))
        (sym (moved_at m (e n) e i i-is) ∙ (same ∙ moved_not m (e n) e k k-not)) in
        absurd (omega (arith, last, ltk)))
  ]
  | inr i-not ↦ elim (cases_eq (e k) m) [
    | inl k-is ↦ (let last = h.apart i n (omega (arith, lti)) (omega arith)
        (sym (moved_not m (e n) e i i-not) ∙ (same ∙ moved_at m (e n) e k k-is)) in
        absurd (omega (arith, last, lti)))
    | inr k-not ↦ h.apart i k (omega (arith, lti)) (omega (arith, ltk))
        (sym (moved_not m (e n) e i i-not) ∙ (same ∙ moved_not m (e n) e k k-not))
  ]
]

-- there are no more of them than the bound
few_apart : (m n : ℕ) (e : ℕ → ℕ) → AreApart m n e → n ≤ m
few_apart m zero e h = omega arith
few_apart zero (suc n) e h = absurd (omega (arith, h.below 0 (omega arith)))
few_apart (suc m) (suc n) e h =
    let rest = few_apart m n (moved m (e n) e)
    (record { below = moved_below m n e h; apart = moved_apart m n e h }) in
    omega (arith, rest)

-- ---- functions of the table

record IsThere (input : Input) (fs : List FunctionTarget) (index k : ℕ) : Type 0 where
  target : FunctionTarget
  at : slice_get fs k ≡ Some target
  stands : slice_get (function_space input) index ≡ Some (FunctionOf target)

is_there : (input : Input) (fs : List FunctionTarget) (es : List ℕ) → AllZip (IsElement input) fs es
    → (k : ℕ) → k < length fs → IsThere input fs (get_or es k 0) k
is_there input [] es h k lt = absurd (omega (arith, lt))
is_there input (f ∷ fs) [] h k lt = absurd h
is_there input (f ∷ fs) (e ∷ es) h zero lt = record { target = f; at = refl; stands = h.0 }
is_there input (f ∷ fs) (e ∷ es) h (suc k) lt =
    let rest = is_there input fs es h.1 k (omega (arith, lt)) in
    record { target = rest.target; at = rest.at; stands = rest.stands }

-- facts about functions of the table
pub record TableLaws : Type 0 where
  pub once : (input : Input) (i k : ℕ) (f g : FunctionTarget)
      → slice_get (table_functions input) i ≡ Some f → slice_get (table_functions input) k ≡ Some g
      → same_target f g ≡ true → i ≡ k
  pub itself : (a : FunctionTarget) → same_target a a ≡ true

one_target : (f g : FunctionTarget) → ◌≡◌ {A = Option FunctionEntry} (Some (FunctionOf f)) (Some (FunctionOf g)) → f ≡ g
one_target f g e = cc

pub few_in_table : TableLaws → (input : Input) (es : List ℕ) → AreElements input es
    → length (table_functions input) ≤ length (function_space input)
few_in_table laws input es h =
    few_apart (length (function_space input)) (length (table_functions input)) (λ k. get_or es k 0)
    (record {
      below = λ k lt. (let there = is_there input (table_functions input) es h k lt in
          slice_get_within (function_space input) (get_or es k 0) (FunctionOf there.target) there.stands);
      apart = λ i k lti ltk same. (let first = is_there input (table_functions input) es h i lti in
          let other = is_there input (table_functions input) es h k ltk in
          let one = one_target first.target other.target (sym first.stands
          ∙ (ap (slice_get (function_space input)) same ∙ other.stands)) in
          laws.once input i k first.target other.target first.at other.at
          (subst (λ (t : FunctionTarget). same_target first.target t ≡ true) one
          (laws.itself first.target)));
    })

-- ---- places

before : {X : Type 0} (test : X → Bool) (xs : List X) (x : X) (k : ℕ) → k < length xs
    → slice_index_or xs k x ≡ x → test x ≡ true → prefix_len (λ y. not (test y)) xs < length xs
before test [] x k lt is so = absurd (omega (arith, lt))
before test (y ∷ xs) x zero lt is so =
    let passed : test y ≡ true = ap test is ∙ so in rw passed (omega arith)
before test (y ∷ xs) x (suc k) lt is so = elim (cases_Bool (test y)) [
  | inl passed ↦ rw passed (omega arith)
  | inr fails ↦ (let rest = before test xs x k (omega (arith, lt)) is so in
      rw fails (omega (arith, rest)))
]

-- what is in a list has a place there
pub place_of : {X : Type 0} (test : X → Bool) (xs : List X) (x : X) → Contains xs x → test x ≡ true
    → (p : ℕ) × (position test xs ≡ Some p) × (p < length xs)
place_of test xs x h so =
    let lt = before test xs x h.0 h.1 h.2 so in
    (position_or_len test xs, rw (lt-ltb (position_or_len test xs) (length xs) lt) refl, lt)

-- ---- slots

pub record SlotIs (input : Input) (target : FunctionTarget) : Type 0 where
  pub slot : ℕ
  pub is : slot_of input target ≡ Some slot
  pub low : slot < WASM_DEAD_INDEX

behind_first : (input : Input) (target : FunctionTarget) → same_target target target ≡ true
    → length (table_functions input) ≤ MAX_ENTRIES → Contains (table_functions input) target
    → (slot : ℕ) × (slot_behind_first input target ≡ Some slot) × (slot < WASM_DEAD_INDEX)
behind_first input target itself few h =
    let at = place_of (same_target target) (table_functions input) target h itself in
    (at.0 + 1, ap (option_map (λ (place : ℕ). place + 1)) at.1, omega (arith, at.2, few))

pub slot_is : TableLaws → (input : Input) (target : FunctionTarget)
    → length (table_functions input) ≤ MAX_ENTRIES → HasSlot input target → SlotIs input target
slot_is laws input (Stub object slot) few h = record { slot = 0; is = refl; low = omega arith }
slot_is laws input (Defined object function) few h =
    let s = behind_first input (Defined object function) (laws.itself (Defined object function)) few h in
    record { slot = s.0; is = s.1; low = s.2 }
slot_is laws input (Made m) few h =
    let s = behind_first input (Made m) (laws.itself (Made m)) few h in
    record { slot = s.0; is = s.1; low = s.2 }
slot_is laws input (Host object slot) few h =
    let s = behind_first input (Host object slot) (laws.itself (Host object slot)) few h in
    record { slot = s.0; is = s.1; low = s.2 }
