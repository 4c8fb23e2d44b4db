-- The slots of an object, and one more symbol.
use Rattle.std.proofs.Common.{◌≡◌, ◌∙◌, ℕ, zero, suc, ◌+◌, ◌<◌, ◌≤◌, ◌==◌, true, false, ◌&&◌, if◌then◌else◌, List, [], ◌∷◌, ◌++◌, length, refl, sym, ap, arith, inl, inr, set, get_or, take, length-take}
use Rattle.std.proofs.lemmas.Bool.{cases_Bool, eqb-true, eqb-false}
use Rattle.std.proofs.Math.Seq.{take-suc}
use Rattle.wl_module.specs.Imports.{Imported}
use Rattle.wl_custom.specs.Symbols.{Symbol, is_undefined}
use Rattle.wl_custom.specs.declared.symbols.WasmSymbolKind.{WasmSymbolKind}
use Rattle.wl_symbols.specs.LinkerNames.{is_imported_as}
use Rattle.wl_symbols.specs.ImportSlots.{ImportSlot, is_on, numbered_slots}
use Rattle.wl_symbols.specs.SlotSteps.{with_symbol, with_symbol_at}
use Rattle.wl_symbols.proofs.ImportLaws.{numbers_with, numbers_without, on_none, on_other, on_this}

-- ---- one place of a list of slots

-- the slot of that place is put there with one more symbol
pub put_there : (slots : List ImportSlot) (place symbol : ℕ) (t : ImportSlot) → place < length slots → t ≡ get_or slots place t
    → set slots place (with_symbol symbol t) ≡ with_symbol_at place symbol slots
put_there [] place symbol t lt is = absurd (omega (arith, lt))
put_there (x ∷ slots) zero symbol t lt is = ap (λ (y : ImportSlot). with_symbol symbol y ∷ slots) is
put_there (x ∷ slots) (suc place) symbol t lt is = ap (λ (ts : List ImportSlot). x ∷ ts) (put_there slots place symbol t (omega (arith, lt)) is)

-- there is not_so slot at that place
pub put_nowhere : (slots : List ImportSlot) (place symbol : ℕ) → length slots ≤ place → with_symbol_at place symbol slots ≡ slots
put_nowhere [] place symbol le = refl
put_nowhere (x ∷ slots) zero symbol le = absurd (omega (arith, le))
put_nowhere (x ∷ slots) (suc place) symbol le = ap (λ (ts : List ImportSlot). x ∷ ts) (put_nowhere slots place symbol (omega (arith, le)))

-- ---- one more symbol

-- it is on none of these slots
same_slots : (object : ℕ) (kind : WasmSymbolKind) (ss : List Symbol) (s : Symbol) (n : ℕ) (is : List Imported)
    → ((m : ℕ) → n ≤ m → is_on kind m s ≡ false)
    → numbered_slots object kind (ss ++ s ∷ []) n is ≡ numbered_slots object kind ss n is
same_slots object kind ss s n [] none = refl
same_slots object kind ss s n (i ∷ is) none =
    rw (numbers_without (is_on kind n) ss s (none n (omega arith)), same_slots object kind ss s (n + 1) is (λ m le. none m (omega (arith, le)))) refl

apart : (a b : ℕ) → (a ≡ b → ⊥) → (a == b) ≡ false
apart a b ne = elim (cases_Bool (a == b)) [
  | inl e ↦ absurd (ne (eqb-true a b e))
  | inr e ↦ e
]

same : (a b : ℕ) → a ≡ b → (a == b) ≡ true
same a b is = elim (cases_Bool (a == b)) [
  | inl e ↦ e
  | inr e ↦ absurd (eqb-false a b e is)
]

-- it is on the slot of its number, if that is one of these
placed_slots : (object : ℕ) (kind : WasmSymbolKind) (ss : List Symbol) (s : Symbol) (n p : ℕ) (is : List Imported)
    → (is_undefined s && is_imported_as kind s.kind) ≡ true → s.index ≡ n + p
    → numbered_slots object kind (ss ++ s ∷ []) n is ≡ with_symbol_at p (length ss) (numbered_slots object kind ss n is)
placed_slots object kind ss s n p [] so at = refl
placed_slots object kind ss s n zero (i ∷ is) so at =
    let here : (s.index == n) ≡ true = same s.index n (omega (arith, at)) in
    rw (
      numbers_with (is_on kind n) (length ss) ss s refl (on_this kind n s so here),
      same_slots object kind ss s (n + 1) is (λ m le. on_other kind m s (apart s.index m (λ e. omega (arith, le, e, at)))),
    ) refl
placed_slots object kind ss s n (suc p) (i ∷ is) so at =
    rw (
      numbers_without (is_on kind n) ss s (on_other kind n s (apart s.index n (λ e. omega (arith, e, at)))),
      placed_slots object kind ss s (n + 1) p is so (omega (arith, at)),
    ) refl

-- the slots with one more symbol are those of one more symbol
pub slots_more : (object : ℕ) (kind : WasmSymbolKind) (ss : List Symbol) (s : Symbol) (is : List Imported) (number : ℕ) (old new : List ImportSlot)
    → number ≡ length ss → old ≡ numbered_slots object kind ss 0 is
    → new ≡ (if is_undefined s && is_imported_as kind s.kind then with_symbol_at s.index number old else old)
    → new ≡ numbered_slots object kind (ss ++ s ∷ []) 0 is
slots_more object kind ss s is number old new n o e = elim (cases_Bool (is_undefined s && is_imported_as kind s.kind)) [
  | inl so ↦ (let there : new ≡ with_symbol_at s.index number old = rw so at e in
      there ∙ (rw (n, o) (sym (placed_slots object kind ss s 0 s.index is so (omega arith)))))
  | inr not_so ↦ (let there : new ≡ old = rw not_so at e in
      there ∙ (o ∙ sym (same_slots object kind ss s 0 is (λ m le. on_none kind m s not_so))))
]

taken_length : {X : Type 0} (i : ℕ) (xs : List X) → i < length xs → i ≡ length (take i xs)
taken_length i xs lt = omega (arith, lt, length-take i xs)

-- the same of the first of the symbols
pub slots_taken : (object : ℕ) (kind : WasmSymbolKind) (symbols : List Symbol) (i : ℕ) (s : Symbol) (is : List Imported) (old new : List ImportSlot)
    → i < length symbols → s ≡ get_or symbols i s → old ≡ numbered_slots object kind (take i symbols) 0 is
    → new ≡ (if is_undefined s && is_imported_as kind s.kind then with_symbol_at s.index i old else old)
    → new ≡ numbered_slots object kind (take (i + 1) symbols) 0 is
slots_taken object kind symbols i s is old new lt here o e =
    let more : take (suc i) symbols ≡ take i symbols ++ s ∷ [] = take-suc symbols i s lt ∙ ap (λ (x : Symbol). take i symbols ++ x ∷ []) (sym here) in
    let next : i + 1 ≡ suc i = omega arith in
    rw (next, more) (slots_more object kind (take i symbols) s is i old new (taken_length i symbols lt) o e)
