-- The symbols on slots, and one more symbol.
use Rattle.std.proofs.Common.{◌≡◌, ◌∙◌, ℕ, ◌+◌, ◌==◌, Bool, true, false, ◌&&◌, if◌then◌else◌, List, [], ◌∷◌, ◌++◌, length, refl, sym, ap, arith, inl, inr, append-nil}
use Rattle.std.proofs.lemmas.Bool.{cases_Bool}
use Rattle.std.proofs.lemmas.List.{append_assoc}
use Rattle.wl_custom.specs.Symbols.{Symbol, is_undefined}
use Rattle.wl_custom.specs.declared.symbols.WasmSymbolKind.{WasmSymbolKind}
use Rattle.wl_symbols.specs.LinkerNames.{is_imported_as}
use Rattle.wl_symbols.specs.ImportSlots.{numbers_where, is_on}

-- the numbers of those that pass, with one more at the end
pub numbers_more : {X : Type 0} (test : X → Bool) (n m : ℕ) (xs : List X) (x : X) → m ≡ n + length xs
    → numbers_where test n (xs ++ x ∷ []) ≡ numbers_where test n xs ++ (if test x then m ∷ [] else [])
numbers_more test n m [] x e = let same : m ≡ n = omega (arith, e) in rw (same, append-nil (if test x then n ∷ [] else [])) refl
numbers_more {X} test n m (y ∷ xs) x e =
    let first : List ℕ = if test y then n ∷ [] else [] in
    let rest : m ≡ n + 1 + length xs = omega (arith, e) in
    ap (λ (ns : List ℕ). first ++ ns) (numbers_more test (n + 1) m xs x rest)
    ∙ sym (append_assoc first (numbers_where test (n + 1) xs) (if test x then m ∷ [] else []))

-- it passes
pub numbers_with : {X : Type 0} (test : X → Bool) (m : ℕ) (xs : List X) (x : X) → m ≡ length xs → test x ≡ true
    → numbers_where test 0 (xs ++ x ∷ []) ≡ numbers_where test 0 xs ++ m ∷ []
numbers_with test m xs x e so = numbers_more test 0 m xs x (omega (arith, e)) ∙ rw so refl

-- it doesn't
pub numbers_without : {X : Type 0} (test : X → Bool) (xs : List X) (x : X) → test x ≡ false
    → numbers_where test 0 (xs ++ x ∷ []) ≡ numbers_where test 0 xs
numbers_without test xs x not_so =
    numbers_more test 0 (length xs) xs x (omega arith) ∙ (rw not_so (append-nil (numbers_where test 0 xs)))

-- ---- tests of symbols

-- a symbol stands for not_so import of that kind
pub on_none : (kind : WasmSymbolKind) (n : ℕ) (s : Symbol) → (is_undefined s && is_imported_as kind s.kind) ≡ false → is_on kind n s ≡ false
on_none kind n s not_so = elim (cases_Bool (is_undefined s)) [
  | inl u ↦ elim (cases_Bool (is_imported_as kind s.kind)) [
    | inl k ↦ absurd (let both : true ≡ false = rw (u, k) at not_so in cc)
    | inr k ↦ rw (u, k) refl
  ]
  | inr u ↦ rw u refl
]

-- a symbol stands for the import of another number
pub on_other : (kind : WasmSymbolKind) (n : ℕ) (s : Symbol) → (s.index == n) ≡ false → is_on kind n s ≡ false
on_other kind n s not_so = elim (cases_Bool (is_undefined s)) [
  | inl u ↦ elim (cases_Bool (is_imported_as kind s.kind)) [
    | inl k ↦ rw (u, k) not_so
    | inr k ↦ rw (u, k) refl
  ]
  | inr u ↦ rw u refl
]

-- it stands for that of this number
pub on_this : (kind : WasmSymbolKind) (n : ℕ) (s : Symbol) → (is_undefined s && is_imported_as kind s.kind) ≡ true → (s.index == n) ≡ true
    → is_on kind n s ≡ true
on_this kind n s so same = elim (cases_Bool (is_undefined s)) [
  | inl u ↦ elim (cases_Bool (is_imported_as kind s.kind)) [
    | inl k ↦ rw (u, k) same
    | inr k ↦ absurd (let both : false ≡ true = rw (u, k) at so in cc)
  ]
  | inr u ↦ absurd (let both : false ≡ true = rw u at so in cc)
]
