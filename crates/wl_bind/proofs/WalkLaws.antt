-- Going through the slots of a kind of an object.
use Rattle.std.proofs.Common.{◌≡◌, ◌∙◌, ℕ, ◌+◌, ◌<◌, ◌≤◌, true, false, List, ◌∷◌, length, refl, sym, ap, get_or, drop}
use Rattle.std.proofs.lemmas.List.{drop_all}
use Rattle.wl_module.specs.Imports.{Imported}
use Rattle.wl_custom.specs.declared.symbols.WasmSymbolKind.{WasmSymbolKind}
use Rattle.wl_symbols.specs.ImportSlots.{is_slot_of, slot_imports}
use Rattle.wl_bind.specs.Stepped.{stepped_behind, step_at}
use Rattle.wl_bind.proofs.ListLaws.{next_is, drop_here}
use Rattle.wl_bind.proofs.SteppedLaws.{behind_more, behind_end}

pub slots_here : (kind : WasmSymbolKind) (i : Imported) (rest : List Imported) → is_slot_of kind i.entity ≡ true
    → slot_imports kind (i ∷ rest) ≡ i ∷ slot_imports kind rest
slots_here kind i rest so = rw so refl

pub slots_behind : (kind : WasmSymbolKind) (i : Imported) (rest : List Imported) → is_slot_of kind i.entity ≡ false
    → slot_imports kind (i ∷ rest) ≡ slot_imports kind rest
slots_behind kind i rest so = rw so refl

module _ {Y : Type 0} (step : ℕ → Imported → Y → Y) (kind : WasmSymbolKind) where
  -- what is left to do after the first slots
  abbrev left_at : ℕ → List Imported → List Y → List Y
  left_at n items ys = stepped_behind step n n (slot_imports kind items) ys

  -- an import that has a slot
  pub walk_slot : (items : List Imported) (k n m : ℕ) (i : Imported) (ys zs all : List Y) → k < length items → i ≡ get_or items k i
      → is_slot_of kind i.entity ≡ true → m ≡ n + 1 → zs ≡ step_at step n n i ys → left_at n (drop k items) ys ≡ all
      → left_at m (drop (k + 1) items) zs ≡ all
  walk_slot items k n m i ys zs all lt at so next new rest =
      let slots : slot_imports kind (drop k items) ≡ i ∷ slot_imports kind (drop (k + 1) items) =
      ap (slot_imports kind) (drop_here items k i lt at) ∙ slots_here kind i (drop (k + 1) items) so in
      let more = behind_more step ys n n i (slot_imports kind (drop (k + 1) items)) in
      rw (next, new)
      (ap (λ (m : ℕ). stepped_behind step m (n + 1) (slot_imports kind (drop (k + 1) items)) (step_at step n n i ys)) (sym (next_is n))
      ∙ (sym more ∙ (ap (λ (is : List Imported). stepped_behind step n n is ys) (sym slots) ∙ rest)))

  -- another import
  pub walk_other : (items : List Imported) (k n m : ℕ) (i : Imported) (ys zs all : List Y) → k < length items → i ≡ get_or items k i
      → is_slot_of kind i.entity ≡ false → m ≡ n → zs ≡ ys → left_at n (drop k items) ys ≡ all
      → left_at m (drop (k + 1) items) zs ≡ all
  walk_other items k n m i ys zs all lt at so next new rest =
      let slots : slot_imports kind (drop k items) ≡ slot_imports kind (drop (k + 1) items) =
      ap (slot_imports kind) (drop_here items k i lt at) ∙ slots_behind kind i (drop (k + 1) items) so in
      rw (next, new) (ap (λ (is : List Imported). stepped_behind step n n is ys) (sym slots) ∙ rest)

  -- the last import
  pub walk_end : (items : List Imported) (k n : ℕ) (ys all : List Y) → length items ≤ k → left_at n (drop k items) ys ≡ all → ys ≡ all
  walk_end items k n ys all le rest =
      sym (behind_end step ys n n) ∙ (ap (λ (is : List Imported). left_at n is ys) (sym (drop_all k items le)) ∙ rest)
