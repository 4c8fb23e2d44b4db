-- Kept slots, object by object.
use Rattle.std.proofs.Common.{◌≡◌, ◌∙◌, ℕ, suc, ◌+◌, ◌<◌, Bool, List, ◌∷◌, ◌++◌, length, drop, filter, refl, sym, ap, arith, append_assoc}
use Rattle.std.proofs.lemmas.List.Elements.{filter-append}
use Rattle.wl_linking.specs.Object.{Object}
use Rattle.wl_custom.specs.declared.symbols.WasmSymbolKind.{WasmSymbolKind}
use Rattle.wl_symbols.specs.ImportSlots.{ImportSlot, import_slots}
use Rattle.wl_symbols.specs.KeptSlots.{slots_from}
use Rattle.wl_lists.proofs.Splits.{splits}

-- those of one more object
pub slots_more : (kind : WasmSymbolKind) (objects : List Object) (k : ℕ) → k < length objects
    → slots_from kind k (drop k objects) ≡ import_slots objects k kind ++ slots_from kind (k + 1) (drop (k + 1) objects)
slots_more kind objects k lt =
    let s = splits objects k lt in
    let e : k + 1 ≡ suc k = omega arith in
    let split : drop k objects ≡ s.x ∷ drop (k + 1) objects = rw e s.split in
    rw (split, s.here) refl

-- those of one more object that pass
pub kept_more : (test : ImportSlot → Bool) (kind : WasmSymbolKind) (objects : List Object) (k : ℕ) (kept new all : List ImportSlot) → k < length objects
    → new ≡ kept ++ filter test (import_slots objects k kind) → kept ++ filter test (slots_from kind k (drop k objects)) ≡ all
    → new ++ filter test (slots_from kind (k + 1) (drop (k + 1) objects)) ≡ all
kept_more test kind objects k kept new all lt is so =
    let here : List ImportSlot = filter test (import_slots objects k kind) in
    let rest : List ImportSlot = filter test (slots_from kind (k + 1) (drop (k + 1) objects)) in
    let step : filter test (slots_from kind k (drop k objects)) ≡ here ++ rest =
    ap (filter test) (slots_more kind objects k lt) ∙ filter-append test (import_slots objects k kind) (slots_from kind (k + 1) (drop (k + 1) objects)) in
    ap (λ (t : List ImportSlot). t ++ rest) is ∙ append_assoc kept here rest ∙ (ap (λ (t : List ImportSlot). kept ++ t) (sym step) ∙ so)

-- and by two tests, one after the other
pub left_more : (test later : ImportSlot → Bool) (kind : WasmSymbolKind) (objects : List Object) (k : ℕ) (left new all : List ImportSlot) → k < length objects
    → new ≡ left ++ filter later (filter test (import_slots objects k kind)) → left ++ filter later (filter test (slots_from kind k (drop k objects))) ≡ all
    → new ++ filter later (filter test (slots_from kind (k + 1) (drop (k + 1) objects))) ≡ all
left_more test later kind objects k left new all lt is so =
    let here : List ImportSlot = filter later (filter test (import_slots objects k kind)) in
    let rest : List ImportSlot = filter later (filter test (slots_from kind (k + 1) (drop (k + 1) objects))) in
    let both : List ImportSlot → List ImportSlot = λ (t : List ImportSlot). filter later (filter test t) in
    let step : filter later (filter test (slots_from kind k (drop k objects))) ≡ here ++ rest =
    ap both (slots_more kind objects k lt)
    ∙ (ap (filter later) (filter-append test (import_slots objects k kind) (slots_from kind (k + 1) (drop (k + 1) objects)))
    ∙ filter-append later (filter test (import_slots objects k kind)) (filter test (slots_from kind (k + 1) (drop (k + 1) objects)))) in
    ap (λ (t : List ImportSlot). t ++ rest) is ∙ append_assoc left here rest ∙ (ap (λ (t : List ImportSlot). left ++ t) (sym step) ∙ so)
