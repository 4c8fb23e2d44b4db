-- The types of an object have no more parameters and results than the object has bytes.
use Rattle.std.proofs.Common.{◌≡◌, ℕ, zero, suc, ◌+◌, ◌≤◌, Bool, true, false, cond, codes, nat_eq, List, [], ◌∷◌, ◌++◌, length, Some, slice_get, ap, arith, length-append}
use Rattle.std.specs.List.{starts_with}
use Rattle.std.specs.Str.{bytes_eq}
use Rattle.wl_bytes.specs.declared.reader.TheConstants.{MAX_LEN}
use Rattle.wl_bytes.specs.Grammar.{Items}
use Rattle.wl_module.specs.declared.section_kind.SectionKind.{SectionKind}
use Rattle.wl_module.specs.declared.section_kind.SectionKind.TheVariants as kind
use Rattle.wl_module.specs.declared.types.ValType.{ValType}
use Rattle.wl_bytes.specs.Chains.{Chain}
use Rattle.wl_bytes.specs.Lists.{Listed}
use Rattle.wl_module.specs.SectionKinds.{is_custom}
use Rattle.wl_module.specs.Sections.{Section, IsContentOf, IsSection, next, magic, sections_in_turn}
use Rattle.wl_module.specs.Types.{FunctionType, IsValueType, IsFuncType, AreTypes}
use Rattle.wl_linking.specs.Fitting.{IsWhole}
use Rattle.wl_linking.specs.Object.{Object}
use Rattle.wl_linking.specs.Parts.{no_parts, join, part_of}
use Rattle.wl_linking.specs.Sections.{SectionContext, section_context, HoldsCustom, HoldsItems, AreSound}
use Rattle.wl_linking.specs.Targets.{custom_kind}

-- ---- how many parameters and results there are

-- of a type
abbrev pub values_of : FunctionType → ℕ
values_of t = length t.params + length t.results

-- of some types
abbrev pub all_values : List FunctionType → ℕ
all_values [] = 0
all_values (t ∷ ts) = values_of t + all_values ts

all_values-append : (ts us : List FunctionType) → all_values (ts ++ us) ≡ all_values ts + all_values us
all_values-append [] us = omega arith
all_values-append (t ∷ ts) us = omega (arith, all_values-append ts us)

-- one of some types has no more than all of them
one_of_all : (ts : List FunctionType) (number : ℕ) (t : FunctionType) → slice_get ts number ≡ Some t → values_of t ≤ all_values ts
one_of_all [] number t there = grind (arith, there)
one_of_all (u ∷ ts) zero t there = grind (arith, there)
one_of_all (u ∷ ts) (suc number) t there = omega (arith, one_of_all ts number t there)

-- ---- what bytes spell

-- a byte for each value type
values_within : (place : ℕ) (vs : List ValType) (text : List ℕ) → Items IsValueType place vs text → length vs ≤ length text
values_within place [] text h = omega arith
values_within place (v ∷ vs) text (front, back, parts, one, rest) =
    let others = values_within (place + length front) vs back rest in
    omega (arith, others, ap length one, ap length parts, length-append front back)

list_within : (place : ℕ) (vs : List ValType) (text : List ℕ) → Listed IsValueType place vs text → length vs ≤ length text
list_within place vs text (head, body, parts, number, items) =
    let few = values_within (place + length head) vs body items in
    omega (arith, few, ap length parts, length-append head body)

type_within : (place : ℕ) (t : FunctionType) (text : List ℕ) → IsFuncType place t text → values_of t ≤ length text
type_within place t text (p, (front, back, parts, mark, (params, results, behind, first, second)), is) =
    let few = list_within (place + length front) p.1.0 params first in
    let few' = list_within (place + length front + length params) p.1.1 results second in
    rw (← is) (omega (arith, few, few', ap length parts, length-append front back, ap length behind, length-append params results))

items_within : (place : ℕ) (ts : List FunctionType) (text : List ℕ) → Items IsFuncType place ts text → all_values ts ≤ length text
items_within place [] text h = omega arith
items_within place (t ∷ ts) text (front, back, parts, one, rest) =
    let first = type_within place t front one in
    let others = items_within (place + length front) ts back rest in
    omega (arith, first, others, ap length parts, length-append front back)

types_within : (ts : List FunctionType) (payload : List ℕ) → AreTypes ts payload → all_values ts ≤ length payload
types_within ts payload (head, body, parts, number, items) =
    let few = items_within (0 + length head) ts body items in
    omega (arith, few, ap length parts, length-append head body)

-- ---- what sections hold

-- what follows from both kinds of a custom section follows from the one that a test chooses
by_test : {G : Type 0} (context : SectionContext) (s : Section) (items : _) (payload : List ℕ) (b : Bool) (x y : _)
    → (HoldsCustom x context s items payload → G) → (HoldsCustom y context s items payload → G) → HoldsCustom (cond b x y) context s items payload → G
by_test context s items payload true x y first second h = first h
by_test context s items payload false x y first second h = second h

-- a custom section holds no types, whichever of the five kinds its name gives
custom_within : (context : SectionContext) (s : Section) (items : _) (payload : List ℕ) → HoldsCustom (custom_kind s.name) context s items payload → all_values (part_of items).types ≤ length payload
custom_within context s items payload =
    by_test context s items payload (bytes_eq s.name (codes "linking")) _ _ (λ h. rw h.1 (omega arith))
    (by_test context s items payload (starts_with nat_eq s.name (codes "reloc.")) _ _ (λ h. rw h.1 (omega arith))
    (by_test context s items payload (starts_with nat_eq s.name (codes ".debug_")) _ _ (λ is. rw is (omega arith))
    (by_test context s items payload (bytes_eq s.name (codes "target_features")) _ _ (λ h. rw h.1 (omega arith)) (λ is. rw is (omega arith)))))

-- no more than its payload has bytes
part_within : (k : SectionKind) (context : SectionContext) (s : Section) (items : _) (payload : List ℕ) → HoldsItems k context s items payload → all_values (part_of items).types ≤ length payload
part_within kind.Custom context s items payload h = custom_within context s items payload h
part_within kind.Type context s items payload (ts, is, h) = rw is (types_within ts payload h)
part_within kind.Import context s items payload (x, is, h) = rw is (omega arith)
part_within kind.Function context s items payload (x, is, h) = rw is (omega arith)
part_within kind.Table context s items payload h = absurd h
part_within kind.Memory context s items payload (x, is, h) = rw is (omega arith)
part_within kind.Global context s items payload (x, is, h) = rw is (omega arith)
part_within kind.Export context s items payload (x, is, h) = rw is (omega arith)
part_within kind.Start context s items payload h = absurd h
part_within kind.Element context s items payload is = rw is (omega arith)
part_within kind.Code context s items payload (x, is, h) = rw is (omega arith)
part_within kind.Data context s items payload (x, is, h) = rw is (omega arith)
part_within kind.DataCount context s items payload (x, is, h) = rw is (omega arith)
part_within kind.Tag context s items payload h = absurd h

-- the payload of a section is no longer than the section
payload_within : (last place : ℕ) (s : Section) (text : List ℕ) → IsSection last place s text → length s.payload ≤ length text
payload_within last place s text ((k, (n, x)), (front, back, parts, id, (head, content, behind, number, (len, may, is))), same) =
    rw (← same) (omega (arith, within (is_custom k) content is, ap length parts, length-append front back, ap length behind, length-append head content))
  where
    within : (b : Bool) (text : List ℕ) → IsContentOf b k (place + length front + length head) x text → length x.payload ≤ length text
    within true text (h, whole, number', utf8, is') = omega (arith, ap length whole, length-append h (x.name ++ x.payload), length-append x.name x.payload)
    within false text is' = rw is' (omega arith)

-- all sections hold no more than they have bytes
all_within : (sections : List Section) (before : _) (last place : ℕ) (ss : List Section) (text : List ℕ) (after : _) → Chain sections_in_turn last place ss text → AreSound sections before ss after
    → all_values after.types ≤ all_values before.types + length text
all_within sections before last place [] text after chain is = rw (← is) (omega arith)
all_within sections before last place (s ∷ ss) text after (front, back, parts, here, rest) (items, sound, more) =
    let first = part_within s.kind (section_context sections before) s items s.payload sound in
    let others = all_within sections (join before (part_of items)) (next last s) (place + length front) ss back after rest more in
    omega (arith, first, others, all_values-append before.types (part_of items).types, payload_within last place s front here, ap length parts, length-append front back)

-- ---- the types of an object

-- they have no more parameters and results than an object may have bytes
object_within : (o : Object) → IsWhole o → all_values o.types ≤ MAX_LEN
object_within o w =
    let h = w.object in
    let all = all_within h.sections no_parts 0 8 h.sections h.framed.0 h.parts h.framed.2 h.sound in
    omega (arith, all, w.within, ap length h.framed.1, length-append magic h.framed.0, ap (λ (x : Object). all_values x.types) h.items.items)

-- so each of them is short
pub types_short : (o : Object) (number : ℕ) (t : FunctionType) → IsWhole o → slice_get o.types number ≡ Some t
    → (length t.params ≤ MAX_LEN) × (length t.results ≤ MAX_LEN)
types_short o number t w there =
    let all = object_within o w in
    let one = one_of_all o.types number t there in
    (omega (arith, all, one), omega (arith, all, one))
