-- The first slot whose type isn't that of the first of its import.
use Rattle.std.proofs.Common.{◌≡◌, ℕ, ◌+◌, ◌<◌, Bool, true, false, not, List, [], ◌∷◌, ◌++◌, refl, sym, ap, subst, if◌then◌else◌, ◌∙◌, inl, inr, Option, Some, None, find, map, drop, append-nil, append_assoc, length, get_or, position}
use Rattle.std.specs.Cmp.{IsEquivalence}
use Rattle.std.specs.Option.{option_or}
use Rattle.std.specs.Cmp.Lexicographic.{nat_list_eq_equiv}
use Rattle.std.proofs.lemmas.Bool.{cases_Bool}
use Rattle.std.proofs.lemmas.Cmp.{on_equiv, and_equiv, nat_eq_equiv}
use Rattle.std.proofs.lemmas.List.Folds.{find-append}
use Rattle.std.proofs.lemmas.Option.{same_Some}
use Rattle.indexmap.specs.IndexSet.{insert_key, insert_all}
use Rattle.wl_module.specs.SameType.{types_equiv}
use Rattle.wl_module.specs.Types.{FunctionType, value_type_code}
use Rattle.wl_module.specs.declared.globals.GlobalType.{GlobalType}
use Rattle.wl_linking.specs.Object.{Object}
use Rattle.wl_linking.specs.Steps.{Clear, Refuses}
use Rattle.wl_symbols.specs.ImportSlots.{ImportSlot}
use Rattle.wl_symbols.specs.Left.{HostImport, same_field, same_import, first_imports, first_slot, place_of_name, place_of_import}
use Rattle.wl_bind.specs.Conflicts.{same_function_type, global_type, same_global_type, same_slot_type, differs, IsConflict}
use Rattle.wl_bind.specs.ConflictSteps.{SlotPair, slot_at, conflicting, with_first, conflict_from, conflict_of, same_slot, place_among, AreImportsOf}
use Rattle.wl_bind.specs.declared.conflicts.SlotImports.{SlotImports}
use Rattle.wl_bind.specs.declared.conflicts.SlotImports.TheVariants.{Stubs, Hosts}
use Rattle.wl_bind.specs.FunctionTypes.{slot_type}
use Rattle.wl_lists.proofs.Found.{position_map, any_of}
use Rattle.wl_lists.proofs.In.{list_in}
use Rattle.wl_bind.proofs.FindLaws.{find_some, or_none, or_some}
use Rattle.wl_bind.proofs.ListLaws.{find_in_front, none_found, drop_here}
use Rattle.wl_bind.proofs.ListedLaws.{finds_itself}
use Rattle.wl_bind.proofs.LeftLaws.{at_position}

-- ---- slots of one import, and types that are the same

field_equiv : IsEquivalence same_field
field_equiv = on_equiv (λ (t : ImportSlot). t.item.name) nat_list_eq_equiv

import_equiv : IsEquivalence same_import
import_equiv = and_equiv (on_equiv (λ (t : ImportSlot). t.item.origin) nat_list_eq_equiv) (on_equiv (λ (t : ImportSlot). t.item.name) nat_list_eq_equiv)

function_self : (a : Option FunctionType) → same_function_type a a ≡ true
function_self None = refl
function_self (Some t) = types_equiv.refl t

both_or_neither : (b : Bool) → (if b then b else not b) ≡ true
both_or_neither true = refl
both_or_neither false = refl

global_self : (a : Option GlobalType) → same_global_type a a ≡ true
global_self None = refl
global_self (Some g) = rw (nat_eq_equiv.refl (value_type_code g.content_type)) (both_or_neither g.mutable)

type_self : (objects : List Object) (t : ImportSlot) → same_slot_type objects t t ≡ true
type_self objects t = rw (function_self (slot_type objects t)) (global_self (global_type t.item.entity))

-- ---- searches

find_agree : {X : Type 0} (p q : X → Bool) → ((x : X) → p x ≡ q x) → (xs : List X) → find p xs ≡ find q xs
find_agree p q h [] = refl
find_agree p q h (x ∷ xs) = rw (h x, find_agree p q h xs) refl

find_behind : {X : Type 0} (test : X → Bool) (xs more : List X) → find test xs ≡ None → find test (xs ++ more) ≡ find test more
find_behind test xs more e = find-append test xs more ∙ ap (λ o. option_or o (find test more)) e

-- ---- first occurrences

insert_there : (same : ImportSlot → ImportSlot → Bool) (firsts : List ImportSlot) (t f : ImportSlot) → find (same t) firsts ≡ Some f → insert_key same firsts t ≡ firsts
insert_there same firsts t f e = let h = find_some (same t) firsts f e in rw (any_of (same t) firsts f h.0 h.1) refl

insert_new : (same : ImportSlot → ImportSlot → Bool) (firsts : List ImportSlot) (t : ImportSlot) → find (same t) firsts ≡ None → insert_key same firsts t ≡ firsts ++ t ∷ []
insert_new same firsts t e = rw (none_found (same t) firsts e) refl

insert_by : (same : ImportSlot → ImportSlot → Bool) (firsts : List ImportSlot) (t : ImportSlot) (o : Option ImportSlot) → find (same t) firsts ≡ o → insert_key same firsts t ≡ with_first firsts o t
insert_by same firsts t None e = insert_new same firsts t e
insert_by same firsts t (Some f) e = insert_there same firsts t f e

-- with one more, where it is the first of its import
pub insert_first : (same : ImportSlot → ImportSlot → Bool) (firsts : List ImportSlot) (t : ImportSlot) → insert_key same firsts t ≡ with_first firsts (find (same t) firsts) t
insert_first same firsts t = insert_by same firsts t (find (same t) firsts) refl

-- the first ones of a list that goes on go on
grown_by : (same : ImportSlot → ImportSlot → Bool) (firsts : List ImportSlot) (t : ImportSlot) (o : Option ImportSlot) → find (same t) firsts ≡ o → (more : List ImportSlot) × (insert_key same firsts t ≡ firsts ++ more)
grown_by same firsts t None e = (t ∷ [], insert_new same firsts t e)
grown_by same firsts t (Some f) e = ([], insert_there same firsts t f e ∙ sym (append-nil firsts))

grown : (same : ImportSlot → ImportSlot → Bool) (firsts slots : List ImportSlot) → (more : List ImportSlot) × (insert_all same firsts slots ≡ firsts ++ more)
grown same firsts [] = ([], sym (append-nil firsts))
grown same firsts (t ∷ slots) =
    let one = grown_by same firsts t (find (same t) firsts) refl in
    let rest = grown same (insert_key same firsts t) slots in
    (one.0 ++ rest.0, rest.1 ∙ (ap (λ (l : List ImportSlot). l ++ rest.0) one.1 ∙ append_assoc firsts one.0 rest.0))

find_last : (same : ImportSlot → ImportSlot → Bool) → IsEquivalence same → (firsts : List ImportSlot) (t : ImportSlot) → find (same t) firsts ≡ None → find (same t) (firsts ++ t ∷ []) ≡ Some t
find_last same laws firsts t e = find_behind (same t) firsts (t ∷ []) e ∙ rw (laws.refl t) refl

-- ---- one slot

-- a first slot that is of the import of this slot, where the slot has no conflict
pass_by : (objects : List Object) (same : ImportSlot → ImportSlot → Bool) → IsEquivalence same → (firsts slots : List ImportSlot) (t first : ImportSlot) (o : Option ImportSlot)
    → find (same t) firsts ≡ o → conflicting objects o t ≡ None → find (same t) (insert_all same firsts (t ∷ slots)) ≡ Some first → same_slot_type objects first t ≡ true
pass_by objects same laws firsts slots t first (Some f) e none is =
    let more = grown same firsts (t ∷ slots) in
    let found : find (same t) (insert_all same firsts (t ∷ slots)) ≡ Some f = ap (find (same t)) more.1 ∙ find_in_front (same t) firsts more.0 f e in
    let equal : f ≡ first = same_Some f first (sym found ∙ is) in
    elim (cases_Bool (same_slot_type objects f t)) [
      | inl so ↦ subst (λ x. same_slot_type objects x t ≡ true) equal so
      | inr off ↦ absurd (let h : Some (record { first = f; second = t }) ≡ None = rw off at none in cc)
    ]
pass_by objects same laws firsts slots t first None e none is =
    let more = grown same (insert_key same firsts t) slots in
    let found : find (same t) (insert_all same firsts (t ∷ slots)) ≡ Some t =
    ap (find (same t)) more.1 ∙ find_in_front (same t) (insert_key same firsts t) more.0 t (ap (find (same t)) (insert_new same firsts t e) ∙ find_last same laws firsts t e) in
    let equal : t ≡ first = same_Some t first (sym found ∙ is) in
    subst (λ x. same_slot_type objects x t ≡ true) equal (type_self objects t)

pass : (objects : List Object) (same : ImportSlot → ImportSlot → Bool) → IsEquivalence same → (firsts slots : List ImportSlot) (t first : ImportSlot)
    → conflicting objects (find (same t) firsts) t ≡ None → find (same first) (insert_all same firsts (t ∷ slots)) ≡ Some first → differs objects same first t ≡ false
pass objects same laws firsts slots t first none is = elim (cases_Bool (same first t)) [
  | inl on ↦
      let agree = find_agree (same t) (same first) (λ z. sym (laws.congr first t z on)) (insert_all same firsts (t ∷ slots)) in
      let so = pass_by objects same laws firsts slots t first (find (same t) firsts) refl none (agree ∙ is) in
      rw (on, so) refl
  | inr off ↦ rw off refl
]

-- ---- all slots

pub none_differs : (objects : List Object) (same : ImportSlot → ImportSlot → Bool) → IsEquivalence same → (firsts slots : List ImportSlot) (first : ImportSlot)
    → conflict_from objects same firsts slots ≡ None → find (same first) (insert_all same firsts slots) ≡ Some first → find (differs objects same first) slots ≡ None
none_differs objects same laws firsts [] first none is = refl
none_differs objects same laws firsts (t ∷ slots) first none is =
    let next = with_first firsts (find (same t) firsts) t in
    let both = or_none (conflicting objects (find (same t) firsts) t) (conflict_from objects same next slots) none in
    let passed = pass objects same laws firsts slots t first both.0 is in
    let rest = ap (λ (l : List ImportSlot). find (same first) (insert_all same l slots)) (sym (insert_first same firsts t)) ∙ is in
    rw passed (none_differs objects same laws next slots first both.1 rest)

-- the two slots are a conflict
pub record IsPair (objects : List Object) (same : ImportSlot → ImportSlot → Bool) (all slots : List ImportSlot) (p : SlotPair) : Type 0 where
  pub is_first : find (same p.first) all ≡ Some p.first
  pub is_second : find (differs objects same p.first) slots ≡ Some p.second

here_by : (objects : List Object) (same : ImportSlot → ImportSlot → Bool) → IsEquivalence same → (firsts slots : List ImportSlot) (t : ImportSlot) (p : SlotPair) (o : Option ImportSlot)
    → find (same t) firsts ≡ o → conflicting objects o t ≡ Some p → IsPair objects same (insert_all same firsts (t ∷ slots)) (t ∷ slots) p
here_by objects same laws firsts slots t p None e is = absurd (cc)
here_by objects same laws firsts slots t p (Some f) e is = elim (cases_Bool (same_slot_type objects f t)) [
  | inl so ↦ absurd (let h : None ≡ Some p = rw so at is in cc)
  | inr off ↦
      let equal : record { first = f; second = t } ≡ p = same_Some (record { first = f; second = t }) p (rw off at is) in
      let on : same t f ≡ true = (find_some (same t) firsts f e).1 in
      let back : same f t ≡ true = laws.symm f t ∙ on in
      let more = grown same firsts (t ∷ slots) in
      let agree = find_agree (same f) (same t) (λ z. laws.congr f t z back) (insert_all same firsts (t ∷ slots)) in
      subst (λ (x : SlotPair). IsPair objects same (insert_all same firsts (t ∷ slots)) (t ∷ slots) x) equal (record {
        is_first = agree ∙ (ap (find (same t)) more.1 ∙ find_in_front (same t) firsts more.0 f e);
        is_second = rw (back, off) refl;
      })
]

pub pair_found : (objects : List Object) (same : ImportSlot → ImportSlot → Bool) → IsEquivalence same → (firsts slots : List ImportSlot) (p : SlotPair)
    → conflict_from objects same firsts slots ≡ Some p → IsPair objects same (insert_all same firsts slots) slots p
pair_found objects same laws firsts [] p e = absurd (cc)
pair_found objects same laws firsts (t ∷ slots) p e =
    let next = with_first firsts (find (same t) firsts) t in
    elim (or_some (conflicting objects (find (same t) firsts) t) (conflict_from objects same next slots) p e) [
      | inl here ↦ here_by objects same laws firsts slots t p (find (same t) firsts) refl here
      | inr there ↦
          let h = pair_found objects same laws next slots p there.1 in
          let is : find (same p.first) (insert_all same firsts (t ∷ slots)) ≡ Some p.first =
          ap (λ (l : List ImportSlot). find (same p.first) (insert_all same l slots)) (insert_first same firsts t) ∙ h.is_first in
          let passed = pass objects same laws firsts slots t p.first there.0 is in
          record { is_first = is; is_second = rw passed h.is_second }
    ]

-- ---- the two checks

clear_by : (objects : List Object) (same : ImportSlot → ImportSlot → Bool) → IsEquivalence same → (slots : List ImportSlot) → conflict_from objects same [] slots ≡ None → Clear (IsConflict objects same slots)
clear_by objects same laws slots none = record {
  none = λ e h.
      let itself = finds_itself same laws.refl slots h.first (list_in (insert_all same [] slots) h.first h.is_first) in
      let nothing = none_differs objects same laws [] slots h.first none itself in
      let second = h.is_second in
      let apart : None ≡ Some h.second = sym nothing ∙ second in
      absurd (cc);
}

refuses_by : (objects : List Object) (same : ImportSlot → ImportSlot → Bool) → IsEquivalence same → (slots : List ImportSlot) (p : SlotPair) → conflict_from objects same [] slots ≡ Some p → Refuses (IsConflict objects same slots) (conflict_of p)
refuses_by objects same laws slots p e =
    let h = pair_found objects same laws [] slots p e in
    record {
      cause_is = λ other. record {
        first = p.first;
        is_first = (find_some (same p.first) (insert_all same [] slots) p.first h.is_first).0;
        second = p.second;
        is_second = h.is_second;
        told = refl;
      };
    }

same_equiv : (imports : SlotImports) → IsEquivalence (same_slot imports)
same_equiv (Stubs stubs) = field_equiv
same_equiv (Hosts hosts) = import_equiv

pub no_conflict : (objects : List Object) (imports : SlotImports) (slots : List ImportSlot) → conflict_from objects (same_slot imports) [] slots ≡ None
    → Clear (IsConflict objects (same_slot imports) slots)
no_conflict objects imports slots none = clear_by objects (same_slot imports) (same_equiv imports) slots none

pub a_conflict : (objects : List Object) (imports : SlotImports) (slots : List ImportSlot) (p : SlotPair) → conflict_from objects (same_slot imports) [] slots ≡ Some p
    → Refuses (IsConflict objects (same_slot imports) slots) (conflict_of p)
a_conflict objects imports slots p e = refuses_by objects (same_slot imports) (same_equiv imports) slots p e

-- ---- turns of the loops

-- the first slots that were met, and those that are to come
pub record Met (objects : List Object) (same : ImportSlot → ImportSlot → Bool) (slots firsts rest : List ImportSlot) : Type 0 where
  pub all : insert_all same firsts rest ≡ insert_all same [] slots
  pub conflict : conflict_from objects same firsts rest ≡ conflict_from objects same [] slots

-- the first slot of an import, by the place of the import
stub_first : (slots firsts rest : List ImportSlot) (t : ImportSlot) (stubs : List HostImport) → stubs ≡ map first_slot (insert_all same_field [] slots)
    → insert_all same_field firsts (t ∷ rest) ≡ insert_all same_field [] slots → slot_at firsts (place_of_name t.item.name stubs) ≡ find (same_field t) firsts
stub_first slots firsts rest t stubs is all =
    let more = grown same_field firsts (t ∷ rest) in
    let whole : insert_all same_field [] slots ≡ firsts ++ more.0 = sym all ∙ more.1 in
    let stubs_are : stubs ≡ map first_slot (firsts ++ more.0) = is ∙ ap (map first_slot) whole in
    let place : place_of_name t.item.name stubs ≡ position (same_field t) (firsts ++ more.0) = ap (place_of_name t.item.name) stubs_are ∙ position_map first_slot _ (firsts ++ more.0) in
    ap (slot_at firsts) place ∙ at_position (same_field t) firsts more.0

host_first : (slots firsts rest : List ImportSlot) (t : ImportSlot) (hosts : List HostImport) → hosts ≡ map first_slot (first_imports slots)
    → insert_all same_import firsts (t ∷ rest) ≡ insert_all same_import [] slots → slot_at firsts (place_of_import t.item.origin t.item.name hosts) ≡ find (same_import t) firsts
host_first slots firsts rest t hosts is all =
    let more = grown same_import firsts (t ∷ rest) in
    let whole : insert_all same_import [] slots ≡ firsts ++ more.0 = sym all ∙ more.1 in
    let hosts_are : hosts ≡ map first_slot (firsts ++ more.0) = is ∙ ap (map first_slot) whole in
    let place : place_of_import t.item.origin t.item.name hosts ≡ position (same_import t) (firsts ++ more.0) = ap (place_of_import t.item.origin t.item.name) hosts_are ∙ position_map first_slot _ (firsts ++ more.0) in
    ap (slot_at firsts) place ∙ at_position (same_import t) firsts more.0

pub first_among : (objects : List Object) (imports : SlotImports) (slots firsts rest : List ImportSlot) (t : ImportSlot) → AreImportsOf slots imports
    → Met objects (same_slot imports) slots firsts (t ∷ rest) → slot_at firsts (place_among imports t) ≡ find (same_slot imports t) firsts
first_among objects (Stubs stubs) slots firsts rest t are met = stub_first slots firsts rest t stubs.now are met.all
first_among objects (Hosts hosts) slots firsts rest t are met = host_first slots firsts rest t hosts.now are met.all

-- the next slot is one of those to come
pub met_next : (objects : List Object) (same : ImportSlot → ImportSlot → Bool) (slots firsts : List ImportSlot) (k : ℕ) (t : ImportSlot) → k < length slots → t ≡ get_or slots k t
    → Met objects same slots firsts (drop k slots) → Met objects same slots firsts (t ∷ drop (k + 1) slots)
met_next objects same slots firsts k t lt at met = subst (λ (l : List ImportSlot). Met objects same slots firsts l) (drop_here slots k t lt at) met

-- a slot has no conflict
pub met_more : (objects : List Object) (same : ImportSlot → ImportSlot → Bool) (slots firsts rest new : List ImportSlot) (t : ImportSlot) (first : Option ImportSlot)
    → Met objects same slots firsts (t ∷ rest) → first ≡ find (same t) firsts → conflicting objects first t ≡ None → new ≡ with_first firsts first t → Met objects same slots new rest
met_more objects same slots firsts rest new t first met is none more =
    let same_new : new ≡ with_first firsts (find (same t) firsts) t = more ∙ ap (λ (o : Option ImportSlot). with_first firsts o t) is in
    let off : conflicting objects (find (same t) firsts) t ≡ None = ap (λ (o : Option ImportSlot). conflicting objects o t) (sym is) ∙ none in
    record {
      all = ap (λ (l : List ImportSlot). insert_all same l rest) (same_new ∙ sym (insert_first same firsts t)) ∙ met.all;
      conflict = ap (λ (l : List ImportSlot). conflict_from objects same l rest) same_new
          ∙ (sym (ap (λ (o : Option SlotPair). option_or o (conflict_from objects same (with_first firsts (find (same t) firsts) t) rest)) off) ∙ met.conflict);
    }

-- a slot has one
pub met_conflict : (objects : List Object) (same : ImportSlot → ImportSlot → Bool) (slots firsts rest : List ImportSlot) (t : ImportSlot) (first : Option ImportSlot) (p : SlotPair)
    → Met objects same slots firsts (t ∷ rest) → first ≡ find (same t) firsts → conflicting objects first t ≡ Some p → conflict_from objects same [] slots ≡ Some p
met_conflict objects same slots firsts rest t first p met is some =
    let on : conflicting objects (find (same t) firsts) t ≡ Some p = ap (λ (o : Option ImportSlot). conflicting objects o t) (sym is) ∙ some in
    sym met.conflict ∙ ap (λ (o : Option SlotPair). option_or o (conflict_from objects same (with_first firsts (find (same t) firsts) t) rest)) on
