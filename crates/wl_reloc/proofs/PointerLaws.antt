-- Where a field that is to point into the block of each thread is refused, and why.
use Rattle.std.proofs.Common.{◌≡◌, ◌≢◌, ℕ, Bool, true, false, List, refl, sym, ap, ◌∙◌, Option, Some, None, slice_get, if◌then◌else◌}
use Rattle.std.specs.Prelude.{ℤ, pos, ◌+ℤ◌, Result, Ok, Err}
use Rattle.wl_custom.specs.RelocationTypes.{field_form, has_addend}
use Rattle.wl_custom.specs.declared.relocation_type.FieldForm.{FieldForm}
use Rattle.wl_custom.specs.declared.relocation_type.FieldForm.TheVariants.{PaddedUnsigned, PaddedSigned, Word}
use Rattle.wl_custom.specs.declared.relocations.WasmRelocation.{WasmRelocation}
use Rattle.wl_index.specs.declared.data_address.WasmDataAddress.{WasmDataAddress}
use Rattle.wl_index.specs.declared.data_address.WasmDataAddress.TheVariants.{Missing, Placed, Passive, TlsOffset}
use Rattle.wl_reloc.specs.Addresses.{is_s32, as_some, stored_by_thread, deferred_value, deferred_at, deferred_pointer}
use Rattle.wl_reloc.specs.Faults.{PointsIntoBlock, HasOtherForm, PointsTooFar, IsPointerFault}
use Rattle.wl_reloc.specs.declared.error.RelocError.{RelocError}
use Rattle.wl_reloc.specs.declared.error.RelocError.TheVariants.{OutOfRange, Removed, WrongKind, NoSlot, NoGot, Unsupported, Range}
use Rattle.wl_reloc.proofs.FaultLaws.{same_err, told}

module _ (addresses : List WasmDataAddress) (r : WasmRelocation) where
  abbrev caused : RelocError → Type 0
  caused e = IsPointerFault addresses r e

  -- ---- a refusal has its cause

  number_caused : (offset : ℕ) → PointsIntoBlock addresses r offset → field_form r.ty ≡ Word
      → (inside : Bool) → is_s32 (pos offset +ℤ r.addend) ≡ inside → (e : RelocError)
      → as_some (if inside then Ok (pos offset +ℤ r.addend) else Err Range) ≡ Err e → caused e
  number_caused offset points form true is e h = absurd cc
  number_caused offset points form false is e h =
      told caused {T = Option ℤ} Range e h
      (record { offset = offset; points = points; form = form; out = is })

  form_caused : (offset : ℕ) → PointsIntoBlock addresses r offset → (form : FieldForm)
      → field_form r.ty ≡ form → (e : RelocError)
      → stored_by_thread form (pos offset +ℤ r.addend) ≡ Err e → caused e
  form_caused offset points Word is e h =
      number_caused offset points is (is_s32 (pos offset +ℤ r.addend)) refl e h
  form_caused offset points PaddedUnsigned is e h =
      told caused {T = Option ℤ} Unsupported e h
      (record { offset = offset; points = points; form = λ word. absurd cc })
  form_caused offset points PaddedSigned is e h =
      told caused {T = Option ℤ} Unsupported e h
      (record { offset = offset; points = points; form = λ word. absurd cc })

  block_caused : (offset : ℕ) → slice_get addresses r.index ≡ Some (TlsOffset offset)
      → (takes : Bool) → has_addend r.ty ≡ takes → (e : RelocError)
      → (if takes then stored_by_thread (field_form r.ty) (pos offset +ℤ r.addend) else Ok None)
      ≡ Err e → caused e
  block_caused offset lies true takes e h =
      form_caused offset (record { takes = takes; lies = lies }) (field_form r.ty) refl e h
  block_caused offset lies false takes e h = absurd cc

  listed_caused : (o : Option WasmDataAddress) → slice_get addresses r.index ≡ o
      → (e : RelocError) → deferred_at r.ty r.addend o ≡ Err e → caused e
  listed_caused (Some (TlsOffset offset)) lies e h =
      block_caused offset lies (has_addend r.ty) refl e h
  listed_caused (Some Missing) lies e h = absurd cc
  listed_caused (Some (Placed place)) lies e h = absurd cc
  listed_caused (Some Passive) lies e h = absurd cc
  listed_caused None lies e h = absurd cc

  -- ---- where a refusal has its cause, it is reported

  points_to : (offset : ℕ) → PointsIntoBlock addresses r offset
      → deferred_pointer addresses r
      ≡ stored_by_thread (field_form r.ty) (pos offset +ℤ r.addend)
  points_to offset points =
      let takes : has_addend r.ty ≡ true = points.takes in
      let stored : deferred_value r.ty (pos offset +ℤ r.addend)
      ≡ stored_by_thread (field_form r.ty) (pos offset +ℤ r.addend) = rw takes refl in
      ap (deferred_at r.ty r.addend) points.lies ∙ stored

  other_form : (form : FieldForm) (z : ℤ) → form ≢ Word → stored_by_thread form z ≡ Err Unsupported
  other_form Word z not_word = absurd (not_word refl)
  other_form PaddedUnsigned z not_word = refl
  other_form PaddedSigned z not_word = refl

  too_far : (z : ℤ) → is_s32 z ≡ false → stored_by_thread Word z ≡ Err Range
  too_far z out = rw out refl

  told_unsupported : HasOtherForm addresses r → deferred_pointer addresses r ≡ Err Unsupported
  told_unsupported h =
      points_to h.offset h.points ∙ other_form (field_form r.ty) (pos h.offset +ℤ r.addend) h.form

  told_range : PointsTooFar addresses r → deferred_pointer addresses r ≡ Err Range
  told_range h =
      points_to h.offset h.points
      ∙ ap (λ (form : FieldForm). stored_by_thread form (pos h.offset +ℤ r.addend)) h.form
      ∙ too_far (pos h.offset +ℤ r.addend) h.out

pub why : (addresses : List WasmDataAddress) (r : WasmRelocation) (e : RelocError)
    → deferred_pointer addresses r ≡ Err e → IsPointerFault addresses r e
why addresses r e h = listed_caused addresses r (slice_get addresses r.index) refl e h

pub refused : (addresses : List WasmDataAddress) (r : WasmRelocation) (e : RelocError)
    → IsPointerFault addresses r e → deferred_pointer addresses r ≡ Err e
refused addresses r Unsupported h = told_unsupported addresses r h
refused addresses r Range h = told_range addresses r h
refused addresses r OutOfRange h = absurd h
refused addresses r Removed h = absurd h
refused addresses r WrongKind h = absurd h
refused addresses r NoSlot h = absurd h
refused addresses r NoGot h = absurd h

pub one : (addresses : List WasmDataAddress) (r : WasmRelocation) (e f : RelocError)
    → IsPointerFault addresses r e → IsPointerFault addresses r f → e ≡ f
one addresses r e f h k =
    same_err {T = Option ℤ} e f (sym (refused addresses r e h) ∙ refused addresses r f k)

clear_by : (addresses : List WasmDataAddress) (r : WasmRelocation)
    (x : Result (Option ℤ) RelocError) → deferred_pointer addresses r ≡ x
    → ((e : RelocError) → IsPointerFault addresses r e → ⊥)
    → (pointer : Option ℤ) × (deferred_pointer addresses r ≡ Ok pointer)
clear_by addresses r (Ok pointer) is none = (pointer, is)
clear_by addresses r (Err e) is none = absurd (none e (why addresses r e is))

pub clear : (addresses : List WasmDataAddress) (r : WasmRelocation)
    → ((e : RelocError) → IsPointerFault addresses r e → ⊥)
    → (pointer : Option ℤ) × (deferred_pointer addresses r ≡ Ok pointer)
clear addresses r none = clear_by addresses r (deferred_pointer addresses r) refl none
