-- Why units can't be kept: what is found is a fault, and each fault is found.
use Rattle.std.specs.Prelude.{MatchOption}
use Rattle.std.proofs.Common.{◌≡◌, ℕ, zero, suc, ◌+◌, ◌<◌, ◌≤◌, Bool, true, false, nat_le, take, append-nil, ◌≢◌, List, [], ◌∷◌, ◌++◌, length, get_or, inl, inr, refl, ap, sym, ◌∙◌, subst, arith, Option, Some, None, slice_get, Contains, length-append}
use Rattle.std.specs.List.Sorted.{IsPartitionedBy, IsPartitionPoint}
use Rattle.std.proofs.lemmas.Bool.{cases_lt, leb-true, leb-false, le-leb, lt-ltb}
use Rattle.std.proofs.lemmas.List.{take_more}
use Rattle.std.proofs.lemmas.List.Elements.{Contains-append_left, Contains-append_right, Contains-append_cases, All-from_recursion}
use Rattle.std.proofs.lemmas.Option.{same_Some, slice_get_within, slice_get-get_or}
use Rattle.wl_bytes.specs.declared.reader.TheConstants.{MAX_LEN}
use Rattle.wl_module.specs.Bodies.{Body}
use Rattle.wl_module.specs.Globals.{DefinedGlobal as GlobalRecord}
use Rattle.wl_module.specs.Places.{IsPart}
use Rattle.wl_bytes.specs.Outcome.{HasCause}
use Rattle.wl_bytes.specs.declared.read_error.ReadError.{ReadError}
use Rattle.wl_bytes.specs.declared.read_error.ReadError.TheVariants as read
use Rattle.wl_linking.specs.Fitting.{IsWhole}
use Rattle.wl_linking.specs.Object.{Object}
use Rattle.wl_custom.specs.RelocationTypes.{field_form}
use Rattle.wl_linking.specs.Sites.{AreApart, field_len}
use Rattle.wl_custom.specs.declared.relocations.WasmRelocation.{WasmRelocation}
use Rattle.wl_linking.specs.Stretches.{PartsStandIn}
use Rattle.wl_ops.specs.Numbers.{AreTold}
use Rattle.wl_ops.specs.Rewriting.{LieWithin}
use Rattle.wl_ops.specs.declared.op.DataIndexImm.{DataIndexImm}
use Rattle.wl_symbols.specs.Units.{counts_of, has_unit}
use Rattle.wl_live.specs.Faults.{HasFieldIn, SegmentNumberFault, HasSegmentNumberFault, HasBodyFault, HasGlobalFault, HasUnitFault}
use Rattle.wl_live.specs.Facts.{faults_of, AreFaults, FaultsOfBodies}
use Rattle.wl_live.specs.declared.object_facts.UnitFault.{UnitFault}
use Rattle.wl_symbols.specs.declared.units.WasmGcUnit.{WasmGcUnit}
use Rattle.wl_symbols.specs.declared.units.WasmGcUnit.TheVariants.{DefinedFunction, DefinedGlobal, DataSegment, FunctionImport, GlobalImport}
use Rattle.wl_symbols.proofs.KeptLaws.{OneNumbers}
use Rattle.wl_lists.proofs.In.{Contains-none, Contains-here}
use Rattle.wl_live.proofs.JoinLaws.{in_single}

-- ---- fields

-- where a field ends
abbrev pub end_of : WasmRelocation → ℕ
end_of r = r.offset + field_len (field_form r.ty)

-- the field ends before that place, or at it
abbrev pub is_past : ℕ → WasmRelocation → Bool
is_past from r = nat_le (end_of r) from

pub ends_rise : (rs : List WasmRelocation) (from : ℕ) → AreApart rs → IsPartitionedBy (is_past from) rs
ends_rise rs from apart i j d le lt past =
    elim (cases_lt i j) [
      | inl before ↦ let gap = apart i j d before lt in le-leb _ from (omega (arith, leb-true _ from past))
      | inr after ↦ let same : i ≡ j = omega arith in rw same past
    ]

pub found_field : (rs : List WasmRelocation) (from to place : ℕ) (r : WasmRelocation) → IsPartitionPoint (λ y. is_past from y ≡ true) (λ y. is_past from y ≡ false) rs place → slice_get rs place ≡ Some r → r.offset < to → HasFieldIn rs from to
found_field rs from to place r point at lt =
    let within : place < length rs = slice_get_within rs place r at in
    let here : get_or rs place r ≡ r = same_Some (get_or rs place r) r (sym (slice_get-get_or rs place r within) ∙ at) in
    let open' : is_past from (get_or rs place r) ≡ false = point.1 place r (omega arith) within in
    let past : is_past from r ≡ false = rw here at open' in
    (r, (place, within, here), lt, leb-false (end_of r) from past)

pub field_found : (rs : List WasmRelocation) (from to place : ℕ) → AreApart rs → IsPartitionPoint (λ y. is_past from y ≡ true) (λ y. is_past from y ≡ false) rs place → HasFieldIn rs from to → (r : WasmRelocation) × (slice_get rs place ≡ Some r) × (r.offset < to)
field_found rs from to place apart point (r, (j, lt, at), before, behind) =
    let late : place ≤ j =
    elim (cases_lt j place) [
      | inl early ↦
          let past : is_past from (get_or rs j r) ≡ true = point.0 j r (omega arith) early in
          let ends = leb-true (end_of r) from (rw at at past) in
          absurd (omega arith)
      | inr le ↦ le
    ] in
    let within : place < length rs = omega arith in
    let q : WasmRelocation = get_or rs place r in
    let offset : q.offset < to =
    elim (cases_lt place j) [
      | inl less ↦ let gap = rw at at (apart place j r less lt) in omega arith
      | inr more ↦ let same : place ≡ j = omega arith in rw (same, at) before
    ] in
    (q, slice_get-get_or rs place r within, offset)

-- ---- bodies

-- the bytes of a part are as many as those of the whole, at most
pub part-le : (bytes text : List ℕ) → IsPart bytes text → length text ≤ length bytes
part-le bytes text p =
    let s = p.1 in
    omega (arith, ap (λ (l : List ℕ). length l) s.whole, length-append s.front (text ++ s.back), length-append text s.back)

pub body-le : (o : Object) (k : ℕ) (b : Body) → IsWhole o → PartsStandIn o.bytes o → k < length o.bodies → get_or o.bodies k b ≡ b → length b.bytes ≤ MAX_LEN
body-le o k b whole parts lt at =
    let part = All-from_recursion _ o.bodies parts.bodies k b lt in
    omega (arith, part-le o.bytes b.bytes (rw at at part), whole.within)

pub global-le : (o : Object) (k : ℕ) (g : GlobalRecord) → IsWhole o → PartsStandIn o.bytes o → k < length o.globals → get_or o.globals k g ≡ g → length g.body ≤ MAX_LEN
global-le o k g whole parts lt at =
    let part = All-from_recursion _ o.globals parts.globals k g lt in
    omega (arith, part-le o.bytes g.body (rw at at part), whole.within)

pub lie_ends : (from : ℕ) (ns : List DataIndexImm) (to : ℕ) → LieWithin from ns to → from ≤ to
lie_ends from [] to lies = lies
lie_ends from (n ∷ ns) to lies = omega (arith, lies.0, lies.1, lie_ends (n.offset + n.len) ns to lies.2)

pub number-le : (ns : List DataIndexImm) (from to : ℕ) (n : DataIndexImm) → LieWithin from ns to → Contains ns n → n.offset + n.len ≤ to
number-le [] from to n lies m = absurd (Contains-none n m)
number-le (x ∷ ns) from to n lies (zero, lt, e) = let same = lie_ends (x.offset + x.len) ns to lies.2 in rw e at same
number-le (x ∷ ns) from to n lies (suc k, lt, e) = number-le ns (x.offset + x.len) to n lies.2 (k, omega arith, e)

-- a body without a fault has these numbers, so none of them is at fault
pub no_fault : OneNumbers → (o : Object) (b : Body) (ns : List DataIndexImm) → AreTold ns b.bytes → ((e : ReadError) → HasSegmentNumberFault o b ns e → ⊥) → (e : ReadError) → HasBodyFault o b e → ⊥
no_fault only o b ns told none e (inl f) = told.1 e f
no_fault only o b ns told none e (inr (ks, has, fault)) = none e (subst (λ (l : List DataIndexImm). HasSegmentNumberFault o b l e) (only b.bytes ks ns has told.0) fault)

pub body_fault-from : OneNumbers → (o : Object) (b : Body) (ns : List DataIndexImm) (r : Option ReadError) → AreTold ns b.bytes → MatchOption r ((e : ReadError) → HasSegmentNumberFault o b ns e → ⊥) (HasSegmentNumberFault o b ns) → MatchOption r ((e : ReadError) → HasBodyFault o b e → ⊥) (HasBodyFault o b)
body_fault-from only o b ns None told none = no_fault only o b ns told none
body_fault-from only o b ns (Some e) told fault = inr (ns, told.0, fault)

-- ---- faults that are gathered one by one

pub same_body : (o : Object) (k : ℕ) (b c : Body) → slice_get o.bodies k ≡ Some b → slice_get o.bodies k ≡ Some c → b ≡ c
same_body o k b c at is = same_Some b c (sym at ∙ is)

pub fault_kept : (old new : List UnitFault) (u : WasmGcUnit) → (f : UnitFault) × Contains old f × (f.unit ≡ u) → (f : UnitFault) × Contains (old ++ new) f × (f.unit ≡ u)
fault_kept old new u p = (p.0, Contains-append_left old new p.0 p.1, p.2)

pub FaultsOfBodies-sound : (o : Object) (k : ℕ) (b : Body) (old : List UnitFault) → FaultsOfBodies o k old → slice_get o.bodies k ≡ Some b → ((e : ReadError) → HasBodyFault o b e → ⊥) → FaultsOfBodies o (k + 1) (old ++ [])
FaultsOfBodies-sound o k b old h at none = record {
  only = λ f m. h.only f (rw append-nil at m);
  every = λ j e lt fault.
      elim (cases_lt j k) [
        | inl less ↦ fault_kept old [] (DefinedFunction j) (h.every j e less fault)
        | inr more ↦
            let same : j ≡ k = omega arith in
            let here : slice_get o.bodies k ≡ Some fault.0 = rw same at fault.1 in
            absurd (none e (subst (λ (x : Body). HasBodyFault o x e) (sym (same_body o k b fault.0 at here)) fault.2))
      ];
}

pub FaultsOfBodies-fault : (o : Object) (k : ℕ) (b : Body) (old : List UnitFault) (error : ReadError) → FaultsOfBodies o k old → slice_get o.bodies k ≡ Some b → HasBodyFault o b error → FaultsOfBodies o (k + 1) (old ++ record { unit = DefinedFunction k; error = error } ∷ [])
FaultsOfBodies-fault o k b old error h at fault =
    let new : UnitFault = record { unit = DefinedFunction k; error = error } in
    record {
      only = λ f m.
          elim (Contains-append_cases old (new ∷ []) f m) [
            | inl before ↦ h.only f before
            | inr last ↦ subst (λ (x : UnitFault). HasUnitFault o x.unit x.error) (sym (in_single new f last)) (b, at, fault)
          ];
      every = λ j e lt other.
          elim (cases_lt j k) [
            | inl less ↦ fault_kept old (new ∷ []) (DefinedFunction j) (h.every j e less other)
            | inr more ↦ let same : k ≡ j = omega arith in (new, Contains-append_right old (new ∷ []) new (Contains-here new []), ap DefinedFunction same)
          ];
    }

pub FaultsOfBodies-more : (o : Object) (k : ℕ) (b : Body) (old new : List UnitFault) (error : Option ReadError) → FaultsOfBodies o k old → slice_get o.bodies k ≡ Some b → MatchOption error ((e : ReadError) → HasBodyFault o b e → ⊥) (HasBodyFault o b) → new ≡ old ++ faults_of (DefinedFunction k) error → FaultsOfBodies o (k + 1) new
FaultsOfBodies-more o k b old new None h at none e = rw e (FaultsOfBodies-sound o k b old h at none)
FaultsOfBodies-more o k b old new (Some error) h at fault e = rw e (FaultsOfBodies-fault o k b old error h at fault)

-- those of all bodies, and of the first n globals
pub record FaultsOfGlobals (o : Object) (n : ℕ) (faults : List UnitFault) : Type 0 where
  pub only : (f : UnitFault) → Contains faults f → HasUnitFault o f.unit f.error
  pub bodies : (k : ℕ) (e : ReadError) → k < length o.bodies → HasUnitFault o (DefinedFunction k) e → (f : UnitFault) × Contains faults f × (f.unit ≡ DefinedFunction k)
  pub globals : (k : ℕ) (e : ReadError) → k < n → HasUnitFault o (DefinedGlobal k) e → (f : UnitFault) × Contains faults f × (f.unit ≡ DefinedGlobal k)

pub same_global : (o : Object) (k : ℕ) (b c : GlobalRecord) → slice_get o.globals k ≡ Some b → slice_get o.globals k ≡ Some c → b ≡ c
same_global o k b c at is = same_Some b c (sym at ∙ is)

pub FaultsOfGlobals-sound : (o : Object) (k : ℕ) (g : GlobalRecord) (old : List UnitFault) → FaultsOfGlobals o k old → slice_get o.globals k ≡ Some g → ((e : ReadError) → HasGlobalFault g e → ⊥) → FaultsOfGlobals o (k + 1) (old ++ [])
FaultsOfGlobals-sound o k g old h at none = record {
  only = λ f m. h.only f (rw append-nil at m);
  bodies = λ j e lt fault. fault_kept old [] (DefinedFunction j) (h.bodies j e lt fault);
  globals = λ j e lt fault.
      elim (cases_lt j k) [
        | inl less ↦ fault_kept old [] (DefinedGlobal j) (h.globals j e less fault)
        | inr more ↦
            let same : j ≡ k = omega arith in
            let here : slice_get o.globals k ≡ Some fault.0 = rw same at fault.1 in
            absurd (none e (subst (λ (x : GlobalRecord). HasGlobalFault x e) (sym (same_global o k g fault.0 at here)) fault.2))
      ];
}

pub FaultsOfGlobals-fault : (o : Object) (k : ℕ) (g : GlobalRecord) (old : List UnitFault) (error : ReadError) → FaultsOfGlobals o k old → slice_get o.globals k ≡ Some g → HasGlobalFault g error → FaultsOfGlobals o (k + 1) (old ++ record { unit = DefinedGlobal k; error = error } ∷ [])
FaultsOfGlobals-fault o k g old error h at fault =
    let new : UnitFault = record { unit = DefinedGlobal k; error = error } in
    record {
      only = λ f m.
          elim (Contains-append_cases old (new ∷ []) f m) [
            | inl before ↦ h.only f before
            | inr last ↦ subst (λ (x : UnitFault). HasUnitFault o x.unit x.error) (sym (in_single new f last)) (g, at, fault)
          ];
      bodies = λ j e lt other. fault_kept old (new ∷ []) (DefinedFunction j) (h.bodies j e lt other);
      globals = λ j e lt other.
          elim (cases_lt j k) [
            | inl less ↦ fault_kept old (new ∷ []) (DefinedGlobal j) (h.globals j e less other)
            | inr more ↦ let same : k ≡ j = omega arith in (new, Contains-append_right old (new ∷ []) new (Contains-here new []), ap DefinedGlobal same)
          ];
    }

pub FaultsOfGlobals-more : (o : Object) (k : ℕ) (g : GlobalRecord) (old new : List UnitFault) (error : Option ReadError) → FaultsOfGlobals o k old → slice_get o.globals k ≡ Some g → MatchOption error ((e : ReadError) → HasGlobalFault g e → ⊥) (HasGlobalFault g) → new ≡ old ++ faults_of (DefinedGlobal k) error → FaultsOfGlobals o (k + 1) new
FaultsOfGlobals-more o k g old new None h at none e = rw e (FaultsOfGlobals-sound o k g old h at none)
FaultsOfGlobals-more o k g old new (Some error) h at fault e = rw e (FaultsOfGlobals-fault o k g old error h at fault)

pub AreFaults-from : (o : Object) (n : ℕ) (faults : List UnitFault) → FaultsOfGlobals o n faults → length o.globals ≤ n → AreFaults o faults
AreFaults-from o n faults h le = record { only = h.only; every = each }
  where
    each : (u : WasmGcUnit) (e : ReadError) → HasUnitFault o u e → (f : UnitFault) × Contains faults f × (f.unit ≡ u)
    each (DefinedFunction k) e f = h.bodies k e (slice_get_within o.bodies k f.0 f.1) f
    each (DefinedGlobal k) e f = h.globals k e (omega (arith, slice_get_within o.globals k f.0 f.1)) f
    each (DataSegment k) e f = absurd f
    each (FunctionImport k) e f = absurd f
    each (GlobalImport k) e f = absurd f

-- ---- units with faults exist

pub fault_exists : (o : Object) (u : WasmGcUnit) (e : ReadError) → IsWhole o → HasUnitFault o u e → has_unit (counts_of o) u ≡ true
fault_exists o (DefinedFunction k) e whole f =
    let within : k < length o.bodies = slice_get_within o.bodies k f.0 f.1 in
    let many : length o.bodies ≡ length o.functions = whole.object.fitting.names.bodies in
    lt-ltb k (length o.functions) (omega arith)
fault_exists o (DefinedGlobal k) e whole f = lt-ltb k (length o.globals) (slice_get_within o.globals k f.0 f.1)
fault_exists o (DataSegment k) e whole f = absurd f
fault_exists o (FunctionImport k) e whole f = absurd f
fault_exists o (GlobalImport k) e whole f = absurd f

-- ---- numbers

pub number_fault-more : (o : Object) (b : Body) (ns : List DataIndexImm) (k : ℕ) (n : DataIndexImm) → ((e : ReadError) → HasSegmentNumberFault o b (take k ns) e → ⊥) → k < length ns → get_or ns k n ≡ n → ((e : ReadError) → SegmentNumberFault o b n e → ⊥) → (e : ReadError) → HasSegmentNumberFault o b (take (k + 1) ns) e → ⊥
number_fault-more o b ns k n h lt at none e f =
    let whole : take (k + 1) ns ≡ take k ns ++ n ∷ [] = take_more ns k n lt ∙ ap (λ (x : DataIndexImm). take k ns ++ x ∷ []) at in
    elim (Contains-append_cases (take k ns) (n ∷ []) f.0 (subst (λ (l : List DataIndexImm). Contains l f.0) whole f.1)) [
      | inl before ↦ h e (f.0, before, f.2)
      | inr last ↦ none e (subst (λ (x : DataIndexImm). SegmentNumberFault o b x e) (in_single n f.0 last) f.2)
    ]

-- what isn't want of memory is the fault that was reported
pub told_fault : (faults : ReadError → List ℕ → Type 0) (payload : List ℕ) (e : ReadError) → e ≢ read.OutOfMemory → HasCause (λ d. faults d payload) e → faults e payload
told_fault faults payload read.OutOfMemory other f = absurd (other refl)
told_fault faults payload (read.Malformed why) other f = f
told_fault faults payload (read.Unsupported form) other f = f
