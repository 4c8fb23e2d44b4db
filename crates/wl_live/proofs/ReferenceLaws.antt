-- The table of references holds exactly what units refer to.
use Rattle.std.proofs.Common.{◌≡◌, ◌⊎◌, ℕ, zero, suc, ◌+◌, Bool, true, false, List, [], ◌∷◌, ◌++◌, map, inl, inr, refl, ap, sym, ◌∙◌, subst, arith, Option, Some, None, slice_get, Contains, replicate, get_or, length}
use Rattle.std.specs.List.{flat_map}
use Rattle.std.proofs.lemmas.Bool.{cases_Bool, cond-true, cond-false, and_from, and_parts, true≢false}
use Rattle.std.proofs.lemmas.List.{get_or-replicate, length-replicate}
use Rattle.std.proofs.lemmas.List.Elements.{Contains-append_left, Contains-append_right, Contains-append_cases}
use Rattle.std.proofs.lemmas.Option.{same_Some}
use Rattle.wl_module.specs.Bodies.{Body}
use Rattle.wl_linking.specs.Object.{Object}
use Rattle.wl_custom.specs.Symbols.{Symbol, is_undefined}
use Rattle.wl_custom.specs.RelocationTypes.{names_a_type}
use Rattle.wl_custom.specs.declared.relocations.WasmRelocation.{WasmRelocation}
use Rattle.wl_linking.specs.declared.sites.Site.{Site}
use Rattle.wl_ops.specs.Numbers.{HasNumbers}
use Rattle.wl_ops.specs.declared.op.DataIndexImm.{DataIndexImm}
use Rattle.wl_symbols.specs.Link.{Link}
use Rattle.wl_symbols.specs.Entries.{symbol_in}
use Rattle.wl_reach.specs.Search.{IsReached}
use Rattle.wl_reach.proofs.ChainLaws.{IsReached-root, IsReached-step, IsReached-closed}
use Rattle.wl_symbols.specs.Units.{counts_of, units_of, unit_in, sibling_of, exists, unit_number, total_of}
use Rattle.wl_symbols.specs.Live.{IsLiveOf, IsNumberingOf}
use Rattle.wl_live.specs.Marking.{UnitsReached}
use Rattle.wl_symbols.specs.DefinedUnits.{unit_at, replacing_unit, other_unit}
use Rattle.wl_symbols.specs.References.{HasRelocation, RefersBySymbol, RefersByNumber, RefersBySlot, Refers}
use Rattle.wl_symbols.specs.Roots.{IsRoot}
use Rattle.wl_live.specs.Facts.{Facts, use_of, section_uses, uses_of, slot_unit, slot_use, slot_uses_from, slot_uses, segment_uses, AreSegmentUses, AreFacts, AreAllFacts}
use Rattle.wl_live.specs.Table.{Reference, reference, symbol_references, user_of, use_references, slot_references, segment_reference, object_references, references_from, references, Leads, Begins, roots}
use Rattle.wl_live.specs.declared.object_facts.SymbolUse.{SymbolUse}
use Rattle.wl_live.specs.declared.object_facts.SegmentUse.{SegmentUse}
use Rattle.wl_symbols.specs.declared.units.LinkUnit.{LinkUnit}
use Rattle.wl_symbols.specs.declared.units.UnitCounts.{UnitCounts}
use Rattle.wl_symbols.specs.declared.units.WasmGcUnit.{WasmGcUnit}
use Rattle.wl_symbols.specs.declared.units.WasmGcUnit.TheVariants.{DefinedFunction, DefinedGlobal, DataSegment, FunctionImport, GlobalImport}
use Rattle.wl_symbols.proofs.KeptLaws.{OneNumbers}
use Rattle.wl_symbols.proofs.NumberingLaws.{unit_number-lt}
use Rattle.wl_symbols.proofs.ExistLaws.{at_object}
use Rattle.wl_live.proofs.RootLaws.{in_roots, roots_in}
use Rattle.wl_symbols.proofs.ExistLaws.{root_exists}
use Rattle.wl_lists.proofs.Beside.{zip_left, zip_right}
use Rattle.wl_lists.proofs.In.{Contains-none, Contains-here, Contains-map}
use Rattle.wl_live.proofs.JoinLaws.{in_single, in_joined, joined_in, in_flat, flat_in, in_map, in_option, option_in}

abbrev pub refers_to : LinkUnit → LinkUnit → Reference
refers_to u v = record { from = u; to = v }

-- ---- one reference

pub in_reference : (w u v : LinkUnit) (o : Option LinkUnit) → Contains (reference w o) (refers_to u v) → (w ≡ u) × (o ≡ Some v)
in_reference w u v o m =
    let p = in_option (λ (x : LinkUnit). refers_to w x) o (refers_to u v) m in
    (ap (λ (r : Reference). r.from) p.2, p.1 ∙ ap (λ (r : Reference). Some r.to) p.2)

pub reference_in : (u v : LinkUnit) (o : Option LinkUnit) → o ≡ Some v → Contains (reference u o) (refers_to u v)
reference_in u v o e = option_in (λ (x : LinkUnit). refers_to u x) o v e

-- ---- symbols

pub symbol_there : (objects : List Object) (k j : ℕ) (o : Object) (s : Symbol) → slice_get objects k ≡ Some o → symbol_in objects k j ≡ Some s → slice_get o.symbols j ≡ Some s
symbol_there objects k j o s here e = rw here at e

pub symbol_found : (objects : List Object) (k j : ℕ) (o : Object) (s : Symbol) → slice_get objects k ≡ Some o → slice_get o.symbols j ≡ Some s → symbol_in objects k j ≡ Some s
symbol_found objects k j o s e f = rw (e, f) refl

-- v is the unit of the symbol, or of what stands in its place
abbrev pub LeadsBy : Link → ℕ → ℕ → Symbol → LinkUnit → Type 0
LeadsBy link object number s v = (unit_at (units_of link.objects) object s ≡ Some v) ⊎ (replacing_unit link (units_of link.objects) object number s ≡ Some v)

pub in_symbol : (link : Link) (w u v : LinkUnit) (j : ℕ) (o : Option Symbol) → Contains (symbol_references link (units_of link.objects) w j o) (refers_to u v) → (w ≡ u) × (s : Symbol) × (o ≡ Some s) × LeadsBy link w.object j s v
in_symbol link w u v j None m = absurd (Contains-none _ m)
in_symbol link w u v j (Some s) m =
    let ns = units_of link.objects in
    elim (Contains-append_cases (reference w (unit_at ns w.object s)) (reference w (replacing_unit link ns w.object j s)) (refers_to u v) m) [
      | inl own ↦ let p = in_reference w u v (unit_at ns w.object s) own in (p.0, s, refl, inl p.1)
      | inr other ↦ let p = in_reference w u v (replacing_unit link ns w.object j s) other in (p.0, s, refl, inr p.1)
    ]

pub named_symbol_in : (link : Link) (u v : LinkUnit) (j : ℕ) (o : Option Symbol) (s : Symbol) → o ≡ Some s → LeadsBy link u.object j s v → Contains (symbol_references link (units_of link.objects) u j o) (refers_to u v)
named_symbol_in link u v j o s e leads =
    let ns = units_of link.objects in
    rw e
    (elim leads [
      | inl own ↦ Contains-append_left (reference u (unit_at ns u.object s)) (reference u (replacing_unit link ns u.object j s)) (refers_to u v) (reference_in u v (unit_at ns u.object s) own)
      | inr other ↦ Contains-append_right (reference u (unit_at ns u.object s)) (reference u (replacing_unit link ns u.object j s)) (refers_to u v) (reference_in u v (replacing_unit link ns u.object j s) other)
    ])

-- ---- relocations

-- a relocation of the section makes the use
pub record UsedIn (kind : WasmGcUnit) (rs : List WasmRelocation) (ss : List Site) (used : SymbolUse) : Type 0 where
  pub place : ℕ
  pub relocation : WasmRelocation
  pub site : Site
  pub at : slice_get rs place ≡ Some relocation
  pub lies : slice_get ss place ≡ Some site
  pub other : names_a_type relocation.ty ≡ false
  pub is : used ≡ record { unit = sibling_of kind site.unit; symbol = relocation.index }

pub in_use : (kind : WasmGcUnit) (r : WasmRelocation) (s : Site) (used : SymbolUse) → Contains (use_of kind r s) used → (names_a_type r.ty ≡ false) × (used ≡ record { unit = sibling_of kind s.unit; symbol = r.index })
in_use kind r s used m =
    elim (cases_Bool (names_a_type r.ty)) [
      | inl typed ↦ absurd (Contains-none used (rw typed at m))
      | inr other ↦ (other, in_single (record { unit = sibling_of kind s.unit; symbol = r.index }) used (rw other at m))
    ]

pub in_section : (kind : WasmGcUnit) (rs : List WasmRelocation) (ss : List Site) (used : SymbolUse) → Contains (section_uses kind rs ss) used → UsedIn kind rs ss used
in_section kind [] ss used m = absurd (Contains-none used m)
in_section kind (r ∷ rs) [] used m = absurd (Contains-none used m)
in_section kind (r ∷ rs) (s ∷ ss) used m =
    elim (Contains-append_cases (use_of kind r s) (section_uses kind rs ss) used m) [
      | inl here ↦ let p = in_use kind r s used here in record { place = 0; relocation = r; site = s; at = refl; lies = refl; other = p.0; is = p.1 }
      | inr there ↦ let p = in_section kind rs ss used there in record { place = suc p.place; relocation = p.relocation; site = p.site; at = p.at; lies = p.lies; other = p.other; is = p.is }
    ]

pub section_in : (kind : WasmGcUnit) (rs : List WasmRelocation) (ss : List Site) (k : ℕ) (r : WasmRelocation) (s : Site) → slice_get rs k ≡ Some r → slice_get ss k ≡ Some s → names_a_type r.ty ≡ false → Contains (section_uses kind rs ss) (record { unit = sibling_of kind s.unit; symbol = r.index })
section_in kind [] ss k r s at lies other = absurd (cc)
section_in kind (q ∷ rs) [] k r s at lies other = absurd (cc)
section_in kind (q ∷ rs) (t ∷ ss) zero r s at lies other =
    let a : q ≡ r = same_Some q r at in
    let b : t ≡ s = same_Some t s lies in
    Contains-append_left (use_of kind q t) (section_uses kind rs ss) (record { unit = sibling_of kind s.unit; symbol = r.index })
    (rw (a, b, other) (Contains-here (record { unit = sibling_of kind s.unit; symbol = r.index }) []))
section_in kind (q ∷ rs) (t ∷ ss) (suc k) r s at lies other =
    Contains-append_right (use_of kind q t) (section_uses kind rs ss) (record { unit = sibling_of kind s.unit; symbol = r.index }) (section_in kind rs ss k r s at lies other)

-- a relocation in the unit makes the use
pub record UsedBy (o : Object) (used : SymbolUse) : Type 0 where
  pub relocation : WasmRelocation
  pub holds : HasRelocation o used.unit relocation
  pub other : names_a_type relocation.ty ≡ false
  pub symbol : used.symbol ≡ relocation.index

pub in_uses : (o : Object) (used : SymbolUse) → Contains (uses_of o) used → UsedBy o used
in_uses o used m =
    elim (Contains-append_cases (section_uses (DefinedFunction 0) o.code_relocations o.code_sites) (section_uses (DataSegment 0) o.data_relocations o.data_sites) used m) [
      | inl code ↦
          let p = in_section (DefinedFunction 0) o.code_relocations o.code_sites used code in
          record {
            relocation = p.relocation;
            holds = subst (λ (x : WasmGcUnit). HasRelocation o x p.relocation) (sym (ap (λ (x : SymbolUse). x.unit) p.is)) (p.place, p.site, p.at, p.lies, refl);
            other = p.other;
            symbol = ap (λ (x : SymbolUse). x.symbol) p.is;
          }
      | inr payload ↦
          let p = in_section (DataSegment 0) o.data_relocations o.data_sites used payload in
          record {
            relocation = p.relocation;
            holds = subst (λ (x : WasmGcUnit). HasRelocation o x p.relocation) (sym (ap (λ (x : SymbolUse). x.unit) p.is)) (p.place, p.site, p.at, p.lies, refl);
            other = p.other;
            symbol = ap (λ (x : SymbolUse). x.symbol) p.is;
          }
    ]

pub uses_in : (o : Object) (unit : WasmGcUnit) (r : WasmRelocation) → HasRelocation o unit r → names_a_type r.ty ≡ false → Contains (uses_of o) (record { unit = unit; symbol = r.index })
uses_in o (DefinedFunction k) r h other =
    Contains-append_left (section_uses (DefinedFunction 0) o.code_relocations o.code_sites) (section_uses (DataSegment 0) o.data_relocations o.data_sites) (record { unit = DefinedFunction k; symbol = r.index })
    (subst (λ (n : ℕ). Contains (section_uses (DefinedFunction 0) o.code_relocations o.code_sites) (record { unit = DefinedFunction n; symbol = r.index })) h.4 (section_in (DefinedFunction 0) o.code_relocations o.code_sites h.0 r h.1 h.2 h.3 other))
uses_in o (DataSegment k) r h other =
    Contains-append_right (section_uses (DefinedFunction 0) o.code_relocations o.code_sites) (section_uses (DataSegment 0) o.data_relocations o.data_sites) (record { unit = DataSegment k; symbol = r.index })
    (subst (λ (n : ℕ). Contains (section_uses (DataSegment 0) o.data_relocations o.data_sites) (record { unit = DataSegment n; symbol = r.index })) h.4 (section_in (DataSegment 0) o.data_relocations o.data_sites h.0 r h.1 h.2 h.3 other))
uses_in o (DefinedGlobal k) r h other = absurd h
uses_in o (FunctionImport k) r h other = absurd h
uses_in o (GlobalImport k) r h other = absurd h

-- ---- slots

-- an undefined symbol has the slot
pub record SlotOf (o : Object) (used : SymbolUse) : Type 0 where
  pub symbol : Symbol
  pub at : slice_get o.symbols used.symbol ≡ Some symbol
  pub undefined : is_undefined symbol ≡ true
  pub slot : unit_in (counts_of o) symbol ≡ Some used.unit

pub slot_parts : (n : UnitCounts) (s : Symbol) (unit : WasmGcUnit) → slot_unit n s ≡ Some unit → (is_undefined s ≡ true) × (unit_in n s ≡ Some unit)
slot_parts n s unit e =
    elim (cases_Bool (is_undefined s)) [
      | inl on ↦ (on, sym (cond-true (is_undefined s) (unit_in n s) None on) ∙ e)
      | inr off ↦ absurd (let none : None ≡ Some unit = sym (cond-false (is_undefined s) (unit_in n s) None off) ∙ e in cc)
    ]

pub in_slots : (o : Object) (used : SymbolUse) → Contains (slot_uses o) used → SlotOf o used
in_slots o used m =
    let r = in_joined (slot_use (counts_of o)) (slot_uses_from (counts_of o)) (λ i. refl) (λ i x xs. refl) 0 o.symbols used m in
    let p = in_option (λ (w : WasmGcUnit). record { unit = w; symbol = 0 + r.0 }) (slot_unit (counts_of o) r.1) used r.3 in
    let number : r.0 ≡ used.symbol = omega (arith, ap (λ (x : SymbolUse). x.symbol) p.2) in
    let q = slot_parts (counts_of o) r.1 p.0 p.1 in
    record {
      symbol = r.1;
      at = subst (λ (n : ℕ). slice_get o.symbols n ≡ Some r.1) number r.2;
      undefined = q.0;
      slot = q.1 ∙ ap (λ (x : SymbolUse). Some x.unit) p.2;
    }

pub slots_in : (o : Object) (number : ℕ) (s : Symbol) (unit : WasmGcUnit) → slice_get o.symbols number ≡ Some s → is_undefined s ≡ true → unit_in (counts_of o) s ≡ Some unit → Contains (slot_uses o) (record { unit = unit; symbol = number })
slots_in o number s unit at undefined slot =
    let same : number ≡ 0 + number = omega arith in
    let e : slot_unit (counts_of o) s ≡ Some unit = cond-true (is_undefined s) (unit_in (counts_of o) s) None undefined ∙ slot in
    joined_in (slot_use (counts_of o)) (slot_uses_from (counts_of o)) (λ i x xs. refl) 0 o.symbols number s (record { unit = unit; symbol = number }) at
    (subst (λ (n : ℕ). Contains (slot_use (counts_of o) n s) (record { unit = unit; symbol = number })) same
    (option_in (λ (w : WasmGcUnit). record { unit = w; symbol = number }) (slot_unit (counts_of o) s) unit e))

-- ---- segments

-- a body has the number
pub record NumberedBy (bodies : List Body) (first : ℕ) (used : SegmentUse) : Type 0 where
  pub place : ℕ
  pub body : Body
  pub at : slice_get bodies place ≡ Some body
  pub numbers : List DataIndexImm
  pub are : HasNumbers numbers body.bytes
  pub number : DataIndexImm
  pub one : Contains numbers number
  pub is : record { function = first + place; segment = number.index } ≡ used

pub in_segments : (k : ℕ) (bodies : List Body) (uses : List SegmentUse) (used : SegmentUse) → AreSegmentUses k bodies uses → Contains uses used → NumberedBy bodies k used
in_segments k [] uses used a m = absurd (Contains-none used (rw a at m))
in_segments k (b ∷ bodies) uses used a m =
    let all : Contains (segment_uses k a.0 ++ a.1) used = rw a.4 at m in
    elim (Contains-append_cases (segment_uses k a.0) a.1 used all) [
      | inl here ↦
          let p = in_map (λ (n : DataIndexImm). record { function = k; segment = n.index }) a.0 used here in
          let same : k + 0 ≡ k = omega arith in
          record { place = 0; body = b; at = refl; numbers = a.0; are = a.2; number = p.0; one = p.1; is = ap (λ (n : ℕ). record { function = n; segment = p.0.index }) same ∙ p.2 }
      | inr there ↦
          let p = in_segments (k + 1) bodies a.1 used a.3 there in
          let same : k + suc p.place ≡ k + 1 + p.place = omega arith in
          record {
            place = suc p.place;
            body = p.body;
            at = p.at;
            numbers = p.numbers;
            are = p.are;
            number = p.number;
            one = p.one;
            is = ap (λ (n : ℕ). record { function = n; segment = p.number.index }) same ∙ p.is;
          }
    ]

pub segments_in : OneNumbers → (k : ℕ) (bodies : List Body) (uses : List SegmentUse) (j : ℕ) (b : Body) (numbers : List DataIndexImm) (n : DataIndexImm) → AreSegmentUses k bodies uses → slice_get bodies j ≡ Some b → HasNumbers numbers b.bytes → Contains numbers n → Contains uses (record { function = k + j; segment = n.index })
segments_in only k [] uses j b numbers n a at has one = absurd (cc)
segments_in only k (c ∷ bodies) uses zero b numbers n a at has one =
    let body : c ≡ b = same_Some c b at in
    let same : k ≡ k + 0 = omega arith in
    let list : numbers ≡ a.0 = only b.bytes numbers a.0 has (subst (λ (x : Body). HasNumbers a.0 x.bytes) body a.2) in
    rw a.4
    (Contains-append_left (segment_uses k a.0) a.1 (record { function = k + 0; segment = n.index })
    (subst (λ (i : ℕ). Contains (segment_uses k a.0) (record { function = i; segment = n.index })) same
    (Contains-map (λ (x : DataIndexImm). record { function = k; segment = x.index }) a.0 n (subst (λ (l : List DataIndexImm). Contains l n) list one))))
segments_in only k (c ∷ bodies) uses (suc j) b numbers n a at has one =
    let same : k + 1 + j ≡ k + suc j = omega arith in
    rw a.4
    (Contains-append_right (segment_uses k a.0) a.1 (record { function = k + suc j; segment = n.index })
    (subst (λ (i : ℕ). Contains a.1 (record { function = i; segment = n.index })) same (segments_in only (k + 1) bodies a.1 j b numbers n a.3 at has one)))

-- ---- objects

-- one of the three ways
abbrev pub How : Link → LinkUnit → LinkUnit → Type 0
How link u v = RefersBySymbol link u v ⊎ (RefersByNumber link u v ⊎ RefersBySlot link u v)

pub by_use : (link : Link) (k : ℕ) (o : Object) (f : Facts) (u v : LinkUnit) → slice_get link.objects k ≡ Some o → AreFacts o f → Contains (flat_map (use_references link (units_of link.objects) k) f.uses) (refers_to u v) → RefersBySymbol link u v
by_use link k o f u v here a m =
    let r = in_flat (use_references link (units_of link.objects) k) f.uses (refers_to u v) m in
    let used = r.0 in
    let p = in_symbol link (user_of k used) u v used.symbol (symbol_in link.objects k used.symbol) r.2 in
    let h = in_uses o used (subst (λ (l : List SymbolUse). Contains l used) a.uses r.1) in
    subst (λ (x : LinkUnit). RefersBySymbol link x v) p.0 (record {
      object = o;
      here = here;
      relocation = h.relocation;
      holds = h.holds;
      other = h.other;
      symbol = p.1;
      names = subst (λ (n : ℕ). slice_get o.symbols n ≡ Some p.1) h.symbol (symbol_there link.objects k used.symbol o p.1 here p.2);
      leads = subst (λ (n : ℕ). LeadsBy link k n p.1 v) h.symbol p.3;
    })

pub by_slot : (link : Link) (k : ℕ) (o : Object) (f : Facts) (u v : LinkUnit) → slice_get link.objects k ≡ Some o → AreFacts o f → Contains (flat_map (slot_references link (units_of link.objects) k) f.slots) (refers_to u v) → RefersBySlot link u v
by_slot link k o f u v here a m =
    let r = in_flat (slot_references link (units_of link.objects) k) f.slots (refers_to u v) m in
    let used = r.0 in
    let p = in_reference (user_of k used) u v (other_unit link (units_of link.objects) k used.symbol) r.2 in
    let s = in_slots o used (subst (λ (l : List SymbolUse). Contains l used) a.slots r.1) in
    subst (λ (x : LinkUnit). RefersBySlot link x v) p.0 (record {
      object = o;
      here = here;
      number = used.symbol;
      symbol = s.symbol;
      at = s.at;
      undefined = s.undefined;
      slot = s.slot;
      leads = p.1;
    })

pub by_number : (link : Link) (k : ℕ) (o : Object) (f : Facts) (u v : LinkUnit) → slice_get link.objects k ≡ Some o → AreFacts o f → Contains (map (segment_reference k) f.segments) (refers_to u v) → RefersByNumber link u v
by_number link k o f u v here a m =
    let r = in_map (segment_reference k) f.segments (refers_to u v) m in
    let p = in_segments 0 o.bodies f.segments r.0 a.segments r.1 in
    let from : record { object = k; unit = DefinedFunction r.0.function } ≡ u = ap (λ (x : Reference). x.from) r.2 in
    let to : record { object = k; unit = DataSegment r.0.segment } ≡ v = ap (λ (x : Reference). x.to) r.2 in
    let function : r.0.function ≡ p.place = omega (arith, ap (λ (x : SegmentUse). x.function) p.is) in
    let segment : p.number.index ≡ r.0.segment = ap (λ (x : SegmentUse). x.segment) p.is in
    subst (λ (x : LinkUnit). RefersByNumber link x v) from (record {
      object = o;
      here = here;
      function = p.place;
      from = ap DefinedFunction function;
      body = p.body;
      has = p.at;
      numbers = p.numbers;
      are = p.are;
      number = p.number;
      one = p.one;
      to = sym to ∙ ap (λ (n : ℕ). record { object = k; unit = DataSegment n }) (sym segment);
    })

pub in_object : (link : Link) (k : ℕ) (o : Object) (f : Facts) (u v : LinkUnit) → slice_get link.objects k ≡ Some o → AreFacts o f → Contains (object_references link (units_of link.objects) k f) (refers_to u v) → How link u v
in_object link k o f u v here a m =
    let ns = units_of link.objects in
    let uses = flat_map (use_references link ns k) f.uses in
    let slots = flat_map (slot_references link ns k) f.slots in
    let segments = map (segment_reference k) f.segments in
    elim (Contains-append_cases uses (slots ++ segments) (refers_to u v) m) [
      | inl used ↦ inl (by_use link k o f u v here a used)
      | inr rest ↦
          elim (Contains-append_cases slots segments (refers_to u v) rest) [
            | inl slot ↦ inr (inr (by_slot link k o f u v here a slot))
            | inr number ↦ inr (inl (by_number link k o f u v here a number))
          ]
    ]

pub in_references : (link : Link) (facts : List Facts) (u v : LinkUnit) → AreAllFacts link.objects facts → Contains (references link (units_of link.objects) facts) (refers_to u v) → How link u v
in_references link facts u v all m =
    let ns = units_of link.objects in
    let r = in_joined (object_references link ns) (references_from link ns) (λ i. refl) (λ i x xs. refl) 0 facts (refers_to u v) m in
    let z = zip_left AreFacts link.objects facts r.0 r.1 all r.2 in
    let number : 0 + r.0 ≡ r.0 = omega arith in
    in_object link r.0 z.0 r.1 u v z.1 z.2 (subst (λ (n : ℕ). Contains (object_references link ns n r.1) (refers_to u v)) number r.3)

pub object_in : (link : Link) (facts : List Facts) (k : ℕ) (f : Facts) (x : Reference) → slice_get facts k ≡ Some f → Contains (object_references link (units_of link.objects) k f) x → Contains (references link (units_of link.objects) facts) x
object_in link facts k f x at m =
    let ns = units_of link.objects in
    let number : k ≡ 0 + k = omega arith in
    joined_in (object_references link ns) (references_from link ns) (λ i x xs. refl) 0 facts k f x at (subst (λ (n : ℕ). Contains (object_references link ns n f) x) number m)

-- what an object says is that of the objects before
facts_here : (link : Link) (k : ℕ) (o object : Object) (f : Facts) → slice_get link.objects k ≡ Some o → slice_get link.objects k ≡ Some object → AreFacts o f → AreFacts object f
facts_here link k o object f here there a = subst (λ (x : Object). AreFacts x f) (same_Some o object (sym here ∙ there)) a

use_in : (link : Link) (f : Facts) (u v : LinkUnit) (b : RefersBySymbol link u v) → AreFacts b.object f → Contains (object_references link (units_of link.objects) u.object f) (refers_to u v)
use_in link f u v b a =
    let ns = units_of link.objects in
    let used : SymbolUse = record { unit = u.unit; symbol = b.relocation.index } in
    let listed : Contains f.uses used = subst (λ (l : List SymbolUse). Contains l used) (sym a.uses) (uses_in b.object u.unit b.relocation b.holds b.other) in
    Contains-append_left (flat_map (use_references link ns u.object) f.uses) _ (refers_to u v)
    (flat_in (use_references link ns u.object) f.uses used (refers_to u v) listed
    (named_symbol_in link u v b.relocation.index (symbol_in link.objects u.object b.relocation.index) b.symbol (symbol_found link.objects u.object b.relocation.index b.object b.symbol b.here b.names) b.leads))

slot_in : (link : Link) (f : Facts) (u v : LinkUnit) (b : RefersBySlot link u v) → AreFacts b.object f → Contains (object_references link (units_of link.objects) u.object f) (refers_to u v)
slot_in link f u v b a =
    let ns = units_of link.objects in
    let used : SymbolUse = record { unit = u.unit; symbol = b.number } in
    let listed : Contains f.slots used = subst (λ (l : List SymbolUse). Contains l used) (sym a.slots) (slots_in b.object b.number b.symbol u.unit b.at b.undefined b.slot) in
    Contains-append_right (flat_map (use_references link ns u.object) f.uses) _ (refers_to u v)
    (Contains-append_left (flat_map (slot_references link ns u.object) f.slots) (map (segment_reference u.object) f.segments) (refers_to u v)
    (flat_in (slot_references link ns u.object) f.slots used (refers_to u v) listed (reference_in u v (other_unit link ns u.object b.number) b.leads)))

pub number_listed : OneNumbers → (link : Link) (f : Facts) (u v : LinkUnit) (b : RefersByNumber link u v) → AreFacts b.object f → Contains (map (segment_reference u.object) f.segments) (refers_to u v)
number_listed only link f u v b a =
    let used : SegmentUse = record { function = 0 + b.function; segment = b.number.index } in
    let listed : Contains f.segments used = segments_in only 0 b.object.bodies f.segments b.function b.body b.numbers b.number a.segments b.has b.are b.one in
    let number : 0 + b.function ≡ b.function = omega arith in
    let from : at_object u.object (DefinedFunction (0 + b.function)) ≡ u = ap (λ (n : ℕ). at_object u.object (DefinedFunction n)) number ∙ ap (λ (x : WasmGcUnit). at_object u.object x) (sym b.from) in
    let same : segment_reference u.object used ≡ refers_to u v = ap (λ (x : LinkUnit). refers_to x (at_object u.object (DataSegment b.number.index))) from ∙ ap (λ (x : LinkUnit). refers_to u x) (sym b.to) in
    subst (λ (x : Reference). Contains (map (segment_reference u.object) f.segments) x) same (Contains-map (segment_reference u.object) f.segments used listed)

number_in : OneNumbers → (link : Link) (f : Facts) (u v : LinkUnit) (b : RefersByNumber link u v) → AreFacts b.object f → Contains (object_references link (units_of link.objects) u.object f) (refers_to u v)
number_in only link f u v b a =
    let ns = units_of link.objects in
    Contains-append_right (flat_map (use_references link ns u.object) f.uses) _ (refers_to u v)
    (Contains-append_right (flat_map (slot_references link ns u.object) f.slots) (map (segment_reference u.object) f.segments) (refers_to u v) (number_listed only link f u v b a))

-- the object of the unit says it
pub how_in_object : OneNumbers → (link : Link) (o : Object) (f : Facts) (u v : LinkUnit) → slice_get link.objects u.object ≡ Some o → AreFacts o f → How link u v → Contains (object_references link (units_of link.objects) u.object f) (refers_to u v)
how_in_object only link o f u v here a (inl b) = use_in link f u v b (facts_here link u.object o b.object f here b.here a)
how_in_object only link o f u v here a (inr (inl b)) = number_in only link f u v b (facts_here link u.object o b.object f here b.here a)
how_in_object only link o f u v here a (inr (inr b)) = slot_in link f u v b (facts_here link u.object o b.object f here b.here a)

-- the object of a unit that refers to another
pub object_of_how : (link : Link) (u v : LinkUnit) → How link u v → (o : Object) × (slice_get link.objects u.object ≡ Some o)
object_of_how link u v (inl b) = (b.object, b.here)
object_of_how link u v (inr (inl b)) = (b.object, b.here)
object_of_how link u v (inr (inr b)) = (b.object, b.here)

pub references_in : OneNumbers → (link : Link) (facts : List Facts) (u v : LinkUnit) → AreAllFacts link.objects facts → How link u v → Contains (references link (units_of link.objects) facts) (refers_to u v)
references_in only link facts u v all how =
    let o = object_of_how link u v how in
    let z = zip_right AreFacts link.objects facts u.object o.0 all o.1 in
    object_in link facts u.object z.0 (refers_to u v) z.1 (how_in_object only link o.0 z.0 u v o.1 z.2 how)

-- ---- chains

-- the references of the table
abbrev pub LeadsIn : Link → List Facts → LinkUnit → LinkUnit → Type 0
LeadsIn link facts = Leads (units_of link.objects) (references link (units_of link.objects) facts)

-- the units at which they begin
abbrev pub BeginsIn : Link → LinkUnit → Type 0
BeginsIn link = Begins (units_of link.objects) (roots link (units_of link.objects))

pub reached_from : (link : Link) (facts : List Facts) → AreAllFacts link.objects facts → (u : LinkUnit) → IsReached (BeginsIn link) (LeadsIn link facts) u → IsReached (IsRoot link) (Refers link) u
reached_from link facts all u r =
    IsReached-closed (BeginsIn link) (LeadsIn link facts) (IsReached (IsRoot link) (Refers link))
    (λ x b. IsReached-root (IsRoot link) (Refers link) x (in_roots link x b.listed))
    (λ x y p l. IsReached-step (IsRoot link) (Refers link) x y p (record { from = l.from; to = l.to; how = in_references link facts x y all l.listed }))
    u r

pub reached_to : OneNumbers → (link : Link) (facts : List Facts) → AreAllFacts link.objects facts → (u : LinkUnit) → IsReached (IsRoot link) (Refers link) u → IsReached (BeginsIn link) (LeadsIn link facts) u
reached_to only link facts all u r =
    IsReached-closed (IsRoot link) (Refers link) (IsReached (BeginsIn link) (LeadsIn link facts))
    (λ x b. IsReached-root (BeginsIn link) (LeadsIn link facts) x (record { unit = root_exists link x b; listed = roots_in link x b }))
    (λ x y p l. IsReached-step (BeginsIn link) (LeadsIn link facts) x y p (record { from = l.from; to = l.to; listed = references_in only link facts x y all l.how }))
    u r

-- ---- what is kept

-- all units are kept, and all are marked
pub live_all : (link : Link) (ns : List UnitCounts) (marks numbering : List Bool) → ns ≡ units_of link.objects → link.args.gc_sections ≡ false → marks ≡ replicate (total_of ns) true → IsNumberingOf link ns numbering → IsLiveOf link (record { units = ns; marks = marks; numbering = numbering })
live_all link ns marks numbering units off all are = record {
  units = units;
  sized = ap length all ∙ length-replicate (total_of ns) true;
  only = λ u on. inl off;
  every = λ u there kept.
      let has : exists ns u ≡ true = rw units there in
      and_from (exists ns u) (get_or marks (unit_number ns u) false) has
      (ap (λ (m : List Bool). get_or m (unit_number ns u) false) all ∙ get_or-replicate (total_of ns) (unit_number ns u) true false (unit_number-lt ns u has));
  numbering = are;
}

-- the units to which references of the table lead are marked
pub live_reached : OneNumbers → (link : Link) (ns : List UnitCounts) (facts : List Facts) (marks numbering : List Bool) → ns ≡ units_of link.objects → AreAllFacts link.objects facts → link.args.gc_sections ≡ true → length marks ≡ total_of ns → UnitsReached ns (references link ns facts) (roots link ns) marks → IsNumberingOf link ns numbering → IsLiveOf link (record { units = ns; marks = marks; numbering = numbering })
live_reached only link ns facts marks numbering units all on sized reached are =
    let here : UnitsReached (units_of link.objects) (references link (units_of link.objects) facts) (roots link (units_of link.objects)) marks =
    subst (λ (n : List UnitCounts). UnitsReached n (references link n facts) (roots link n) marks) units reached in
    record {
      units = units;
      sized = sized;
      only = λ u live.
          let p = and_parts (exists ns u) (get_or marks (unit_number ns u) false) live in
          let there : exists (units_of link.objects) u ≡ true = rw (← units) p.0 in
          let mark : get_or marks (unit_number (units_of link.objects) u) false ≡ true = rw (← units) p.1 in
          inr (reached_from link facts all u (here.only u there mark));
      every = λ u there kept.
          let has : exists ns u ≡ true = rw units there in
          let mark : get_or marks (unit_number (units_of link.objects) u) false ≡ true =
          elim kept [
            | inl off ↦ absurd (true≢false (sym on ∙ off))
            | inr chain ↦ here.every u there (reached_to only link facts all u chain)
          ] in
          and_from (exists ns u) (get_or marks (unit_number ns u) false) has (rw units mark);
      numbering = are;
    }
