-- The name of each symbol stands at its range of the object's bytes.
use Rattle.std.proofs.Common.{◌≡◌, ℕ, ◌+◌, Bool, true, false, eqb, List, [], ◌∷◌, ◌++◌, length, Option, Some, None, refl, sym, ap, subst, ◌∙◌, arith, append_assoc, length-append}
use Rattle.std.specs.List.{AllByRecursion, flat_map}
use Rattle.std.proofs.lemmas.Bool.{eqb-true}
use Rattle.std.proofs.lemmas.List.{nil_from_length}
use Rattle.wl_bytes.specs.Grammar.{Items}
use Rattle.wl_bytes.specs.Chains.{Chain}
use Rattle.wl_bytes.specs.Checks.{When}
use Rattle.wl_module.specs.Sections.{Section, IsModule}
use Rattle.wl_custom.specs.Symbols.{Symbol, SymbolDetails, range_of, IsBasedName, name_or_none, IsNameWhere, is_named, IsNumbered, IsLocated, SymbolContext, symbol_context, IsDetails, IsSymbol, AreSymbols}
use Rattle.wl_custom.specs.Linking.{subsection_kind, IsHeld, IsSubsection, seen_after, nothing_seen as no_subsection_seen, table_in, linking_of, IsLinking, subsections_in_turn}
use Rattle.wl_linking.specs.Targets.{bytes_between}
use Rattle.wl_linking.specs.Parts.{no_parts}
use Rattle.wl_linking.specs.Sections.{base_of, AreSound}
use Rattle.wl_linking.specs.declared.parts.Parts.{Parts}
use Rattle.wl_custom.specs.declared.linking.Linking.{Linking as LinkingHeld}
use Rattle.wl_custom.specs.declared.linking.SeenSubsections.{SeenSubsections}
use Rattle.wl_custom.specs.declared.linking.Subsection.{Subsection}
use Rattle.wl_custom.specs.declared.linking.SubsectionKind.{SubsectionKind}
use Rattle.wl_custom.specs.declared.linking.SubsectionKind.TheVariants as part
use Rattle.wl_linking.specs.declared.section.SectionItems.TheVariants.{Linking}
use Rattle.wl_custom.specs.declared.symbols.WasmSymbolKind.{WasmSymbolKind}
use Rattle.wl_custom.specs.declared.symbols.WasmSymbolKind.TheVariants.{Func, Data, Global, Section as SectionSymbol, Event, Table}
use Rattle.wl_module.specs.Places.{StandsAt}
use Rattle.wl_lists.proofs.Places.{all_append}
use Rattle.wl_module.proofs.PlaceLaws.{all_stands, before_stands, behind_stands}
use Rattle.wl_module.proofs.SectionLaws.{module_stands}
use Rattle.wl_linking.proofs.PlacedLaws.{stretch_is}
use Rattle.wl_linking.proofs.HeldLaws.{HaveInEach, all_held}

-- ---- texts in texts

pub inside_stands : (bytes text inner : List ℕ) (place at : ℕ) → StandsAt bytes text place → StandsAt text inner at → StandsAt bytes inner (place + at)
inside_stands bytes text inner place at h k = record {
  front = h.front ++ k.front;
  back = k.back ++ h.back;
  whole = h.whole ∙ ap (λ (t : List ℕ). h.front ++ (t ++ h.back)) k.whole
      ∙ ap (λ (t : List ℕ). h.front ++ t) (append_assoc k.front (inner ++ k.back) h.back ∙ ap (λ (t : List ℕ). k.front ++ t) (append_assoc inner k.back h.back))
      ∙ sym (append_assoc h.front k.front (inner ++ (k.back ++ h.back)));
  len = omega (arith, length-append h.front k.front, h.len, k.len);
}

-- ---- names

-- a name stands in the bytes, before which so many of the object's lie, and this is its range there
pub record Stands (bytes : List ℕ) (base : ℕ) (name : List ℕ) (range : ℕ × ℕ) : Type 0 where
  pub at : ℕ
  pub there : StandsAt bytes name at
  pub range_is : range ≡ range_of base at (length name)

no_name_stands : (bytes : List ℕ) (base : ℕ) → Stands bytes base [] (0, 0)
no_name_stands bytes base = record { at = 0; there = record { front = []; back = bytes; whole = refl; len = refl }; range_is = refl }

pub outer_stands : (bytes text name : List ℕ) (base : ℕ) (range : ℕ × ℕ) → StandsAt bytes text base → Stands text base name range → Stands bytes 0 name range
outer_stands bytes text name base range h s =
    let none : 0 + (base + s.at) ≡ base + s.at = omega arith in
    record { at = base + s.at; there = inside_stands bytes text name base s.at h s.there; range_is = s.range_is ∙ rw none refl }

pub name_stands : (bytes name : List ℕ) (range : ℕ × ℕ) → Stands bytes 0 name range → bytes_between bytes range ≡ name
name_stands bytes name range s = by_length (eqb (length name) 0) refl (subst (λ (r : ℕ × ℕ). r ≡ range) s.range_is refl)
  where
    by_length : (b : Bool) → eqb (length name) 0 ≡ b → range_of 0 s.at (length name) ≡ range → bytes_between bytes range ≡ name
    by_length true is e =
        let none : name ≡ [] = nil_from_length name (eqb-true (length name) 0 is) in
        rw (← e, is, none) refl
    by_length false is e =
        let none : s.at ≡ 0 + s.at = omega arith in
        rw (← e, is) (stretch_is bytes name (0 + s.at) (subst (λ (n : ℕ). StandsAt bytes name n) none s.there))

-- the same of a symbol
abbrev pub SymbolStands : List ℕ → ℕ → Symbol → Type 0
SymbolStands bytes base s = Stands bytes base s.name s.name_range

based_stands : (bytes : List ℕ) (base place : ℕ) (n : List ℕ × (ℕ × ℕ)) (text : List ℕ) → StandsAt bytes text place → IsBasedName base place n text → Stands bytes base n.0 n.1
based_stands bytes base place n text h (w, ((head, whole, number, utf8), ends), is) =
    let there = behind_stands bytes text head w.0 place whole h in
    let at : place + length head ≡ w.1 = omega (arith, ends, ap length whole, length-append head w.0) in
    subst (λ (m : List ℕ × (ℕ × ℕ)). Stands bytes base m.0 m.1) is (record { at = w.1; there = subst (λ (k : ℕ). StandsAt bytes w.0 k) at there; range_is = refl })

found_stands : (bytes : List ℕ) (base place : ℕ) (named : Bool) (o : Option (List ℕ × (ℕ × ℕ))) (text : List ℕ) → StandsAt bytes text place → When (IsBasedName base) named place o text → Stands bytes base (name_or_none o).0 (name_or_none o).1
found_stands bytes base place false o text h w = subst (λ (x : Option (List ℕ × (ℕ × ℕ))). Stands bytes base (name_or_none x).0 (name_or_none x).1) (sym w.0) (no_name_stands bytes base)
found_stands bytes base place true None text h w = absurd w
found_stands bytes base place true (Some n) text h w = based_stands bytes base place n text h w

where_stands : (bytes : List ℕ) (base place : ℕ) (named : Bool) (n : List ℕ × (ℕ × ℕ)) (text : List ℕ) → StandsAt bytes text place → IsNameWhere base named place n text → Stands bytes base n.0 n.1
where_stands bytes base place named n text h (o, found, is) = subst (λ (m : List ℕ × (ℕ × ℕ)). Stands bytes base m.0 m.1) is (found_stands bytes base place named o text h found)

numbered_stands : (bytes : List ℕ) (base place flags : ℕ) (d : SymbolDetails) (text : List ℕ) → StandsAt bytes text place → IsNumbered base flags place d text → Stands bytes base d.name d.name_range
numbered_stands bytes base place flags d text h (q, (front, back, parts, number, named), is) =
    subst (λ (x : SymbolDetails). Stands bytes base x.name x.name_range) is (where_stands bytes base (place + length front) (is_named flags) q.1 back (behind_stands bytes text front back place parts h) named)

located_stands : (bytes : List ℕ) (base place flags : ℕ) (d : SymbolDetails) (text : List ℕ) → StandsAt bytes text place → IsLocated base flags place d text → Stands bytes base d.name d.name_range
located_stands bytes base place flags d text h (q, (front, back, parts, named, extent), is) =
    subst (λ (x : SymbolDetails). Stands bytes base x.name x.name_range) is (based_stands bytes base place q.0 front (before_stands bytes text front back place parts h) named)

details_stand : (bytes : List ℕ) (place : ℕ) (k : WasmSymbolKind) (context : SymbolContext) (d : SymbolDetails) (text : List ℕ) → StandsAt bytes text place → IsDetails k context place d text → Stands bytes context.base d.name d.name_range
details_stand bytes place Func context d text h s = numbered_stands bytes context.base place context.flags d text h s
details_stand bytes place Data context d text h s = located_stands bytes context.base place context.flags d text h s
details_stand bytes place Global context d text h s = numbered_stands bytes context.base place context.flags d text h s
details_stand bytes place SectionSymbol context d text h s = subst (λ (x : SymbolDetails). Stands bytes context.base x.name x.name_range) s.2 (no_name_stands bytes context.base)
details_stand bytes place Event context d text h s = subst (λ (x : SymbolDetails). Stands bytes context.base x.name x.name_range) s.2 (no_name_stands bytes context.base)
details_stand bytes place Table context d text h s = numbered_stands bytes context.base place context.flags d text h s

symbol_stands : (bytes : List ℕ) (base place : ℕ) (s : Symbol) (text : List ℕ) → StandsAt bytes text place → IsSymbol base place s text → SymbolStands bytes base s
symbol_stands bytes base place s text h (p, (f1, b1, e1, byte, (f2, b2, e2, judged, (f3, b3, e3, number, details))), is) =
    let h1 = behind_stands bytes text f1 b1 place e1 h in
    let h2 = behind_stands bytes b1 f2 b2 (place + length f1) e2 h1 in
    let h3 = behind_stands bytes b2 f3 b3 (place + length f1 + length f2) e3 h2 in
    subst (λ (x : Symbol). SymbolStands bytes base x) is (details_stand bytes (place + length f1 + length f2 + length f3) p.1.0 (symbol_context base p.1.1.0) p.1.1.1 b3 h3 details)

items_stand : (bytes : List ℕ) (base place : ℕ) (symbols : List Symbol) (text : List ℕ) → StandsAt bytes text place → Items (IsSymbol base) place symbols text → AllByRecursion (SymbolStands bytes base) symbols
items_stand bytes base place [] text h s = tt
items_stand bytes base place (x ∷ symbols) text h (front, back, parts, here, rest) = (
  symbol_stands bytes base place x front (before_stands bytes text front back place parts h) here,
  items_stand bytes base (place + length front) symbols back (behind_stands bytes text front back place parts h) rest,
)

table_stands : (base : ℕ) (symbols : List Symbol) (payload : List ℕ) → AreSymbols base symbols payload → AllByRecursion (SymbolStands payload base) symbols
table_stands base symbols payload (head, body, parts, count, items) =
    items_stand payload base (0 + length head) symbols body (behind_stands payload payload head body 0 parts (all_stands payload)) items

all_outer : (bytes text : List ℕ) (base : ℕ) (symbols : List Symbol) → StandsAt bytes text base → AllByRecursion (SymbolStands text base) symbols → AllByRecursion (SymbolStands bytes 0) symbols
all_outer bytes text base [] h s = tt
all_outer bytes text base (x ∷ symbols) h s = (outer_stands bytes text x.name base x.name_range h s.0, all_outer bytes text base symbols h s.1)

-- ---- the linking section

held_stand : (bytes : List ℕ) (base : ℕ) (k : SubsectionKind) (s : Subsection) (payload : List ℕ) → StandsAt bytes payload base → IsHeld base k s payload → AllByRecursion (SymbolStands bytes 0) (table_in s)
held_stand bytes base part.SegmentInfo s payload h held = subst (λ (x : Subsection). AllByRecursion (SymbolStands bytes 0) (table_in x)) held.1 tt
held_stand bytes base part.InitFuncs s payload h held = subst (λ (x : Subsection). AllByRecursion (SymbolStands bytes 0) (table_in x)) held.1 tt
held_stand bytes base part.SymbolTable s payload h held =
    subst (λ (x : Subsection). AllByRecursion (SymbolStands bytes 0) (table_in x)) held.1 (all_outer bytes payload base held.0 h (table_stands base held.0 payload held.2))
held_stand bytes base part.Other s payload h held = rw held tt

-- the items of each subsection whose payload stands in the bytes have a property
abbrev pub HaveInEachPart : {X : Type 0} → (Subsection → List X) → (X → Type 0) → List ℕ → Type 0
HaveInEachPart items_in P bytes = (base : ℕ) (k : SubsectionKind) (s : Subsection) (payload : List ℕ) → StandsAt bytes payload base → IsHeld base k s payload → AllByRecursion P (items_in s)

subsection_has : {X : Type 0} (items_in : Subsection → List X) (P : X → Type 0) (bytes : List ℕ) → HaveInEachPart items_in P bytes
    → (linking : List ℕ) (base : ℕ) (seen : SeenSubsections) (place : ℕ) (s : Subsection) (text : List ℕ) → StandsAt bytes linking base → StandsAt linking text place → IsSubsection base seen place s text → AllByRecursion P (items_in s)
subsection_has items_in P bytes each linking base seen place s text outer h (p, (f1, b1, e1, byte, (f2, b2, e2, judged, (f3, b3, e3, size, (f4, b4, e4, here, (f5, b5, e5, sized, inside))))), is) =
    let h1 = behind_stands linking text f1 b1 place e1 h in
    let h2 = behind_stands linking b1 f2 b2 (place + length f1) e2 h1 in
    let h3 = behind_stands linking b2 f3 b3 (place + length f1 + length f2) e3 h2 in
    let h4 = behind_stands linking b3 f4 b4 (place + length f1 + length f2 + length f3) e4 h3 in
    let h5 = before_stands linking b4 f5 b5 (place + length f1 + length f2 + length f3 + length f4) e5 h4 in
    let at : place + length f1 + length f2 + length f3 + length f4 ≡ p.1.1.1.0 = omega (arith, ap length here.0, here.1) in
    let payload = p.1.1.1.1.0 in
    let there : StandsAt linking payload p.1.1.1.0 = subst (λ (n : ℕ). StandsAt linking payload n) at (subst (λ (t : List ℕ). StandsAt linking t (place + length f1 + length f2 + length f3 + length f4)) sized.0 h5) in
    subst (λ (x : Subsection). AllByRecursion P (items_in x)) is
    (each (base + p.1.1.1.0) (subsection_kind p.0) p.1.1.1.1.1 payload (inside_stands bytes linking payload base p.1.1.1.0 outer there) inside.1)

chain_has : {X : Type 0} (items_in : Subsection → List X) (P : X → Type 0) (bytes : List ℕ) → HaveInEachPart items_in P bytes
    → (linking : List ℕ) (base : ℕ) (seen : SeenSubsections) (place : ℕ) (xs : List Subsection) (text : List ℕ) → StandsAt bytes linking base → StandsAt linking text place → Chain (subsections_in_turn base) seen place xs text → AllByRecursion P (flat_map items_in xs)
chain_has items_in P bytes each linking base seen place [] text outer h s = tt
chain_has items_in P bytes each linking base seen place (x ∷ xs) text outer h (front, back, parts, here, rest) =
    all_append P (items_in x) (flat_map items_in xs)
    (subsection_has items_in P bytes each linking base seen place x front outer (before_stands linking text front back place parts h) here)
    (chain_has items_in P bytes each linking base (seen_after seen x) (place + length front) xs back outer (behind_stands linking text front back place parts h) rest)

-- then those of the whole section have it
pub linking_has : {X : Type 0} (items_in : Subsection → List X) (items_of : LinkingHeld → List X) (P : X → Type 0) (bytes : List ℕ) → HaveInEachPart items_in P bytes
    → ((xs : List Subsection) → flat_map items_in xs ≡ items_of (linking_of xs))
    → (payload : List ℕ) (base : ℕ) (linking : LinkingHeld) → StandsAt bytes payload base → IsLinking base linking payload → AllByRecursion P (items_of linking)
linking_has {X} items_in items_of P bytes each same payload base linking outer (version, behind, front, (xs, last, (rows, end), is)) =
    let h : StandsAt payload behind.rest (0 + length front.text) = behind_stands payload payload front.text behind.rest 0 front.parts (all_stands payload) in
    let at : StandsAt payload behind.rest behind.position = subst (λ (n : ℕ). StandsAt payload behind.rest n) (sym front.moved) h in
    let there = before_stands payload behind.rest rows.text last.rest behind.position rows.parts at in
    subst (λ (l : LinkingHeld). AllByRecursion P (items_of l)) (sym is)
    (subst (λ (ys : List X). AllByRecursion P ys) (same xs) (chain_has items_in P bytes each payload base no_subsection_seen behind.position xs rows.text outer there rows.spelled))

-- ---- all sections

symbols_of_each : (bytes : List ℕ) → HaveInEach (λ p. p.symbols) (SymbolStands bytes 0) bytes
symbols_of_each bytes k s (Linking linking) there h = linking_has table_in (λ (l : LinkingHeld). l.symbols) (SymbolStands bytes 0) bytes (held_stand bytes) (λ xs. refl) s.payload (base_of s) linking there.payload.0 h.1
symbols_of_each bytes k s _ there h = tt

-- the symbols of all sections
pub symbols_stand : (bytes : List ℕ) (sections : List Section) (parts : Parts) → IsModule sections bytes → AreSound sections no_parts sections parts → AllByRecursion (SymbolStands bytes 0) parts.symbols
symbols_stand bytes sections parts framed sound = all_held (λ p. p.symbols) (SymbolStands bytes 0) bytes (λ a b. refl) (symbols_of_each bytes) sections no_parts sections parts (module_stands bytes sections framed) sound tt
