-- The parts of what a payload spells stand in it.
use Rattle.std.proofs.Common.{◌≡◌, ℕ, ◌+◌, false, List, [], ◌∷◌, ◌++◌, length, map, refl, sym, ap, subst, ◌∙◌, arith, append_assoc, length-append}
use Rattle.std.proofs.lemmas.List.{append-nil}
use Rattle.std.specs.List.{AllByRecursion}
use Rattle.wl_bytes.specs.Items.{IsName}
use Rattle.wl_bytes.specs.Leb.{IsU32}
use Rattle.wl_bytes.specs.Grammar.{Then}
use Rattle.wl_bytes.specs.Lists.{Listed, Whole, SeenAs}
use Rattle.wl_bytes.specs.Chains.{Turns, Chain, ListedAfter, once_in_turn}
use Rattle.wl_bytes.specs.Checks.{Seen}
use Rattle.wl_bytes.specs.Words.{IsPlacedName}
use Rattle.wl_module.specs.Constants.{IsExpression}
use Rattle.wl_module.specs.Bodies.{Body, IsBody, AreBodies}
use Rattle.wl_module.specs.Globals.{IsGlobalType, global_from, IsGlobal, AreGlobals}
use Rattle.wl_module.specs.declared.imports.ExternalKind.{ExternalKind}
use Rattle.wl_module.specs.declared.imports.ImportEntity.{ImportEntity}
use Rattle.wl_module.specs.Imports.{IsExternalKind, IsEntity, import_from, IsImport, memory_import_once, ArePlacedImports, AreImports}
use Rattle.wl_module.specs.Exports.{export_from, IsExport, AreExports}
use Rattle.wl_module.specs.Segments.{Targeted, IsSegment, AreTargeted, AreSegments}
use Rattle.wl_module.specs.Places.{StandsAt, PartsStand, ImportStands, PlacedImportStands, ExportStands, GlobalStands, BodyStands, SegmentStands, TargetedStands}
use Rattle.wl_bytes.proofs.ChainLaws.{kept, as_chain}

-- ---- parts of parts

-- all bytes stand at the front
pub all_stands : (bytes : List ℕ) → StandsAt bytes bytes 0
all_stands bytes = record { front = []; back = []; whole = sym (append-nil bytes); len = refl }

-- the front of a text stands where the text does
pub before_stands : (bytes text front back : List ℕ) (place : ℕ) → text ≡ front ++ back → StandsAt bytes text place → StandsAt bytes front place
before_stands bytes text front back place parts h = record {
  front = h.front;
  back = back ++ h.back;
  whole = h.whole ∙ ap (λ (t : List ℕ). h.front ++ (t ++ h.back)) parts ∙ ap (λ (t : List ℕ). h.front ++ t) (append_assoc front back h.back);
  len = h.len;
}

-- and what comes next follows that
pub behind_stands : (bytes text front back : List ℕ) (place : ℕ) → text ≡ front ++ back → StandsAt bytes text place → StandsAt bytes back (place + length front)
behind_stands bytes text front back place parts h = record {
  front = h.front ++ front;
  back = h.back;
  whole = h.whole ∙ ap (λ (t : List ℕ). h.front ++ (t ++ h.back)) parts ∙ ap (λ (t : List ℕ). h.front ++ t) (append_assoc front back h.back) ∙ sym (append_assoc h.front front (back ++ h.back));
  len = length-append h.front front ∙ ap (λ (n : ℕ). n + length front) h.len;
}

-- ---- items put together

-- an item whose text stands in the bytes has its parts there
abbrev pub HasParts : {X : Type 0} → (List ℕ → X → Type 0) → (ℕ → X → List ℕ → Type 0) → Type 0
HasParts {X} stands item = (bytes : List ℕ) (place : ℕ) (x : X) (text : List ℕ) → item place x text → StandsAt bytes text place → stands bytes x

-- the same of what f sees of it
seen_parts : {X Y : Type 0} (stands : List ℕ → Y → Type 0) (item : ℕ → X → List ℕ → Type 0) (f : X → Y) → HasParts (λ bytes x. stands bytes (f x)) item → HasParts stands (Seen item f)
seen_parts stands item f h bytes place y text s there = subst (stands bytes) s.2 (h bytes place s.0 text s.1 there)

pub chain_stands : {S X : Type 0} (stands : List ℕ → X → Type 0) (turns : Turns S X) → ((s : S) → HasParts stands (turns.item s))
    → (bytes : List ℕ) (s : S) (place : ℕ) (xs : List X) (text : List ℕ) → Chain turns s place xs text → StandsAt bytes text place → AllByRecursion (stands bytes) xs
chain_stands stands turns h bytes s place [] text c there = tt
chain_stands stands turns h bytes s place (x ∷ xs) text (front, back, parts, here, others) there = (
  h s bytes place x front here (before_stands bytes text front back place parts there),
  chain_stands stands turns h bytes (turns.next s x) (place + length front) xs back others (behind_stands bytes text front back place parts there),
)

pub listed_after_stand : {S X : Type 0} (stands : List ℕ → X → Type 0) (turns : Turns S X) → ((s : S) → HasParts stands (turns.item s)) → (s : S) → PartsStand stands (Whole (ListedAfter turns s))
listed_after_stand stands turns h s xs payload (head, body, parts, count, items) =
    chain_stands stands turns h payload s (0 + length head) xs body items (behind_stands payload payload head body 0 parts (all_stands payload))

pub listed_stand : {X : Type 0} (stands : List ℕ → X → Type 0) (item : ℕ → X → List ℕ → Type 0) → HasParts stands item → PartsStand stands (Whole (Listed item))
listed_stand stands item h xs payload (head, body, parts, count, items) = listed_after_stand stands (kept item) (λ _. h) tt xs payload (head, body, parts, count, as_chain item (0 + length head) xs body items)

-- what f sees of each item has its parts there, if the item has
all_seen : {X Y : Type 0} (f : X → Y) (stands : X → Type 0) (seen : Y → Type 0) → ((x : X) → stands x → seen (f x)) → (xs : List X) → AllByRecursion stands xs → AllByRecursion seen (map f xs)
all_seen f stands seen h [] s = tt
all_seen f stands seen h (x ∷ xs) s = (h x s.0, all_seen f stands seen h xs s.1)

pub seen_stand : {X Y : Type 0} (f : X → Y) (stands : List ℕ → X → Type 0) (seen : List ℕ → Y → Type 0) (spells : List X → List ℕ → Type 0)
    → ((bytes : List ℕ) (x : X) → stands bytes x → seen bytes (f x)) → PartsStand stands spells → PartsStand seen (SeenAs (map f) spells)
seen_stand {X} {Y} f stands seen spells h law ys payload s =
    subst (λ (zs : List Y). AllByRecursion (seen payload) zs) s.2 (all_seen f (stands payload) (seen payload) (h payload) s.0 (law s.0 payload s.1))

-- ---- the items

-- a name follows its length
name_stands : (bytes : List ℕ) (place : ℕ) (name text : List ℕ) → IsName place name text → StandsAt bytes text place → (at : ℕ) × StandsAt bytes name at × (at + length name ≡ place + length text)
name_stands bytes place name text (head, parts, count, utf8) there =
    (place + length head, behind_stands bytes text head name place parts there, omega (arith, ap length parts, length-append head name))

import_stands : HasParts PlacedImportStands IsImport
import_stands = seen_parts PlacedImportStands (Then IsName (λ _. Then IsPlacedName (λ _. Then IsExternalKind IsEntity))) import_from by_parts
  where
    by_parts : (bytes : List ℕ) (place : ℕ) (p : List ℕ × ((List ℕ × ℕ) × (ExternalKind × ImportEntity))) (text : List ℕ) → Then IsName (λ _. Then IsPlacedName (λ _. Then IsExternalKind IsEntity)) place p text → StandsAt bytes text place → PlacedImportStands bytes (import_from p)
    by_parts bytes place p text (first, behind, parts, origin, (second, others, parts', (name, ends), more)) there =
        let o = name_stands bytes place p.0 first origin (before_stands bytes text first behind place parts there) in
        let n = name_stands bytes (place + length first) p.1.0.0 second name (before_stands bytes behind second others (place + length first) parts' (behind_stands bytes text first behind place parts there)) in
        let at : n.0 ≡ p.1.0.1 = omega (arith, n.2, ends) in
        record { origin = (o.0, o.1); name = subst (λ (k : ℕ). StandsAt bytes p.1.0.0 k) at n.1 }

export_stands : HasParts ExportStands IsExport
export_stands = seen_parts ExportStands (Then IsName (λ _. Then IsExternalKind (λ _. IsU32))) export_from
    (λ bytes place p text s there. let n = name_stands bytes place p.0 s.0 s.3 (before_stands bytes text s.0 s.1 place s.2 there) in (n.0, n.1))

global_stands : HasParts GlobalStands IsGlobal
global_stands = seen_parts GlobalStands (Then IsGlobalType (λ _. IsExpression)) global_from
    (λ bytes place p text s there. (place + length s.0, before_stands bytes s.1 p.1 (0x0b ∷ []) (place + length s.0) s.4.1 (behind_stands bytes text s.0 s.1 place s.2 there)))

body_stands : (bytes : List ℕ) (place : ℕ) (b : Body) (text : List ℕ) → IsBody place b text → StandsAt bytes text place → BodyStands bytes b
body_stands bytes place b text (head, parts, count, own, offset, object) there =
    subst (λ (k : ℕ). StandsAt bytes b.bytes k) (sym offset) (behind_stands bytes text head b.bytes place parts there)

segment_stands : (bytes : List ℕ) (place : ℕ) (t : Targeted) (text : List ℕ) → IsSegment place t text → StandsAt bytes text place → TargetedStands bytes t
segment_stands bytes place t text (flag, (first, behind, parts, code, (target, counted, parts', to, (number, parts'', count))), kind, offset, size) there =
    let head = first ++ (target ++ number) in
    let whole : text ≡ head ++ t.segment.payload =
    parts ∙ ap (λ (r : List ℕ). first ++ r) (parts' ∙ ap (λ (r : List ℕ). target ++ r) parts'' ∙ sym (append_assoc target number t.segment.payload)) ∙ sym (append_assoc first (target ++ number) t.segment.payload) in
    record {
      head = head;
      there = subst (λ (k : ℕ). StandsAt bytes (head ++ t.segment.payload) k) (sym offset) (subst (λ (r : List ℕ). StandsAt bytes r place) whole there);
      size = sym (length-append head t.segment.payload) ∙ sym (ap length whole) ∙ sym size;
    }

-- ---- the sections

pub placed_imports_stand : PartsStand PlacedImportStands ArePlacedImports
placed_imports_stand = listed_after_stand PlacedImportStands (once_in_turn IsImport memory_import_once) (λ seen bytes place i text s there. import_stands bytes place i text s.0 there) false

pub imports_stand : PartsStand ImportStands AreImports
imports_stand = seen_stand (λ i. i.import) PlacedImportStands ImportStands ArePlacedImports (λ bytes i h. record { origin = h.origin; name = (i.name_offset, h.name) }) placed_imports_stand

pub exports_stand : PartsStand ExportStands AreExports
exports_stand = listed_stand ExportStands IsExport export_stands

pub globals_stand : PartsStand GlobalStands AreGlobals
globals_stand = listed_stand GlobalStands IsGlobal global_stands

pub bodies_stand : PartsStand BodyStands AreBodies
bodies_stand = listed_stand BodyStands IsBody body_stands

pub targeted_stand : PartsStand TargetedStands AreTargeted
targeted_stand = listed_stand TargetedStands IsSegment segment_stands

pub segments_stand : PartsStand SegmentStands AreSegments
segments_stand = seen_stand (λ t. t.segment) TargetedStands SegmentStands AreTargeted (λ bytes t h. h) targeted_stand
