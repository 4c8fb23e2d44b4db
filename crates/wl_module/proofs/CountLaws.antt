-- Items take at least a byte each, so a list has at most as many as there are bytes.
use Rattle.std.proofs.Common.{ℕ, ◌+◌, ◌≤◌, ◌<◌, ◌≡◌, Bool, false, List, [], ◌∷◌, ◌++◌, length, map, Result, Ok, Err, ap, arith, length-append}
use Rattle.std.specs.Prelude.{IfOk}
use Rattle.std.proofs.lemmas.List.{length-map}
use Rattle.wl_bytes.specs.Leb.{IsU32}
use Rattle.wl_bytes.specs.Items.{IsName}
use Rattle.wl_bytes.specs.Grammar.{Items}
use Rattle.wl_bytes.specs.declared.read_error.ReadError.{ReadError}
use Rattle.wl_bytes.proofs.ChainLaws.{kept, as_chain}
use Rattle.wl_bytes.specs.Outcome.{ReadsWhole}
use Rattle.wl_bytes.specs.Lists.{Listed, Whole, SeenAs, AreFew}
use Rattle.wl_bytes.specs.Chains.{Turns, Chain, ListedAfter, once_in_turn}
use Rattle.wl_module.specs.Limits.{IsMemoryType}
use Rattle.wl_module.specs.Types.{IsFuncType, AreTypes}
use Rattle.wl_module.specs.Bodies.{AreIndices, IsBody, AreBodies}
use Rattle.wl_module.specs.Memories.{memory_once, AreMemories}
use Rattle.wl_module.specs.Globals.{IsGlobal, AreGlobals}
use Rattle.wl_module.specs.Imports.{IsImport, memory_import_once, ArePlacedImports, AreImports}
use Rattle.wl_module.specs.Exports.{IsExport, AreExports}
use Rattle.wl_module.specs.Segments.{IsSegment, AreTargeted, AreSegments}
use Rattle.wl_module.specs.Sections.{Section, sections_in_turn, magic, IsModule, Framed}

-- an item is never spelled by no bytes
abbrev pub HasBytes : {X : Type 0} → (ℕ → X → List ℕ → Type 0) → Type 0
HasBytes {X} item = (place : ℕ) (x : X) (text : List ℕ) → item place x text → 0 < length text

front_bytes : (text front back : List ℕ) → text ≡ front ++ back → 0 < length front → 0 < length text
front_bytes text front back parts some = omega (arith, some, ap length parts, length-append front back)

one_byte : (text : List ℕ) (b : ℕ) → text ≡ b ∷ [] → 0 < length text
one_byte text b is = omega (arith, ap length is)

pub number_bytes : HasBytes IsU32
number_bytes place n text s = omega (arith, ap length s.leb.parts, length-append s.leb.front (s.leb.end ∷ []))

pub name_bytes : HasBytes IsName
name_bytes place name text s = front_bytes _ _ _ s.1 (number_bytes place (length name) s.0 s.2)

-- ---- lists put together

pub chain_few : {S X : Type 0} (turns : Turns S X) → ((s : S) → HasBytes (turns.item s)) → (s : S) (place : ℕ) (xs : List X) (text : List ℕ) → Chain turns s place xs text → length xs ≤ length text
chain_few turns h s place [] text t = omega arith
chain_few turns h s place (x ∷ xs) text t =
    let some = h s place x t.0 t.3 in
    let others = chain_few turns h (turns.next s x) (place + length t.0) xs t.1 t.4 in
    omega (arith, some, others, ap length t.2, length-append t.0 t.1)

pub items_few : {X : Type 0} (item : ℕ → X → List ℕ → Type 0) → HasBytes item → (place : ℕ) (xs : List X) (text : List ℕ) → Items item place xs text → length xs ≤ length text
items_few item h place xs text s = chain_few (kept item) (λ _. h) tt place xs text (as_chain item place xs text s)

pub listed_after_few : {S X : Type 0} (turns : Turns S X) → ((s : S) → HasBytes (turns.item s)) → (s : S) → AreFew (Whole (ListedAfter turns s))
listed_after_few turns h s xs payload t =
    let few = chain_few turns h s (0 + length t.0) xs t.1 t.4 in
    omega (arith, few, ap length t.2, length-append t.0 t.1)

pub listed_few : {X : Type 0} (item : ℕ → X → List ℕ → Type 0) → HasBytes item → AreFew (Whole (Listed item))
listed_few item h xs payload s = listed_after_few (kept item) (λ _. h) tt xs payload (s.0, s.1, s.2, s.3, as_chain item (0 + length s.0) xs s.1 s.4)

pub seen_few : {X Y : Type 0} (f : X → Y) (spells : List X → List ℕ → Type 0) → AreFew spells → AreFew (SeenAs (map f) spells)
seen_few f spells h ys payload s = let few = h s.0 payload s.1 in omega (arith, few, ap length s.2, length-map s.0 f)

-- so it is with what a call answers
pub count_of : {X Y : Type 0} (view : X → List Y) (spells : List Y → List ℕ → Type 0) (faults : ReadError → List ℕ → Type 0) (payload : List ℕ) (r : Result X ReadError) → AreFew spells → ReadsWhole view spells faults payload r → IfOk r (λ x. length (view x) ≤ length payload)
count_of view spells faults payload (Ok x) few h = few (view x) payload h.sound
count_of view spells faults payload (Err e) few h = tt

-- ---- the sections

pub types_few : AreFew AreTypes
types_few = listed_few IsFuncType (λ place t text s. front_bytes _ _ _ s.1.2 (one_byte _ _ s.1.3))

pub indices_few : AreFew AreIndices
indices_few = listed_few IsU32 number_bytes

pub memories_few : (imported : Bool) → AreFew (AreMemories imported)
memories_few imported = listed_after_few (once_in_turn IsMemoryType (memory_once imported)) (λ seen place m text s. front_bytes _ _ _ s.0.1.0.1.2 (one_byte _ _ s.0.1.0.1.3)) imported

pub globals_few : AreFew AreGlobals
globals_few = listed_few IsGlobal (λ place g text s. front_bytes _ _ _ s.1.2 (front_bytes _ _ _ s.1.3.1.2 (one_byte _ _ s.1.3.1.3)))

pub placed_imports_few : AreFew ArePlacedImports
placed_imports_few = listed_after_few (once_in_turn IsImport memory_import_once) (λ seen place i text s. front_bytes _ _ _ s.0.1.2 (name_bytes place s.0.0.0 s.0.1.0 s.0.1.3)) false

pub imports_few : AreFew AreImports
imports_few = seen_few (λ i. i.import) ArePlacedImports placed_imports_few

pub exports_few : AreFew AreExports
exports_few = listed_few IsExport (λ place x text s. front_bytes _ _ _ s.1.2 (name_bytes place s.0.0 s.1.0 s.1.3))

pub bodies_few : AreFew AreBodies
bodies_few = listed_few IsBody (λ place b text s. front_bytes _ _ _ s.1 (number_bytes place (length b.bytes) s.0 s.2))

pub targeted_few : AreFew AreTargeted
targeted_few = listed_few IsSegment (λ place t text s. front_bytes _ _ _ s.1.2 (one_byte _ _ s.1.3))

pub segments_few : AreFew AreSegments
segments_few = seen_few (λ t. t.segment) AreTargeted targeted_few

pub modules_few : AreFew IsModule
modules_few ss b s =
    let few = chain_few sections_in_turn (λ last place x text t. omega (arith, ap length t.1.3, ap length t.1.2, length-append t.1.0 t.1.1)) 0 8 ss s.0 s.2 in
    omega (arith, few, ap length s.1, length-append magic s.0)

pub sections_few : AreFew Framed
sections_few = seen_few (λ (s : Section). s.header) IsModule modules_few
