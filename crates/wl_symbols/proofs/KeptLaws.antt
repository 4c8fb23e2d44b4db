-- What follows from kept units: what they refer to is kept, and live sets of a link say the same.
use Rattle.std.proofs.Common.{◌≡◌, ◌⊎◌, ℕ, zero, suc, true, false, List, [], ◌∷◌, Some, inl, inr, refl, sym, ◌∙◌}
use Rattle.std.specs.Prelude.{slice_get}
use Rattle.std.proofs.lemmas.Bool.{cases_Bool, and_parts, true≢false}
use Rattle.wl_bytes.specs.declared.read_error.ReadError.{ReadError}
use Rattle.wl_bytes.specs.Outcome.{AreAlternatives}
use Rattle.wl_module.specs.Bodies.{Body}
use Rattle.wl_linking.specs.Object.{Object}
use Rattle.wl_ops.specs.Decoding.{AreTaken}
use Rattle.wl_ops.specs.declared.op.Op.{Op}
use Rattle.wl_reach.specs.Search.{IsReached}
use Rattle.wl_reach.proofs.ChainLaws.{IsReached-root, IsReached-step, IsReached-closed}
use Rattle.wl_symbols.specs.Link.{Link}
use Rattle.wl_symbols.specs.Units.{units_of, exists, unit_index, sibling_of}
use Rattle.wl_symbols.specs.References.{RefersBySymbol, RefersByNumber, RefersBySlot, Refers}
use Rattle.wl_symbols.specs.Roots.{IsRoot}
use Rattle.wl_symbols.specs.Kept.{IsKept}
use Rattle.wl_symbols.specs.Live.{Live, is_live, numbers_segments, IsLiveOf, live_below, ordinal_of}
use Rattle.wl_symbols.specs.declared.units.LinkUnit.{LinkUnit}
use Rattle.wl_symbols.specs.declared.units.WasmGcUnit.TheVariants.{DefinedFunction, DataSegment}
use Rattle.wl_symbols.proofs.ExistLaws.{unit_at_exists, other_unit_exists, replacing_unit_exists, root_exists}
use Rattle.wl_symbols.proofs.OrdinalLaws.{numbers_segments-mark}
use Rattle.wl_lists.proofs.In.{Contains-none, Contains-here}
use Rattle.wl_ops.specs.Numbers.{HasNumbers, AreTold, NumbersFault}
use Rattle.wl_ops.specs.declared.op.DataIndexImm.{DataIndexImm}

-- a body has one list of numbers
abbrev pub OneNumbers : Type 0
OneNumbers = (body : List ℕ) (numbers others : List DataIndexImm) → HasNumbers numbers body → HasNumbers others body → numbers ≡ others

-- ---- one step more

pub kept_root : (link : Link) (u : LinkUnit) → IsRoot link u → IsKept link u
kept_root link u root = inr (IsReached-root (IsRoot link) (Refers link) u root)

pub reached_exists : (link : Link) (u : LinkUnit) → IsReached (IsRoot link) (Refers link) u → exists (units_of link.objects) u ≡ true
reached_exists link u r =
    IsReached-closed (IsRoot link) (Refers link) (λ v. exists (units_of link.objects) v ≡ true)
    (λ v root. root_exists link v root) (λ v w there refers. refers.to) u r

-- one of the three ways in which a unit refers to another
abbrev pub HowTo : Link → LinkUnit → LinkUnit → Type 0
HowTo link u v = RefersBySymbol link u v ⊎ (RefersByNumber link u v ⊎ RefersBySlot link u v)

pub kept_by : (link : Link) (u v : LinkUnit) → IsKept link u → HowTo link u v → exists (units_of link.objects) v ≡ true → IsKept link v
kept_by link u v (inl off) how there = inl off
kept_by link u v (inr reached) how there =
    inr (IsReached-step (IsRoot link) (Refers link) u v reached (record { from = reached_exists link u reached; to = there; how = how }))

pub symbol_exists : (link : Link) (u v : LinkUnit) → RefersBySymbol link u v → exists (units_of link.objects) v ≡ true
symbol_exists link u v b =
    elim b.leads [
      | inl own ↦ unit_at_exists (units_of link.objects) u.object b.symbol v own
      | inr other ↦ replacing_unit_exists link (units_of link.objects) u.object b.relocation.index b.symbol v other
    ]

pub slot_exists : (link : Link) (u v : LinkUnit) → RefersBySlot link u v → exists (units_of link.objects) v ≡ true
slot_exists link u v b = other_unit_exists link (units_of link.objects) u.object b.number v b.leads

pub kept_by_symbol : (link : Link) (u v : LinkUnit) → IsKept link u → RefersBySymbol link u v → IsKept link v
kept_by_symbol link u v kept b = kept_by link u v kept (inl b) (symbol_exists link u v b)

pub kept_by_number : (link : Link) (u v : LinkUnit) → IsKept link u → RefersByNumber link u v → exists (units_of link.objects) v ≡ true → IsKept link v
kept_by_number link u v kept b there = kept_by link u v kept (inr (inl b)) there

pub kept_by_slot : (link : Link) (u v : LinkUnit) → IsKept link u → RefersBySlot link u v → IsKept link v
kept_by_slot link u v kept b = kept_by link u v kept (inr (inr b)) (slot_exists link u v b)

-- ---- live sets

pub live_exists : (link : Link) (live : Live) (u : LinkUnit) → IsLiveOf link live → is_live live u ≡ true → exists (units_of link.objects) u ≡ true
live_exists link live u is on = rw is.units at ((and_parts (exists live.units u) _ on).0)

pub live_root : (link : Link) (live : Live) (u : LinkUnit) → IsLiveOf link live → IsRoot link u → is_live live u ≡ true
live_root link live u is root = is.every u (root_exists link u root) (kept_root link u root)

pub live_by_symbol : (link : Link) (live : Live) (u v : LinkUnit) → IsLiveOf link live → is_live live u ≡ true → RefersBySymbol link u v → is_live live v ≡ true
live_by_symbol link live u v is on b = is.every v (symbol_exists link u v b) (kept_by_symbol link u v (is.only u on) b)

pub live_by_number : (link : Link) (live : Live) (u v : LinkUnit) → IsLiveOf link live → is_live live u ≡ true → RefersByNumber link u v → exists (units_of link.objects) v ≡ true → is_live live v ≡ true
live_by_number link live u v is on b there = is.every v there (kept_by_number link u v (is.only u on) b there)

pub live_by_slot : (link : Link) (live : Live) (u v : LinkUnit) → IsLiveOf link live → is_live live u ≡ true → RefersBySlot link u v → is_live live v ≡ true
live_by_slot link live u v is on b = is.every v (slot_exists link u v b) (kept_by_slot link u v (is.only u on) b)

pub live_to : (link : Link) (a b : Live) (u : LinkUnit) → IsLiveOf link a → IsLiveOf link b → is_live a u ≡ true → is_live b u ≡ true
live_to link a b u la lb on = lb.every u (live_exists link a u la on) (la.only u on)

pub live_one : (link : Link) (a b : Live) (u : LinkUnit) → IsLiveOf link a → IsLiveOf link b → is_live a u ≡ is_live b u
live_one link a b u la lb =
    elim (cases_Bool (is_live a u)) [
      | inl on ↦ on ∙ sym (live_to link a b u la lb on)
      | inr off ↦
          elim (cases_Bool (is_live b u)) [
            | inl other ↦ absurd (true≢false (sym (live_to link b a u lb la other) ∙ off))
            | inr none ↦ off ∙ sym none
          ]
    ]

pub below_one : (link : Link) (a b : Live) (u : LinkUnit) → IsLiveOf link a → IsLiveOf link b → (n : ℕ) → live_below a u n ≡ live_below b u n
below_one link a b u la lb zero = refl
below_one link a b u la lb (suc n) =
    let sibling : LinkUnit = record { object = u.object; unit = sibling_of u.unit n } in
    rw (below_one link a b u la lb n, live_one link a b sibling la lb) refl

pub ordinal_one : (link : Link) (a b : Live) (u : LinkUnit) → IsLiveOf link a → IsLiveOf link b → ordinal_of a u ≡ ordinal_of b u
ordinal_one link a b u la lb = rw (live_one link a b u la lb, below_one link a b u la lb (unit_index u.unit)) refl

-- ---- bodies that aren't decoded

-- a body without an operator list has no numbers, so it refers to no segment
pub undecoded_refers : OneNumbers → (link : Link) (u v : LinkUnit) (b : RefersByNumber link u v) → ((ops : List Op) → AreTaken ops b.body.bytes → ⊥) → ⊥
undecoded_refers only link u v b none =
    let same : b.numbers ≡ [] = only b.body.bytes b.numbers [] b.are (inr (none, refl)) in
    Contains-none b.number (rw same at b.one)

-- ---- bodies that aren't marked

-- a body that doesn't number segments has no numbers, whatever is reported of it
pub unnumbered : AreAlternatives AreTold NumbersFault → ((body : List ℕ) (e : ReadError) → NumbersFault e body → HasNumbers [] body) → (link : Link) (live : Live) (object function : ℕ) (o : Object) (body : Body) → IsLiveOf link live → slice_get link.objects object ≡ Some o → slice_get o.bodies function ≡ Some body → is_live live (record { object = object; unit = DefinedFunction function }) ≡ true → numbers_segments live (record { object = object; unit = DefinedFunction function }) ≡ false → HasNumbers [] body.bytes
unnumbered told none link live object function o body is here has on off =
    elim (told.some body.bytes) [
      | inl n ↦ empty n.0 n.1.0
      | inr e ↦ none body.bytes e.0 e.1
    ]
  where
    u : LinkUnit
    u = record { object = object; unit = DefinedFunction function }

    empty : (ns : List DataIndexImm) → HasNumbers ns body.bytes → HasNumbers [] body.bytes
    empty [] h = h
    empty (n ∷ ns) h =
        let there : exists live.units u ≡ true = (and_parts (exists live.units u) _ on).0 in
        let v : LinkUnit = record { object = object; unit = DataSegment n.index } in
        let refers : RefersByNumber link u v = record {
          object = o;
          here = here;
          function = function;
          from = refl;
          body = body;
          has = has;
          numbers = n ∷ ns;
          are = h;
          number = n;
          one = Contains-here n ns;
          to = refl;
        } in
        let mark : numbers_segments live u ≡ true = numbers_segments-mark live u there ∙ is.numbering.every u there (v, refers) in
        absurd (true≢false (sym mark ∙ off))
