-- What becomes of the bodies of kept functions.
use Rattle.std.proofs.Common.{◌≡◌, ◌∙◌, ◌<◌, ℕ, zero, suc, ◌+◌, Bool, true, false, not, ◌||◌, ◌==◌, List, [], ◌∷◌, ◌++◌, length, Contains, refl, sym, ap, subst, arith, inl, inr, Option, Some, None, slice_get, if◌then◌else◌, eqb-true, lt-ltb}
use Rattle.std.specs.Option.{option_and_then}
use Rattle.std.proofs.Math.Bool.{or-false}
use Rattle.std.proofs.lemmas.Bool.{cases_lt}
use Rattle.std.proofs.lemmas.Option.{slice_get_within}
use Rattle.std.proofs.lemmas.List.Elements.{Contains-append_cases}
use Rattle.wl_module.specs.Bodies.{Body}
use Rattle.wl_bytes.specs.Outcome.{HasCause}
use Rattle.wl_bytes.specs.declared.read_error.ReadError.{ReadError}
use Rattle.wl_bytes.specs.declared.read_error.ReadError.TheVariants as read
use Rattle.wl_bytes.specs.declared.read_error.Why.TheVariants.{BadIndex}
use Rattle.wl_linking.specs.Object.{Object}
use Rattle.wl_linking.specs.declared.error.LinkError.TheVariants.{OutOfMemory}
use Rattle.wl_symbols.specs.Link.{Link}
use Rattle.wl_live.specs.Faults.{HasBodyFault, object_refusal}
use Rattle.wl_symbols.specs.Live.{Live, is_live, numbers_segments, IsLiveOf}
use Rattle.wl_symbols.specs.References.{RefersByNumber}
use Rattle.wl_symbols.specs.Units.{units_of, exists}
use Rattle.wl_symbols.specs.declared.units.LinkUnit.{LinkUnit}
use Rattle.wl_symbols.specs.declared.units.WasmGcUnit.TheVariants.{DefinedFunction, DataSegment}
use Rattle.wl_ops.specs.Numbers.{HasNumbers, AreTold}
use Rattle.wl_ops.specs.Rewriting.{new_index, Rewrites, LacksIndex, RemapFault, IsRemapped}
use Rattle.wl_ops.specs.declared.op.DataIndexImm.{DataIndexImm}
use Rattle.wl_symbols.specs.Input.{Input, keeps}
use Rattle.wl_plan.specs.Bodies.{body_in, IsBodyIn}
use Rattle.wl_places.specs.SegmentNumbers.{new_number}
use Rattle.wl_plan.specs.BodySteps.{AreSoundBodies, AreMovedIn, AreRewritten, IsTakenFrom}
use Rattle.wl_places.specs.SegmentNumbers.{AreNewNumbers}
use Rattle.wl_plan.specs.declared.rewriting.RewrittenBody.{RewrittenBody}
use Rattle.wl_plan.specs.steps.Parsing.{link_error_of}
use Rattle.wl_places.specs.declared.placing.Placing.{Placing}
use Rattle.wl_places.proofs.NumberLaws.{counts_at}

-- ---- what lower crates say

-- a segment that a live body numbers is live
abbrev pub SegmentsAreClosed : Type 0
SegmentsAreClosed = (link : Link) (live : Live) (u v : LinkUnit) → IsLiveOf link live
    → is_live live u ≡ true → RefersByNumber link u v → exists (units_of link.objects) v ≡ true
    → is_live live v ≡ true

-- a live body that isn't marked numbers no segment
abbrev pub UnmarkedNumberNone : Type 0
UnmarkedNumberNone = (link : Link) (live : Live) (object function : ℕ) (o : Object) (body : Body)
    → IsLiveOf link live → slice_get link.objects object ≡ Some o
    → slice_get o.bodies function ≡ Some body
    → is_live live (record { object = object; unit = DefinedFunction function }) ≡ true
    → numbers_segments live (record { object = object; unit = DefinedFunction function }) ≡ false
    → HasNumbers [] body.bytes

-- ---- where a body is from

-- the object has the body
pub record IsFound (input : Input) (object function : ℕ) (b : Body) : Type 0 where
  pub o : Object
  pub here : slice_get input.link.objects object ≡ Some o
  pub there : slice_get o.bodies function ≡ Some b

found_in : (input : Input) (object function : ℕ) (b : Body) (found : Option Object)
    → slice_get input.link.objects object ≡ found
    → option_and_then (λ (o : Object). slice_get o.bodies function) found ≡ Some b
    → IsFound input object function b
found_in input object function b None at is = absurd cc
found_in input object function b (Some o) at is = record { o = o; here = at; there = is }

pub found : (input : Input) (object function : ℕ) (b : Body)
    → body_in input object function ≡ Some b → IsFound input object function b
found input object function b is =
    found_in input object function b (slice_get input.link.objects object) refl is

pub body_at : (input : Input) (object function : ℕ) (o : Object) (b : Body)
    → slice_get input.link.objects object ≡ Some o → slice_get o.bodies function ≡ Some b
    → body_in input object function ≡ Some b
body_at input object function o b here there = rw here there

pub object_is_there : (input : Input) (object function : ℕ) (b : Body)
    → body_in input object function ≡ Some b → object < length input.link.objects
object_is_there input object function b is =
    let f : IsFound input object function b = found input object function b is in
    slice_get_within input.link.objects object f.o f.here

-- the body is that of a kept function of the object, in a link of whole objects
pub record HasSoundBody (input : Input) (object : ℕ) (b : Body) : Type 0 where
  pub sound : AreSoundBodies input
  pub function : ℕ
  pub here : body_in input object function ≡ Some b
  pub is_kept : keeps input object (DefinedFunction function) ≡ true

-- ---- no refusal but want of memory

segment_exists : (objects : List Object) (object number : ℕ) (o : Object)
    → slice_get objects object ≡ Some o → number < length o.segments
    → exists (units_of objects) (record { object = object; unit = DataSegment number }) ≡ true
segment_exists objects object number o here lt =
    rw (counts_at objects object o here) (lt-ltb number (length o.segments) lt)

-- a sound body has no fault
sound_body : (input : Input) (object : ℕ) (b : Body) (h : HasSoundBody input object b)
    (o : Object) → slice_get input.link.objects object ≡ Some o
    → slice_get o.bodies h.function ≡ Some b → (e : ReadError) → HasBodyFault o b e → ⊥
sound_body input object b h o here there e fault =
    let u : LinkUnit = record { object = object; unit = DefinedFunction h.function } in
    (h.sound).clear.none (object_refusal object e) (record {
      unit = u;
      kept = (h.sound).kept.only u h.is_kept;
      object = o;
      here = here;
      cause = e;
      fault = (b, there, fault);
      told = refl;
    })

-- each number of a sound body has a new one
none_lacks : SegmentsAreClosed → (input : Input) (g : Placing) (object : ℕ) (b : Body)
    (numbers : List (Option ℕ)) (h : HasSoundBody input object b)
    → AreNewNumbers input g object numbers → (ns : List DataIndexImm) → AreTold ns b.bytes
    → LacksIndex (new_index numbers) ns → ⊥
none_lacks law input g object b numbers h new ns told lacks =
    let f : IsFound input object h.function b = found input object h.function b h.here in
    let n : DataIndexImm = lacks.0 in
    let u : LinkUnit = record { object = object; unit = DefinedFunction h.function } in
    let v : LinkUnit = record { object = object; unit = DataSegment n.index } in
    elim (cases_lt n.index (length (f.o).segments)) [
      | inl lt ↦
          let refers : RefersByNumber input.link u v = record {
            object = f.o;
            here = f.here;
            function = h.function;
            from = refl;
            body = b;
            has = f.there;
            numbers = ns;
            are = told.0;
            number = n;
            one = lacks.1;
            to = refl;
          } in
          let kept : keeps input object (DataSegment n.index) ≡ true =
          law input.link input.live u v (h.sound).kept h.is_kept refers
          (segment_exists input.link.objects object n.index f.o f.here lt) in
          new.kept n.index kept lacks.2
      | inr le ↦
          sound_body input object b h f.o f.here f.there (read.Malformed BadIndex)
          (inr (ns, told.0, (n, lacks.1, le)))
    ]

pub no_remap_fault : SegmentsAreClosed → (input : Input) (g : Placing) (object : ℕ) (b : Body)
    (numbers : List (Option ℕ)) → HasSoundBody input object b
    → AreNewNumbers input g object numbers → (e : ReadError)
    → RemapFault (new_index numbers) e b.bytes → ⊥
no_remap_fault law input g object b numbers h new e (inl fault) =
    let f : IsFound input object h.function b = found input object h.function b h.here in
    sound_body input object b h f.o f.here f.there e (inl fault)
no_remap_fault law input g object b numbers h new e (inr lacks) =
    none_lacks law input g object b numbers h new lacks.0 lacks.1 lacks.2

-- no numbers are reported of a sound body that isn't marked
pub none_told : UnmarkedNumberNone → (input : Input) (object function : ℕ) (b : Body)
    → AreSoundBodies input → body_in input object function ≡ Some b
    → keeps input object (DefinedFunction function) ≡ true
    → numbers_segments input.live (record { object = object; unit = DefinedFunction function })
    ≡ false → AreTold [] b.bytes
none_told law input object function b sound here kept off =
    let f : IsFound input object function b = found input object function b here in
    let h : HasSoundBody input object b =
    record { sound = sound; function = function; here = here; is_kept = kept } in (
      law input.link input.live object function f.o b sound.kept f.here f.there kept off,
      λ e fault. sound_body input object b h f.o f.here f.there e (inl fault),
    )

pub told_memory : (cause : ReadError → Type 0) (object : ℕ) (e : ReadError) → HasCause cause e
    → ((d : ReadError) → cause d → ⊥) → link_error_of object e ≡ OutOfMemory
told_memory cause object read.OutOfMemory h none = refl
told_memory cause object (read.Malformed why) h none = absurd (none (read.Malformed why) h)
told_memory cause object (read.Unsupported form) h none = absurd (none (read.Unsupported form) h)

-- ---- the bytes

rewrites_same : (f h : ℕ → Option ℕ) → ((k : ℕ) → f k ≡ h k) → (place : ℕ)
    (ns : List DataIndexImm) (x y : List ℕ) → Rewrites f place ns x y → Rewrites h place ns x y
rewrites_same f h same place [] x y r = r
rewrites_same f h same place (n ∷ ns) x y r = (
  r.0,
  r.1,
  r.2,
  r.3,
  r.4,
  r.5,
  r.6,
  r.7,
  r.8,
  sym (same n.index) ∙ r.9,
  r.10,
  r.11,
  rewrites_same f h same (n.offset + n.len) ns r.2 r.5 r.12,
)

-- what becomes of a body
pub renumbered_is : (input : Input) (g : Placing) (object function : ℕ) (own b : Body)
    (numbers : List (Option ℕ)) (fields after copy old : List ℕ) (changed : Bool)
    → body_in input object function ≡ Some own → AreNewNumbers input g object numbers
    → old ≡ own.bytes
    → IsRemapped (new_index numbers) fields (changed, (copy, after)) old
    → b.bytes ≡ copy → b.owned ≡ (own.owned || changed) → b.code_offset ≡ own.code_offset
    → b.object_index ≡ object → IsBodyIn input g object function b
renumbered_is input g object function own b numbers fields after copy old changed found new same m bytes owned offset index =
    let ns : List DataIndexImm = m.numbers in
    let some : changed ≡ not (length ns == 0) = m.some in
    let r : Rewrites (new_index numbers) 0 ns own.bytes copy =
    subst (λ (t : List ℕ). Rewrites (new_index numbers) 0 ns t copy) same m.bytes in
    record {
      own = own;
      here = found;
      bytes = record {
        numbers = ns;
        theirs = subst (λ (t : List ℕ). AreTold ns t) same m.theirs;
        rewritten =
            subst (λ (t : List ℕ). Rewrites (new_number input g object) 0 ns own.bytes t) (sym bytes)
            (rewrites_same (new_index numbers) (new_number input g object) new.each 0 ns own.bytes copy r);
      };
      owned = owned ∙ ap (λ c. own.owned || c) some;
      code_offset = offset;
      object_index = index;
    }

-- what becomes of one that numbers no segment
pub copied_is : (input : Input) (g : Placing) (object function : ℕ) (own b : Body)
    → body_in input object function ≡ Some own → AreTold [] own.bytes → b.bytes ≡ own.bytes
    → b.owned ≡ own.owned → b.code_offset ≡ own.code_offset → b.object_index ≡ object
    → IsBodyIn input g object function b
copied_is input g object function own b found told bytes owned offset index = record {
  own = own;
  here = found;
  bytes = record { numbers = []; theirs = told; rewritten = bytes };
  owned = owned ∙ sym (or-false own.owned);
  code_offset = offset;
  object_index = index;
}

-- where its fields stand then
pub fields_moved : (input : Input) (g : Placing) (object : ℕ) (numbers : List (Option ℕ))
    (fields after copy old body : List ℕ) (changed : Bool) → AreNewNumbers input g object numbers
    → old ≡ body → IsRemapped (new_index numbers) fields (changed, (copy, after)) old
    → AreMovedIn input g object body fields after
fields_moved input g object numbers fields after copy old body changed new same m = record {
  numbers = m.numbers;
  theirs = subst (λ (t : List ℕ). AreTold m.numbers t) same m.theirs;
  row = numbers;
  are_new = new;
  moved = m.places;
}

-- ---- bodies that were rewritten with their fields

pub only_one : {X : Type 0} (x y : X) → Contains (x ∷ []) y → x ≡ y
only_one x y (zero, lt, is) = is
only_one x y (suc k, lt, is) = absurd (omega (arith, lt))

-- what is taken from them is the body of its function
pub taken_is : (input : Input) (g : Placing) (bodies : List RewrittenBody) (object function : ℕ)
    (b : Body) → AreRewritten input g bodies → IsTakenFrom bodies object function b
    → IsBodyIn input g object function b
taken_is input g bodies object function b are t =
    let one : IsBodyIn input g (t.one).object (t.one).function (t.one).body = are t.one t.listed in
    rw t.body_is
    (subst (λ i. IsBodyIn input g i function (t.one).body) t.object_is
    (subst (λ k. IsBodyIn input g (t.one).object k (t.one).body) t.function_is one))

-- one more of them
pub one_more_rewritten : (input : Input) (g : Placing) (old new : List RewrittenBody)
    (more : RewrittenBody) → AreRewritten input g old
    → IsBodyIn input g more.object more.function more.body → new ≡ old ++ more ∷ []
    → AreRewritten input g new
one_more_rewritten input g old new more are is grown one listed =
    elim (Contains-append_cases old (more ∷ []) one
    (subst (λ (bs : List RewrittenBody). Contains bs one) grown listed)) [
      | inl before ↦ are one before
      | inr last ↦
          subst (λ (x : RewrittenBody). IsBodyIn input g x.object x.function x.body)
          (only_one more one last) is
    ]

-- two lists with one more are the same in the last one
pub last_is : {X : Type 0} (xs ys : List X) (x y : X) → xs ++ x ∷ [] ≡ ys ++ y ∷ [] → x ≡ y
last_is [] [] x y e = cc (e)
last_is [] (z ∷ []) x y e = absurd cc
last_is [] (z ∷ (w ∷ ys)) x y e = absurd cc
last_is (z ∷ []) [] x y e = absurd cc
last_is (z ∷ (w ∷ xs)) [] x y e = absurd cc
last_is (z ∷ xs) (w ∷ ys) x y e = last_is xs ys x y (cc (e))
