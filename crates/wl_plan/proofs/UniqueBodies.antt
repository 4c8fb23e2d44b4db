-- Bodies, where fields stand in them, what fields take, and how many bytes sections take, are fixed
-- by the link and by where things lie.
use Rattle.std.proofs.Common.{◌≡◌, ◌∙◌, ℕ, ℤ, zero, suc, ◌+◌, map, Bool, not, ◌||◌, ◌==◌, List, [], ◌∷◌, ◌++◌, length, refl, sym, ap, subst, arith, Option, Some, Result, Ok, slice_get}
use Rattle.wl_bytes.specs.Leb.{IsShortest, IsShortestSleb}
use Rattle.wl_module.specs.Bodies.{Body}
use Rattle.wl_module.specs.Types.{FunctionType}
use Rattle.wl_custom.specs.RelocationTypes.{taking_of}
use Rattle.wl_custom.specs.declared.relocation_type.RelocationType.{RelocationType}
use Rattle.wl_ops.specs.Numbers.{HasNumbers}
use Rattle.wl_ops.specs.Rewriting.{IsShort, Rewrites, before, NewBytes, Moves}
use Rattle.wl_ops.specs.declared.op.DataIndexImm.{DataIndexImm}
use Rattle.wl_data.specs.Sizes.{HasSectionSize, AreBodiesText}
use Rattle.wl_custom.specs.declared.takings.Taking.{Taking}
use Rattle.wl_custom.specs.declared.takings.Taking.TheVariants.{FunctionIndex, Slot, SlotBehindBase, TypeIndex, GlobalIndex, TableNumber, Address}
use Rattle.wl_ctors.specs.InitCalls.{AreInitCalls}
use Rattle.wl_ctors.specs.declared.calls.InitCall.{InitCall}
use Rattle.wl_ops.specs.declared.op.Op.{Op}
use Rattle.wl_synth.specs.Bodies.{ThreadBlock, thread_block, call_sequence_ops, wrapper_ops, init_tls_ops, init_memory_ops}
use Rattle.wl_synth.specs.Encoding.{IsEncoded, EncodeFault}
use Rattle.wl_synth.specs.declared.error.SynthError.TheVariants.{Range}
use Rattle.wl_synth.specs.declared.parts.PassiveSegmentCopy.{PassiveSegmentCopy}
use Rattle.wl_synth.specs.declared.parts.TlsGotFixup.{TlsGotFixup}
use Rattle.wl_synth.specs.declared.parts.TlsPointerFixup.{TlsPointerFixup}
use Rattle.wl_synth.specs.declared.calls.TheConstants.{UNREACHABLE_FUNCTION_BODY}
use Rattle.wl_symbols.specs.declared.linker_symbol.WasmLinkerSymbol.TheVariants.{CallCtors, InitTls, TlsBase}
use Rattle.wl_bind.specs.EntryTypes.{type_of_entry}
use Rattle.wl_bind.specs.FunctionSpace.{FunctionEntry, FunctionOf, InitMemory, function_space}
use Rattle.wl_bind.specs.GlobalSpace.{GlobalOf, global_space}
use Rattle.wl_bind.specs.IndexMaps.{symbol_function}
use Rattle.wl_symbols.specs.Input.{Input}
use Rattle.wl_bind.specs.OutputTypes.{output_types}
use Rattle.wl_bind.specs.Parts.{StandOnce}
use Rattle.wl_symbols.specs.Relocations.{relocations}
use Rattle.wl_bind.specs.declared.binding.FunctionTarget.TheVariants.{Defined, Made, Host, Stub}
use Rattle.wl_bind.specs.declared.binding.GlobalTarget.TheVariants as global
use Rattle.wl_linking.specs.Steps.{Clear}
use Rattle.wl_linking.specs.declared.error.LinkError.{LinkError}
use Rattle.wl_symbols.specs.declared.relocated.FixupPlace.{FixupPlace}
use Rattle.wl_symbols.specs.declared.relocated.FixupPlace.TheVariants.{Code, Segment}
use Rattle.wl_symbols.specs.declared.relocated.Relocated.{Relocated}
use Rattle.wl_exports.specs.Exports.{Entity, OfFunction}
use Rattle.wl_exports.specs.Wrappers.{wrapped}
use Rattle.wl_plan.specs.Bodies.{IsMovedBy, IsRenumbered, body_in, IsBodyIn, IsMadeBody, AreMadeOps, IsEncodedBody, IsBodyFault, called, IsBodyOf, AreOwnBodies, IsWrapperBody, AreBodies, IsMovedAt}
use Rattle.wl_places.specs.SegmentNumbers.{new_number}
use Rattle.wl_plan.specs.Fixups.{StandsAt, type_named, global_named, field_taken, IsTaken, IsFieldOf, IsFixup, AreFixups}
use Rattle.wl_plan.specs.Functions.{own_functions}
use Rattle.wl_plan.specs.Threads.{got_places, IsGotFixup, IsThreadBlock}
use Rattle.wl_places.specs.Copies.{shared_copies}
use Rattle.wl_output.specs.declared.fixups.Fixup.{Fixup}
use Rattle.wl_output.specs.declared.fixups.FixupTo.{FixupTo}
use Rattle.wl_output.specs.declared.fixups.FixupTo.TheVariants.{Value, Deferred}
use Rattle.wl_places.specs.declared.placing.Placing.{Placing}
use Rattle.wl_lists.proofs.Beside.{zip_right}
use Rattle.wl_plan.proofs.PositionLaws.{stands as contained}
use Rattle.wl_plan.proofs.UniqueParts.{some_one, cut_one, GivesOne, zip_one, AreOnce}

-- ---- what laws of lower crates say

-- a number has one shortest form of each sign, a body one list of numbers of segments, operators
-- one body; the calls at the start are one list
pub record FormsAreOne : Type 0 where
  pub unsigned : (n : ℕ) (x y : List ℕ) → IsShortest n x → IsShortest n y → x ≡ y
  pub signed : (z : ℤ) (x y : List ℕ) → IsShortestSleb z x → IsShortestSleb z y → x ≡ y
  pub numbers : (body : List ℕ) (ns ks : List DataIndexImm) → HasNumbers ns body
      → HasNumbers ks body → ns ≡ ks
  pub calls : (input : Input) (cs ds : List InitCall) → AreInitCalls input cs
      → AreInitCalls input ds → cs ≡ ds
  pub encoded : (ops : List Op) (x y : List ℕ) → IsEncoded ops x → IsEncoded ops y → x ≡ y

-- ---- bodies with other numbers

short_one : FormsAreOne → (o : Option ℕ) (k j : ℕ) (s t : List ℕ) → o ≡ Some k → IsShort k s
    → o ≡ Some j → IsShort j t → s ≡ t
short_one forms o k j s t e a f b =
    forms.unsigned k s t a.1 (subst (λ (n : ℕ). IsShortest n t) (some_one o j k f e) b.1)

rewritten_one : FormsAreOne → (new : ℕ → Option ℕ) (ns : List DataIndexImm) (place : ℕ)
    (x y z : List ℕ) → Rewrites new place ns x y → Rewrites new place ns x z → y ≡ z
rewritten_one forms new [] place x y z r t = r ∙ sym t
rewritten_one forms new (n ∷ ns) place x y z r t =
    let one = cut_one r.0 (r.1 ++ r.2) t.0 (t.1 ++ t.2) (sym r.6 ∙ t.6) (omega (arith, r.7, t.7)) in
    let two = cut_one r.1 r.2 t.1 t.2 one.1 (omega (arith, r.8, t.8)) in
    let short = short_one forms (new n.index) r.3 t.3 r.4 t.4 r.9 r.10 t.9 t.10 in
    let behind = subst (λ (w : List ℕ). Rewrites new (n.offset + n.len) ns w r.5) two.1 r.12 in
    let more = rewritten_one forms new ns (n.offset + n.len) t.2 r.5 t.5 behind t.12 in
    r.11 ∙ ap (λ (w : List ℕ). w ++ (r.4 ++ r.5)) one.0
    ∙ ap (λ (w : List ℕ). t.0 ++ (w ++ r.5)) short
    ∙ ap (λ (w : List ℕ). t.0 ++ (t.4 ++ w)) more ∙ sym t.11

new_one : FormsAreOne → (new : ℕ → Option ℕ) (ns : List DataIndexImm) (a b : ℕ)
    → NewBytes new ns a → NewBytes new ns b → a ≡ b
new_one forms new [] a b g h = omega (arith, g, h)
new_one forms new (n ∷ ns) a b g h =
    let here = short_one forms (new n.index) g.0 h.0 g.1 h.1 g.3 g.4 h.3 h.4 in
    let others = new_one forms new ns g.2 h.2 g.5 h.5 in
    omega (arith, g.6, h.6, others, ap length here)

move_one : FormsAreOne → (new : ℕ → Option ℕ) (ns : List DataIndexImm) (p q k : ℕ)
    → Moves new ns p q → Moves new ns p k → q ≡ k
move_one forms new ns p q k m n =
    let same = new_one forms new (before p ns) m.0 n.0 m.1 n.1 in omega (arith, same, m.2, n.2)

renumbered_one : FormsAreOne → (input : Input) (g : Placing) (object : ℕ) (body x y : List ℕ)
    → IsRenumbered input g object body x → IsRenumbered input g object body y → x ≡ y
renumbered_one forms input g object body x y p q =
    let new = new_number input g object in
    let same = forms.numbers body p.numbers q.numbers p.theirs.0 q.theirs.0 in
    rewritten_one forms new q.numbers 0 body x y
    (subst (λ (ns : List DataIndexImm). Rewrites new 0 ns body x) same p.rewritten) q.rewritten

moved_one : FormsAreOne → (input : Input) (g : Placing) (object : ℕ) (body : List ℕ)
    (place x y : ℕ) → IsMovedBy (new_number input g object) body place x
    → IsMovedBy (new_number input g object) body place y
    → x ≡ y
moved_one forms input g object body place x y p q =
    let new = new_number input g object in
    let same = forms.numbers body p.numbers q.numbers p.theirs.0 q.theirs.0 in
    move_one forms new q.numbers place x y
    (subst (λ (ns : List DataIndexImm). Moves new ns place x) same p.moved) q.moved

-- ---- bodies

make_body : List ℕ → Bool → ℕ → ℕ → Body
make_body bytes owned code_offset object_index = record {
  bytes = bytes;
  owned = owned;
  code_offset = code_offset;
  object_index = object_index;
}

body_is : (x y : Body) → x.bytes ≡ y.bytes → x.owned ≡ y.owned → x.code_offset ≡ y.code_offset
    → x.object_index ≡ y.object_index → x ≡ y
unfolding make_body
body_is x y bytes owned code_offset object_index =
    let h : make_body x.bytes x.owned x.code_offset x.object_index
    ≡ make_body y.bytes y.owned y.code_offset y.object_index =
    rw (bytes, owned, code_offset, object_index) refl in
    h

made_one : (bytes : List ℕ) (x y : Body) → IsMadeBody bytes x → IsMadeBody bytes y → x ≡ y
made_one bytes x y p q =
    body_is x y (p.bytes_are ∙ sym q.bytes_are) (p.owned ∙ sym q.owned)
    (p.code_offset ∙ sym q.code_offset) (p.object_index ∙ sym q.object_index)

defined_one : FormsAreOne → (input : Input) (g : Placing) (object function : ℕ) (x y : Body)
    → IsBodyIn input g object function x → IsBodyIn input g object function y → x ≡ y
defined_one forms input g object function x y p q =
    let own : p.own ≡ q.own = some_one (body_in input object function) p.own q.own p.here q.here in
    let text : p.own.bytes ≡ q.own.bytes = ap (λ (b : Body). b.bytes) own in
    let bytes : x.bytes ≡ y.bytes =
    renumbered_one forms input g object q.own.bytes x.bytes y.bytes
    (subst (λ (b : Body). IsRenumbered input g object b.bytes x.bytes) own p.bytes) q.bytes in
    let theirs : HasNumbers p.bytes.numbers q.own.bytes =
    subst (λ (t : List ℕ). HasNumbers p.bytes.numbers t) text p.bytes.theirs.0 in
    let numbers = forms.numbers q.own.bytes p.bytes.numbers q.bytes.numbers theirs q.bytes.theirs.0 in
    let owned : x.owned ≡ y.owned =
    p.owned ∙ ap (λ (b : Body). b.owned || not (length p.bytes.numbers == 0)) own
    ∙ ap (λ (ns : List DataIndexImm). q.own.owned || not (length ns == 0)) numbers ∙ sym q.owned in
    let code_offset : x.code_offset ≡ y.code_offset =
    p.code_offset ∙ ap (λ (b : Body). b.code_offset) own ∙ sym q.code_offset in
    body_is x y bytes owned code_offset (p.object_index ∙ sym q.object_index)

-- ---- operators of bodies that the linker makes

make_got : ℕ → ℤ → TlsGotFixup
make_got number offset = record { global = number; offset = offset }

got_one : (input : Input) → StandOnce (global_space input) → GivesOne (IsGotFixup input)
unfolding make_got
got_one input once p x y a b =
    let number = once x.global y.global (GlobalOf (global.GotMem p.0)) a.global b.global in
    let offset : x.offset ≡ y.offset = a.offset ∙ sym b.offset in
    let h : make_got x.global x.offset ≡ make_got y.global y.offset = rw (number, offset) refl in
    h

block_one : (input : Input) (g : Placing) → StandOnce (global_space input) → (x y : ThreadBlock)
    → IsThreadBlock input g x → IsThreadBlock input g y → x ≡ y
block_one input g once x y p q =
    let base = once x.base_global y.base_global (GlobalOf (global.Made TlsBase)) p.base q.base in
    let size : x.size ≡ y.size = p.size ∙ sym q.size in
    let templates : x.templates ≡ y.templates = p.templates ∙ sym q.templates in
    let pointers : x.pointers ≡ y.pointers = p.pointers ∙ sym q.pointers in
    let got = zip_one (IsGotFixup input) (got_one input once) (got_places input g) x.got y.got p.got q.got in
    ap (λ (n : ℕ). thread_block n x.size x.templates x.pointers x.got) base
    ∙ (ap (λ (n : ℕ). thread_block y.base_global n x.templates x.pointers x.got) size
    ∙ (ap (λ (cs : List PassiveSegmentCopy). thread_block y.base_global y.size cs x.pointers x.got) templates
    ∙ (ap (λ (fs : List TlsPointerFixup). thread_block y.base_global y.size y.templates fs x.got) pointers
    ∙ ap (λ (fs : List TlsGotFixup). thread_block y.base_global y.size y.templates y.pointers fs) got)))

ops_one : FormsAreOne → (input : Input) (g : Placing) → StandOnce (global_space input)
    → (entry : FunctionEntry) (ops others : List Op) → AreMadeOps input g entry ops
    → AreMadeOps input g entry others → ops ≡ others
ops_one forms input g once (FunctionOf (Made CallCtors)) ops others p q =
    let calls = forms.calls input p.calls q.calls p.are_calls q.are_calls in
    p.are ∙ (ap (λ (cs : List InitCall). call_sequence_ops (map called cs)) calls ∙ sym q.are)
ops_one forms input g once (FunctionOf (Made InitTls)) ops others p q =
    let block = block_one input g once p.block q.block p.is_block q.is_block in
    p.are ∙ (ap init_tls_ops block ∙ sym q.are)
ops_one forms input g once InitMemory ops others p q =
    let flag = some_one g.places.flag p.flag q.flag p.flag_is q.flag_is in
    p.are ∙ (ap (λ (n : ℕ). init_memory_ops n (shared_copies g)) flag ∙ sym q.are)
ops_one forms input g once _ ops others p q = absurd p

encoded_one : FormsAreOne → (input : Input) (g : Placing) → StandOnce (global_space input)
    → (entry : FunctionEntry) (x y : Body) → IsEncodedBody input g entry x
    → IsEncodedBody input g entry y → x ≡ y
encoded_one forms input g once entry x y p q =
    let ops = ops_one forms input g once entry p.ops q.ops p.are_ops q.are_ops in
    let encoded = subst (λ (os : List Op). IsEncoded os p.bytes) ops p.encoded in
    let bytes = forms.encoded q.ops p.bytes q.bytes encoded q.encoded in
    made_one q.bytes x y (subst (λ (t : List ℕ). IsMadeBody t x) bytes p.made) q.made

body_one : FormsAreOne → (input : Input) (g : Placing) → StandOnce (global_space input)
    → GivesOne (IsBodyOf input g)
body_one forms input g once (FunctionOf (Defined object function)) x y p q =
    defined_one forms input g object function x y p q
body_one forms input g once (FunctionOf (Made m)) x y p q =
    encoded_one forms input g once (FunctionOf (Made m)) x y p q
body_one forms input g once (FunctionOf (Host object slot)) x y p q = absurd p
body_one forms input g once (FunctionOf (Stub object slot)) x y p q =
    made_one UNREACHABLE_FUNCTION_BODY x y p q
body_one forms input g once InitMemory x y p q = encoded_one forms input g once InitMemory x y p q

own_bodies_one : FormsAreOne → (input : Input) (g : Placing) → StandOnce (global_space input)
    → (xs ys : List Body) → AreOwnBodies input g xs → AreOwnBodies input g ys → xs ≡ ys
own_bodies_one forms input g once xs ys p q =
    zip_one (IsBodyOf input g) (body_one forms input g once) (own_functions input) xs ys p q

pub exported_one : (entity : Entity) (f g : FunctionEntry) → entity ≡ OfFunction f
    → entity ≡ OfFunction g → f ≡ g
exported_one entity f g p q = cc

wrapper_one : FormsAreOne → (input : Input) → StandOnce (function_space input)
    → GivesOne (IsWrapperBody input)
wrapper_one forms input once e x y p q =
    let function : p.function ≡ q.function =
    exported_one e.entity p.function q.function p.leads q.leads in
    let stands : slice_get (function_space input) p.original ≡ Some q.function =
    p.stands ∙ ap (λ (f : FunctionEntry). Some f) function in
    let original = once p.original q.original q.function stands q.stands in
    let made = once p.constructors q.constructors (FunctionOf (Made CallCtors)) p.are_made q.are_made in
    let typed : type_of_entry input q.function ≡ Some p.ty =
    subst (λ (f : FunctionEntry). type_of_entry input f ≡ Some p.ty) function p.typed in
    let ty = some_one (type_of_entry input q.function) p.ty q.ty typed q.typed in
    let ops : wrapper_ops p.constructors p.original (length p.ty.params)
    ≡ wrapper_ops q.constructors q.original (length q.ty.params) =
    ap (λ (n : ℕ). wrapper_ops n p.original (length p.ty.params)) made
    ∙ (ap (λ (n : ℕ). wrapper_ops q.constructors n (length p.ty.params)) original
    ∙ ap (λ (t : FunctionType). wrapper_ops q.constructors q.original (length t.params)) ty) in
    let encoded = subst (λ (os : List Op). IsEncoded os p.bytes) ops p.encoded in
    let bytes = forms.encoded (wrapper_ops q.constructors q.original (length q.ty.params)) p.bytes
    q.bytes encoded q.encoded in
    made_one q.bytes x y (subst (λ (t : List ℕ). IsMadeBody t x) bytes p.made) q.made

pub bodies_one : FormsAreOne → (input : Input) (g : Placing) → StandOnce (function_space input)
    → StandOnce (global_space input) → (xs ys : List Body) → AreBodies input g xs
    → AreBodies input g ys → xs ≡ ys
bodies_one forms input g once globals xs ys p q =
    let own = own_bodies_one forms input g globals p.own q.own p.are_own q.are_own in
    let wrappers = zip_one (IsWrapperBody input) (wrapper_one forms input once) (wrapped input)
    p.wrappers q.wrappers p.are_wrappers q.are_wrappers in
    p.parts ∙ (ap (λ (bs : List Body). bs ++ p.wrappers) own
    ∙ (ap (λ (bs : List Body). q.own ++ bs) wrappers ∙ sym q.parts))

-- ---- no constant is too great

-- what is encoded has no constant that is too great
abbrev pub NoneGreat : Type 0
NoneGreat = (ops : List Op) (body : List ℕ) (number : ℕ) → IsEncoded ops body
    → EncodeFault ops (Range number) → ⊥

encoded_of : (input : Input) (g : Placing) (entry : FunctionEntry) (ops : List Op) (b : Body)
    → AreMadeOps input g entry ops → IsBodyOf input g entry b → IsEncodedBody input g entry b
encoded_of input g (FunctionOf (Defined object function)) ops b made is = absurd made
encoded_of input g (FunctionOf (Made m)) ops b made is = is
encoded_of input g (FunctionOf (Host object slot)) ops b made is = absurd made
encoded_of input g (FunctionOf (Stub object slot)) ops b made is = absurd made
encoded_of input g InitMemory ops b made is = is

pub body_clear : FormsAreOne → NoneGreat → (input : Input) (g : Placing)
    → StandOnce (global_space input) → (bodies : List Body) → AreOwnBodies input g bodies
    → Clear (IsBodyFault input g)
body_clear forms none input g once bodies are = record {
  none = λ e h. contradicts e h;
}
  where
    contradicts : (e : LinkError) → IsBodyFault input g e → ⊥
    contradicts e h =
        let at = contained (own_functions input) h.entry h.one in
        let b = zip_right (IsBodyOf input g) (own_functions input) bodies at.0 h.entry are at.1 in
        let body = encoded_of input g h.entry h.ops b.0 h.are_ops b.2 in
        let ops = ops_one forms input g once h.entry h.ops body.ops h.are_ops body.are_ops in
        none body.ops body.bytes h.number body.encoded
        (subst (λ (os : List Op). EncodeFault os (Range h.number)) ops h.great)

-- ---- sizes

pub section_one : FormsAreOne → (count bytes a b : ℕ) → HasSectionSize count bytes a
    → HasSectionSize count bytes b → a ≡ b
section_one forms zero bytes a b p q = p ∙ sym q
section_one forms (suc n) bytes a b p q =
    let count = forms.unsigned (suc n) p.0 q.0 p.2 q.2 in
    let len = forms.unsigned (length q.0 + bytes) p.1 q.1
    (subst (λ (c : List ℕ). IsShortest (length c + bytes) p.1) count p.3) q.3 in
    omega (arith, p.4, q.4, ap length count, ap length len)

pub text_one : FormsAreOne → (bodies : List Body) (x y : List ℕ) → AreBodiesText bodies x
    → AreBodiesText bodies y → x ≡ y
text_one forms [] x y p q = p ∙ sym q
text_one forms (b ∷ bodies) x y p q =
    let head = forms.unsigned (length b.bytes) p.0 q.0 p.2 q.2 in
    let rest = text_one forms bodies p.1 q.1 p.3 q.3 in
    p.4 ∙ ap (λ (t : List ℕ). t ++ (b.bytes ++ p.1)) head
    ∙ ap (λ (t : List ℕ). q.0 ++ (b.bytes ++ t)) rest ∙ sym q.4

-- ---- where fields stand

moved_at_one : FormsAreOne → (input : Input) (g : Placing) (place : FixupPlace) (r : Relocated)
    (x y : ℕ) → IsMovedAt input g place r x → IsMovedAt input g place r y → x ≡ y
moved_at_one forms input g Segment r x y p q = p ∙ sym q
moved_at_one forms input g Code r x y p q =
    let own : p.0 ≡ q.0 = some_one (body_in input r.object r.site.unit) p.0 q.0 p.1 q.1 in
    moved_one forms input g r.object q.0.bytes r.site.position x y
    (subst (λ (b : Body). IsMovedBy (new_number input g r.object) b.bytes r.site.position x) own p.2) q.2

-- ---- what fields take

stands_one : {X : Type 0} (space : List X) (entry : Option X) (i k : ℕ) → StandOnce space
    → StandsAt space entry i → StandsAt space entry k → i ≡ k
stands_one space entry i k once p q =
    let same = some_one entry p.0 q.0 p.1 q.1 in
    once i k q.0 (p.2 ∙ ap (λ x. Some x) same) q.2

pub ok_one : {X E : Type 0} (r : Result X E) (x y : X) → r ≡ Ok x → r ≡ Ok y → x ≡ y
ok_one r x y p q = cc

value_is : (v w : ℕ) (x y : ℤ) → v ≡ w → x ≡ y → Value v x ≡ Value w y
value_is v w x y e f = ap (λ (n : ℕ). Value n x) e ∙ ap (λ (z : ℤ). Value w z) f

taken_one : (input : Input) (g : Placing) (r : Relocated) → AreOnce input g → (taking : Taking)
    (a b : FixupTo) → IsTaken input g r taking a → IsTaken input g r taking b → a ≡ b
taken_one input g r once (Address base) a b p q = ok_one (field_taken input g r base) a b p q
taken_one input g r once TypeIndex (Value v x) (Value w y) p q =
    value_is v w x y (stands_one (output_types input) (type_named input r) v w once.types p.1 q.1) (p.0 ∙ sym q.0)
taken_one input g r once FunctionIndex (Value v x) (Value w y) p q =
    value_is v w x y
    (stands_one (function_space input) (symbol_function input r.object r.relocation.index) v w
    once.functions p.1 q.1)
    (p.0 ∙ sym q.0)
taken_one input g r once Slot (Value v x) (Value w y) p q =
    value_is v w x y (some_one _ v w p.1 q.1) (p.0 ∙ sym q.0)
taken_one input g r once SlotBehindBase (Value v x) (Value w y) p q =
    value_is v w x y (some_one _ v w p.1 q.1) (p.0 ∙ sym q.0)
taken_one input g r once GlobalIndex (Value v x) (Value w y) p q =
    value_is v w x y
    (stands_one (global_space input) (global_named input r) v w once.globals p.1 q.1) (p.0 ∙ sym q.0)
taken_one input g r once TableNumber (Value v x) (Value w y) p q =
    value_is v w x y (p.1 ∙ sym q.1) (p.0 ∙ sym q.0)
taken_one input g r once TypeIndex (Deferred offset) b p q = absurd p
taken_one input g r once TypeIndex (Value v x) (Deferred offset) p q = absurd q
taken_one input g r once FunctionIndex (Deferred offset) b p q = absurd p
taken_one input g r once FunctionIndex (Value v x) (Deferred offset) p q = absurd q
taken_one input g r once Slot (Deferred offset) b p q = absurd p
taken_one input g r once Slot (Value v x) (Deferred offset) p q = absurd q
taken_one input g r once SlotBehindBase (Deferred offset) b p q = absurd p
taken_one input g r once SlotBehindBase (Value v x) (Deferred offset) p q = absurd q
taken_one input g r once GlobalIndex (Deferred offset) b p q = absurd p
taken_one input g r once GlobalIndex (Value v x) (Deferred offset) p q = absurd q
taken_one input g r once TableNumber (Deferred offset) b p q = absurd p
taken_one input g r once TableNumber (Value v x) (Deferred offset) p q = absurd q

field_one : (input : Input) (g : Placing) (r : Relocated) → AreOnce input g → (a b : FixupTo)
    → IsFieldOf input g r a → IsFieldOf input g r b → a ≡ b
field_one input g r once a b p q = taken_one input g r once (taking_of r.relocation.ty) a b p q

-- ---- fixups

make_fixup : ℕ → FixupPlace → ℕ → ℕ → RelocationType → FixupTo → Fixup
make_fixup object place unit position ty to = record {
  object = object;
  place = place;
  unit = unit;
  position = position;
  ty = ty;
  to = to;
}

fixup_one : FormsAreOne → (input : Input) (g : Placing) → AreOnce input g → GivesOne (IsFixup input g)
unfolding make_fixup
fixup_one forms input g once r x y p q =
    let object : x.object ≡ y.object = p.object ∙ sym q.object in
    let place : x.place ≡ y.place = p.place ∙ sym q.place in
    let unit : x.unit ≡ y.unit = p.unit ∙ sym q.unit in
    let position = moved_at_one forms input g r.place r x.position y.position p.position q.position in
    let ty : x.ty ≡ y.ty = p.ty ∙ sym q.ty in
    let to = field_one input g r once x.to y.to p.to q.to in
    let h : make_fixup x.object x.place x.unit x.position x.ty x.to
    ≡ make_fixup y.object y.place y.unit y.position y.ty y.to =
    rw (object, place, unit, position, ty, to) refl in
    h

pub fixups_one : FormsAreOne → (input : Input) (g : Placing) → AreOnce input g
    → (xs ys : List Fixup) → AreFixups input g xs → AreFixups input g ys → xs ≡ ys
fixups_one forms input g once xs ys p q =
    zip_one (IsFixup input g) (fixup_one forms input g once) (relocations input) xs ys p q
