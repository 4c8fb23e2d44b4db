-- What is spelled decodes to the operators.
use Rattle.std.proofs.Common.{◌≡◌, ℕ, ◌+◌, ◌<◌, ◌^◌, ℤ, pos, negsuc, Bool, true, false, List, [], ◌∷◌, ◌++◌, length, Option, Some, None, refl, sym, ap, subst, ◌∙◌, append_assoc, lit<, lit≤}
use Rattle.std.proofs.lemmas.List.{append-nil, append_cancel_right}
use Rattle.wl_bytes.specs.Parse.{IsReadAgain}
use Rattle.wl_bytes.specs.Leb.{IsU32, IsSigned, s32_form, s33_form, s64_form, IsShortest, IsShortestSleb, IsWithin}
use Rattle.wl_bytes.specs.Grammar.{Items}
use Rattle.wl_bytes.specs.Checks.{When}
use Rattle.wl_ops.specs.declared.table.Single.TheVariants.{Number, Alignment, BlockType, Signed32, Signed64}
use Rattle.wl_ops.specs.declared.table.Immediate.{Immediate}
use Rattle.wl_ops.specs.declared.table.Immediate.TheVariants.{One, ListOf}
use Rattle.wl_ops.specs.declared.table.Shape.{Shape}
use Rattle.wl_ops.specs.declared.table.Shape.TheVariants.{Nothing, Block as BlockShape, Index, Indices, Branches, Memory, Int32, Int64}
use Rattle.wl_ops.specs.declared.op.Op.{Op}
use Rattle.wl_ops.specs.Table.{immediates, is_prefix, shape_of}
use Rattle.wl_ops.specs.Immediates.{IsSingle, AreImmediates, is_alignment}
use Rattle.wl_ops.specs.Operators.{IsBehind, IsOp, is_taken}
use Rattle.std.specs.List.{AllByRecursion}
use Rattle.wl_ops.specs.Decoding.{is_ended, AreTaken}
use Rattle.wl_synth.specs.declared.operator.Operator.{Operator}
use Rattle.wl_synth.specs.declared.operator.Operator.TheVariants.{Block, End, Br, BrTable, Call, Drop, LocalGet, GlobalGet, GlobalSet, I32Store, I32Const, I32Unsigned, I64Const, I32Add, MemoryInit, DataDrop, MemoryFill, MemoryAtomicNotify, MemoryAtomicWait32, I32AtomicStore, I32AtomicRmwCmpxchg}
use Rattle.wl_synth.specs.Wat.{by_byte}
use Rattle.wl_synth.specs.Spelling.{IsShortImmediate, AreShortImmediates, IsSpelled, AreSpelled, IsSpelledBody, as_op, as_ops}

-- ---- single numbers

-- What is written of a number, the reads read again whose types hold it.
pub record ReadAgain : Type 0 where
  pub unsigned : (n : ℕ) (text : List ℕ) → n < 2 ^ 32 → IsShortest n text → IsReadAgain IsU32 n text
  pub s32 : (z : ℤ) (text : List ℕ) → IsWithin 31 z → IsShortestSleb z text → IsReadAgain (IsSigned s32_form) z text
  pub s33 : (z : ℤ) (text : List ℕ) → IsWithin 32 z → IsShortestSleb z text → IsReadAgain (IsSigned s33_form) z text
  pub s64 : (z : ℤ) (text : List ℕ) → IsWithin 63 z → IsShortestSleb z text → IsReadAgain (IsSigned s64_form) z text

by_itself : {X : Type 0} (spells : ℕ → X → List ℕ → Type 0) (x : X) (text : List ℕ) → IsReadAgain spells x text → (place : ℕ) → spells place x text
by_itself spells x text again place =
    let t = again place [] in
    let same : text ≡ t.text = append_cancel_right text t.text [] t.parts in
    subst (λ (y : List ℕ). spells place x y) (sym same) t.spelled

number : ReadAgain → (n : ℕ) (text : List ℕ) → IsShortImmediate None (pos n) text → (place : ℕ) → IsU32 place n text
number r n text s = by_itself IsU32 n text (r.unsigned n text s.0 s.1)

-- ---- immediates

-- what follows numbers, by their shortest spellings
abbrev Behind : Option ℕ → List Immediate → List ℤ → Type 0
Behind bits is zs = (text : List ℕ) → AreShortImmediates bits zs text → (place : ℕ) → AreImmediates is place zs text

nothing : (bits : Option ℕ) → Behind bits [] []
nothing bits text s place = (tt, s, refl)

a_number : ReadAgain → (n : ℕ) (is : List Immediate) (zs : List ℤ) → Behind None is zs → Behind None (One Number ∷ is) (pos n ∷ zs)
a_number r n is zs more text s place =
    ((pos n ∷ [], zs), (s.0, s.1, s.2, (pos n, (n, number r n s.0 s.3 place, refl), refl), more s.1 s.4 (place + length s.0)), refl)

an_alignment : ReadAgain → (n : ℕ) (is : List Immediate) (zs : List ℤ) → is_alignment n ≡ true → Behind None is zs → Behind None (One Alignment ∷ is) (pos n ∷ zs)
an_alignment r n is zs e more text s place =
    ((pos n ∷ [], zs), (s.0, s.1, s.2, (pos n, (n, (number r n s.0 s.3 place, e), refl), refl), more s.1 s.4 (place + length s.0)), refl)

a_word : ReadAgain → (z : ℤ) → Behind (Some 31) (One Signed32 ∷ []) (z ∷ [])
a_word r z text s place =
    ((z ∷ [], []), (s.0, s.1, s.2, (z, by_itself (IsSigned s32_form) z s.0 (r.s32 z s.0 s.3.0 s.3.1) place, refl), (tt, s.4, refl)), refl)

a_long : ReadAgain → (z : ℤ) → Behind (Some 63) (One Signed64 ∷ []) (z ∷ [])
a_long r z text s place =
    ((z ∷ [], []), (s.0, s.1, s.2, (z, by_itself (IsSigned s64_form) z s.0 (r.s64 z s.0 s.3.0 s.3.1) place, refl), (tt, s.4, refl)), refl)

a_block : ReadAgain → Behind (Some 32) (One BlockType ∷ []) (negsuc 63 ∷ [])
a_block r text s place =
    ((negsuc 63 ∷ [], []), (s.0, s.1, s.2, (negsuc 63, (by_itself (IsSigned s33_form) (negsuc 63) s.0 (r.s33 (negsuc 63) s.0 s.3.0 s.3.1) place, refl), refl), (tt, s.4, refl)), refl)

labels : ReadAgain → (a b c : ℕ) → Behind None (ListOf Number ∷ One Number ∷ []) (pos 2 ∷ pos a ∷ pos b ∷ pos c ∷ [])
labels r a b c text (f0, b0, e0, s0, (f1, b1, e1, s1, (f2, b2, e2, s2, last))) place =
    let parts : text ≡ (f0 ++ (f1 ++ f2)) ++ b2 = e0 ∙ ap (λ (x : List ℕ). f0 ++ x) (e1 ∙ ap (λ (x : List ℕ). f1 ++ x) e2 ∙ sym (append_assoc f1 f2 b2)) ∙ sym (append_assoc f0 (f1 ++ f2) b2) in
    let p1 = place + length f0 in
    let p2 = p1 + length f1 in
    let items : Items (IsSingle Number) p1 (pos a ∷ pos b ∷ []) (f1 ++ f2) =
    (f1, f2, refl, (a, number r a f1 s1 p1, refl), (f2, [], sym (append-nil f2), (b, number r b f2 s2 p2, refl), refl)) in (
      (pos 2 ∷ pos a ∷ pos b ∷ [], pos c ∷ []),
      (
        f0 ++ (f1 ++ f2),
        b2,
        parts,
        ((2, pos a ∷ pos b ∷ []), (f0, f1 ++ f2, refl, number r 2 f0 s0 place, (refl, items)), refl),
        a_number r c [] [] (nothing None) b2 last (place + length (f0 ++ (f1 ++ f2))),
      ),
      refl,
    )

-- ---- operators

plain_op : (code : ℕ) (bits : Option ℕ) (zs : List ℤ) (shape : Shape) → is_prefix code ≡ false → shape_of code 0 ≡ Some shape → Behind bits (immediates shape) zs
    → (text : List ℕ) → (back : List ℕ) × (text ≡ code ∷ back) × AreShortImmediates bits zs back → (place : ℕ) → IsOp place (by_byte code zs) text
plain_op code bits zs shape e found behind text s place =
    let none : When IsU32 (is_prefix code) (place + 1) None [] = subst (λ (b : Bool). When IsU32 b (place + 1) None []) (sym e) (refl, refl) in
    let there : IsBehind (shape_of code 0) (place + 1) zs s.0 = subst (λ (o : Option Shape). IsBehind o (place + 1) zs s.0) (sym found) (behind s.0 s.2 (place + 1)) in
    (code ∷ [], s.0, s.1, (code ∷ [], [], refl, refl, (None, none, refl)), there)

prefixed_op : ReadAgain → (code sub : ℕ) (zs : List ℤ) (shape : Shape) → is_prefix code ≡ true → shape_of code sub ≡ Some shape → Behind None (immediates shape) zs
    → (text : List ℕ) → (back : List ℕ) × (text ≡ code ∷ back) × AreShortImmediates None (pos sub ∷ zs) back → (place : ℕ) → IsOp place (record { code = code; sub = sub; args = zs }) text
prefixed_op r code sub zs shape e found behind text s place =
    let digits = s.2.0 in
    let some : When IsU32 (is_prefix code) (place + 1) (Some sub) digits = subst (λ (b : Bool). When IsU32 b (place + 1) (Some sub) digits) (sym e) (number r sub digits s.2.3 (place + 1)) in
    let there : IsBehind (shape_of code sub) (place + length (code ∷ digits)) zs s.2.1 =
    subst (λ (o : Option Shape). IsBehind o (place + length (code ∷ digits)) zs s.2.1) (sym found) (behind s.2.1 s.2.4 (place + length (code ∷ digits))) in
    (code ∷ digits, s.2.1, s.1 ∙ ap (λ (x : List ℕ). code ∷ x) s.2.2, (code ∷ [], digits, refl, refl, (Some sub, some, refl)), there)

an_index : ReadAgain → (n : ℕ) → Behind None (immediates Index) (pos n ∷ [])
an_index r n = a_number r n [] [] (nothing None)

a_place : ReadAgain → Behind None (immediates Memory) (pos 2 ∷ pos 0 ∷ [])
a_place r = an_alignment r 2 (One Number ∷ []) (pos 0 ∷ []) refl (an_index r 0)

two_indices : ReadAgain → (a b : ℕ) → Behind None (immediates Indices) (pos a ∷ pos b ∷ [])
two_indices r a b = a_number r a (One Number ∷ []) (pos b ∷ []) (an_index r b)

made_op : ReadAgain → (o : Operator) (text : List ℕ) → IsSpelled (as_op o) text → (place : ℕ) → IsOp place (as_op o) text
unfolding shape_of
made_op r Block = plain_op 0x02 (Some 32) (negsuc 63 ∷ []) BlockShape refl refl (a_block r)
made_op r End = plain_op 0x0b None [] Nothing refl refl (nothing None)
made_op r (Br n) = plain_op 0x0c None (pos n ∷ []) Index refl refl (an_index r n)
made_op r (BrTable a b c) = plain_op 0x0e None (pos 2 ∷ pos a ∷ pos b ∷ pos c ∷ []) Branches refl refl (labels r a b c)
made_op r (Call n) = plain_op 0x10 None (pos n ∷ []) Index refl refl (an_index r n)
made_op r Drop = plain_op 0x1a None [] Nothing refl refl (nothing None)
made_op r (LocalGet n) = plain_op 0x20 None (pos n ∷ []) Index refl refl (an_index r n)
made_op r (GlobalGet n) = plain_op 0x23 None (pos n ∷ []) Index refl refl (an_index r n)
made_op r (GlobalSet n) = plain_op 0x24 None (pos n ∷ []) Index refl refl (an_index r n)
made_op r I32Store = plain_op 0x36 None (pos 2 ∷ pos 0 ∷ []) Memory refl refl (a_place r)
made_op r (I32Const z) = plain_op 0x41 (Some 31) (z ∷ []) Int32 refl refl (a_word r z)
made_op r (I32Unsigned n) = plain_op 0x41 (Some 31) (pos n ∷ []) Int32 refl refl (a_word r (pos n))
made_op r (I64Const z) = plain_op 0x42 (Some 63) (z ∷ []) Int64 refl refl (a_long r z)
made_op r I32Add = plain_op 0x6a None [] Nothing refl refl (nothing None)
made_op r (MemoryInit k) = prefixed_op r 0xfc 8 (pos k ∷ pos 0 ∷ []) Indices refl refl (two_indices r k 0)
made_op r (DataDrop k) = prefixed_op r 0xfc 9 (pos k ∷ []) Index refl refl (an_index r k)
made_op r MemoryFill = prefixed_op r 0xfc 11 (pos 0 ∷ []) Index refl refl (an_index r 0)
made_op r MemoryAtomicNotify = prefixed_op r 0xfe 0x00 (pos 2 ∷ pos 0 ∷ []) Memory refl refl (a_place r)
made_op r MemoryAtomicWait32 = prefixed_op r 0xfe 0x01 (pos 2 ∷ pos 0 ∷ []) Memory refl refl (a_place r)
made_op r I32AtomicStore = prefixed_op r 0xfe 0x17 (pos 2 ∷ pos 0 ∷ []) Memory refl refl (a_place r)
made_op r I32AtomicRmwCmpxchg = prefixed_op r 0xfe 0x48 (pos 2 ∷ pos 0 ∷ []) Memory refl refl (a_place r)

-- none is an operator on element segments
taken_op : (o : Operator) → is_taken (as_op o) ≡ true
taken_op Block = refl
taken_op End = refl
taken_op (Br n) = refl
taken_op (BrTable a b c) = refl
taken_op (Call n) = refl
taken_op Drop = refl
taken_op (LocalGet n) = refl
taken_op (GlobalGet n) = refl
taken_op (GlobalSet n) = refl
taken_op I32Store = refl
taken_op (I32Const z) = refl
taken_op (I32Unsigned n) = refl
taken_op (I64Const z) = refl
taken_op I32Add = refl
taken_op (MemoryInit k) = refl
taken_op (DataDrop k) = refl
taken_op MemoryFill = refl
taken_op MemoryAtomicNotify = refl
taken_op MemoryAtomicWait32 = refl
taken_op I32AtomicStore = refl
taken_op I32AtomicRmwCmpxchg = refl

-- ---- bodies

made_items : ReadAgain → (os : List Operator) (text : List ℕ) → AreSpelled (as_ops os) text → (place : ℕ) → Items IsOp place (as_ops os) text
made_items r [] text s place = s
made_items r (o ∷ os) text s place = (s.0, s.1, s.2, made_op r o s.0 s.3 place, made_items r os s.1 s.4 (place + length s.0))

all_taken : (os : List Operator) → AllByRecursion (λ (op : Op). is_taken op ≡ true) (as_ops os)
all_taken [] = tt
all_taken (o ∷ os) = (taken_op o, all_taken os)

no_locals : IsU32 0 0 (0 ∷ [])
no_locals = record {
  leb = record { front = []; end = 0; parts = refl; high = tt; low = lit< tt; short = lit≤ tt; fits = λ e. refl };
  value = refl;
}

-- a body that is spelled decodes to its operators
pub made_body : ReadAgain → (os : List Operator) (body : List ℕ) → IsSpelledBody (as_ops os) body → is_ended (as_ops os) ≡ true → AreTaken (as_ops os) body
made_body r os body m e = (([], 0 ∷ [], m.0, m.1, (0 ∷ [], [], refl, no_locals, refl), made_items r os m.0 m.2 1, e), all_taken os)
