-- What becomes of a body that was written: it ends with `end`, and decodes to its operators.
use Rattle.std.proofs.Common.{◌≡◌, ℕ, zero, suc, true, List, [], ◌∷◌, ◌++◌, Some, None, Result, Ok, Err, MatchResult, refl, sym, ap, subst, ◌∙◌, replicate}
use Rattle.std.specs.List.{flat_map}
use Rattle.std.proofs.lemmas.List.Elements.{All-from_recursion, All-contains}
use Rattle.wl_ops.specs.declared.op.Op.{Op}
use Rattle.wl_ops.specs.Decoding.{is_ended}
use Rattle.wl_synth.specs.declared.error.SynthError.{SynthError}
use Rattle.wl_synth.specs.declared.error.SynthError.TheVariants.{OutOfMemory, Range}
use Rattle.wl_synth.specs.Wat as wat
use Rattle.wl_synth.specs.Bodies.{call_ops, call_sequence_ops, locals_from, wrapper_ops}
use Rattle.wl_synth.specs.Encoding.{great_constant, AreInRange, IsWritten, IsEncoded, EncodeFault}

pub last_is_end : (ops : List Op) → is_ended (ops ++ wat.end ∷ []) ≡ true
last_is_end [] = refl
last_is_end (op ∷ []) = refl
last_is_end (op ∷ next ∷ ops) = last_is_end (next ∷ ops)

encoded : (ops : List Op) (body : List ℕ) → is_ended ops ≡ true → IsWritten ops body → IsEncoded ops body
encoded ops body e w = record { spelled = w.spelled; in_range = w.in_range; decodes = w.decodes e }

-- what was written of some operators is the body of these
pub made_result : {V : Type 0} (view : V → List ℕ) (r : Result V SynthError) (ops all : List Op) → ops ≡ all → is_ended all ≡ true
    → MatchResult r (λ v. IsWritten ops (view v)) (EncodeFault ops) → MatchResult r (λ v. IsEncoded all (view v)) (EncodeFault all)
made_result view (Ok v) ops all same e m = encoded all (view v) e (subst (λ (x : List Op). IsWritten x (view v)) same m)
made_result view (Err d) ops all same e m = subst (λ (x : List Op). EncodeFault x d) same m

-- a list that is added to is the front as it was, and what was added
pub added : (piece front old new : List Op) → old ≡ front → new ≡ old ++ piece → new ≡ front ++ piece
added piece front old new e f = f ∙ ap (λ (x : List Op). x ++ piece) e

-- ---- operators without a constant that is too great

pub range_append : (xs ys : List Op) → AreInRange xs → AreInRange ys → AreInRange (xs ++ ys)
range_append [] ys a b = b
range_append (x ∷ xs) ys a b = (a.0, range_append xs ys a.1 b)

pub range_left : (xs ys : List Op) → AreInRange (xs ++ ys) → AreInRange xs
range_left [] ys a = tt
range_left (x ∷ xs) ys a = (a.0, range_left xs ys a.1)

pub range_right : (xs ys : List Op) → AreInRange (xs ++ ys) → AreInRange ys
range_right [] ys a = a
range_right (x ∷ xs) ys a = range_right xs ys a.1

drops_in_range : (n : ℕ) → AreInRange (replicate n wat.drop)
drops_in_range zero = tt
drops_in_range (suc n) = (refl, drops_in_range n)

calls_in_range : (calls : List (ℕ × ℕ)) → AreInRange (flat_map call_ops calls)
calls_in_range [] = tt
calls_in_range (c ∷ calls) = range_append (call_ops c) (flat_map call_ops calls) (refl, drops_in_range c.1) (calls_in_range calls)

pub sequence_in_range : (calls : List (ℕ × ℕ)) → AreInRange (call_sequence_ops calls)
sequence_in_range calls = range_append (flat_map call_ops calls) (wat.end ∷ []) (calls_in_range calls) (refl, tt)

locals_in_range : (i n : ℕ) → AreInRange (locals_from i n)
locals_in_range i zero = tt
locals_in_range i (suc n) = (refl, locals_in_range (suc i) n)

pub wrapper_in_range : (call_ctors original n : ℕ) → AreInRange (wrapper_ops call_ctors original n)
wrapper_in_range call_ctors original n =
    let first = wat.call call_ctors ∷ [] in
    let second = wat.call original ∷ [] in
    range_append (first ++ locals_from 0 n ++ second) (wat.end ∷ [])
    (range_append (first ++ locals_from 0 n) second (range_append first (locals_from 0 n) (refl, tt) (locals_in_range 0 n)) (refl, tt)) (refl, tt)

pub none_too_great : (ops : List Op) (e : SynthError) → AreInRange ops → EncodeFault ops e → e ≡ OutOfMemory
none_too_great ops OutOfMemory a f = refl
none_too_great ops (Range v) a f =
    let none = All-contains (λ (op : Op). great_constant op ≡ None) ops f.0 (All-from_recursion (λ (op : Op). great_constant op ≡ None) ops a) f.1 in
    absurd (let both : Some v ≡ None = sym f.2 ∙ none in cc)

-- so only memory can be wanting
pub memory_alone : {V : Type 0} (P : V → Type 0) (r : Result V SynthError) (ops : List Op) → AreInRange ops
    → MatchResult r P (EncodeFault ops) → MatchResult r P (λ e. e ≡ OutOfMemory)
memory_alone P (Ok v) ops a m = m
memory_alone P (Err e) ops a m = none_too_great ops e a m
