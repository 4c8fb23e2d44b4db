-- Runs, one part after the other, and those of bodies that call functions.
use Rattle.std.proofs.Common.{◌≡◌, ℕ, suc, Bool, true, false, List, [], ◌∷◌, ◌++◌, length, map, take, drop, reverse, Option, Some, refl, sym, ap, subst, ◌∙◌, arith, append_assoc, length-append}
use Rattle.std.specs.Prelude.{replicate, ◌&&◌, slice_get}
use Rattle.std.specs.List.{flat_map, AllByRecursion}
use Rattle.std.proofs.lemmas.List.{append-nil, length-reverse, reverse-reverse, reverse-append}
use Rattle.std.proofs.Math.Seq.{take-append_seam, drop-append_seam}
use Rattle.std.proofs.lemmas.Bool.{eq-eqb}
use Rattle.wl_module.specs.declared.types.ValType.{ValType}
use Rattle.wl_module.specs.Types.{FunctionType}
use Rattle.wl_ops.specs.declared.op.Op.{Op}
use Rattle.wl_synth.specs.Wat as wat
use Rattle.wl_synth.specs.Bodies.{call_ops, call_sequence_ops, locals_from, wrapper_ops}
use Rattle.wl_synth.specs.Machine.{Value, World, State, Call, Progress, Going, Ended, Done, has_type, have_types, instruction, called, push_found, at_end, step, stepped, go, entered}
use Rattle.wl_synth.specs.Calls.{plain_call, AnswerByType, HasResults, returned, wrapped_calls}

-- a run over two parts is that over the one, and then over the other
pub go_on : (w : World) (o : Progress) (xs ys : List Op) → go w o (xs ++ ys) ≡ go w (go w o xs) ys
go_on w o [] ys = refl
go_on w o (op ∷ xs) ys = go_on w (stepped w op o) xs ys

-- one part is run, and then the other
pub then_go : (w : World) (o p q : Progress) (xs ys : List Op) → go w o xs ≡ p → go w p ys ≡ q → go w o (xs ++ ys) ≡ q
then_go w o p q xs ys e f = go_on w o xs ys ∙ ap (λ (x : Progress). go w x ys) e ∙ f

-- ---- calls

-- the same state with other values and calls
abbrev pub at : State → List Value → List Call → State
at s vs cs = record s { stack = vs; calls = cs; skipped = 0 }

drops : (w : World) (s : State) (vs rest : List Value) (cs : List Call) → go w (Going (at s (vs ++ rest) cs)) (replicate (length vs) wat.drop) ≡ Going (at s rest cs)
unfolding step instruction
drops w s [] rest cs = refl
drops w s (v ∷ vs) rest cs = drops w s vs rest cs

and_right : (a b : Bool) → (a && b) ≡ true → b ≡ true
and_right true b e = e
and_right false b e = absurd cc

-- values that have types are as many
pub as_many : (vs : List Value) (ts : List ValType) → have_types vs ts ≡ true → length vs ≡ length ts
as_many [] [] e = refl
as_many [] (t ∷ ts) e = absurd cc
as_many (v ∷ vs) [] e = absurd cc
as_many (v ∷ vs) (t ∷ ts) e = ap suc (as_many vs ts (and_right (has_type v t) (have_types vs ts) e))

-- a call whose arguments lie on the stack
one_call : (w : World) (s : State) (f : ℕ) (t : FunctionType) (args st : List Value) (cs : List Call)
    → w.type_of f ≡ Some t → have_types args t.params ≡ true → have_types (w.answer (cs ++ record { function = f; arguments = args } ∷ [])) t.results ≡ true
    → go w (Going (at s (reverse args ++ st) cs)) (wat.call f ∷ [])
    ≡ Going (at s (reverse (w.answer (cs ++ record { function = f; arguments = args } ∷ [])) ++ st) (cs ++ record { function = f; arguments = args } ∷ []))
unfolding step instruction
one_call w s f t args st cs type fit answer =
    let many : length (reverse args) ≡ length t.params = length-reverse args ∙ as_many args t.params fit in
    let front : take (length t.params) (reverse args ++ st) ≡ reverse args = rw (← many) (take-append_seam (reverse args) st) in
    let back : drop (length t.params) (reverse args ++ st) ≡ st = rw (← many) (drop-append_seam (reverse args) st) in
    ap (λ (o : Option FunctionType). called w f o (at s (reverse args ++ st) cs)) type ∙ rw (front, back, reverse-reverse args, fit, answer) refl

-- a call without arguments, whose results are dropped
one_plain : (w : World) (s : State) (f n : ℕ) (st : List Value) (cs : List Call) → AnswerByType w → HasResults w (f, n)
    → go w (Going (at s st cs)) (call_ops (f, n)) ≡ Going (at s st (cs ++ plain_call f ∷ []))
one_plain w s f n st cs fits (t, type, none, len) =
    let more = cs ++ plain_call f ∷ [] in
    let answer = fits cs (plain_call f) t type in
    let given : have_types [] t.params ≡ true = rw none refl in
    let many : length (reverse (w.answer more)) ≡ n = length-reverse (w.answer more) ∙ as_many (w.answer more) t.results answer ∙ len in
    then_go w (Going (at s st cs)) (Going (at s (reverse (w.answer more) ++ st) more)) (Going (at s st more)) (wat.call f ∷ []) (replicate n wat.drop)
    (one_call w s f t [] st cs type given answer)
    (subst (λ (k : ℕ). go w (Going (at s (reverse (w.answer more) ++ st) more)) (replicate k wat.drop) ≡ Going (at s st more)) many (drops w s (reverse (w.answer more)) st more))

calls_run : (w : World) (s : State) (calls : List (ℕ × ℕ)) (st : List Value) (cs : List Call) → AnswerByType w → AllByRecursion (HasResults w) calls
    → go w (Going (at s st cs)) (flat_map call_ops calls) ≡ Going (at s st (cs ++ map (λ p. plain_call p.0) calls))
calls_run w s [] st cs fits a = ap (λ (x : List Call). Going (at s st x)) (sym (append-nil cs))
calls_run w s (c ∷ calls) st cs fits a =
    let more = cs ++ plain_call c.0 ∷ [] in
    let rest = map (λ (p : ℕ × ℕ). plain_call p.0) calls in
    then_go w (Going (at s st cs)) (Going (at s st more)) (Going (at s st (cs ++ plain_call c.0 ∷ rest))) (call_ops c) (flat_map call_ops calls)
    (one_plain w s c.0 c.1 st cs fits a.0)
    (calls_run w s calls st more fits a.1 ∙ ap (λ (x : List Call). Going (at s st x)) (append_assoc cs (plain_call c.0 ∷ []) rest))

-- the function ends with as many values as it has results
finish : (w : World) (s : State) (n : ℕ) (vs : List Value) (cs : List Call) → length vs ≡ n
    → go w (Going (at (entered n s) vs cs)) (wat.end ∷ []) ≡ Ended (Done (record s { stack = vs; labels = []; calls = cs; skipped = 0 }))
unfolding step instruction
finish w s n vs cs many =
    subst (λ (k : ℕ). at_end (record { results = k; below = [] } ∷ []) (at (entered k s) vs cs) ≡ Ended (Done (record s { stack = vs; labels = []; calls = cs; skipped = 0 }))) many
    (rw (eq-eqb (length vs) (length vs) refl, append-nil vs) refl)

pub sequence_runs : (w : World) (s : State) (calls : List (ℕ × ℕ)) → AnswerByType w → AllByRecursion (HasResults w) calls
    → go w (Going (entered 0 s)) (call_sequence_ops calls) ≡ Ended (Done (returned s [] (map (λ p. plain_call p.0) calls)))
sequence_runs w s calls fits a =
    let made = map (λ (p : ℕ × ℕ). plain_call p.0) calls in
    then_go w (Going (entered 0 s)) (Going (at (entered 0 s) [] (s.calls ++ made))) _ (flat_map call_ops calls) (wat.end ∷ [])
    (calls_run w (entered 0 s) calls [] s.calls fits a) (finish w s 0 [] (s.calls ++ made) refl)

-- ---- parameters

found : (front back : List Value) (v : Value) → slice_get (front ++ v ∷ back) (length front) ≡ Some v
found [] back v = refl
found (x ∷ front) back v = found front back v

parameters : (w : World) (s : State) (front back st : List Value) (cs : List Call) → s.locals ≡ front ++ back
    → go w (Going (at s st cs)) (locals_from (length front) (length back)) ≡ Going (at s (reverse back ++ st) cs)
unfolding step instruction
parameters w s front [] st cs e = refl
parameters w s front (v ∷ back) st cs e =
    let here : slice_get s.locals (length front) ≡ Some v = rw e (found front back v) in
    let len : length (front ++ v ∷ []) ≡ suc (length front) = length-append front (v ∷ []) ∙ omega arith in
    let rest = parameters w s (front ++ v ∷ []) back (v ∷ st) cs (e ∙ sym (append_assoc front (v ∷ []) back)) in
    let more = rw len at rest in
    let turned : reverse (v ∷ back) ++ st ≡ reverse back ++ v ∷ st = ap (λ (x : List Value). x ++ st) (reverse-append (v ∷ []) back) ∙ append_assoc (reverse back) (v ∷ []) st in
    ap (λ (o : Option Value). go w (push_found o (at s st cs)) (locals_from (suc (length front)) (length back))) here ∙ more
    ∙ ap (λ (x : List Value). Going (at s x cs)) (sym turned)

pub wrapper_runs : (w : World) (s : State) (ctors original : ℕ) (t : FunctionType) → AnswerByType w → HasResults w (ctors, 0) → w.type_of original ≡ Some t
    → have_types s.locals t.params ≡ true
    → go w (Going (entered (length t.results) s)) (wrapper_ops ctors original (length t.params))
    ≡ Ended (Done (returned s (w.answer (s.calls ++ wrapped_calls ctors original s)) (wrapped_calls ctors original s)))
wrapper_runs w s ctors original type fits first is fit =
    let n = length type.results in
    let t = entered n s in
    let second : Call = record { function = original; arguments = s.locals } in
    let one = s.calls ++ plain_call ctors ∷ [] in
    let two = one ++ second ∷ [] in
    let same : two ≡ s.calls ++ wrapped_calls ctors original s = append_assoc s.calls (plain_call ctors ∷ []) (second ∷ []) in
    let given = as_many s.locals type.params fit in
    let answer = fits one second type is in
    let results = reverse (w.answer two) in
    let many : length results ≡ n = length-reverse (w.answer two) ∙ as_many (w.answer two) type.results answer in
    let a = one_plain w t ctors 0 [] s.calls fits first in
    let b = rw (append-nil (reverse s.locals)) at (parameters w t [] s.locals [] one refl) in
    let c = rw (append-nil (reverse s.locals), append-nil results) at (one_call w t original type s.locals [] one is fit answer) in
    let whole : go w (Going t) (wrapper_ops ctors original (length s.locals)) ≡ Ended (Done (record s { stack = results; labels = []; calls = two; skipped = 0 })) =
    then_go w (Going t) (Going (at t results two)) _ ((wat.call ctors ∷ []) ++ locals_from 0 (length s.locals) ++ wat.call original ∷ []) (wat.end ∷ [])
    (then_go w (Going t) (Going (at t (reverse s.locals) one)) (Going (at t results two)) ((wat.call ctors ∷ []) ++ locals_from 0 (length s.locals)) (wat.call original ∷ [])
    (then_go w (Going t) (Going (at t [] one)) (Going (at t (reverse s.locals) one)) (wat.call ctors ∷ []) (locals_from 0 (length s.locals)) a b)
    c)
    (finish w s n results two many) in
    subst (λ (k : ℕ). go w (Going t) (wrapper_ops ctors original k) ≡ Ended (Done (returned s (w.answer (s.calls ++ wrapped_calls ctors original s)) (wrapped_calls ctors original s)))) given
    (whole ∙ ap (λ (cs : List Call). Ended (Done (record s { stack = reverse (w.answer cs); labels = []; calls = cs; skipped = 0 }))) same)
