-- What changes of the flat lists are to the calls that lie in them.
use Rattle.std.proofs.Common.{◌≡◌, ℕ, zero, suc, ◌+◌, ◌-◌, ◌≤◌, ◌<◌, List, [], ◌∷◌, ◌++◌, length, take, drop, refl, sym, ◌∙◌, ap, subst, arith, append_assoc, length-append, length-drop, get_or, Ok, Some, None}
use Rattle.std.specs.Prelude.{reverse, slice_get, slice_set, option_map}
use Rattle.std.proofs.lemmas.List.{length-take, take-append-drop, take_all, drop_all, drop-drop, take_at, drop_at, drop-set-add, take-set-le, length-set, length-reverse, get_or-reverse, get_or-drop, take-take, drop-take, take-append-le, drop-append-le, reverse-append, length-take-le}
use Rattle.std.proofs.lemmas.Option.{slice_get-get_or, slice_get_past}
use Rattle.wl_numeric.specs.declared.value.Value.{Value}
use Rattle.wl_load.specs.declared.stack.Label.{Label}
use Rattle.wl_load.specs.declared.stack.Mark.{Mark}
use Rattle.wl_load.specs.declared.stack.Frame.{Frame}
use Rattle.wl_load.specs.Values.{last_of}
use Rattle.wl_load.specs.States.{OpenBlock, OpenCall, Calls, with_operands, pushed, without_last, opened, reached, left, entered, with_local, label_at, block_count}
use Rattle.wl_load.specs.Layout.{block_of, blocks_over, base_height, marks_of, below, laid_out, AreBelow, AllLie, IsLaidOut}
use Rattle.wl_load.proofs.CutLaws.{split_at}

-- ---- cuts

-- the outermost of some blocks begins no higher than the innermost
pub base_below : (m : Mark) (ms : List Mark) → AreBelow m.height ms → base_height m ms ≤ m.height
base_below m [] b = omega arith
base_below m (n ∷ ns) b = omega (arith, base_below n ns b.1, b.0)

-- what is the same up to a height is so up to a lower one
pub cut_lower : {T : Type 0} (k h : ℕ) (vs us : List T) → k ≤ h → take h us ≡ take h vs → take k us ≡ take k vs
cut_lower k h vs us le e = sym (take-take k h us le) ∙ ap (take k) e ∙ take-take k h vs le

-- a part that ends at a height
pub part_to : {T : Type 0} (h k : ℕ) (vs : List T) → h ≤ k → drop h (take k vs) ≡ take (k - h) (drop h vs)
part_to h k vs le = let e : k ≡ h + (k - h) = omega arith in ap (λ j. drop h (take j vs)) e ∙ drop-take h (k - h) vs

-- a part and the rest
pub cut_joined : {T : Type 0} (h k : ℕ) (vs : List T) → h ≤ k → k ≤ length vs → drop h (take k vs) ++ drop k vs ≡ drop h vs
cut_joined h k vs le within =
    let short : h ≤ length (take k vs) = omega (arith, length-take-le k vs within) in
    sym (drop-append-le h (take k vs) (drop k vs) short) ∙ ap (drop h) (take-append-drop k vs)

-- ---- operands of the innermost block

same_base : (f : Frame) (ms : List Mark) (vs us : List Value) → AreBelow f.block.height (marks_of f ms) → take f.block.height us ≡ take f.block.height vs → below f ms us ≡ below f ms vs
same_base f ms vs us b e = cut_lower (base_height f.block (marks_of f ms)) f.block.height vs us (base_below f.block (marks_of f ms) b) e

-- where the operands change that lie above its height, it has other operands, and all else stays
pub operands_changed : (f : Frame) (w : List Frame) (ms : List Mark) (vs us ls : List Value) → IsLaidOut f w ms vs ls → take f.block.height us ≡ take f.block.height vs
    → laid_out f w ms us ls ≡ with_operands (drop f.block.height us) (laid_out f w ms vs ls)
operands_changed f w ms vs us ls i e = rw (e, same_base f ms vs us i.running.blocks e) refl

pub still_laid : (f : Frame) (w : List Frame) (ms : List Mark) (vs us ls : List Value) → IsLaidOut f w ms vs ls → f.block.height ≤ length us → take f.block.height us ≡ take f.block.height vs
    → IsLaidOut f w ms us ls
still_laid f w ms vs us ls i le e = record {
  running = record { block = le; blocks = i.running.blocks; around = i.running.around; locals = i.running.locals };
  others = subst (λ (bs : List Value). AllLie (reverse w) (take f.around ms) bs (take f.locals ls)) (sym (same_base f ms vs us i.running.blocks e)) i.others;
}

-- one more
pub pushed_view : (f : Frame) (w : List Frame) (ms : List Mark) (vs ls : List Value) (v : Value) → IsLaidOut f w ms vs ls
    → laid_out f w ms (vs ++ v ∷ []) ls ≡ pushed v (laid_out f w ms vs ls)
pushed_view f w ms vs ls v i =
    operands_changed f w ms vs (vs ++ v ∷ []) ls i (take-append-le f.block.height vs (v ∷ []) i.running.block)
    ∙ ap (λ os. with_operands os (laid_out f w ms vs ls)) (drop-append-le f.block.height vs (v ∷ []) i.running.block)

pub pushed_laid : (f : Frame) (w : List Frame) (ms : List Mark) (vs ls : List Value) (v : Value) → IsLaidOut f w ms vs ls → IsLaidOut f w ms (vs ++ v ∷ []) ls
pushed_laid f w ms vs ls v i =
    still_laid f w ms vs (vs ++ v ∷ []) ls i (omega (arith, i.running.block, length-append vs (v ∷ [])))
    (take-append-le f.block.height vs (v ∷ []) i.running.block)

-- without the last ones
pub cut_view : (f : Frame) (w : List Frame) (ms : List Mark) (vs ls : List Value) (n : ℕ) → IsLaidOut f w ms vs ls → n ≤ length (drop f.block.height vs)
    → laid_out f w ms (take (length vs - n) vs) ls ≡ without_last n (laid_out f w ms vs ls)
cut_view f w ms vs ls n i few =
    let h = f.block.height in
    let low : h ≤ length vs - n = omega (arith, i.running.block, length-drop h vs) in
    let rest : length vs - n - h ≡ length (drop h vs) - n = omega (arith, length-drop h vs) in
    operands_changed f w ms vs (take (length vs - n) vs) ls i (take-take h (length vs - n) vs low)
    ∙ ap (λ os. with_operands os (laid_out f w ms vs ls)) (part_to h (length vs - n) vs low ∙ ap (λ j. take j (drop h vs)) rest)

pub cut_laid : (f : Frame) (w : List Frame) (ms : List Mark) (vs ls : List Value) (n : ℕ) → IsLaidOut f w ms vs ls → n ≤ length (drop f.block.height vs)
    → IsLaidOut f w ms (take (length vs - n) vs) ls
cut_laid f w ms vs ls n i few =
    let h = f.block.height in
    let low : h ≤ length vs - n = omega (arith, i.running.block, length-drop h vs) in
    let short : length (take (length vs - n) vs) ≡ length vs - n = length-take-le (length vs - n) vs (omega arith) in
    still_laid f w ms vs (take (length vs - n) vs) ls i (omega arith) (take-take h (length vs - n) vs low)

-- ---- blocks

-- the last of a part are the last of all
pub last_of_part : {T : Type 0} (h n : ℕ) (vs : List T) → h ≤ length vs → n ≤ length (drop h vs) → last_of n (drop h vs) ≡ last_of n vs
last_of_part h n vs within few =
    let e : h + (length (drop h vs) - n) ≡ length vs - n = omega (arith, length-drop h vs) in
    drop-drop (length (drop h vs) - n) h vs ∙ ap (λ j. drop j vs) e

-- one more block round the innermost one
pushed_marks : (f : Frame) (ms : List Mark) (b : Mark) → f.around ≤ length ms → marks_of f (ms ++ b ∷ []) ≡ b ∷ marks_of f ms
pushed_marks f ms b le = ap reverse (drop-append-le f.around ms (b ∷ []) le) ∙ reverse-append (drop f.around ms) (b ∷ [])

-- a call whose innermost block is another one
abbrev pub with_block : Mark → Frame → Frame
with_block m f = record f { block = m }

pub opened_view : (f : Frame) (w : List Frame) (ms : List Mark) (vs ls : List Value) (label : Label) (n : ℕ) → IsLaidOut f w ms vs ls → n ≤ length (drop f.block.height vs)
    → laid_out (with_block (record { label = label; height = length vs - n }) f) w (ms ++ f.block ∷ []) vs ls ≡ opened label n (laid_out f w ms vs ls)
opened_view f w ms vs ls label n i few =
    let h = f.block.height in
    let low : h ≤ length vs - n = omega (arith, i.running.block, length-drop h vs) in
    let rest : length vs - n - h ≡ length (drop h vs) - n = omega (arith, length-drop h vs) in
    let own : drop (length vs - n) vs ≡ last_of n (drop h vs) = sym (last_of_part h n vs i.running.block few) in
    let part : drop h (take (length vs - n) vs) ≡ take (length (drop h vs) - n) (drop h vs) = part_to h (length vs - n) vs low ∙ ap (λ j. take j (drop h vs)) rest in
    rw (pushed_marks f ms f.block i.running.around, take-append-le f.around ms (f.block ∷ []) i.running.around, own, part, take-take h (length vs - n) vs low) refl

pub opened_laid : (f : Frame) (w : List Frame) (ms : List Mark) (vs ls : List Value) (label : Label) (n : ℕ) → IsLaidOut f w ms vs ls → n ≤ length (drop f.block.height vs)
    → IsLaidOut (with_block (record { label = label; height = length vs - n }) f) w (ms ++ f.block ∷ []) vs ls
opened_laid f w ms vs ls label n i few =
    let h = f.block.height in
    let low : h ≤ length vs - n = omega (arith, i.running.block, length-drop h vs) in
    let inner : AreBelow (length vs - n) (f.block ∷ marks_of f ms) = (low, i.running.blocks) in
    record {
      running = record {
        block = omega arith;
        blocks = rw (pushed_marks f ms f.block i.running.around) inner;
        around = omega (arith, i.running.around, length-append ms (f.block ∷ []));
        locals = i.running.locals;
      };
      others = rw (pushed_marks f ms f.block i.running.around, take-append-le f.around ms (f.block ∷ []) i.running.around) i.others;
    }

-- The innermost block is left for the one round it.
pub left_view : (f : Frame) (w : List Frame) (ms : List Mark) (m : Mark) (vs ls : List Value) → IsLaidOut f w (ms ++ m ∷ []) vs ls → f.around ≤ length ms
    → left (laid_out f w (ms ++ m ∷ []) vs ls) ≡ Ok (laid_out (with_block m f) w ms vs ls)
left_view f w ms m vs ls i le =
    let h = f.block.height in
    let bs : AreBelow h (m ∷ marks_of f ms) = subst (AreBelow h) (pushed_marks f ms m le) i.running.blocks in
    rw (pushed_marks f ms m le, take-append-le f.around ms (m ∷ []) le, cut_joined m.height h vs bs.0 i.running.block, take-take m.height h vs bs.0) refl

pub left_laid : (f : Frame) (w : List Frame) (ms : List Mark) (m : Mark) (vs ls : List Value) → IsLaidOut f w (ms ++ m ∷ []) vs ls → f.around ≤ length ms
    → IsLaidOut (with_block m f) w ms vs ls
left_laid f w ms m vs ls i le =
    let h = f.block.height in
    let bs : AreBelow h (m ∷ marks_of f ms) = subst (AreBelow h) (pushed_marks f ms m le) i.running.blocks in
    record {
      running = record { block = omega (arith, bs.0, i.running.block); blocks = bs.1; around = le; locals = i.running.locals };
      others = rw (pushed_marks f ms m le, take-append-le f.around ms (m ∷ []) le) at i.others;
    }

-- ---- calls

-- no block is round the innermost one
own_alone : (f : Frame) (ms : List Mark) → length ms ≤ f.around → marks_of f ms ≡ []
own_alone f ms le = ap reverse (drop_all f.around ms le)

-- the caller is the one that runs
pub returned_view : (f g : Frame) (w : List Frame) (ms : List Mark) (vs ls : List Value) → IsLaidOut f (w ++ g ∷ []) ms vs ls → length ms ≤ f.around
    → left (laid_out f (w ++ g ∷ []) ms vs ls) ≡ Ok (laid_out g w ms vs (take f.locals ls))
returned_view f g w ms vs ls i le =
    let h = f.block.height in
    let os : AllLie (g ∷ reverse w) ms (take h vs) (take f.locals ls) =
    rw (reverse-append w (g ∷ []), own_alone f ms le, take_all f.around ms le) at i.others in
    let b : IsLaidOut g w ms (take h vs) (take f.locals ls) = record { running = os.0; others = os.1 } in
    let low : g.block.height ≤ h = omega (arith, os.0.block, length-take-le h vs i.running.block) in
    rw (own_alone f ms le, reverse-append w (g ∷ []), take_all f.around ms le, cut_joined g.block.height h vs low i.running.block)
    (ap Ok (sym (operands_changed g w ms (take h vs) vs (take f.locals ls) b (sym (take-take g.block.height h vs low)))))

pub returned_laid : (f g : Frame) (w : List Frame) (ms : List Mark) (vs ls : List Value) → IsLaidOut f (w ++ g ∷ []) ms vs ls → length ms ≤ f.around
    → IsLaidOut g w ms vs (take f.locals ls)
returned_laid f g w ms vs ls i le =
    let h = f.block.height in
    let os : AllLie (g ∷ reverse w) ms (take h vs) (take f.locals ls) =
    rw (reverse-append w (g ∷ []), own_alone f ms le, take_all f.around ms le) at i.others in
    let b : IsLaidOut g w ms (take h vs) (take f.locals ls) = record { running = os.0; others = os.1 } in
    let low : g.block.height ≤ h = omega (arith, os.0.block, length-take-le h vs i.running.block) in
    still_laid g w ms (take h vs) vs (take f.locals ls) b (omega (arith, low, i.running.block)) (sym (take-take g.block.height h vs low))

-- ---- a call

-- A function begins: its locals lie above all others, its block above all operands but its arguments.
pub begun_view : (f g : Frame) (w : List Frame) (ms : List Mark) (vs ls more : List Value) (n : ℕ) → IsLaidOut f w ms vs ls → n ≤ length (drop f.block.height vs)
    → g.locals ≡ length ls → g.around ≡ length ms → g.block.height ≡ length vs - n
    → laid_out g (w ++ f ∷ []) ms (take (length vs - n) vs) (ls ++ more)
    ≡ entered (record { function = g.function; place = g.place; locals = more; block = record { label = g.block.label; operands = [] }; around = [] }) (without_last n (laid_out f w ms vs ls))
begun_view f g w ms vs ls more n i few at_locals at_blocks at_height =
    let us : List Value = take (length vs - n) vs in
    let alone : marks_of g ms ≡ [] = own_alone g ms (omega (arith, at_blocks)) in
    let none : drop g.block.height us ≡ [] = drop_all g.block.height us (omega (arith, at_height, length-take-le (length vs - n) vs (omega arith))) in
    let whole : take g.block.height us ≡ us = take_all g.block.height us (omega (arith, at_height, length-take-le (length vs - n) vs (omega arith))) in
    let own : OpenCall = record { function = g.function; place = g.place; locals = more; block = record { label = g.block.label; operands = [] }; around = [] } in
    rw (alone, none, whole, reverse-append w (f ∷ []), take_all g.around ms (omega (arith, at_blocks)), take_at ls more g.locals (sym at_locals), drop_at ls more g.locals (sym at_locals))
    (ap (λ (s : Calls). entered own s) (cut_view f w ms vs ls n i few))

pub begun_laid : (f g : Frame) (w : List Frame) (ms : List Mark) (vs ls more : List Value) (n : ℕ) → IsLaidOut f w ms vs ls → n ≤ length (drop f.block.height vs)
    → g.locals ≡ length ls → g.around ≡ length ms → g.block.height ≡ length vs - n
    → IsLaidOut g (w ++ f ∷ []) ms (take (length vs - n) vs) (ls ++ more)
begun_laid f g w ms vs ls more n i few at_locals at_blocks at_height =
    let us : List Value = take (length vs - n) vs in
    let alone : marks_of g ms ≡ [] = own_alone g ms (omega (arith, at_blocks)) in
    let size : length us ≡ length vs - n = length-take-le (length vs - n) vs (omega arith) in
    let whole : take g.block.height us ≡ us = take_all g.block.height us (omega (arith, at_height, size)) in
    let old : IsLaidOut f w ms us ls = cut_laid f w ms vs ls n i few in
    let both : AllLie (f ∷ reverse w) ms us ls = (old.running, old.others) in
    record {
      running = record { block = omega (arith, at_height, size); blocks = rw alone tt; around = omega (arith, at_blocks); locals = omega (arith, at_locals, length-append ls more) };
      others = rw (alone, whole, reverse-append w (f ∷ []), take_all g.around ms (omega (arith, at_blocks)), take_at ls more g.locals (sym at_locals)) both;
    }

-- more locals of the innermost call change nothing but these
pub more_locals_laid : (f : Frame) (w : List Frame) (ms : List Mark) (vs ls more : List Value) → IsLaidOut f w ms vs ls → IsLaidOut f w ms vs (ls ++ more)
more_locals_laid f w ms vs ls more i = record {
  running = record { block = i.running.block; blocks = i.running.blocks; around = i.running.around; locals = omega (arith, i.running.locals, length-append ls more) };
  others = rw (take-append-le f.locals ls more i.running.locals) i.others;
}

-- ---- locals

pub local_set_view : (f : Frame) (w : List Frame) (ms : List Mark) (vs ls : List Value) (j : ℕ) (v : Value)
    → laid_out f w ms vs (slice_set ls (f.locals + j) v) ≡ with_local j v (laid_out f w ms vs ls)
local_set_view f w ms vs ls j v = rw (drop-set-add f.locals ls j v, take-set-le f.locals ls (f.locals + j) v (omega arith)) refl

pub local_set_laid : (f : Frame) (w : List Frame) (ms : List Mark) (vs ls : List Value) (j : ℕ) (v : Value) → IsLaidOut f w ms vs ls
    → IsLaidOut f w ms vs (slice_set ls (f.locals + j) v)
local_set_laid f w ms vs ls j v i = record {
  running = record { block = i.running.block; blocks = i.running.blocks; around = i.running.around; locals = omega (arith, i.running.locals, length-set ls (f.locals + j) v) };
  others = rw (take-set-le f.locals ls (f.locals + j) v (omega arith)) i.others;
}

-- ---- a block that is reached

-- some blocks are dropped
dropped_blocks : (n : ℕ) (k : ℕ) (ms rest : List Mark) (m : Mark) (vs : List Value) → AreBelow n ms → drop k ms ≡ m ∷ rest
    → (us : List Value) × (drop k (blocks_over ms vs) ≡ block_of m us ∷ blocks_over rest (take m.height vs)) × (m.height ≤ n)
dropped_blocks n zero [] rest m vs b e = cc
dropped_blocks n zero (x ∷ xs) rest m vs b e =
    let same : x ≡ m = cc in let tail : xs ≡ rest = cc in
    (drop m.height vs, rw (same, tail) refl, subst (λ (y : Mark). y.height ≤ n) same b.0)
dropped_blocks n (suc k) [] rest m vs b e = cc
dropped_blocks n (suc k) (x ∷ xs) rest m vs b e =
    let r = dropped_blocks x.height k xs rest m (take x.height vs) b.1 e in
    (r.0, r.1 ∙ ap (λ (c : List Value). block_of m r.0 ∷ blocks_over rest c) (take-take m.height x.height vs r.2), omega (arith, b.0, r.2))

-- ---- how many blocks there are, and their labels

length-blocks_over : (ms : List Mark) (vs : List Value) → length (blocks_over ms vs) ≡ length ms
length-blocks_over [] vs = refl
length-blocks_over (m ∷ ms) vs = ap suc (length-blocks_over ms (take m.height vs))

pub length-marks_of : (f : Frame) (ms : List Mark) → length (marks_of f ms) ≡ length ms - f.around
length-marks_of f ms = length-reverse (drop f.around ms) ∙ length-drop f.around ms

pub blocks_counted : (f : Frame) (w : List Frame) (ms : List Mark) (vs ls : List Value) → block_count (laid_out f w ms vs ls) ≡ length ms - f.around + 1
blocks_counted f w ms vs ls = omega (arith, length-blocks_over (marks_of f ms) (take f.block.height vs), length-marks_of f ms)

labels_over : (ms : List Mark) (vs : List Value) (k : ℕ) → option_map (λ (b : OpenBlock). b.label) (slice_get (blocks_over ms vs) k) ≡ option_map (λ (m : Mark). m.label) (slice_get ms k)
labels_over [] vs k = refl
labels_over (m ∷ ms) vs zero = refl
labels_over (m ∷ ms) vs (suc k) = labels_over ms (take m.height vs) k

-- the label of a block round the innermost one
pub label_found : (f : Frame) (w : List Frame) (ms : List Mark) (vs ls : List Value) (n : ℕ) (m : Mark) → 0 < n → n ≤ length (drop f.around ms) → m ≡ get_or (drop f.around ms) (length (drop f.around ms) - n) m
    → label_at n (laid_out f w ms vs ls) ≡ Some m.label
label_found f w ms vs ls zero m some le e = absurd (omega arith)
label_found f w ms vs ls (suc k) m some le e =
    let own = drop f.around ms in
    let lt : k < length (reverse own) = omega (arith, length-reverse own) in
    let place : length own - 1 - k ≡ length own - suc k = omega arith in
    labels_over (marks_of f ms) (take f.block.height vs) k
    ∙ ap (option_map (λ (x : Mark). x.label)) (slice_get-get_or (reverse own) k m lt ∙ ap Some (get_or-reverse own k m (omega arith) ∙ ap (λ i. get_or own i m) place ∙ sym e))

pub label_missing : (f : Frame) (w : List Frame) (ms : List Mark) (vs ls : List Value) (n : ℕ) → length (drop f.around ms) < n → label_at n (laid_out f w ms vs ls) ≡ None
label_missing f w ms vs ls zero lt = absurd (omega arith)
label_missing f w ms vs ls (suc k) lt =
    let past : length (blocks_over (marks_of f ms) (take f.block.height vs)) ≤ k = omega (arith, length-blocks_over (marks_of f ms) (take f.block.height vs), length-reverse (drop f.around ms)) in
    ap (option_map (λ (b : OpenBlock). b.label)) (slice_get_past (blocks_over (marks_of f ms) (take f.block.height vs)) k past)

-- ---- a block that is reached

-- the innermost one keeps the last operands
pub kept_view : (f : Frame) (w : List Frame) (ms : List Mark) (vs ls : List Value) (count : ℕ) → IsLaidOut f w ms vs ls → count ≤ length (drop f.block.height vs)
    → laid_out f w ms (take f.block.height vs ++ last_of count vs) ls ≡ reached 0 count (laid_out f w ms vs ls)
kept_view f w ms vs ls count i few =
    let h = f.block.height in
    let size : length (take h vs) ≡ h = length-take-le h vs i.running.block in
    operands_changed f w ms vs (take h vs ++ last_of count vs) ls i (take_at (take h vs) (last_of count vs) h size)
    ∙ ap (λ os. with_operands os (laid_out f w ms vs ls)) (drop_at (take h vs) (last_of count vs) h size ∙ sym (last_of_part h count vs i.running.block few))

pub kept_laid : (f : Frame) (w : List Frame) (ms : List Mark) (vs ls : List Value) (count : ℕ) → IsLaidOut f w ms vs ls → count ≤ length (drop f.block.height vs)
    → IsLaidOut f w ms (take f.block.height vs ++ last_of count vs) ls
kept_laid f w ms vs ls count i few =
    let h = f.block.height in
    let size : length (take h vs) ≡ h = length-take-le h vs i.running.block in
    still_laid f w ms vs (take h vs ++ last_of count vs) ls i (omega (arith, size, length-append (take h vs) (last_of count vs))) (take_at (take h vs) (last_of count vs) h size)

-- the marks that are dropped, and the one that is reached
cut_marks : (f : Frame) (us tl : List Mark) (m : Mark) → f.around ≤ length us → drop (length tl) (marks_of f (us ++ m ∷ tl)) ≡ m ∷ marks_of f us
cut_marks f us tl m le =
    let own = drop f.around us in
    let whole : marks_of f (us ++ m ∷ tl) ≡ reverse tl ++ m ∷ reverse own =
    ap reverse (drop-append-le f.around us (m ∷ tl) le) ∙ reverse-append own (m ∷ tl)
    ∙ ap (λ (xs : List Mark). xs ++ reverse own) (reverse-append (m ∷ []) tl) ∙ append_assoc (reverse tl) (m ∷ []) (reverse own) in
    ap (drop (length tl)) whole ∙ drop_at (reverse tl) (m ∷ reverse own) (length tl) (length-reverse tl)

base_dropped : (k : ℕ) (x m : Mark) (ms rest : List Mark) → drop k ms ≡ m ∷ rest → base_height x ms ≡ base_height m rest
base_dropped zero x m [] rest e = cc
base_dropped zero x m (y ∷ ys) rest e = let same : y ≡ m = cc in let tail : ys ≡ rest = cc in rw (same, tail) refl
base_dropped (suc k) x m [] rest e = cc
base_dropped (suc k) x m (y ∷ ys) rest e = base_dropped k y m ys rest e

below_dropped : (k n : ℕ) (m : Mark) (ms rest : List Mark) → AreBelow n ms → drop k ms ≡ m ∷ rest → AreBelow m.height rest
below_dropped zero n m [] rest b e = cc
below_dropped zero n m (y ∷ ys) rest b e = let same : y ≡ m = cc in let tail : ys ≡ rest = cc in subst (λ (zs : List Mark). AreBelow m.height zs) tail (subst (λ (z : Mark). AreBelow z.height ys) same b.1)
below_dropped (suc k) n m [] rest b e = cc
below_dropped (suc k) n m (y ∷ ys) rest b e = below_dropped k y.height m ys rest b.1 e

-- what lies below the call stays
outer_base : (f : Frame) (us tl : List Mark) (m : Mark) (vs more : List Value) → AreBelow f.block.height (marks_of f (us ++ m ∷ tl)) → f.around ≤ length us → m.height ≤ length vs
    → below (with_block m f) us (take m.height vs ++ more) ≡ below f (us ++ m ∷ tl) vs
outer_base f us tl m vs more b le within =
    let cut = cut_marks f us tl m le in
    let size : length (take m.height vs) ≡ m.height = length-take-le m.height vs within in
    let low : base_height m (marks_of f us) ≤ m.height = base_below m (marks_of f us) (below_dropped (length tl) f.block.height m (marks_of f (us ++ m ∷ tl)) (marks_of f us) b cut) in
    cut_lower (base_height m (marks_of f us)) m.height vs (take m.height vs ++ more) low (take_at (take m.height vs) more m.height size)
    ∙ ap (λ k. take k vs) (sym (base_dropped (length tl) f.block m (marks_of f (us ++ m ∷ tl)) (marks_of f us) cut))

pub outer_view : (f : Frame) (w : List Frame) (us tl : List Mark) (m : Mark) (vs ls : List Value) (count : ℕ) → IsLaidOut f w (us ++ m ∷ tl) vs ls → f.around ≤ length us → count ≤ length (drop f.block.height vs)
    → laid_out (with_block m f) w us (take m.height vs ++ last_of count vs) ls ≡ reached (suc (length tl)) count (laid_out f w (us ++ m ∷ tl) vs ls)
outer_view f w us tl m vs ls count i le few =
    let h = f.block.height in
    let cut = cut_marks f us tl m le in
    let r = dropped_blocks h (length tl) (marks_of f (us ++ m ∷ tl)) (marks_of f us) m (take h vs) i.running.blocks cut in
    let within : m.height ≤ length vs = omega (arith, r.2, i.running.block) in
    let size : length (take m.height vs) ≡ m.height = length-take-le m.height vs within in
    let own : drop m.height (take m.height vs ++ last_of count vs) ≡ last_of count (drop h vs) = drop_at (take m.height vs) (last_of count vs) m.height size ∙ sym (last_of_part h count vs i.running.block few) in
    let rest : take m.height (take m.height vs ++ last_of count vs) ≡ take m.height (take h vs) = take_at (take m.height vs) (last_of count vs) m.height size ∙ sym (take-take m.height h vs r.2) in
    rw (r.1, own, rest, outer_base f us tl m vs (last_of count vs) i.running.blocks le within, take-append-le f.around us (m ∷ tl) le) refl

pub outer_laid : (f : Frame) (w : List Frame) (us tl : List Mark) (m : Mark) (vs ls : List Value) (count : ℕ) → IsLaidOut f w (us ++ m ∷ tl) vs ls → f.around ≤ length us
    → IsLaidOut (with_block m f) w us (take m.height vs ++ last_of count vs) ls
outer_laid f w us tl m vs ls count i le =
    let h = f.block.height in
    let cut = cut_marks f us tl m le in
    let r = dropped_blocks h (length tl) (marks_of f (us ++ m ∷ tl)) (marks_of f us) m (take h vs) i.running.blocks cut in
    let within : m.height ≤ length vs = omega (arith, r.2, i.running.block) in
    let size : length (take m.height vs) ≡ m.height = length-take-le m.height vs within in
    record {
      running = record {
        block = omega (arith, size, length-append (take m.height vs) (last_of count vs));
        blocks = below_dropped (length tl) h m (marks_of f (us ++ m ∷ tl)) (marks_of f us) i.running.blocks cut;
        around = le;
        locals = i.running.locals;
      };
      others = rw (outer_base f us tl m vs (last_of count vs) i.running.blocks le within, ← take-append-le f.around us (m ∷ tl) le) i.others;
    }

-- the block at a place of the list is reached
pub reached_view : (f : Frame) (w : List Frame) (ms : List Mark) (m : Mark) (vs ls : List Value) (n place count : ℕ) → IsLaidOut f w ms vs ls → place + n ≡ length ms → 0 < n → f.around ≤ place → m ≡ get_or ms place m → count ≤ length (drop f.block.height vs)
    → laid_out (with_block m f) w (take place ms) (take m.height vs ++ last_of count vs) ls ≡ reached n count (laid_out f w ms vs ls)
reached_view f w ms m vs ls n place count i e some le is few =
    let tl = drop (place + 1) ms in
    let parts : ms ≡ take place ms ++ m ∷ tl = split_at ms place m (omega arith) is in
    let le' : f.around ≤ length (take place ms) = omega (arith, length-take-le place ms (omega arith)) in
    let number : suc (length tl) ≡ n = omega (arith, length-drop (place + 1) ms) in
    outer_view f w (take place ms) tl m vs ls count (subst (λ (xs : List Mark). IsLaidOut f w xs vs ls) parts i) le' few
    ∙ ap (λ (xs : List Mark). reached (suc (length tl)) count (laid_out f w xs vs ls)) (sym parts)
    ∙ ap (λ k. reached k count (laid_out f w ms vs ls)) number

pub reached_laid : (f : Frame) (w : List Frame) (ms : List Mark) (m : Mark) (vs ls : List Value) (n place count : ℕ) → IsLaidOut f w ms vs ls → place + n ≡ length ms → 0 < n → f.around ≤ place → m ≡ get_or ms place m
    → IsLaidOut (with_block m f) w (take place ms) (take m.height vs ++ last_of count vs) ls
reached_laid f w ms m vs ls n place count i e some le is =
    let tl = drop (place + 1) ms in
    let parts : ms ≡ take place ms ++ m ∷ tl = split_at ms place m (omega arith) is in
    let le' : f.around ≤ length (take place ms) = omega (arith, length-take-le place ms (omega arith)) in
    outer_laid f w (take place ms) tl m vs ls count (subst (λ (xs : List Mark). IsLaidOut f w xs vs ls) parts i) le'

-- ---- as the code has it

-- the last one of some marks is the one at the last place
last_mark : (ms : List Mark) (m : Mark) (place : ℕ) → place + 1 ≡ length ms → m ≡ get_or ms place m → ms ≡ take place ms ++ m ∷ []
last_mark ms m place e is =
    split_at ms place m (omega arith) is ∙ ap (λ (xs : List Mark). take place ms ++ m ∷ xs) (drop_all (place + 1) ms (omega arith))

pub left_view_at : (f : Frame) (w : List Frame) (ms : List Mark) (m : Mark) (vs ls : List Value) (place : ℕ) → IsLaidOut f w ms vs ls → place + 1 ≡ length ms → f.around ≤ place → m ≡ get_or ms place m
    → left (laid_out f w ms vs ls) ≡ Ok (laid_out (with_block m f) w (take place ms) vs ls)
left_view_at f w ms m vs ls place i e le is =
    let parts : ms ≡ take place ms ++ m ∷ [] = last_mark ms m place e is in
    let size : length (take place ms) ≡ place = length-take-le place ms (omega arith) in
    ap (λ (xs : List Mark). left (laid_out f w xs vs ls)) parts
    ∙ left_view f w (take place ms) m vs ls (subst (λ (xs : List Mark). IsLaidOut f w xs vs ls) parts i) (omega arith)

pub left_laid_at : (f : Frame) (w : List Frame) (ms : List Mark) (m : Mark) (vs ls : List Value) (place : ℕ) → IsLaidOut f w ms vs ls → place + 1 ≡ length ms → f.around ≤ place → m ≡ get_or ms place m
    → IsLaidOut (with_block m f) w (take place ms) vs ls
left_laid_at f w ms m vs ls place i e le is =
    let parts : ms ≡ take place ms ++ m ∷ [] = last_mark ms m place e is in
    let size : length (take place ms) ≡ place = length-take-le place ms (omega arith) in
    left_laid f w (take place ms) m vs ls (subst (λ (xs : List Mark). IsLaidOut f w xs vs ls) parts i) (omega arith)

-- more locals of the innermost call, whichever they are
pub grown_laid : (f : Frame) (w : List Frame) (ms : List Mark) (vs ls us : List Value) → IsLaidOut f w ms vs ls → take (length ls) us ≡ ls → IsLaidOut f w ms vs us
grown_laid f w ms vs ls us i e =
    let low : take f.locals us ≡ take f.locals ls = sym (take-take f.locals (length ls) us i.running.locals) ∙ ap (take f.locals) e in
    let long : length ls ≤ length us = omega (arith, ap length e, length-take (length ls) us) in
    record {
      running = record { block = i.running.block; blocks = i.running.blocks; around = i.running.around; locals = omega (arith, i.running.locals, long) };
      others = rw low i.others;
    }

-- the label of a block round the innermost one, by its place in the list
pub label_found_at : (f : Frame) (w : List Frame) (ms : List Mark) (vs ls : List Value) (n place : ℕ) (m : Mark) → 0 < n → place + n ≡ length ms → f.around ≤ place → m ≡ get_or ms place m
    → label_at n (laid_out f w ms vs ls) ≡ Some m.label
label_found_at f w ms vs ls n place m some e le is =
    let size : length (drop f.around ms) ≡ length ms - f.around = length-drop f.around ms in
    let there : f.around + (length (drop f.around ms) - n) ≡ place = omega (arith, size) in
    label_found f w ms vs ls n m some (omega (arith, size)) (is ∙ sym (get_or-drop f.around ms (length (drop f.around ms) - n) m ∙ ap (λ j. get_or ms j m) there))

pub label_missing_at : (f : Frame) (w : List Frame) (ms : List Mark) (vs ls : List Value) (n : ℕ) → length ms - f.around < n → label_at n (laid_out f w ms vs ls) ≡ None
label_missing_at f w ms vs ls n lt = label_missing f w ms vs ls n (omega (arith, length-drop f.around ms))

-- a block round the innermost one begins no higher
pub outer_lower : (f : Frame) (w : List Frame) (ms : List Mark) (m : Mark) (vs ls : List Value) (n place : ℕ) → IsLaidOut f w ms vs ls → place + n ≡ length ms → 0 < n → f.around ≤ place → m ≡ get_or ms place m
    → m.height ≤ f.block.height
outer_lower f w ms m vs ls n place i e some le is =
    let us = take place ms in
    let tl = drop (place + 1) ms in
    let parts : ms ≡ us ++ m ∷ tl = split_at ms place m (omega arith) is in
    let le' : f.around ≤ length us = omega (arith, length-take-le place ms (omega arith)) in
    let j = subst (λ (xs : List Mark). IsLaidOut f w xs vs ls) parts i in
    (dropped_blocks f.block.height (length tl) (marks_of f (us ++ m ∷ tl)) (marks_of f us) m (take f.block.height vs) j.running.blocks (cut_marks f us tl m le')).2

-- ---- a value in the place of the last ones

pub replaced_view : (f : Frame) (w : List Frame) (ms : List Mark) (vs ls : List Value) (n : ℕ) (v : Value) → IsLaidOut f w ms vs ls → n ≤ length (drop f.block.height vs)
    → laid_out f w ms (take (length vs - n) vs ++ v ∷ []) ls ≡ pushed v (without_last n (laid_out f w ms vs ls))
replaced_view f w ms vs ls n v i few =
    pushed_view f w ms (take (length vs - n) vs) ls v (cut_laid f w ms vs ls n i few)
    ∙ ap (pushed v) (cut_view f w ms vs ls n i few)

pub replaced_laid : (f : Frame) (w : List Frame) (ms : List Mark) (vs ls : List Value) (n : ℕ) (v : Value) → IsLaidOut f w ms vs ls → n ≤ length (drop f.block.height vs)
    → IsLaidOut f w ms (take (length vs - n) vs ++ v ∷ []) ls
replaced_laid f w ms vs ls n v i few = pushed_laid f w ms (take (length vs - n) vs) ls v (cut_laid f w ms vs ls n i few)
