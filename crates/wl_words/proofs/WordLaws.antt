-- Words are items in one way at most, never items and at fault, and at fault in one way at most.
use Rattle.std.proofs.Common.{◌≡◌, ◌+◌, ◌<◌, ℕ, List, [], ◌∷◌, length, Option, Some, None, true≢false, refl, sym, ap, subst, ◌∙◌, arith, inl, inr}
use Rattle.std.specs.Option.{option_and_then, option_or}
use Rattle.std.proofs.lemmas.Option.{slice_get_within}
use Rattle.wl_words.specs.Options.{is_option}
use Rattle.wl_words.specs.Values.{number_of}
use Rattle.wl_words.specs.Items.{ArgItem, Object, Given, Set, Memory, NamesOption, HasValue, joined, parted, IsSoundValue, StandsAtWord, AreArgItems, mode_of_item, mode_after}
use Rattle.wl_words.specs.Modes.{KeepsMode}
use Rattle.wl_words.specs.declared.modes.ModeName.{ModeName}
use Rattle.wl_words.specs.declared.modes.ValuePlace.{ValuePlace}
use Rattle.wl_words.specs.Faults.{IsUnknownOption, unnamed, valued, LacksValue, ValueFault, ItemFault, unknown, lacking, unsound, bare, with_value, StopFault, other, alone}
use Rattle.wl_words.proofs.ModeLaws.{item_no_other}
use Rattle.wl_words.proofs.OptionLaws.{some_same, some_none, one_option, no_option, not_unnamed, flag_value, flag_memory, value_memory, same_flag, same_setting, same_memory, value_option}
use Rattle.wl_words.specs.declared.options.OptionKind.TheVariants.{Value}
use Rattle.wl_words.specs.declared.options.Setting.{Setting}
use Rattle.wl_words.specs.declared.options.Setting.TheVariants as setting
use Rattle.wl_words.specs.declared.options.MemoryOption.{MemoryOption}
use Rattle.wl_words.specs.declared.error.ArgError.{ArgError}

-- ---- an option and its value

one_value : (words : List (List ℕ)) (at : ℕ) (s t : Setting) (v w : List ℕ) (p q : ValuePlace) → HasValue words at s v p → HasValue words at t w q → (s ≡ t) × (v ≡ w) × (p ≡ q)
one_value words at s t v w p q (joined h is) (joined k same) =
    let e = one_option words at (Value s) (Value t) (Some v) (Some w) h k in
    (same_setting s t e.0, some_same v w e.1, is ∙ sym same)
one_value words at s t v w p q (joined h is) (parted k next same) = absurd (some_none v (one_option words at (Value s) (Value t) (Some v) None h k).1)
one_value words at s t v w p q (parted h next is) (joined k same) = absurd (some_none w (one_option words at (Value t) (Value s) (Some w) None k h).1)
one_value words at s t v w p q (parted h next is) (parted k further same) =
    let e = one_option words at (Value s) (Value t) None None h k in
    (same_setting s t e.0, some_same v w (sym next ∙ further), is ∙ sym same)

-- a value that is there isn't lacking
not_lacking : (words : List (List ℕ)) (at : ℕ) (s : Setting) (v : List ℕ) (p : ValuePlace) → HasValue words at s v p → LacksValue words at → ⊥
not_lacking words at s v p (joined h is) lacks = some_none v (one_option words at (Value s) (Value lacks.setting) (Some v) None h lacks.named).1
not_lacking words at s v p (parted h next is) lacks = some_none v (sym next ∙ lacks.last)

-- a sound value has no fault
no_value_fault : (s : Setting) (v : List ℕ) (p : ℕ) (e : ArgError) → IsSoundValue s v → ValueFault s v p e → ⊥
no_value_fault setting.Export v p e sound fault = fault
no_value_fault setting.ExportIfDefined v p e sound fault = fault
no_value_fault setting.Entry v p e sound fault = fault
no_value_fault setting.Keyword v p e (n, is) (inl (none, told)) = some_none n (sym is ∙ ap (option_and_then (number_of 32)) none)
no_value_fault setting.Keyword v p e (n, is) (inr (text, some, none, told)) = some_none n (sym is ∙ ap (option_and_then (number_of 32)) some ∙ none)
no_value_fault setting.InitialMemory v p e (n, is) (none, told) = some_none n (sym is ∙ none)
no_value_fault setting.MaxMemory v p e (n, is) (none, told) = some_none n (sym is ∙ none)
no_value_fault setting.ExtraFeatures v p e sound fault = fault
no_value_fault setting.KeepSection v p e sound fault = fault
no_value_fault setting.Output v p e sound fault = fault
no_value_fault setting.Check v p e sound fault = fault
no_value_fault setting.Run v p e sound fault = fault
no_value_fault setting.Generate v p e (n, is) (none, told) = some_none n (sym is ∙ none)
no_value_fault setting.Replace v p e (n, is) (none, told) = some_none n (sym is ∙ none)

-- a value has one fault
one_value_fault : (s : Setting) (v : List ℕ) (p : ℕ) (e f : ArgError) → ValueFault s v p e → ValueFault s v p f → e ≡ f
one_value_fault setting.Export v p e f h k = absurd h
one_value_fault setting.ExportIfDefined v p e f h k = absurd h
one_value_fault setting.Entry v p e f h k = absurd h
one_value_fault setting.Keyword v p e f (inl (none, told)) (inl (nothing, tells)) = told ∙ sym tells
one_value_fault setting.Keyword v p e f (inl (none, told)) (inr (text, some, nothing, tells)) = absurd (some_none text (sym some ∙ none))
one_value_fault setting.Keyword v p e f (inr (text, some, none, told)) (inl (nothing, tells)) = absurd (some_none text (sym some ∙ nothing))
one_value_fault setting.Keyword v p e f (inr (text, some, none, told)) (inr (further, any, nothing, tells)) = told ∙ sym tells
one_value_fault setting.InitialMemory v p e f (none, told) (nothing, tells) = told ∙ sym tells
one_value_fault setting.MaxMemory v p e f (none, told) (nothing, tells) = told ∙ sym tells
one_value_fault setting.ExtraFeatures v p e f h k = absurd h
one_value_fault setting.KeepSection v p e f h k = absurd h
one_value_fault setting.Output v p e f h k = absurd h
one_value_fault setting.Check v p e f h k = absurd h
one_value_fault setting.Run v p e f h k = absurd h
one_value_fault setting.Generate v p e f (none, told) (nothing, tells) = told ∙ sym tells
one_value_fault setting.Replace v p e f (none, told) (nothing, tells) = told ∙ sym tells

-- ---- one item

one_item : (words : List (List ℕ)) (at : ℕ) (x y : ArgItem) (m n : ℕ) → StandsAtWord words at x m → StandsAtWord words at y n → (x ≡ y) × (m ≡ n)
one_item words at (Object p) (Object q) m n h k = (ap Object (h.1 ∙ sym k.1), h.2 ∙ sym k.2)
one_item words at (Object p) (Given g) m n h k = absurd (no_option words at _ _ h.0 k.0)
one_item words at (Object p) (Set t w q) m n h k = let o = value_option words at t w q k.0 in absurd (no_option words at _ _ h.0 o.1)
one_item words at (Object p) (Memory b w) m n h k = absurd (no_option words at _ _ h.0 k.0)
one_item words at (Given f) (Object q) m n h k = absurd (no_option words at _ _ k.0 h.0)
one_item words at (Given f) (Given g) m n h k = (ap Given (same_flag f g (one_option words at _ _ _ _ h.0 k.0).0), h.1 ∙ sym k.1)
one_item words at (Given f) (Set t w q) m n h k = let o = value_option words at t w q k.0 in absurd (flag_value f t (one_option words at _ _ _ _ h.0 o.1).0)
one_item words at (Given f) (Memory b w) m n h k = absurd (flag_memory f b (one_option words at _ _ _ _ h.0 k.0).0)
one_item words at (Set s v p) (Object q) m n h k = let o = value_option words at s v p h.0 in absurd (no_option words at _ _ k.0 o.1)
one_item words at (Set s v p) (Given g) m n h k = let o = value_option words at s v p h.0 in absurd (flag_value g s (one_option words at _ _ _ _ k.0 o.1).0)
one_item words at (Set s v p) (Set t w q) m n h k =
    let e = one_value words at s t v w p q h.0 k.0 in
    (ap (λ (o : Setting). Set o v p) e.0 ∙ ap (λ (x : List ℕ). Set t x p) e.1 ∙ ap (λ (o : ValuePlace). Set t w o) e.2, h.2 ∙ ap (λ (o : ValuePlace). o.word + 1) e.2 ∙ sym k.2)
one_item words at (Set s v p) (Memory b w) m n h k = let o = value_option words at s v p h.0 in absurd (value_memory s b (one_option words at _ _ _ _ o.1 k.0).0)
one_item words at (Memory a v) (Object q) m n h k = absurd (no_option words at _ _ k.0 h.0)
one_item words at (Memory a v) (Given g) m n h k = absurd (flag_memory g a (one_option words at _ _ _ _ k.0 h.0).0)
one_item words at (Memory a v) (Set t w q) m n h k = let o = value_option words at t w q k.0 in absurd (value_memory t a (one_option words at _ _ _ _ o.1 h.0).0)
one_item words at (Memory a v) (Memory b w) m n h k =
    let e = one_option words at _ _ _ _ h.0 k.0 in
    (ap (λ (o : MemoryOption). Memory o v) (same_memory a b e.0) ∙ ap (λ (x : Option (List ℕ)). Memory b x) e.1, h.1 ∙ sym k.1)

-- ---- an item or a fault

-- what names an option and stands as an item isn't at fault
no_unknown : (words : List (List ℕ)) (at : ℕ) (x : ArgItem) (m : ℕ) → StandsAtWord words at x m → IsUnknownOption words at → ⊥
no_unknown words at (Object p) m h (unnamed word here dashed none) =
    let same : h.0.word ≡ word = some_same _ _ (sym h.0.here ∙ here) in
    absurd (true≢false (sym dashed ∙ ap is_option (sym same) ∙ h.0.plain))
no_unknown words at (Object p) m h (valued flag value named) = no_option words at _ _ h.0 named
no_unknown words at (Given f) m h (unnamed word here dashed none) = not_unnamed words at _ _ word h.0 here none
no_unknown words at (Given f) m h (valued flag value named) = some_none value (one_option words at _ _ _ _ named h.0).1
no_unknown words at (Set s v p) m h (unnamed word here dashed none) = let o = value_option words at s v p h.0 in not_unnamed words at _ _ word o.1 here none
no_unknown words at (Set s v p) m h (valued flag value named) = let o = value_option words at s v p h.0 in flag_value flag s (one_option words at _ _ _ _ named o.1).0
no_unknown words at (Memory a v) m h (unnamed word here dashed none) = not_unnamed words at _ _ word h.0 here none
no_unknown words at (Memory a v) m h (valued flag value named) = flag_memory flag a (one_option words at _ _ _ _ named h.0).0

no_fault : (words : List (List ℕ)) (at : ℕ) (x : ArgItem) (m : ℕ) (e : ArgError) → StandsAtWord words at x m → ItemFault words at e → ⊥
no_fault words at x m e h (unknown fault is) = no_unknown words at x m h fault
no_fault words at (Object p) m e h (lacking fault is) = no_option words at _ _ h.0 fault.named
no_fault words at (Given f) m e h (lacking fault is) = flag_value f fault.setting (one_option words at _ _ _ _ h.0 fault.named).0
no_fault words at (Set s v p) m e h (lacking fault is) = not_lacking words at s v p h.0 fault
no_fault words at (Memory a v) m e h (lacking fault is) = value_memory fault.setting a (one_option words at _ _ _ _ fault.named h.0).0
no_fault words at (Object p) m e h (unsound t w q has fault) = let o = value_option words at t w q has in no_option words at _ _ h.0 o.1
no_fault words at (Given f) m e h (unsound t w q has fault) = let o = value_option words at t w q has in flag_value f t (one_option words at _ _ _ _ h.0 o.1).0
no_fault words at (Set s v p) m e h (unsound t w q has fault) =
    let same = one_value words at s t v w p q h.0 has in
    no_value_fault t w q.word e (subst (λ (o : Setting). IsSoundValue o w) same.0 (subst (λ (x : List ℕ). IsSoundValue s x) same.1 h.1)) fault
no_fault words at (Memory a v) m e h (unsound t w q has fault) = let o = value_option words at t w q has in value_memory t a (one_option words at _ _ _ _ o.1 h.0).0

-- ---- one fault

unknown_value : (words : List (List ℕ)) (at : ℕ) (t : Setting) (behind : Option (List ℕ)) → IsUnknownOption words at → NamesOption words at (Value t) behind → ⊥
unknown_value words at t behind (unnamed word here dashed none) h = not_unnamed words at _ _ word h here none
unknown_value words at t behind (valued flag value named) h = flag_value flag t (one_option words at _ _ _ _ named h).0

one_fault : (words : List (List ℕ)) (at : ℕ) (e f : ArgError) → ItemFault words at e → ItemFault words at f → e ≡ f
one_fault words at e f (unknown h is) (unknown k same) = is ∙ sym same
one_fault words at e f (unknown h is) (lacking k same) = absurd (unknown_value words at _ _ h k.named)
one_fault words at e f (unknown h is) (unsound t w q has k) = let o = value_option words at t w q has in absurd (unknown_value words at t o.0 h o.1)
one_fault words at e f (lacking h is) (unknown k same) = absurd (unknown_value words at _ _ k h.named)
one_fault words at e f (lacking h is) (lacking k same) = is ∙ sym same
one_fault words at e f (lacking h is) (unsound t w q has k) = absurd (not_lacking words at t w q has h)
one_fault words at e f (unsound s v p has h) (unknown k same) = let o = value_option words at s v p has in absurd (unknown_value words at s o.0 k o.1)
one_fault words at e f (unsound s v p has h) (lacking k same) = absurd (not_lacking words at s v p has k)
one_fault words at e f (unsound s v p has h) (unsound t w q had k) =
    let same = one_value words at s t v w p q has had in
    one_value_fault t w q.word e f (subst (λ (o : ValuePlace). ValueFault t w o.word e) same.2 (subst (λ (x : List ℕ). ValueFault t x p.word e) same.1 (subst (λ (o : Setting). ValueFault o v p.word e) same.0 h))) k

-- ---- items and faults among the words

-- the word of an item is there, and that of a fault
item_within : (words : List (List ℕ)) (at : ℕ) (x : ArgItem) (m : ℕ) → StandsAtWord words at x m → at < length words
item_within words at (Object p) m h = slice_get_within words at _ h.0.here
item_within words at (Given f) m h = slice_get_within words at _ h.0.here
item_within words at (Set s v p) m h = let o = value_option words at s v p h.0 in slice_get_within words at _ o.1.here
item_within words at (Memory a v) m h = slice_get_within words at _ h.0.here

fault_within : (words : List (List ℕ)) (at : ℕ) (e : ArgError) → ItemFault words at e → at < length words
fault_within words at e (unknown (unnamed word here dashed none) is) = slice_get_within words at word here
fault_within words at e (unknown (valued flag value named) is) = slice_get_within words at _ named.here
fault_within words at e (lacking fault is) = slice_get_within words at _ fault.named.here
fault_within words at e (unsound t w q has fault) = let o = value_option words at t w q has in slice_get_within words at _ o.1.here

stop_within : (words : List (List ℕ)) (at : ℕ) (before : Option ModeName) (e : ArgError) → StopFault words at before e → at < length words
stop_within words at before e (other (bare flag named differs) is) = slice_get_within words at _ named.here
stop_within words at before e (other (with_value setting value named differs) is) = slice_get_within words at _ named.here
stop_within words at before e (alone none fault) = fault_within words at e fault

-- what stands as an item of the mode before is no end
no_stop : (words : List (List ℕ)) (at : ℕ) (before : Option ModeName) (x : ArgItem) (m : ℕ) (e : ArgError) → StandsAtWord words at x m → KeepsMode before (mode_of_item x) → StopFault words at before e → ⊥
no_stop words at before x m e h keeps (other asks is) = item_no_other words at before x m h keeps asks
no_stop words at before x m e h keeps (alone none fault) = no_fault words at x m e h fault

-- an end has one reason
one_stop : (words : List (List ℕ)) (at : ℕ) (before : Option ModeName) (e f : ArgError) → StopFault words at before e → StopFault words at before f → e ≡ f
one_stop words at before e f (other asks is) (other also same) = is ∙ sym same
one_stop words at before e f (other asks is) (alone none fault) = absurd (none asks)
one_stop words at before e f (alone none fault) (other asks is) = absurd (none asks)
one_stop words at before e f (alone none fault) (alone also further) = one_fault words at e f fault further

-- the rest after one item is that after the other, where the two are one
abbrev rest_moved : (words : List (List ℕ)) (before : Option ModeName) (x y : ArgItem) (m n : ℕ) (xs : List ArgItem) (end : ℕ) → x ≡ y → m ≡ n → AreArgItems words m (option_or (mode_of_item x) before) xs end → AreArgItems words n (option_or (mode_of_item y) before) xs end
rest_moved words before x y m n xs end same place rest =
    subst (λ (z : ArgItem). AreArgItems words n (option_or (mode_of_item z) before) xs end) same (subst (λ (k : ℕ). AreArgItems words k (option_or (mode_of_item x) before) xs end) place rest)

pub same_items : (words : List (List ℕ)) (at : ℕ) (before : Option ModeName) (xs ys : List ArgItem) (end : ℕ) → end ≡ length words → AreArgItems words at before xs end → AreArgItems words at before ys end → xs ≡ ys
same_items words at before [] [] end whole h k = refl
same_items words at before [] (y ∷ ys) end whole h (m, first, kept, rest) = absurd (omega (arith, whole, h, item_within words at y m first))
same_items words at before (x ∷ xs) [] end whole (m, first, kept, rest) k = absurd (omega (arith, whole, k, item_within words at x m first))
same_items words at before (x ∷ xs) (y ∷ ys) end whole (m, first, kept, rest) (n, second, keeps, others) =
    let e = one_item words at x y m n first second in
    ap (λ (z : ArgItem). z ∷ xs) e.0 ∙ ap (λ (zs : List ArgItem). y ∷ zs) (same_items words n (option_or (mode_of_item y) before) xs ys end whole (rest_moved words before x y m n xs end e.0 e.1 rest) others)

pub no_words_fault : (words : List (List ℕ)) (at : ℕ) (before : Option ModeName) (xs ys : List ArgItem) (end stop : ℕ) (e : ArgError) → end ≡ length words → AreArgItems words at before xs end → AreArgItems words at before ys stop → StopFault words stop (mode_after before ys) e → ⊥
no_words_fault words at before [] [] end stop e whole h k fault = absurd (omega (arith, whole, h, k, stop_within words stop before e fault))
no_words_fault words at before [] (y ∷ ys) end stop e whole h (m, first, kept, rest) fault = absurd (omega (arith, whole, h, item_within words at y m first))
no_words_fault words at before (x ∷ xs) [] end stop e whole (m, first, kept, rest) k fault = no_stop words at before x m e first kept (subst (λ (n : ℕ). StopFault words n before e) (sym k) fault)
no_words_fault words at before (x ∷ xs) (y ∷ ys) end stop e whole (m, first, kept, rest) (n, second, keeps, others) fault =
    let same = one_item words at x y m n first second in
    no_words_fault words n (option_or (mode_of_item y) before) xs ys end stop e whole (rest_moved words before x y m n xs end same.0 same.1 rest) others fault

pub one_words_fault : (words : List (List ℕ)) (at : ℕ) (before : Option ModeName) (xs ys : List ArgItem) (stop end : ℕ) (e f : ArgError) → AreArgItems words at before xs stop → StopFault words stop (mode_after before xs) e → AreArgItems words at before ys end → StopFault words end (mode_after before ys) f → e ≡ f
one_words_fault words at before [] [] stop end e f h fault k last = one_stop words at before e f (subst (λ (n : ℕ). StopFault words n before e) (sym h) fault) (subst (λ (n : ℕ). StopFault words n before f) (sym k) last)
one_words_fault words at before [] (y ∷ ys) stop end e f h fault (m, first, kept, rest) last = absurd (no_stop words at before y m e first kept (subst (λ (n : ℕ). StopFault words n before e) (sym h) fault))
one_words_fault words at before (x ∷ xs) [] stop end e f (m, first, kept, rest) fault k last = absurd (no_stop words at before x m f first kept (subst (λ (n : ℕ). StopFault words n before f) (sym k) last))
one_words_fault words at before (x ∷ xs) (y ∷ ys) stop end e f (m, first, kept, rest) fault (n, further, keeps, others) last =
    let same = one_item words at x y m n first further in
    one_words_fault words n (option_or (mode_of_item y) before) xs ys stop end e f (rest_moved words before x y m n xs stop same.0 same.1 rest) (subst (λ (z : ArgItem). StopFault words stop (mode_after (option_or (mode_of_item z) before) xs) e) same.0 fault) others last
