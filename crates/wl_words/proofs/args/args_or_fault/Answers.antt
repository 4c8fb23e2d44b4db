use Rattle.std.proofs.Common.{◌≡◌, ◌⊎◌, ℕ, List, length, None, refl, subst, arith, inl, inr}
use Rattle.wl_words.specs.Items.{ArgItem}
use Rattle.wl_words.specs.Args.{IsArgs, AsksFor, WholeFault, WordsFault, front, whole}
use Rattle.wl_words.specs.declared.args.WasmArgs.{WasmArgs}
use Rattle.wl_words.specs.declared.error.ArgError.{ArgError}
use Rattle.wl_words.proofs.AskLaws.{args_of, asks_args, asks_same}
use Rattle.wl_words.proofs.SomeLaws.{ItemsOrFault, items_or_fault}
use Rattle.wl_words.proofs.WholeLaws.{whole_or_sound, one_whole}
use Rattle.wl_words.proofs.WordLaws.{same_items, no_words_fault, one_words_fault}
use Rattle.wl_words.proofs.args.args_or_fault.Goals as goal

some_of : (words : List (List ℕ)) → ItemsOrFault words 0 None → ((args : WasmArgs) × IsArgs words args) ⊎ ((e : ArgError) × WordsFault words e)
some_of words (inl (items, spelled)) = elim (whole_or_sound (args_of items)) [
  | inl (e, fault) ↦ inr (e, whole items (args_of items) spelled (asks_args items) fault)
  | inr sound ↦ inl (args_of items, record { items = items; spelled = spelled; asked = asks_args items; sound = sound })
]
some_of words (inr (items, stop, e, before, fault)) = inr (e, front (record { items = items; at = stop; before = before; fault = fault }))

-- items that ask for two things ask for one
one_asked : (words : List (List ℕ)) (xs ys : List ArgItem) (a b : WasmArgs) → xs ≡ ys → AsksFor xs a → AsksFor ys b → a ≡ b
one_asked words xs ys a b same h k = asks_same ys a b (subst (λ (zs : List ArgItem). AsksFor zs a) same h) k

never : (words : List (List ℕ)) (args : WasmArgs) (e : ArgError) → IsArgs words args → WordsFault words e → ⊥
never words args e h (front k) = no_words_fault words 0 None h.items k.items (length words) k.at e refl h.spelled k.before k.fault
never words args e h (whole items asked spelled asks fault) =
    let same = one_asked words items h.items asked args (same_items words 0 None items h.items (length words) refl spelled h.spelled) asks h.asked in
    h.sound e (subst (λ (a : WasmArgs). WholeFault a e) same fault)

one_of : (words : List (List ℕ)) (e f : ArgError) → WordsFault words e → WordsFault words f → e ≡ f
one_of words e f (front h) (front k) = one_words_fault words 0 None h.items k.items h.at k.at e f h.before h.fault k.before k.fault
one_of words e f (front h) (whole items asked spelled asks fault) = absurd (no_words_fault words 0 None items h.items (length words) h.at e refl spelled h.before h.fault)
one_of words e f (whole items asked spelled asks fault) (front k) = absurd (no_words_fault words 0 None items k.items (length words) k.at f refl spelled k.before k.fault)
one_of words e f (whole xs a spelled asks fault) (whole ys b also others further) =
    let same = one_asked words xs ys a b (same_items words 0 None xs ys (length words) refl spelled also) asks others in
    one_whole b e f (subst (λ (c : WasmArgs). WholeFault c e) same fault) further

pub returns-clause-some : goal.returns-clause-some
returns-clause-some c = λ words. some_of words (items_or_fault (length words) words 0 None (omega arith) (omega arith))

pub returns-clause-never_both : goal.returns-clause-never_both
returns-clause-never_both c = never

pub returns-clause-one : goal.returns-clause-one
returns-clause-one c = λ words a b h k.
    one_asked words h.items k.items a b (same_items words 0 None h.items k.items (length words) refl h.spelled k.spelled) h.asked k.asked

pub returns-clause-one_fault : goal.returns-clause-one_fault
returns-clause-one_fault c = one_of
