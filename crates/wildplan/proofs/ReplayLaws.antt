-- Objects that are put into a session, and replacements that are done there, one by one.
use Rattle.std.proofs.Common.{◌≡◌, ◌+◌, ◌<◌, ◌≤◌, ℕ, zero, suc, List, [], ◌∷◌, ◌++◌, length, take, drop, set, Some, None, false, refl, sym, ap, ◌∙◌, arith, inl, inr, slice_get, get_or, add-one, length-append}
use Rattle.std.specs.List.{AllByRecursion}
use Rattle.std.proofs.lemmas.List.{drop_more}
use Rattle.wl_linking.specs.Object.{Object}
use Rattle.wl_linking.specs.Fitting.{IsObject}
use Rattle.wl_linking.specs.Steps.{Refuses}
use Rattle.wl_linking.specs.declared.error.LinkError.{LinkError}
use Rattle.wl_linking.specs.declared.error.LinkError.TheVariants.{Malformed, Unsupported}
use Rattle.wl_words.specs.declared.replacing.ObjectReplacement.{ObjectReplacement}
use Rattle.wl_words.specs.declared.args.WasmArgs.{WasmArgs}
use Rattle.wl_session.specs.After.{after}
use Rattle.wl_plan.specs.Objects.{AreObjects, IsBadObject}
use Rattle.wl_plan.specs.Session.{Held, holding, IsBadBytes}
use Rattle.wl_plan.proofs.ParsingLaws.{parses_more, all_taken}
use Rattle.wildplan.proofs.Gathering.{take_named}
use Rattle.wildplan.specs.Replacing.{replacements_of, IsSoundReplacement, IsBadReplacement}

-- ---- objects

-- the first objects are held, and they are in the grammar
pub record PushesOn (start now : Held) (objects : List (List ℕ)) : Type 0 where
  pub files : List Object
  pub grammar : AreObjects files (take (length now.objects) objects)
  pub held : now ≡ holding start (take (length now.objects) objects)
  pub within : length now.objects ≤ length objects

none_taken : (held objects : List (List ℕ)) → held ≡ [] → take (length held) objects ≡ []
none_taken held objects none = rw none refl

pub pushes_none : (start : Held) (objects : List (List ℕ)) → start.objects ≡ [] → PushesOn start start objects
pushes_none start objects none = record {
  files = [];
  grammar = rw none tt;
  held = ap (λ (os : List (List ℕ)). holding start os) (none ∙ sym (none_taken start.objects objects none));
  within = rw none (omega arith);
}

there : (objects : List (List ℕ)) (k : ℕ) (bytes : List ℕ) → slice_get objects k ≡ Some bytes → k + 1 ≤ length objects
there [] k bytes is = absurd cc
there (x ∷ objects) zero bytes is = omega arith
there (x ∷ objects) (suc k) bytes is = omega (arith, there objects k bytes is)

held_of_pushed : (start now new : Held) (objects : List (List ℕ)) (bytes : List ℕ) → now ≡ holding start (take (length now.objects) objects) → slice_get objects (length now.objects) ≡ Some bytes → new ≡ holding now (now.objects ++ bytes ∷ []) → new ≡ holding start (take (length now.objects + 1) objects)
held_of_pushed start now new objects bytes held here pushed =
    pushed
    ∙ ap (λ (os : List (List ℕ)). holding now (os ++ bytes ∷ [])) (ap (λ (h : Held). h.objects) held)
    ∙ ap (λ (os : List (List ℕ)). holding now os) (sym (take_named objects (length now.objects) bytes here))
    ∙ ap (λ (a : WasmArgs). record { objects = take (length now.objects + 1) objects; args = a }) (ap (λ (h : Held). h.args) held)

pub pushes_more : (start now new : Held) (objects : List (List ℕ)) (file : Object) (bytes : List ℕ) → PushesOn start now objects → slice_get objects (length now.objects) ≡ Some bytes → IsObject file bytes → new ≡ holding now (now.objects ++ bytes ∷ []) → PushesOn start new objects
pushes_more start now new objects file bytes h here is pushed =
    let longer : length new.objects ≡ length now.objects + 1 = ap (λ (x : Held). length x.objects) pushed ∙ length-append now.objects (bytes ∷ []) in
    record {
      files = h.files ++ file ∷ [];
      grammar = rw longer (parses_more h.files objects (length now.objects) file bytes h.grammar here is);
      held = rw longer (held_of_pushed start now new objects bytes h.held here pushed);
      within = omega (arith, longer, there objects (length now.objects) bytes here);
    }

past : (objects : List (List ℕ)) (k : ℕ) → slice_get objects k ≡ None → take k objects ≡ objects
past [] zero none = refl
past [] (suc k) none = refl
past (x ∷ objects) zero none = absurd cc
past (x ∷ objects) (suc k) none = ap (λ (os : List (List ℕ)). x ∷ os) (past objects k none)

pub pushed_all : (start now : Held) (objects : List (List ℕ)) → PushesOn start now objects → slice_get objects (length now.objects) ≡ None → now ≡ holding start objects
pushed_all start now objects h none = h.held ∙ ap (λ (os : List (List ℕ)). holding start os) (past objects (length now.objects) none)

pub all_pushed : (start now : Held) (objects : List (List ℕ)) → PushesOn start now objects → slice_get objects (length now.objects) ≡ None → (files : List Object) × AreObjects files objects
all_pushed start now objects h none = (h.files, all_taken h.files objects (length now.objects) h.grammar none)

-- bytes that aren't an object are an object that isn't in the grammar
bad_there : (start now : Held) (objects : List (List ℕ)) (bytes : List ℕ) (e : LinkError) → PushesOn start now objects → slice_get objects (length now.objects) ≡ Some bytes → IsBadBytes (length now.objects) bytes e → IsBadObject objects e
bad_there start now objects bytes (Malformed object why) h here bad =
    rw bad.0 (record { before = h.files; grammar = h.grammar; bytes = bytes; here = here; fault = bad.1 })
bad_there start now objects bytes (Unsupported object form) h here bad =
    rw bad.0 (record { before = h.files; grammar = h.grammar; bytes = bytes; here = here; fault = bad.1 })
bad_there start now objects bytes _ h here bad = absurd bad

pub push_refused : (start now : Held) (objects : List (List ℕ)) (bytes : List ℕ) (e : LinkError) → PushesOn start now objects → slice_get objects (length now.objects) ≡ Some bytes → Refuses (IsBadBytes (length now.objects) bytes) e → Refuses (IsBadObject objects) e
push_refused start now objects bytes e h here refused = record { cause_is = λ other. bad_there start now objects bytes e h here (refused.cause_is other) }

-- ---- replacements

-- those up to here were done: what is left makes the rest of it
pub record ReplacesOn (start now : Held) (replacements left : List ObjectReplacement) (contents behind : List (List ℕ)) : Type 0 where
  pub args : now.args ≡ start.args
  pub many : length now.objects ≡ length start.objects
  pub done : after now.objects (replacements_of left behind) ≡ after start.objects (replacements_of replacements contents)
  pub sound : AllByRecursion IsSoundReplacement (replacements_of left behind) → AllByRecursion IsSoundReplacement (replacements_of replacements contents)
  pub bad : (e : LinkError) → IsBadReplacement (replacements_of left behind) e → IsBadReplacement (replacements_of replacements contents) e

pub replaces_none : (start : Held) (replacements : List ObjectReplacement) (contents : List (List ℕ)) → ReplacesOn start start replacements replacements contents contents
replaces_none start replacements contents = record { args = refl; many = refl; done = refl; sound = λ h. h; bad = λ e h. h }

set_length : (objects : List (List ℕ)) (k : ℕ) (bytes : List ℕ) → length (set objects k bytes) ≡ length objects
set_length [] k bytes = refl
set_length (x ∷ objects) zero bytes = refl
set_length (x ∷ objects) (suc k) bytes = ap suc (set_length objects k bytes)

-- what is left of the bytes where some stand, and where none do
some_suc : (contents : List (List ℕ)) (k : ℕ) (bytes : List ℕ) → slice_get contents k ≡ Some bytes → drop k contents ≡ bytes ∷ drop (suc k) contents
some_suc [] k bytes is = absurd cc
some_suc (x ∷ contents) zero bytes is = let same : x ≡ bytes = grind arith in rw same refl
some_suc (x ∷ contents) (suc k) bytes is = some_suc contents k bytes is

behind_some : (contents : List (List ℕ)) (k : ℕ) (bytes : List ℕ) → slice_get contents k ≡ Some bytes → drop k contents ≡ bytes ∷ drop (k + 1) contents
behind_some contents k bytes is = rw add-one (some_suc contents k bytes is)

behind_none : (contents : List (List ℕ)) (k : ℕ) → slice_get contents k ≡ None → drop k contents ≡ []
behind_none [] zero none = refl
behind_none [] (suc k) none = refl
behind_none (x ∷ contents) zero none = absurd cc
behind_none (x ∷ contents) (suc k) none = behind_none contents k none

none_suc : (contents : List (List ℕ)) (k : ℕ) → slice_get contents k ≡ None → drop (suc k) contents ≡ []
none_suc [] k none = refl
none_suc (x ∷ contents) zero none = absurd cc
none_suc (x ∷ contents) (suc k) none = none_suc contents k none

none_behind : (contents : List (List ℕ)) (k : ℕ) → slice_get contents k ≡ None → drop (k + 1) contents ≡ []
none_behind contents k none = rw add-one (none_suc contents k none)

pub replaces_more : (start now new : Held) (replacements left : List ObjectReplacement) (contents behind : List (List ℕ)) (r : ObjectReplacement) (bytes : List ℕ) → ReplacesOn start now replacements (r ∷ left) contents (bytes ∷ behind) → ((o : Object) × IsObject o bytes) → new ≡ holding now (set now.objects r.object bytes) → ReplacesOn start new replacements left contents behind
replaces_more start now new replacements left contents behind r bytes h sound replaced = record {
  args = ap (λ (x : Held). x.args) replaced ∙ h.args;
  many = ap (λ (x : Held). length x.objects) replaced ∙ set_length now.objects r.object bytes ∙ h.many;
  done = ap (λ (x : Held). after x.objects (replacements_of left behind)) replaced ∙ h.done;
  sound = λ all. h.sound (sound, all);
  bad = λ e bad. h.bad e (inr (sound, bad));
}

-- where nothing was read for it, no replacement is done
none_left : (left : List ObjectReplacement) → replacements_of left [] ≡ []
none_left [] = refl
none_left (r ∷ left) = refl

pub replaces_less : (start now : Held) (replacements left : List ObjectReplacement) (contents : List (List ℕ)) (r : ObjectReplacement) → ReplacesOn start now replacements (r ∷ left) contents [] → ReplacesOn start now replacements left contents []
replaces_less start now replacements left contents r h = record {
  args = h.args;
  many = h.many;
  done = rw none_left h.done;
  sound = λ all. h.sound tt;
  bad = λ e bad. absurd (rw none_left at bad);
}

pub replace_refused : (start now : Held) (replacements left : List ObjectReplacement) (contents behind : List (List ℕ)) (r : ObjectReplacement) (bytes : List ℕ) (e : LinkError) → ReplacesOn start now replacements (r ∷ left) contents (bytes ∷ behind) → Refuses (IsBadBytes r.object bytes) e → Refuses (IsBadReplacement (replacements_of replacements contents)) e
replace_refused start now replacements left contents behind r bytes e h refused = record { cause_is = λ other. h.bad e (inl (refused.cause_is other)) }

pub replaced_all : (start now : Held) (replacements : List ObjectReplacement) (contents behind : List (List ℕ)) → ReplacesOn start now replacements [] contents behind → now ≡ holding start (after start.objects (replacements_of replacements contents))
replaced_all start now replacements contents behind h =
    ap (λ (os : List (List ℕ)). record { objects = os; args = now.args }) h.done
    ∙ ap (λ (a : WasmArgs). record { objects = after start.objects (replacements_of replacements contents); args = a }) h.args

-- ---- one turn

-- one more of the replacements, for which some bytes were read
pub turn_some : (start now new : Held) (rs : List ObjectReplacement) (contents : List (List ℕ)) (k : ℕ) (d : ObjectReplacement) (bytes : List ℕ) → k < length rs → slice_get contents k ≡ Some bytes → ReplacesOn start now rs (drop k rs) contents (drop k contents) → ((o : Object) × IsObject o bytes) → new ≡ holding now (set now.objects (get_or rs k d).object bytes) → ReplacesOn start new rs (drop (k + 1) rs) contents (drop (k + 1) contents)
turn_some start now new rs contents k d bytes lt here h sound replaced =
    replaces_more start now new rs (drop (k + 1) rs) contents (drop (k + 1) contents) (get_or rs k d) bytes (rw (drop_more rs k d lt, behind_some contents k bytes here) at h) sound replaced

some_replacement : ObjectReplacement
some_replacement = record { object = 0; place = record { word = 0; joined = false } }

pub turn_none : (start now : Held) (rs : List ObjectReplacement) (contents : List (List ℕ)) (k : ℕ) → k < length rs → slice_get contents k ≡ None → ReplacesOn start now rs (drop k rs) contents (drop k contents) → ReplacesOn start now rs (drop (k + 1) rs) contents (drop (k + 1) contents)
turn_none start now rs contents k lt none h =
    rw (none_behind contents k none) (replaces_less start now rs (drop (k + 1) rs) contents (get_or rs k some_replacement) (rw (drop_more rs k some_replacement lt, behind_none contents k none) at h))

pub turn_refused : (start now : Held) (rs : List ObjectReplacement) (contents : List (List ℕ)) (k : ℕ) (d : ObjectReplacement) (bytes : List ℕ) (e : LinkError) → k < length rs → slice_get contents k ≡ Some bytes → ReplacesOn start now rs (drop k rs) contents (drop k contents) → Refuses (IsBadBytes (get_or rs k d).object bytes) e → Refuses (IsBadReplacement (replacements_of rs contents)) e
turn_refused start now rs contents k d bytes e lt here h refused =
    replace_refused start now rs (drop (k + 1) rs) contents (drop (k + 1) contents) (get_or rs k d) bytes e (rw (drop_more rs k d lt, behind_some contents k bytes here) at h) refused
