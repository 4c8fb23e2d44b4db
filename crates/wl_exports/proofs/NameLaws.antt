-- Names that are taken.
use Rattle.std.proofs.Common.{◌≡◌, ◌∙◌, ◌<◌, ℕ, ◌+◌, ◌||◌, Bool, true, false, not, cond, List, [], ◌∷◌, ◌++◌, length, take, get_or, refl, sym, ap, subst, inl, inr, if◌then◌else◌, eqb, eqb-true, eq-eqb, append_assoc, append-nil, true≢false}
use Rattle.std.proofs.Math.Bool.{or-false, or_comm}
use Rattle.std.specs.Borrow.{Bor}
use Rattle.std.specs.HashSet.{HashSet}
use Rattle.std.specs.List.{AllZip, list_any}
use Rattle.std.specs.Str.{bytes_eq}
use Rattle.std.proofs.lemmas.Bool.{cases_Bool, and_parts}
use Rattle.std.proofs.lemmas.List.{take_more}
use Rattle.wl_module.specs.Exports.{Exported}
use Rattle.wl_symbols.specs.Input.{Input}
use Rattle.wl_exports.specs.Exports.{ExportEntry, same_name, unless_taken, first_exports, later_exports, exports}
use Rattle.wl_exports.specs.steps.Exports.{AddsExports}
use Rattle.wl_exports.specs.steps.Names.{holds_name, has_export, HoldsNames, untaken}
use Rattle.wl_exports.specs.Sources.{IsPlainExport, ArePlainExports}
use Rattle.wl_lists.proofs.Beside.{zip_joined}

-- ---- texts

pub bytes_is : (a b : List ℕ) → bytes_eq a b ≡ true → a ≡ b
bytes_is [] [] e = refl
bytes_is [] (y ∷ b) e = absurd cc
bytes_is (x ∷ a) [] e = absurd cc
bytes_is (x ∷ a) (y ∷ b) e =
    let h = and_parts (eqb x y) (bytes_eq a b) e in
    let first = eqb-true x y h.0 in
    let rest = bytes_is a b h.1 in
    λ i. first i ∷ rest i

pub bytes_self : (a : List ℕ) → bytes_eq a a ≡ true
bytes_self [] = refl
bytes_self (x ∷ a) = let rest = bytes_self a in rw (eq-eqb x x refl, rest) refl

pub bytes_turn : (a b : List ℕ) → bytes_eq a b ≡ bytes_eq b a
bytes_turn a b = elim (cases_Bool (bytes_eq a b)) [
  | inl t ↦
      let is = bytes_is a b t in
      t ∙ sym (subst (λ (c : List ℕ). bytes_eq c a ≡ true) is (bytes_self a))
  | inr f ↦ elim (cases_Bool (bytes_eq b a)) [
    | inl t ↦
        let is = bytes_is b a t in
        absurd (true≢false (sym (subst (λ (c : List ℕ). bytes_eq c b ≡ true) is (bytes_self b)) ∙ f))
    | inr g ↦ f ∙ sym g
  ]
]

pub cond_or : (a b : Bool) → cond a true b ≡ (a || b)
cond_or true b = refl
cond_or false b = refl

any_append : {X : Type 0} (p : X → Bool) (xs ys : List X) → list_any p (xs ++ ys) ≡ (list_any p xs || list_any p ys)
any_append p [] ys = refl
any_append p (x ∷ xs) ys = elim (cases_Bool (p x)) [
  | inl t ↦ rw t refl
  | inr f ↦ rw f (any_append p xs ys)
]

-- ---- sets of names

pub holds_more : {S : Type 0} (old new : HashSet (Bor (List ℕ)) S) (xs : List Exported) (x : Exported) (name : List ℕ)
    → x.name ≡ name
    → ((wanted : List ℕ) → holds_name new wanted ≡ (bytes_eq name wanted || holds_name old wanted))
    → HoldsNames old xs → HoldsNames new (xs ++ x ∷ [])
holds_more old new xs x name is more so_far wanted =
    let turned : bytes_eq name wanted ≡ bytes_eq wanted x.name =
    bytes_turn name wanted ∙ ap (λ (n : List ℕ). bytes_eq wanted n) (sym is) in
    more wanted
    ∙ (ap (λ (b : Bool). bytes_eq name wanted || b) (so_far wanted)
    ∙ (ap (λ (b : Bool). b || has_export wanted xs) turned
    ∙ (or_comm (bytes_eq wanted x.name) (has_export wanted xs)
    ∙ (ap (λ (b : Bool). has_export wanted xs || b) (sym (or-false (bytes_eq wanted x.name)))
    ∙ sym (any_append (λ (y : Exported). bytes_eq wanted y.name) xs (x ∷ []))))))

pub holds_next : {S : Type 0} (old new : HashSet (Bor (List ℕ)) S) (before xs : List Exported) (i : ℕ) (x : Exported)
    (name : List ℕ) → i < length xs → x ≡ get_or xs i x → x.name ≡ name
    → ((wanted : List ℕ) → holds_name new wanted ≡ (bytes_eq name wanted || holds_name old wanted))
    → HoldsNames old (before ++ take i xs) → HoldsNames new (before ++ take (i + 1) xs)
holds_next old new before xs i x name lt at is more so_far =
    let same : (before ++ take i xs) ++ x ∷ [] ≡ before ++ take (i + 1) xs =
    append_assoc before (take i xs) (x ∷ [])
    ∙ (ap (λ (z : Exported). before ++ (take i xs ++ z ∷ [])) at
    ∙ ap (λ (zs : List Exported). before ++ zs) (sym (take_more xs i x lt))) in
    subst (λ (zs : List Exported). HoldsNames new zs) same
    (holds_more old new (before ++ take i xs) x name is more so_far)

-- ---- exports whose names are free

pub untaken_more : (before xs : List Exported) (x : Exported)
    → untaken before (xs ++ x ∷ []) ≡ untaken before xs ++ (if has_export x.name (before ++ xs) then [] else x ∷ [])
untaken_more before [] x =
    append-nil (if has_export x.name before then [] else x ∷ [])
    ∙ ap (λ (bs : List Exported). (if has_export x.name bs then [] else x ∷ [])) (sym (append-nil before))
untaken_more before (y ∷ xs) x =
    let front : List Exported = (if has_export y.name before then [] else y ∷ []) in
    let rest = untaken_more (before ++ y ∷ []) xs x in
    ap (λ (zs : List Exported). front ++ zs) rest
    ∙ (ap (λ (bs : List Exported). front ++ (untaken (before ++ y ∷ []) xs ++ (if has_export x.name bs then [] else x ∷ [])))
    (append_assoc before (y ∷ []) xs)
    ∙ sym (append_assoc front (untaken (before ++ y ∷ []) xs) (if has_export x.name (before ++ y ∷ xs) then [] else x ∷ [])))

unless_not : (b : Bool) (x : Exported) → (if not b then x ∷ [] else []) ≡ (if b then [] else x ∷ [])
unless_not true x = refl
unless_not false x = refl

pub untaken_next : (before xs : List Exported) (i : ℕ) (x : Exported) (old new : List Exported) (free : Bool)
    → i < length xs → x ≡ get_or xs i x → free ≡ not (has_export x.name (before ++ take i xs))
    → new ≡ old ++ (if free then x ∷ [] else [])
    → old ≡ before ++ untaken before (take i xs) → new ≡ before ++ untaken before (take (i + 1) xs)
untaken_next before xs i x old new free lt at is grown so_far =
    let taken = has_export x.name (before ++ take i xs) in
    let part : (if free then x ∷ [] else []) ≡ (if has_export x.name (before ++ take i xs) then [] else x ∷ []) =
    ap (λ (b : Bool). (if b then x ∷ [] else [])) is ∙ unless_not (has_export x.name (before ++ take i xs)) x in
    grown
    ∙ (ap (λ (zs : List Exported). zs ++ (if free then x ∷ [] else [])) so_far
    ∙ (append_assoc before (untaken before (take i xs)) (if free then x ∷ [] else [])
    ∙ (ap (λ (zs : List Exported). before ++ (untaken before (take i xs) ++ zs)) part
    ∙ (ap (λ (zs : List Exported). before ++ zs) (sym (untaken_more before (take i xs) x))
    ∙ ap (λ (zs : List Exported). before ++ untaken before zs)
    (ap (λ (z : Exported). take i xs ++ z ∷ []) at ∙ sym (take_more xs i x lt))))))

-- ---- the same of what is exported

same_taken : (input : Input) (name : List ℕ) (es : List ExportEntry) (xs : List Exported)
    → AllZip (IsPlainExport input) es xs
    → list_any (λ (e : ExportEntry). bytes_eq name e.name) es ≡ has_export name xs
same_taken input name [] [] zip = refl
same_taken input name [] (x ∷ xs) zip = absurd zip
same_taken input name (e ∷ es) [] zip = absurd zip
same_taken input name (e ∷ es) (x ∷ xs) zip =
    ap (λ (n : List ℕ). bytes_eq name n || list_any (λ (e : ExportEntry). bytes_eq name e.name) es) (sym zip.0.name)
    ∙ ap (λ (b : Bool). bytes_eq name x.name || b) (same_taken input name es xs zip.1)

one_untaken : (input : Input) (e : ExportEntry) (x : Exported) (a b : Bool) → a ≡ b → IsPlainExport input e x
    → AllZip (IsPlainExport input) (if a then [] else e ∷ []) (if b then [] else x ∷ [])
one_untaken input e x true true same is = tt
one_untaken input e x true false same is = absurd cc
one_untaken input e x false true same is = absurd cc
one_untaken input e x false false same is = (is, tt)

pub untaken_zip : (input : Input) (before later : List ExportEntry) (first xs : List Exported)
    → AllZip (IsPlainExport input) before first → AllZip (IsPlainExport input) later xs
    → AllZip (IsPlainExport input) (unless_taken before later) (untaken first xs)
untaken_zip input before [] first [] zip rest = tt
untaken_zip input before [] first (x ∷ xs) zip rest = absurd rest
untaken_zip input before (e ∷ later) first [] zip rest = absurd rest
untaken_zip input before (e ∷ later) first (x ∷ xs) zip rest =
    let here : list_any (same_name e) before ≡ has_export x.name first =
    same_taken input e.name before first zip ∙ ap (λ (n : List ℕ). has_export n first) (sym rest.0.name) in
    zip_joined (IsPlainExport input) (if list_any (same_name e) before then [] else e ∷ [])
    (unless_taken (before ++ e ∷ []) later) (if has_export x.name first then [] else x ∷ [])
    (untaken (first ++ x ∷ []) xs)
    (one_untaken input e x (list_any (same_name e) before) (has_export x.name first) here rest.0)
    (untaken_zip input (before ++ e ∷ []) later (first ++ x ∷ []) xs
    (zip_joined (IsPlainExport input) before (e ∷ []) first (x ∷ []) zip (rest.0, tt)) rest.1)

zip_grown : (input : Input) (es : List ExportEntry) (old new : List Exported) → AddsExports input es old new
    → old ≡ [] → AllZip (IsPlainExport input) es new
zip_grown input es old new adds none =
    let same : adds.more ≡ new = sym (adds.grown ∙ ap (λ (zs : List Exported). zs ++ adds.more) none) in
    subst (λ (zs : List Exported). AllZip (IsPlainExport input) es zs) same adds.are

-- all exports
pub all_exports : (input : Input) (none first empty later listed whole : List Exported)
    → none ≡ [] → AddsExports input (first_exports input) none first
    → empty ≡ [] → AddsExports input (later_exports input) empty later → listed ≡ later
    → whole ≡ first ++ untaken first listed → ArePlainExports input whole
all_exports input none first empty later listed whole n a e b same grown =
    let zip = zip_grown input (first_exports input) none first a n in
    let rest = zip_grown input (later_exports input) empty later b e in
    let both_lists = zip_joined (IsPlainExport input) (first_exports input)
    (unless_taken (first_exports input) (later_exports input)) first (untaken first later) zip
    (untaken_zip input (first_exports input) (later_exports input) first later zip rest) in
    subst (λ (zs : List Exported). AllZip (IsPlainExport input) (exports input) zs)
    (sym (grown ∙ ap (λ (zs : List Exported). first ++ untaken first zs) same)) both_lists
