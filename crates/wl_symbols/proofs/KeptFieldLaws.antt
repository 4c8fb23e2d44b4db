-- Of two kept fields in one unit the earlier ends before the later begins.
use Rattle.std.proofs.Common.{◌≡◌, ◌≤◌, ◌<◌, ℕ, zero, suc, ◌+◌, Bool, true, false, List, [], ◌∷◌, length, refl, sym, ap, ◌∙◌, subst, arith, Some, slice_get, if◌then◌else◌}
use Rattle.std.specs.List.{AllByRecursion, slice_index_or}
use Rattle.wl_linking.specs.Object.{Object}
use Rattle.wl_linking.specs.Fitting.{IsFitting, IsWhole, code_pieces, data_pieces}
use Rattle.wl_linking.specs.Sites.{PieceOf, IsSite, AreSites, AreApart, LiesBefore, field_len}
use Rattle.wl_custom.specs.RelocationTypes.{field_form}
use Rattle.wl_custom.specs.declared.relocations.WasmRelocation.{WasmRelocation}
use Rattle.wl_linking.specs.declared.sites.Site.{Site}
use Rattle.wl_symbols.specs.Live.{Live}
use Rattle.wl_lists.proofs.Later.{AllLater, all_map, later_append}
use Rattle.wl_lists.proofs.Places.{all_append}
use Rattle.wl_symbols.specs.Relocations.{EndsBefore, keeps_unit, relocated_at, relocated_if, relocated_in, object_relocations, relocations_from}
use Rattle.wl_symbols.specs.declared.relocated.FixupPlace.{FixupPlace}
use Rattle.wl_symbols.specs.declared.relocated.FixupPlace.TheVariants.{Code, Segment}
use Rattle.wl_symbols.specs.declared.relocated.Relocated.{Relocated}

-- ---- fields

abbrev IsOf : FixupPlace → ℕ → Relocated → Type 0
IsOf place i r = (r.place ≡ place) × (r.object ≡ i)

if_all : (live : Live) (P : Relocated → Type 0) (r : Relocated) → P r → AllByRecursion P (relocated_if live r)
if_all live P r p = at (keeps_unit live r.place r.object r.site.unit)
  where
    at : (b : Bool) → AllByRecursion P (if b then r ∷ [] else [])
    at true = (p, tt)
    at false = tt

if_later : (live : Live) (R : Relocated → Relocated → Type 0) (r : Relocated) → AllLater R (relocated_if live r)
if_later live R r = at (keeps_unit live r.place r.object r.site.unit)
  where
    at : (b : Bool) → AllLater R (if b then r ∷ [] else [])
    at true = (tt, tt)
    at false = tt

in_section : (live : Live) (place : FixupPlace) (i : ℕ) (rs : List WasmRelocation) (ss : List Site) → AllByRecursion (IsOf place i) (relocated_in live place i rs ss)
in_section live place i [] ss = tt
in_section live place i (r ∷ rs) [] = tt
in_section live place i (r ∷ rs) (s ∷ ss) =
    all_append (IsOf place i) (relocated_if live (relocated_at place i r s)) (relocated_in live place i rs ss)
    (if_all live (IsOf place i) (relocated_at place i r s) (refl, refl)) (in_section live place i rs ss)

same_piece : (pieces : List PieceOf) (r q : WasmRelocation) (s t : Site) → IsSite pieces r s → IsSite pieces q t → s.unit ≡ t.unit → LiesBefore r q
    → s.position + field_len (field_form r.ty) ≤ t.position
same_piece pieces r q s t a b e before =
    let there : slice_get pieces t.unit ≡ Some a.piece = subst (λ (n : ℕ). slice_get pieces n ≡ Some a.piece) e a.here in
    let here : slice_get pieces t.unit ≡ Some b.piece = b.here in
    let same : a.piece ≡ b.piece = cc in
    let place : (a.piece).place ≡ (b.piece).place = ap (λ (p : PieceOf). p.place) same in
    let one : (a.piece).place + s.position ≡ r.offset = a.place in
    let two : (b.piece).place + t.position ≡ q.offset = b.place in
    omega (arith, place, one, two, before)

-- the first field ends before each of these
later_here : (live : Live) (place : FixupPlace) (i : ℕ) (pieces : List PieceOf) (r : WasmRelocation) (s : Site) (rs : List WasmRelocation) (ss : List Site)
    → IsSite pieces r s → AreSites pieces rs ss → AllByRecursion (LiesBefore r) rs
    → AllByRecursion (EndsBefore (relocated_at place i r s)) (relocated_in live place i rs ss)
later_here live place i pieces r s [] ss a b p = tt
later_here live place i pieces r s (q ∷ rs) [] a b p = tt
later_here live place i pieces r s (q ∷ rs) (t ∷ ss) a b p =
    all_append (EndsBefore (relocated_at place i r s)) (relocated_if live (relocated_at place i q t)) (relocated_in live place i rs ss)
    (if_all live (EndsBefore (relocated_at place i r s)) (relocated_at place i q t) (λ o pl e. same_piece pieces r q s t a b.0 e p.0))
    (later_here live place i pieces r s rs ss a b.1 p.1)

-- the same by recursion
apart_first : (r : WasmRelocation) (rs : List WasmRelocation) → AreApart (r ∷ rs) → AllByRecursion (LiesBefore r) rs
apart_first r rs h = at rs (λ k d lt. h zero (suc k) d (omega arith) (omega (arith, lt)))
  where
    at : (qs : List WasmRelocation) → ((k : ℕ) (d : WasmRelocation) → k < length qs → LiesBefore r (slice_index_or qs k d)) → AllByRecursion (LiesBefore r) qs
    at [] f = tt
    at (q ∷ qs) f = (f zero q (omega arith), at qs (λ k d lt. f (suc k) d (omega (arith, lt))))

apart_rest : (r : WasmRelocation) (rs : List WasmRelocation) → AreApart (r ∷ rs) → AreApart rs
apart_rest r rs h i j d lt within = h (suc i) (suc j) d (omega (arith, lt)) (omega (arith, within))

section_later : (live : Live) (place : FixupPlace) (i : ℕ) (pieces : List PieceOf) (rs : List WasmRelocation) (ss : List Site) → AreSites pieces rs ss → AreApart rs
    → AllLater EndsBefore (relocated_in live place i rs ss)
section_later live place i pieces [] ss a p = tt
section_later live place i pieces (r ∷ rs) [] a p = tt
section_later live place i pieces (r ∷ rs) (s ∷ ss) a p =
    let one : Relocated = relocated_at place i r s in
    later_append EndsBefore (relocated_if live one) (relocated_in live place i rs ss) (if_later live EndsBefore one)
    (section_later live place i pieces rs ss a.1 (apart_rest r rs p))
    (if_all live (λ (x : Relocated). AllByRecursion (EndsBefore x) (relocated_in live place i rs ss)) one (later_here live place i pieces r s rs ss a.0 a.1 (apart_first r rs p)))

-- ---- objects

-- whole objects are fitting
pub all_fitting : ((o : Object) → IsWhole o → IsFitting o) → (objects : List Object)
    → AllByRecursion IsWhole objects → AllByRecursion IsFitting objects
all_fitting fits [] whole = tt
all_fitting fits (o ∷ objects) whole = (fits o whole.0, all_fitting fits objects whole.1)

not_both : (p q : FixupPlace) → p ≡ Code → q ≡ Segment → p ≡ q → ⊥
not_both p q a b e = let bad : Code ≡ Segment = sym a ∙ e ∙ b in absurd (cc bad)

cross : (live : Live) (i : ℕ) (xs ys : List Relocated) → AllByRecursion (IsOf Code i) xs → AllByRecursion (IsOf Segment i) ys → AllByRecursion (λ (x : Relocated). AllByRecursion (EndsBefore x) ys) xs
cross live i xs ys p q =
    all_map (IsOf Code i) (λ (x : Relocated). AllByRecursion (EndsBefore x) ys) xs
    (λ x a. all_map (IsOf Segment i) (EndsBefore x) ys (λ y b o e u. absurd (not_both x.place y.place a.0 b.0 e)) q) p

pub object_later : (live : Live) (i : ℕ) (o : Object) → IsFitting o → AllLater EndsBefore (object_relocations live i o)
object_later live i o fit =
    let code = relocated_in live Code i o.code_relocations o.code_sites in
    let segment = relocated_in live Segment i o.data_relocations o.data_sites in
    later_append EndsBefore code segment
    (section_later live Code i (code_pieces o) o.code_relocations o.code_sites (fit.code).sited (fit.code).apart)
    (section_later live Segment i (data_pieces o) o.data_relocations o.data_sites (fit.data_).sited (fit.data_).apart)
    (cross live i code segment (in_section live Code i o.code_relocations o.code_sites) (in_section live Segment i o.data_relocations o.data_sites))

of_object : (live : Live) (i : ℕ) (o : Object) → AllByRecursion (λ (r : Relocated). r.object ≡ i) (object_relocations live i o)
of_object live i o =
    all_append (λ (r : Relocated). r.object ≡ i) (relocated_in live Code i o.code_relocations o.code_sites) (relocated_in live Segment i o.data_relocations o.data_sites)
    (all_map (IsOf Code i) (λ (r : Relocated). r.object ≡ i) _ (λ r a. a.1) (in_section live Code i o.code_relocations o.code_sites))
    (all_map (IsOf Segment i) (λ (r : Relocated). r.object ≡ i) _ (λ r a. a.1) (in_section live Segment i o.data_relocations o.data_sites))

behind : (live : Live) (i : ℕ) (objects : List Object) → AllByRecursion (λ (r : Relocated). i ≤ r.object) (relocations_from live i objects)
behind live i [] = tt
behind live i (o ∷ objects) =
    all_append (λ (r : Relocated). i ≤ r.object) (object_relocations live i o) (relocations_from live (i + 1) objects)
    (all_map (λ (r : Relocated). r.object ≡ i) (λ (r : Relocated). i ≤ r.object) (object_relocations live i o) (λ r e. omega (arith, e)) (of_object live i o))
    (all_map (λ (r : Relocated). i + 1 ≤ r.object) (λ (r : Relocated). i ≤ r.object) (relocations_from live (i + 1) objects) (λ r le. omega (arith, le)) (behind live (i + 1) objects))

pub all_later : (live : Live) (i : ℕ) (objects : List Object) → AllByRecursion IsFitting objects → AllLater EndsBefore (relocations_from live i objects)
all_later live i [] fit = tt
all_later live i (o ∷ objects) fit =
    let own = object_relocations live i o in
    let rest = relocations_from live (i + 1) objects in
    later_append EndsBefore own rest (object_later live i o fit.0) (all_later live (i + 1) objects fit.1)
    (all_map (λ (r : Relocated). r.object ≡ i) (λ (x : Relocated). AllByRecursion (EndsBefore x) rest) own
    (λ x e. all_map (λ (r : Relocated). i + 1 ≤ r.object) (EndsBefore x) rest (λ y le o pl u. absurd (omega (arith, e, le, o))) (behind live (i + 1) objects)) (of_object live i o))
