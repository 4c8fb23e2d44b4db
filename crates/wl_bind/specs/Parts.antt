-- A space of the output is its parts, one after the other; the index of an entry is its place.
use Rattle.std.specs.Prelude.{◌≡◌, ◌≤◌, ◌<◌, ℕ, ◌+◌, ◌||◌, Bool, false, List, [], ◌∷◌, ◌++◌, map, length, nat_lt, if◌then◌else◌, Option, Some, None, unwrap_or, slice_get, ⊤}
use Rattle.std.specs.List.{AllZip}
use Rattle.wl_lists.specs.Rows as rows
use Rattle.wl_linking.specs.Object.{Object}
use Rattle.wl_linking.specs.declared.error.LinkError.{LinkError}
use Rattle.wl_linking.specs.declared.error.LinkError.TheVariants.{OutOfMemory, TooLarge}
use Rattle.wl_linking.specs.declared.error.Quantity.TheVariants.{Space}
use Rattle.wl_index.specs.declared.index.TheConstants.{WASM_DEAD_INDEX, MAX_ENTRIES}
use Rattle.wl_bind.specs.declared.parts.PartStarts.{PartStarts}

-- ---- parts

-- the lists, one after the other
abbrev pub joined : {X : Type 0} → List (List X) → List X
joined [] = []
joined (xs ∷ xss) = xs ++ joined xss

-- how many entries each part has
abbrev pub lengths_of : {X : Type 0} → List (List X) → List ℕ
lengths_of {X} parts = map (λ (part : List X). length part) parts

-- where parts of these lengths begin, the first at that place
abbrev pub starts_from : ℕ → List ℕ → List ℕ
starts_from n [] = []
starts_from n (len ∷ lengths) = n ∷ starts_from (n + len) lengths

-- how many entries parts of these lengths have together
abbrev pub total : List ℕ → ℕ
total [] = 0
total (len ∷ lengths) = len + total lengths

-- where each part begins, and where the last one ends; there is room for all of them
pub record AreStarts {X : Type 0} (parts : List (List X)) (s : PartStarts) : Type 0 where
  pub starts : s.starts ≡ starts_from 0 (lengths_of parts)
  pub end : s.end ≡ total (lengths_of parts)
  pub room : s.end ≤ MAX_ENTRIES

-- where a part begins; where the last one ends, after the last part
abbrev pub start_of : PartStarts → ℕ → ℕ
start_of s part = unwrap_or (slice_get s.starts part) s.end

-- where the one entry of a part stands, if it has one
abbrev pub single_of : PartStarts → ℕ → Option ℕ
single_of s part =
    if nat_lt (start_of s part) (start_of s (part + 1)) then Some (start_of s part) else None

-- the part has an entry of that place
abbrev pub HasEntry : PartStarts → ℕ → ℕ → Type 0
HasEntry s part place = start_of s part + place < start_of s (part + 1)

-- ---- entries

-- nothing stands at two places
abbrev pub StandOnce : {X : Type 0} → List X → Type 0
StandOnce {X} entries =
    (i k : ℕ) (x : X) → slice_get entries i ≡ Some x → slice_get entries k ≡ Some x → i ≡ k

-- the index of an entry is its place, and 4294967295 stands where there is none
abbrev pub IsIndexOf : {X : Type 0} → List X → Option X → ℕ → Type 0
IsIndexOf space None index = index ≡ WASM_DEAD_INDEX
IsIndexOf space (Some x) index = slice_get space index ≡ Some x

-- the indices of these entries, in order
abbrev pub AreIndicesOf : {X : Type 0} → List X → List (Option X) → List ℕ → Type 0
AreIndicesOf space entries indices = AllZip (IsIndexOf space) entries indices

-- the index of an entry is its place, and there is none where there is no entry
abbrev pub IsPlaceOf : {X : Type 0} → List X → Option X → Option ℕ → Type 0
IsPlaceOf space None place = place ≡ None
IsPlaceOf space (Some x) None = ⊥
IsPlaceOf space (Some x) (Some place) = slice_get space place ≡ Some x

-- the same of these entries, in order
abbrev pub ArePlacesOf : {X : Type 0} → List X → List (Option X) → List (Option ℕ) → Type 0
ArePlacesOf space entries places = AllZip (IsPlaceOf space) entries places

-- memory ran out, or there would be too many entries
abbrev pub IsOver : ℕ → LinkError → Type 0
IsOver count OutOfMemory = ⊤
IsOver count (TooLarge what) = (what ≡ Space) × (MAX_ENTRIES < count)
IsOver count _ = ⊥

-- ---- objects

-- each row is what it is to be of its object, the first of which has that number
abbrev pub AreRows : {X : Type 0} → (ℕ → Object → X → Type 0) → ℕ → List Object → List X → Type 0
AreRows IsRow = rows.AreRows IsRow

-- what each of these objects gives, one after the other, the first of which has that number
abbrev pub by_object : {X : Type 0} → (ℕ → Object → List X) → ℕ → List Object → List X
by_object f = rows.by_number f

-- one of these objects passes, the first of which has that number
abbrev pub any_object : (ℕ → Object → Bool) → ℕ → List Object → Bool
any_object passes object [] = false
any_object passes object (o ∷ objects) = passes object o || any_object passes (object + 1) objects
