-- What spells a line, and what a listing is.
use Rattle.std.specs.Prelude.{◌≡◌, ◌≢◌, ℕ, ◌+◌, ◌==◌, List, [], ◌∷◌, ◌++◌, if◌then◌else◌, length, Result, Ok, Err, IfOk, IfErr, ⊤}
use Rattle.std.specs.List.{flat_map, AllByRecursion}
use Rattle.wl_check.specs.declared.line.Line.{Line}
use Rattle.wl_check.specs.declared.line.Line.TheVariants.{Version, OutputType, Import, Function, Body, Global, Memory, Table, Slot, Segment, Export, Start, Fix, Feature, Debug, End}
use Rattle.wl_check.specs.declared.line.FunctionSource.{FunctionSource}
use Rattle.wl_check.specs.declared.line.FunctionSource.TheVariants as source
use Rattle.wl_check.specs.declared.listing.ListingError.{ListingError}
use Rattle.wl_check.specs.declared.listing.ListingError.TheVariants.{OutOfMemory, Bad}
use Rattle.wl_check.specs.Texts.{newline, line_text}
use Rattle.wl_check.specs.Ranges.{InRange}

-- x spells the line: it is its text, with its line end, and the line's numbers are in range
pub record Spelled (x : List ℕ) (l : Line) : Type 0 where
  pub in_range : InRange l
  pub text : x ≡ line_text l

-- the text is the lines' spellings, one after the other
pub record IsListing (lines : List Line) (text : List ℕ) : Type 0 where
  pub in_range : AllByRecursion InRange lines
  pub joined : text ≡ flat_map line_text lines

-- the front of a text up to its first line end, or to the text's end
abbrev pub first_stretch : List ℕ → List ℕ
first_stretch [] = []
first_stretch (b ∷ bytes) = b ∷ (if b == newline then [] else first_stretch bytes)

-- The stretch of that number, from 0, is the first that spells no line: so many lines stand in
-- front of it.
pub record IsBadLine (text : List ℕ) (n : ℕ) : Type 0 where
  pub lines : List Line
  pub front : List ℕ
  pub rest : List ℕ
  pub parts : text ≡ front ++ rest
  pub before : IsListing lines front
  pub count : length lines ≡ n
  pub some : rest ≢ []
  pub bad : (l : Line) → ¬ Spelled (first_stretch rest) l

-- an error has its cause, unless memory ran out
abbrev pub HasListingFault : List ℕ → ListingError → Type 0
HasListingFault text OutOfMemory = ⊤
HasListingFault text (Bad line) = IsBadLine text line

-- what was answered, seen by view, is this, unless memory ran out
abbrev pub AnswersListing : {X : Type 0} → (X → List Line) → Result X ListingError
    → Result (List Line) ListingError → Type 0
AnswersListing view (Ok x) want = want ≡ Ok (view x)
AnswersListing view (Err OutOfMemory) want = ⊤
AnswersListing view (Err (Bad line)) want = want ≡ Err (Bad line)

-- What reading a listing has answered, seen by view: the lines exactly where the text is their
-- spellings, and the bad line exactly where there is one, unless memory ran out.
pub record ReadsListing {X : Type 0} (view : X → List Line) (text : List ℕ)
    (result : Result X ListingError) : Type 0 where
  pub sound : IfOk result (λ x. IsListing (view x) text)
  pub only : (lines : List Line) → IsListing lines text → AnswersListing view result (Ok lines)
  pub fault : IfErr result (HasListingFault text)
  pub why : (n : ℕ) → IsBadLine text n → AnswersListing view result (Err (Bad n))

-- ---- how much memory lines take

-- the bytes of the names in where a function is from
abbrev pub source_bytes : FunctionSource → ℕ
source_bytes (source.Object object unit) = 0
source_bytes (source.Made made) = 0
source_bytes (source.Stub name) = length name
source_bytes (source.Wrap name) = length name

-- the bytes of a line's names and bodies, and the types that it lists
abbrev pub name_bytes : Line → ℕ
name_bytes Version = 0
name_bytes (OutputType index ty) = length ty.params + length ty.results
name_bytes (Import origin name what) = length origin + length name
name_bytes (Function index type_index from) = source_bytes from
name_bytes (Body index bytes) = length bytes
name_bytes (Global index ty init from) = length init
name_bytes (Memory m) = 0
name_bytes (Table minimum) = 0
name_bytes (Slot slot function) = 0
name_bytes (Segment index object unit goes len) = 0
name_bytes (Export name kind index) = length name
name_bytes (Start function) = 0
name_bytes (Fix f) = 0
name_bytes (Feature name) = length name
name_bytes (Debug object name len) = length name
name_bytes End = 0
