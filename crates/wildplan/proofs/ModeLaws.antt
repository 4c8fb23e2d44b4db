-- Objects that are generated, where no word names one.
use Rattle.std.proofs.Common.{◌≡◌, ◌≤◌, ◌<◌, ℕ, List, [], ◌∷◌, length, Bool, None, Some, true, false, if◌then◌else◌, nat_le, codes, All, refl, ap, subst, ◌∙◌, arith}
use Rattle.wl_files.specs.Files.{FilesState}
use Rattle.wl_words.specs.Args.{IsArgs, WholeFault}
use Rattle.wl_words.specs.Modes.{generates}
use Rattle.wl_linking.specs.Steps.{Refuses}
use Rattle.wl_linking.specs.declared.error.LinkError.{LinkError}
use Rattle.wl_words.specs.declared.args.WasmArgs.{WasmArgs}
use Rattle.wl_words.specs.declared.modes.Mode.TheVariants.{Generate}
use Rattle.wl_words.specs.declared.error.ArgError.{ArgError}
use Rattle.wl_words.specs.declared.error.ArgError.TheVariants.{ExtraInput}
use Rattle.wl_generate.specs.Generated.{generated}
use Rattle.wl_words.specs.declared.replacing.ObjectReplacement.{ObjectReplacement}
use Rattle.wildplan.specs.Modes.{with_entry, planned_args, IsPlanText}
use Rattle.wildplan.specs.Objects.{AreReadThrough, AreInputsFor, inputs_read, text_in}
use Rattle.wildplan.specs.Replacing.{PlanInputs, HasPlanFault, replacements_of}
use Rattle.wildplan.specs.declared.inputs.Inputs.{Inputs}
use Rattle.wildplan.proofs.Gathering.{InputsOf}

-- no word names an object or a replacement
none_given : (args : WasmArgs) (count : ℕ) (inputs : List ℕ) (rs : List ObjectReplacement) → args.mode ≡ Generate count → args.inputs ≡ inputs → args.replacements ≡ rs → ((e : ArgError) → WholeFault args e → ⊥) → (inputs ≡ []) × (rs ≡ [])
none_given args count [] [] mode is all sound = (refl, refl)
none_given args count (x ∷ xs) [] mode is all sound = absurd (sound (ExtraInput x) (rw (mode, is, all) refl))
none_given args count [] (r ∷ rs) mode is all sound = absurd (sound (ExtraInput r.place.word) (rw (mode, is, all) refl))
none_given args count (x ∷ xs) (r ∷ rs) mode is all sound = absurd (sound (ExtraInput (if nat_le x r.place.word then x else r.place.word)) (rw (mode, is, all) refl))

abbrev given_none : (words : List (List ℕ)) (args : WasmArgs) (count : ℕ) → IsArgs words args → args.mode ≡ Generate count → (args.inputs ≡ []) × (args.replacements ≡ [])
given_none words args count h mode = none_given args count args.inputs args.replacements mode refl refl h.sound

-- no file is read
read_none : (old : FilesState) → AreReadThrough [] old old []
read_none old = record {
  read = tt;
  last = refl;
  clean = refl;
  unfailed = λ some. absurd (some refl);
  given = λ bytes is. absurd cc;
  untouched = λ none. refl;
}

pub generated_for : (words : List (List ℕ)) (args : WasmArgs) (count : ℕ) (old : FilesState) (objects : List (List ℕ)) → IsArgs words args → args.mode ≡ Generate count → objects ≡ generated count → AreInputsFor words args old old (InputsOf args objects [] None)
generated_for words args count old objects h mode are =
    let none = given_none words args count h mode in
    record {
      contents = [];
      front = rw none.0 tt;
      replacing = [];
      behind = rw none.1 tt;
      compared = None;
      read = rw (none.0, none.1, mode) (read_none old);
      are = rw (mode, are) refl;
    }

pub generated_many : (words : List (List ℕ)) (args : WasmArgs) (count n : ℕ) → IsArgs words args → args.mode ≡ Generate count → length args.inputs ≤ n
generated_many words args count n h mode = rw (given_none words args count h mode).0 (omega arith)

-- what isn't false is true
pub is_work : (work : Bool) → (work ≡ false → ⊥) → work ≡ true
is_work true some = refl
is_work false some = absurd (some refl)

-- ---- the words that are planned

-- they ask for the same replacements
pub same_replacements : (args : WasmArgs) → (planned_args args).replacements ≡ args.replacements
same_replacements args = by (generates args.mode)
  where
    by : (b : Bool) → (if b then with_entry (Some (codes "f0")) args else args).replacements ≡ args.replacements
    by true = refl
    by false = refl

same_inputs : (args planned : WasmArgs) (read : Inputs) → planned ≡ planned_args args → inputs_read planned read ≡ inputs_read args read
same_inputs args planned read is =
    ap (λ (rs : List ObjectReplacement). record { objects = read.objects; replacing = replacements_of rs read.replacing; compared = text_in read.compared }) (ap (λ (a : WasmArgs). a.replacements) is ∙ same_replacements args)

pub planned_answer : (words : List (List ℕ)) (args planned : WasmArgs) (read : Inputs) (text : List ℕ) → planned ≡ planned_args args → IsPlanText words (inputs_read planned read) planned text → IsPlanText words (inputs_read args read) (planned_args args) text
planned_answer words args planned read text is h =
    subst (λ (a : WasmArgs). IsPlanText words (inputs_read args read) a text) is
    (subst (λ (i : PlanInputs). IsPlanText words i planned text) (same_inputs args planned read is) h)

pub planned_refusal : (args planned : WasmArgs) (read : Inputs) (e : LinkError) → planned ≡ planned_args args → Refuses (HasPlanFault (inputs_read planned read) planned) e → Refuses (HasPlanFault (inputs_read args read) (planned_args args)) e
planned_refusal args planned read e is h =
    subst (λ (a : WasmArgs). Refuses (HasPlanFault (inputs_read args read) a) e) is
    (subst (λ (i : PlanInputs). Refuses (HasPlanFault i planned) e) (same_inputs args planned read is) h)

-- each object that is replaced is there
pub all_below : (rs : List ObjectReplacement) (n m : ℕ) → n ≤ m → All (λ r. r.object < n) rs → All (λ r. r.object < m) rs
all_below rs n m le all = λ i d lt. omega (arith, le, all i d lt)
