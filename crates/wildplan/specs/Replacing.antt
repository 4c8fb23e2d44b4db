-- Objects, what replaces some of them, and why what they are then has no plan.
use Rattle.std.specs.Prelude.{◌⊎◌, ℕ, List, [], ◌∷◌, Option}
use Rattle.std.specs.List.{AllByRecursion}
use Rattle.wl_linking.specs.Object.{Object}
use Rattle.wl_linking.specs.Fitting.{IsObject}
use Rattle.wl_linking.specs.declared.error.LinkError.{LinkError}
use Rattle.wl_words.specs.declared.args.WasmArgs.{WasmArgs}
use Rattle.wl_words.specs.declared.modes.Mode.{Mode}
use Rattle.wl_words.specs.declared.modes.Mode.TheVariants as mode
use Rattle.wl_words.specs.declared.replacing.ObjectReplacement.{ObjectReplacement}
use Rattle.wl_generate.specs.Generated.{generated}
use Rattle.wl_session.specs.After.{Replacement, after}
use Rattle.wl_plan.specs.LinkPlan.{HasLinkFault}
use Rattle.wl_plan.specs.Objects.{AreObjects, IsBadObject}
use Rattle.wl_plan.specs.Session.{IsBadBytes}

-- the objects, what is put in the place of some, in order, and the text that is compared with the
-- listing, if one is
pub record PlanInputs : Type 0 where
  pub objects : List (List ℕ)
  pub replacing : List (Replacement (List ℕ))
  pub compared : Option (List ℕ)

-- the objects as they are once each replacement was done
abbrev pub objects_after : PlanInputs → List (List ℕ)
objects_after inputs = after inputs.objects inputs.replacing

-- the objects that are given: those that were read, or generated ones
abbrev pub objects_in : Mode → List (List ℕ) → List (List ℕ)
objects_in (mode.Generate count) read = generated count
objects_in _ read = read

-- each object that is to be replaced, with what the next file holds
abbrev pub replacements_of : List ObjectReplacement → List (List ℕ) → List (Replacement (List ℕ))
replacements_of [] contents = []
replacements_of (r ∷ replacements) [] = []
replacements_of (r ∷ replacements) (bytes ∷ contents) =
    record { place = r.object; item = bytes } ∷ replacements_of replacements contents

-- what is given by what was read: by the files of objects, by those that replace some, and by the
-- one that is compared
abbrev pub inputs_of : WasmArgs → List (List ℕ) → List (List ℕ) → Option (List ℕ) → PlanInputs
inputs_of args read replacing compared = record {
  objects = objects_in args.mode read;
  replacing = replacements_of args.replacements replacing;
  compared = compared;
}

-- what is put there is in the grammar
abbrev pub IsSoundReplacement : Replacement (List ℕ) → Type 0
IsSoundReplacement r = (o : Object) × IsObject o r.item

-- what one of these puts there isn't in the grammar; what those before it put there is
abbrev pub IsBadReplacement : List (Replacement (List ℕ)) → LinkError → Type 0
IsBadReplacement [] e = ⊥
IsBadReplacement (r ∷ done) e =
    IsBadBytes r.place r.item e ⊎ (IsSoundReplacement r × IsBadReplacement done e)

-- each object is in the grammar, also one that is replaced, and so is what replaces one, also where
-- it is replaced again
pub record AreSound (inputs : PlanInputs) : Type 0 where
  pub files : List Object
  pub objects : AreObjects files inputs.objects
  pub replacing : AllByRecursion IsSoundReplacement inputs.replacing

-- why there is no plan: an object isn't in the grammar; or all are, and what replaces one isn't; or
-- all of that is, and the objects have none once each replacement was done
pub data HasPlanFault (inputs : PlanInputs) (args : WasmArgs) (e : LinkError) : Type 0 where
  object : IsBadObject inputs.objects e → HasPlanFault inputs args e
  replacement : (files : List Object) → AreObjects files inputs.objects
      → IsBadReplacement inputs.replacing e → HasPlanFault inputs args e
  planned : AreSound inputs → HasLinkFault (objects_after inputs) args e
      → HasPlanFault inputs args e
