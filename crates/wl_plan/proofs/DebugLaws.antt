-- The debug sections of objects, one object after the other.
use Rattle.std.proofs.Common.{◌≡◌, ◌∙◌, ◌<◌, ◌+◌, ℕ, suc, List, ◌∷◌, ◌++◌, length, map, get_or, drop, sym, ap, add-one, drop-cons, append_assoc}
use Rattle.wl_custom.specs.Debug.{DebugInput}
use Rattle.wl_linking.specs.Object.{Object}
use Rattle.wl_plan.specs.Bodies.{object_debug_sections}
use Rattle.wl_plan.specs.BodySteps.{debug_in}

splits : (objects : List Object) (i : ℕ) (o : Object) → i < length objects → o ≡ get_or objects i o
    → drop i objects ≡ o ∷ drop (i + 1) objects
splits objects i o lt is =
    rw (add-one, drop-cons objects i o) (ap (λ (x : Object). x ∷ drop (suc i) objects) (sym is))

-- those of one more object
pub debug_on : (objects : List Object) (i : ℕ) (o : Object) (sections whole : List DebugInput)
    → i < length objects → o ≡ get_or objects i o
    → sections ++ object_debug_sections i (drop i objects) ≡ whole
    → (sections ++ map (debug_in i) o.debug_sections)
    ++ object_debug_sections (i + 1) (drop (i + 1) objects) ≡ whole
debug_on objects i o sections whole lt is h =
    append_assoc sections (map (debug_in i) o.debug_sections)
    (object_debug_sections (i + 1) (drop (i + 1) objects))
    ∙ sym (ap (λ (os : List Object). sections ++ object_debug_sections i os) (splits objects i o lt is))
    ∙ h
