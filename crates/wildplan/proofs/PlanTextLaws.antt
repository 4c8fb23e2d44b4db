-- What is written of a plan, from the objects that were read, and from a session of them.
use Rattle.std.proofs.Common.{◌≡◌, ◌∙◌, ℕ, List, [], inr, sym, ap, subst}
use Rattle.wl_linking.specs.Object.{Object}
use Rattle.wl_linking.specs.Steps.{Refuses}
use Rattle.wl_linking.specs.declared.error.LinkError.{LinkError}
use Rattle.wl_symbols.specs.Link.{link_of}
use Rattle.wl_words.specs.declared.args.WasmArgs.{WasmArgs}
use Rattle.wl_words.specs.declared.replacing.ObjectReplacement.{ObjectReplacement}
use Rattle.wl_plan.specs.Faults.{link_fault}
use Rattle.wl_plan.specs.LinkPlan.{IsPlanOf, HasLinkFault}
use Rattle.wl_plan.specs.Objects.{AreObjects, IsBadObject}
use Rattle.wl_plan.specs.Session.{Held}
use Rattle.wl_plan.specs.declared.layout.LinkPlan.{LinkPlan}
use Rattle.wildplan.specs.Modes.{IsTextOf, IsPlanText}
use Rattle.wildplan.specs.Objects.{inputs_read, text_in}
use Rattle.wildplan.specs.Replacing.{PlanInputs, AreSound, HasPlanFault, object, planned, replacements_of, objects_after}
use Rattle.wildplan.specs.declared.inputs.Inputs.{Inputs}

-- what was read, for these replacements
abbrev read_for : Inputs → List ObjectReplacement → PlanInputs
read_for read rs = record { objects = read.objects; replacing = replacements_of rs read.replacing; compared = text_in read.compared }

-- ---- where nothing is replaced

abbrev sound_alone : (read : Inputs) (files : List Object) → AreObjects files read.objects → AreSound (read_for read [])
sound_alone read files grammar = record { files = files; objects = grammar; replacing = tt }

pub objects_answer : (words : List (List ℕ)) (args : WasmArgs) (read : Inputs) (files : List Object) (plan : LinkPlan) (text : List ℕ) → args.replacements ≡ [] → AreObjects files read.objects → IsPlanOf (link_of files args) plan → IsTextOf words (text_in read.compared) args.mode (link_of files args) plan text → IsPlanText words (inputs_read args read) args text
objects_answer words args read files plan text none grammar is_plan is_text =
    subst (λ (rs : List ObjectReplacement). IsPlanText words (read_for read rs) args text) (sym none) (record {
      sound = sound_alone read files grammar;
      plan = plan;
      is_plan = record { files = files; grammar = grammar; planned = is_plan };
      is_text = is_text;
    })

pub objects_refused : (args : WasmArgs) (read : Inputs) (e : LinkError) → Refuses (IsBadObject read.objects) e → Refuses (HasPlanFault (inputs_read args read) args) e
objects_refused args read e h = record { cause_is = λ other. object (h.cause_is other) }

pub plan_refused : (args : WasmArgs) (read : Inputs) (files : List Object) (e : LinkError) → args.replacements ≡ [] → AreObjects files read.objects → Refuses (link_fault (link_of files args)) e → Refuses (HasPlanFault (inputs_read args read) args) e
plan_refused args read files e none grammar h =
    subst (λ (rs : List ObjectReplacement). Refuses (HasPlanFault (read_for read rs) args) e) (sym none)
    (record { cause_is = λ other. planned (sound_alone read files grammar) (inr (files, grammar, h.cause_is other)) })

-- ---- where some are

-- what the session holds
abbrev pub HoldsAfter : Held → WasmArgs → Inputs → Type 0
HoldsAfter held args read = held ≡ record { objects = objects_after (inputs_read args read); args = args }

pub replaced_plan : (args : WasmArgs) (read : Inputs) (held : Held) (files : List Object) (plan : LinkPlan) → HoldsAfter held args read → IsPlanOf (link_of files held.args) plan → IsPlanOf (link_of files args) plan
replaced_plan args read held files plan is h = subst (λ (a : WasmArgs). IsPlanOf (link_of files a) plan) (ap (λ (x : Held). x.args) is) h

pub replaced_answer : (words : List (List ℕ)) (args : WasmArgs) (read : Inputs) (held : Held) (files : List Object) (plan : LinkPlan) (text : List ℕ) → HoldsAfter held args read → AreSound (inputs_read args read) → AreObjects files held.objects → IsPlanOf (link_of files args) plan → IsTextOf words (text_in read.compared) args.mode (link_of files args) plan text → IsPlanText words (inputs_read args read) args text
replaced_answer words args read held files plan text is sound grammar is_plan is_text = record {
  sound = sound;
  plan = plan;
  is_plan = record { files = files; grammar = subst (λ (x : Held). AreObjects files x.objects) is grammar; planned = is_plan };
  is_text = is_text;
}

pub replaced_refused : (args : WasmArgs) (read : Inputs) (held : Held) (e : LinkError) → HoldsAfter held args read → AreSound (inputs_read args read) → Refuses (HasLinkFault held.objects held.args) e → Refuses (HasPlanFault (inputs_read args read) args) e
replaced_refused args read held e is sound h = record {
  cause_is = λ other. planned sound (subst (λ (x : Held). HasLinkFault x.objects x.args e) is (h.cause_is other));
}

-- what refuses for want of memory alone refuses nothing
pub never_refused : (args : WasmArgs) (read : Inputs) (e : LinkError) → Refuses (λ _. ⊥) e → Refuses (HasPlanFault (inputs_read args read) args) e
never_refused args read e h = record { cause_is = λ other. absurd (h.cause_is other) }
