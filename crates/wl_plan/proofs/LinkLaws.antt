-- From objects to a plan: bytes by their number, and the steps of a link.
use Rattle.std.proofs.Common.{◌≡◌, ◌<◌, ◌≤◌, ℕ, zero, suc, List, [], ◌∷◌, length, get_or, None, Some, refl, sym, ap, subst, arith, inr, slice_get, Vec, Global}
use Rattle.std.specs.List.{AllByRecursion}
use Rattle.std.specs.Prelude.{IfErr, IfOk, OnOk, Result, Ok, Err}
use Rattle.wl_linking.specs.Fitting.{IsWhole}
use Rattle.wl_linking.specs.Object.{Object}
use Rattle.wl_linking.specs.Steps.{Clear, Refuses, NoStep}
use Rattle.wl_linking.specs.declared.error.LinkError.{LinkError}
use Rattle.wl_symbols.specs.Link.{Link, link_of}
use Rattle.wl_symbols.specs.Repeats.{IsDuplicate}
use Rattle.wl_words.specs.declared.args.WasmArgs.{WasmArgs}
use Rattle.wl_features.specs.Taken.{AreTaken}
use Rattle.wl_features.specs.Faults.{IsBadFeature, IsConflict, IsSharedFault, feature_steps}
use Rattle.wl_live.specs.Entry.{IsEntryFault}
use Rattle.wl_live.specs.Faults.{IsKeptFault}
use Rattle.wl_symbols.specs.Live.{Live, IsLiveOf}
use Rattle.wl_symbols.specs.Input.{Input}
use Rattle.wl_plan.specs.BodySteps.{AreSoundBodies}
use Rattle.wl_plan.specs.Contents.{contents, AllWithin}
use Rattle.wl_plan.specs.Faults.{IsLaterFault, input_of, kept_fault, link_fault}
use Rattle.wl_plan.specs.LinkPlan.{HasLinkFault, IsLinkPlan, IsPlanOf}
use Rattle.wl_plan.specs.Objects.{AreObjects}
use Rattle.wl_plan.specs.Plan.{IsPlan}
use Rattle.wl_plan.specs.steps.Link.{AreClear}
use Rattle.wl_plan.specs.declared.layout.LinkPlan.{LinkPlan}
use Rattle.wl_plan.specs.declared.objects.TheConstants.{MAX_OBJECT}
use Rattle.wl_linking.proofs.StepLaws.{IsRow, clear_end, clear_step, refuses_behind, refuses_here, row_behind, row_clear, row_end, row_more}

-- ---- bytes by their number

pub content_at : (objects : List (Vec ℕ Global)) (i : ℕ) (d : Vec ℕ Global) → i < length objects
    → d ≡ get_or objects i d → slice_get (contents objects) i ≡ Some d.items
content_at [] i d lt is = absurd (omega arith)
content_at (o ∷ objects) zero d lt is = ap (λ (v : Vec ℕ Global). Some v.items) (sym is)
content_at (o ∷ objects) (suc i) d lt is = content_at objects i d (omega arith) is

pub content_past : (objects : List (Vec ℕ Global)) (i : ℕ) → length objects ≤ i
    → slice_get (contents objects) i ≡ None
content_past [] i le = refl
content_past (o ∷ objects) zero le = absurd (omega arith)
content_past (o ∷ objects) (suc i) le = content_past objects i (omega arith)

pub within_at : (objects : List (List ℕ)) (i : ℕ) (bytes : List ℕ) → AllWithin objects
    → slice_get objects i ≡ Some bytes → length bytes ≤ MAX_OBJECT
within_at [] i bytes h is = absurd cc
within_at (b ∷ objects) zero bytes h is = let same : b ≡ bytes = grind arith in rw (← same) h.0
within_at (b ∷ objects) (suc i) bytes h is = within_at objects i bytes h.1 is

-- ---- what is kept

abbrev pub OneLive : Type 0
OneLive = (link : Link) (a b : Live) → IsLiveOf link a → IsLiveOf link b → a ≡ b

pub later_clear : OneLive → (link : Link) (live : Live) → IsLiveOf link live
    → Clear (kept_fault (input_of link live)) → Clear (IsLaterFault link)
later_clear one link live kept clear = record {
  none = λ e h. clear.none e (subst (λ (l : Live). kept_fault (input_of link l) e)
      (one link h.live live h.kept kept) h.fault);
}

pub later_refuses : (link : Link) (live : Live) (e : LinkError) → IsLiveOf link live
    → Refuses (kept_fault (input_of link live)) e → Refuses (IsLaterFault link) e
later_refuses link live e kept h = record {
  cause_is = λ other. record { live = live; kept = kept; fault = h.cause_is other };
}

-- ---- the steps of a link

-- those by which features don't fit together
abbrev pub feature_row : Link → (LinkError → Type 0) → LinkError → Type 0
feature_row link rest = feature_steps link rest

pub feature_is_row : (link : Link) → IsRow (feature_row link)
feature_is_row link =
    row_more (IsBadFeature link.objects) _ (row_more (IsSharedFault link) _
    (row_more (IsConflict link) _ row_end))

-- the last step refuses
last_refuses : (link : Link) (e : LinkError) → AreClear link → Refuses (IsLaterFault link) e
    → Refuses (link_fault link) e
last_refuses link e clear h =
    refuses_behind (IsDuplicate link.objects) _ e clear.names
    (row_behind (feature_row link) (feature_is_row link) _ e clear.features
    (refuses_behind (IsEntryFault link) _ e clear.entry
    (refuses_behind (IsKeptFault link) _ e clear.kept
    (refuses_here (IsLaterFault link) NoStep e h))))

all_clear : (link : Link) → AreClear link → Clear (IsLaterFault link) → Clear (link_fault link)
all_clear link clear last =
    clear_step (IsDuplicate link.objects) _ clear.names
    (row_clear (feature_row link) (feature_is_row link) _ clear.features
    (clear_step (IsEntryFault link) _ clear.entry
    (clear_step (IsKeptFault link) _ clear.kept
    (clear_step (IsLaterFault link) NoStep last clear_end))))

-- ---- answers

pub plan_err : (link : Link) (live : Live) (r : Result LinkPlan LinkError) → AreClear link
    → IsLiveOf link live → IfErr r (Refuses (kept_fault (input_of link live)))
    → IfErr r (Refuses (link_fault link))
plan_err link live (Ok plan) clear kept h = tt
plan_err link live (Err e) clear kept h =
    last_refuses link e clear (later_refuses link live e kept h)

pub plan_ok : OneLive → (link : Link) (live : Live) (r : Result LinkPlan LinkError) → AreClear link
    → IsLiveOf link live → OnOk r (Clear (kept_fault (input_of link live)))
    → IfOk r (IsPlan (input_of link live)) → IfOk r (IsPlanOf link)
plan_ok one link live (Err e) clear kept last h = tt
plan_ok one link live (Ok plan) clear kept last h = record {
  clear = all_clear link clear (later_clear one link live kept last);
  live = live;
  kept = kept;
  is_plan = h;
}

-- ---- what a link and a live set are put together to

pub sound_by : (link : Link) (live : Live) (input : Input) → input ≡ input_of link live
    → AllByRecursion IsWhole link.objects → IsLiveOf link live → Clear (IsKeptFault link)
    → AreSoundBodies input
sound_by link live input same whole kept clear =
    subst (λ (x : Input). AreSoundBodies x) (sym same)
    (record { whole = whole; kept = kept; clear = clear })

pub features_by : (link : Link) (live : Live) (input : Input) (names : List (List ℕ))
    → input ≡ input_of link live → AreTaken link names → AreTaken input.link names
features_by link live input names same taken =
    subst (λ (x : Input). AreTaken x.link names) (sym same) taken

-- the features go by the objects and the words
pub taken_by : (link : Link) (objects : List Object) (args : WasmArgs) (names : List (List ℕ))
    → objects ≡ link.objects → args ≡ link.args → AreTaken (link_of objects args) names
    → AreTaken link names
taken_by link objects args names same words taken =
    let h = rw (same, words) at taken in
    record { all = h.all; no_other = h.no_other; ascending = h.ascending }

pub files_err : (link : Link) (live : Live) (input : Input) (r : Result LinkPlan LinkError)
    → input ≡ input_of link live → AreClear link → IsLiveOf link live
    → IfErr r (Refuses (kept_fault input)) → IfErr r (Refuses (link_fault link))
files_err link live input r same clear kept h =
    plan_err link live r clear kept
    (subst (λ (x : Input). IfErr r (Refuses (kept_fault x))) same h)

pub files_ok : OneLive → (link : Link) (live : Live) (input : Input)
    (r : Result LinkPlan LinkError) → input ≡ input_of link live → AreClear link
    → IsLiveOf link live → OnOk r (Clear (kept_fault input)) → IfOk r (IsPlan input)
    → IfOk r (IsPlanOf link)
files_ok one link live input r same clear kept last h =
    plan_ok one link live r clear kept
    (subst (λ (x : Input). OnOk r (Clear (kept_fault x))) same last)
    (subst (λ (x : Input). IfOk r (IsPlan x)) same h)

-- ---- answers for bytes

pub link_err : (objects : List (List ℕ)) (args : WasmArgs) (files : List Object)
    (r : Result LinkPlan LinkError) → AreObjects files objects
    → IfErr r (Refuses (link_fault (link_of files args))) → IfErr r (Refuses (HasLinkFault objects args))
link_err objects args files (Ok plan) are h = tt
link_err objects args files (Err e) are h = record {
  cause_is = λ other. inr (files, are, h.cause_is other);
}

pub link_ok : (objects : List (List ℕ)) (args : WasmArgs) (files : List Object)
    (r : Result LinkPlan LinkError) → AreObjects files objects
    → IfOk r (IsPlanOf (link_of files args)) → IfOk r (IsLinkPlan objects args)
link_ok objects args files (Err e) are h = tt
link_ok objects args files (Ok plan) are h = record { files = files; grammar = are; planned = h }
