-- What a session holds follows its objects, and what it refuses has its cause.
use Rattle.std.proofs.Common.{◌≡◌, ◌∙◌, ℕ, zero, suc, List, [], ◌∷◌, ◌++◌, length, set, refl, sym, ap, subst}
use Rattle.std.specs.List.{AllByRecursion}
use Rattle.std.specs.Prelude.{IfErr, IfOk, Result, Ok, Err}
use Rattle.wl_bytes.specs.Outcome.{HasCause}
use Rattle.wl_bytes.specs.declared.read_error.ReadError.{ReadError}
use Rattle.wl_bytes.specs.declared.read_error.ReadError.TheVariants as read
use Rattle.wl_linking.specs.Object.{Object}
use Rattle.wl_linking.specs.Fitting.{IsObject, IsWhole, ObjectFault}
use Rattle.wl_linking.specs.Steps.{Clear, Refuses}
use Rattle.wl_linking.specs.declared.error.LinkError.{LinkError}
use Rattle.wl_linking.specs.declared.error.LinkError.TheVariants.{OutOfMemory, Malformed, Unsupported}
use Rattle.wl_symbols.specs.Link.{link_of}
use Rattle.wl_symbols.specs.Repeats.{IsDuplicate}
use Rattle.wl_words.specs.declared.args.WasmArgs.{WasmArgs}
use Rattle.wl_session.specs.After.{Replacement, after}
use Rattle.wl_plan.specs.Faults.{link_fault}
use Rattle.wl_plan.specs.LinkPlan.{HasLinkFault, IsLinkPlan, IsPlanOf}
use Rattle.wl_plan.specs.declared.layout.LinkPlan.{LinkPlan}
use Rattle.wl_plan.specs.Objects.{AreObjects}
use Rattle.wl_plan.specs.steps.Parsing.{link_error_of}
use Rattle.wl_plan.specs.Session.{Held, held_of, bytes_of, holding, IsBadBytes, IsReplaced, AreReplaced}
use Rattle.wl_plan.proofs.LinkLaws.{link_err, link_ok}
use Rattle.wl_plan.proofs.UniqueFiles.{OneObject, ObjectOrFault, files_one}
use Rattle.wl_linking.proofs.StepLaws.{refuses_for, refuses_here, refuses_memory}

-- ---- the bytes of objects

bytes_pushed : (files : List Object) (o : Object)
    → bytes_of (files ++ o ∷ []) ≡ bytes_of files ++ o.bytes ∷ []
bytes_pushed [] o = refl
bytes_pushed (x ∷ files) o = ap (λ (bs : List (List ℕ)). x.bytes ∷ bs) (bytes_pushed files o)

bytes_replaced : (files : List Object) (k : ℕ) (o : Object)
    → bytes_of (set files k o) ≡ set (bytes_of files) k o.bytes
bytes_replaced [] k o = refl
bytes_replaced (x ∷ files) zero o = refl
bytes_replaced (x ∷ files) (suc k) o =
    ap (λ (bs : List (List ℕ)). x.bytes ∷ bs) (bytes_replaced files k o)

pub bytes_as_many : (files : List Object) → length (bytes_of files) ≡ length files
bytes_as_many [] = refl
bytes_as_many (x ∷ files) = ap suc (bytes_as_many files)

-- objects that are whole are those of their bytes
pub objects_of_bytes : (files : List Object) → AllByRecursion IsWhole files
    → AreObjects files (bytes_of files)
objects_of_bytes [] whole = tt
objects_of_bytes (o ∷ files) whole = (whole.0.object, objects_of_bytes files whole.1)

-- ---- what is held

-- the object of some bytes has these bytes
bytes_are : (o : Object) (bytes : List ℕ) → IsObject o bytes → o.bytes ≡ bytes
bytes_are o bytes is = ap (λ (x : Object). x.bytes) is.items.items

pub one_more_held : (held : Held) (files : List Object) (args : WasmArgs) (o : Object)
    (bytes : List ℕ) → held_of files args ≡ held → IsObject o bytes
    → held_of (files ++ o ∷ []) args ≡ holding held (held.objects ++ bytes ∷ [])
one_more_held held files args o bytes is object =
    rw (← is, bytes_pushed files o, bytes_are o bytes object) refl

pub one_replaced_held : (held : Held) (files : List Object) (args : WasmArgs) (k : ℕ) (o : Object)
    (bytes : List ℕ) → held_of files args ≡ held → IsObject o bytes
    → held_of (set files k o) args ≡ holding held (set held.objects k bytes)
one_replaced_held held files args k o bytes is object =
    rw (← is, bytes_replaced files k o, bytes_are o bytes object) refl

pub held_as_many : (held : Held) (files : List Object) (args : WasmArgs) → held_of files args ≡ held
    → length held.objects ≡ length files
held_as_many held files args is = rw (← is) (bytes_as_many files)

-- ---- refusals

pub bad_bytes : (place : ℕ) (bytes : List ℕ) (e : ReadError) → HasCause (λ e. ObjectFault e bytes) e
    → Refuses (IsBadBytes place bytes) (link_error_of place e)
bad_bytes place bytes read.OutOfMemory f = refuses_memory (IsBadBytes place bytes) OutOfMemory refl
bad_bytes place bytes (read.Malformed why) f =
    refuses_for (IsBadBytes place bytes) (Malformed place why) (refl, f)
bad_bytes place bytes (read.Unsupported form) f =
    refuses_for (IsBadBytes place bytes) (Unsupported place form) (refl, f)

not_bad_bytes : ObjectOrFault → (place : ℕ) (bytes : List ℕ) (o : Object) (e : LinkError)
    → IsObject o bytes → IsBadBytes place bytes e → ⊥
not_bad_bytes either place bytes o (Malformed object why) is bad =
    either bytes o (read.Malformed why) is bad.1
not_bad_bytes either place bytes o (Unsupported object form) is bad =
    either bytes o (read.Unsupported form) is bad.1
not_bad_bytes either place bytes o _ is bad = bad

-- bytes that are an object aren't refused
pub no_bad_bytes : ObjectOrFault → (place : ℕ) (bytes : List ℕ) (o : Object) → IsObject o bytes
    → Clear (IsBadBytes place bytes)
no_bad_bytes either place bytes o is = record {
  none = λ e bad. not_bad_bytes either place bytes o e is bad;
}

-- ---- plans

pub session_ok : (held : Held) (kept files : List Object) (args : WasmArgs)
    (r : Result LinkPlan LinkError) → held_of kept args ≡ held → files ≡ kept
    → AllByRecursion IsWhole files → IfOk r (IsPlanOf (link_of files args))
    → IfOk r (IsLinkPlan held.objects held.args)
session_ok held kept files args r is same whole h =
    rw (← is, ← same) (link_ok (bytes_of files) args files r (objects_of_bytes files whole) h)

-- whatever the objects of these bytes are called, the plan is theirs
pub session_planned : OneObject → (held : Held) (kept files : List Object) (args : WasmArgs)
    (r : Result LinkPlan LinkError) → held_of kept args ≡ held → files ≡ kept
    → AllByRecursion IsWhole files → IfOk r (IsPlanOf (link_of files args))
    → IfOk r (λ plan. (others : List Object) → AreObjects others held.objects
    → IsPlanOf (link_of others held.args) plan)
session_planned one held kept files args (Ok plan) is same whole h = λ others objects.
    let theirs : AreObjects others (bytes_of files) =
    subst (λ (x : Held). AreObjects others x.objects) (sym is ∙ ap (λ (fs : List Object). held_of fs args) (sym same)) objects in
    let alike : files ≡ others = files_one one files others (bytes_of files) (objects_of_bytes files whole) theirs in
    subst (λ (a : WasmArgs). IsPlanOf (link_of others a) plan) (ap (λ (x : Held). x.args) is)
    (subst (λ (fs : List Object). IsPlanOf (link_of fs args) plan) alike h)
session_planned one held kept files args (Err e) is same whole h = tt

-- what is kept are the objects of the bytes that are held
pub held_objects : (held : Held) (kept files : List Object) (args : WasmArgs)
    → held_of kept args ≡ held → files ≡ kept → AllByRecursion IsWhole files
    → AreObjects files held.objects
held_objects held kept files args is same whole =
    rw (← is, ← same) (objects_of_bytes files whole)

pub session_err : (held : Held) (kept files : List Object) (args : WasmArgs)
    (r : Result LinkPlan LinkError) → held_of kept args ≡ held → files ≡ kept
    → AllByRecursion IsWhole files → IfErr r (Refuses (link_fault (link_of files args)))
    → IfErr r (Refuses (HasLinkFault held.objects held.args))
session_err held kept files args r is same whole h =
    rw (← is, ← same) (link_err (bytes_of files) args files r (objects_of_bytes files whole) h)

-- a step refuses the link of the objects
pub session_refuses : (held : Held) (kept files : List Object) (args : WasmArgs) (e : LinkError)
    → held_of kept args ≡ held → files ≡ kept → AllByRecursion IsWhole files
    → Refuses (link_fault (link_of files args)) e
    → Refuses (HasLinkFault held.objects held.args) e
session_refuses held kept files args e is same whole h =
    let failed : Result LinkPlan LinkError = Err e in
    session_err held kept files args failed is same whole h

-- the names of the objects refuse
pub session_repeats : (held : Held) (kept files : List Object) (args : WasmArgs) (e : LinkError)
    → held_of kept args ≡ held → files ≡ kept → AllByRecursion IsWhole files
    → Refuses (IsDuplicate files) e → Refuses (HasLinkFault held.objects held.args) e
session_repeats held kept files args e is same whole h =
    session_refuses held kept files args e is same whole (refuses_here (IsDuplicate files) _ e h)

-- ---- replacements

pub replaced_in_order : (old new : Held) (done : List (Replacement (List ℕ)))
    → AreReplaced old done new → new ≡ holding old (after old.objects done)
replaced_in_order old new [] same = same
replaced_in_order old new (r ∷ done) h =
    let next : Held = h.0 in
    let one : IsReplaced old r next = h.1 in
    replaced_in_order next new done h.2
    ∙ ap (λ (x : Held). holding x (after x.objects done)) one.changed
