-- What planning answers: the plan, or why there is none.
use Rattle.std.specs.Prelude.{◌⊎◌, ℕ, List}
use Rattle.wl_linking.specs.Object.{Object}
use Rattle.wl_linking.specs.declared.error.LinkError.{LinkError}
use Rattle.wl_words.specs.declared.args.WasmArgs.{WasmArgs}
use Rattle.wl_linking.specs.Steps.{Clear}
use Rattle.wl_symbols.specs.Link.{Link, link_of}
use Rattle.wl_symbols.specs.Live.{Live, IsLiveOf}
use Rattle.wl_plan.specs.Objects.{AreObjects, IsBadObject}
use Rattle.wl_plan.specs.Faults.{link_fault, input_of}
use Rattle.wl_plan.specs.Plan.{IsPlan}
use Rattle.wl_plan.specs.declared.layout.LinkPlan.{LinkPlan}

-- the plan of a link, to which no step has a cause: a unit is kept where collection is off, and
-- else exactly where a chain of references leads to it from a root
pub record IsPlanOf (link : Link) (plan : LinkPlan) : Type 0 where
  pub clear : Clear (link_fault link)
  pub live : Live
  pub kept : IsLiveOf link live
  pub is_plan : IsPlan (input_of link live) plan

-- the plan of the objects that these bytes are
pub record IsLinkPlan (objects : List (List ℕ)) (args : WasmArgs) (plan : LinkPlan) : Type 0 where
  pub files : List Object
  pub grammar : AreObjects files objects
  pub planned : IsPlanOf (link_of files args) plan

-- an object isn't in the grammar, or all are, and have no plan
abbrev pub HasLinkFault : List (List ℕ) → WasmArgs → LinkError → Type 0
HasLinkFault objects args e =
    IsBadObject objects e
    ⊎ ((files : List Object) × AreObjects files objects × link_fault (link_of files args) e)
