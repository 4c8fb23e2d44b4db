use Rattle.std.proofs.Common.{◌∙◌, not, ap, refl}
use Rattle.wl_bind.specs.FunctionSpace.{InitMemory, init_memory_part}
use Rattle.wl_bind.specs.OutputTypes.{output_types}
use Rattle.wl_plan.specs.Origins.{OfInitMemory}
use Rattle.wl_plan.proofs.FunctionLaws.{IsMadeHere, contains_in, init_here, no_init, none_is, one_is}
use Rattle.wl_plan.proofs.functions.init_memory_function.Goals as goal

pub returns-then-is_none : goal.returns-then-is_none
returns-then-is_none c = λ input b.
    none_is input (init_memory_part input)
    (no_init input c.init_memory.result (c.init_memory.ensures input b.indices)
    (c.is_none.ensures ∙ ap not c.if-is_none.true))

pub returns : goal.returns
returns c = λ input b.
    let ty = c.args.ty.now in
    let types = c.args.bindings.now.types in
    let is : IsMadeHere input (init_memory_part input) InitMemory ty =
    init_here input c.init_memory.result ty
    (λ entry has. c.entries_have_types.ensures input entry b.settled has) c.requires.typed
    (c.init_memory.ensures input b.indices) (c.is_none.ensures ∙ ap not c.if-is_none.false) in
    one_is input types (init_memory_part input) InitMemory ty
    (record { type_index = c.type_number.result; origin = OfInitMemory }) b.types is.part_is is.typed refl
    (c.type_number.ensures (contains_in types (output_types input) ty b.types is.one))
