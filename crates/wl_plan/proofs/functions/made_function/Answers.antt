use Rattle.std.proofs.Common.{◌∙◌, not, ap, refl}
use Rattle.wl_bind.specs.FunctionSpace.{FunctionOf, made_function_part}
use Rattle.wl_bind.specs.OutputTypes.{output_types}
use Rattle.wl_bind.specs.declared.binding.FunctionTarget.TheVariants.{Made}
use Rattle.wl_plan.specs.Origins.{OfLinker}
use Rattle.wl_plan.proofs.FunctionLaws.{IsMadeHere, contains_in, made_here, no_index, none_is, one_is}
use Rattle.wl_plan.proofs.functions.made_function.Goals as goal

pub returns-then-is_none : goal.returns-then-is_none
returns-then-is_none c = λ input b.
    none_is input (made_function_part input c.args.made)
    (no_index input c.args.made c.index.result (c.index.ensures input b.indices)
    (c.is_none.ensures ∙ ap not c.if-is_none.true))

pub returns : goal.returns
returns c = λ input b.
    let m = c.args.made in
    let ty = c.args.ty.now in
    let types = c.args.bindings.now.types in
    let is : IsMadeHere input (made_function_part input m) (FunctionOf (Made m)) ty =
    made_here input m c.index.result ty
    (λ entry has. c.entries_have_types.ensures input entry b.settled has) c.requires.function c.requires.typed
    (c.index.ensures input b.indices) (c.is_none.ensures ∙ ap not c.if-is_none.false) in
    one_is input types (made_function_part input m) (FunctionOf (Made m)) ty
    (record { type_index = c.type_number.result; origin = OfLinker m }) b.types is.part_is is.typed refl
    (c.type_number.ensures (contains_in types (output_types input) ty b.types is.one))
