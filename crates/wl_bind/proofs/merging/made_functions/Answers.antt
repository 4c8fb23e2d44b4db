use Rattle.std.proofs.Common.{◌∙◌, ◌∷◌, ◌++◌, [], ap, Bool, List}
use Rattle.wl_module.specs.Types.{FunctionType}
use Rattle.wl_module.specs.declared.types.ValType.TheVariants.{I32}
use Rattle.wl_bind.specs.steps.Merging.{type_where}
use Rattle.wl_bind.proofs.MergeLaws.{made_types_are}
use Rattle.wl_bind.proofs.merging.made_functions.Goals as goal

pub returns : goal.returns
returns c input indices =
    let ctors = c.push_made.new.types.items in
    let threads = c.push_made-2.new.types.items in
    made_types_are input c.index.result c.index-2.result c.init_memory.result ctors threads
    c.push_made-3.new.types.items
    (c.index.ensures input indices) (c.index-2.ensures input indices)
    (c.init_memory.ensures input indices)
    (c.in_ok-push_made.ensures
    ∙ (ap (λ (ts : List FunctionType). ts ++ type_where c.is_some-calls_ctors.result [])
    c.new-types.ensures.items
    ∙ ap (λ (exists : Bool). type_where exists []) c.is_some-calls_ctors.ensures))
    (c.in_ok-push_made-2.ensures
    ∙ ap (λ (exists : Bool). ctors ++ type_where exists (I32 ∷ [])) c.is_some-fills_thread.ensures)
    (c.in_ok-push_made-3.ensures
    ∙ ap (λ (exists : Bool). threads ++ type_where exists []) c.is_some-copies_data.ensures)
