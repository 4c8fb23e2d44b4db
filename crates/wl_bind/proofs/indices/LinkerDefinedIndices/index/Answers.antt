use Rattle.std.proofs.Common.{◌∙◌, ap, refl}
use Rattle.wl_symbols.specs.LinkerNames.{named_function, named_global}
use Rattle.wl_symbols.specs.declared.linker_symbol.WasmLinkerSymbol.TheVariants as made
use Rattle.wl_bind.specs.Made.{is_made}
use Rattle.wl_bind.specs.MadeIndices.{IsMadeIndex}
use Rattle.wl_bind.specs.FunctionSpace.{FunctionOf, function_parts, object_functions}
use Rattle.wl_bind.specs.GlobalSpace.{GlobalOf, global_parts, object_globals}
use Rattle.wl_bind.specs.declared.binding.FunctionTarget.TheVariants as function
use Rattle.wl_bind.specs.declared.binding.GlobalTarget.TheVariants as global
use Rattle.wl_bind.proofs.StartLaws.{made_at, single_is}
use Rattle.wl_bind.proofs.indices.LinkerDefinedIndices.index.Goals as goal

pub returns-in-Function-CallCtors : goal.returns-in-Function-CallCtors
returns-in-Function-CallCtors c = λ input are.
    made_at (IsMadeIndex input) (c.in-Function-CallCtors.ensures.named ∙ ap named_function c.in-Function-CallCtors.field-0-is) c.single.ensures
    (single_is (function_parts input) (object_functions input) c.args.self.now.functions 1 (is_made input made.CallCtors)
    (FunctionOf (function.Made made.CallCtors)) are.functions refl)

pub returns-in-Function-InitTls : goal.returns-in-Function-InitTls
returns-in-Function-InitTls c = λ input are.
    made_at (IsMadeIndex input) (c.in-Function-InitTls.ensures.named ∙ ap named_function c.in-Function-InitTls.field-0-is) c.single-in-Function-InitTls.ensures
    (single_is (function_parts input) (object_functions input) c.args.self.now.functions 2 (is_made input made.InitTls)
    (FunctionOf (function.Made made.InitTls)) are.functions refl)

pub returns-in-Global-MemoryBase : goal.returns-in-Global-MemoryBase
returns-in-Global-MemoryBase c = λ input are.
    made_at (IsMadeIndex input) (c.in-Global-MemoryBase.ensures.named ∙ ap named_global c.in-Global-MemoryBase.field-0-is) c.single-in-Global-MemoryBase.ensures
    (single_is (global_parts input) (object_globals input) c.args.self.now.globals 1 (is_made input made.MemoryBase)
    (GlobalOf (global.Made made.MemoryBase)) are.globals refl)

pub returns-in-Global-TableBase : goal.returns-in-Global-TableBase
returns-in-Global-TableBase c = λ input are.
    made_at (IsMadeIndex input) (c.in-Global-TableBase.ensures.named ∙ ap named_global c.in-Global-TableBase.field-0-is) c.single-in-Global-TableBase.ensures
    (single_is (global_parts input) (object_globals input) c.args.self.now.globals 2 (is_made input made.TableBase)
    (GlobalOf (global.Made made.TableBase)) are.globals refl)

pub returns-in-Global-StackPointer : goal.returns-in-Global-StackPointer
returns-in-Global-StackPointer c = λ input are.
    made_at (IsMadeIndex input) (c.in-Global-StackPointer.ensures.named ∙ ap named_global c.in-Global-StackPointer.field-0-is) c.single-in-Global-StackPointer.ensures
    (single_is (global_parts input) (object_globals input) c.args.self.now.globals 3 (is_made input made.StackPointer)
    (GlobalOf (global.Made made.StackPointer)) are.globals refl)

pub returns-in-Global-TlsBase : goal.returns-in-Global-TlsBase
returns-in-Global-TlsBase c = λ input are.
    made_at (IsMadeIndex input) (c.in-Global-TlsBase.ensures.named ∙ ap named_global c.in-Global-TlsBase.field-0-is) c.single-in-Global-TlsBase.ensures
    (single_is (global_parts input) (object_globals input) c.args.self.now.globals 4 (is_made input made.TlsBase)
    (GlobalOf (global.Made made.TlsBase)) are.globals refl)

pub returns-in-Global-TlsSize : goal.returns-in-Global-TlsSize
returns-in-Global-TlsSize c = λ input are.
    made_at (IsMadeIndex input) (c.in-Global-TlsSize.ensures.named ∙ ap named_global c.in-Global-TlsSize.field-0-is) c.single-in-Global-TlsSize.ensures
    (single_is (global_parts input) (object_globals input) c.args.self.now.globals 5 (is_made input made.TlsSize)
    (GlobalOf (global.Made made.TlsSize)) are.globals refl)

pub returns-in-Global-TlsAlign : goal.returns-in-Global-TlsAlign
returns-in-Global-TlsAlign c = λ input are.
    made_at (IsMadeIndex input) (c.in-Global-TlsAlign.ensures.named ∙ ap named_global c.in-Global-TlsAlign.field-0-is) c.single-in-Global-TlsAlign.ensures
    (single_is (global_parts input) (object_globals input) c.args.self.now.globals 6 (is_made input made.TlsAlign)
    (GlobalOf (global.Made made.TlsAlign)) are.globals refl)
