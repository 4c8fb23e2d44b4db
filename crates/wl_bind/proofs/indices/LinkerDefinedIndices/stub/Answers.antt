use Rattle.std.proofs.Common.{◌∙◌, ap, refl, slice_get}
use Rattle.wl_bind.specs.FunctionSpace.{stub_part, function_parts, object_functions, function_space}
use Rattle.wl_bind.proofs.StartLaws.{entry_is}
use Rattle.wl_bind.proofs.indices.LinkerDefinedIndices.stub.Goals as goal

pub returns : goal.returns
returns c = λ input are.
    ap (slice_get (function_space input)) c.entry.ensures
    ∙ entry_is (function_parts input) (object_functions input) c.args.self.now.functions 4 (stub_part input) c.args.place
    are.functions refl c.requires
