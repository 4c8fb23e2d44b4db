use Rattle.std.proofs.Common.{◌∙◌, ap, refl, slice_get, length}
use Rattle.wl_bind.specs.GlobalSpace.{GlobalOf, global_parts, object_globals, global_space}
use Rattle.wl_bind.specs.Scan.{got_func}
use Rattle.wl_bind.specs.declared.binding.GlobalTarget.TheVariants.{GotFunc}
use Rattle.wl_bind.proofs.StartLaws.{numbers_stand}
use Rattle.wl_bind.proofs.indices.LinkerDefinedIndices.got_func.Goals as goal

pub returns : goal.returns
returns c = λ input are.
    ap (slice_get (global_space input)) c.entry.ensures
    ∙ numbers_stand (global_parts input) (object_globals input) c.args.self.now.globals 9 (λ k. GlobalOf (GotFunc k))
    (length (got_func input)) c.args.place are.globals refl c.requires
