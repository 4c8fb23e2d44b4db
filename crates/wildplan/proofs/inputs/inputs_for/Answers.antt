use Rattle.std.proofs.Common.{length}
use Rattle.wl_words.specs.Texts.{texts}
use Rattle.wildplan.proofs.ModeLaws.{generated_for, generated_many}
use Rattle.wildplan.proofs.inputs.inputs_for.Goals as goal

pub returns-clause-ok : goal.returns-clause-ok
returns-clause-ok g c =
    rw c.new.ensures
    (generated_for (texts c.args.words.now) c.args.args.now c.in-Generate.count (g.F.Files.state c.args.files.now) c.in_ok-objects.objects c.requires.args c.in-Generate.is c.in_ok-objects.ensures)

pub returns-clause-many : goal.returns-clause-many
returns-clause-many g c =
    generated_many (texts c.args.words.now) c.args.args.now c.in-Generate.count (length c.in_ok-objects.objects) c.requires.args c.in-Generate.is
