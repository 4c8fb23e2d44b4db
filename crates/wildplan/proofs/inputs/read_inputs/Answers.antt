use Rattle.std.proofs.Common.{◌≡◌, ◌+◌, ◌++◌, ap, length, arith, length-append}
use Rattle.std.proofs.lemmas.Result.{err_from_is_err_and}
use Rattle.wl_words.specs.Texts.{texts}
use Rattle.wl_words.specs.Args.{object_names, replacing_names, object_files}
use Rattle.wildplan.proofs.Gathering.{all_length, reads_both, stops_front, stops_replacing, stops_behind, inputs_alone, inputs_with}
use Rattle.wildplan.proofs.inputs.read_inputs.Goals as goal

pub returns-in_err-objects-clause-err : goal.returns-in_err-objects-clause-err
returns-in_err-objects-clause-err g c =
    let p = err_from_is_err_and c.from_residual-in_err-objects.result c.from_residual-in_err-objects.ensures.1 in
    rw (p.1, p.2)
    (stops_front (texts c.args.words.now) c.args.args.now (g.F.Files.state c.args.files.now) (g.F.Files.state c.gather.new.files) c.in_err-objects.field-0.0
    (rw (c.as_slice-named.ensures.value, c.in_ok-named.ensures.names) at c.in_err-objects.ensures.err))

pub returns-in_err-replacing-clause-err : goal.returns-in_err-replacing-clause-err
returns-in_err-replacing-clause-err g c =
    let p = err_from_is_err_and c.from_residual-in_err-replacing.result c.from_residual-in_err-replacing.ensures.1 in
    let front = rw (c.as_slice-named.ensures.value, c.in_ok-named.ensures.names) at c.in_ok-objects.ensures.ok in
    rw (p.1, p.2)
    (stops_replacing (texts c.args.words.now) c.args.args.now (g.F.Files.state c.args.files.now) (g.F.Files.state c.gather.new.files) (g.F.Files.state c.gather-2.new.files) c.in_ok-objects.objects c.in_err-replacing.field-0.0 front
    (rw (c.as_slice-behind.ensures.value, c.in_ok-behind.ensures, c.as_slice-named.ensures.value, c.in_ok-named.ensures.names) at c.in_err-replacing.ensures.err))

pub returns-in_default-clause-ok : goal.returns-in_default-clause-ok
returns-in_default-clause-ok g c =
    let front = rw (c.as_slice-named.ensures.value, c.in_ok-named.ensures.names) at c.in_ok-objects.ensures.ok in
    let behind = rw (c.as_slice-behind.ensures.value, c.in_ok-behind.ensures) at c.in_ok-replacing.ensures.ok in
    inputs_alone (texts c.args.words.now) c.args.args.now (g.F.Files.state c.args.files.now) (g.F.Files.state c.gather.new.files) (g.F.Files.state c.gather-2.new.files) c.in_ok-objects.objects c.in_ok-replacing.replacing c.requires.mode c.in_default.ensures front behind

pub returns-in_default-clause-many : goal.returns-in_default-clause-many
returns-in_default-clause-many g c =
    let front = rw (c.as_slice-named.ensures.value, c.in_ok-named.ensures.names) at c.in_ok-objects.ensures.ok in
    omega (arith, c.in_ok-named.ensures.many, ap length c.in_ok-named.ensures.names, all_length (g.F.Files.state c.args.files.now).names (object_names (texts c.args.words.now) c.args.args.now) c.in_ok-objects.objects front.through.read)

pub returns-in-Ok-clause-ok : goal.returns-in-Ok-clause-ok
returns-in-Ok-clause-ok g c =
    let front = rw (c.as_slice-named.ensures.value, c.in_ok-named.ensures.names) at c.in_ok-objects.ensures.ok in
    let behind = rw (c.as_slice-behind.ensures.value, c.in_ok-behind.ensures) at c.in_ok-replacing.ensures.ok in
    inputs_with (texts c.args.words.now) c.args.args.now (g.F.Files.state c.args.files.now) (g.F.Files.state c.gather.new.files) (g.F.Files.state c.gather-2.new.files) (g.F.Files.state c.read_with.new.files) c.in_ok-objects.objects c.in_ok-replacing.replacing c.in-Some.name.now c.in-Ok.bytes.items
    c.requires.mode c.in-Some.ensures front behind c.in-Ok.ensures.begun c.in-Ok.ensures.clean c.in-Ok.ensures.unfailed c.in-Ok.ensures.all c.in-Ok.ensures.names c.in-Ok.ensures.ok c.in-Ok.ensures.within

pub returns-in-Ok-clause-many : goal.returns-in-Ok-clause-many
returns-in-Ok-clause-many g c =
    let front = rw (c.as_slice-named.ensures.value, c.in_ok-named.ensures.names) at c.in_ok-objects.ensures.ok in
    omega (arith, c.in_ok-named.ensures.many, ap length c.in_ok-named.ensures.names, all_length (g.F.Files.state c.args.files.now).names (object_names (texts c.args.words.now) c.args.args.now) c.in_ok-objects.objects front.through.read)

pub returns-clause-err : goal.returns-clause-err
returns-clause-err g c =
    let words = texts c.args.words.now in
    let args = c.args.args.now in
    let front = rw (c.as_slice-named.ensures.value, c.in_ok-named.ensures.names) at c.in_ok-objects.ensures.ok in
    let behind = rw (c.as_slice-behind.ensures.value, c.in_ok-behind.ensures) at c.in_ok-replacing.ensures.ok in
    let both = reads_both (object_names words args) (replacing_names words args) (g.F.Files.state c.args.files.now) (g.F.Files.state c.gather.new.files) (g.F.Files.state c.gather-2.new.files) c.in_ok-objects.objects c.in_ok-replacing.replacing front behind in
    let place : length (object_names words args) + length (replacing_names words args) ≡ length (object_files words args) = omega (arith, length-append (object_names words args) (replacing_names words args)) in
    rw (c.stop_for.ensures, c.as_slice-named.ensures.value, c.in_ok-named.ensures.names, c.as_slice-behind.ensures.value, c.in_ok-behind.ensures, place)
    (stops_behind words args (g.F.Files.state c.args.files.now) (g.F.Files.state c.gather-2.new.files) (g.F.Files.state c.read_with.new.files) (c.in_ok-objects.objects ++ c.in_ok-replacing.replacing) c.in-Some.name.now c.in-Err.error both c.in-Some.ensures c.in-Err.ensures.begun c.in-Err.ensures.err)
