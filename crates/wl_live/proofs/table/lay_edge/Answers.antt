use Rattle.std.proofs.Common.{◌++◌, subst, Option}
use Rattle.std.specs.Option.{option_to_list}
use Rattle.wl_reach.specs.declared.graph.Edge.{Edge}
use Rattle.wl_live.specs.Laying.{IsLaying}
use Rattle.wl_live.proofs.TableLaws.{Fits, laying_fits}
use Rattle.wl_live.proofs.table.lay_edge.Goals as goal

pub add-requires-clause-from : goal.add-requires-clause-from
add-requires-clause-from c =
    let fits : Fits c.args.builder.now c.in-Some.edge = laying_fits c.requires.0 c.requires.1 c.in-Some.edge c.args.builder.now (subst (λ (o : Option Edge). IsLaying c.requires.0 (option_to_list o ++ c.requires.1) c.args.builder.now) c.in-Some.is c.requires.2) in
    fits.from

pub add-requires-clause-to : goal.add-requires-clause-to
add-requires-clause-to c =
    let fits : Fits c.args.builder.now c.in-Some.edge = laying_fits c.requires.0 c.requires.1 c.in-Some.edge c.args.builder.now (subst (λ (o : Option Edge). IsLaying c.requires.0 (option_to_list o ++ c.requires.1) c.args.builder.now) c.in-Some.is c.requires.2) in
    fits.to

pub add-requires-clause-room : goal.add-requires-clause-room
add-requires-clause-room c =
    let fits : Fits c.args.builder.now c.in-Some.edge = laying_fits c.requires.0 c.requires.1 c.in-Some.edge c.args.builder.now (subst (λ (o : Option Edge). IsLaying c.requires.0 (option_to_list o ++ c.requires.1) c.args.builder.now) c.in-Some.is c.requires.2) in
    fits.room
