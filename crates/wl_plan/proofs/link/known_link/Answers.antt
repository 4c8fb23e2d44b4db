use Rattle.std.proofs.Common.{◌≡◌}
use Rattle.std.proofs.lemmas.Result.{err_from_is_err_and}
use Rattle.wl_linking.specs.Steps.{Clear, Refuses}
use Rattle.wl_symbols.specs.Link.{Link, link_of}
use Rattle.wl_symbols.specs.Repeats.{IsDuplicate}
use Rattle.wl_symbols.specs.Live.{IsLiveOf}
use Rattle.wl_live.specs.Entry.{IsEntryFault}
use Rattle.wl_live.specs.Faults.{IsKeptFault}
use Rattle.wl_plan.specs.steps.Link.{AreClear}
use Rattle.wl_linking.proofs.StepLaws.{refuses_here, refuses_behind, row_behind, row_refuses}
use Rattle.wl_plan.proofs.LinkLaws.{feature_is_row, feature_row}
use Rattle.wl_plan.proofs.link.known_link.Goals as goal

pub returns-in_err-check_entry-clause-err : goal.returns-in_err-check_entry-clause-err
returns-in_err-check_entry-clause-err c =
    let residual = c.from_residual-in_err-check_entry in
    let p = err_from_is_err_and residual.result residual.ensures.1 in
    let link : Link = link_of c.args.files.now c.args.args.now in
    let e = c.in_err-check_entry.field-0.0 in
    let cause : Refuses (IsEntryFault link) e =
    rw c.requires.fit at c.in_err-check_entry.ensures.err in
    rw (p.1, p.2) (refuses_behind (IsDuplicate link.objects) _ e c.requires.names
    (row_behind (feature_row link) (feature_is_row link) _ e c.in_ok-features.ensures.clear
    (refuses_here (IsEntryFault link) _ e cause)))

pub returns-in_err-live-clause-err : goal.returns-in_err-live-clause-err
returns-in_err-live-clause-err c =
    let residual = c.from_residual-in_err-live in
    let p = err_from_is_err_and residual.result residual.ensures.1 in
    let link : Link = link_of c.args.files.now c.args.args.now in
    let e = c.in_err-live.field-0.0 in
    let clear : Clear (IsEntryFault link) =
    rw c.requires.fit at c.in_ok-check_entry.ensures.clear in
    let cause : Refuses (IsKeptFault link) e =
    rw c.requires.fit at c.in_err-live.ensures.err in
    rw (p.1, p.2) (refuses_behind (IsDuplicate link.objects) _ e c.requires.names
    (row_behind (feature_row link) (feature_is_row link) _ e c.in_ok-features.ensures.clear
    (refuses_behind (IsEntryFault link) _ e clear
    (refuses_here (IsKeptFault link) _ e cause))))

pub returns-in_err-features-clause-err : goal.returns-in_err-features-clause-err
returns-in_err-features-clause-err c =
    let residual = c.from_residual in
    let p = err_from_is_err_and residual.result residual.ensures.1 in
    let link : Link = link_of c.args.files.now c.args.args.now in
    let e = c.in_err-features.field-0.0 in
    rw (p.1, p.2) (refuses_behind (IsDuplicate link.objects) _ e c.requires.names
    (row_refuses (feature_row link) (feature_is_row link) _ e c.in_err-features.ensures.err))

pub returns-clause-ok : goal.returns-clause-ok
returns-clause-ok c =
    let link : Link = link_of c.args.files.now c.args.args.now in
    let live : IsLiveOf link c.in_ok-live.live =
    rw c.requires.fit at c.in_ok-live.ensures.live in
    let entry : Clear (IsEntryFault link) =
    rw c.requires.fit at c.in_ok-check_entry.ensures.clear in
    let faults : Clear (IsKeptFault link) =
    rw c.requires.fit at c.in_ok-live.ensures.clear in
    let clear : AreClear link = record {
      names = c.requires.names;
      features = c.in_ok-features.ensures.clear;
      entry = entry;
      kept = faults;
    } in
    record { clear = clear; features = c.in_ok-features.ensures.ok; live = live }
