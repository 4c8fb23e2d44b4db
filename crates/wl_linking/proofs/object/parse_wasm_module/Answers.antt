use Rattle.std.proofs.Common.{Ok, Err, subst, sym}
use Rattle.std.specs.List.{AllByRecursion}
use Rattle.std.proofs.lemmas.Result.{err_from_is_err_and}
use Rattle.wl_linking.specs.Object.{Object}
use Rattle.wl_linking.specs.Fitting.{NameStands, NamingFault, ObjectFault}
use Rattle.wl_custom.proofs.Exact.{cause_follows}
use Rattle.wl_linking.proofs.ImportNameLaws.{parts_names_stand}
use Rattle.wl_linking.proofs.ObjectLaws.{parses, object_from, unnamed}
use Rattle.wl_linking.proofs.WholeLaws.{whole_from}
use Rattle.wl_linking.proofs.object.parse_wasm_module.Goals as goal

pub check_names-requires : goal.check_names-requires
check_names-requires c =
    let h = c.in_ok-contents.ensures in
    subst (λ (x : Object). AllByRecursion (NameStands x.bytes) x.symbols) (sym h.placed.items.items)
    (parts_names_stand c.args.bytes.now h.sections h.parts h.framed h.sound)

pub returns : goal.returns
returns c =
    parses c.args.bytes.now (Ok c.in_ok-contents.contents)
    (object_from c.args.bytes.now c.in_ok-contents.contents c.in_ok-contents.ensures c.in_ok-check_names.ensures)

pub returns-in_err-contents : goal.returns-in_err-contents
returns-in_err-contents c =
    let p = err_from_is_err_and c.from_residual.result c.from_residual.ensures.1 in
    rw (p.1, p.2) (parses c.args.bytes.now (Err c.in_err-contents.field-0.0) c.in_err-contents.ensures)

pub returns-in_err-check_names : goal.returns-in_err-check_names
returns-in_err-check_names c =
    let p = err_from_is_err_and c.from_residual-in_err-check_names.result c.from_residual-in_err-check_names.ensures.1 in
    let bytes = c.args.bytes.now in
    let o = c.in_ok-contents.contents in
    let e = c.in_err-check_names.field-0.0 in
    rw (p.1, p.2) (parses bytes (Err e)
    (cause_follows (NamingFault o) (λ e. ObjectFault e bytes) (λ e f. unnamed bytes o e c.in_ok-contents.ensures f) e c.in_err-check_names.ensures))

pub invariant_of-result : goal.invariant_of-result
invariant_of-result c = record {
  whole = whole_from c.args.bytes.now c.in_ok-contents.contents
      (object_from c.args.bytes.now c.in_ok-contents.contents c.in_ok-contents.ensures c.in_ok-check_names.ensures) c.requires;
  counted = c.spaces_of-spaces.ensures;
}
