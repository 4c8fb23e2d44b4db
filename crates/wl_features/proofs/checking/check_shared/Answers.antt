use Rattle.std.proofs.Common.{◌∙◌, codes, sym}
use Rattle.wl_symbols.specs.Link.{link_of}
use Rattle.wl_features.proofs.NameLaws.{has_name, lacks_name}
use Rattle.wl_features.proofs.TakenLaws.{bytes_of}
use Rattle.wl_features.proofs.SharedLaws.{can_share, shared_refuses, shared_disallowed, lacks_atomics, lacks_bulk}
use Rattle.wl_features.proofs.checking.check_shared.Goals as goal
use Rattle.wl_features.proofs.checking.check_shared.Goals.{in-Some, in_default+then-not-has_name, in_default+else-not-has_name+then-not-has_name-2}

pub returns-else-not-has_name-2-clause-ok : goal.returns-else-not-has_name-2-clause-ok
returns-else-not-has_name-2-clause-ok c =
    let names = bytes_of c.args.names.now in
    can_share (link_of c.args.disallowed.now c.args.args.now) names c.requires.taken c.in_default.ensures
    (has_name names (codes "atomics") (sym c.has_name.ensures ∙ c.if-not-has_name.false))
    (has_name names (codes "bulk-memory")
    (sym c.has_name-else-not-has_name.ensures ∙ c.if-not-has_name-2.false))

pub returns-clause-err : goal.returns-clause-err
returns-clause-err c =
    let link = link_of c.args.disallowed.now c.args.args.now in
    let names = bytes_of c.args.names.now in
    elim c.match-first.branch [
      | in-Some w ↦
          rw w.need-is (shared_refuses link names c.requires.taken _ c.requires.checked
          c.if-not-args.false (shared_disallowed link names c.requires.taken w.in-Some.object
          w.in-Some.ensures))
      | in_default+then-not-has_name w ↦
          rw w.need-is (shared_refuses link names c.requires.taken _ c.requires.checked
          c.if-not-args.false
          (lacks_atomics link names c.requires.taken w.in_default.ensures
          (lacks_name names (codes "atomics")
          (sym w.has_name.ensures ∙ w.if-not-has_name.true))))
      | in_default+else-not-has_name+then-not-has_name-2 w ↦
          rw w.need-is (shared_refuses link names c.requires.taken _ c.requires.checked
          c.if-not-args.false
          (lacks_bulk link names c.requires.taken w.in_default.ensures
          (has_name names (codes "atomics") (sym w.has_name.ensures ∙ w.if-not-has_name.false))
          (lacks_name names (codes "bulk-memory")
          (sym w.has_name-else-not-has_name.ensures ∙ w.if-not-has_name-2.true))))
    ]
