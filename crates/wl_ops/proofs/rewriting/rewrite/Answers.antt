use Rattle.std.proofs.Common.{◌≡◌, ◌+◌, ◌≤◌, List, ℕ, [], ◌++◌, ◌∷◌, drop, length, get_or, refl, sym, ap, subst, ◌∙◌, arith, length-append}
use Rattle.std.proofs.lemmas.List.{append-nil, drop_all}
use Rattle.wl_ops.specs.declared.op.DataIndexImm.{DataIndexImm}
use Rattle.wl_ops.specs.declared.rewriting.Shift.{Shift}
use Rattle.wl_ops.specs.Rewriting.{new_index, Rewrites, AreShifts}
use Rattle.wl_ops.proofs.LieLaws.{nothing, next, lie_ends, lie_next}
use Rattle.wl_ops.proofs.ShiftLaws.{rewrites_more, shifts_more}
use Rattle.wl_ops.proofs.rewriting.rewrite.Goals as goal

abbrev shift : ℕ → ℕ → Shift
shift old new = record { old_end = old; new_end = new }

pub split_at-requires : goal.split_at-requires
split_at-requires c =
    let n : DataIndexImm = get_or c.args.numbers.now c.loop-number.number-index nothing in
    let l = lie_next c.loop-number.place c.args.numbers.now c.loop-number.number-index (length c.args.body.now) n c.loop-number-test.true refl c.loop-number.invariant.2 in
    let e = lie_ends (n.offset + n.len) (drop (c.loop-number.number-index + 1) c.args.numbers.now) (length c.args.body.now) l.1 in
    omega (arith, e, l.0, c.loop-number.invariant.3)

pub split_at-requires-in-loop-number : goal.split_at-requires-in-loop-number
split_at-requires-in-loop-number c =
    let n : DataIndexImm = get_or c.args.numbers.now c.loop-number.number-index nothing in
    let l = lie_next c.loop-number.place c.args.numbers.now c.loop-number.number-index (length c.args.body.now) n c.loop-number-test.true refl c.loop-number.invariant.2 in
    let e = lie_ends (n.offset + n.len) (drop (c.loop-number.number-index + 1) c.args.numbers.now) (length c.args.body.now) l.1 in
    omega (arith, e, l.0, c.loop-number.invariant.3, c.split_at.ensures.back_len)

pub overflow_add-place : goal.overflow_add-place
overflow_add-place c =
    let n : DataIndexImm = get_or c.args.numbers.now c.loop-number.number-index nothing in
    let l = lie_next c.loop-number.place c.args.numbers.now c.loop-number.number-index (length c.args.body.now) n c.loop-number-test.true refl c.loop-number.invariant.2 in
    let e = lie_ends (n.offset + n.len) (drop (c.loop-number.number-index + 1) c.args.numbers.now) (length c.args.body.now) l.1 in
    omega (arith, e)

pub loop-number-preserved : goal.loop-number-preserved
loop-number-preserved c =
    let new = new_index c.args.indices.now in
    let n : DataIndexImm = get_or c.args.numbers.now c.loop-number.number-index nothing in
    let tail : List DataIndexImm = drop (c.loop-number.number-index + 1) c.args.numbers.now in
    let l = lie_next c.loop-number.place c.args.numbers.now c.loop-number.number-index (length c.args.body.now) n c.loop-number-test.true refl c.loop-number.invariant.2 in
    let e = lie_ends (n.offset + n.len) tail (length c.args.body.now) l.1 in
    let head = next c.args.numbers.now c.loop-number.number-index c.loop-number-test.true in
    let so_far = subst (λ (ns : List DataIndexImm). (y : List ℕ) → Rewrites new c.loop-number.place ns c.loop-number.rest.now y → Rewrites new 0 c.args.numbers.now c.args.body.now (c.loop-number.bytes.items ++ y)) head c.loop-number.invariant.0 in
    let shifts = subst (λ (ns : List DataIndexImm). (ss : List Shift) → AreShifts new c.loop-number.place (length c.loop-number.bytes.items) ns ss → AreShifts new 0 0 c.args.numbers.now (c.loop-number.shifts.items ++ ss)) head c.loop-number.invariant.1 in
    let w = c.in_ok-append_number.ensures in
    let is = sym c.new_index.ensures ∙ c.in-Some.is in
    let enough : n.len ≤ length c.split_at.result.1.now = omega (arith, e, l.0, c.loop-number.invariant.3, c.split_at.ensures.back_len) in
    let at : length c.append_number.new.out.items + c.loop-number.place ≡ length c.loop-number.bytes.items + n.offset + length w.0 =
    omega (arith, l.0, ap length w.3, length-append (c.loop-number.bytes.items ++ c.split_at.result.0.now) w.0, length-append c.loop-number.bytes.items c.split_at.result.0.now, c.split_at.ensures.front_len) in
    let s : Shift = record { old_end = n.offset + n.len; new_end = length c.append_number.new.out.items } in
    let pushed = c.in_ok-push.ensures.items ∙ ap (λ (end : ℕ). c.loop-number.shifts.items ++ shift (n.offset + n.len) end ∷ []) (c.len.ensures ∙ c.append_number.new.out.ok.0) in (
      rewrites_more new c.args.numbers.now tail n c.loop-number.place c.in-Some.index c.args.body.now c.loop-number.rest.now c.split_at.result.0.now c.split_at.result.1.now c.split_at-in-loop-number.result.1.now c.loop-number.bytes.items c.append_number.new.out.items w.0
          so_far l.0 c.split_at.ensures.front c.split_at.ensures.back c.split_at.ensures.front_len c.split_at-in-loop-number.ensures.back enough is w.1 w.3,
      shifts_more new c.args.numbers.now tail n c.loop-number.shifts.items c.push.new.self.items c.loop-number.place (length c.loop-number.bytes.items) s c.in-Some.index w.0
          shifts pushed refl is w.1 w.2 at,
      l.1,
      omega (arith, e, l.0, c.loop-number.invariant.3, c.split_at.ensures.back_len, c.split_at-in-loop-number.ensures.back_len),
    )

pub returns : goal.returns
returns c =
    let new = new_index c.args.indices.now in
    let none = drop_all c.loop-number.number-index c.args.numbers.now c.loop-number-test.false in
    let last : Rewrites new c.loop-number.place (drop c.loop-number.number-index c.args.numbers.now) c.loop-number.rest.now c.loop-number.rest.now = rw none refl in
    let ended : AreShifts new c.loop-number.place (length c.loop-number.bytes.items) (drop c.loop-number.number-index c.args.numbers.now) [] = rw none tt in (
      rw c.in_ok-extend_from_slice.ensures.items (c.loop-number.invariant.0 c.loop-number.rest.now last),
      subst (λ (ss : List Shift). AreShifts new 0 0 c.args.numbers.now ss) (append-nil c.loop-number.shifts.items) (c.loop-number.invariant.1 [] ended),
    )
