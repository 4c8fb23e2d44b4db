use Rattle.std.proofs.Common.{◌≡◌, ℕ, List, eqb, false, refl, sym, subst, length, ◌∙◌, arith, vec_len}
use Rattle.std.proofs.Math.Bool.{or-true}
use Rattle.std.proofs.lemmas.Bool.{eqb-true}
use Rattle.std.proofs.lemmas.List.{nil_from_length}
use Rattle.std.specs.Cow.{cow_slice_items}
use Rattle.std.proofs.lemmas.Result.{err_from_is_err_and}
use Rattle.wl_module.specs.Slices.{is_owned}
use Rattle.wl_ops.specs.declared.op.DataIndexImm.{DataIndexImm}
use Rattle.wl_ops.specs.Numbers.{AreTold}
use Rattle.wl_ops.specs.Rewriting.{new_index, Rewrites}
use Rattle.wl_ops.proofs.ToldLaws.{one_list}
use Rattle.wl_ops.proofs.LieLaws.{numbers_lie}
use Rattle.wl_ops.proofs.ShiftLaws.{rising, near}
use Rattle.wl_ops.proofs.KeepLaws.{keeps}
use Rattle.wl_ops.proofs.RemapLaws.{refused_unread, refused_unwritten, without_numbers, with_numbers}
use Rattle.wl_ops.proofs.rewriting.remap_body_data_indices.Goals as goal

pub returns-in_err-numbers-clause-remaps : goal.returns-in_err-numbers-clause-remaps
returns-in_err-numbers-clause-remaps c =
    let p = err_from_is_err_and c.from_residual.result c.from_residual.ensures.1 in
    let fault = rw c.as_slice.ensures.value at c.in_err-numbers.ensures.reads.fault in
    rw (p.1, p.2) (refused_unread (new_index c.args.indices.now) (cow_slice_items c.args.body.now) c.args.fields.now c.in_err-numbers.field-0.0 fault)

pub returns-then-is_empty-clause-remaps : goal.returns-then-is_empty-clause-remaps
returns-then-is_empty-clause-remaps c =
    let told = rw c.as_slice.ensures.value at c.in_ok-numbers.ensures.reads.sound in
    let none = nil_from_length c.in_ok-numbers.numbers.items (sym c.in_ok-numbers.numbers.ok.0 ∙ eqb-true (vec_len c.in_ok-numbers.numbers) 0 (sym c.if-is_empty.ensures)) in
    without_numbers (new_index c.args.indices.now) (cow_slice_items c.args.body.now) c.args.fields.now (subst (λ (ns : List DataIndexImm). AreTold ns (cow_slice_items c.args.body.now)) none told)

pub returns-then-is_empty-clause-keeps : goal.returns-then-is_empty-clause-keeps
returns-then-is_empty-clause-keeps c =
    let told = rw c.as_slice.ensures.value at c.in_ok-numbers.ensures.reads.sound in
    let x : List ℕ = cow_slice_items c.args.body.now in
    let none = nil_from_length c.in_ok-numbers.numbers.items (sym c.in_ok-numbers.numbers.ok.0 ∙ eqb-true (vec_len c.in_ok-numbers.numbers) 0 (sym c.if-is_empty.ensures)) in
    λ ns h. keeps (new_index c.args.indices.now) ns x x h (subst (λ (ks : List DataIndexImm). Rewrites (new_index c.args.indices.now) 0 ks x x) (sym (one_list x ns c.in_ok-numbers.numbers.items h told.0 ∙ none)) refl)

pub rewrite-requires : goal.rewrite-requires
rewrite-requires c =
    let told = rw c.as_slice.ensures.value at c.in_ok-numbers.ensures.reads.sound in
    rw (c.deref.ensures.value, c.as_slice-2.ensures.value) (numbers_lie c.in_ok-numbers.numbers.items (cow_slice_items c.args.body.now) told.0)

pub returns-in_err-rewritten-clause-remaps : goal.returns-in_err-rewritten-clause-remaps
returns-in_err-rewritten-clause-remaps c =
    let p = err_from_is_err_and c.from_residual-in_err-rewritten.result c.from_residual-in_err-rewritten.ensures.1 in
    let told = rw c.as_slice.ensures.value at c.in_ok-numbers.ensures.reads.sound in
    let fault = rw c.deref.ensures.value at c.in_err-rewritten.ensures in
    rw (p.1, p.2) (refused_unwritten (new_index c.args.indices.now) (cow_slice_items c.args.body.now) c.args.fields.now c.in_ok-numbers.numbers.items c.in_err-rewritten.field-0.0 told fault)

pub move_fields-requires-clause-rising : goal.move_fields-requires-clause-rising
move_fields-requires-clause-rising c =
    let x : List ℕ = cow_slice_items c.args.body.now in
    let ns : List DataIndexImm = c.in_ok-numbers.numbers.items in
    let told = rw c.as_slice.ensures.value at c.in_ok-numbers.ensures.reads.sound in
    let r = rw (c.deref.ensures.value, c.as_slice-2.ensures.value) at c.in_ok-rewritten.ensures in
    rw c.deref-2.ensures.value (rising (new_index c.args.indices.now) 0 0 (length x) ns c.in_ok-rewritten.rewritten.shifts.items (numbers_lie ns x told.0) r.1)

pub move_fields-requires-clause-near : goal.move_fields-requires-clause-near
move_fields-requires-clause-near c =
    let x : List ℕ = cow_slice_items c.args.body.now in
    let ns : List DataIndexImm = c.in_ok-numbers.numbers.items in
    let told = rw c.as_slice.ensures.value at c.in_ok-numbers.ensures.reads.sound in
    let r = rw (c.deref.ensures.value, c.as_slice-2.ensures.value) at c.in_ok-rewritten.ensures in
    rw c.deref-2.ensures.value (near (new_index c.args.indices.now) 0 0 (length x) ns c.in_ok-rewritten.rewritten.shifts.items (numbers_lie ns x told.0) r.1 (omega arith))

pub returns-clause-remaps : goal.returns-clause-remaps
returns-clause-remaps c =
    let x : List ℕ = cow_slice_items c.args.body.now in
    let ns : List DataIndexImm = c.in_ok-numbers.numbers.items in
    let told = rw c.as_slice.ensures.value at c.in_ok-numbers.ensures.reads.sound in
    let r = rw (c.deref.ensures.value, c.as_slice-2.ensures.value) at c.in_ok-rewritten.ensures in
    let some : eqb (length ns) 0 ≡ false = rw (← c.in_ok-numbers.numbers.ok.0) (sym c.if-is_empty.ensures) in
    rw (c.move_fields.ensures, c.deref-2.ensures.value) (with_numbers (new_index c.args.indices.now) x c.args.fields.now c.in_ok-rewritten.rewritten.bytes.items ns c.in_ok-rewritten.rewritten.shifts.items told some r)

pub returns-clause-keeps : goal.returns-clause-keeps
returns-clause-keeps c =
    let x : List ℕ = cow_slice_items c.args.body.now in
    let told = rw c.as_slice.ensures.value at c.in_ok-numbers.ensures.reads.sound in
    let r = rw (c.deref.ensures.value, c.as_slice-2.ensures.value) at c.in_ok-rewritten.ensures in
    λ ns h. keeps (new_index c.args.indices.now) ns x c.in_ok-rewritten.rewritten.bytes.items h (subst (λ (ks : List DataIndexImm). Rewrites (new_index c.args.indices.now) 0 ks x c.in_ok-rewritten.rewritten.bytes.items) (sym (one_list x ns c.in_ok-numbers.numbers.items h told.0)) r.0)

pub returns-clause-owned : goal.returns-clause-owned
returns-clause-owned c = sym (or-true (is_owned c.args.body.now))
