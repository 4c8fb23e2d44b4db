use Rattle.std.proofs.Common.{◌≡◌, ◌∙◌, ◌≤◌, ◌&&◌, Bool, List, length, sym, ap, subst, arith}
use Rattle.wl_module.specs.Exports.{Exported}
use Rattle.std.specs.List.{AllZip}
use Rattle.wl_index.specs.declared.index.TheConstants.{MAX_ENTRIES}
use Rattle.wl_exports.specs.Exports.{exports}
use Rattle.wl_exports.specs.Sources.{IsPlainExport}
use Rattle.wl_exports.specs.Wrapped.{is_wrapped}
use Rattle.wl_exports.specs.Wrappers.{can_wrap}
use Rattle.wl_lists.proofs.Beside.{zip_left}
use Rattle.wl_lists.proofs.Places.{item_at}
use Rattle.wl_exports.proofs.WrapLaws.{wrapped_room, wrapped_more, all_wrapped}
use Rattle.wl_exports.proofs.wrappers.wrap_exports.Goals as goal

pub push_wrapped-requires : goal.push_wrapped-requires
push_wrapped-requires c =
    let input = c.args.input.now in
    let room = c.requires.room in
    let functions = c.requires.functions in
    let all = wrapped_room input c.loop-export.export-index c.args.functions MAX_ENTRIES c.loop-export.wrapped
    c.loop-export.wrappers c.loop-export.invariant (omega (arith, room, functions)) in
    omega (arith, all)

pub loop-export-preserved : goal.loop-export-preserved
loop-export-preserved c =
    let input = c.args.input.now in
    let i = c.loop-export.export-index in
    let x = c.export-item.result in
    let items : c.as_slice-export-items.result.now ≡ c.args.exports = c.as_slice-export-items.ensures in
    let at = item_at c.as_slice-export-items.result.now i x c.loop-export-test.true c.export-item.is in
    let plain : AllZip (IsPlainExport input) (exports input) c.as_slice-export-items.result.now =
    subst (λ (xs : List Exported). AllZip (IsPlainExport input) (exports input) xs) (sym items) c.requires.plain in
    let e = zip_left (IsPlainExport input) (exports input) c.as_slice-export-items.result.now i x plain at in
    let test : c.is_wrapped-is_wrapped.result ≡ is_wrapped input e.0 =
    c.is_wrapped-is_wrapped.ensures input e.0 c.requires.hosts e.2
    ∙ ap (λ (b : Bool). b && can_wrap e.0) c.wraps-wraps.ensures in
    wrapped_more input i c.args.functions e.0 x c.is_wrapped-is_wrapped.result c.loop-export.wrapped
    c.push_wrapped.new.wrapped c.loop-export.wrappers c.push_wrapped.new.wrappers e.1 e.2 test
    c.requires.functions c.in_ok-push_wrapped.ensures.export c.in_ok-push_wrapped.ensures.wrapper
    c.loop-export.invariant

pub returns-clause-exports : goal.returns-clause-exports
returns-clause-exports c =
    let items : c.as_slice-export-items.result.now ≡ c.args.exports = c.as_slice-export-items.ensures in
    let past : length c.args.exports ≤ c.loop-export.export-index =
    subst (λ (xs : List Exported). length xs ≤ c.loop-export.export-index) items c.loop-export-test.false in
    let within : c.loop-export.export-index ≤ length c.args.exports =
    subst (λ (xs : List Exported). c.loop-export.export-index ≤ length xs) items c.loop-export.auto.export-index-end in
    (all_wrapped c.args.input.now c.loop-export.export-index c.args.exports c.loop-export.wrapped
    c.loop-export.wrappers c.requires.plain past within c.loop-export.invariant).0

pub returns-clause-wrappers : goal.returns-clause-wrappers
returns-clause-wrappers c =
    let items : c.as_slice-export-items.result.now ≡ c.args.exports = c.as_slice-export-items.ensures in
    let past : length c.args.exports ≤ c.loop-export.export-index =
    subst (λ (xs : List Exported). length xs ≤ c.loop-export.export-index) items c.loop-export-test.false in
    let within : c.loop-export.export-index ≤ length c.args.exports =
    subst (λ (xs : List Exported). c.loop-export.export-index ≤ length xs) items c.loop-export.auto.export-index-end in
    (all_wrapped c.args.input.now c.loop-export.export-index c.args.exports c.loop-export.wrapped
    c.loop-export.wrappers c.requires.plain past within c.loop-export.invariant).1
