use Rattle.std.proofs.Common.{◌≡◌, ◌∙◌, List, [], ◌∷◌, ◌++◌, length, map, sym, ap, subst, arith}
use Rattle.std.specs.List.{AllByRecursion, flat_map}
use Rattle.wl_lists.proofs.Places.{all_append}
use Rattle.wl_check.specs.Ranges.{InRange}
use Rattle.wl_check.specs.Texts.{line_text}
use Rattle.wl_check.specs.declared.line.Line.{Line}
use Rattle.wl_check.specs.declared.line.Line.TheVariants.{Version, Fix, Feature, End}
use Rattle.wl_plan.specs.ObjectSegments.{ObjectSegment}
use Rattle.wl_plan.specs.PlanLines.{numbered_lines, type_line, import_line, function_line, body_line, global_line, memory_lines, table_lines, slot_line, segment_line, export_line, start_lines, debug_line, lines_of, listing_text, HasListing, ArePayloadsSmall, AreDebugSectionsSmall}
use Rattle.wl_plan.proofs.FunctionLaws.{ok_then}
use Rattle.wl_plan.proofs.PlanLineLaws.{lines_are, on_ok, written_first, written_last, written_more}
use Rattle.wl_plan.proofs.lines.push_lines.Goals as goal

pub returns-clause-text : goal.returns-clause-text
returns-clause-text c =
    let plan = c.args.plan.now in
    let layout = plan.layout in
    let first = c.count_output_imports-functions.result.0 in
    let start = c.count_output_imports-functions.result.1 in
    let a0 = written_first c.args.page.now c.push_version_line.new.page c.requires.empty c.in_ok-push_version_line.ensures in
    let a1 = written_more c.push_types.new.page (numbered_lines type_line 0 c.as_slice.result.now) a0 c.in_ok-push_types.ensures.appended in
    let a2 = written_more c.push_imports.new.page (map import_line c.as_slice-2.result.now) a1 c.in_ok-push_imports.ensures.appended in
    let a3 = written_more c.push_functions.new.page (numbered_lines function_line first c.as_slice-3.result.now) a2 c.in_ok-push_functions.ensures.appended in
    let a4 = written_more c.push_bodies.new.page (numbered_lines body_line first c.as_slice-4.result.now) a3 c.in_ok-push_bodies.ensures.appended in
    let a5 = written_more c.push_globals.new.page (numbered_lines global_line start c.as_slice-5.result.now) a4 c.in_ok-push_globals.ensures.appended in
    let a6 = written_more c.push_memory.new.page (memory_lines layout.memory) a5 c.in_ok-push_memory.ensures.appended in
    let a7 = written_more c.push_table.new.page (table_lines layout.table) a6 c.in_ok-push_table.ensures.appended in
    let a8 = written_more c.push_slots.new.page (numbered_lines slot_line 1 c.as_slice-6.result.now) a7 c.in_ok-push_slots.ensures.appended in
    let a9 = written_more c.push_segments.new.page (numbered_lines segment_line 0 c.args.segments.now) a8 c.in_ok-push_segments.ensures.appended in
    let a10 = written_more c.push_exports.new.page (map export_line c.as_slice-7.result.now) a9 c.in_ok-push_exports.ensures.appended in
    let a11 = written_more c.push_start.new.page (start_lines layout.start_function) a10 c.in_ok-push_start.ensures.appended in
    let a12 = written_more c.push_fixups.new.page (map Fix c.as_slice-8.result.now) a11 c.in_ok-push_fixups.ensures.appended in
    let a13 = written_more c.push_features.new.page (map Feature (map (λ n. n.now) c.as_slice-9.result.now)) a12 c.in_ok-push_features.ensures.appended in
    let a14 = written_more c.push_debug_sections.new.page (map debug_line c.as_slice-10.result.now) a13 c.in_ok-push_debug_sections.ensures.appended in
    let segments = c.requires.segments in
    let same = lines_are plan c.as_slice.result.now c.as_slice-2.result.now first c.as_slice-3.result.now c.as_slice-4.result.now start c.as_slice-5.result.now c.as_slice-6.result.now c.args.segments.now
    c.as_slice-7.result.now c.as_slice-8.result.now (map (λ n. n.now) c.as_slice-9.result.now) c.as_slice-10.result.now
    c.as_slice.ensures c.as_slice-2.ensures c.count_output_imports-functions.ensures.functions c.as_slice-3.ensures c.as_slice-4.ensures c.count_output_imports-functions.ensures.globals c.as_slice-5.ensures
    c.as_slice-6.ensures segments c.as_slice-7.ensures c.as_slice-8.ensures c.as_slice-9.ensures c.as_slice-10.ensures in
    ok_then c.push_end_line.result
    (c.push_end_line.new.page ≡ c.push_debug_sections.new.page ++ line_text End)
    (c.push_end_line.new.page ≡ listing_text plan)
    (λ is. (written_last c.push_end_line.new.page a14 is).text
    ∙ ap (λ (ls : List Line). flat_map line_text ls) same)
    c.push_end_line.ensures

pub returns-clause-fits : goal.returns-clause-fits
returns-clause-fits c =
    let plan = c.args.plan.now in
    let layout = plan.layout in
    let first = c.count_output_imports-functions.result.0 in
    let start = c.count_output_imports-functions.result.1 in
    let segments = c.requires.segments in
    let same = lines_are plan c.as_slice.result.now c.as_slice-2.result.now first c.as_slice-3.result.now c.as_slice-4.result.now start c.as_slice-5.result.now c.as_slice-6.result.now c.args.segments.now
    c.as_slice-7.result.now c.as_slice-8.result.now (map (λ n. n.now) c.as_slice-9.result.now) c.as_slice-10.result.now
    c.as_slice.ensures c.as_slice-2.ensures c.count_output_imports-functions.ensures.functions c.as_slice-3.ensures c.as_slice-4.ensures c.count_output_imports-functions.ensures.globals c.as_slice-5.ensures
    c.as_slice-6.ensures segments c.as_slice-7.ensures c.as_slice-8.ensures c.as_slice-9.ensures c.as_slice-10.ensures in
    let fit : HasListing plan → AllByRecursion InRange (lines_of plan) = λ h.
    let hf = c.count_output_imports-functions.ensures.functions in
    let hg = c.count_output_imports-functions.ensures.globals in
    let l1 = ap (λ (xs : _). length xs) c.as_slice.ensures in
    let l3 = ap (λ (xs : _). length xs) c.as_slice-3.ensures in
    let l4 = ap (λ (xs : _). length xs) c.as_slice-4.ensures in
    let l5 = ap (λ (xs : _). length xs) c.as_slice-5.ensures in
    let l6 = ap (λ (xs : _). length xs) c.as_slice-6.ensures in
    let l7 = ap (λ (xs : List ObjectSegment). length xs) segments in
    let n1 = h.types in
    let n3 = h.functions in
    let n4 = h.bodies in
    let n5 = h.globals in
    let n6 = h.slots in
    let n7 = h.segments in
    let b0 : AllByRecursion InRange (Version ∷ []) = (tt, tt) in
    let b1 = all_append InRange (Version ∷ []) (numbered_lines type_line 0 c.as_slice.result.now) b0 (c.in_ok-push_types.ensures.fits (omega (arith, l1, n1))) in
    let x1 = (Version ∷ []) ++ numbered_lines type_line 0 c.as_slice.result.now in
    let b2 = all_append InRange x1 (map import_line c.as_slice-2.result.now) b1 (c.in_ok-push_imports.ensures.fits) in
    let x2 = x1 ++ map import_line c.as_slice-2.result.now in
    let b3 = all_append InRange x2 (numbered_lines function_line first c.as_slice-3.result.now) b2 (c.in_ok-push_functions.ensures.fits (omega (arith, hf, l3, n3))) in
    let x3 = x2 ++ numbered_lines function_line first c.as_slice-3.result.now in
    let b4 = all_append InRange x3 (numbered_lines body_line first c.as_slice-4.result.now) b3 (c.in_ok-push_bodies.ensures.fits (omega (arith, hf, l4, n4))) in
    let x4 = x3 ++ numbered_lines body_line first c.as_slice-4.result.now in
    let b5 = all_append InRange x4 (numbered_lines global_line start c.as_slice-5.result.now) b4 (c.in_ok-push_globals.ensures.fits (omega (arith, hg, l5, n5))) in
    let x5 = x4 ++ numbered_lines global_line start c.as_slice-5.result.now in
    let b6 = all_append InRange x5 (memory_lines layout.memory) b5 (c.in_ok-push_memory.ensures.fits) in
    let x6 = x5 ++ memory_lines layout.memory in
    let b7 = all_append InRange x6 (table_lines layout.table) b6 (c.in_ok-push_table.ensures.fits) in
    let x7 = x6 ++ table_lines layout.table in
    let b8 = all_append InRange x7 (numbered_lines slot_line 1 c.as_slice-6.result.now) b7 (c.in_ok-push_slots.ensures.fits (omega (arith, l6, n6))) in
    let x8 = x7 ++ numbered_lines slot_line 1 c.as_slice-6.result.now in
    let b9 = all_append InRange x8 (numbered_lines segment_line 0 c.args.segments.now) b8 (c.in_ok-push_segments.ensures.fits (omega (arith, l7, n7)) (subst (λ (ss : List ObjectSegment). ArePayloadsSmall ss) (sym segments) h.payloads)) in
    let x9 = x8 ++ numbered_lines segment_line 0 c.args.segments.now in
    let b10 = all_append InRange x9 (map export_line c.as_slice-7.result.now) b9 (c.in_ok-push_exports.ensures.fits) in
    let x10 = x9 ++ map export_line c.as_slice-7.result.now in
    let b11 = all_append InRange x10 (start_lines layout.start_function) b10 (c.in_ok-push_start.ensures.fits) in
    let x11 = x10 ++ start_lines layout.start_function in
    let b12 = all_append InRange x11 (map Fix c.as_slice-8.result.now) b11 (c.in_ok-push_fixups.ensures.fits) in
    let x12 = x11 ++ map Fix c.as_slice-8.result.now in
    let b13 = all_append InRange x12 (map Feature (map (λ n. n.now) c.as_slice-9.result.now)) b12 (c.in_ok-push_features.ensures.fits) in
    let x13 = x12 ++ map Feature (map (λ n. n.now) c.as_slice-9.result.now) in
    let b14 = all_append InRange x13 (map debug_line c.as_slice-10.result.now) b13 (c.in_ok-push_debug_sections.ensures.fits (subst (λ (ds : _). AreDebugSectionsSmall ds) (sym c.as_slice-10.ensures) h.debug_sections)) in
    let x14 = x13 ++ map debug_line c.as_slice-10.result.now in
    subst (λ (ls : List Line). AllByRecursion InRange ls) same (all_append InRange x14 (End ∷ []) b14 (tt, tt)) in
    on_ok c.push_end_line.result (HasListing plan → AllByRecursion InRange (lines_of plan)) fit
