use Rattle.std.proofs.Common.{◌∙◌, ℕ, refl, ap}
use Rattle.std.proofs.lemmas.Result.{err_from_is_err_and}
use Rattle.wl_places.specs.IndexSteps.{numbers_among}
use Rattle.wl_lists.proofs.Rows.{row_within}
use Rattle.wl_places.proofs.AddressLaws.{AreLaid, all_laid, once_for}
use Rattle.wl_places.proofs.IndexLaws.{first_room, high_symbol, made_whole, low_object}
use Rattle.wl_places.proofs.index_maps.whole_map.Goals as goal

pub layouts_of-layouts-requires : goal.layouts_of-layouts-requires
layouts_of-layouts-requires c =
    let book = c.args.book.now in
    row_within (AreLaid book.input.now) book.input.now.link.objects
    book.placing.now.places.layouts c.args.object c.requires.here.o
    (all_laid book.input.now book.placing.now c.segments_have_layouts.ensures
    c.requires.book.placed)
    c.requires.here.here

pub object_numbers-requires-clause-once : goal.object_numbers-requires-clause-once
object_numbers-requires-clause-once c =
    let book = c.args.book.now in
    once_for book.input.now book.placing.now c.args.object c.num_data_segments.result
    c.file_of-file.result.now c.file_of-file.result.now c.layouts_of-layouts.result.now
    (all_laid book.input.now book.placing.now c.segments_have_layouts.ensures
    c.requires.book.placed)
    c.file_of-file.ensures c.layouts_of-layouts.ensures refl c.num_data_segments.ensures

pub object_numbers-requires-clause-room : goal.object_numbers-requires-clause-room
object_numbers-requires-clause-room c =
    first_room c.args.book.now.placing.now c.args.object c.args.first
    c.layouts_of-layouts.result.now c.layouts_of-layouts.ensures c.requires.first
    c.requires.room

pub of_object-requires-clause-here : goal.of_object-requires-clause-here
of_object-requires-clause-here c = c.file_of-file.ensures

pub returns-in_err-data_addresses-clause-err : goal.returns-in_err-data_addresses-clause-err
returns-in_err-data_addresses-clause-err c =
    let p = err_from_is_err_and c.from_residual-in_err-data_addresses.result
    c.from_residual-in_err-data_addresses.ensures.1 in
    rw (p.1, p.2) (high_symbol c.args.book.now c.args.object c.in_err-data_addresses.field-0.0
    c.in_err-data_addresses.ensures.err)

pub returns-clause-ok : goal.returns-clause-ok
returns-clause-ok c =
    let book = c.args.book.now in
    made_whole book.input.now book.placing.now c.args.object c.args.first c.requires.here.o
    c.file_of-file.result.now c.args.map c.layouts_of-layouts.result.now
    c.in_ok-segment_indices.segment_indices c.in_ok-data_addresses.data_addresses
    (all_laid book.input.now book.placing.now c.segments_have_layouts.ensures
    c.requires.book.placed)
    c.requires.here.here c.requires.here.is c.file_of-file.ensures c.layouts_of-layouts.ensures
    c.requires.first
    (c.in_ok-segment_indices.ensures
    ∙ ap (λ (n : ℕ). numbers_among c.layouts_of-layouts.result.now c.args.first n)
    c.num_data_segments.ensures)
    c.in_ok-data_addresses.ensures.ok

pub returns-clause-low : goal.returns-clause-low
returns-clause-low c =
    low_object c.args.book.now c.args.object c.file_of-file.result.now c.file_of-file.ensures
    c.in_ok-data_addresses.ensures.low
