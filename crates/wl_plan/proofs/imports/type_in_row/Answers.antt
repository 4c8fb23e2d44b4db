use Rattle.wl_plan.proofs.ImportLaws.{number_within, row_is, row_within, type_read}
use Rattle.wl_plan.proofs.imports.type_in_row.Goals as goal

pub bounds-types-row : goal.bounds-types-row
bounds-types-row c = row_within c.args.types.now c.args.row c.args.number c.requires

pub bounds-as_slice-number : goal.bounds-as_slice-number
bounds-as_slice-number c =
    number_within c.args.types.now c.args.row c.args.number c.as_slice.result.now c.requires
    (row_is c.args.types.now c.args.row c.args.number c.index-types-row.result c.as_slice.result.now c.requires
    c.index-types-row.is c.as_slice.ensures)

pub returns : goal.returns
returns c =
    type_read c.args.types.now c.args.row c.args.number c.as_slice.result.now _ c.requires
    (row_is c.args.types.now c.args.row c.args.number c.index-types-row.result c.as_slice.result.now c.requires
    c.index-types-row.is c.as_slice.ensures)
