use Rattle.wl_data.proofs.LayoutLaws.{laid_end}
use Rattle.wl_data.proofs.UniqueLaws.{laid_same}
use Rattle.wl_data.proofs.laws.layout_is_one.Goals as goal

pub returns-clause-layouts : goal.returns-clause-layouts
returns-clause-layouts c =
    laid_same (record { unsigned = c.shortest_form_is_one.ensures.unsigned; signed = c.shortest_form_is_one.ensures.signed })

pub returns-clause-end : goal.returns-clause-end
returns-clause-end c = laid_end
