use Rattle.wl_data.proofs.LayoutLaws.{objects_laid}
use Rattle.wl_data.proofs.SplitLaws.{row_splits}
use Rattle.wl_data.proofs.laws.objects_are_laid_as_one.Goals as goal

pub returns-clause-joins : goal.returns-clause-joins
returns-clause-joins c = objects_laid

pub returns-clause-splits : goal.returns-clause-splits
returns-clause-splits c = row_splits
