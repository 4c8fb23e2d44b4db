-- What is known of a link before its references are bound.
use Rattle.wl_linking.specs.Steps.{Clear}
use Rattle.wl_symbols.specs.Link.{Link}
use Rattle.wl_symbols.specs.Live.{IsLiveOf}
use Rattle.wl_symbols.specs.Repeats.{IsDuplicate}
use Rattle.wl_features.specs.Faults.{feature_fault}
use Rattle.wl_features.specs.Taken.{AreTaken}
use Rattle.wl_live.specs.Entry.{IsEntryFault}
use Rattle.wl_live.specs.Faults.{IsKeptFault}
use Rattle.wl_plan.specs.declared.link.KnownLink.{KnownLink}

-- no step up to the search for what is kept has a cause
pub record AreClear (link : Link) : Type 0 where
  pub names : Clear (IsDuplicate link.objects)
  pub features : Clear (feature_fault link)
  pub entry : Clear (IsEntryFault link)
  pub kept : Clear (IsKeptFault link)

-- these are its features and what is kept of it, and nothing refuses it so far
pub record IsKnownOf (link : Link) (known : KnownLink) : Type 0 where
  pub clear : AreClear link
  pub features : AreTaken link known.features
  pub live : IsLiveOf link known.live
