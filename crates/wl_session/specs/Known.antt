-- What is known of objects, each by itself.
use Rattle.std.specs.Prelude.{◌≡◌, List}
use Rattle.wl_linking.specs.Object.{Object}
use Rattle.wl_symbols.specs.Entries.{Entry}
use Rattle.wl_symbols.specs.Index.{index_of}
use Rattle.wl_live.specs.Facts.{Facts, AreAllFacts}

-- the names are those of the objects, and the facts too
pub record IsKnown (objects : List Object) (names : List (List Entry)) (facts : List Facts) : Type 0
  where
    pub names_are : names ≡ index_of objects
    pub facts_are : AreAllFacts objects facts
