-- How exports are wrapped.
use Rattle.std.specs.Prelude.{ℕ, Bool, true, false, List, [], ◌∷◌, ◌++◌}
use Rattle.wl_module.specs.Exports.{Exported}
use Rattle.wl_exports.specs.Wrapped.{WrapperEntry}

-- the exports with one more, which leads to that index if it is wrapped
abbrev pub with_export : Bool → ℕ → Exported → List Exported → List Exported
with_export false index x exports = exports ++ x ∷ []
with_export true index x exports =
    exports ++ record { name = x.name; kind = x.kind; index = index } ∷ []

-- the wrappers with that of one more export, if it is wrapped
abbrev pub with_wrapper : Bool → Exported → List WrapperEntry → List WrapperEntry
with_wrapper false x wrappers = wrappers
with_wrapper true x wrappers = wrappers ++ record { name = x.name; original = x.index } ∷ []
