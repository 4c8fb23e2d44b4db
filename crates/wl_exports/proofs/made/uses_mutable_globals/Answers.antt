use Rattle.std.proofs.Common.{◌∙◌, sym, ap, List, ℕ, codes}
use Rattle.std.specs.List.{list_any}
use Rattle.std.specs.Str.{bytes_eq}
use Rattle.wl_exports.proofs.ThreadLaws.{any_map, used_is}
use Rattle.wl_exports.proofs.made.uses_mutable_globals.Goals as goal

pub returns : goal.returns
returns c =
    let input = c.args.sources.now.input.now in
    c.has_name.ensures
    ∙ (sym (any_map (bytes_eq (codes "mutable-globals")) c.as_slice.result.now)
    ∙ ap (λ (ns : List (List ℕ)). list_any (bytes_eq (codes "mutable-globals")) ns) c.as_slice.ensures
    ∙ used_is input.link c.args.sources.now.features.now (bytes_eq (codes "mutable-globals")) c.requires.features)
