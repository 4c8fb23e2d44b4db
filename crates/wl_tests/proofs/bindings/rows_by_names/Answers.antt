use Rattle.std.proofs.Common.{◌≡◌, ◌∙◌, ℕ, ◌+◌, ◌<◌, suc, List, [], ◌∷◌, ◌++◌, length, map, drop, ap, sym, refl, arith, append_assoc, rules}
use Rattle.wl_linking.specs.Object.{Object}
use Rattle.wl_custom.specs.declared.symbols.WasmSymbolKind.TheVariants.{Func, Global}
use Rattle.wl_symbols.specs.ImportSlots.{object_slots}
use Rattle.wl_bind.specs.Resolutions.{named_resolution, rows_from, by_names}
use Rattle.wl_bind.specs.declared.resolution.ObjectImportResolutions.{ObjectImportResolutions}
use Rattle.wl_lists.proofs.Splits.{Splits, splits}
use Rattle.wl_tests.proofs.bindings.rows_by_names.Goals as goal

pub loop-object-preserved : goal.loop-object-preserved
loop-object-preserved c =
    let input = c.args.input.now in
    let objects : List Object = input.link.objects in
    let k = c.loop-object.object in
    let lt : k < length objects = search rules in
    let s : Splits objects k = splits objects k lt in
    let next : suc k ≡ k + 1 = omega arith in
    let rest : List ObjectImportResolutions = rows_from (by_names input) (k + 1) (drop (k + 1) objects) in
    let functions : c.new.result ≡ map (named_resolution input) (object_slots k Func s.x) =
    c.new.ensures ∙ (c.in_ok-functions.ensures.ok ∙ rw s.here refl) in
    let globals : c.new-in-loop-object.result ≡ map (named_resolution input) (object_slots k Global s.x) =
    c.new-in-loop-object.ensures ∙ (c.in_ok-globals.ensures.ok ∙ rw s.here refl) in
    let row : ObjectImportResolutions =
    record { function_resolutions = c.new.result; global_resolutions = c.new-in-loop-object.result } in
    let is : row ≡ record {
      function_resolutions = map (named_resolution input) (object_slots k Func s.x);
      global_resolutions = map (named_resolution input) (object_slots k Global s.x);
    } = rw (functions, globals) refl in
    let split : drop k objects ≡ s.x ∷ drop (k + 1) objects =
    s.split ∙ ap (λ (n : ℕ). s.x ∷ drop n objects) next in
    let here : row ∷ rest ≡ rows_from (by_names input) k (drop k objects) =
    ap (λ (r : ObjectImportResolutions). r ∷ rest) is ∙ sym (ap (rows_from (by_names input) k) split) in
    ap (λ (rows : List ObjectImportResolutions). rows ++ rest) c.in_ok-push.ensures.items
    ∙ (append_assoc c.loop-object.rows.items (row ∷ []) rest
    ∙ (ap (λ (more : List ObjectImportResolutions). c.loop-object.rows.items ++ more) here ∙ c.loop-object.invariant))
