use Rattle.std.proofs.Common.{◌≡◌, ◌∙◌, ◌<◌, ℕ, List, arith, length, sym, subst}
use Rattle.wl_linking.specs.Object.{Object}
use Rattle.wl_bind.specs.FunctionSpace.{function_space, local_functions}
use Rattle.wl_bind.specs.GlobalSpace.{global_space, local_globals}
use Rattle.wl_symbols.specs.Input.{Input}
use Rattle.wl_bind.specs.OutputTypes.{AreTypeIndices}
use Rattle.wl_bind.specs.Parts.{AreIndicesOf, ArePlacesOf}
use Rattle.wl_bind.specs.IndexMaps.{symbol_functions, got_mem_globals, got_func_globals}
use Rattle.wl_bind.proofs.NumberingLaws.{same_object}
use Rattle.wl_lists.proofs.Rows.{object_here, rows_length, row_found}
use Rattle.wl_bind.proofs.index_maps.index_map.Goals as goal

abbrev AreFunctions : Input → ℕ → Object → List ℕ → Type 0
AreFunctions input object o = AreIndicesOf (function_space input) (local_functions input object o)

abbrev AreGlobals : Input → ℕ → Object → List ℕ → Type 0
AreGlobals input object o = AreIndicesOf (global_space input) (local_globals input object o)

pub row_copy-requires : goal.row_copy-requires
row_copy-requires c =
    let s = c.args.sources.now in
    let input = s.numbering.now.input.now in
    let long = rows_length (AreTypeIndices input) 0 input.link.objects s.types.now c.requires.sources.types in
    omega (arith, long, c.requires.within)

pub row_copy-requires-2 : goal.row_copy-requires-2
row_copy-requires-2 c =
    let s = c.args.sources.now in
    let input = s.numbering.now.input.now in
    let long = rows_length (AreFunctions input) 0 input.link.objects s.functions.now c.requires.sources.functions in
    omega (arith, long, c.requires.within)

pub row_copy-requires-3 : goal.row_copy-requires-3
row_copy-requires-3 c =
    let s = c.args.sources.now in
    let input = s.numbering.now.input.now in
    let long = rows_length (AreGlobals input) 0 input.link.objects s.globals.now c.requires.sources.globals in
    omega (arith, long, c.requires.within)

pub function_redirects-requires-clause-here : goal.function_redirects-requires-clause-here
function_redirects-requires-clause-here c =
    let objects = c.args.sources.now.numbering.now.input.now.link.objects in
    let files = c.as_slice-files.ensures.objects ∙ c.files.ensures.objects in
    let lt : c.args.object < length c.as_slice-files.result.now =
    subst (λ (os : List Object). c.args.object < length os) (sym files) c.requires.within in
    object_here objects c.as_slice-files.result.now c.args.object c.index-files-object.result files lt c.index-files-object.is

pub returns : goal.returns
returns c = λ o here.
    let s = c.args.sources.now in
    let input = s.numbering.now.input.now in
    let object = c.args.object in
    let files = c.as_slice-files.ensures.objects ∙ c.files.ensures.objects in
    let file = c.index-files-object.result in
    let same : file ≡ o =
    same_object input.link.objects c.as_slice-files.result.now object o file files c.index-files-object.is here in
    record {
      types = row_found (AreTypeIndices input) input.link.objects s.types.now object o
          c.in_ok-row_copy.field-0 c.requires.sources.types here c.in_ok-row_copy.ensures;
      functions = row_found (AreFunctions input) input.link.objects s.functions.now object o
          c.in_ok-row_copy-2.field-0 c.requires.sources.functions here c.in_ok-row_copy-2.ensures;
      globals = row_found (AreGlobals input) input.link.objects s.globals.now object o
          c.in_ok-row_copy-3.field-0 c.requires.sources.globals here c.in_ok-row_copy-3.ensures;
      segments = c.empty.ensures;
      addresses = c.empty-2.ensures;
      redirects = subst (λ (p : Object). ArePlacesOf (function_space input) (symbol_functions input object p)
          c.in_ok-function_redirects.field-0) same c.in_ok-function_redirects.ensures;
      got_mem = subst (λ (p : Object). ArePlacesOf (global_space input) (got_mem_globals input object p)
          c.in_ok-got.got.mem) same c.in_ok-got.ensures.mem;
      got_func = subst (λ (p : Object). ArePlacesOf (global_space input) (got_func_globals input object p)
          c.in_ok-got.got.func) same c.in_ok-got.ensures.func;
    }
