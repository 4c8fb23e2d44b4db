use Rattle.std.proofs.lemmas.Result.{err_from_is_err_and}
use Rattle.std.proofs.Common.{◌≡◌, ◌∙◌, List, ap, rules}
use Rattle.wl_linking.specs.Object.{Object}
use Rattle.wl_places.specs.Placing.{first_pages, memory_pages}
use Rattle.wl_places.proofs.PlacingLaws.{heap_clear, memory_clear, memory_steps_clear, stack_clear, stack_refused}
use Rattle.wl_places.proofs.placing.place_memory.Goals as goal

pub returns-in_err-stack_pointer-clause-err : goal.returns-in_err-stack_pointer-clause-err
returns-in_err-stack_pointer-clause-err c =
    let p = err_from_is_err_and c.from_residual.result c.from_residual.ensures.1 in
    rw (p.1, p.2) (stack_refused c.args.input.now c.args.places c.args.options c.requires.options c.requires.size
    c.in_err-stack_pointer.field-0.0 c.in_err-stack_pointer.ensures.err)

pub returns-clause-clear : goal.returns-clause-clear
returns-clause-clear c =
    let input = c.args.input.now in
    let places = c.args.places in
    let pages : c.in_ok-pages.pages ≡ memory_pages input places = search rules in
    memory_steps_clear input places
    (stack_clear input places c.args.options c.requires.options c.requires.size c.in_ok-stack_pointer.ensures.clear)
    (memory_clear input places c.args.options c.args-args.result.now c.first_pages.result c.requires.options c.args-args.ensures
    (c.first_pages.ensures.pages ∙ ap (λ (os : List Object). first_pages os) (c.as_slice.ensures.objects ∙ c.files.ensures.objects))
    c.in_ok-pages.ensures.clear)
    (heap_clear input places c.in_ok-pages.pages pages c.in_ok-heap_end_from_initial_pages.ensures.1)
