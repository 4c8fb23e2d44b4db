use Rattle.std.proofs.Common.{◌≡◌, ◌∙◌, ◌<◌, ◌≤◌, List, length, map, get_or, ap, sym, subst, arith, eqb-true, refl, Some, slice_get}
use Rattle.std.proofs.lemmas.Option.{slice_get-get_or}
use Rattle.wl_linking.specs.Object.{Object}
use Rattle.wl_symbols.specs.Left.{HostImport}
use Rattle.wl_bind.specs.Shared.{Shared, global_imports}
use Rattle.wl_plan.specs.steps.Imports.{global_types_in}
use Rattle.wl_plan.specs.Imports.{IsGlobalImport}
use Rattle.wl_plan.proofs.ImportLaws.{adds_nothing, global_imported, global_is, has_row, import_more, imports_done}
use Rattle.wl_plan.proofs.imports.push_globals.Goals as goal

pub returns-then-is_empty : goal.returns-then-is_empty
returns-then-is_empty c =
    let input = c.args.input.now in
    let hosts : c.globals-hosts.result.now ≡ global_imports input =
    c.globals-hosts.ensures ∙ ap (λ (s : Shared). s.globals) c.requires.shared in
    let none : length c.globals-hosts.result.now ≡ 0 =
    eqb-true (length c.globals-hosts.result.now) 0 (sym c.is_empty.ensures ∙ c.if-is_empty.true) in
    imports_done (IsGlobalImport input) (global_imports input) 0 c.args.imports.now.items c.args.imports.now.items
    (subst (λ (hs : List HostImport). length hs ≤ 0) hosts (omega (arith, none)))
    (adds_nothing (IsGlobalImport input) c.args.imports.now.items)

pub loop-host-init : goal.loop-host-init
loop-host-init c = adds_nothing (IsGlobalImport c.args.input.now) c.args.imports.now.items

pub type_in_row-ty-requires : goal.type_in_row-ty-requires
type_in_row-ty-requires c =
    let input = c.args.input.now in
    let k = c.loop-host.host-index in
    let h = c.host-item.result in
    let hosts : c.globals-hosts.result.now ≡ global_imports input =
    c.globals-hosts.ensures ∙ ap (λ (s : Shared). s.globals) c.requires.shared in
    let lt : k < length (global_imports input) =
    subst (λ (hs : List HostImport). k < length hs) hosts c.loop-host-test.true in
    let is : h ≡ get_or (global_imports input) k h =
    c.host-item.is ∙ ap (λ (hs : List HostImport). get_or hs k h) hosts in
    let at : slice_get (global_imports input) k ≡ Some h =
    slice_get-get_or (global_imports input) k h lt ∙ ap (λ (g : HostImport). Some g) (sym is) in
    let rows : c.as_slice-types.result.now ≡ map global_types_in input.link.objects =
    c.as_slice-types.ensures ∙ (c.in_ok-types.ensures ∙ ap (λ (os : List Object). map global_types_in os)
    c.files.ensures.objects) in
    has_row input h c.host.inside.object c.host.inside.slot c.as_slice-types.result.now rows
    (ap (λ (g : HostImport). g.object) c.host.view_is) (ap (λ (g : HostImport). g.slot) c.host.view_is)
    (global_is input k h at)

pub loop-host-preserved : goal.loop-host-preserved
loop-host-preserved c =
    let input = c.args.input.now in
    let k = c.loop-host.host-index in
    let h = c.host-item.result in
    let hosts : c.globals-hosts.result.now ≡ global_imports input =
    c.globals-hosts.ensures ∙ ap (λ (s : Shared). s.globals) c.requires.shared in
    let lt : k < length (global_imports input) =
    subst (λ (hs : List HostImport). k < length hs) hosts c.loop-host-test.true in
    let is : h ≡ get_or (global_imports input) k h =
    c.host-item.is ∙ ap (λ (hs : List HostImport). get_or hs k h) hosts in
    let at : slice_get (global_imports input) k ≡ Some h =
    slice_get-get_or (global_imports input) k h lt ∙ ap (λ (g : HostImport). Some g) (sym is) in
    let rows : c.as_slice-types.result.now ≡ map global_types_in input.link.objects =
    c.as_slice-types.ensures ∙ (c.in_ok-types.ensures ∙ ap (λ (os : List Object). map global_types_in os)
    c.files.ensures.objects) in
    import_more (IsGlobalImport input) (global_imports input) k h _
    c.args.imports.now.items c.loop-host.imports.items c.push.new.self.items at
    (global_imported input h c.host.inside.object c.host.inside.slot c.as_slice-types.result.now
    c.type_in_row-ty.result _ rows (ap (λ (g : HostImport). g.object) c.host.view_is)
    (ap (λ (g : HostImport). g.slot) c.host.view_is) (global_is input k h at) c.type_in_row-ty.ensures
    (ap (λ (g : HostImport). g.module_) c.host.view_is) (ap (λ (g : HostImport). g.name) c.host.view_is) refl)
    c.in_ok-push.ensures.items c.loop-host.invariant

pub returns : goal.returns
returns c =
    let input = c.args.input.now in
    let k = c.loop-host.host-index in
    let hosts : c.globals-hosts.result.now ≡ global_imports input =
    c.globals-hosts.ensures ∙ ap (λ (s : Shared). s.globals) c.requires.shared in
    imports_done (IsGlobalImport input) (global_imports input) k
    c.args.imports.now.items c.loop-host.imports.items
    (subst (λ (hs : List HostImport). length hs ≤ k) hosts c.loop-host-test.false) c.loop-host.invariant
