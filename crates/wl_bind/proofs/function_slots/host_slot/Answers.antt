use Rattle.std.proofs.Common.{◌≡◌, ◌∙◌, ◌&&◌, sym, rules, bytes_eq, None, Some, option_map, slice_get, Bor}
use Rattle.std.specs.Option.{option_and_then}
use Rattle.wl_symbols.specs.Left.{HostImport, place_of_import}
use Rattle.wl_bind.specs.BindingSteps.{host_named}
use Rattle.wl_bind.proofs.LeftLaws.{place_gives}
use Rattle.wl_bind.proofs.function_slots.host_slot.Goals as goal

pub returns-in-None-clause-target : goal.returns-in-None-clause-target
returns-in-None-clause-target c =
    let slot = c.args.slot.now in
    let hosts = c.args.hosts.now in
    let at : option_map (λ (h : Bor HostImport). h.now) c.import_at.result ≡ option_and_then (slice_get hosts) (place_of_import slot.item.origin slot.item.name hosts) = search rules in
    let found = at ∙ place_gives (λ (h : HostImport). bytes_eq slot.item.origin h.module_ && bytes_eq slot.item.name h.name) hosts in
    let none : host_named slot.item.origin slot.item.name hosts ≡ None = sym found ∙ search rules in
    rw none (search rules)

pub returns-in-Some-clause-target : goal.returns-in-Some-clause-target
returns-in-Some-clause-target c =
    let slot = c.args.slot.now in
    let hosts = c.args.hosts.now in
    let at : option_map (λ (h : Bor HostImport). h.now) c.import_at.result ≡ option_and_then (slice_get hosts) (place_of_import slot.item.origin slot.item.name hosts) = search rules in
    let found = at ∙ place_gives (λ (h : HostImport). bytes_eq slot.item.origin h.module_ && bytes_eq slot.item.name h.name) hosts in
    let some : host_named slot.item.origin slot.item.name hosts ≡ Some c.in-Some.host.now = sym found ∙ search rules in
    rw some (search rules)
