use Rattle.std.proofs.Common.{rules}
use Rattle.wl_linking.specs.Steps.{Clear}
use Rattle.wl_symbols.specs.Left.{same_import}
use Rattle.wl_bind.specs.Conflicts.{IsConflict}
use Rattle.wl_bind.specs.FunctionBinding.{host_functions}
use Rattle.wl_bind.specs.GlobalBinding.{host_globals}
use Rattle.wl_bind.proofs.SharedLaws.{no_conflict}
use Rattle.wl_bind.proofs.shared.check_hosts.Goals as goal

pub returns-clause-clear : goal.returns-clause-clear
returns-clause-clear c =
    let input = c.args.input.now in
    let functions : Clear (IsConflict input.link.objects same_import (host_functions input)) = search rules in
    let globals : Clear (IsConflict input.link.objects same_import (host_globals input)) = search rules in
    no_conflict input functions globals
