use Rattle.std.proofs.Common.{rules}
use Rattle.wl_bind.proofs.GotGlobalLaws.{func_has}
use Rattle.wl_bind.proofs.got_globals.got_func_global.Goals as goal

pub got_func-requires : goal.got_func-requires
got_func-requires c =
    func_has c.args.numbering.now c.requires.numbering c.args.object c.args.number
    c.in_ok-place.place (search rules)
