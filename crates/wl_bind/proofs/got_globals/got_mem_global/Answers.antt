use Rattle.std.proofs.Common.{rules}
use Rattle.wl_bind.proofs.GotGlobalLaws.{mem_has}
use Rattle.wl_bind.proofs.got_globals.got_mem_global.Goals as goal

pub got_mem-requires : goal.got_mem-requires
got_mem-requires c =
    mem_has c.args.numbering.now c.requires.numbering c.args.object c.args.number
    c.in_ok-place.place (search rules)
