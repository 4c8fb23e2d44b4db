use Rattle.std.proofs.Common.{◌≡◌, rules}
use Rattle.wl_live.proofs.FollowedLaws.{followed_here}
use Rattle.wl_live.proofs.graphing.push_followed.Goals as goal

pub returns-in_ok-push_unit-2 : goal.returns-in_ok-push_unit-2
returns-in_ok-push_unit-2 c =
    let same : c.args.followed.from ≡ c.args.unit = search rules in
    λ v. rw (c.in_ok-push_unit-2.ensures, c.in_ok-push_unit.ensures) (followed_here c.args.followed c.args.unit v c.args.list.now.items same)
