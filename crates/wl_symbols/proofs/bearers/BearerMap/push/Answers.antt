use Rattle.std.proofs.Common.{◌≡◌, ◌∙◌, List, bytes_eq, None, Some, unwrap_or, ap, refl, [], ◌∷◌, ◌++◌}
use Rattle.std.proofs.lemmas.Map.Text.{hash_map_updates_str}
use Rattle.wl_symbols.specs.Bearers.{found_in}
use Rattle.wl_symbols.specs.declared.bearers.Bearer.{Bearer}
use Rattle.wl_symbols.proofs.BearerLaws.{put_again}
use Rattle.wl_symbols.proofs.bearers.BearerMap.push.Goals as goal

pub returns : goal.returns
returns c = λ q.
    let found = found_in c.args.self.now.lists in
    let out = hash_map_updates_str c.args.name.now c.args.self.now.lists c.remove.new.self None c.remove.ensures.updates q in
    let put = hash_map_updates_str c.args.name.now c.remove.new.self c.insert.new.self (Some c.push.new.self) c.in_ok-insert.ensures.updates q in
    let was : c.unwrap_or-list.result ≡ unwrap_or (found c.args.name.now) [] = c.unwrap_or-list.ensures ∙ rw (c.remove.ensures.value, c.empty.ensures) refl in
    let list : c.push.new.self ≡ unwrap_or (found c.args.name.now) [] ++ c.args.bearer ∷ [] = c.in_ok-push.ensures.ok ∙ ap (λ (bs : List Bearer). bs ++ c.args.bearer ∷ []) was in
    put_again (bytes_eq c.args.name.now q) (found_in c.remove.new.self q) (Some c.push.new.self) (found q) (found_in c.insert.new.self q) (Some (unwrap_or (found c.args.name.now) [] ++ c.args.bearer ∷ [])) put out (ap (λ (bs : List Bearer). Some bs) list)
