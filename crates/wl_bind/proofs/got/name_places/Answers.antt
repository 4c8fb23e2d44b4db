use denote.Ref.{Bor}
use Rattle.std.proofs.Common.{ℕ, List, sym, true≢false}
use Rattle.std.specs.Option.{IsSome}
use Rattle.std.proofs.lemmas.Option.{slice_get_within}
use Rattle.wl_bind.proofs.GotLaws.{places_more}
use Rattle.wl_bind.proofs.got.name_places.Goals as goal
use Rattle.wl_bind.proofs.got.name_places.Goals.{in-Some+in_ok-note_name, in_default}

pub loop-place-preserved : goal.loop-place-preserved
loop-place-preserved g c =
    let es = c.args.entries.now.entries in
    let i = c.loop-place.place in
    elim c.match-get_index.branch [
      | in-Some+in_ok-note_name w ↦
          let e : g.row.K.Denot × Bor (List ℕ) = (w.in-Some.field-0-0.now, w.in-Some.name.now) in
          let here = sym w.in-Some.ensures.entry in
          rw w.places-is (places_more c.loop-place.places w.note_name.new.places es i e (slice_get_within es i e here) here
          c.loop-place.invariant w.in_ok-note_name.ensures)
      | in_default w ↦
          let some : IsSome c.get_index.result = c.get_index.ensures.found.1 (rw c.len-place-end.ensures.len at c.loop-place-test.true) in
          absurd (true≢false (sym (rw w.in_default.is at some)))
    ]
