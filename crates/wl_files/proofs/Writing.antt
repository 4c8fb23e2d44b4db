-- A text that is written piece by piece.
use Rattle.std.proofs.Common.{◌≡◌, ◌≤◌, ◌<◌, ℕ, List, ◌++◌, length, length-append, take, drop, refl, sym, ap, ◌∙◌, append_assoc, arith, Result, Ok, Err, OnErr}
use Rattle.std.proofs.lemmas.List.{take-append-drop, take_at}
use Rattle.std.proofs.KnownBytes.{Appends-trans, Appends-kept}
use Rattle.std.specs.Io.KnownBytes.{Appends, Keeps}
use Rattle.wl_files.specs.Sink.{SinkState, Took, TookPart}

pub record WritesOn (old new : SinkState) (text rest : List ℕ) : Type 0 where
  pub later : old.faults ≤ new.faults
  pub front : (done : List ℕ) × (text ≡ done ++ rest) × Took old new done

pub writes_more : (old mid new : SinkState) (text rest : List ℕ) (n : ℕ) → WritesOn old mid text rest → mid.faults ≤ new.faults → Appends mid.taken new.taken (take n rest) → WritesOn old new text (drop n rest)
writes_more old mid new text rest n h later more = record {
  later = omega (arith, h.later);
  front = (
    h.front.0 ++ take n rest,
    h.front.1 ∙ ap (λ xs. h.front.0 ++ xs) (sym (take-append-drop n rest)) ∙ sym (append_assoc (h.front.0) (take n rest) (drop n rest)),
    Appends-trans old.taken mid.taken new.taken _ _ h.front.2 more,
  );
}

pub part_written : (old mid new : SinkState) (text rest : List ℕ) → WritesOn old mid text rest → 0 < length rest → Keeps mid.taken new.taken → TookPart old new text
part_written old mid new text rest h left kept =
    let within : length h.front.0 < length text = rw h.front.1 (omega (arith, left, length-append (h.front.0) rest)) in
    (length h.front.0, within, rw (h.front.1, take_at h.front.0 rest (length h.front.0) refl) (Appends-kept old.taken mid.taken new.taken _ h.front.2 kept))

pub on_err : {T E P : Type 0} (r : Result T E) → P → OnErr r P
on_err (Ok x) p = tt
on_err (Err e) p = p
