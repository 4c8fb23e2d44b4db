-- Where the data of all objects ends.
use Rattle.std.proofs.Common.{inl, inr, ◌<◌, ◌≤◌, ◌^◌, true, false, List, arith}
use Rattle.std.specs.List.{AllByRecursion}
use Rattle.wl_linking.specs.Steps.{Clear}
use Rattle.wl_data.specs.declared.pass.Frontier.{Frontier}
use Rattle.wl_data.specs.Segments.{SegmentLayout}
use Rattle.wl_data.specs.Layouts.{PassesRoom}
use Rattle.wl_data.specs.DataPlaces.{AllCanBePlaced, AreObjectsLaid, in_one_row, DataInput, data_start, tls_start, data_end, pass_over, EndsPastMemory, IsPastMemory}
use Rattle.wl_data.proofs.LayoutLaws.{objects_laid, same_end, some_place}
use Rattle.wl_data.proofs.ObjectLaws.{sound_row}
use Rattle.wl_data.proofs.OrderLaws.{tls_behind, end_behind}

-- where all data begins, and where that of threads does
abbrev pub first_frontier : DataInput → Frontier
first_frontier d = record { memory = data_start d.options; block = 0 }

abbrev pub own_frontier : DataInput → Frontier → Frontier
own_frontier d middle = record { memory = tls_start d middle.memory; block = middle.block }

-- ---- refusals

pub past_in_common : (d : DataInput) → AllByRecursion AllCanBePlaced d.objects → PassesRoom (pass_over d.options false) (in_one_row d.objects) (first_frontier d) → EndsPastMemory d
past_in_common d all p =
    let own = some_place (pass_over d.options true) (in_one_row d.objects) (own_frontier d p.end) (sound_row d.objects all) in
    record {
      common = p.placed;
      own = own.placed;
      middle = p.end;
      end = own.end;
      common_stand = p.stand;
      own_stand = own.stand;
      past = elim p.past [
        | inl x ↦ inl (omega (arith, x, tls_behind d p.end.memory, own.memory, end_behind d own.end.memory))
        | inr x ↦ inr (omega (arith, x, own.block))
      ];
    }

pub past_at_start : (d : DataInput) (middle : Frontier) (layouts : List (List SegmentLayout)) → AllByRecursion AllCanBePlaced d.objects → AreObjectsLaid (pass_over d.options false) d.objects (first_frontier d) middle layouts → 2 ^ 32 ≤ tls_start d middle.memory → EndsPastMemory d
past_at_start d middle layouts all p past =
    let common = objects_laid (pass_over d.options false) d.objects (first_frontier d) middle layouts p in
    let own = some_place (pass_over d.options true) (in_one_row d.objects) (own_frontier d middle) (sound_row d.objects all) in
    record {
      common = common.placed;
      own = own.placed;
      middle = middle;
      end = own.end;
      common_stand = common.stand;
      own_stand = own.stand;
      past = inl (omega (arith, past, own.memory, end_behind d own.end.memory));
    }

pub past_in_own : (d : DataInput) (middle : Frontier) (layouts : List (List SegmentLayout)) → AreObjectsLaid (pass_over d.options false) d.objects (first_frontier d) middle layouts → PassesRoom (pass_over d.options true) (in_one_row d.objects) (own_frontier d middle) → EndsPastMemory d
past_in_own d middle layouts p own =
    let common = objects_laid (pass_over d.options false) d.objects (first_frontier d) middle layouts p in
    record {
      common = common.placed;
      own = own.placed;
      middle = middle;
      end = own.end;
      common_stand = common.stand;
      own_stand = own.stand;
      past = elim own.past [ inl x ↦ inl (omega (arith, x, end_behind d own.end.memory)) | inr x ↦ inr x ];
    }

pub past_at_end : (d : DataInput) (middle end : Frontier) (layouts more : List (List SegmentLayout)) → AreObjectsLaid (pass_over d.options false) d.objects (first_frontier d) middle layouts
    → AreObjectsLaid (pass_over d.options true) d.objects (own_frontier d middle) end more → 2 ^ 32 ≤ data_end d end.memory → EndsPastMemory d
past_at_end d middle end layouts more p q past =
    let common = objects_laid (pass_over d.options false) d.objects (first_frontier d) middle layouts p in
    let own = objects_laid (pass_over d.options true) d.objects (own_frontier d middle) end more q in
    record {
      common = common.placed;
      own = own.placed;
      middle = middle;
      end = end;
      common_stand = common.stand;
      own_stand = own.stand;
      past = inl past;
    }

-- ---- no refusal

pub not_past : (d : DataInput) (middle end : Frontier) (layouts more : List (List SegmentLayout)) → AreObjectsLaid (pass_over d.options false) d.objects (first_frontier d) middle layouts
    → AreObjectsLaid (pass_over d.options true) d.objects (own_frontier d middle) end more → data_end d end.memory < 2 ^ 32 → end.block < 2 ^ 32 → Clear (IsPastMemory d)
not_past d middle end layouts more p q low block = record { none = λ e h. contradicts h.1 }
  where
    contradicts : EndsPastMemory d → ⊥
    contradicts h =
        let row = in_one_row d.objects in
        let common = objects_laid (pass_over d.options false) d.objects (first_frontier d) middle layouts p in
        let own = objects_laid (pass_over d.options true) d.objects (own_frontier d middle) end more q in
        let mid = same_end (pass_over d.options false) row (first_frontier d) middle h.middle common.placed h.common common.stand h.common_stand in
        let there = rw (← mid.0, ← mid.1) at h.own_stand in
        let last = same_end (pass_over d.options true) row (own_frontier d middle) end h.end own.placed h.own own.stand there in
        elim h.past [ inl x ↦ absurd (let y : 2 ^ 32 ≤ data_end d end.memory = rw last.0 x in omega arith) | inr x ↦ omega (arith, x, last.1) ]
