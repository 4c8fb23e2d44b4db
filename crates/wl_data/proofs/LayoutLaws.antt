-- Where segments lie.
use Rattle.std.proofs.Common.{◌≡◌, inl, inr, ℕ, ◌+◌, ◌<◌, ◌≤◌, ◌^◌, Bool, true, false, cond, List, [], ◌∷◌, ◌++◌, length, map, refl, sym, ap, ◌∙◌, subst, arith, take-append-drop, take, drop, get_or, zero, suc}
use Rattle.std.specs.Prelude.{filter, ◌==◌}
use Rattle.std.specs.Int.{next_multiple_of}
use Rattle.std.specs.List.{AllByRecursion}
use Rattle.std.proofs.lemmas.List.{map-append, take_more}
use Rattle.wl_linking.specs.Steps.{Clear}
use Rattle.std.proofs.lemmas.List.Elements.{filter-append}
use Rattle.wl_data.specs.declared.pass.Frontier.{Frontier}
use Rattle.wl_data.specs.declared.pass.Pass.{Pass}
use Rattle.wl_data.specs.Segments.{KeptData, SegmentLayout}
use Rattle.wl_data.specs.Spans.{AreInRow, IsLeastAligned}
use Rattle.wl_data.specs.Layouts.{CanBePlaced, is_chosen, goes_to_block, goes_to_memory, block_alignment, PlacedData, span_of, spans_of, memory_spans, block_spans, ArePlaced, StandsThere, PassesAt, IsLayoutOf, AreLayoutsOf, AreLaidOut, PassesRoom, HasNoRoom}
use Rattle.wl_data.specs.DataPlaces.{AreObjectsLaid, in_one_row}
use Rattle.wl_data.proofs.Multiples.{least_found}
use Rattle.wl_data.proofs.SpanLaws.{row_append, row_one, need_of, Need}

-- ---- one segment

one_in : (test : KeptData → Bool) (al : KeptData → ℕ) (st : PlacedData) → test st.segment ≡ true → spans_of test al (st ∷ []) ≡ span_of al st ∷ []
one_in test al st e = rw e refl

one_out : (test : KeptData → Bool) (al : KeptData → ℕ) (st : PlacedData) → test st.segment ≡ false → spans_of test al (st ∷ []) ≡ []
one_out test al st e = rw e refl

no_memory : (pass : Pass) (s : KeptData) → goes_to_block pass s ≡ true → goes_to_memory pass s ≡ false
no_memory pass s e = rw e refl

pub block_stands : (pass : Pass) (s : KeptData) (start : Frontier) (place end : ℕ) → goes_to_block pass s ≡ true → IsLeastAligned (block_alignment s) start.block place → end ≡ place + length s.payload → StandsThere pass start (record { memory = start.memory; block = end }) (record { segment = s; place = place })
block_stands pass s start place end e l is =
    let st : PlacedData = record { segment = s; place = place } in
    record {
      memory = rw (one_out (goes_to_memory pass) (λ x. x.alignment) st (no_memory pass s e)) refl;
      block = rw (one_in (goes_to_block pass) block_alignment st e) (l, is);
    }

pub memory_stands : (pass : Pass) (s : KeptData) (start : Frontier) (place end : ℕ) → goes_to_block pass s ≡ false → goes_to_memory pass s ≡ true → IsLeastAligned s.alignment start.memory place → end ≡ place + length s.payload → StandsThere pass start (record { memory = end; block = start.block }) (record { segment = s; place = place })
memory_stands pass s start place end n e l is =
    let st : PlacedData = record { segment = s; place = place } in
    record {
      memory = rw (one_in (goes_to_memory pass) (λ x. x.alignment) st e) (l, is);
      block = rw (one_out (goes_to_block pass) block_alignment st n) refl;
    }

pub nowhere_stands : (pass : Pass) (s : KeptData) (start : Frontier) (place : ℕ) → goes_to_block pass s ≡ false → goes_to_memory pass s ≡ false → StandsThere pass start start (record { segment = s; place = place })
nowhere_stands pass s start place n e =
    let st : PlacedData = record { segment = s; place = place } in
    record {
      memory = rw (one_out (goes_to_memory pass) (λ x. x.alignment) st e) refl;
      block = rw (one_out (goes_to_block pass) block_alignment st n) refl;
    }

pub some_alignment : (s : KeptData) → 0 < s.alignment → 0 < block_alignment s
some_alignment s p = at (length s.payload == 0)
  where
    at : (b : Bool) → 0 < cond b 1 s.alignment
    at true = omega arith
    at false = p

pub block_passes : (pass : Pass) (s : KeptData) (start : Frontier) → goes_to_block pass s ≡ true → 0 < s.alignment → 2 ^ 32 ≤ next_multiple_of start.block (block_alignment s) + length s.payload → PassesAt pass s start
block_passes pass s start e p past =
    let place = next_multiple_of start.block (block_alignment s) in
    record {
      place = place;
      end = record { memory = start.memory; block = place + length s.payload };
      stands = block_stands pass s start place (place + length s.payload) e (least_found (block_alignment s) start.block (some_alignment s p)) refl;
      past = inr past;
    }

pub memory_passes : (pass : Pass) (s : KeptData) (start : Frontier) → goes_to_block pass s ≡ false → goes_to_memory pass s ≡ true → 0 < s.alignment → 2 ^ 32 ≤ next_multiple_of start.memory s.alignment + length s.payload → PassesAt pass s start
memory_passes pass s start n e p past =
    let place = next_multiple_of start.memory s.alignment in
    record {
      place = place;
      end = record { memory = place + length s.payload; block = start.block };
      stands = memory_stands pass s start place (place + length s.payload) n e (least_found s.alignment start.memory p) refl;
      past = inl past;
    }

pub one_standing : (pass : Pass) (a b : Frontier) (st : PlacedData) → is_chosen pass st.segment ≡ true → StandsThere pass a b st → ArePlaced pass (st.segment ∷ []) a b (st ∷ [])
one_standing pass a b st e s = record { chosen = rw e refl; memory = s.memory; block = s.block }

pub none_standing : (pass : Pass) (a : Frontier) (s : KeptData) → is_chosen pass s ≡ false → ArePlaced pass (s ∷ []) a a []
none_standing pass a s e = record { chosen = rw e refl; memory = refl; block = refl }

-- ---- several segments

pub spans_of-append : (test : KeptData → Bool) (al : KeptData → ℕ) (xs ys : List PlacedData) → spans_of test al (xs ++ ys) ≡ spans_of test al xs ++ spans_of test al ys
spans_of-append test al xs ys =
    ap (map (span_of al)) (filter-append (λ (s : PlacedData). test s.segment) xs ys)
    ∙ map-append (span_of al) (filter (λ (s : PlacedData). test s.segment) xs) (filter (λ (s : PlacedData). test s.segment) ys)

pub standing_append : (pass : Pass) (xs ys : List KeptData) (a b c : Frontier) (s t : List PlacedData) → ArePlaced pass xs a b s → ArePlaced pass ys b c t → ArePlaced pass (xs ++ ys) a c (s ++ t)
standing_append pass xs ys a b c s t p q = record {
  chosen = map-append (λ (x : PlacedData). x.segment) s t ∙ ap (λ (l : List KeptData). l ++ map (λ (x : PlacedData). x.segment) t) p.chosen ∙ ap (λ (l : List KeptData). filter (is_chosen pass) xs ++ l) q.chosen ∙ sym (filter-append (is_chosen pass) xs ys);
  memory = rw (spans_of-append (goes_to_memory pass) (λ x. x.alignment) s t) (row_append a.memory (memory_spans pass s) (memory_spans pass t) b.memory c.memory p.memory q.memory);
  block = rw (spans_of-append (goes_to_block pass) block_alignment s t) (row_append a.block (block_spans pass s) (block_spans pass t) b.block c.block p.block q.block);
}

layouts_append : (pass : Pass) (s t : List PlacedData) (l m : List SegmentLayout) → AreLayoutsOf pass s l → AreLayoutsOf pass t m → AreLayoutsOf pass (s ++ t) (l ++ m)
layouts_append pass [] t [] m p q = q
layouts_append pass [] t (x ∷ l) m p q = absurd p
layouts_append pass (x ∷ s) t [] m p q = absurd p
layouts_append pass (x ∷ s) t (y ∷ l) m p q = (p.0, layouts_append pass s t l m p.1 q)

pub laid_append : (pass : Pass) (xs ys : List KeptData) (a b c : Frontier) (l m : List SegmentLayout) → AreLaidOut pass xs a b l → AreLaidOut pass ys b c m → AreLaidOut pass (xs ++ ys) a c (l ++ m)
laid_append pass xs ys a b c l m p q = record {
  placed = p.placed ++ q.placed;
  stand = standing_append pass xs ys a b c p.placed q.placed p.stand q.stand;
  laid = layouts_append pass p.placed q.placed l m p.laid q.laid;
}

pub laid_nothing : (pass : Pass) (a : Frontier) → AreLaidOut pass [] a a []
laid_nothing pass a = record { placed = []; stand = record { chosen = refl; memory = refl; block = refl }; laid = tt }

-- ---- there is one place

abbrev need_in : (KeptData → ℕ) → KeptData → Need
need_in al x = record { alignment = al x; size = length x.payload }

needs_are : (test : KeptData → Bool) (al : KeptData → ℕ) (st : List PlacedData) → map need_of (spans_of test al st) ≡ map (need_in al) (filter test (map (λ (s : PlacedData). s.segment) st))
needs_are test al [] = refl
needs_are test al (s ∷ st) = at (test s.segment) refl (needs_are test al st)
  where
    at : (b : Bool) → test s.segment ≡ b → map need_of (spans_of test al st) ≡ map (need_in al) (filter test (map (λ (s : PlacedData). s.segment) st))
        → map need_of (spans_of test al (s ∷ st)) ≡ map (need_in al) (filter test (map (λ (s : PlacedData). s.segment) (s ∷ st)))
    at true e h = rw e (ap (λ (l : List Need). need_in al s.segment ∷ l) h)
    at false e h = rw e h

pub same_rows : (test : KeptData → Bool) (al : KeptData → ℕ) (s t : List PlacedData) (a b c : ℕ) → map (λ (x : PlacedData). x.segment) s ≡ map (λ (x : PlacedData). x.segment) t → AreInRow a (spans_of test al s) b → AreInRow a (spans_of test al t) c → spans_of test al s ≡ spans_of test al t
same_rows test al s t a b c e p q =
    (row_one a (spans_of test al s) (spans_of test al t) b c (needs_are test al s ∙ ap (λ (l : List KeptData). map (need_in al) (filter test l)) e ∙ sym (needs_are test al t)) p q).0

same_row : (test : KeptData → Bool) (al : KeptData → ℕ) (s t : List PlacedData) (a b c : ℕ) → map (λ (x : PlacedData). x.segment) s ≡ map (λ (x : PlacedData). x.segment) t → AreInRow a (spans_of test al s) b → AreInRow a (spans_of test al t) c → b ≡ c
same_row test al s t a b c e p q =
    (row_one a (spans_of test al s) (spans_of test al t) b c (needs_are test al s ∙ ap (λ (l : List KeptData). map (need_in al) (filter test l)) e ∙ sym (needs_are test al t)) p q).1

pub same_end : (pass : Pass) (xs : List KeptData) (a b c : Frontier) (s t : List PlacedData) → ArePlaced pass xs a b s → ArePlaced pass xs a c t → (b.memory ≡ c.memory) × (b.block ≡ c.block)
same_end pass xs a b c s t p q =
    let same = p.chosen ∙ sym q.chosen in
    (same_row (goes_to_memory pass) (λ x. x.alignment) s t a.memory b.memory c.memory same p.memory q.memory, same_row (goes_to_block pass) block_alignment s t a.block b.block c.block same p.block q.block)

-- where all have room the frontier passes nothing
pub no_pass : (pass : Pass) (xs : List KeptData) (a b : Frontier) (l : List SegmentLayout) → AreLaidOut pass xs a b l → b.memory < 2 ^ 32 → b.block < 2 ^ 32 → Clear (HasNoRoom pass xs a)
no_pass pass xs a b l p m n = record {
  none = λ e h.
      let q = h.1 in
      let same = same_end pass xs a b q.end p.placed q.placed p.stand q.stand in
      elim q.past [ inl x ↦ omega (arith, same.0) | inr x ↦ omega (arith, same.1) ];
}

-- ---- there is always a place

pub record IsPlace (pass : Pass) (xs : List KeptData) (a : Frontier) : Type 0 where
  pub placed : List PlacedData
  pub end : Frontier
  pub stand : ArePlaced pass xs a end placed
  pub memory : a.memory ≤ end.memory
  pub block : a.block ≤ end.block

one_place : (pass : Pass) (s : KeptData) (a : Frontier) → CanBePlaced s → IsPlace pass (s ∷ []) a
one_place pass s a sound = chosen (is_chosen pass s) refl
  where
    inside : (b m : Bool) → goes_to_block pass s ≡ b → goes_to_memory pass s ≡ m → is_chosen pass s ≡ true → IsPlace pass (s ∷ []) a
    inside true m e f c =
        let place = next_multiple_of a.block (block_alignment s) in
        record {
          placed = record { segment = s; place = place } ∷ [];
          end = record { memory = a.memory; block = place + length s.payload };
          stand = one_standing pass a (record { memory = a.memory; block = place + length s.payload }) (record { segment = s; place = place }) c (block_stands pass s a place (place + length s.payload) e (least_found (block_alignment s) a.block (some_alignment s sound.aligned)) refl);
          memory = omega arith;
          block = omega arith;
        }
    inside false true e f c =
        let place = next_multiple_of a.memory s.alignment in
        record {
          placed = record { segment = s; place = place } ∷ [];
          end = record { memory = place + length s.payload; block = a.block };
          stand = one_standing pass a (record { memory = place + length s.payload; block = a.block }) (record { segment = s; place = place }) c (memory_stands pass s a place (place + length s.payload) e f (least_found s.alignment a.memory sound.aligned) refl);
          memory = omega arith;
          block = omega arith;
        }
    inside false false e f c = record {
      placed = record { segment = s; place = 0 } ∷ [];
      end = a;
      stand = one_standing pass a a (record { segment = s; place = 0 }) c (nowhere_stands pass s a 0 e f);
      memory = omega arith;
      block = omega arith;
    }

    chosen : (b : Bool) → is_chosen pass s ≡ b → IsPlace pass (s ∷ []) a
    chosen true c = inside (goes_to_block pass s) (goes_to_memory pass s) refl refl c
    chosen false c = record { placed = []; end = a; stand = none_standing pass a s c; memory = omega arith; block = omega arith }

pub some_place : (pass : Pass) (xs : List KeptData) (a : Frontier) → AllByRecursion CanBePlaced xs → IsPlace pass xs a
some_place pass [] a all = record { placed = []; end = a; stand = record { chosen = refl; memory = refl; block = refl }; memory = omega arith; block = omega arith }
some_place pass (x ∷ xs) a all =
    let first = one_place pass x a all.0 in
    let rest = some_place pass xs first.end all.1 in
    record {
      placed = first.placed ++ rest.placed;
      end = rest.end;
      stand = standing_append pass (x ∷ []) xs a first.end rest.end first.placed rest.placed first.stand rest.stand;
      memory = omega (arith, first.memory, rest.memory);
      block = omega (arith, first.block, rest.block);
    }

-- a cursor that has passed stays there
pub passes_on : (pass : Pass) (xs ys : List KeptData) (a : Frontier) → AllByRecursion CanBePlaced ys → PassesRoom pass xs a → PassesRoom pass (xs ++ ys) a
passes_on pass xs ys a all p =
    let rest = some_place pass ys p.end all in
    record {
      placed = p.placed ++ rest.placed;
      end = rest.end;
      stand = standing_append pass xs ys a p.end rest.end p.placed rest.placed p.stand rest.stand;
      past = elim p.past [ inl x ↦ inl (omega (arith, rest.memory)) | inr x ↦ inr (omega (arith, rest.block)) ];
    }

-- a cursor leaves the room after those that have room
pub passes_behind : (pass : Pass) (xs ys : List KeptData) (a b : Frontier) (l : List SegmentLayout) → AreLaidOut pass xs a b l → PassesRoom pass ys b → PassesRoom pass (xs ++ ys) a
passes_behind pass xs ys a b l p q = record {
  placed = p.placed ++ q.placed;
  end = q.end;
  stand = standing_append pass xs ys a b q.end p.placed q.placed p.stand q.stand;
  past = q.past;
}

pub passes_one : (pass : Pass) (s : KeptData) (a : Frontier) → is_chosen pass s ≡ true → PassesAt pass s a → PassesRoom pass (s ∷ []) a
passes_one pass s a e p = record {
  placed = record { segment = s; place = p.place } ∷ [];
  end = p.end;
  stand = one_standing pass a p.end (record { segment = s; place = p.place }) e p.stands;
  past = p.past;
}

-- ---- refusals

pub laid_one : (pass : Pass) (s : KeptData) (place : ℕ) (a b : Frontier) (l : SegmentLayout) → is_chosen pass s ≡ true → StandsThere pass a b (record { segment = s; place = place }) → IsLayoutOf pass (record { segment = s; place = place }) l → AreLaidOut pass (s ∷ []) a b (l ∷ [])
laid_one pass s place a b l e p q = record {
  placed = record { segment = s; place = place } ∷ [];
  stand = one_standing pass a b (record { segment = s; place = place }) e p;
  laid = (q, tt);
}

-- ---- the loop

pub laid_more : (pass : Pass) (segments : List KeptData) (i : ℕ) (s : KeptData) (a b c : Frontier) (old new more : List SegmentLayout) → i < length segments → s ≡ get_or segments i s
    → AreLaidOut pass (take i segments) a b old → AreLaidOut pass (s ∷ []) b c more → new ≡ old ++ more → AreLaidOut pass (take (i + 1) segments) a c new
laid_more pass segments i s a b c old new more lt is p q e =
    rw (take_more segments i s lt, ← is, e) (laid_append pass (take i segments) (s ∷ []) a b c old more p q)

sound_from : (segments : List KeptData) (i : ℕ) → AllByRecursion CanBePlaced segments → AllByRecursion CanBePlaced (drop i segments)
sound_from segments zero all = all
sound_from [] (suc i) all = tt
sound_from (x ∷ segments) (suc i) all = sound_from segments i all.1

pub passes_there : (pass : Pass) (segments : List KeptData) (i : ℕ) (s : KeptData) (a b : Frontier) (l : List SegmentLayout) → i < length segments → s ≡ get_or segments i s → AllByRecursion CanBePlaced segments
    → AreLaidOut pass (take i segments) a b l → PassesRoom pass (s ∷ []) b → PassesRoom pass segments a
passes_there pass segments i s a b l lt is all p q =
    let here : PassesRoom pass (take (i + 1) segments) a = rw (take_more segments i s lt, ← is) (passes_behind pass (take i segments) (s ∷ []) a b l p q) in
    let whole : take (i + 1) segments ++ drop (i + 1) segments ≡ segments = take-append-drop (i + 1) segments in
    subst (λ (xs : List KeptData). PassesRoom pass xs a) whole (passes_on pass (take (i + 1) segments) (drop (i + 1) segments) a (sound_from segments (i + 1) all) here)

-- ---- without a block

row_none : (test : KeptData → Bool) (al : KeptData → ℕ) (st : List PlacedData) → ((s : KeptData) → test s ≡ false) → spans_of test al st ≡ []
row_none test al [] none = refl
row_none test al (s ∷ st) none =
    let e : test s.segment ≡ false = none s.segment in
    rw e (row_none test al st none)

no_block : (pass : Pass) (s : KeptData) → pass.has_block ≡ false → goes_to_block pass s ≡ false
no_block pass s e = rw e refl

pub laid_in_memory : (pass : Pass) (xs : List KeptData) (a b : Frontier) (l : List SegmentLayout) → pass.has_block ≡ false → AreLaidOut pass xs a b l → AreLaidOut pass xs a (record { memory = b.memory; block = a.block }) l
laid_in_memory pass xs a b l e p = record {
  placed = p.placed;
  stand = record {
    chosen = p.stand.chosen;
    memory = p.stand.memory;
    block = rw (row_none (goes_to_block pass) block_alignment p.placed (λ s. no_block pass s e)) refl;
  };
  laid = p.laid;
}

-- ---- object by object

pub objects_laid : (pass : Pass) (objects : List (List KeptData)) (a b : Frontier) (layouts : List (List SegmentLayout)) → AreObjectsLaid pass objects a b layouts → AreLaidOut pass (in_one_row objects) a b (in_one_row layouts)
objects_laid pass [] a b [] e = rw e (laid_nothing pass a)
objects_laid pass [] a b (l ∷ ls) e = absurd e
objects_laid pass (o ∷ os) a b [] e = absurd e
objects_laid pass (o ∷ os) a b (l ∷ ls) e = laid_append pass o (in_one_row os) a e.0 b l (in_one_row ls) e.1 (objects_laid pass os e.0 b ls e.2)

pub frontier_is : (a b : Frontier) → a.memory ≡ b.memory → a.block ≡ b.block → a ≡ b
frontier_is a b p q =
    let from : ℕ → ℕ → Frontier = λ m n. record { memory = m; block = n } in
    ap (λ (m : ℕ). from m a.block) p ∙ ap (λ (n : ℕ). from b.memory n) q

pub laid_end : (pass : Pass) (xs : List KeptData) (a b c : Frontier) (l m : List SegmentLayout) → AreLaidOut pass xs a b l → AreLaidOut pass xs a c m → b ≡ c
laid_end pass xs a b c l m p q =
    let same = same_end pass xs a b c p.placed q.placed p.stand q.stand in
    frontier_is b c same.0 same.1
