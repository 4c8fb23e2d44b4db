-- The laws of the linking section.
use Rattle.std.proofs.Common.{◌≡◌, ◌≢◌, ◌⊎◌, ℕ, ◌+◌, ◌<◌, eqb, false, List, [], ◌∷◌, ◌++◌, length, Option, Some, None, Result, Ok, Err, refl, sym, ap, subst, ◌∙◌, arith, inl, inr}
use Rattle.std.proofs.lemmas.List.{append-nil}
use Rattle.std.specs.List.{flat_map}
use Rattle.std.specs.Prelude.{MatchResult}
use Rattle.std.proofs.lemmas.Grind.{flat_map-append}
use Rattle.wl_bytes.specs.Cursor.{Cursor}
use Rattle.wl_bytes.specs.Parse.{Takes, ◌>>=◌}
use Rattle.wl_bytes.specs.Leb.{IsU32}
use Rattle.wl_bytes.specs.Items.{IsByte, IsStretch, EndsBefore}
use Rattle.wl_bytes.specs.Reading as bytes
use Rattle.wl_bytes.proofs.Steps.{bind_ok, bind_err, ok_is, err_is}
use Rattle.wl_bytes.proofs.Readings.{IsReading}
use Rattle.wl_bytes.proofs.ItemLaws.{take_reading}
use Rattle.wl_bytes.proofs.GrammarLaws.{then_reading, error_reading}
use Rattle.wl_bytes.specs.Error.{read_error}
use Rattle.wl_bytes.specs.Lists.{NumberFault, ByteFault, number_at, one_byte_at, start}
use Rattle.wl_bytes.specs.Lists.{StretchFault}
use Rattle.wl_bytes.specs.Lists.{stretch_at}
use Rattle.wl_bytes.specs.Chains.{Chain, after}
use Rattle.wl_bytes.specs.Checks.{NoFault}
use Rattle.wl_bytes.specs.Outcome.{Fails, AreAlternatives, HasCause}
use Rattle.wl_bytes.specs.declared.read_error.ReadError.{ReadError}
use Rattle.wl_bytes.proofs.ListLaws.{number_reading, one_byte_reading, IsWholeReading}
use Rattle.wl_bytes.proofs.ChainLaws.{AreReadings, Stops, chains_agree, chain_stops, chain_goes_on, after-push, item_shortens}
use Rattle.wl_custom.specs.Verdict.{Judged, JudgedFault, judged_at, Inside, InsideFault, IsHere, here_at}
use Rattle.wl_custom.specs.Infos.{AreInfos, InfosFault, infos_of, AreInits, InitsFault, inits_of}
use Rattle.wl_custom.specs.Symbols.{AreSymbols, SymbolsFault}
use Rattle.wl_custom.specs.SymbolsReading.{symbols_of}
use Rattle.wl_custom.specs.Linking.{subsection_kind, subsection_verdict, HoldsAll, IsHeld, HeldFault, held_of, AreSubsectionParts, IsSubsection, SubsectionFault, subsection_parts_at, subsection_at, version_verdict, IsVersion, VersionFault, version_at, nothing_seen, seen_after, infos_in, inits_in, table_in, linking_of, with_subsection, AreSubsections, SubsectionsFault, HaveSubsections, IsLinking, LinkingFault, subsections_in_turn}
use Rattle.wl_custom.specs.declared.linking.Linking.{Linking}
use Rattle.wl_custom.specs.declared.linking.SeenSubsections.{SeenSubsections}
use Rattle.wl_custom.specs.declared.linking.Subsection.{Subsection}
use Rattle.wl_custom.specs.declared.linking.Subsection.TheVariants as held
use Rattle.wl_custom.specs.declared.linking.SubsectionKind.{SubsectionKind}
use Rattle.wl_custom.specs.declared.linking.SubsectionKind.TheVariants as kind
use Rattle.wl_custom.proofs.Exact.{failed, cause_follows, judged_reading, inside_reading, seen_as, here_reading}
use Rattle.wl_custom.proofs.InfoLaws.{infos_reading, inits_reading}
use Rattle.wl_custom.proofs.SymbolLaws.{symbols_reading}

-- ---- a subsection

-- a payload that is one list is read as the list is
held_whole : {X : Type 0} (make : X → Subsection) (spells : X → List ℕ → Type 0) (faults : ReadError → List ℕ → Type 0) (read : List ℕ → Result X ReadError) → IsWholeReading spells faults read
    → IsWholeReading (HoldsAll make spells) faults (λ payload. read payload >>= λ xs. Ok (make xs))
held_whole {X} make spells faults read law = record {
  found = λ payload s e.
      let a = bind_ok (read payload) (λ (xs : X). Ok (make xs)) s e in
      (a.0, ok_is {E = ReadError} (make a.0) s a.2, law.found payload a.0 a.1);
  again = λ payload s h. rw (law.again payload h.0 h.2, h.1) refl;
  fault = λ payload e is.
      elim (bind_err (read payload) (λ (xs : X). Ok (make xs)) e is) [
        | inl f ↦ law.fault payload e f
        | inr f ↦ absurd (let g = f.2 in cc)
      ];
  fails = λ payload e f. rw (law.fails payload e f) refl;
}

held_skipped : (base : ℕ) → IsWholeReading (IsHeld base kind.Other) (HeldFault base kind.Other) (held_of base kind.Other)
held_skipped base = record {
  found = λ payload s e. sym (ok_is {E = ReadError} held.Skipped s e);
  again = λ payload s h. rw h refl;
  fault = λ payload e is. absurd cc;
  fails = λ payload e f. absurd f;
}

pub held_reading : (base : ℕ) (k : SubsectionKind) → IsWholeReading (IsHeld base k) (HeldFault base k) (held_of base k)
held_reading base kind.SegmentInfo = held_whole held.SegmentInfo AreInfos InfosFault infos_of infos_reading
held_reading base kind.InitFuncs = held_whole held.InitFuncs AreInits InitsFault inits_of inits_reading
held_reading base kind.SymbolTable = held_whole held.SymbolTable (AreSymbols base) (SymbolsFault base) (symbols_of base) (symbols_reading base)
held_reading base kind.Other = held_skipped base

stretch_reading : (n : ℕ) → IsReading (IsStretch n) (StretchFault n) (stretch_at n)
stretch_reading n = error_reading (IsStretch n) (EndsBefore n) (bytes.take_at n) read_error (take_reading n)

subsection_parts_reading : (base : ℕ) (seen : SeenSubsections) → IsReading (AreSubsectionParts base seen) (SubsectionFault base seen) (subsection_parts_at base seen)
subsection_parts_reading base seen =
    then_reading IsByte _ ByteFault _ one_byte_at _ one_byte_reading
    (λ n. then_reading (Judged (subsection_verdict seen (subsection_kind n))) _ (JudgedFault (subsection_verdict seen (subsection_kind n))) _ (judged_at (subsection_verdict seen (subsection_kind n))) _ (judged_reading (subsection_verdict seen (subsection_kind n)))
    (λ _. then_reading IsU32 _ NumberFault _ number_at _ number_reading
    (λ size. then_reading IsHere _ NoFault _ here_at _ here_reading
    (λ place. then_reading (IsStretch size) (λ payload. Inside (IsHeld (base + place) (subsection_kind n)) payload) (StretchFault size) (λ payload. InsideFault (HeldFault (base + place) (subsection_kind n)) payload) (stretch_at size) (λ payload c. judged_at (held_of (base + place) (subsection_kind n) payload) c) (stretch_reading size)
    (λ payload. inside_reading (IsHeld (base + place) (subsection_kind n)) (HeldFault (base + place) (subsection_kind n)) (held_of (base + place) (subsection_kind n)) (held_reading (base + place) (subsection_kind n)) payload)))))

pub subsection_reading : (base : ℕ) (seen : SeenSubsections) → IsReading (IsSubsection base seen) (SubsectionFault base seen) (subsection_at base seen)
unfolding subsection_at
subsection_reading base seen = seen_as (AreSubsectionParts base seen) (SubsectionFault base seen) (subsection_parts_at base seen) (λ p. p.1.1.1.1.1) (subsection_parts_reading base seen)

subsection_some : (base : ℕ) (seen : SeenSubsections) (place : ℕ) (s : Subsection) (text : List ℕ) → IsSubsection base seen place s text → text ≢ []
subsection_some base seen place s text h = λ e. let whole = sym e ∙ h.1.2 ∙ ap (λ (x : List ℕ). x ++ h.1.1) h.1.3 in absurd cc

subsections_read : (base : ℕ) → AreReadings (IsSubsection base) (SubsectionFault base) (subsection_at base)
subsections_read base = record { each = subsection_reading base; some = subsection_some base }

-- ---- the version

pub version_reading : IsReading IsVersion VersionFault version_at
unfolding version_at
version_reading = then_reading IsU32 (λ version. Judged (version_verdict version)) NumberFault (λ version. JudgedFault (version_verdict version)) number_at (λ version. judged_at (version_verdict version)) number_reading (λ version. judged_reading (version_verdict version))

-- ---- subsections to the end

-- some subsections, one after the other
abbrev AreBehind : ℕ → List Subsection → Cursor → Cursor → Type 0
AreBehind base = Takes (Chain (subsections_in_turn base) nothing_seen)

-- what comes after them
abbrev IsBehind : ℕ → List Subsection → Cursor → Option ReadError → Type 0
IsBehind base xs = Stops (SubsectionFault base) (after seen_after nothing_seen xs)

abbrev none : Option ReadError
none = None

abbrev one : ReadError → Option ReadError
one e = Some e

one_is : (e d : ReadError) → one e ≡ one d → e ≡ d
one_is e d h = cc

agree : (base : ℕ) (xs ys : List Subsection) (a b c : Cursor) (o o' : Option ReadError) → AreBehind base xs a b → IsBehind base xs b o → AreBehind base ys a c → IsBehind base ys c o' → (xs ≡ ys) × (o ≡ o')
agree base xs ys a b c o o' t p u q = chains_agree (subsections_in_turn base) (SubsectionFault base) (subsection_at base) (subsections_read base) nothing_seen xs ys a b c o o' t p u q

-- the version stands at one place
behind_is : (payload : List ℕ) (v w : ℕ × Unit {0}) (a b : Cursor) → Takes IsVersion v (start payload) a → Takes IsVersion w (start payload) b → a ≡ b
behind_is payload v w a b t u = ap (λ (r : (ℕ × Unit {0}) × Cursor). r.1) (ok_is {E = ReadError} (v, a) (w, b) (sym (version_reading.again (start payload) v a t) ∙ version_reading.again (start payload) w b u))

no_version_fault : (payload : List ℕ) (v : ℕ × Unit {0}) (a : Cursor) (e : ReadError) → Takes IsVersion v (start payload) a → VersionFault e (start payload) → ⊥
no_version_fault payload v a e t f = let x = version_reading.again (start payload) v a t in let y = version_reading.fails (start payload) e f in cc

linking_one : (base : ℕ) (payload : List ℕ) (xs ys : Linking) → IsLinking base xs payload → IsLinking base ys payload → xs ≡ ys
linking_one base payload xs ys (v, a, t, (ss, last, stand, is)) (v', a', t', (ss', last', stand', is')) =
    let same = behind_is payload v' v a' a t' t in
    let there = subst (λ (c : Cursor). AreSubsections base ss' c last') same stand' in
    is ∙ ap linking_of (agree base ss ss' a last last' none none stand.0 stand.1 there.0 there.1).0 ∙ sym is'

linking_either : (base : ℕ) (payload : List ℕ) (xs : Linking) (e : ReadError) → IsLinking base xs payload → LinkingFault base e payload → ⊥
linking_either base payload xs e (v, a, t, h) (inl f) = no_version_fault payload v a e t f
linking_either base payload xs e (v, a, t, (ss, last, stand, is)) (inr (v', a', t', (ss', mid, stand', some, w))) =
    let same = behind_is payload v' v a' a t' t in
    let there = subst (λ (c : Cursor). AreBehind base ss' c mid) same stand' in
    let no : none ≡ one e = (agree base ss ss' a last mid none (one e) stand.0 stand.1 there (some, w)).1 in
    absurd cc

linking_one_fault : (base : ℕ) (payload : List ℕ) (e d : ReadError) → LinkingFault base e payload → LinkingFault base d payload → e ≡ d
linking_one_fault base payload e d (inl f) (inl g) = err_is {A = (ℕ × Unit {0}) × Cursor} e d (sym (version_reading.fails (start payload) e f) ∙ version_reading.fails (start payload) d g)
linking_one_fault base payload e d (inl f) (inr (v, a, t, rest)) = absurd (no_version_fault payload v a e t f)
linking_one_fault base payload e d (inr (v, a, t, rest)) (inl g) = absurd (no_version_fault payload v a d t g)
linking_one_fault base payload e d (inr (v, a, t, (ss, mid, stand, some, w))) (inr (v', a', t', (ss', mid', stand', some', w'))) =
    let same = behind_is payload v' v a' a t' t in
    let there = subst (λ (c : Cursor). AreBehind base ss' c mid') same stand' in
    one_is e d (agree base ss ss' a mid mid' (one e) (one d) stand (some, w) there (some', w')).1

-- a linking section, or a fault
linking_some : (base : ℕ) (payload : List ℕ) → ((linking : Linking) × IsLinking base linking payload) ⊎ ((e : ReadError) × LinkingFault base e payload)
linking_some base payload = by_version (version_at (start payload)) refl
  where
    by_end : (v : ℕ × Unit {0}) (behind : Cursor) → Takes IsVersion v (start payload) behind → (ss : List Subsection) (last : Cursor) (o : Option ReadError) → AreBehind base ss behind last → IsBehind base ss last o
        → ((linking : Linking) × IsLinking base linking payload) ⊎ ((e : ReadError) × LinkingFault base e payload)
    by_end v behind t ss last None stand stop = inl (linking_of ss, (v, behind, t, (ss, last, (stand, stop), refl)))
    by_end v behind t ss last (Some e) stand stop = inr (e, inr (v, behind, t, (ss, last, stand, stop.0, stop.1)))

    by_version : (r : Result ((ℕ × Unit {0}) × Cursor) ReadError) → version_at (start payload) ≡ r → ((linking : Linking) × IsLinking base linking payload) ⊎ ((e : ReadError) × LinkingFault base e payload)
    by_version (Err e) is = inr (e, inl (version_reading.fault (start payload) e is))
    by_version (Ok (v, behind)) is =
        let h = chain_stops (subsections_in_turn base) (SubsectionFault base) (subsection_at base) (subsections_read base) (length behind.rest) nothing_seen behind (omega arith) in
        by_end v behind (version_reading.found (start payload) v behind is) h.0 h.1 h.2 h.3 h.4

pub linking_exact : (base : ℕ) → AreAlternatives (IsLinking base) (LinkingFault base)
linking_exact base = record { some = linking_some base; one_value = linking_one base; no_fault = linking_either base; one_fault = linking_one_fault base }

-- ---- the loop

-- the subsections that were read so far, what they leave seen, and what they hold
pub record ReadsOn (base : ℕ) (from now : Cursor) (seen : SeenSubsections) (linking : Linking) : Type 0 where
  pub subsections : List Subsection
  pub stand : Takes (Chain (subsections_in_turn base) nothing_seen) subsections from now
  pub seen_is : after seen_after nothing_seen subsections ≡ seen
  pub holds : linking ≡ linking_of subsections

pub not_empty : (xs : List ℕ) → eqb (length xs) 0 ≡ false → xs ≢ []
not_empty [] h e = absurd cc
not_empty (x ∷ xs) h e = absurd cc

pub smaller : (base : ℕ) (seen : SeenSubsections) (c to : Cursor) (s : Subsection) → subsection_at base seen c ≡ Ok (s, to) → length to.rest < length c.rest
smaller base seen c to s e = item_shortens (IsSubsection base) (SubsectionFault base) (subsection_at base) (subsections_read base) seen s c to ((subsection_reading base seen).found c s to e)

-- a list over one thing more
one_more : {X Y : Type 0} (f : X → List Y) (xs : List X) (x : X) → flat_map f (xs ++ x ∷ []) ≡ flat_map f xs ++ f x
one_more f xs x = flat_map-append f xs (x ∷ []) ∙ simp append-nil

holds_more : (ss : List Subsection) (s : Subsection) → with_subsection (linking_of ss) s ≡ linking_of (ss ++ s ∷ [])
holds_more ss s = rw (one_more infos_in ss s, one_more inits_in ss s, one_more table_in ss s) refl

pub reads_more : (base : ℕ) (from now to : Cursor) (seen : SeenSubsections) (linking : Linking) (s : Subsection) → ReadsOn base from now seen linking → subsection_at base seen now ≡ Ok (s, to) → ReadsOn base from to (seen_after seen s) (with_subsection linking s)
reads_more base from now to seen linking s h e =
    let t = (subsection_reading base seen).found now s to e in
    record {
      subsections = h.subsections ++ s ∷ [];
      stand = chain_goes_on (subsections_in_turn base) nothing_seen h.subsections s from now to h.stand (subst (λ (b : SeenSubsections). Takes (IsSubsection base b) s now to) (sym h.seen_is) t);
      seen_is = after-push seen_after nothing_seen h.subsections s ∙ ap (λ (b : SeenSubsections). seen_after b s) h.seen_is;
      holds = ap (λ (l : Linking). with_subsection l s) h.holds ∙ holds_more h.subsections s;
    }

fault_behind : (base : ℕ) (now : Cursor) (seen : SeenSubsections) (ss : List Subsection) (e : ReadError) → after seen_after nothing_seen ss ≡ seen → subsection_at base seen now ≡ Err e → SubsectionFault base (after seen_after nothing_seen ss) e now
fault_behind base now seen ss e is f = subst (λ (b : SeenSubsections). SubsectionFault base b e now) (sym is) ((subsection_reading base seen).fault now e f)

pub reads_fault : (base : ℕ) (from now : Cursor) (seen : SeenSubsections) (linking : Linking) (e : ReadError) → ReadsOn base from now seen linking → eqb (length now.rest) 0 ≡ false → Fails e (subsection_at base seen now) → HasCause (λ d. SubsectionsFault base d from) e
reads_fault base from now seen linking e h some =
    failed (λ d. SubsectionsFault base d from) (subsection_at base seen now) (λ d f. (h.subsections, now, h.stand, not_empty now.rest some, fault_behind base now seen h.subsections d h.seen_is f)) e

-- ---- the whole section

pub version_fault : (base : ℕ) (payload : List ℕ) (e : ReadError) → Fails e (version_at (start payload)) → HasCause (λ d. LinkingFault base d payload) e
version_fault base payload = failed (λ d. LinkingFault base d payload) (version_at (start payload)) (λ d f. inl (version_reading.fault (start payload) d f))

pub whole_linking : (base : ℕ) (payload : List ℕ) (v : ℕ × Unit {0}) (behind : Cursor) (r : Result Linking ReadError) → version_at (start payload) ≡ Ok (v, behind)
    → MatchResult r (HaveSubsections base behind) (HasCause (λ d. SubsectionsFault base d behind)) → MatchResult r (λ linking. IsLinking base linking payload) (HasCause (λ d. LinkingFault base d payload))
whole_linking base payload v behind (Ok linking) e h = (v, behind, version_reading.found (start payload) v behind e, h)
whole_linking base payload v behind (Err d) e h = cause_follows (λ d. SubsectionsFault base d behind) (λ d. LinkingFault base d payload) (λ d f. inr (v, behind, version_reading.found (start payload) v behind e, f)) d h
