-- A file that is read piece by piece.
use Rattle.std.proofs.Common.{◌≡◌, ◌<◌, ◌≤◌, ℕ, ◌+◌, List, [], ◌++◌, length, Bool, true, false, Option, Some, None, IsSome, refl, sym, ap, ◌∙◌, append_assoc, arith, length-append, rules, append-nil, cond, ◌-◌}
use Rattle.std.specs.Bool.{⊤}
use Rattle.std.specs.Io.KnownBytes.{Consumes, IsAtEnd, prepend_known}
use Rattle.wl_files.specs.Files.{Names, FilesState, BeginsAt}
use Rattle.wl_files.specs.Reading.{HoldsBytes, HoldsMoreThan, SameFile, IsClean, GetsMore}
use Rattle.wl_files.specs.Unread.{StopsFor, IsUnreadFor}
use Rattle.wl_files.specs.declared.read.ReadObject.{ReadObject}
use Rattle.wl_files.specs.declared.read.ReadObject.TheVariants.{OutOfMemory, Fault, TooLong}

-- where it is known: the name has these bytes and then what is left
abbrev pub IsFront : Option Names → List ℕ → List ℕ → Option (List ℕ) → Type 0
IsFront None name bytes rest = ⊤
IsFront (Some names) name bytes rest = IsSome rest × (names name ≡ prepend_known bytes rest)

pub front_at_begin : (names : Option Names) (name : List ℕ) (rest : Option (List ℕ)) → BeginsAt names name rest → IsFront names name [] rest
front_at_begin None name rest h = tt
front_at_begin (Some names) name None h = let none : IsSome (names name) = h.0 in let e : None ≡ names name = h.1 in absurd (grind arith)
front_at_begin (Some names) name (Some xs) h = (refl, sym h.1)

pub front_more : (names : Option Names) (name bytes piece : List ℕ) (rest rest' : Option (List ℕ)) → IsFront names name bytes rest → Consumes rest rest' piece → IsFront names name (bytes ++ piece) rest'
front_more None name bytes piece rest rest' h c = tt
front_more (Some names) name bytes piece None rest' h c = search rules
front_more (Some names) name bytes piece (Some xs) None h c = absurd c
front_more (Some names) name bytes piece (Some xs) (Some ys) h c = (refl, rw append_assoc (h.1 ∙ ap (λ zs. Some (bytes ++ zs)) c))

pub all_at_end : (names : Option Names) (name bytes : List ℕ) (rest : Option (List ℕ)) → IsFront names name bytes rest → IsAtEnd rest → HoldsBytes names name bytes
all_at_end None name bytes rest h e = tt
all_at_end (Some names) name bytes None h e = search rules
all_at_end (Some names) name bytes (Some xs) h e = h.1 ∙ ap (λ zs. Some (bytes ++ zs)) e ∙ ap Some (append-nil bytes)

pub front_over : (names : Option Names) (name bytes piece : List ℕ) (rest rest' : Option (List ℕ)) (limit : ℕ) → IsFront names name bytes rest → Consumes rest rest' piece → limit < length bytes + length piece → HoldsMoreThan names name limit
front_over None name bytes piece rest rest' limit h c over = tt
front_over (Some names) name bytes piece None rest' limit h c over = search rules
front_over (Some names) name bytes piece (Some xs) None limit h c over = absurd c
front_over (Some names) name bytes piece (Some xs) (Some ys) limit h c over = (bytes ++ xs, h.1, omega (arith, length-append bytes xs, ap length c, length-append piece ys))

-- where the reading of a file stands
pub record ReadsOn (old new : FilesState) (name bytes : List ℕ) (limit : ℕ) (ended : Bool) : Type 0 where
  pub begun : new.begun ≡ Some name
  pub closed : new.closed ≡ false
  pub names : new.names ≡ old.names
  pub clean : new.faults ≡ old.faults
  pub given : new.given ≡ length bytes
  pub within : length bytes ≤ limit
  pub front : IsFront old.names name bytes new.rest
  pub at_end : ended ≡ true → IsAtEnd new.rest

pub reads_at_start : (old new : FilesState) (name : List ℕ) (limit : ℕ) → new.begun ≡ Some name → new.closed ≡ false → new.names ≡ old.names → new.faults ≡ old.faults → new.given ≡ 0 → BeginsAt old.names name new.rest → ReadsOn old new name [] limit false
reads_at_start old new name limit begun closed names clean given rest = record {
  begun = begun;
  closed = closed;
  names = names;
  clean = clean;
  given = given;
  within = omega arith;
  front = front_at_begin old.names name new.rest rest;
  at_end = λ e. absurd (cc);
}

pub less_left : (old new : FilesState) (bytes bytes' : List ℕ) (limit : ℕ) (ended : Bool) → GetsMore old new bytes bytes' ended → length bytes' ≤ limit → (limit - length bytes') + cond ended 0 1 < (limit - length bytes) + 1
less_left old new bytes bytes' limit true h within = omega (arith, ap length h.piece.1, length-append bytes h.piece.0)
less_left old new bytes bytes' limit false h within = let more : length bytes < length bytes' = h.progress refl in omega (arith, within)

pub reads_more : (old mid new : FilesState) (name bytes bytes' : List ℕ) (limit : ℕ) (before ended : Bool) → ReadsOn old mid name bytes limit before → GetsMore mid new bytes bytes' ended → length bytes' ≤ limit → SameFile mid new → IsClean mid new → ReadsOn old new name bytes' limit ended
reads_more old mid new name bytes bytes' limit before ended h more within same clean = record {
  begun = same.begun ∙ h.begun;
  closed = same.closed ∙ h.closed;
  names = same.names ∙ h.names;
  clean = clean.faults ∙ h.clean;
  given = omega (arith, more.given, h.given);
  within = within;
  front = rw more.piece.1 (front_more old.names name bytes more.piece.0 mid.rest new.rest h.front more.piece.2);
  at_end = more.at_end;
}

pub stops_more : (old mid new : FilesState) (name bytes : List ℕ) (limit : ℕ) (before : Bool) (e : ReadObject) → ReadsOn old mid name bytes limit before → StopsFor mid new bytes limit e → IsUnreadFor old new name limit e
stops_more old mid new name bytes limit before OutOfMemory h s = tt
stops_more old mid new name bytes limit before Fault h s = (record { rose = omega (arith, s.0.rose, h.clean); here = s.0.here }, omega (arith, s.1, h.given, h.within))
stops_more old mid new name bytes limit before TooLong h s = record {
  given = omega (arith, s.given, h.given);
  clean = s.clean ∙ h.clean;
  told = front_over old.names name bytes s.piece.0 mid.rest new.rest limit h.front s.piece.1 s.piece.2;
}
