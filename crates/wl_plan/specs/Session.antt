-- What a session stands for, what it refuses, and what replacements make of it.
use Rattle.std.specs.Prelude.{◌≡◌, ◌<◌, ℕ, List, [], ◌∷◌, length, map}
use Rattle.wl_bytes.specs.declared.read_error.ReadError.TheVariants as read
use Rattle.wl_linking.specs.Object.{Object}
use Rattle.wl_linking.specs.Fitting.{IsObject, ObjectFault}
use Rattle.wl_linking.specs.declared.error.LinkError.{LinkError}
use Rattle.wl_linking.specs.declared.error.LinkError.TheVariants.{Malformed, Unsupported}
use Rattle.wl_words.specs.declared.args.WasmArgs.{WasmArgs}
use Rattle.wl_session.specs.After.{Replacement, replaced}

-- the bytes of objects, in order, and the options under which they are planned
pub record Held : Type 0 where
  pub objects : List (List ℕ)
  pub args : WasmArgs

-- the bytes that these objects are
abbrev pub bytes_of : List Object → List (List ℕ)
bytes_of files = map (λ (o : Object). o.bytes) files

-- the bytes of these objects, under these options
abbrev pub held_of : List Object → WasmArgs → Held
held_of files args = record { objects = bytes_of files; args = args }

-- these bytes in place of those that were held, under the same options
abbrev pub holding : Held → List (List ℕ) → Held
holding held objects = record { objects = objects; args = held.args }

-- the bytes that are to have that number aren't in the grammar
abbrev pub IsBadBytes : ℕ → List ℕ → LinkError → Type 0
IsBadBytes place bytes (Malformed object why) =
    (object ≡ place) × ObjectFault (read.Malformed why) bytes
IsBadBytes place bytes (Unsupported object form) =
    (object ≡ place) × ObjectFault (read.Unsupported form) bytes
IsBadBytes place bytes _ = ⊥

-- ---- replacements

-- a replacement that is accepted, of an object that exists by bytes that are one
pub record IsReplaced (old : Held) (r : Replacement (List ℕ)) (new : Held) : Type 0 where
  pub exists : r.place < length old.objects
  pub sound : (o : Object) × IsObject o r.item
  pub changed : new ≡ holding old (replaced old.objects r)

-- replacements that are accepted, one after the other
abbrev pub AreReplaced : Held → List (Replacement (List ℕ)) → Held → Type 0
AreReplaced old [] new = new ≡ old
AreReplaced old (r ∷ done) new =
    (next : Held) × IsReplaced old r next × AreReplaced next done new
