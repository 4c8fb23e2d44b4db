-- Files in memory: a look-up, a read, and one file more.
use Rattle.std.proofs.Common.{◌≡◌, ℕ, ◌+◌, ◌<◌, min, List, [], ◌∷◌, ◌++◌, length, take, drop, get_or, Bool, true, false, Option, Some, None, if◌then◌else◌, refl, sym, subst, length-drop, arith, suc, zero}
use Rattle.std.proofs.lemmas.List.{drop-drop, take-append-drop}
use Rattle.std.specs.Str.{bytes_eq}
use Rattle.wl_files.specs.declared.mem_files.MemFile.{MemFile}
use Rattle.std.specs.Option.{option_or, ForSome}
use Rattle.wl_files.specs.Held.{held, bytes_at, left_of}

pub held-here : (files : List MemFile) (i : ℕ) (file : MemFile) (name : List ℕ) → i < length files → file ≡ get_or files i file → bytes_eq file.name.now name ≡ true → held (drop i files) name ≡ Some (bytes_at files i)
held-here [] i file name lt is same = absurd (omega arith)
held-here (f ∷ fs) zero file name lt is same =
    let h : bytes_eq f.name.now name ≡ true = subst (λ (x : MemFile). bytes_eq x.name.now name ≡ true) is same in rw h
held-here (f ∷ fs) (suc i) file name lt is same = held-here fs i file name (omega arith) is same

nothing : (xs : List ℕ) → length xs ≡ 0 → xs ≡ []
nothing [] none = refl
nothing (x ∷ xs) none = absurd (omega arith)

-- what a read gives, and what is left after it
pub gives : (bytes buf : List ℕ) (given n piece room : ℕ) → 0 < piece → n ≡ min (min (length (drop given bytes)) piece) room → length buf ≡ room → take n buf ≡ take n (drop given bytes) → (drop given bytes ≡ take n buf ++ drop (given + n) bytes) × (n ≡ 0 → 0 < length buf → drop (given + n) bytes ≡ [])
gives bytes buf given n piece room some count len same = (rw (same, ← drop-drop n given bytes) (sym (take-append-drop n (drop given bytes))), λ none asked. nothing (drop (given + n) bytes) (simp length-drop (omega (arith, length-drop given bytes))))

first_of_both : (b : Bool) (x : List ℕ) (rest other : Option (List ℕ)) → (if b then Some x else option_or rest other) ≡ option_or (if b then Some x else rest) other
first_of_both true x rest other = refl
first_of_both false x rest other = refl

pub held-push : (files : List MemFile) (file : MemFile) (name : List ℕ) → held (files ++ file ∷ []) name ≡ option_or (held files name) (if bytes_eq file.name.now name then Some file.bytes.items else None)
held-push [] file name = refl
held-push (f ∷ fs) file name =
    let behind = held-push fs file name in
    rw behind (first_of_both (bytes_eq f.name.now name) f.bytes.items (held fs name) _)

bytes_at-push : (files : List MemFile) (file : MemFile) (i : ℕ) → i < length files → bytes_at (files ++ file ∷ []) i ≡ bytes_at files i
bytes_at-push [] file i lt = absurd (omega arith)
bytes_at-push (f ∷ fs) file zero lt = refl
bytes_at-push (f ∷ fs) file (suc i) lt = bytes_at-push fs file i (omega arith)

pub left_of-push : (files : List MemFile) (file : MemFile) (place : Option ℕ) (given : ℕ) → ForSome place (λ i. i < length files) → left_of (files ++ file ∷ []) place given ≡ left_of files place given
left_of-push files file None given placed = refl
left_of-push files file (Some i) given placed = let lt : i < length files = placed i refl in rw (bytes_at-push files file i lt)
