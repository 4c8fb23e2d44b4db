-- Where exported data stands among the globals, and how that is noted.
use Rattle.std.proofs.Common.{◌≡◌, ◌⊎◌, ◌∙◌, ◌≤◌, ◌<◌, ℕ, ◌+◌, ◌-◌, true, false, cond, List, [], ◌∷◌, ◌++◌, length, take, get_or, refl, sym, ap, subst, arith, inl, inr, Option, Some, slice_get, eqb, eqb-true, eq-eqb, append_assoc, true≢false, length-append, length-take}
use Rattle.std.specs.List.{list_any}
use Rattle.std.specs.HashMap.{HashMap}
use Rattle.std.proofs.lemmas.Bool.{cases_Bool, and_parts}
use Rattle.std.proofs.lemmas.List.{take_more, take_all, length-map}
use Rattle.std.proofs.lemmas.Option.{slice_get_within}
use Rattle.indexmap.specs.IndexSet.{insert_all}
use Rattle.wl_symbols.specs.declared.linker_symbol.WasmLinkerSymbol.TheVariants.{MemoryBase, TableBase, StackPointer, TlsBase, TlsSize, TlsAlign}
use Rattle.wl_bind.specs.ExportedData.{same_data, dynamic_data, forced_data}
use Rattle.wl_bind.specs.GlobalSpace.{GlobalEntry, DataOf, host_global_part, made_global_part, address_part, got_mem_part, got_func_part, dynamic_part, forced_part, object_globals, global_parts, global_space}
use Rattle.wl_symbols.specs.Input.{Input}
use Rattle.wl_bind.specs.Parts.{AreStarts, joined, lengths_of, total}
use Rattle.wl_bind.specs.declared.exported.DataSymbol.{DataSymbol}
use Rattle.wl_bind.specs.declared.parts.PartStarts.{PartStarts}
use Rattle.wl_exports.specs.steps.DataPlaces.{IsNoted, IsLeft, NotesPlaces, AreDataPlaces, exported_data}
use Rattle.wl_lists.proofs.In.{IsIn, in_list, in_split, list_in}
use Rattle.wl_lists.proofs.Places.{mapped_at}
use Rattle.wl_exports.proofs.ListLaws.{behind_at, front_at}

-- ---- data symbols that are the same

pub same_is : (a b : DataSymbol) → same_data a b ≡ true → a ≡ b
same_is a b e =
    let h = and_parts (eqb a.object b.object) (eqb a.symbol b.symbol) e in
    let first : a.object ≡ b.object = eqb-true a.object b.object h.0 in
    let second : a.symbol ≡ b.symbol = eqb-true a.symbol b.symbol h.1 in
    λ i. record { object = first i; symbol = second i }

pub same_self : (a : DataSymbol) → same_data a a ≡ true
same_self a = rw (eq-eqb a.object a.object refl, eq-eqb a.symbol a.symbol refl) refl

-- ---- what is noted

abbrev Told : List DataSymbol → ℕ → DataSymbol → Option ℕ → Option ℕ → Type 0
Told symbols first d before noted = IsNoted symbols first d noted ⊎ IsLeft symbols d before noted

pub told_none : (symbols : List DataSymbol) (first : ℕ) (d : DataSymbol) (before : Option ℕ)
    → Told (take 0 symbols) first d before before
told_none symbols first d before =
    inr (record { absent = λ h. list_in [] d h; same = refl })

told_front : (symbols : List DataSymbol) (first : ℕ) (x d : DataSymbol) (before old new : Option ℕ)
    → same_data x d ≡ true → new ≡ Some (first + length symbols)
    → Told (symbols ++ x ∷ []) first d before new
told_front symbols first x d before old new same told =
    let is : x ≡ d = same_is x d same in
    let at : slice_get (symbols ++ x ∷ []) (length symbols + 0) ≡ Some x = behind_at symbols (x ∷ []) 0 in
    let place : length symbols + 0 ≡ length symbols = omega arith in
    inl (record {
      place = length symbols;
      stands = ap (λ k. slice_get (symbols ++ x ∷ []) k) (sym place) ∙ (at ∙ ap (λ (z : DataSymbol). Some z) is);
      told = told;
    })

told_behind : (symbols : List DataSymbol) (first : ℕ) (x d : DataSymbol) (before old new : Option ℕ)
    → same_data x d ≡ false → new ≡ old → Told symbols first d before old
    → Told (symbols ++ x ∷ []) first d before new
told_behind symbols first x d before old new other same (inl noted) =
    inl (record {
      place = noted.place;
      stands = front_at symbols (x ∷ []) noted.place (slice_get_within symbols noted.place d noted.stands) ∙ noted.stands;
      told = same ∙ noted.told;
    })
told_behind symbols first x d before old new other same (inr left) =
    inr (record {
      absent = λ h. elim (in_split symbols (x ∷ []) d (list_in (symbols ++ x ∷ []) d h)) [
        | inl front ↦ left.absent (in_list symbols d front)
        | inr back ↦ elim back [
          | inl is ↦
              absurd (true≢false (sym (subst (λ (z : DataSymbol). same_data x z ≡ true) is (same_self x)) ∙ other))
          | inr none ↦ absurd none
        ]
      ];
      same = same ∙ left.same;
    })

by_test : (symbols : List DataSymbol) (first : ℕ) (x d : DataSymbol) (before old new : Option ℕ)
    → new ≡ cond (same_data x d) (Some (first + length symbols)) old → Told symbols first d before old
    → Told (symbols ++ x ∷ []) first d before new
by_test symbols first x d before old new made so_far = elim (cases_Bool (same_data x d)) [
  | inl same ↦ told_front symbols first x d before old new same (rw same at made)
  | inr other ↦ told_behind symbols first x d before old new other (rw other at made) so_far
]

pub told_more : (symbols : List DataSymbol) (i first index : ℕ) (x d : DataSymbol) (before old new : Option ℕ)
    → i < length symbols → x ≡ get_or symbols i x → index ≡ first + i
    → new ≡ cond (same_data x d) (Some index) old → Told (take i symbols) first d before old
    → Told (take (i + 1) symbols) first d before new
told_more symbols i first index x d before old new lt is number made so_far =
    let len : length (take i symbols) ≡ i = simp length-take (omega arith) in
    let same : take i symbols ++ x ∷ [] ≡ take (i + 1) symbols =
    ap (λ (z : DataSymbol). take i symbols ++ z ∷ []) is ∙ sym (take_more symbols i x lt) in
    let at : index ≡ first + length (take i symbols) = omega (arith, number, len) in
    subst (λ (zs : List DataSymbol). Told zs first d before new) same
    (by_test (take i symbols) first x d before old new
    (made ∙ ap (λ n. cond (same_data x d) (Some n) old) at) so_far)

pub told_all : (symbols : List DataSymbol) (i first : ℕ) (d : DataSymbol) (before noted : Option ℕ)
    → length symbols ≤ i → Told (take i symbols) first d before noted → Told symbols first d before noted
told_all symbols i first d before noted past so_far =
    subst (λ (zs : List DataSymbol). Told zs first d before noted) (take_all i symbols past) so_far

-- ---- parts of the space

joined_apart : {X : Type 0} (xss yss : List (List X)) → joined (xss ++ yss) ≡ joined xss ++ joined yss
joined_apart [] yss = refl
joined_apart {X} (xs ∷ xss) yss =
    ap (λ (zs : List X). xs ++ zs) (joined_apart xss yss) ∙ sym (append_assoc xs (joined xss) (joined yss))

total_apart : {X : Type 0} (xss yss : List (List X))
    → total (lengths_of (xss ++ yss)) ≡ total (lengths_of xss) + total (lengths_of yss)
total_apart [] yss = omega arith
total_apart (xs ∷ xss) yss = let rest = total_apart xss yss in omega (arith, rest)

joined_length : {X : Type 0} (xss : List (List X)) → length (joined xss) ≡ total (lengths_of xss)
joined_length [] = refl
joined_length (xs ∷ xss) =
    let rest = joined_length xss in
    let both_lengths = length-append xs (joined xss) in
    omega (arith, rest, both_lengths)

-- what comes before exported data
abbrev pub before_data : Input → List (List GlobalEntry)
before_data input =
    host_global_part input
    ∷ made_global_part input MemoryBase
    ∷ made_global_part input TableBase
    ∷ made_global_part input StackPointer
    ∷ made_global_part input TlsBase
    ∷ made_global_part input TlsSize
    ∷ made_global_part input TlsAlign
    ∷ address_part input
    ∷ got_mem_part input
    ∷ got_func_part input
    ∷ []

-- how many globals that is
abbrev pub data_start : Input → ℕ
data_start input = total (lengths_of (before_data input))

-- where the parts end
pub data_end : (input : Input) (s : PartStarts) → AreStarts (global_parts input) s
    → s.end ≡ data_start input + (length (dynamic_data input) + length (forced_data input))
data_end input s are =
    let e = are.end in
    let apart = total_apart (before_data input) (dynamic_part input ∷ forced_part input ∷ []) in
    let dynamic = length-map (dynamic_data input) DataOf in
    let forced = length-map (forced_data input) DataOf in
    omega (arith, e, apart, dynamic, forced)

space_is : (input : Input) → global_space input
    ≡ joined (before_data input) ++ ((dynamic_part input ++ (forced_part input ++ [])) ++ object_globals input)
space_is input =
    ap (λ (xs : List GlobalEntry). xs ++ object_globals input)
    (joined_apart (before_data input) (dynamic_part input ∷ forced_part input ∷ []))
    ∙ append_assoc (joined (before_data input)) (dynamic_part input ++ (forced_part input ++ []))
    (object_globals input)

at_start : (input : Input) (k : ℕ)
    → slice_get (global_space input) (data_start input + k)
    ≡ slice_get ((dynamic_part input ++ (forced_part input ++ [])) ++ object_globals input) k
at_start input k =
    let rest : List GlobalEntry = (dynamic_part input ++ (forced_part input ++ [])) ++ object_globals input in
    let len = joined_length (before_data input) in
    ap (λ (xs : List GlobalEntry). slice_get xs (data_start input + k)) (space_is input)
    ∙ (ap (λ n. slice_get (joined (before_data input) ++ rest) (n + k)) (sym len)
    ∙ behind_at (joined (before_data input)) rest k)

pub dynamic_stands : (input : Input) (k : ℕ) (d : DataSymbol) → slice_get (dynamic_data input) k ≡ Some d
    → slice_get (global_space input) (data_start input + k) ≡ Some (DataOf d)
dynamic_stands input k d at =
    let here = mapped_at DataOf (dynamic_data input) k d at in
    let within = slice_get_within (dynamic_part input) k (DataOf d) here in
    let both_parts : List GlobalEntry = dynamic_part input ++ (forced_part input ++ []) in
    let longer = length-append (dynamic_part input) (forced_part input ++ []) in
    let lt : k < length both_parts = omega (arith, within, longer) in
    at_start input k
    ∙ (front_at both_parts (object_globals input) k lt
    ∙ (front_at (dynamic_part input) (forced_part input ++ []) k within ∙ here))

pub forced_stands : (input : Input) (k : ℕ) (d : DataSymbol) → slice_get (forced_data input) k ≡ Some d
    → slice_get (global_space input) ((data_start input + length (dynamic_data input)) + k) ≡ Some (DataOf d)
forced_stands input k d at =
    let n = length (dynamic_data input) in
    let here = mapped_at DataOf (forced_data input) k d at in
    let within = slice_get_within (forced_part input) k (DataOf d) here in
    let both_parts : List GlobalEntry = dynamic_part input ++ (forced_part input ++ []) in
    let longer = length-append (dynamic_part input) (forced_part input ++ []) in
    let rest = length-append (forced_part input) [] in
    let len = length-map (dynamic_data input) DataOf in
    let lt : n + k < length both_parts = omega (arith, within, longer, len, rest) in
    let place : (data_start input + n) + k ≡ data_start input + (n + k) = omega arith in
    ap (λ m. slice_get (global_space input) m) place
    ∙ (at_start input (n + k)
    ∙ (front_at both_parts (object_globals input) (n + k) lt
    ∙ (ap (λ m. slice_get both_parts (m + k)) (sym len)
    ∙ (behind_at (dynamic_part input) (forced_part input ++ []) k
    ∙ (front_at (forced_part input) [] k within ∙ here)))))

-- what is noted of both lists is where they stand
pub data_noted : {S : Type 0} (input : Input) (start_dynamic start_forced : ℕ)
    (none middle places : HashMap DataSymbol ℕ S)
    → start_dynamic ≡ data_start input
    → start_forced ≡ data_start input + length (dynamic_data input)
    → NotesPlaces (dynamic_data input) start_dynamic none middle
    → NotesPlaces (forced_data input) start_forced middle places → AreDataPlaces input places
data_noted input start_dynamic start_forced none middle places dynamic_is forced_is dynamic forced d among =
    elim (forced d) [
      | inl noted ↦ record {
        index = start_forced + noted.place;
        told = noted.told;
        stands = ap (λ n. slice_get (global_space input) (n + noted.place)) forced_is
            ∙ forced_stands input noted.place d noted.stands;
      }
      | inr left ↦ elim (dynamic d) [
        | inl noted ↦ record {
          index = start_dynamic + noted.place;
          told = left.same ∙ noted.told;
          stands = ap (λ n. slice_get (global_space input) (n + noted.place)) dynamic_is
              ∙ dynamic_stands input noted.place d noted.stands;
        }
        | inr gone ↦
            absurd (elim (in_split (dynamic_data input) (forced_data input) d (list_in (exported_data input) d among)) [
              | inl front ↦ gone.absent (in_list (dynamic_data input) d front)
              | inr back ↦ left.absent (in_list (forced_data input) d back)
            ])
      ]
    ]

-- ---- lists in which each stands once

in_seen : (seen xs : List DataSymbol) (z : DataSymbol) → IsIn seen z → IsIn (insert_all same_data seen xs) z
in_seen seen [] z h = h
in_seen seen (x ∷ xs) z h = elim (cases_Bool (list_any (same_data x) seen)) [
  | inl t ↦ rw t (in_seen seen xs z h)
  | inr f ↦ rw f (in_seen (seen ++ x ∷ []) xs z (in_more seen x z h))
]
  where
    in_more : (ys : List DataSymbol) (y w : DataSymbol) → IsIn ys w → IsIn (ys ++ y ∷ []) w
    in_more [] y w k = absurd k
    in_more (v ∷ ys) y w k = elim k [ inl e ↦ inl e | inr r ↦ inr (in_more ys y w r) ]

seen_same : (seen : List DataSymbol) (x : DataSymbol) → list_any (same_data x) seen ≡ true → IsIn seen x
seen_same [] x e = absurd cc
seen_same (y ∷ seen) x e = elim (cases_Bool (same_data x y)) [
  | inl t ↦ inl (sym (same_is x y t))
  | inr f ↦ inr (seen_same seen x (rw f at e))
]

in_last : (ys : List DataSymbol) (y : DataSymbol) → IsIn (ys ++ y ∷ []) y
in_last [] y = inl refl
in_last (v ∷ ys) y = inr (in_last ys y)

pub in_once : (seen xs : List DataSymbol) (z : DataSymbol) → IsIn xs z → IsIn (insert_all same_data seen xs) z
in_once seen [] z h = absurd h
in_once seen (x ∷ xs) z h = elim (cases_Bool (list_any (same_data x) seen)) [
  | inl t ↦ elim h [
    | inl e ↦
        rw t (in_seen seen xs z (subst (λ (w : DataSymbol). IsIn seen w) e (seen_same seen x t)))
    | inr r ↦ rw t (in_once seen xs z r)
  ]
  | inr f ↦ elim h [
    | inl e ↦
        rw f (in_seen (seen ++ x ∷ []) xs z
        (subst (λ (w : DataSymbol). IsIn (seen ++ x ∷ []) w) e (in_last seen x)))
    | inr r ↦ rw f (in_once (seen ++ x ∷ []) xs z r)
  ]
]

pub data_noted_by : {S : Type 0} (input : Input) (ds fs : List DataSymbol) (end : ℕ)
    (none middle places : HashMap DataSymbol ℕ S) → ds ≡ dynamic_data input → fs ≡ forced_data input
    → end ≡ data_start input + (length (dynamic_data input) + length (forced_data input))
    → NotesPlaces ds ((end - length fs) - length ds) none middle
    → NotesPlaces fs (end - length fs) middle places → AreDataPlaces input places
data_noted_by input ds fs end none middle places ds_is fs_is end_is dynamic forced =
    let d_len : length ds ≡ length (dynamic_data input) = ap (λ (zs : List DataSymbol). length zs) ds_is in
    let f_len : length fs ≡ length (forced_data input) = ap (λ (zs : List DataSymbol). length zs) fs_is in
    data_noted input ((end - length fs) - length ds) (end - length fs) none middle places
    (omega (arith, d_len, f_len, end_is)) (omega (arith, d_len, f_len, end_is))
    (subst (λ (zs : List DataSymbol). NotesPlaces zs ((end - length fs) - length ds) none middle) ds_is dynamic)
    (subst (λ (zs : List DataSymbol). NotesPlaces zs (end - length fs) middle places) fs_is forced)
