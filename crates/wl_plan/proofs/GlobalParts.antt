-- How the list of globals grows, part by part.
use Rattle.std.proofs.Common.{◌≡◌, ◌∙◌, ℕ, zero, suc, ◌+◌, ◌<◌, ◌≤◌, ◌++◌, Bool, true, false, List, [], ◌∷◌, length, map, take, get_or, refl, sym, ap, subst, inl, inr, arith, Some, Ok, Err, Contains, flat_map, append_assoc, append-nil, slice_get, if◌then◌else◌}
use Rattle.std.specs.List.{AllZip, range_with_len, filter}
use Rattle.std.proofs.lemmas.Bool.{cases_Bool}
use Rattle.std.proofs.lemmas.List.{map_more, take_more, take_all, map-append}
use Rattle.std.proofs.lemmas.List.Concat.{flat_map-append}
use Rattle.std.proofs.lemmas.List.Elements.{Contains-append_left, Contains-append_right, filter-append}
use Rattle.std.proofs.lemmas.List.FromFn.{map-range_with_len_more, length-map-range_with_len, get_or-map-range_with_len}
use Rattle.wl_module.specs.Globals.{DefinedGlobal}
use Rattle.wl_linking.specs.Object.{Object}
use Rattle.wl_linking.specs.Steps.{Clear, Refuses}
use Rattle.wl_linking.specs.declared.error.LinkError.{LinkError}
use Rattle.wl_symbols.specs.declared.linker_symbol.WasmLinkerSymbol.{WasmLinkerSymbol}
use Rattle.wl_symbols.specs.declared.linker_symbol.WasmLinkerSymbol.TheVariants as linker
use Rattle.wl_symbols.specs.declared.made_sort.NamedGlobal.{NamedGlobal}
use Rattle.wl_symbols.specs.declared.made_sort.NamedGlobal.TheVariants as named
use Rattle.wl_symbols.specs.declared.units.WasmGcUnit.TheVariants.{DefinedGlobal as OwnGlobal}
use Rattle.wl_bind.specs.Made.{is_made}
use Rattle.wl_bind.specs.Parts.{by_object}
use Rattle.wl_bind.specs.GlobalSpace.{GlobalEntry, GlobalOf, AddressOf, DataOf, globals_of, made_global_part, address_part, got_mem_part, got_func_part, dynamic_part, forced_part, host_global_part, object_globals}
use Rattle.wl_symbols.specs.Input.{Input, keeps}
use Rattle.wl_bind.specs.declared.binding.GlobalTarget.TheVariants.{Defined, Made, GotMem, GotFunc, Host}
use Rattle.wl_plan.specs.steps.Globals.{AnswersStart, AddsMade, AddsPart, IsPartFault, named_part, linker_parts, made_parts, own_global_part}
use Rattle.wl_plan.specs.Globals.{start_of_global, i32_global, IsMadeGlobal, IsGlobalOf, IsPlannedGlobal, own_globals, ArePlannedGlobals, IsGlobalFault}
use Rattle.wl_plan.specs.declared.global_starts.GlobalSources.{GlobalSources}
use Rattle.wl_plan.specs.declared.global_starts.Start.{Start}
use Rattle.wl_output.specs.declared.entities.GlobalOrigin.TheVariants as origin
use Rattle.wl_plan.specs.declared.layout.PlannedGlobal.{PlannedGlobal}
use Rattle.wl_places.specs.declared.placing.Placing.{Placing}
use Rattle.wl_lists.proofs.Beside.{zip_joined}
use Rattle.wl_lists.proofs.In.{Contains-map}
use Rattle.wl_lists.proofs.Rows.{by_object_more}
use Rattle.wl_plan.proofs.ListLaws.{drop_front}

-- ---- lists

module _ {X : Type 0} where
  alone : (y x : X) → Contains (y ∷ []) x → y ≡ x
  alone y x (zero, lt, e) = e
  alone y x (suc k, lt, e) = absurd (omega (arith, lt))

  at_front : (x : X) (xs : List X) → Contains (x ∷ xs) x
  at_front x xs = (zero, omega arith, refl)

  -- the only element of a list stands where it stands
  pub only : (y : X) (ys : List X) → Contains ys y → (x : X) → Contains (y ∷ []) x → Contains ys x
  only y ys there x h = subst (λ (z : X). Contains ys z) (alone y x h) there

  -- what stands at a place is there
  pub is_at : (xs : List X) (i : ℕ) (d : X) → i < length xs → Contains xs (get_or xs i d)
  is_at [] i d lt = absurd (omega (arith, lt))
  is_at (x ∷ xs) zero d lt = at_front x xs
  is_at (x ∷ xs) (suc i) d lt =
      let rest = is_at xs i d (omega (arith, lt)) in
      (suc rest.0, omega (arith, rest.1), rest.2)

in_range : {Y : Type 0} (f : ℕ → Y) (n k : ℕ) → k < n → Contains (map f (range_with_len 0 n)) (f k)
in_range f n k lt = (
  k,
  omega (arith, lt, length-map-range_with_len f 0 n),
  get_or-map-range_with_len f 0 n k k (f k) lt (omega arith),
)

-- what stands in one part
in_flat : {X Y : Type 0} (f : X → List Y) (xs : List X) (i : ℕ) (d : X) → i < length xs → (y : Y)
    → Contains (f (get_or xs i d)) y → Contains (flat_map f xs) y
in_flat f [] i d lt y h = absurd (omega (arith, lt))
in_flat f (x ∷ xs) zero d lt y h = Contains-append_left (f x) (flat_map f xs) y h
in_flat f (x ∷ xs) (suc i) d lt y h =
    Contains-append_right (f x) (flat_map f xs) y (in_flat f xs i d (omega (arith, lt)) y h)

-- one more part
flat_more : {X Y : Type 0} (f : X → List Y) (xs : List X) (i : ℕ) (d : X) → i < length xs
    → flat_map f (take (i + 1) xs) ≡ flat_map f (take i xs) ++ f (get_or xs i d)
flat_more {X} {Y} f xs i d lt =
    ap (flat_map f) (take_more xs i d lt)
    ∙ (flat_map-append f (take i xs) (get_or xs i d ∷ [])
    ∙ ap (λ (ys : List Y). flat_map f (take i xs) ++ ys) (append-nil (f (get_or xs i d))))

-- ---- objects

-- the number after a range
range_more : (a k j : ℕ) → a + k ≡ j → range_with_len a (k + 1) ≡ range_with_len a k ++ j ∷ []
range_more a zero j e = let is : a ≡ j = omega (arith, e) in rw is refl
range_more a (suc k) j e =
    let on : suc k + 1 ≡ suc (k + 1) = omega arith in
    rw on (ap (λ (ns : List ℕ). a ∷ ns) (range_more (a + 1) k j (omega (arith, e))))

own_part : (input : Input) (object k : ℕ)
    → map (λ (n : ℕ). GlobalOf (Defined object n))
    (filter (λ (n : ℕ). keeps input object (OwnGlobal n)) (k ∷ []))
    ≡ own_global_part input object k
own_part input object k = elim (cases_Bool (keeps input object (OwnGlobal k))) [
  | inl kept ↦ rw kept refl
  | inr dropped ↦ rw dropped refl
]

-- those of one more global
pub kept_more : (input : Input) (object k : ℕ)
    → map (λ (n : ℕ). GlobalOf (Defined object n))
    (filter (λ (n : ℕ). keeps input object (OwnGlobal n)) (range_with_len 0 (k + 1)))
    ≡ map (λ (n : ℕ). GlobalOf (Defined object n))
    (filter (λ (n : ℕ). keeps input object (OwnGlobal n)) (range_with_len 0 k))
    ++ own_global_part input object k
kept_more input object k =
    let f : ℕ → GlobalEntry = λ (n : ℕ). GlobalOf (Defined object n) in
    let p : ℕ → Bool = λ (n : ℕ). keeps input object (OwnGlobal n) in
    ap (λ (ns : List ℕ). map f (filter p ns)) (range_more 0 k k (omega arith))
    ∙ (ap (map f) (filter-append p (range_with_len 0 k) (k ∷ []))
    ∙ (map-append f (filter p (range_with_len 0 k)) (filter p (k ∷ []))
    ∙ ap (λ (l : List GlobalEntry). map f (filter p (range_with_len 0 k)) ++ l)
    (own_part input object k)))

-- ---- refusals

module _ (s : GlobalSources) where
  -- a fault of a part is one of a list that has the part
  pub refuses_of : {e : LinkError} (p q : List GlobalEntry)
      → ((x : GlobalEntry) → Contains p x → Contains q x)
      → Refuses (IsPartFault s p) e → Refuses (IsPartFault s q) e
  refuses_of {e} p q within h = record {
    cause_is = λ other.
        let fault = h.cause_is other in
        record {
          entry = fault.entry;
          one = within fault.entry fault.one;
          fault = fault.fault;
        };
  }

  pub refuses_left : {e : LinkError} (p q : List GlobalEntry) → Refuses (IsPartFault s p) e
      → Refuses (IsPartFault s (p ++ q)) e
  refuses_left p q h = refuses_of p (p ++ q) (λ x. Contains-append_left p q x) h

  pub refuses_right : {e : LinkError} (p q : List GlobalEntry) → Refuses (IsPartFault s q) e
      → Refuses (IsPartFault s (p ++ q)) e
  refuses_right p q h = refuses_of q (p ++ q) (λ x. Contains-append_right p q x) h

  -- an entry that can't start
  pub refuses_start : (entry : GlobalEntry) (e : LinkError) → AnswersStart s entry (Err e)
      → Refuses (IsPartFault s (entry ∷ [])) e
  refuses_start entry e h = record {
    cause_is = λ other. record { entry = entry; one = at_front entry []; fault = h };
  }

  pub refuses_one : {X : Type 0} {e : LinkError} (f : X → GlobalEntry) (xs : List X) (i : ℕ) (d : X)
      → i < length xs → Refuses (IsPartFault s (f (get_or xs i d) ∷ [])) e
      → Refuses (IsPartFault s (map f xs)) e
  refuses_one f xs i d lt h =
      refuses_of (f (get_or xs i d) ∷ []) (map f xs)
      (only (f (get_or xs i d)) (map f xs) (Contains-map f xs (get_or xs i d) (is_at xs i d lt))) h

  pub refuses_upto : {e : LinkError} (f : ℕ → GlobalEntry) (n k : ℕ) → k < n
      → Refuses (IsPartFault s (f k ∷ [])) e
      → Refuses (IsPartFault s (map f (range_with_len 0 n))) e
  refuses_upto f n k lt h =
      refuses_of (f k ∷ []) (map f (range_with_len 0 n))
      (only (f k) (map f (range_with_len 0 n)) (in_range f n k lt)) h

  -- ---- parts

  pub adds_none : (old : List PlannedGlobal) → AddsPart s [] old old
  adds_none old = record { more = []; are = tt; grown = sym (append-nil old) }

  pub adds_join : {p q : List GlobalEntry} {a b c : List PlannedGlobal}
      → AddsPart s p a b → AddsPart s q b c → AddsPart s (p ++ q) a c
  adds_join {p} {q} {a} {b} {c} h k = record {
    more = h.more ++ k.more;
    are = zip_joined (IsPlannedGlobal s.book.now.input.now s.book.now.placing.now) p q h.more k.more
        h.are k.are;
    grown = k.grown ∙ (ap (λ (l : List PlannedGlobal). l ++ k.more) h.grown
        ∙ append_assoc a h.more k.more);
  }

  -- a global that the linker makes is that of the entry that it starts as
  pub adds_made : (entry : GlobalEntry) (start : Start) (old new : List PlannedGlobal)
      → ((m : DefinedGlobal) → IsMadeGlobal s.book.now.input.now s.book.now.placing.now entry m
      → IsGlobalOf s.book.now.input.now s.book.now.placing.now entry m)
      → AnswersStart s entry (Ok start) → AddsMade start old new → AddsPart s (entry ∷ []) old new
  adds_made entry start old new is answers h =
      let made : DefinedGlobal =
      record { ty = i32_global start.mutable; body = h.body; owned = true } in
      record {
        more = record { global = made; origin = origin.Made start.made } ∷ [];
        are = (
          record {
            origin_is = sym answers.1.1;
            global_is = is made (record {
              number = start.number;
              starts = answers.0;
              ty = ap i32_global (sym answers.1.0);
              body = h.constant;
              owned = refl;
            });
          },
          tt,
        );
        grown = h.grown;
      }

  -- one more element of a list
  pub adds_more : {X : Type 0} {a b c : List PlannedGlobal} (f : X → GlobalEntry) (xs : List X)
      (i : ℕ) (d : X) → i < length xs → AddsPart s (map f (take i xs)) a b
      → AddsPart s (f (get_or xs i d) ∷ []) b c → AddsPart s (map f (take (i + 1) xs)) a c
  adds_more {X} {a} {b} {c} f xs i d lt h k =
      subst (λ (part : List GlobalEntry). AddsPart s part a c) (sym (map_more f xs i d lt))
      (adds_join h k)

  pub adds_all : {X : Type 0} {a b : List PlannedGlobal} (f : X → GlobalEntry) (xs : List X) (i : ℕ)
      → length xs ≤ i → AddsPart s (map f (take i xs)) a b → AddsPart s (map f xs) a b
  adds_all {X} {a} {b} f xs i le h =
      subst (λ (l : List X). AddsPart s (map f l) a b) (take_all i xs le) h

  -- one more number
  pub adds_upto : {a b c : List PlannedGlobal} (f : ℕ → GlobalEntry) (k : ℕ)
      → AddsPart s (map f (range_with_len 0 k)) a b → AddsPart s (f k ∷ []) b c
      → AddsPart s (map f (range_with_len 0 (k + 1))) a c
  adds_upto {a} {b} {c} f k h one =
      subst (λ (part : List GlobalEntry). AddsPart s part a c)
      (sym (map-range_with_len_more f 0 k k (omega arith))) (adds_join h one)

  -- one more part of such
  pub adds_flat : {X : Type 0} {a b c : List PlannedGlobal} (f : X → List GlobalEntry) (xs : List X)
      (i : ℕ) (d : X) → i < length xs → AddsPart s (flat_map f (take i xs)) a b
      → AddsPart s (f (get_or xs i d)) b c → AddsPart s (flat_map f (take (i + 1) xs)) a c
  adds_flat {X} {a} {b} {c} f xs i d lt h k =
      subst (λ (part : List GlobalEntry). AddsPart s part a c) (sym (flat_more f xs i d lt))
      (adds_join h k)

  pub adds_all_flat : {X : Type 0} {a b : List PlannedGlobal} (f : X → List GlobalEntry)
      (xs : List X) (i : ℕ) → length xs ≤ i → AddsPart s (flat_map f (take i xs)) a b
      → AddsPart s (flat_map f xs) a b
  adds_all_flat {X} {a} {b} f xs i le h =
      subst (λ (l : List X). AddsPart s (flat_map f l) a b) (take_all i xs le) h

  pub refuses_flat : {X : Type 0} {e : LinkError} (f : X → List GlobalEntry) (xs : List X) (i : ℕ)
      (d : X) → i < length xs → Refuses (IsPartFault s (f (get_or xs i d))) e
      → Refuses (IsPartFault s (flat_map f xs)) e
  refuses_flat f xs i d lt h =
      refuses_of (f (get_or xs i d)) (flat_map f xs) (in_flat f xs i d lt) h

  -- the same of lists that are the same
  pub mapped_added : {X : Type 0} {a b : List PlannedGlobal} (f : X → GlobalEntry) (xs ys : List X)
      → xs ≡ ys → AddsPart s (map f xs) a b → AddsPart s (map f ys) a b
  mapped_added {X} {a} {b} f xs ys is h =
      subst (λ (l : List X). AddsPart s (map f l) a b) is h

  pub mapped_refused : {X : Type 0} {e : LinkError} (f : X → GlobalEntry) (xs ys : List X) → xs ≡ ys
      → Refuses (IsPartFault s (map f xs)) e → Refuses (IsPartFault s (map f ys)) e
  mapped_refused {X} {e} f xs ys is h =
      subst (λ (l : List X). Refuses (IsPartFault s (map f l)) e) is h

  -- ---- what objects define

  -- the kept ones of the first globals of an object
  abbrev pub KeptUpTo : ℕ → ℕ → List PlannedGlobal → List PlannedGlobal → Type 0
  KeptUpTo object k a b =
      AddsPart s (map (λ (n : ℕ). GlobalOf (Defined object n))
      (filter (λ (n : ℕ). keeps s.book.now.input.now object (OwnGlobal n)) (range_with_len 0 k)))
      a b

  pub adds_kept : (object k : ℕ) (a b c : List PlannedGlobal) → KeptUpTo object k a b
      → AddsPart s (own_global_part s.book.now.input.now object k) b c
      → KeptUpTo object (k + 1) a c
  adds_kept object k a b c h one =
      subst (λ (part : List GlobalEntry). AddsPart s part a c)
      (sym (kept_more s.book.now.input.now object k)) (adds_join h one)

  pub kept_all : (object k : ℕ) (o : Object) (a b : List PlannedGlobal) → k ≡ length o.globals
      → KeptUpTo object k a b → AddsPart s (globals_of s.book.now.input.now object o) a b
  kept_all object k o a b is h = subst (λ (n : ℕ). KeptUpTo object n a b) is h

  pub adds_object : (i : ℕ) (o : Object) (a b c : List PlannedGlobal)
      → slice_get s.book.now.input.now.link.objects i ≡ Some o
      → AddsPart s (by_object (globals_of s.book.now.input.now) 0
      (take i s.book.now.input.now.link.objects)) a b
      → AddsPart s (globals_of s.book.now.input.now i o) b c
      → AddsPart s (by_object (globals_of s.book.now.input.now) 0
      (take (i + 1) s.book.now.input.now.link.objects)) a c
  adds_object i o a b c here h one =
      subst (λ (part : List GlobalEntry). AddsPart s part a c)
      (sym (by_object_more (globals_of s.book.now.input.now) 0 s.book.now.input.now.link.objects i i
      o (omega arith) here)) (adds_join h one)

  pub all_objects : (i : ℕ) (a b : List PlannedGlobal)
      → length s.book.now.input.now.link.objects ≤ i
      → AddsPart s (by_object (globals_of s.book.now.input.now) 0
      (take i s.book.now.input.now.link.objects)) a b
      → AddsPart s (object_globals s.book.now.input.now) a b
  all_objects i a b le h =
      subst
      (λ (os : List Object). AddsPart s (by_object (globals_of s.book.now.input.now) 0 os) a b)
      (take_all i s.book.now.input.now.link.objects le) h

  pub adds_same : {a b : List PlannedGlobal} (f : ℕ → GlobalEntry) (n m : ℕ) → n ≡ m
      → AddsPart s (map f (range_with_len 0 n)) a b → AddsPart s (map f (range_with_len 0 m)) a b
  adds_same {a} {b} f n m is h =
      subst (λ (k : ℕ). AddsPart s (map f (range_with_len 0 k)) a b) is h

-- the globals that the linker makes under names, in order
abbrev pub six_names : List NamedGlobal
six_names =
    named.MemoryBase ∷ named.TableBase ∷ named.StackPointer ∷ named.TlsBase ∷ named.TlsSize
    ∷ named.TlsAlign ∷ []

pub six_are : (input : Input) → flat_map (named_part input) six_names ≡ linker_parts input
six_are input = simp (append-nil)

-- ---- all of them

regroup : {X : Type 0} (a b c d e f g h i j k : List X)
    → a ++ (b ++ (c ++ (d ++ (e ++ (f ++ (g ++ (h ++ (i ++ (j ++ (k ++ []))))))))))
    ≡ (a ++ (b ++ (c ++ (d ++ (e ++ f))))) ++ (g ++ (h ++ (i ++ (j ++ k))))
regroup a b c d e f g h i j k = simp (append_assoc, append-nil)

-- the global space after the imports
pub own_globals_are : (input : Input) → own_globals input ≡ made_parts input ++ object_globals input
own_globals_are input =
    let a = made_global_part input linker.MemoryBase in
    let b = made_global_part input linker.TableBase in
    let c = made_global_part input linker.StackPointer in
    let d = made_global_part input linker.TlsBase in
    let e = made_global_part input linker.TlsSize in
    let f = made_global_part input linker.TlsAlign in
    let g = address_part input in
    let h = got_mem_part input in
    let i = got_func_part input in
    let j = dynamic_part input in
    let k = forced_part input in
    drop_front (host_global_part input)
    (a ++ (b ++ (c ++ (d ++ (e ++ (f ++ (g ++ (h ++ (i ++ (j ++ (k ++ [])))))))))))
    (object_globals input)
    ∙ ap (λ (l : List GlobalEntry). l ++ object_globals input) (regroup a b c d e f g h i j k)

pub planned : (s : GlobalSources) {a b c d e f g h : List PlannedGlobal} → a ≡ []
    → AddsPart s (flat_map (named_part s.book.now.input.now) six_names) a b
    → AddsPart s (address_part s.book.now.input.now) b c
    → AddsPart s (got_mem_part s.book.now.input.now) c d
    → AddsPart s (got_func_part s.book.now.input.now) d e
    → AddsPart s (dynamic_part s.book.now.input.now) e f
    → AddsPart s (forced_part s.book.now.input.now) f g
    → AddsPart s (object_globals s.book.now.input.now) g h
    → ArePlannedGlobals s.book.now.input.now s.book.now.placing.now h
planned s {a} {b} none named address mem func dynamic forced objects =
    let input = s.book.now.input.now in
    let R = IsPlannedGlobal input s.book.now.placing.now in
    let first = subst (λ (part : List GlobalEntry). AddsPart s part a b) (six_are input) named in
    let all = adds_join s (adds_join s first (adds_join s address (adds_join s mem
    (adds_join s func (adds_join s dynamic forced))))) objects in
    subst (λ (l : List PlannedGlobal). AllZip R (own_globals input) l)
    (sym (all.grown ∙ ap (λ (l : List PlannedGlobal). l ++ all.more) none))
    (subst (λ (l : List GlobalEntry). AllZip R l all.more) (sym (own_globals_are input)) all.are)

pub part_refused : (s : GlobalSources) (e : LinkError)
    → Refuses (IsPartFault s (made_parts s.book.now.input.now)) e
    → Refuses (IsGlobalFault s.book.now.input.now s.book.now.placing.now) e
part_refused s e h = record {
  cause_is = λ other.
      let fault = h.cause_is other in
      let input = s.book.now.input.now in
      record {
        entry = fault.entry;
        one = subst (λ (l : List GlobalEntry). Contains l fault.entry) (sym (own_globals_are input))
            (Contains-append_left (made_parts input) (object_globals input) fault.entry fault.one);
        fault = fault.fault;
      };
}

-- a global that stands there starts
one_starts : (input : Input) (g : Placing) (entry : GlobalEntry) (p : PlannedGlobal) (e : LinkError)
    → IsPlannedGlobal input g entry p → start_of_global input g entry ≡ Err e → ⊥
one_starts input g (GlobalOf (Defined object number)) p e h fails = absurd cc
one_starts input g (GlobalOf (Made m)) p e h fails = let starts = h.global_is.starts in absurd cc
one_starts input g (GlobalOf (GotMem place)) p e h fails =
    let starts = h.global_is.starts in absurd cc
one_starts input g (GlobalOf (GotFunc place)) p e h fails =
    let starts = h.global_is.starts in absurd cc
one_starts input g (GlobalOf (Host object slot)) p e h fails = absurd cc
one_starts input g (AddressOf m) p e h fails = absurd cc
one_starts input g (DataOf d) p e h fails = let starts = h.global_is.starts in absurd cc

all_start : (input : Input) (g : Placing) (entries : List GlobalEntry)
    (globals : List PlannedGlobal) (entry : GlobalEntry) (e : LinkError) → AllZip (IsPlannedGlobal input g) entries globals
    → Contains entries entry → start_of_global input g entry ≡ Err e → ⊥
all_start input g [] globals entry e h (k, lt, is) fails = absurd (omega (arith, lt))
all_start input g (x ∷ entries) [] entry e h one fails = absurd h
all_start input g (x ∷ entries) (p ∷ globals) entry e h (zero, lt, is) fails =
    one_starts input g x p e h.0
    (subst (λ (y : GlobalEntry). start_of_global input g y ≡ Err e) (sym is) fails)
all_start input g (x ∷ entries) (p ∷ globals) entry e h (suc k, lt, is) fails =
    all_start input g entries globals entry e h.1 (k, omega (arith, lt), is) fails

pub planned_clear : (input : Input) (g : Placing) (globals : List PlannedGlobal)
    → ArePlannedGlobals input g globals → Clear (IsGlobalFault input g)
planned_clear input g globals h = record {
  none = λ e fault.
      all_start input g (own_globals input) globals fault.entry e h fault.one fault.fault;
}

-- ---- what the output has under a name

part_if : (there : Bool) (entry : GlobalEntry) → there ≡ true
    → (if there then entry ∷ [] else []) ≡ entry ∷ []
part_if true entry is = refl
part_if false entry is = absurd cc

part_unless : (there : Bool) (entry : GlobalEntry) → there ≡ false
    → (if there then entry ∷ [] else []) ≡ []
part_unless true entry is = absurd cc
part_unless false entry is = refl

pub made_part : (input : Input) (m : WasmLinkerSymbol) → is_made input m ≡ true
    → made_global_part input m ≡ GlobalOf (Made m) ∷ []
made_part input m is = part_if (is_made input m) (GlobalOf (Made m)) is

pub no_part : (input : Input) (m : WasmLinkerSymbol) → is_made input m ≡ false
    → made_global_part input m ≡ []
no_part input m is = part_unless (is_made input m) (GlobalOf (Made m)) is

-- so the list grows by that global, or by nothing
pub adds_if_made : (s : GlobalSources) (m : WasmLinkerSymbol) (start : Start)
    (old new : List PlannedGlobal) → is_made s.book.now.input.now m ≡ true
    → AnswersStart s (GlobalOf (Made m)) (Ok start) → AddsMade start old new
    → AddsPart s (made_global_part s.book.now.input.now m) old new
adds_if_made s m start old new is answers one =
    subst (λ (part : List GlobalEntry). AddsPart s part old new)
    (sym (made_part s.book.now.input.now m is))
    (adds_made s (GlobalOf (Made m)) start old new (λ g x. x) answers one)

pub adds_unmade : (s : GlobalSources) (m : WasmLinkerSymbol) (old : List PlannedGlobal)
    → is_made s.book.now.input.now m ≡ false
    → AddsPart s (made_global_part s.book.now.input.now m) old old
adds_unmade s m old is =
    subst (λ (part : List GlobalEntry). AddsPart s part old old)
    (sym (no_part s.book.now.input.now m is)) (adds_none s old)

pub refuses_made : (s : GlobalSources) (m : WasmLinkerSymbol) (e : LinkError)
    → is_made s.book.now.input.now m ≡ true → AnswersStart s (GlobalOf (Made m)) (Err e)
    → Refuses (IsPartFault s (made_global_part s.book.now.input.now m)) e
refuses_made s m e is answers =
    subst (λ (part : List GlobalEntry). Refuses (IsPartFault s part) e)
    (sym (made_part s.book.now.input.now m is)) (refuses_start s (GlobalOf (Made m)) e answers)
