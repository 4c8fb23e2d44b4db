-- Why there can't be these exports.
use Rattle.std.proofs.Common.{◌≡◌, ◌⊎◌, ◌∙◌, ◌≤◌, ◌<◌, ℕ, zero, suc, ◌+◌, ◌||◌, Bool, true, false, List, [], ◌∷◌, ◌++◌, length, take, get_or, refl, sym, ap, subst, arith, inl, inr, Option, Some, None, IsSome, slice_get, Contains, true≢false, Result, Ok, Err, MatchResult, OnOk, IfErr}
use Rattle.std.specs.List.{AllByRecursion, AllZip}
use Rattle.std.specs.Option.{option_map_or, option_and_then}
use Rattle.std.specs.Prelude.{string_bytes, String}
use Rattle.std.specs.Str.{bytes_eq}
use Rattle.std.specs.declared.alloc.Global.{Global as Memory}
use Rattle.std.proofs.lemmas.Bool.{cases_Bool}
use Rattle.std.proofs.lemmas.List.{take_more, take_all}
use Rattle.std.proofs.lemmas.Option.{same_Some}
use Rattle.wl_module.specs.Exports.{Exported}
use Rattle.wl_linking.specs.Fitting.{IsWhole}
use Rattle.wl_linking.specs.Object.{Object}
use Rattle.wl_linking.specs.Steps.{Clear, Refuses}
use Rattle.wl_custom.specs.Symbols.{Symbol as LinkedSymbol, is_undefined, is_table}
use Rattle.wl_linking.specs.declared.error.LinkError.{LinkError}
use Rattle.wl_linking.specs.declared.error.LinkError.TheVariants.{DuplicateExport}
use Rattle.wl_custom.specs.declared.symbols.WasmSymbolKind.{WasmSymbolKind}
use Rattle.wl_custom.specs.declared.symbols.WasmSymbolKind.TheVariants.{Func, Data, Global}
use Rattle.wl_symbols.specs.Entries.{symbol_in}
use Rattle.wl_symbols.specs.Names.{named}
use Rattle.wl_words.specs.Texts.{texts}
use Rattle.wl_symbols.specs.declared.entry.Definition.TheVariants.{Symbol}
use Rattle.wl_symbols.specs.SlotTargets.{is_definition_of}
use Rattle.wl_bind.specs.ExportedData.{is_made_name}
use Rattle.wl_symbols.specs.Input.{Input}
use Rattle.wl_exports.specs.Exports.{ExportEntry, Entity, defined_of_kind, object_entity, named_entity, first_exports}
use Rattle.wl_exports.specs.steps.Exports.{AddsExports}
use Rattle.wl_exports.specs.steps.Checking.{IsSoundSymbol, IsSymbolFault, no_room, a_table, nothing, IsSoundName, is_made, is_defined, IsNameFault, no_memory, is_a_table, is_missing, AreSoundNames, AreDistinct, IsRepeat, lack, twice, AreSoundFirst}
use Rattle.wl_exports.specs.Faults.{IsExportFault, is_table_symbol}
use Rattle.wl_exports.specs.steps.Names.{has_export}
use Rattle.wl_exports.specs.Sources.{IsPlainExport}
use Rattle.wl_lists.proofs.Beside.{zip_left, zip_right}
use Rattle.wl_lists.proofs.In.{IsIn, in_list, in_split, list_in}
use Rattle.wl_lists.proofs.Places.{item_at}
use Rattle.wl_exports.proofs.EntryLaws.{texts_more}
use Rattle.wl_exports.proofs.NameLaws.{bytes_is, bytes_self}
use Rattle.wl_exports.proofs.ShownLaws.{AreNumbered, Found, found, entity_found, holds_at, function_value, global_value}

-- ---- symbols

-- there is a symbol of those numbers
pub table_by : (input : Input) (object number : ℕ) (s : LinkedSymbol)
    → symbol_in input.link.objects object number ≡ Some s
    → is_table_symbol input (Some (Symbol object number)) ≡ is_table s.kind
table_by input object number s at =
    ap (λ (o : Option LinkedSymbol). option_map_or (λ (t : LinkedSymbol). is_table t.kind) o false) at

no_table : (input : Input) (object number : ℕ) → symbol_in input.link.objects object number ≡ None
    → is_table_symbol input (Some (Symbol object number)) ≡ false
no_table input object number none =
    ap (λ (o : Option LinkedSymbol). option_map_or (λ (t : LinkedSymbol). is_table t.kind) o false) none

-- the entity of a symbol that its object defines
entity_by : (input : Input) (object number : ℕ) (s : LinkedSymbol)
    → (f : Found input.link.objects object number s) → is_undefined s ≡ false
    → object_entity input (Symbol object number) ≡ defined_of_kind object number f.owner s.kind s.index
entity_by input object number s f defined = entity_found input object number s f ∙ rw defined refl

some_of : {X : Type 0} (o : Option X) (x : X) → o ≡ Some x → IsSome o
some_of o x e = rw e refl

-- a function, a global or data that its object defines
pub sound_symbol : AreNumbered → (input : Input) (object number : ℕ) (s : LinkedSymbol) (kind : WasmSymbolKind)
    → AllByRecursion IsWhole input.link.objects
    → symbol_in input.link.objects object number ≡ Some s → s.kind ≡ kind → is_undefined s ≡ false
    → is_table kind ≡ false
    → ((o : Object) → IsWhole o → slice_get o.symbols number ≡ Some s
    → (e : Entity) × (defined_of_kind object number o kind s.index ≡ Some e))
    → IsSoundSymbol input object number
sound_symbol numbered input object number s kind whole at is defined fails gives =
    let f = found input.link.objects object number s at in
    let e = gives f.owner (holds_at input.link.objects object f.owner whole f.here) f.at in
    let stands : object_entity input (Symbol object number) ≡ Some e.0 =
    entity_by input object number s f defined
    ∙ (ap (λ (k : WasmSymbolKind). defined_of_kind object number f.owner k s.index) is ∙ e.1) in
    record {
      defined = some_of (object_entity input (Symbol object number)) e.0 stands;
      no_table = table_by input object number s at ∙ (ap is_table is ∙ fails);
    }

pub gives_function : AreNumbered → (object number : ℕ) (s : LinkedSymbol) (o : Object) → s.kind ≡ Func
    → is_undefined s ≡ false → IsWhole o → slice_get o.symbols number ≡ Some s
    → (e : Entity) × (defined_of_kind object number o Func s.index ≡ Some e)
gives_function numbered object number s o kind defined whole at =
    let definition : is_definition_of Func s ≡ true = rw (kind, defined) refl in
    let n = numbered Func o number s whole at definition in
    (_, function_value object number o s.index n.0 n.1)

pub gives_global : AreNumbered → (object number : ℕ) (s : LinkedSymbol) (o : Object) → s.kind ≡ Global
    → is_undefined s ≡ false → IsWhole o → slice_get o.symbols number ≡ Some s
    → (e : Entity) × (defined_of_kind object number o Global s.index ≡ Some e)
gives_global numbered object number s o kind defined whole at =
    let definition : is_definition_of Global s ≡ true = rw (kind, defined) refl in
    let n = numbered Global o number s whole at definition in
    (_, global_value object number o s.index n.0 n.1)

-- ---- names

entity_named : (input : Input) (name : List ℕ) (object number : ℕ) → named input.link name ≡ Some (Symbol object number)
    → named_entity input name ≡ object_entity input (Symbol object number)
entity_named input name object number names = ap (option_and_then (object_entity input)) names

pub sound_name : (input : Input) (name : List ℕ) (object number : ℕ)
    → named input.link name ≡ Some (Symbol object number) → IsSoundSymbol input object number → IsSoundName input name
sound_name input name object number names sound =
    is_defined
    (subst (λ (e : Option Entity). IsSome e) (sym (entity_named input name object number names)) sound.defined)
    (ap (is_table_symbol input) names ∙ sound.no_table)

pub name_fault : (input : Input) (name : List ℕ) (object number : ℕ) (e : LinkError)
    → is_made_name input name ≡ false → named input.link name ≡ Some (Symbol object number)
    → IsSymbolFault input name object number e → IsNameFault input name e
name_fault input name object number e unmade names (no_room told) = no_memory told
name_fault input name object number e unmade names (a_table holds told) =
    is_a_table unmade object number names (ap (is_table_symbol input) names ∙ holds) told
name_fault input name object number e unmade names (nothing fails none told) =
    is_missing unmade (entity_named input name object number names ∙ none) (ap (is_table_symbol input) names ∙ fails) told

-- what is reported of a name that has to be exported is a fault
pub required_fault : (input : Input) (name : List ℕ) (e : LinkError)
    → Contains input.link.args.required_export_symbols name → IsNameFault input name e
    → Refuses (IsExportFault input) e
required_fault input name e asked (no_memory told) = record { cause_is = λ other. absurd (other told) }
required_fault input name e asked (is_a_table unmade object number names holds told) = record {
  cause_is = λ other. inl (record {
    name = name;
    required = record { asked = asked; unmade = unmade };
    object = object;
    number = number;
    stands = names;
    table = holds;
    told = told;
  });
}
required_fault input name e asked (is_missing unmade none fails told) = record {
  cause_is = λ other. inr (inl (record {
    name = name;
    required = record { asked = asked; unmade = unmade };
    undefined = none;
    no_table = fails;
    told = told;
  }));
}

sound_no_table : (input : Input) (name : List ℕ) → IsSoundName input name → is_made_name input name ≡ false
    → is_table_symbol input (named input.link name) ≡ true → ⊥
sound_no_table input name (is_made made) unmade table = absurd (true≢false (sym made ∙ unmade))
sound_no_table input name (is_defined some fails) unmade table = absurd (true≢false (sym table ∙ fails))

sound_no_lack : (input : Input) (name : List ℕ) → IsSoundName input name → is_made_name input name ≡ false
    → named_entity input name ≡ None → ⊥
sound_no_lack input name (is_made made) unmade none = absurd (true≢false (sym made ∙ unmade))
sound_no_lack input name (is_defined some fails) unmade none =
    absurd (true≢false (sym (subst (λ (e : Option Entity). IsSome e) none some)))

-- ---- repeats

pub repeat_fault : (input : Input) (xs : List Exported) (e : LinkError)
    → AllZip (IsPlainExport input) (first_exports input) xs → IsRepeat xs e → Refuses (IsExportFault input) e
repeat_fault input xs e zip (lack told) = record { cause_is = λ other. absurd (other told) }
repeat_fault input xs e zip (twice r) =
    let a = zip_left (IsPlainExport input) (first_exports input) xs r.first r.one zip r.here in
    let b = zip_left (IsPlainExport input) (first_exports input) xs r.second r.other zip r.there in
    record {
      cause_is = λ other. inr (inr (record {
        first = r.first;
        second = r.second;
        in_order = r.in_order;
        one = a.0;
        here = a.1;
        other = b.0;
        there = b.1;
        same = sym a.2.name ∙ (r.same ∙ b.2.name);
        told = r.told ∙ ap (λ (n : List ℕ). DuplicateExport n) a.2.name;
      }));
    }

pub sound_first : (input : Input) (xs : List Exported) → AllZip (IsPlainExport input) (first_exports input) xs
    → AreDistinct xs → AreSoundFirst input
sound_first input xs zip distinct i k a b lt at_a at_b same =
    let x = zip_right (IsPlainExport input) (first_exports input) xs i a zip at_a in
    let y = zip_right (IsPlainExport input) (first_exports input) xs k b zip at_b in
    distinct i k x.0 y.0 lt x.1 y.1 (x.2.name ∙ (same ∙ sym y.2.name))

pub clear_of : (input : Input) → AreSoundNames input → AreSoundFirst input → Clear (IsExportFault input)
clear_of input names first = record {
  none = λ e fault. elim fault [
    | inl t ↦ sound_no_table input t.name (names t.name t.required.asked) t.required.unmade t.table
    | inr rest ↦ elim rest [
      | inl n ↦ sound_no_lack input n.name (names n.name n.required.asked) n.required.unmade n.undefined
      | inr d ↦ first d.first d.second d.one d.other d.in_order d.here d.there d.same
    ]
  ];
}

any_at : (name : List ℕ) (xs : List Exported) (i : ℕ) (a : Exported) → slice_get xs i ≡ Some a → a.name ≡ name
    → has_export name xs ≡ true
any_at name [] i a at same = absurd cc
any_at name (x ∷ xs) zero a at same =
    let is : x ≡ a = same_Some x a at in
    let names : name ≡ x.name = sym same ∙ ap (λ (y : Exported). y.name) (sym is) in
    let here : bytes_eq name x.name ≡ true = subst (λ (n : List ℕ). bytes_eq name n ≡ true) names (bytes_self name) in
    rw here refl
any_at name (x ∷ xs) (suc i) a at same = or_right (bytes_eq name x.name) (has_export name xs) (any_at name xs i a at same)
  where
    or_right : (p q : Bool) → q ≡ true → (p || q) ≡ true
    or_right true q e = refl
    or_right false q e = e

-- the place of one of that name
any_is : (name : List ℕ) (xs : List Exported) → has_export name xs ≡ true
    → (i : ℕ) × (a : Exported) × (slice_get xs i ≡ Some a) × (name ≡ a.name)
any_is name [] e = absurd cc
any_is name (x ∷ xs) e = elim (cases_Bool (bytes_eq name x.name)) [
  | inl t ↦ (0, x, refl, bytes_is name x.name t)
  | inr f ↦ (let r = any_is name xs (rw f at e) in (suc r.0, r.1, r.2, r.3))
]

split_last : (xs : List Exported) (x : Exported) (k : ℕ) (b : Exported) → slice_get (xs ++ x ∷ []) k ≡ Some b
    → ((k < length xs) × (slice_get xs k ≡ Some b)) ⊎ ((k ≡ length xs) × (x ≡ b))
split_last [] x zero b at = inr (refl, same_Some x b at)
split_last [] x (suc k) b at = absurd cc
split_last (y ∷ xs) x zero b at = inl (omega arith, at)
split_last (y ∷ xs) x (suc k) b at = elim (split_last xs x k b at) [
  | inl front ↦ inl (omega (arith, front.0), front.1)
  | inr back ↦ inr (omega (arith, back.0), back.1)
]

distinct_more : (xs : List Exported) (x : Exported) → AreDistinct xs → has_export x.name xs ≡ false
    → AreDistinct (xs ++ x ∷ [])
distinct_more xs x distinct free i k a b lt at_a at_b same = elim (split_last xs x k b at_b) [
  | inl front ↦ elim (split_last xs x i a at_a) [
    | inl before ↦ distinct i k a b lt before.1 front.1 same
    | inr last ↦ absurd (omega (arith, lt, front.0, last.0))
  ]
  | inr back ↦ elim (split_last xs x i a at_a) [
    | inl before ↦
        let names : a.name ≡ x.name = same ∙ ap (λ (y : Exported). y.name) (sym back.1) in
        absurd (true≢false (sym (any_at x.name xs i a before.1 names) ∙ free))
    | inr last ↦ absurd (omega (arith, lt, back.0, last.0))
  ]
]

pub distinct_next : (xs : List Exported) (i : ℕ) (x : Exported) → i < length xs → x ≡ get_or xs i x
    → has_export x.name (take i xs) ≡ false → AreDistinct (take i xs) → AreDistinct (take (i + 1) xs)
distinct_next xs i x lt at free distinct =
    let same : take i xs ++ x ∷ [] ≡ take (i + 1) xs =
    ap (λ (z : Exported). take i xs ++ z ∷ []) at ∙ sym (take_more xs i x lt) in
    subst AreDistinct same (distinct_more (take i xs) x distinct free)

front_of : (i : ℕ) (xs : List Exported) (k : ℕ) (a : Exported) → slice_get (take i xs) k ≡ Some a
    → (k < i) × (slice_get xs k ≡ Some a)
front_of zero xs k a at = absurd cc
front_of (suc i) [] k a at = absurd cc
front_of (suc i) (x ∷ xs) zero a at = (omega arith, at)
front_of (suc i) (x ∷ xs) (suc k) a at = let h = front_of i xs k a at in (omega (arith, h.0), h.1)

pub repeat_at : (xs : List Exported) (i : ℕ) (x : Exported) → i < length xs → x ≡ get_or xs i x
    → has_export x.name (take i xs) ≡ true → IsRepeat xs (DuplicateExport x.name)
repeat_at xs i x lt at taken =
    let a = any_is x.name (take i xs) taken in
    let h = front_of i xs a.0 a.1 a.2 in
    twice (record {
      first = a.0;
      second = i;
      in_order = h.0;
      one = a.1;
      here = h.1;
      other = x;
      there = item_at xs i x lt at;
      same = sym a.3;
      told = ap (λ (n : List ℕ). DuplicateExport n) a.3;
    })

-- ---- verdicts

pub ok_of : {T E : Type 0} (r : Result T E) (P : T → Type 0) (Q : E → Type 0) (A : Type 0)
    → ((x : T) → P x → A) → MatchResult r P Q → OnOk r A
ok_of (Ok x) P Q A f h = f x h
ok_of (Err e) P Q A f h = tt

pub err_of : {T E : Type 0} (r : Result T E) (P : T → Type 0) (Q R : E → Type 0)
    → ((e : E) → Q e → R e) → MatchResult r P Q → IfErr r R
err_of (Ok x) P Q R f h = tt
err_of (Err e) P Q R f h = f e h

pub match_then : {T E : Type 0} (r : Result T E) (P A : T → Type 0) (Q B : E → Type 0)
    → ((x : T) → P x → A x) → ((e : E) → Q e → B e) → MatchResult r P Q → MatchResult r A B
match_then (Ok x) P A Q B f g h = f x h
match_then (Err e) P A Q B f g h = g e h

-- ---- name by name

pub each_next : (P : List ℕ → Type 0) (items : List (String Memory)) (i : ℕ) (s : String Memory) (name : List ℕ)
    → i < length items → s ≡ get_or items i s → name ≡ string_bytes s → P name
    → ((n : List ℕ) → Contains (texts (take i items)) n → P n)
    → (n : List ℕ) → Contains (texts (take (i + 1) items)) n → P n
each_next P items i s name lt is named_so holds so_far n h =
    let front : List (List ℕ) = texts (take i items) in
    let more : texts (take (i + 1) items) ≡ front ++ string_bytes s ∷ [] = texts_more items i s lt is in
    let among : IsIn (front ++ string_bytes s ∷ []) n =
    list_in (front ++ string_bytes s ∷ []) n (subst (λ (ns : List (List ℕ)). Contains ns n) more h) in
    elim (in_split front (string_bytes s ∷ []) n among) [
      | inl before ↦ so_far n (in_list front n before)
      | inr last ↦ elim last [
        | inl e ↦ subst P (named_so ∙ e) holds
        | inr none ↦ absurd none
      ]
    ]

pub each_all : (P : List ℕ → Type 0) (items : List (String Memory)) (i : ℕ) (names : List (List ℕ))
    → length items ≤ i → texts items ≡ names
    → ((n : List ℕ) → Contains (texts (take i items)) n → P n) → (n : List ℕ) → Contains names n → P n
each_all P items i names past are so_far n h =
    let whole : texts (take i items) ≡ names =
    ap (λ (zs : List (String Memory)). texts zs) (take_all i items past) ∙ are in
    so_far n (subst (λ (ns : List (List ℕ)). Contains ns n) (sym whole) h)

pub distinct_all : (xs : List Exported) (i : ℕ) → length xs ≤ i → AreDistinct (take i xs) → AreDistinct xs
distinct_all xs i past so_far = subst AreDistinct (take_all i xs past) so_far

pub zip_of : (input : Input) (es : List ExportEntry) (old new xs : List Exported) → AddsExports input es old new
    → old ≡ [] → xs ≡ new → AllZip (IsPlainExport input) es xs
zip_of input es old new xs adds none is =
    let same : adds.more ≡ xs = sym (is ∙ (adds.grown ∙ ap (λ (zs : List Exported). zs ++ adds.more) none)) in
    subst (λ (zs : List Exported). AllZip (IsPlainExport input) es zs) same adds.are

-- a function, a global or data that its object defines
pub sound_by : AreNumbered → (input : Input) (object number : ℕ) (s : LinkedSymbol)
    → AllByRecursion IsWhole input.link.objects
    → symbol_in input.link.objects object number ≡ Some s → is_undefined s ≡ false
    → ((s.kind ≡ Func) ⊎ ((s.kind ≡ Global) ⊎ (s.kind ≡ Data))) → IsSoundSymbol input object number
sound_by numbered input object number s whole at defined (inl kind) =
    sound_symbol numbered input object number s Func whole at kind defined refl
    (λ o w here. gives_function numbered object number s o kind defined w here)
sound_by numbered input object number s whole at defined (inr (inl kind)) =
    sound_symbol numbered input object number s Global whole at kind defined refl
    (λ o w here. gives_global numbered object number s o kind defined w here)
sound_by numbered input object number s whole at defined (inr (inr kind)) =
    sound_symbol numbered input object number s Data whole at kind defined refl (λ o w here. (_, refl))

-- one of three kinds
pub kind_of_three : (a b : WasmSymbolKind) → a ≡ b → ((a ≡ Func) ⊎ ((a ≡ Global) ⊎ (a ≡ Data)))
    → ((b ≡ Func) ⊎ ((b ≡ Global) ⊎ (b ≡ Data)))
kind_of_three a b same (inl e) = inl (sym same ∙ e)
kind_of_three a b same (inr (inl e)) = inr (inl (sym same ∙ e))
kind_of_three a b same (inr (inr e)) = inr (inr (sym same ∙ e))
