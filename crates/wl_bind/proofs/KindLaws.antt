-- The first symbol of another kind than its use asks for, where there is one.
use Rattle.std.proofs.Common.{◌≡◌, ℕ, ◌+◌, true, false, List, [], ◌∷◌, refl, sym, ap, subst, ◌∙◌, inl, inr, arith, Some, None, find, slice_get, Bool, Option, map}
use Rattle.std.specs.Option.{option_map, option_or}
use Rattle.std.proofs.lemmas.Bool.{cases_Bool, true≢false}
use Rattle.wl_linking.specs.Object.{Object}
use Rattle.wl_custom.specs.RelocationTypes.{names_a_type}
use Rattle.wl_linking.specs.Steps.{Clear}
use Rattle.wl_custom.specs.Symbols.{Symbol, is_data}
use Rattle.wl_linking.specs.declared.error.LinkError.{LinkError}
use Rattle.wl_linking.specs.declared.error.LinkError.TheVariants.{WrongKind}
use Rattle.wl_custom.specs.declared.infos.WasmInitFunc.{WasmInitFunc}
use Rattle.wl_symbols.specs.Entries.{symbol_in}
use Rattle.wl_symbols.specs.LinkerNames.{kind_of, is_exported_as_data}
use Rattle.wl_symbols.specs.declared.linker_symbol.WasmLinkerSymbol.{WasmLinkerSymbol}
use Rattle.wl_symbols.specs.declared.linker_symbol.WasmLinkerSymbol.TheVariants.{DataEnd}
use Rattle.wl_symbols.specs.Input.{Input}
use Rattle.wl_bind.specs.Kinds.{is_wrong_use, is_wrong_init, IsWrongUse, IsWrongInit, IsWrongKind}
use Rattle.wl_bind.specs.steps.Kinds.{is_wrong_relocation, is_wrong_at, init_place, wrong_init_from}
use Rattle.wl_symbols.specs.Relocations.{relocations}
use Rattle.wl_bind.specs.Scan.{symbol_of}
use Rattle.wl_symbols.specs.declared.relocated.Relocated.{Relocated}
use Rattle.wl_lists.proofs.Found.{map_some}
use Rattle.wl_bind.proofs.FindLaws.{find_some, find_none, map_none, map_or_true}
use Rattle.std.proofs.lemmas.List.Folds.{find-append}
use Rattle.wl_bind.specs.Parts.{by_object}
use Rattle.wl_lists.proofs.In.{in_list, list_in, in_map, map_in}
use Rattle.wl_lists.proofs.Rows.{given_by, object_in}
use Rattle.wl_bind.proofs.LeftLaws.{find_mapped}

-- ---- what the linker makes

pub exported_with_memory : (made : WasmLinkerSymbol) → is_exported_as_data true made ≡ is_data (kind_of made)
exported_with_memory DataEnd = refl
exported_with_memory _ = refl

-- ---- relocations

-- a relocation that is wrong by its parts is wrong
wrong_is : (input : Input) (e : LinkError) (h : IsWrongUse input e) → is_wrong_relocation input h.relocated ≡ true
wrong_is input e h = rw (h.by_symbol, h.names) h.wrong

no_wrong_use : (input : Input) → find (is_wrong_relocation input) (relocations input) ≡ None → Clear (IsWrongUse input)
no_wrong_use input none = record {
  none = λ e h. true≢false (sym (wrong_is input e h) ∙ find_none (is_wrong_relocation input) (relocations input) none h.relocated h.kept);
}

-- the symbol, and what is wrong
parts_of : (input : Input) (r : Relocated) → is_wrong_relocation input r ≡ true
    → (names_a_type r.relocation.ty ≡ false) × (s : Symbol) × (symbol_of input r ≡ Some s) × (is_wrong_use input r s ≡ true)
parts_of input r e = elim (cases_Bool (names_a_type r.relocation.ty)) [
  | inl t ↦ absurd (let h : false ≡ true = rw t at e in cc)
  | inr f ↦ let h = map_or_true (is_wrong_use input r) (symbol_of input r) (rw f at e) in (f, h.0, h.1, h.2)
]

pub a_wrong_use : (input : Input) (r : Relocated) → find (is_wrong_relocation input) (relocations input) ≡ Some r → IsWrongUse input (WrongKind r.object r.relocation.index)
a_wrong_use input r e =
    let found = find_some (is_wrong_relocation input) (relocations input) r e in
    let parts = parts_of input r found.1 in
    record {
      relocated = r;
      kept = found.0;
      by_symbol = parts.0;
      symbol = parts.1;
      names = parts.2;
      wrong = parts.3;
      told = refl;
    }

-- ---- functions that run at the start

-- these functions of an object, each with the number of the object
abbrev pairs : ℕ → Object → List (ℕ × WasmInitFunc)
pairs object o = map (λ (f : WasmInitFunc). (object, f)) o.init_funcs

abbrev is_wrong_pair : Input → ℕ × WasmInitFunc → Bool
is_wrong_pair input p = is_wrong_at input p.0 p.1

abbrev pair_place : ℕ × WasmInitFunc → ℕ × ℕ
pair_place p = init_place p.0 p.1

either_place : (n : ℕ) (f : Option WasmInitFunc) (p : Option (ℕ × WasmInitFunc))
    → option_or (option_map (init_place n) f) (option_map pair_place p)
    ≡ option_map pair_place (option_or (option_map (λ (f : WasmInitFunc). (n, f)) f) p)
either_place n None p = refl
either_place n (Some f) p = refl

-- the first of all that is wrong
from_pairs : (input : Input) (n : ℕ) (objects : List Object)
    → wrong_init_from input n objects ≡ option_map pair_place (find (is_wrong_pair input) (by_object pairs n objects))
from_pairs input n [] = refl
from_pairs input n (o ∷ objects) =
    let rest : Option (ℕ × WasmInitFunc) = find (is_wrong_pair input) (by_object pairs (n + 1) objects) in
    ap (λ (p : Option (ℕ × ℕ)). option_or (option_map (init_place n) (find (is_wrong_at input n) o.init_funcs)) p) (from_pairs input (n + 1) objects)
    ∙ either_place n (find (is_wrong_at input n) o.init_funcs) rest
    ∙ ap (option_map pair_place) (sym (find-append (is_wrong_pair input) (pairs n o) (by_object pairs (n + 1) objects)
    ∙ ap (λ (p : Option (ℕ × WasmInitFunc)). option_or p rest) (find_mapped (λ (f : WasmInitFunc). (n, f)) (is_wrong_pair input) o.init_funcs)))

-- the symbol of the object that is there
symbol_here : (objects : List Object) (k n : ℕ) (o : Object) (s : Symbol) → slice_get objects k ≡ Some o → symbol_in objects k n ≡ Some s
    → slice_get o.symbols n ≡ Some s
symbol_here objects k n o s here e = rw here at e

no_wrong_init : (input : Input) → wrong_init_from input 0 input.link.objects ≡ None → Clear (IsWrongInit input)
no_wrong_init input none = record {
  none = λ e h.
      let objects : List Object = input.link.objects in
      let pair : ℕ × WasmInitFunc = (h.object, h.function) in
      let here : symbol_in objects h.object h.function.symbol_index ≡ Some h.symbol = rw h.here h.names in
      let so : is_wrong_at input h.object h.function ≡ true = rw here h.wrong in
      let all = map_none pair_place (find (is_wrong_pair input) (by_object pairs 0 objects)) (sym (from_pairs input 0 objects) ∙ none) in
      let listed = object_in pairs 0 h.object h.object objects h.o pair (omega arith) h.here
      (map_in (λ (f : WasmInitFunc). (h.object, f)) (h.o).init_funcs h.function (list_in (h.o).init_funcs h.function h.one)) in
      true≢false (sym so ∙ find_none (is_wrong_pair input) (by_object pairs 0 objects) all pair (in_list (by_object pairs 0 objects) pair listed));
}

pub a_wrong_init : (input : Input) (object number : ℕ) → wrong_init_from input 0 input.link.objects ≡ Some (object, number) → IsWrongInit input (WrongKind object number)
a_wrong_init input object number e =
    let objects : List Object = input.link.objects in
    let all : List (ℕ × WasmInitFunc) = by_object pairs 0 objects in
    let p = map_some pair_place (find (is_wrong_pair input) all) (object, number) (sym (from_pairs input 0 objects) ∙ e) in
    let found = find_some (is_wrong_pair input) all p.0 p.1 in
    let g = given_by pairs 0 objects p.0 (list_in all p.0 found.0) in
    let c = in_map (λ (f : WasmInitFunc). (0 + g.place, f)) (g.object).init_funcs p.0 g.there in
    let same : 0 + g.place ≡ g.place = omega arith in
    let is : (g.place, c.from) ≡ p.0 = ap (λ (i : ℕ). (i, c.from)) (sym same) ∙ c.to in
    let so : is_wrong_at input g.place c.from ≡ true = subst (λ (q : ℕ × WasmInitFunc). is_wrong_pair input q ≡ true) (sym is) found.1 in
    let s = map_or_true (is_wrong_init input g.place c.from.symbol_index) (symbol_in objects g.place c.from.symbol_index) so in
    record {
      object = g.place;
      o = g.object;
      here = g.at;
      function = c.from;
      one = in_list (g.object).init_funcs c.from c.there;
      symbol = s.0;
      names = symbol_here objects g.place c.from.symbol_index g.object s.0 g.at s.1;
      wrong = s.2;
      told = ap (λ (q : ℕ × ℕ). WrongKind q.0 q.1) (sym p.2 ∙ ap pair_place (sym is));
    }

-- ---- both

pub none_wrong : (input : Input) → find (is_wrong_relocation input) (relocations input) ≡ None
    → wrong_init_from input 0 input.link.objects ≡ None → Clear (IsWrongKind input)
none_wrong input uses inits = record {
  none = λ e h. elim h [
    | inl u ↦ (no_wrong_use input uses).none e u
    | inr i ↦ (no_wrong_init input inits).none e i
  ];
}
