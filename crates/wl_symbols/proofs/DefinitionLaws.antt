-- A name stands for one definition at most.
use Rattle.std.proofs.Common.{◌≡◌, ℕ, List, refl, sym, ap, subst, ◌∙◌, inl, inr, Option, Some, None, MatchOption}
use Rattle.wl_linking.specs.Object.{Object}
use Rattle.wl_symbols.specs.Link.{Link}
use Rattle.wl_symbols.specs.LinkerNames.{name_of}
use Rattle.wl_symbols.specs.Names.{named, def, StandsFor, IsUnknown, HasSymbol, IsFirst, IsMade}
use Rattle.wl_symbols.proofs.MadeLaws.{parse_name}
use Rattle.wl_symbols.proofs.PlaceLaws.{places_in_order}
use Rattle.wl_symbols.proofs.NamedLaws.{named_cases, def_shared}
use Rattle.std.proofs.lemmas.Bool.{cases_Bool}
use Rattle.wl_custom.specs.Symbols.{Symbol as LinkedSymbol}
use Rattle.wl_symbols.specs.Entries.{is_private, symbol_in}
use Rattle.wl_symbols.specs.declared.entry.Strength.{Strength}
use Rattle.wl_symbols.specs.declared.entry.Strength.TheVariants.{Strong, Weak, Undefined}
use Rattle.wl_symbols.specs.declared.entry.Definition.{Definition}
use Rattle.wl_symbols.specs.declared.entry.Definition.TheVariants.{Symbol, Made}
use Rattle.wl_words.specs.declared.args.WasmArgs.{WasmArgs}
use Rattle.wl_symbols.specs.declared.linker_symbol.WasmLinkerSymbol.{WasmLinkerSymbol}

-- the first of these symbols stands at one place
one_first : (objects : List Object) (name : List ℕ) (strength : Strength) (o k p l : ℕ) → IsFirst objects name strength o k → IsFirst objects name strength p l → Symbol o k ≡ Symbol p l
one_first objects name strength o k p l a b = elim (places_in_order (record { object = o; symbol = k }) (record { object = p; symbol = l })) [
  | inl lt ↦ absurd (b.none_before o k a.here lt)
  | inr h ↦ elim h [ inl same ↦ (λ i. Symbol (same i).object (same i).symbol) | inr gt ↦ absurd (a.none_before p l b.here gt) ]
]

one_made : (args : WasmArgs) (name : List ℕ) (m n : WasmLinkerSymbol) → IsMade args name m → IsMade args name n → Made m ≡ Made n
one_made args name m n a b =
    let named-m = parse_name m in
    let named-n = parse_name n in
    let same : name_of m ≡ name_of n = a.name_is ∙ sym b.name_is in
    let is : Some m ≡ Some n = sym named-m ∙ (rw same named-n) in cc

one_definition : (link : Link) (name : List ℕ) (c d : Definition) → StandsFor link name c → StandsFor link name d → c ≡ d
one_definition link name (Symbol o k) (Symbol p l) a b = elim a [
  | inl x ↦ elim b [
    | inl y ↦ one_first link.objects name Strong o k p l x y
    | inr v ↦ elim v [ inl y ↦ absurd (y.0 o k x.here) | inr y ↦ absurd (y.0 o k x.here) ]
  ]
  | inr u ↦ elim u [
    | inl x ↦ elim b [
      | inl y ↦ absurd (x.0 p l y.here)
      | inr v ↦ elim v [ inl y ↦ one_first link.objects name Weak o k p l x.1 y.1 | inr y ↦ absurd (y.1 o k x.1.here) ]
    ]
    | inr x ↦ elim b [
      | inl y ↦ absurd (x.0 p l y.here)
      | inr v ↦ elim v [ inl y ↦ absurd (x.1 p l y.1.here) | inr y ↦ one_first link.objects name Undefined o k p l x.3 y.3 ]
    ]
  ]
]
one_definition link name (Symbol o k) (Made n) a b = elim a [
  | inl x ↦ absurd (b.0 o k x.here)
  | inr u ↦ elim u [ inl x ↦ absurd (b.1 o k x.1.here) | inr x ↦ absurd (x.2 n b.2) ]
]
one_definition link name (Made m) (Symbol p l) a b = elim b [
  | inl y ↦ absurd (a.0 p l y.here)
  | inr v ↦ elim v [ inl y ↦ absurd (a.1 p l y.1.here) | inr y ↦ absurd (y.2 m a.2) ]
]
one_definition link name (Made m) (Made n) a b = one_made link.args name m n a.2 b.2

unknown_stands : (link : Link) (name : List ℕ) (d : Definition) → IsUnknown link name → StandsFor link name d → ⊥
unknown_stands link name (Symbol o k) u h = elim h [
  | inl x ↦ u.none Strong o k x.here
  | inr v ↦ elim v [ inl x ↦ u.none Weak o k x.1.here | inr x ↦ u.none Undefined o k x.3.here ]
]
unknown_stands link name (Made m) u h = u.not_made m h.2

only_from : (link : Link) (name : List ℕ) (d : Definition) (x : Option Definition) → MatchOption x (IsUnknown link name) (StandsFor link name) → StandsFor link name d → x ≡ Some d
only_from link name d None u h = absurd (unknown_stands link name d u h)
only_from link name d (Some c) g h = ap Some (one_definition link name c d g h)

pub named_only : (link : Link) (name : List ℕ) (d : Definition) → StandsFor link name d → named link name ≡ Some d
named_only link name d h = only_from link name d (named link name) (named_cases link name) h

unknown_from : (link : Link) (name : List ℕ) (x : Option Definition) → MatchOption x (IsUnknown link name) (StandsFor link name) → IsUnknown link name → x ≡ None
unknown_from link name None g u = refl
unknown_from link name (Some c) g u = absurd (unknown_stands link name c u g)

pub unknown_only : (link : Link) (name : List ℕ) → IsUnknown link name → named link name ≡ None
unknown_only link name u = unknown_from link name (named link name) (named_cases link name) u

-- ---- what stands for something stands for itself

symbol_of : (link : Link) (name : List ℕ) (o k : ℕ) → StandsFor link name (Symbol o k) → (strength : Strength) × HasSymbol link.objects name strength o k
symbol_of link name o k h = elim h [
  | inl x ↦ (Strong, x.here)
  | inr v ↦ elim v [ inl x ↦ (Weak, x.1.here) | inr x ↦ (Undefined, x.3.here) ]
]

def_named : (link : Link) (name : List ℕ) (strength : Strength) (o k : ℕ) (d : Definition) → HasSymbol link.objects name strength o k → named link name ≡ Some d → def link o k ≡ d
def_named link name strength o k d h is = rw (h.stands, h.shared, h.name_is, is) refl

-- a symbol that stands for itself, under other numbers
same_numbers : (link : Link) (object symbol o k : ℕ) → def link object symbol ≡ Symbol object symbol → def link object symbol ≡ Symbol o k → def link o k ≡ Symbol o k
same_numbers link object symbol o k itself is =
    let same : Symbol object symbol ≡ Symbol o k = sym itself ∙ is in
    let object-is : object ≡ o = cc in
    let symbol-is : symbol ≡ k = cc in
    rw (← object-is, ← symbol-is) itself

pub settled : (link : Link) (object symbol o k : ℕ) → def link object symbol ≡ Symbol o k → def link o k ≡ Symbol o k
settled link object symbol o k is = by_symbol (symbol_in link.objects object symbol) refl
  where
    by_symbol : (found : Option LinkedSymbol) → symbol_in link.objects object symbol ≡ found → def link o k ≡ Symbol o k
    by_symbol None at = same_numbers link object symbol o k (rw at refl) is
    by_symbol (Some s) at = elim (cases_Bool (is_private s)) [
      | inl p ↦ same_numbers link object symbol o k (rw (at, p) refl) is
      | inr p ↦ (let stands : StandsFor link s.name (Symbol o k) = subst (StandsFor link s.name) is (def_shared link object symbol s at p) in
          let h = symbol_of link s.name o k stands in
          def_named link s.name h.0 o k (Symbol o k) h.1 (named_only link s.name (Symbol o k) stands))
    ]
