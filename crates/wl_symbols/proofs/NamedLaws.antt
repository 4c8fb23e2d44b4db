-- What a name stands for, in words.
use Rattle.std.proofs.Common.{◌≡◌, ℕ, List, refl, inl, inr, Option, Some, None, MatchOption, unwrap_or, false}
use Rattle.wl_custom.specs.Symbols.{Symbol as LinkedSymbol}
use Rattle.wl_symbols.specs.Link.{Link}
use Rattle.wl_symbols.specs.LinkerNames.{made_of}
use Rattle.wl_symbols.specs.Entries.{entries_of, symbol_in, is_private, strength_of, first_of}
use Rattle.wl_symbols.specs.Names.{chosen, named, def, StandsFor, IsUnknown, HasNone}
use Rattle.wl_symbols.proofs.CaseLaws.{none_has, first_has}
use Rattle.wl_symbols.proofs.MadeLaws.{made_is, none_made}
use Rattle.wl_symbols.specs.declared.entry.Place.{Place}
use Rattle.wl_symbols.specs.declared.entry.Strength.{Strength}
use Rattle.wl_symbols.specs.declared.entry.Strength.TheVariants.{Strong, Weak, Undefined}
use Rattle.wl_symbols.specs.declared.entry.Definition.{Definition}
use Rattle.wl_symbols.specs.declared.linker_symbol.WasmLinkerSymbol.{WasmLinkerSymbol}

none_of : (link : Link) (name : List ℕ) → HasNone link.objects name Strong → HasNone link.objects name Weak → HasNone link.objects name Undefined → (strength : Strength) → HasNone link.objects name strength
none_of link name s w u Strong = s
none_of link name s w u Weak = w
none_of link name s w u Undefined = u

cases_from : (link : Link) (name : List ℕ) (s w u : Option Place) (m : Option WasmLinkerSymbol) → first_of name Strong (entries_of 0 link.objects) ≡ s → first_of name Weak (entries_of 0 link.objects) ≡ w → first_of name Undefined (entries_of 0 link.objects) ≡ u → made_of link.args name ≡ m → MatchOption (chosen (record { strong = s; weak = w; undefined = u }) m) (IsUnknown link name) (StandsFor link name)
cases_from link name (Some p) w u m es ew eu em = inl (first_has link.objects name Strong p es)
cases_from link name None (Some p) u m es ew eu em = inr (inl (none_has link.objects name Strong es, first_has link.objects name Weak p ew))
cases_from link name None None u (Some m) es ew eu em = (none_has link.objects name Strong es, none_has link.objects name Weak ew, made_is link.args name m em)
cases_from link name None None (Some p) None es ew eu em = inr (inr (none_has link.objects name Strong es, none_has link.objects name Weak ew, none_made link.args name em, first_has link.objects name Undefined p eu))
cases_from link name None None None None es ew eu em = record {
  none = none_of link name (none_has link.objects name Strong es) (none_has link.objects name Weak ew) (none_has link.objects name Undefined eu);
  not_made = none_made link.args name em;
}

pub named_cases : (link : Link) (name : List ℕ) → MatchOption (named link name) (IsUnknown link name) (StandsFor link name)
named_cases link name = cases_from link name _ _ _ _ refl refl refl refl

shared_from : (link : Link) (name : List ℕ) (o : Option Definition) (d : Definition) → MatchOption o (IsUnknown link name) (StandsFor link name) → (IsUnknown link name → ⊥) → StandsFor link name (unwrap_or o d)
shared_from link name None d h known = absurd (known h)
shared_from link name (Some x) d h known = h

pub def_shared : (link : Link) (object symbol : ℕ) (s : LinkedSymbol) → symbol_in link.objects object symbol ≡ Some s → is_private s ≡ false → StandsFor link s.name (def link object symbol)
def_shared link object symbol s e p =
    rw (e, p) (shared_from link s.name (named link s.name) _ (named_cases link s.name) (λ unknown. unknown.none (strength_of s) object symbol (record { s = s; stands = e; shared = p; name_is = refl; strength_is = refl })))
