-- Where kept relocations are from.
use Rattle.std.proofs.Common.{◌≡◌, ◌⊎◌, ◌<◌, ℕ, zero, suc, ◌+◌, Bool, true, false, List, [], ◌∷◌, length, refl, sym, ap, subst, arith, inl, inr, Some, slice_get, Contains, if◌then◌else◌}
use Rattle.std.proofs.lemmas.List.Elements.{Contains-append_cases}
use Rattle.std.proofs.lemmas.Option.{slice_get_within}
use Rattle.wl_linking.specs.Object.{Object}
use Rattle.wl_custom.specs.declared.relocations.WasmRelocation.{WasmRelocation}
use Rattle.wl_linking.specs.declared.sites.Site.{Site}
use Rattle.wl_symbols.specs.Live.{Live}
use Rattle.wl_symbols.specs.Input.{Input}
use Rattle.wl_symbols.specs.Relocations.{keeps_unit, relocated_at, relocated_if, relocated_in, object_relocations, relocations_from}
use Rattle.wl_symbols.specs.Relocations.{relocations}
use Rattle.wl_symbols.specs.declared.relocated.FixupPlace.{FixupPlace}
use Rattle.wl_symbols.specs.declared.relocated.FixupPlace.TheVariants.{Code, Segment}
use Rattle.wl_symbols.specs.declared.relocated.Relocated.{Relocated}
use Rattle.wl_lists.proofs.In.{at_is_in}

-- ---- sections

alone : (b : Bool) (q r : Relocated) → Contains (if b then q ∷ [] else []) r → q ≡ r
alone true q r (zero, lt, e) = e
alone true q r (suc k, lt, e) = absurd (omega (arith, lt))
alone false q r h = absurd (omega (arith, h.1))

-- the relocation is one of these of that object, with its site
pub record IsListed (place : FixupPlace) (i : ℕ) (rs : List WasmRelocation) (ss : List Site)
    (r : Relocated) : Type 0 where
  pub object : r.object ≡ i
  pub place_is : r.place ≡ place
  pub k : ℕ
  pub relocation : slice_get rs k ≡ Some r.relocation
  pub site : slice_get ss k ≡ Some r.site

listed_here : (place : FixupPlace) (i : ℕ) (x : WasmRelocation) (s : Site)
    (rs : List WasmRelocation) (ss : List Site) (r : Relocated) → relocated_at place i x s ≡ r
    → IsListed place i (x ∷ rs) (s ∷ ss) r
listed_here place i x s rs ss r same = record {
  object = ap (λ (q : Relocated). q.object) (sym same);
  place_is = ap (λ (q : Relocated). q.place) (sym same);
  k = zero;
  relocation = ap (λ (q : Relocated). Some q.relocation) same;
  site = ap (λ (q : Relocated). Some q.site) same;
}

in_section : (live : Live) (place : FixupPlace) (i : ℕ) (rs : List WasmRelocation)
    (ss : List Site) (r : Relocated) → Contains (relocated_in live place i rs ss) r
    → IsListed place i rs ss r
in_section live place i [] ss r h = absurd (omega (arith, h.1))
in_section live place i (x ∷ rs) [] r h = absurd (omega (arith, h.1))
in_section live place i (x ∷ rs) (s ∷ ss) r h =
    let q : Relocated = relocated_at place i x s in
    elim (Contains-append_cases (relocated_if live q) (relocated_in live place i rs ss) r h) [
      | inl first ↦ listed_here place i x s rs ss r
          (alone (keeps_unit live q.place q.object q.site.unit) q r first)
      | inr later ↦ (let rest = in_section live place i rs ss r later in record {
        object = rest.object;
        place_is = rest.place_is;
        k = suc rest.k;
        relocation = rest.relocation;
        site = rest.site;
      })
    ]

-- ---- objects

-- the relocation is one of the object's, of code or of data
abbrev pub IsOfObject : ℕ → Object → Relocated → Type 0
IsOfObject i o r = IsListed Code i o.code_relocations o.code_sites r
    ⊎ IsListed Segment i o.data_relocations o.data_sites r

in_object : (live : Live) (i : ℕ) (o : Object) (r : Relocated)
    → Contains (object_relocations live i o) r → IsOfObject i o r
in_object live i o r h =
    elim (Contains-append_cases (relocated_in live Code i o.code_relocations o.code_sites)
    (relocated_in live Segment i o.data_relocations o.data_sites) r h) [
      | inl code ↦ inl (in_section live Code i o.code_relocations o.code_sites r code)
      | inr seg ↦ inr (in_section live Segment i o.data_relocations o.data_sites r seg)
    ]

number_is : (i : ℕ) (o : Object) (r : Relocated) → IsOfObject i o r → r.object ≡ i
number_is i o r (inl code) = code.object
number_is i o r (inr seg) = seg.object

-- its object, and that it is one of that
pub record IsFrom (objects : List Object) (n : ℕ) (r : Relocated) : Type 0 where
  pub k : ℕ
  pub object : Object
  pub here : slice_get objects k ≡ Some object
  pub number : n + k ≡ r.object
  pub of : IsOfObject r.object object r

from_objects : (live : Live) (n : ℕ) (objects : List Object) (r : Relocated)
    → Contains (relocations_from live n objects) r → IsFrom objects n r
from_objects live n [] r h = absurd (omega (arith, h.1))
from_objects live n (o ∷ objects) r h =
    elim (Contains-append_cases (object_relocations live n o) (relocations_from live (n + 1) objects)
    r h) [
      | inl first ↦ (let own = in_object live n o r first in
          let number = number_is n o r own in record {
            k = zero;
            object = o;
            here = refl;
            number = omega (arith, number);
            of = subst (λ (m : ℕ). IsOfObject m o r) (sym number) own;
          })
      | inr later ↦ (let rest = from_objects live (n + 1) objects r later in record {
        k = suc rest.k;
        object = rest.object;
        here = rest.here;
        number = omega (arith, rest.number);
        of = rest.of;
      })
    ]

-- ---- kept relocations

-- its object, and that it is one of that
pub record HasObject (input : Input) (r : Relocated) : Type 0 where
  pub object : Object
  pub here : slice_get input.link.objects r.object ≡ Some object
  pub of : IsOfObject r.object object r

pub object_of : (input : Input) (r : Relocated) → Contains (relocations input) r
    → HasObject input r
object_of input r kept =
    let h = from_objects input.live 0 input.link.objects r kept in
    let at : h.k ≡ r.object = omega (arith, h.number) in
    record {
      object = h.object;
      here = subst (λ (k : ℕ). slice_get input.link.objects k ≡ Some h.object) at h.here;
      of = h.of;
    }

pub object_within : (input : Input) (r : Relocated) → Contains (relocations input) r
    → r.object < length input.link.objects
object_within input r kept =
    let h = object_of input r kept in
    slice_get_within input.link.objects r.object h.object h.here

among : (i : ℕ) (o : Object) (r : Relocated) → IsOfObject i o r
    → Contains o.code_relocations r.relocation ⊎ Contains o.data_relocations r.relocation
among i o r (inl code) = inl (at_is_in o.code_relocations code.k r.relocation code.relocation)
among i o r (inr seg) = inr (at_is_in o.data_relocations seg.k r.relocation seg.relocation)

pub among_those : (input : Input) (r : Relocated) (h : HasObject input r)
    → Contains h.object.code_relocations r.relocation ⊎ Contains h.object.data_relocations r.relocation
among_those input r h = among r.object h.object r h.of
