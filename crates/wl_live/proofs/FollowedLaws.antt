-- The references that are handed out are those of the unit.
use Rattle.std.proofs.Common.{◌≡◌, ◌≢◌, ◌⊎◌, ◌↔◌, true, List, [], ◌++◌, inl, inr, ◌∙◌, sym, subst, Some, None, slice_get, Contains}
use Rattle.std.specs.Option.{option_to_list}
use Rattle.std.proofs.lemmas.List.Elements.{Contains-append_left, Contains-append_right, Contains-append_cases}
use Rattle.wl_lists.proofs.In.{Contains-none}
use Rattle.wl_symbols.specs.Link.{Link}
use Rattle.wl_symbols.specs.Units.{units_of, exists}
use Rattle.wl_symbols.specs.References.{Refers}
use Rattle.wl_symbols.specs.declared.units.LinkUnit.{LinkUnit}
use Rattle.wl_symbols.specs.declared.units.UnitCounts.{UnitCounts}
use Rattle.wl_symbols.proofs.KeptLaws.{OneNumbers}
use Rattle.wl_live.specs.Facts.{Facts, AreFacts, AreAllFacts}
use Rattle.wl_live.specs.Table.{Reference, reference, object_references}
use Rattle.wl_live.specs.Laying.{followed_references}
use Rattle.wl_live.specs.declared.references.Followed.{Followed}
use Rattle.wl_lists.proofs.Beside.{zip_left, zip_right}
use Rattle.wl_live.proofs.ReachLaws.{Contains-option, option-contains}
use Rattle.wl_live.proofs.ReferenceLaws.{How, refers_to, in_reference, reference_in, in_object, how_in_object, object_of_how}

-- ---- one mention

-- a list with what is followed from the unit after it
pub followed_here : (f : Followed) (u v : LinkUnit) (old : List LinkUnit) → f.from ≡ u → Contains ((old ++ option_to_list f.own) ++ option_to_list f.other) v ↔ (Contains old v ⊎ Contains (followed_references f) (refers_to u v))
followed_here f u v old same =
    let own : List Reference = reference f.from f.own in
    let other : List Reference = reference f.from f.other in (
      λ m.
          elim (Contains-append_cases (old ++ option_to_list f.own) (option_to_list f.other) v m) [
            | inl front ↦
                elim (Contains-append_cases old (option_to_list f.own) v front) [
                  | inl before ↦ inl before
                  | inr here ↦
                      let refers : Contains own (refers_to f.from v) = reference_in f.from v f.own (option-contains f.own v here) in
                      inr (subst (λ (w : LinkUnit). Contains (own ++ other) (refers_to w v)) same (Contains-append_left own other (refers_to f.from v) refers))
                ]
            | inr here ↦
                let refers : Contains other (refers_to f.from v) = reference_in f.from v f.other (option-contains f.other v here) in
                inr (subst (λ (w : LinkUnit). Contains (own ++ other) (refers_to w v)) same (Contains-append_right own other (refers_to f.from v) refers))
          ],
      λ s.
          elim s [
            | inl before ↦ Contains-append_left (old ++ option_to_list f.own) (option_to_list f.other) v (Contains-append_left old (option_to_list f.own) v before)
            | inr refers ↦
                elim (Contains-append_cases own other (refers_to u v) refers) [
                  | inl first ↦ Contains-append_left (old ++ option_to_list f.own) (option_to_list f.other) v (Contains-append_right old (option_to_list f.own) v (Contains-option f.own v (in_reference f.from u v f.own first).1))
                  | inr second ↦ Contains-append_right (old ++ option_to_list f.own) (option_to_list f.other) v (Contains-option f.other v (in_reference f.from u v f.other second).1)
                ]
          ],
    )

-- what is followed from another unit
pub followed_elsewhere : (f : Followed) (u v : LinkUnit) (old : List LinkUnit) → f.from ≢ u → Contains old v ↔ (Contains old v ⊎ Contains (followed_references f) (refers_to u v))
followed_elsewhere f u v old other = (
  λ m. inl m,
  λ s.
      elim s [
        | inl before ↦ before
        | inr refers ↦
            elim (Contains-append_cases (reference f.from f.own) (reference f.from f.other) (refers_to u v) refers) [
              | inl first ↦ absurd (other (in_reference f.from u v f.own first).0)
              | inr second ↦ absurd (other (in_reference f.from u v f.other second).0)
            ]
      ],
)

-- ---- all of them

-- what is listed of the first references, and those that are left, are all
abbrev pub Lists : LinkUnit → List Reference → List Reference → List LinkUnit → Type 0
Lists u all left list = (v : LinkUnit) → Contains all (refers_to u v) ↔ (Contains list v ⊎ Contains left (refers_to u v))

pub lists_begin : (u : LinkUnit) (all : List Reference) → Lists u all all []
lists_begin u all v = (
  λ m. inr m,
  λ s.
      elim s [
        | inl none ↦ absurd (Contains-none v none)
        | inr m ↦ m
      ],
)

pub lists_go_on : (u : LinkUnit) (all more left : List Reference) (old new : List LinkUnit) → ((v : LinkUnit) → Contains new v ↔ (Contains old v ⊎ Contains more (refers_to u v))) → Lists u all (more ++ left) old → Lists u all left new
lists_go_on u all more left old new added so_far v = (
  λ m.
      elim ((so_far v).0 m) [
        | inl before ↦ inl ((added v).1 (inl before))
        | inr rest ↦
            elim (Contains-append_cases more left (refers_to u v) rest) [
              | inl here ↦ inl ((added v).1 (inr here))
              | inr behind ↦ inr behind
            ]
      ],
  λ s.
      elim s [
        | inl listed ↦
            elim ((added v).0 listed) [
              | inl before ↦ (so_far v).1 (inl before)
              | inr here ↦ (so_far v).1 (inr (Contains-append_left more left (refers_to u v) here))
            ]
        | inr behind ↦ (so_far v).1 (inr (Contains-append_right more left (refers_to u v) behind))
      ],
)

pub lists_end : (u : LinkUnit) (all : List Reference) (list : List LinkUnit) → Lists u all [] list → (v : LinkUnit) → Contains list v ↔ Contains all (refers_to u v)
lists_end u all list whole v = (
  λ m. (whole v).1 (inl m),
  λ m.
      elim ((whole v).0 m) [
        | inl listed ↦ listed
        | inr none ↦ absurd (Contains-none (refers_to u v) none)
      ],
)

-- ---- of a unit

-- the object of the unit is there
pub listed_how : OneNumbers → (link : Link) (ns : List UnitCounts) (facts : List Facts) (f : Facts) (u : LinkUnit) (list : List LinkUnit) → ns ≡ units_of link.objects → AreAllFacts link.objects facts → slice_get facts u.object ≡ Some f → ((v : LinkUnit) → Contains list v ↔ Contains (object_references link ns u.object f) (refers_to u v)) → (v : LinkUnit) → Contains list v ↔ How link u v
listed_how only link ns facts f u list units all at listed v =
    let z = zip_left AreFacts link.objects facts u.object f all at in
    let here : Contains list v ↔ Contains (object_references link (units_of link.objects) u.object f) (refers_to u v) =
    subst (λ (n : List UnitCounts). Contains list v ↔ Contains (object_references link n u.object f) (refers_to u v)) units (listed v) in (
      λ m. in_object link u.object z.0 f u v z.1 z.2 (here.0 m),
      λ h. here.1 (how_in_object only link z.0 f u v z.1 z.2 h),
    )

-- it isn't
pub unlisted_how : (link : Link) (facts : List Facts) (u : LinkUnit) → AreAllFacts link.objects facts → slice_get facts u.object ≡ None → (v : LinkUnit) → Contains [] v ↔ How link u v
unlisted_how link facts u all none v = (
  λ m. absurd (Contains-none v m),
  λ h.
      let o = object_of_how link u v h in
      let z = zip_right AreFacts link.objects facts u.object o.0 all o.1 in
      absurd (let no : None ≡ Some z.0 = sym none ∙ z.1 in cc),
)

-- of units that exist
pub how_refers : (link : Link) (u : LinkUnit) (list : List LinkUnit) → ((v : LinkUnit) → Contains list v ↔ How link u v) → (v : LinkUnit) → exists (units_of link.objects) u ≡ true → exists (units_of link.objects) v ≡ true → Contains list v ↔ Refers link u v
how_refers link u list how v from to = (
  λ m. record { from = from; to = to; how = (how v).0 m },
  λ r. (how v).1 r.how,
)
