-- Where the fields of kept relocations stand.
use Rattle.std.proofs.Common.{◌≡◌, ◌∙◌, ◌≤◌, ◌<◌, ℕ, zero, suc, ◌+◌, Bool, true, false, not, ◌&&◌, ◌==◌, List, [], ◌∷◌, ◌++◌, length, get_or, map, take, drop, refl, sym, ap, append-nil, append_assoc, subst, arith, inl, inr, Option, Some, slice_get, if◌then◌else◌, eqb-true, Contains}
use Rattle.std.specs.List.{AllByRecursion, AllZip}
use Rattle.std.proofs.lemmas.Bool.{cases_lt, and_parts}
use Rattle.std.proofs.lemmas.List.{drop_all}
use Rattle.std.proofs.lemmas.Option.{slice_get_within}
use Rattle.std.proofs.lemmas.List.Elements.{Contains-append_left, Contains-append_right, filter-append}
use Rattle.wl_module.specs.Bodies.{Body}
use Rattle.wl_linking.specs.Fitting.{IsWhole, IsFitting, code_pieces}
use Rattle.wl_linking.specs.Object.{Object}
use Rattle.wl_custom.specs.RelocationTypes.{field_form}
use Rattle.wl_linking.specs.Sites.{IsSite, AreSites, PieceOf, body_piece, field_len, has_form}
use Rattle.wl_custom.specs.declared.relocation_type.FieldForm.{FieldForm}
use Rattle.wl_custom.specs.declared.relocation_type.FieldForm.TheVariants.{PaddedUnsigned, PaddedSigned, Word}
use Rattle.wl_custom.specs.declared.relocations.WasmRelocation.{WasmRelocation}
use Rattle.wl_linking.specs.declared.sites.Site.{Site}
use Rattle.wl_symbols.specs.Live.{Live, numbers_segments}
use Rattle.wl_symbols.specs.declared.units.WasmGcUnit.TheVariants.{DefinedFunction}
use Rattle.wl_ops.specs.Numbers.{AreTold}
use Rattle.wl_ops.specs.Rewriting.{new_index, before, NewBytes, Moves, AllMove}
use Rattle.wl_ops.specs.declared.op.DataIndexImm.{DataIndexImm}
use Rattle.wl_symbols.specs.Input.{Input, keeps}
use Rattle.wl_symbols.specs.Relocations.{keeps_unit, relocated_at, relocated_if, relocated_in, object_relocations, relocations_from}
use Rattle.wl_symbols.specs.Relocations.{relocations}
use Rattle.wl_symbols.specs.declared.relocated.FixupPlace.{FixupPlace}
use Rattle.wl_symbols.specs.declared.relocated.FixupPlace.TheVariants.{Code, Segment}
use Rattle.wl_symbols.specs.declared.relocated.Relocated.{Relocated}
use Rattle.wl_plan.specs.Bodies.{body_in, IsMovedBy, IsMovedAt, IsMovedIn}
use Rattle.wl_places.specs.SegmentNumbers.{new_number}
use Rattle.wl_plan.specs.BodySteps.{AreSoundBodies, AreMovedIn}
use Rattle.wl_places.specs.SegmentNumbers.{AreNewNumbers, AreAllNumbers}
use Rattle.wl_plan.specs.steps.Positions.{is_code, share_body, goes_on, AreOfOneBody, AreKept, IsThere, stays, IsMoving, moving, AreMoved, NoneIsMarked, AddsMoved}
use Rattle.wl_places.specs.declared.placing.Placing.{Placing}
use Rattle.wl_lists.proofs.In.{at_is_in}
use Rattle.wl_lists.proofs.Beside.{zip_joined}
use Rattle.wl_lists.proofs.Places.{came_at, all_at, append_split, there_is}
use Rattle.wl_plan.proofs.BodyLaws.{UnmarkedNumberNone, body_at, none_told, only_one}
use Rattle.wl_plan.proofs.FixupListLaws.{all_more}

-- ---- where a kept relocation is from

-- the relocation stands there with its site
record IsListed (rs : List WasmRelocation) (ss : List Site) (r : Relocated) : Type 0 where
  pub place : ℕ
  pub relocation : slice_get rs place ≡ Some r.relocation
  pub site : slice_get ss place ≡ Some r.site

-- a relocation of code is listed in its object, whose body is kept
record IsCodeOf (live : Live) (o : Object) (r : Relocated) : Type 0 where
  pub listed : IsListed o.code_relocations o.code_sites r
  pub kept : keeps_unit live Code r.object r.site.unit ≡ true

if_code : (live : Live) (p r : Relocated) (b : Bool) (k : ℕ)
    → keeps_unit live p.place p.object p.site.unit ≡ b
    → slice_get (if b then p ∷ [] else []) k ≡ Some r
    → (p ≡ r) × (keeps_unit live p.place p.object p.site.unit ≡ true)
if_code live p r true zero is here = let same : p ≡ r = cc in (same, is)
if_code live p r true (suc k) is here = absurd cc
if_code live p r false k is here = absurd cc

-- those of a section that are kept
record IsInSection (live : Live) (place : FixupPlace) (i : ℕ) (rs : List WasmRelocation)
    (ss : List Site) (r : Relocated) : Type 0 where
  pub listed : IsListed rs ss r
  pub object_is : r.object ≡ i
  pub place_is : r.place ≡ place
  pub kept : keeps_unit live r.place r.object r.site.unit ≡ true

in_section : (live : Live) (place : FixupPlace) (i : ℕ) (rs : List WasmRelocation)
    (ss : List Site) (k : ℕ) (r : Relocated)
    → slice_get (relocated_in live place i rs ss) k ≡ Some r
    → IsInSection live place i rs ss r
in_section live place i [] [] k r here = absurd cc
in_section live place i [] (s ∷ ss) k r here = absurd cc
in_section live place i (q ∷ rs) [] k r here = absurd cc
in_section live place i (q ∷ rs) (s ∷ ss) k r here =
    let p : Relocated = relocated_at place i q s in
    elim (append_split (relocated_if live p) (relocated_in live place i rs ss) k r here) [
      | inl front ↦
          let h = if_code live p r (keeps_unit live p.place p.object p.site.unit) k refl front in
          let same : p ≡ r = h.0 in
          record {
            listed = record {
              place = 0;
              relocation = ap (λ (x : Relocated). Some x.relocation) same;
              site = ap (λ (x : Relocated). Some x.site) same;
            };
            object_is = ap (λ (x : Relocated). x.object) (sym same);
            place_is = ap (λ (x : Relocated). x.place) (sym same);
            kept = subst (λ (x : Relocated). keeps_unit live x.place x.object x.site.unit ≡ true) same h.1;
          }
      | inr behind ↦
          let rest = in_section live place i rs ss behind.0 r behind.2 in
          record {
            listed = record {
              place = suc (rest.listed).place;
              relocation = (rest.listed).relocation;
              site = (rest.listed).site;
            };
            object_is = rest.object_is;
            place_is = rest.place_is;
            kept = rest.kept;
          }
    ]

-- a kept relocation of code is one of its object
record IsOfObject (live : Live) (n : ℕ) (objects : List Object) (r : Relocated) : Type 0 where
  pub row : ℕ
  pub object_is : r.object ≡ n + row
  pub o : Object
  pub here : slice_get objects row ≡ Some o
  pub code : r.place ≡ Code → IsCodeOf live o r

never_code : (p : FixupPlace) → p ≡ Segment → p ≡ Code → ⊥
never_code p a b = let e : Segment ≡ Code = sym a ∙ b in absurd (cc e)

of_object : (live : Live) (n : ℕ) (objects : List Object) (k : ℕ) (r : Relocated)
    → slice_get (relocations_from live n objects) k ≡ Some r → IsOfObject live n objects r
of_object live n [] k r here = absurd cc
of_object live n (o ∷ objects) k r here =
    elim (append_split (object_relocations live n o) (relocations_from live (n + 1) objects) k r here) [
      | inl front ↦ elim (append_split (relocated_in live Code n o.code_relocations o.code_sites)
          (relocated_in live Segment n o.data_relocations o.data_sites) k r front) [
            | inl code ↦
                let h = in_section live Code n o.code_relocations o.code_sites k r code in
                record {
                  row = 0;
                  object_is = let e = h.object_is in omega (arith, e);
                  o = o;
                  here = refl;
                  code = λ is. record {
                    listed = h.listed;
                    kept = subst (λ (p : FixupPlace). keeps_unit live p r.object r.site.unit ≡ true) is h.kept;
                  };
                }
            | inr segment ↦
                let h = in_section live Segment n o.data_relocations o.data_sites segment.0 r segment.2 in
                record {
                  row = 0;
                  object_is = let e = h.object_is in omega (arith, e);
                  o = o;
                  here = refl;
                  code = λ is. absurd (never_code r.place h.place_is is);
                }
          ]
      | inr behind ↦
          let rest = of_object live (n + 1) objects behind.0 r behind.2 in
          let e : r.object ≡ (n + 1) + rest.row = rest.object_is in
          record {
            row = suc rest.row;
            object_is = omega (arith, e);
            o = rest.o;
            here = rest.here;
            code = rest.code;
          }
    ]

-- what is in a list stands at a place
pub stands : {X : Type 0} (xs : List X) (x : X) → Contains xs x → (k : ℕ) × (slice_get xs k ≡ Some x)
stands [] x c = absurd (omega (arith, c.1))
stands (y ∷ xs) x (zero, lt, is) = let same : y ≡ x = is in (zero, ap (λ z. Some z) same)
stands (y ∷ xs) x (suc k, lt, is) = let rest = stands xs x (k, omega (arith, lt), is) in (suc rest.0, rest.1)

-- ---- its field lies in its body

-- the field of a kept relocation of code lies in a kept body
pub record IsInBody (input : Input) (r : Relocated) : Type 0 where
  pub o : Object
  pub here : slice_get input.link.objects r.object ≡ Some o
  pub body : Body
  pub there : slice_get o.bodies r.site.unit ≡ Some body
  pub is_kept : keeps input r.object (DefinedFunction r.site.unit) ≡ true
  pub within : r.site.position ≤ length body.bytes

pub site_at : (pieces : List PieceOf) (rs : List WasmRelocation) (ss : List Site) (k : ℕ)
    (r : WasmRelocation) (s : Site) → AreSites pieces rs ss → slice_get rs k ≡ Some r
    → slice_get ss k ≡ Some s → IsSite pieces r s
site_at pieces [] ss k r s are at_r at_s = absurd cc
site_at pieces (q ∷ rs) [] k r s are at_r at_s = absurd cc
site_at pieces (q ∷ rs) (t ∷ ss) zero r s are at_r at_s =
    let same_r : q ≡ r = cc (at_r) in
    let same_s : t ≡ s = cc (at_s) in
    subst (λ x. IsSite pieces r x) same_s (subst (λ x. IsSite pieces x t) same_r are.0)
site_at pieces (q ∷ rs) (t ∷ ss) (suc k) r s are at_r at_s = site_at pieces rs ss k r s are.1 at_r at_s

never_empty : (form : FieldForm) → has_form form (take (field_len form) []) ≡ true → ⊥
never_empty PaddedUnsigned e = absurd cc
never_empty PaddedSigned e = absurd cc
never_empty Word e = absurd cc

position_within : (form : FieldForm) (n : ℕ) (bytes : List ℕ)
    → has_form form (take (field_len form) (drop n bytes)) ≡ true → n ≤ length bytes
position_within form n bytes e = elim (cases_lt (length bytes) n) [
  | inl past ↦
      let none : drop n bytes ≡ [] = drop_all n bytes (omega (arith, past)) in
      absurd (never_empty form
      (subst (λ (text : List ℕ). has_form form (take (field_len form) text) ≡ true) none e))
  | inr le ↦ le
]

-- whole objects fit together
abbrev pub WholeFit : Type 0
WholeFit = (o : Object) → IsWhole o → IsFitting o

pub in_body : WholeFit → (input : Input) (r : Relocated) → AreSoundBodies input
    → Contains (relocations input) r → r.place ≡ Code → IsInBody input r
in_body law input r sound listed is =
    let at = stands (relocations input) r listed in
    let f : IsOfObject input.live 0 input.link.objects r =
    of_object input.live 0 input.link.objects at.0 r at.1 in
    let e : r.object ≡ 0 + f.row = f.object_is in
    let row : f.row ≡ r.object = omega (arith, e) in
    let here : slice_get input.link.objects r.object ≡ Some f.o =
    subst (λ n. slice_get input.link.objects n ≡ Some f.o) row f.here in
    let code : IsCodeOf input.live f.o r = f.code is in
    let whole : IsWhole f.o = all_at IsWhole input.link.objects r.object f.o sound.whole here in
    let l : IsListed (f.o).code_relocations (f.o).code_sites r = code.listed in
    let site : IsSite (code_pieces f.o) r.relocation r.site =
    site_at (code_pieces f.o) (f.o).code_relocations (f.o).code_sites l.place r.relocation r.site
    (law f.o whole).code.sited l.relocation l.site in
    let b = came_at body_piece (f.o).bodies r.site.unit site.piece site.here in
    let bytes : (b.0).bytes ≡ (site.piece).bytes = ap (λ (p : PieceOf). p.bytes) b.2 in
    let within : r.site.position ≤ length (site.piece).bytes =
    position_within (field_form r.relocation.ty) r.site.position (site.piece).bytes site.field in
    record {
      o = f.o;
      here = here;
      body = b.0;
      there = b.1;
      is_kept = code.kept;
      within = rw bytes within;
    }

-- ---- fields of one body

codes : (p : FixupPlace) → is_code p ≡ true → p ≡ Code
codes Code e = refl
codes Segment e = absurd cc

-- what two fields of one body have in common
pub record AreShared (first other : Relocated) : Type 0 where
  pub place : other.place ≡ Code
  pub object : other.object ≡ first.object
  pub unit : other.site.unit ≡ first.site.unit

pub shared : (first other : Relocated) → share_body first other ≡ true → AreShared first other
shared first other e =
    let same_unit : Bool = first.site.unit == other.site.unit in
    let same_object : Bool = first.object == other.object in
    let both : Bool = is_code first.place && is_code other.place in
    let a = (and_parts (both && same_object) same_unit e).0 in
    let b = (and_parts both same_object a).0 in
    record {
      place = codes other.place (and_parts (is_code first.place) (is_code other.place) b).1;
      object = sym (eqb-true first.object other.object (and_parts both same_object a).1);
      unit = sym (eqb-true first.site.unit other.site.unit
          (and_parts (both && same_object) same_unit e).1);
    }

-- ---- how they move

new_bytes_same : (f h : ℕ → Option ℕ) → ((k : ℕ) → f k ≡ h k) → (ns : List DataIndexImm)
    (bytes : ℕ) → NewBytes f ns bytes → NewBytes h ns bytes
new_bytes_same f h same [] bytes r = r
new_bytes_same f h same (n ∷ ns) bytes r =
    (r.0, r.1, r.2, sym (same n.index) ∙ r.3, r.4, new_bytes_same f h same ns r.2 r.5, r.6)

moves_same : (f h : ℕ → Option ℕ) → ((k : ℕ) → f k ≡ h k) → (ns : List DataIndexImm) (p q : ℕ)
    → Moves f ns p q → Moves h ns p q
moves_same f h same ns p q m = (m.0, new_bytes_same f h same (before p ns) m.0 m.1, m.2)

-- where one stands then
moved_at : (input : Input) (g : Placing) (object : ℕ) (body : Body) (numbers : List (Option ℕ))
    (ns : List DataIndexImm) (r : Relocated) (new : ℕ) → AreNewNumbers input g object numbers
    → AreTold ns body.bytes → r.place ≡ Code → r.object ≡ object
    → body_in input r.object r.site.unit ≡ Some body
    → Moves (new_index numbers) ns r.site.position new → IsMovedIn input g r new
moved_at input g object body numbers ns r new are told code same here m =
    let by : IsMovedBy (new_number input g object) body.bytes r.site.position new = record {
      numbers = ns;
      theirs = told;
      moved = moves_same (new_index numbers) (new_number input g object) are.each ns
          r.site.position new m;
    } in
    let moved : IsMovedAt input g Code r new =
    (body, here, subst (λ i. IsMovedBy (new_number input g i) body.bytes r.site.position new) (sym same) by) in
    subst (λ (p : FixupPlace). IsMovedAt input g p r new) (sym code) moved

abbrev pub position_of : Relocated → ℕ
position_of r = r.site.position

pub all_moved : (input : Input) (g : Placing) (object : ℕ) (body : Body)
    (numbers : List (Option ℕ)) (ns : List DataIndexImm) (rs : List Relocated) (new : List ℕ)
    → AreNewNumbers input g object numbers → AreTold ns body.bytes
    → AllByRecursion (IsThere input object body) rs
    → AllMove (new_index numbers) ns (map position_of rs) new
    → AllZip (IsMovedIn input g) rs new
all_moved input g object body numbers ns [] [] are told there m = tt
all_moved input g object body numbers ns [] (q ∷ new) are told there m = absurd m
all_moved input g object body numbers ns (r ∷ rs) [] are told there m = absurd m
all_moved input g object body numbers ns (r ∷ rs) (q ∷ new) are told there m = (
  moved_at input g object body numbers ns r q are told (there.0).code (there.0).object_is
      (there.0).here m.0,
  all_moved input g object body numbers ns rs new are told there.1 m.1,
)

pub run_moved : (input : Input) (g : Placing) (object : ℕ) (body : Body) (rs : List Relocated)
    (old new : List ℕ) → old ≡ map position_of rs → AllByRecursion (IsThere input object body) rs
    → AreMovedIn input g object body.bytes old new → AllZip (IsMovedIn input g) rs new
run_moved input g object body rs old new are there m =
    all_moved input g object body m.row m.numbers rs new m.are_new m.theirs there
    (subst (λ (ps : List ℕ). AllMove (new_index m.row) m.numbers ps new) are m.moved)

-- ---- where they lie

same_body : (input : Input) (object function : ℕ) (o : Object) (body other : Body)
    → slice_get input.link.objects object ≡ Some o → slice_get o.bodies function ≡ Some body
    → body_in input object function ≡ Some other → body ≡ other
same_body input object function o body other here there is =
    let e : Some body ≡ Some other = sym (body_at input object function o body here there) ∙ is in
    cc (e)

one_there : WholeFit → (input : Input) (object : ℕ) (body : Body) (r : Relocated)
    → AreSoundBodies input → Contains (relocations input) r → r.place ≡ Code → r.object ≡ object
    → body_in input r.object r.site.unit ≡ Some body → IsThere input object body r
one_there law input object body r sound listed code object_is here =
    let b : IsInBody input r = in_body law input r sound listed code in
    let same : b.body ≡ body =
    same_body input r.object r.site.unit b.o b.body body b.here b.there here in
    record {
      code = code;
      object_is = object_is;
      here = here;
      within = subst (λ (x : Body). r.site.position ≤ length x.bytes) same b.within;
    }

-- the fields of one body lie there
others_there : WholeFit → (input : Input) (first : Relocated) (body : Body)
    (others : List Relocated) → AreSoundBodies input
    → ((r : Relocated) → Contains others r → Contains (relocations input) r)
    → body_in input first.object first.site.unit ≡ Some body
    → AllByRecursion (λ (other : Relocated). share_body first other ≡ true) others
    → AllByRecursion (IsThere input first.object body) others
others_there law input first body [] sound kept here all = tt
others_there law input first body (r ∷ others) sound kept here all =
    let s : AreShared first r = shared first r all.0 in
    let in_object : body_in input r.object first.site.unit ≡ Some body =
    subst (λ n. body_in input n first.site.unit ≡ Some body) (sym s.object) here in
    let in_unit : body_in input r.object r.site.unit ≡ Some body =
    subst (λ n. body_in input r.object n ≡ Some body) (sym s.unit) in_object in (
      one_there law input first.object body r sound (kept r (zero, omega arith, refl)) s.place
          s.object in_unit,
      others_there law input first body others sound
          (λ q c. kept q (suc c.0, omega (arith, c.1), c.2)) here all.1,
    )

pub all_there : WholeFit → (input : Input) (first : Relocated) (body : Body) (rs : List Relocated)
    → AreSoundBodies input → AreKept input rs → slice_get rs 0 ≡ Some first
    → first.place ≡ Code → body_in input first.object first.site.unit ≡ Some body
    → AreOfOneBody rs → AllByRecursion (IsThere input first.object body) rs
all_there law input first body [] sound kept at code here one = tt
all_there law input first body (r ∷ others) sound kept at code here one =
    let same : first ≡ r = cc (at) in
    let object : r.object ≡ first.object = ap (λ (x : Relocated). x.object) (sym same) in
    let here_r : body_in input r.object r.site.unit ≡ Some body =
    subst (λ (x : Relocated). body_in input x.object x.site.unit ≡ Some body) same here in
    let code_r : r.place ≡ Code = subst (λ (x : Relocated). x.place ≡ Code) same code in
    let rest : AllByRecursion (IsThere input r.object body) others =
    others_there law input r body others sound
    (λ q c. kept q (suc c.0, omega (arith, c.1), c.2)) here_r one in (
      one_there law input first.object body r sound (kept r (zero, omega arith, refl)) code_r
          object here_r,
      subst (λ n. AllByRecursion (IsThere input n body) others) object rest,
    )

-- where they stand is within the body
pub positions_within : (input : Input) (object : ℕ) (body : Body) (rs : List Relocated)
    → AllByRecursion (IsThere input object body) rs
    → AllByRecursion (λ p. p ≤ length body.bytes) (map position_of rs)
positions_within input object body [] all = tt
positions_within input object body (r ∷ rs) all =
    ((all.0).within, positions_within input object body rs all.1)

-- in data nothing moves
one_stays : (input : Input) (g : Placing) (r : Relocated) → r.place ≡ Segment
    → AllZip (IsMovedIn input g) (r ∷ []) (position_of r ∷ [])
one_stays input g r is =
    (subst (λ (p : FixupPlace). IsMovedAt input g p r r.site.position) (sym is) refl, tt)

-- ---- runs

-- one more field of the body
pub one_more : (run : List Relocated) (r : Relocated) → goes_on run r ≡ true → AreOfOneBody run
    → AreOfOneBody (run ++ r ∷ [])
one_more [] r on one = tt
one_more (first ∷ others) r on one =
    all_more (λ (x : Relocated). share_body first x ≡ true) others r one on

-- a part of the list is kept
pub part_is_kept : (input : Input) (done run behind : List Relocated)
    → done ++ (run ++ behind) ≡ relocations input → AreKept input run
part_is_kept input done run behind whole r c =
    subst (λ (rs : List Relocated). Contains rs r) whole
    (Contains-append_right done (run ++ behind) r (Contains-append_left run behind r c))

pub has_first : (run : List Relocated) → (length run == 0) ≡ false → 0 < length run
has_first [] none = absurd cc
has_first (r ∷ run) some = omega arith

-- a list of one is kept where that is
only_kept : (input : Input) (r q : Relocated) → Contains (relocations input) r
    → Contains (r ∷ []) q → Contains (relocations input) q
only_kept input r q kept c =
    subst (λ (x : Relocated). Contains (relocations input) x) (only_one r q c) kept

-- ---- the first field of a run

-- it lies in its body
pub first_there : WholeFit → (input : Input) (first : Relocated) (run : List Relocated)
    → AreSoundBodies input → AreKept input run → slice_get run 0 ≡ Some first
    → first.place ≡ Code → IsInBody input first
first_there law input first run sound kept at code =
    in_body law input first sound (kept first (at_is_in run 0 first at)) code

pub object_within : WholeFit → (input : Input) (first : Relocated) (run : List Relocated)
    → AreSoundBodies input → AreKept input run → slice_get run 0 ≡ Some first
    → first.place ≡ Code → first.object < length input.link.objects
object_within law input first run sound kept at code =
    let b : IsInBody input first = first_there law input first run sound kept at code in
    slice_get_within input.link.objects first.object b.o b.here

pub unit_within : WholeFit → (input : Input) (first : Relocated) (run : List Relocated)
    (o : Object) → AreSoundBodies input → AreKept input run → slice_get run 0 ≡ Some first
    → first.place ≡ Code → slice_get input.link.objects first.object ≡ Some o
    → first.site.unit < length o.bodies
unit_within law input first run o sound kept at code here =
    let b : IsInBody input first = first_there law input first run sound kept at code in
    let e : Some b.o ≡ Some o = sym b.here ∙ here in
    let same : b.o ≡ o = cc (e) in
    subst (λ (p : Object). first.site.unit < length p.bodies) same
    (slice_get_within (b.o).bodies first.site.unit b.body b.there)

-- the body is that of a kept function
pub first_here : WholeFit → (input : Input) (first : Relocated) (run : List Relocated)
    → AreSoundBodies input → AreKept input run → slice_get run 0 ≡ Some first
    → first.place ≡ Code → keeps input first.object (DefinedFunction first.site.unit) ≡ true
first_here law input first run sound kept at code =
    (first_there law input first run sound kept at code).is_kept

-- ---- bodies that number no segment

-- without numbers all stay
all_stay : (new : ℕ → Option ℕ) (ps : List ℕ) → AllMove new [] ps ps
all_stay new [] = tt
all_stay new (p ∷ ps) = ((0, refl, omega arith), all_stay new ps)

-- the fields of one body that isn't marked
pub unmoved : WholeFit → UnmarkedNumberNone → (input : Input) (g : Placing) (first : Relocated)
    (run : List Relocated) (numbers : List (Option ℕ)) → AreSoundBodies input
    → AreNewNumbers input g first.object numbers → AreKept input run
    → slice_get run 0 ≡ Some first → first.place ≡ Code → AreOfOneBody run
    → numbers_segments input.live
    (record { object = first.object; unit = DefinedFunction first.site.unit }) ≡ false
    → AllZip (IsMovedIn input g) run (map position_of run)
unmoved fit law input g first run numbers sound new kept at code one off =
    let b : IsInBody input first = first_there fit input first run sound kept at code in
    let here = body_at input first.object first.site.unit b.o b.body b.here b.there in
    let told : AreTold [] (b.body).bytes =
    none_told law input first.object first.site.unit b.body sound here b.is_kept off in
    all_moved input g first.object b.body numbers [] run (map position_of run) new told
    (all_there fit input first b.body run sound kept at code here one)
    (all_stay (new_index numbers) (map position_of run))

-- ---- fields that stay

not_marked : (b : Bool) → not (true && b) ≡ true → b ≡ false
not_marked true e = absurd cc
not_marked false e = refl

-- a field that stays is where it stood
stays_at : WholeFit → UnmarkedNumberNone → (input : Input) (g : Placing) (r : Relocated)
    (rows : List (List (Option ℕ))) (p : FixupPlace) → AreSoundBodies input
    → AreAllNumbers input g rows → Contains (relocations input) r → r.place ≡ p
    → stays input r ≡ true → AllZip (IsMovedIn input g) (r ∷ []) (position_of r ∷ [])
stays_at fit law input g r rows Segment sound new kept is e = one_stays input g r is
stays_at fit law input g r rows Code sound new kept is e =
    let marked : Bool = numbers_segments input.live
    (record { object = r.object; unit = DefinedFunction r.site.unit }) in
    let off : marked ≡ false =
    not_marked marked (subst (λ (q : FixupPlace). not (is_code q && marked) ≡ true) is e) in
    let all : AreKept input (r ∷ []) = λ q c. only_kept input r q kept c in
    let within = object_within fit input r (r ∷ []) sound all refl is in
    let len = new.len in
    let row = there_is rows r.object (omega (arith, within, len)) in
    unmoved fit law input g r (r ∷ []) row.0 sound (new.each r.object row.0 row.1) all refl is tt off

-- what doesn't stay lies in code
code_if : (p : FixupPlace) (b : Bool) → not (is_code p && b) ≡ false → p ≡ Code
code_if Code b e = refl
code_if Segment b e = absurd cc

-- the same of the field in front
pub head_in_code : (input : Input) (d : Relocated) (run : List Relocated) → 0 < length run
    → IsMoving input run → (get_or run 0 d).place ≡ Code
head_in_code input d [] some moving = absurd (omega (arith, some))
head_in_code input d (r ∷ run) some moving =
    code_if r.place (numbers_segments input.live
    (record { object = r.object; unit = DefinedFunction r.site.unit })) moving

-- of no fields nothing comes behind the others
pub none_moved : (input : Input) (g : Placing) (run : List Relocated) (old : List ℕ)
    → (length run == 0) ≡ true → AddsMoved input g run old old
none_moved input g [] old e = record { moved = []; are = tt; grown = sym (append-nil old) }
none_moved input g (r ∷ run) old e =
    let none = eqb-true (length (r ∷ run)) 0 e in absurd (omega (arith, none))

-- ---- fields that don't stay

abbrev moves : Input → Relocated → Bool
moves input r = not (stays input r)

marked_if : (p : FixupPlace) (b : Bool) → not (is_code p && b) ≡ false → b ≡ true
marked_if Code true e = refl
marked_if Code false e = absurd cc
marked_if Segment b e = absurd cc

-- a field beside one that doesn't stay doesn't stay
shared_moves : (input : Input) (first r : Relocated) → stays input first ≡ false
    → share_body first r ≡ true → stays input r ≡ false
shared_moves input first r moved on =
    let s : AreShared first r = shared first r on in
    let marked = marked_if first.place (numbers_segments input.live
    (record { object = first.object; unit = DefinedFunction first.site.unit })) moved in
    rw (s.place, s.object, s.unit, marked) refl

others_moving : (input : Input) (first : Relocated) (others : List Relocated)
    → stays input first ≡ false
    → AllByRecursion (λ (other : Relocated). share_body first other ≡ true) others
    → moving input others ≡ others
others_moving input first [] moved all = refl
others_moving input first (r ∷ others) moved all =
    rw (shared_moves input first r moved all.0)
    (ap (λ (rs : List Relocated). r ∷ rs) (others_moving input first others moved all.1))

-- of those of a body whose first doesn't stay none does
all_moving : (input : Input) (run : List Relocated) → AreOfOneBody run → IsMoving input run
    → moving input run ≡ run
all_moving input [] one moved = refl
all_moving input (first ∷ others) one moved =
    rw moved (ap (λ (rs : List Relocated). first ∷ rs) (others_moving input first others moved one))

-- with one more that stays there are as many
moving_stays : (input : Input) (done : List Relocated) (r : Relocated) → stays input r ≡ true
    → moving input (done ++ r ∷ []) ≡ moving input done
moving_stays input done r stay =
    filter-append (moves input) done (r ∷ [])
    ∙ rw stay (append-nil (moving input done))

-- where all stay there is none
pub none_moving : (input : Input) (rs : List Relocated)
    → ((r : Relocated) → Contains rs r → stays input r ≡ true) → moving input rs ≡ []
none_moving input [] all = refl
none_moving input (r ∷ rs) all =
    rw (all r (zero, omega arith, refl))
    (none_moving input rs (λ q c. all q (suc c.0, omega (arith, c.1), c.2)))

-- ---- bodies that aren't marked

-- where no body is, a kept field stays
pub unmarked_stays : WholeFit → (input : Input) (r : Relocated) → AreSoundBodies input
    → ((object : ℕ) (o : Object) → slice_get input.link.objects object ≡ Some o
    → NoneIsMarked input.live object (length o.bodies))
    → Contains (relocations input) r → stays input r ≡ true
unmarked_stays law input r sound none kept = by r.place refl
  where
    by : (p : FixupPlace) → r.place ≡ p → stays input r ≡ true
    by Segment is = rw is refl
    by Code is =
        let b : IsInBody input r = in_body law input r sound kept is in
        let off = none r.object b.o b.here r.site.unit
        (slice_get_within (b.o).bodies r.site.unit b.body b.there) in
        rw (is, off) refl

-- none of the objects so far has one, and with one more
abbrev pub NoneSoFar : Input → ℕ → Type 0
NoneSoFar input count = (object : ℕ) (o : Object) → object < count
    → slice_get input.link.objects object ≡ Some o
    → NoneIsMarked input.live object (length o.bodies)

pub none_more : (input : Input) (count : ℕ) (at : Object)
    → slice_get input.link.objects count ≡ Some at
    → NoneIsMarked input.live count (length at.bodies) → NoneSoFar input count
    → NoneSoFar input (count + 1)
none_more input count at here last before object o lt there =
    elim (cases_lt object count) [
      | inl less ↦ before object o less there
      | inr not_less ↦
          (let same : object ≡ count = omega (arith, lt, not_less) in
          let is : Some o ≡ Some at =
          sym there ∙ (ap (λ k. slice_get input.link.objects k) same ∙ here) in
          let one : o ≡ at = cc (is) in
          rw (same, one) last)
    ]

-- what holds of each kept field, where a renumbering is known
pub others_stand : WholeFit → UnmarkedNumberNone → (input : Input) (g : Placing)
    (rows : List (List (Option ℕ))) → AreSoundBodies input → AreAllNumbers input g rows
    → (r : Relocated) → Contains (relocations input) r → stays input r ≡ true
    → IsMovedIn input g r r.site.position
others_stand fit law input g rows sound numbers r kept stay =
    (stays_at fit law input g r rows r.place sound numbers kept refl stay).0

-- ---- the walk

-- what is done, the fields of a body that moves, and what is left
pub record HasCome (input : Input) (g : Placing) (run left : List Relocated)
    (positions : List ℕ) : Type 0 where
  pub done : List Relocated
  pub whole : done ++ (run ++ left) ≡ relocations input
  pub one : AreOfOneBody run
  pub moved : IsMoving input run
  pub are : AreMoved input g done positions

-- before the first
pub come_to_first : (input : Input) (g : Placing) → HasCome input g [] (relocations input) []
come_to_first input g = record { done = []; whole = refl; one = tt; moved = tt; are = tt }

-- the fields of a body that moves are kept
pub run_is_kept : (input : Input) (g : Placing) (run left : List Relocated) (positions : List ℕ)
    → HasCome input g run left positions → AreKept input run
run_is_kept input g run left positions m = part_is_kept input m.done run left m.whole

-- where the next field begins anew, the others are done
pub run_done : (input : Input) (g : Placing) (run left : List Relocated) (old new : List ℕ)
    → HasCome input g run left old → AddsMoved input g run old new
    → HasCome input g [] left new
run_done input g run left old new m adds =
    let listed : moving input (m.done ++ run) ≡ moving input m.done ++ run =
    filter-append (moves input) m.done run
    ∙ ap (λ (rs : List Relocated). moving input m.done ++ rs) (all_moving input run m.one m.moved) in
    record {
      done = m.done ++ run;
      whole = append_assoc m.done run left ∙ m.whole;
      one = tt;
      moved = tt;
      are = rw adds.grown (subst (λ (rs : List Relocated). AllZip (IsMovedIn input g) rs (old ++ adds.moved))
          (sym listed) (zip_joined (IsMovedIn input g) (moving input m.done) run old adds.moved m.are adds.are));
    }

-- a field that stays is done
pub stays_done : (input : Input) (g : Placing) (run left more : List Relocated) (r : Relocated)
    (positions : List ℕ) → HasCome input g run left positions → left ≡ r ∷ more
    → (length run == 0) ≡ true → stays input r ≡ true → HasCome input g run more positions
stays_done input g [] left more r positions m is none stay = record {
  done = m.done ++ r ∷ [];
  whole = append_assoc m.done (r ∷ []) more ∙ rw is at m.whole;
  one = tt;
  moved = tt;
  are = subst (λ (rs : List Relocated). AllZip (IsMovedIn input g) rs positions)
      (sym (moving_stays input m.done r stay)) m.are;
}
stays_done input g (q ∷ run) left more r positions m is none stay =
    let e = eqb-true (length (q ∷ run)) 0 none in absurd (omega (arith, e))

-- a field that moves goes on, or begins a body
pub one_goes_on : (input : Input) (g : Placing) (run left more next : List Relocated)
    (r : Relocated) (positions : List ℕ) → HasCome input g run left positions
    → left ≡ r ∷ more → goes_on run r ≡ true
    → ((length run == 0) ≡ true → stays input r ≡ false) → next ≡ run ++ r ∷ []
    → HasCome input g next more positions
one_goes_on input g [] left more next r positions m is on moves are = record {
  done = m.done;
  whole = rw are (rw is at m.whole);
  one = rw are tt;
  moved = rw are (moves refl);
  are = m.are;
}
one_goes_on input g (q ∷ run) left more next r positions m is on moves are =
    record {
      done = m.done;
      whole = rw are (ap (λ (rs : List Relocated). m.done ++ rs) (append_assoc (q ∷ run) (r ∷ []) more)
          ∙ rw is at m.whole);
      one = rw are (one_more (q ∷ run) r on m.one);
      moved = rw are m.moved;
      are = m.are;
    }

-- where none is left, all are done but for the last run
pub all_done : (input : Input) (g : Placing) (run left : List Relocated) (old new : List ℕ)
    → HasCome input g run left old → left ≡ [] → AddsMoved input g run old new
    → AreMoved input g (relocations input) new
all_done input g run left old new m none adds =
    let d = run_done input g run left old new m adds in
    let is : d.done ≡ relocations input = sym (append-nil d.done)
    ∙ subst (λ (rs : List Relocated). d.done ++ rs ≡ relocations input) none d.whole in
    subst (λ (rs : List Relocated). AreMoved input g rs new) is d.are

-- ---- the next field

-- where it stands, and what is left behind it
pub next_moved : (input : Input) (g : Placing) (r : Relocated) (more : List Relocated)
    (position : ℕ) (left : List ℕ) → stays input r ≡ false
    → AreMoved input g (r ∷ more) (position ∷ left)
    → IsMovedIn input g r position × AreMoved input g more left
next_moved input g r more position left moved are = rw moved at are

pub next_stays : (input : Input) (g : Placing) (r : Relocated) (more : List Relocated)
    (positions : List ℕ) → stays input r ≡ true → AreMoved input g (r ∷ more) positions
    → AreMoved input g more positions
next_stays input g r more positions stay are = rw stay at are

-- behind the last that moves all stay
pub last_stays : (input : Input) (g : Placing) (r : Relocated) (more : List Relocated)
    → AreMoved input g (r ∷ more) [] → stays input r ≡ true
last_stays input g r more are = by (stays input r) refl are
  where
    by : (b : Bool) → stays input r ≡ b → AreMoved input g (r ∷ more) [] → stays input r ≡ true
    by true is are = is
    by false is are = absurd (rw is at are)

-- ---- vectors

-- the positions of one run, moved on in a vector
pub vector_is : {X : Type 0} (new old : List X) (n : ℕ) → length new ≡ length old
    → n ≡ length old → take n (new ++ drop (length new) old) ≡ new
vector_is [] [] zero e is = refl
vector_is [] [] (suc n) e is = refl
vector_is [] (y ∷ old) n e is = absurd (omega (arith, e))
vector_is (x ∷ new) [] n e is = absurd (omega (arith, e))
vector_is {X} (x ∷ new) (y ∷ old) zero e is = absurd (omega (arith, is))
vector_is {X} (x ∷ new) (y ∷ old) (suc n) e is =
    ap (λ (zs : List X). x ∷ zs) (vector_is new old n (omega (arith, e)) (omega (arith, is)))
