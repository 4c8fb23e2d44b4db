-- The list of what is kept by itself holds exactly the roots.
use Rattle.std.proofs.Common.{◌≡◌, ◌⊎◌, ℕ, ◌+◌, Bool, true, false, cond, List, [], ◌++◌, inl, inr, refl, sym, subst, arith, Option, Some, None, slice_get, Contains}
use Rattle.std.specs.Option.{option_to_list}
use Rattle.std.proofs.lemmas.List.Elements.{Contains-append_left, Contains-append_right, Contains-append_cases}
use Rattle.std.proofs.lemmas.Option.{option_and_then_some}
use Rattle.wl_module.specs.Exports.{Exported}
use Rattle.wl_linking.specs.Object.{Object}
use Rattle.wl_custom.specs.Symbols.{Symbol, is_weak}
use Rattle.wl_custom.specs.declared.infos.WasmInitFunc.{WasmInitFunc}
use Rattle.wl_symbols.specs.Link.{Link}
use Rattle.wl_symbols.specs.Entries.{symbol_in}
use Rattle.wl_symbols.specs.Units.{counts_of, units_of, units_at, unit_in}
use Rattle.wl_symbols.specs.DefinedUnits.{unit_at, other_unit, named_unit}
use Rattle.wl_symbols.specs.Roots.{export_unit, is_root_symbol, RootByExport, RootBySymbol, RootByInit, RootByName, IsRoot}
use Rattle.wl_symbols.specs.Roots.IsRoot.{by_export, by_symbol, by_init, by_name}
use Rattle.wl_live.specs.Table.{placed, export_roots, symbol_root, symbol_roots, init_root, init_roots, object_roots, roots_from, forced_roots, entry_unit, roots}
use Rattle.wl_symbols.specs.declared.units.LinkUnit.{LinkUnit}
use Rattle.wl_symbols.specs.declared.units.UnitCounts.{UnitCounts}
use Rattle.wl_symbols.specs.declared.units.WasmGcUnit.{WasmGcUnit}
use Rattle.wl_live.proofs.ReachLaws.{Contains-option, option-contains}
use Rattle.wl_lists.proofs.In.{Contains-none}
use Rattle.wl_live.proofs.JoinLaws.{in_joined, joined_in, in_flat, flat_in, in_option, option_in}
use Rattle.wl_symbols.proofs.ExistLaws.{at_object, units_of-at}

-- ---- options and tests

pub in_if : {X : Type 0} (b : Bool) (xs : List X) (x : X) → Contains (cond b xs []) x → (b ≡ true) × Contains xs x
in_if true xs x m = (refl, m)
in_if false xs x m = absurd (Contains-none x m)

pub if_in : {X : Type 0} (b : Bool) (xs : List X) (x : X) → b ≡ true → Contains xs x → Contains (cond b xs []) x
if_in b xs x e m = rw e m

-- ---- exports

pub in_exports : (link : Link) (k : ℕ) (o : Object) (u : LinkUnit) → slice_get link.objects k ≡ Some o → Contains (export_roots (units_of link.objects) k o.exports) u → IsRoot link u
in_exports link k o u here m =
    let n : UnitCounts = units_at (units_of link.objects) k in
    let r = in_flat (λ (x : Exported). placed k (export_unit n x.kind x.index)) o.exports u m in
    let p = in_option (λ (w : WasmGcUnit). at_object k w) (export_unit n r.0.kind r.0.index) u r.2 in
    let is : export_unit (counts_of o) r.0.kind r.0.index ≡ Some p.0 = subst (λ (c : UnitCounts). export_unit c r.0.kind r.0.index ≡ Some p.0) (units_of-at link.objects k o here) p.1 in
    let root : RootByExport link (at_object k p.0) = record { object = o; here = here; exported = r.0; one = r.1; is = is } in
    subst (λ (w : LinkUnit). IsRoot link w) p.2 (by_export root)

pub exports_in : (link : Link) (u : LinkUnit) (root : RootByExport link u) → Contains (export_roots (units_of link.objects) u.object root.object.exports) u
exports_in link u root =
    let n : UnitCounts = units_at (units_of link.objects) u.object in
    let is : export_unit n root.exported.kind root.exported.index ≡ Some u.unit = subst (λ (c : UnitCounts). export_unit c root.exported.kind root.exported.index ≡ Some u.unit) (sym (units_of-at link.objects u.object root.object root.here)) root.is in
    flat_in (λ (x : Exported). placed u.object (export_unit n x.kind x.index)) root.object.exports root.exported u root.one
    (option_in (λ (w : WasmGcUnit). at_object u.object w) (export_unit n root.exported.kind root.exported.index) u.unit is)

-- ---- symbols

pub in_symbols : (link : Link) (k : ℕ) (o : Object) (u : LinkUnit) → slice_get link.objects k ≡ Some o → Contains (symbol_roots link (units_of link.objects) k 0 o.symbols) u → IsRoot link u
in_symbols link k o u here m =
    let ns : List UnitCounts = units_of link.objects in
    let r = in_joined (symbol_root link ns k) (symbol_roots link ns k) (λ i. refl) (λ i x xs. refl) 0 o.symbols u m in
    let q = in_if (is_root_symbol link k (0 + r.0) r.1) (option_to_list (unit_at ns k r.1)) u r.3 in
    let p = in_option (λ (w : WasmGcUnit). at_object k w) (unit_in (units_at ns k) r.1) u q.1 in
    let is : unit_in (counts_of o) r.1 ≡ Some p.0 = subst (λ (c : UnitCounts). unit_in c r.1 ≡ Some p.0) (units_of-at link.objects k o here) p.1 in
    let number : 0 + r.0 ≡ r.0 = omega arith in
    let kept : is_root_symbol link k r.0 r.1 ≡ true = subst (λ (n : ℕ). is_root_symbol link k n r.1 ≡ true) number q.0 in
    let root : RootBySymbol link (at_object k p.0) = record { object = o; here = here; number = r.0; symbol = r.1; at = r.2; kept = kept; is = is } in
    subst (λ (w : LinkUnit). IsRoot link w) p.2 (by_symbol root)

pub symbols_in : (link : Link) (u : LinkUnit) (root : RootBySymbol link u) → Contains (symbol_roots link (units_of link.objects) u.object 0 root.object.symbols) u
symbols_in link u root =
    let ns : List UnitCounts = units_of link.objects in
    let is : unit_in (units_at ns u.object) root.symbol ≡ Some u.unit = subst (λ (c : UnitCounts). unit_in c root.symbol ≡ Some u.unit) (sym (units_of-at link.objects u.object root.object root.here)) root.is in
    let number : root.number ≡ 0 + root.number = omega arith in
    let kept : is_root_symbol link u.object (0 + root.number) root.symbol ≡ true = subst (λ (n : ℕ). is_root_symbol link u.object n root.symbol ≡ true) number root.kept in
    joined_in (symbol_root link ns u.object) (symbol_roots link ns u.object) (λ i x xs. refl) 0 root.object.symbols root.number root.symbol u root.at
    (if_in (is_root_symbol link u.object (0 + root.number) root.symbol) (option_to_list (unit_at ns u.object root.symbol)) u kept
    (option_in (λ (w : WasmGcUnit). at_object u.object w) (unit_in (units_at ns u.object) root.symbol) u.unit is))

-- ---- functions that run at the start

-- the unit of the symbol, or of what an object defines in its place
abbrev pub LeadsTo : Link → ℕ → ℕ → Symbol → LinkUnit → Type 0
LeadsTo link k number s u = (unit_at (units_of link.objects) k s ≡ Some u)
    ⊎ ((is_weak s ≡ true) × (other_unit link (units_of link.objects) k number ≡ Some u))

pub in_init : (link : Link) (k number : ℕ) (o : Option Symbol) (u : LinkUnit) → Contains (init_root link (units_of link.objects) k number o) u → (s : Symbol) × (o ≡ Some s) × LeadsTo link k number s u
in_init link k number None u m = absurd (Contains-none u m)
in_init link k number (Some s) u m =
    let ns : List UnitCounts = units_of link.objects in
    elim (Contains-append_cases (option_to_list (unit_at ns k s)) (cond (is_weak s) (option_to_list (other_unit link ns k number)) []) u m) [
      | inl own ↦ (s, refl, inl (option-contains (unit_at ns k s) u own))
      | inr other ↦ let p = in_if (is_weak s) (option_to_list (other_unit link ns k number)) u other in (s, refl, inr (p.0, option-contains (other_unit link ns k number) u p.1))
    ]

pub init_in : (link : Link) (k number : ℕ) (o : Option Symbol) (s : Symbol) (u : LinkUnit) → o ≡ Some s → LeadsTo link k number s u → Contains (init_root link (units_of link.objects) k number o) u
init_in link k number o s u e leads =
    let ns : List UnitCounts = units_of link.objects in
    let own : List LinkUnit = option_to_list (unit_at ns k s) in
    let other : List LinkUnit = cond (is_weak s) (option_to_list (other_unit link ns k number)) [] in
    rw e
    (elim leads [
      | inl is ↦ Contains-append_left own other u (Contains-option (unit_at ns k s) u is)
      | inr p ↦ Contains-append_right own other u (if_in (is_weak s) (option_to_list (other_unit link ns k number)) u p.0 (Contains-option (other_unit link ns k number) u p.1))
    ])

pub there_in : (objects : List Object) (k j : ℕ) (o : Object) (s : Symbol) → slice_get objects k ≡ Some o → symbol_in objects k j ≡ Some s → slice_get o.symbols j ≡ Some s
there_in objects k j o s here e = rw here at e

pub in_there : (objects : List Object) (k j : ℕ) (o : Object) (s : Symbol) → slice_get objects k ≡ Some o → slice_get o.symbols j ≡ Some s → symbol_in objects k j ≡ Some s
in_there objects k j o s e f = rw (e, f) refl

pub in_inits : (link : Link) (k : ℕ) (o : Object) (u : LinkUnit) → slice_get link.objects k ≡ Some o → Contains (init_roots link (units_of link.objects) k o.init_funcs) u → IsRoot link u
in_inits link k o u here m =
    let ns : List UnitCounts = units_of link.objects in
    let r = in_flat (λ (f : WasmInitFunc). init_root link ns k f.symbol_index (symbol_in link.objects k f.symbol_index)) o.init_funcs u m in
    let p = in_init link k r.0.symbol_index (symbol_in link.objects k r.0.symbol_index) u r.2 in
    let names : slice_get o.symbols r.0.symbol_index ≡ Some p.0 = there_in link.objects k r.0.symbol_index o p.0 here p.1 in
    let root : RootByInit link u = record { place = k; object = o; here = here; function = r.0; one = r.1; symbol = p.0; names = names; leads = p.2 } in
    by_init root

pub inits_in : (link : Link) (u : LinkUnit) (root : RootByInit link u) → Contains (init_roots link (units_of link.objects) root.place root.object.init_funcs) u
inits_in link u root =
    let ns : List UnitCounts = units_of link.objects in
    let number : ℕ = root.function.symbol_index in
    let at : symbol_in link.objects root.place number ≡ Some root.symbol = in_there link.objects root.place number root.object root.symbol root.here root.names in
    flat_in (λ (f : WasmInitFunc). init_root link ns root.place f.symbol_index (symbol_in link.objects root.place f.symbol_index)) root.object.init_funcs root.function u root.one
    (init_in link root.place number (symbol_in link.objects root.place number) root.symbol u at root.leads)

-- ---- objects

pub in_object_roots : (link : Link) (k : ℕ) (o : Object) (u : LinkUnit) → slice_get link.objects k ≡ Some o → Contains (object_roots link (units_of link.objects) k o) u → IsRoot link u
in_object_roots link k o u here m =
    let ns : List UnitCounts = units_of link.objects in
    let exports : List LinkUnit = export_roots ns k o.exports in
    let symbols : List LinkUnit = symbol_roots link ns k 0 o.symbols in
    let inits : List LinkUnit = init_roots link ns k o.init_funcs in
    elim (Contains-append_cases exports (symbols ++ inits) u m) [
      | inl exported ↦ in_exports link k o u here exported
      | inr rest ↦
          elim (Contains-append_cases symbols inits u rest) [
            | inl kept ↦ in_symbols link k o u here kept
            | inr init ↦ in_inits link k o u here init
          ]
    ]

pub object_roots_in : (link : Link) (k : ℕ) (o : Object) (u : LinkUnit) → slice_get link.objects k ≡ Some o → Contains (object_roots link (units_of link.objects) k o) u → Contains (roots link (units_of link.objects)) u
object_roots_in link k o u here m =
    let ns : List UnitCounts = units_of link.objects in
    let number : k ≡ 0 + k = omega arith in
    Contains-append_left (roots_from link ns 0 link.objects) (forced_roots link ns link.args.export_symbols ++ option_to_list (entry_unit link ns)) u
    (joined_in (object_roots link ns) (roots_from link ns) (λ i x xs. refl) 0 link.objects k o u here (subst (λ (n : ℕ). Contains (object_roots link ns n o) u) number m))

-- ---- names

pub in_forced : (link : Link) (u : LinkUnit) → Contains (forced_roots link (units_of link.objects) link.args.export_symbols) u → IsRoot link u
in_forced link u m =
    let ns : List UnitCounts = units_of link.objects in
    let r = in_flat (λ (name : List ℕ). option_to_list (named_unit link ns name)) link.args.export_symbols u m in
    let root : RootByName link u = record { name = r.0; asked = inl r.1; leads = option-contains (named_unit link ns r.0) u r.2 } in
    by_name root

pub in_entry : (link : Link) (u : LinkUnit) → entry_unit link (units_of link.objects) ≡ Some u → IsRoot link u
in_entry link u e =
    let ns : List UnitCounts = units_of link.objects in
    option_and_then_some (λ (name : List ℕ). named_unit link ns name) link.args.entry u e
    (λ name at leads. let root : RootByName link u = record { name = name; asked = inr at; leads = leads } in by_name root)

pub entry_is : (link : Link) (name : List ℕ) (u : LinkUnit) → link.args.entry ≡ Some name → named_unit link (units_of link.objects) name ≡ Some u → entry_unit link (units_of link.objects) ≡ Some u
entry_is link name u e leads = rw e leads

pub names_in_roots : (link : Link) (u : LinkUnit) → RootByName link u → Contains (forced_roots link (units_of link.objects) link.args.export_symbols ++ option_to_list (entry_unit link (units_of link.objects))) u
names_in_roots link u root =
    let ns : List UnitCounts = units_of link.objects in
    let forced : List LinkUnit = forced_roots link ns link.args.export_symbols in
    let entry : List LinkUnit = option_to_list (entry_unit link ns) in
    elim root.asked [
      | inl one ↦ Contains-append_left forced entry u (flat_in (λ (name : List ℕ). option_to_list (named_unit link ns name)) link.args.export_symbols root.name u one (Contains-option (named_unit link ns root.name) u root.leads))
      | inr at ↦ Contains-append_right forced entry u (Contains-option (entry_unit link ns) u (entry_is link root.name u at root.leads))
    ]

-- ---- all of them

pub in_roots : (link : Link) (u : LinkUnit) → Contains (roots link (units_of link.objects)) u → IsRoot link u
in_roots link u m =
    let ns : List UnitCounts = units_of link.objects in
    let forced : List LinkUnit = forced_roots link ns link.args.export_symbols in
    let entry : List LinkUnit = option_to_list (entry_unit link ns) in
    elim (Contains-append_cases (roots_from link ns 0 link.objects) (forced ++ entry) u m) [
      | inl own ↦
          let r = in_joined (object_roots link ns) (roots_from link ns) (λ i. refl) (λ i x xs. refl) 0 link.objects u own in
          let number : 0 + r.0 ≡ r.0 = omega arith in
          in_object_roots link r.0 r.1 u r.2 (subst (λ (n : ℕ). Contains (object_roots link ns n r.1) u) number r.3)
      | inr asked ↦
          elim (Contains-append_cases forced entry u asked) [
            | inl name ↦ in_forced link u name
            | inr start ↦ in_entry link u (option-contains (entry_unit link ns) u start)
          ]
    ]

pub roots_in : (link : Link) (u : LinkUnit) → IsRoot link u → Contains (roots link (units_of link.objects)) u
roots_in link u (by_export root) =
    let ns : List UnitCounts = units_of link.objects in
    let o : Object = root.object in
    object_roots_in link u.object o u root.here
    (Contains-append_left (export_roots ns u.object o.exports) (symbol_roots link ns u.object 0 o.symbols ++ init_roots link ns u.object o.init_funcs) u (exports_in link u root))
roots_in link u (by_symbol root) =
    let ns : List UnitCounts = units_of link.objects in
    let o : Object = root.object in
    object_roots_in link u.object o u root.here
    (Contains-append_right (export_roots ns u.object o.exports) (symbol_roots link ns u.object 0 o.symbols ++ init_roots link ns u.object o.init_funcs) u
    (Contains-append_left (symbol_roots link ns u.object 0 o.symbols) (init_roots link ns u.object o.init_funcs) u (symbols_in link u root)))
roots_in link u (by_init root) =
    let ns : List UnitCounts = units_of link.objects in
    let o : Object = root.object in
    object_roots_in link root.place o u root.here
    (Contains-append_right (export_roots ns root.place o.exports) (symbol_roots link ns root.place 0 o.symbols ++ init_roots link ns root.place o.init_funcs) u
    (Contains-append_right (symbol_roots link ns root.place 0 o.symbols) (init_roots link ns root.place o.init_funcs) u (inits_in link u root)))
roots_in link u (by_name root) =
    let ns : List UnitCounts = units_of link.objects in
    Contains-append_right (roots_from link ns 0 link.objects) (forced_roots link ns link.args.export_symbols ++ option_to_list (entry_unit link ns)) u (names_in_roots link u root)
