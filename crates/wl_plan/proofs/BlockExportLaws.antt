-- The exports of a thread's block name their things.
use Rattle.std.proofs.Common.{◌≡◌, ◌∙◌, Bool, true, false, List, [], ◌∷◌, ◌++◌, length, take, filter, refl, sym, ap, subst, arith, inl, inr, Contains, append-nil, append_assoc, if◌then◌else◌}
use Rattle.std.specs.List.{list_any}
use Rattle.std.proofs.lemmas.Bool.{and_right, cases_Bool}
use Rattle.std.proofs.lemmas.Option.{slice_get_within}
use Rattle.wl_module.specs.Exports.{Exported}
use Rattle.wl_lists.proofs.In.{IsIn, at_is_in, in_back, in_front, in_split, list_in, place_in}
use Rattle.wl_lists.proofs.Places.{there_is}
use Rattle.wl_symbols.specs.LinkerNames.{name_of}
use Rattle.wl_symbols.specs.declared.linker_symbol.WasmLinkerSymbol.{WasmLinkerSymbol}
use Rattle.wl_symbols.specs.declared.linker_symbol.WasmLinkerSymbol.TheVariants.{InitTls, TlsAlign, TlsSize}
use Rattle.wl_symbols.specs.Input.{Input}
use Rattle.wl_bind.specs.Made.{has_shared_tls}
use Rattle.wl_exports.specs.Exports.{ExportEntry, dynamic_exports, entry_export, export_of, exports, first_exports, forced_exports, later_exports, made_entity, made_exports, same_name, thread_exports, unless_taken}
use Rattle.wl_exports.specs.Sources.{IsPlainExport}
use Rattle.wl_exports.specs.Wrapped.{AreOutputExports, IsExportIf, is_wrapped}
use Rattle.wl_exports.specs.Wrappers.{can_wrap, wraps}
use Rattle.wl_plan.specs.Running.{IsExported}

-- ---- what isn't taken stays

any_more : (test : ExportEntry → Bool) (xs : List ExportEntry) (y : ExportEntry)
    → list_any test xs ≡ false → test y ≡ false → list_any test (xs ++ y ∷ []) ≡ false
any_more test [] y none not = rw not refl
any_more test (x ∷ xs) y none not = elim (cases_Bool (test x)) [
  | inl passes ↦ absurd (let bad : true ≡ false = rw passes at none in cc)
  | inr fails ↦ rw fails (any_more test xs y (rw fails at none) not)
]

-- after others, none of which has its name
left_behind : (before front rest : List ExportEntry) (e : ExportEntry)
    → list_any (same_name e) (before ++ front) ≡ false
    → IsIn (unless_taken before (front ++ e ∷ rest)) e
left_behind before [] rest e free =
    let none : list_any (same_name e) before ≡ false =
    ap (λ (xs : List ExportEntry). list_any (same_name e) xs) (sym (append-nil before)) ∙ free in
    rw none (inl refl)
left_behind before (x ∷ front) rest e free =
    in_back (if list_any (same_name x) before then [] else x ∷ [])
    (unless_taken (before ++ x ∷ []) (front ++ e ∷ rest)) e
    (left_behind (before ++ x ∷ []) front rest e
    (ap (λ (xs : List ExportEntry). list_any (same_name e) xs) (append_assoc before (x ∷ []) front)
    ∙ free))

-- before others
left_front : (before xs ys : List ExportEntry) (e : ExportEntry) → IsIn (unless_taken before xs) e
    → IsIn (unless_taken before (xs ++ ys)) e
left_front before [] ys e h = absurd h
left_front before (x ∷ xs) ys e h =
    let own : List ExportEntry = if list_any (same_name x) before then [] else x ∷ [] in
    elim (in_split own (unless_taken (before ++ x ∷ []) xs) e h) [
      | inl here ↦ in_front own (unless_taken (before ++ x ∷ []) (xs ++ ys)) e here
      | inr behind ↦
          in_back own (unless_taken (before ++ x ∷ []) (xs ++ ys)) e
          (left_front (before ++ x ∷ []) xs ys e behind)
    ]

-- ---- the three

abbrev named_by : WasmLinkerSymbol → ExportEntry
named_by m = export_of (name_of m) (made_entity m)

abbrev three : List ExportEntry
three = named_by TlsSize ∷ named_by TlsAlign ∷ named_by InitTls ∷ []

-- each stays unless its name is taken, and none is wrapped
record Stays (first entry : List ExportEntry) (e : ExportEntry) : Type 0 where
  left : IsIn (unless_taken first (entry ++ three)) e
  plain : can_wrap e ≡ false

three_stay : (first entry : List ExportEntry) (e : ExportEntry) → IsIn three e
    → list_any (same_name e) (first ++ entry) ≡ false → Stays first entry e
three_stay first entry e (inl is) free =
    subst (λ (x : ExportEntry). list_any (same_name x) (first ++ entry) ≡ false → Stays first entry x) is
    (λ none. record {
      left = left_behind first entry (named_by TlsAlign ∷ named_by InitTls ∷ []) (named_by TlsSize) none;
      plain = refl;
    }) free
three_stay first entry e (inr (inl is)) free =
    subst (λ (x : ExportEntry). list_any (same_name x) (first ++ entry) ≡ false → Stays first entry x) is
    (λ none.
    let one = named_by TlsSize in
    let two = named_by TlsAlign in
    let more = any_more (same_name two) (first ++ entry) one none refl in
    let still : list_any (same_name two) (first ++ (entry ++ one ∷ [])) ≡ false =
    ap (λ (xs : List ExportEntry). list_any (same_name two) xs) (sym (append_assoc first entry (one ∷ []))) ∙ more in
    record {
      left = subst (λ (xs : List ExportEntry). IsIn (unless_taken first xs) two)
          (append_assoc entry (one ∷ []) (two ∷ named_by InitTls ∷ []))
          (left_behind first (entry ++ one ∷ []) (named_by InitTls ∷ []) two still);
      plain = refl;
    }) free
three_stay first entry e (inr (inr (inl is))) free =
    subst (λ (x : ExportEntry). list_any (same_name x) (first ++ entry) ≡ false → Stays first entry x) is
    (λ none.
    let one = named_by TlsSize in
    let two = named_by TlsAlign in
    let last = named_by InitTls in
    let more = any_more (same_name last) ((first ++ entry) ++ one ∷ []) two
    (any_more (same_name last) (first ++ entry) one none refl) refl in
    let joined : ((first ++ entry) ++ one ∷ []) ++ two ∷ [] ≡ first ++ (entry ++ one ∷ two ∷ []) =
    append_assoc (first ++ entry) (one ∷ []) (two ∷ []) ∙ append_assoc first entry (one ∷ two ∷ []) in
    let still : list_any (same_name last) (first ++ (entry ++ one ∷ two ∷ [])) ≡ false =
    ap (λ (xs : List ExportEntry). list_any (same_name last) xs) (sym joined) ∙ more in
    record {
      left = subst (λ (xs : List ExportEntry). IsIn (unless_taken first xs) last)
          (append_assoc entry (one ∷ two ∷ []) (last ∷ []))
          (left_behind first (entry ++ one ∷ two ∷ []) [] last still);
      plain = refl;
    }) free
three_stay first entry e (inr (inr (inr never))) free = absurd never

stays : (input : Input) (e : ExportEntry) → Contains (thread_exports input) e
    → list_any (same_name e) (first_exports input ++ entry_export input) ≡ false
    → IsIn (exports input) e × (can_wrap e ≡ false)
stays input e there free = at (has_shared_tls input) refl
  where
    at : (b : Bool) → has_shared_tls input ≡ b → IsIn (exports input) e × (can_wrap e ≡ false)
    at false off = absurd (rw off at (list_in (thread_exports input) e there))
    at true on =
        let first = first_exports input in
        let entry = entry_export input in
        let s = three_stay first entry e (rw on at (list_in (thread_exports input) e there)) free in
        let threads : thread_exports input ≡ three = rw on refl in
        let left : IsIn (unless_taken first (entry ++ thread_exports input)) e =
        subst (λ (xs : List ExportEntry). IsIn (unless_taken first (entry ++ xs)) e) (sym threads) s.left in
        let made = left_front first (entry ++ thread_exports input) (made_exports input) e left in
        let forced = left_front first ((entry ++ thread_exports input) ++ made_exports input) (forced_exports input) e made in
        let dynamic = left_front first
        (((entry ++ thread_exports input) ++ made_exports input) ++ forced_exports input) (dynamic_exports input) e forced in
        (in_back first (unless_taken first (later_exports input)) e dynamic, s.plain)

-- ---- in the output

pub block_exported : (input : Input) (xs : List Exported) (e : ExportEntry) → AreOutputExports input xs
    → Contains (thread_exports input) e → IsExported input xs e
block_exported input xs e are there free =
    let s = stays input e there free in
    let k = place_in (exports input) e s.0 in
    let within = slice_get_within (exports input) k.0 e k.1 in
    let same = are.len in
    let x = there_is xs k.0 (omega (arith, within, same)) in
    let number = length (filter (is_wrapped input) (take k.0 (exports input))) in
    let plain : IsPlainExport input e x.0 =
    subst (λ (b : Bool). IsExportIf b input number e x.0) (and_right (wraps input) (can_wrap e) s.1)
    (are.each k.0 e x.0 k.1 x.1) in
    (x.0, at_is_in xs k.0 x.0 x.1, plain)
