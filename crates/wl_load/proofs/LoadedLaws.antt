-- Functions of a loaded image.
use Rattle.std.proofs.Common.{◌≡◌, ℕ, suc, ◌+◌, ◌-◌, Bool, true, false, List, [], ◌∷◌, length, Option, Some, None, Result, Ok, Err, refl, sym, ap, subst, ◌∙◌, arith}
use Rattle.std.specs.Prelude.{◌&&◌, nat_lt, if◌then◌else◌, slice_get, option_map, option_and_then}
use Rattle.std.proofs.lemmas.Bool.Decides.{nat_tests}
use Rattle.wl_bytes.specs.Cursor.{Cursor}
use Rattle.wl_bytes.specs.Parse.{◌>>=◌, Takes}
use Rattle.wl_bytes.specs.Grammar.{times_at}
use Rattle.wl_bytes.specs.Reading.{leb_len_from, take_at, leb_at, u32_at, byte_at, signed_at}
use Rattle.wl_bytes.specs.declared.read_error.ReadError.{ReadError}
use Rattle.wl_module.specs.Types.{FunctionType}
use Rattle.wl_bytes.specs.Lists.{start}
use Rattle.wl_lists.proofs.Beside.{zip_right}
use Rattle.wl_ops.specs.Decoding.{local_at}
use Rattle.wl_load.specs.declared.code.LocalRun.{LocalRun}
use Rattle.wl_load.specs.declared.parts.ImageFunction.{ImageFunction}
use Rattle.wl_load.specs.declared.parts.ImageParts.{ImageParts}
use Rattle.wl_load.specs.declared.stop.Stop.TheVariants.{Host, Foreign}
use Rattle.wl_load.specs.LocalRuns.{AreLocalRuns, with_locals, Declares, local_run_at, local_runs_at}
use Rattle.wl_load.specs.Codes.{Code}
use Rattle.wl_load.specs.Values.{are_integers, are_integer_runs}
use Rattle.wl_load.specs.Images.{LoadedImage, is_host, code_of, type_index_of, type_of, has_integer_locals, is_known}
use Rattle.wl_load.specs.Control.{found}
use Rattle.wl_load.specs.Running.{own_code, start_code}
use Rattle.wl_load.specs.Loading.{IsCodeOf, IsImageOf}
use Rattle.wl_load.specs.Agreement.{IsLoaded}
use Rattle.wl_load.proofs.LocalLaws.{local_runs_reading}

-- ---- no locals

there_is_one : (text : List ℕ) → nat_lt (suc (length text)) 1 ≡ false
there_is_one text = grind (arith, nat_tests)

-- a leading 0 declares none
none_read : (text : List ℕ) → local_runs_at (start (0 ∷ text)) ≡ Ok ([], record { position = 1; rest = text })
unfolding leb_at take_at local_run_at local_at u32_at byte_at signed_at leb_len_from times_at
none_read text = rw (there_is_one text) refl

pub none_declared : (text : List ℕ) (runs : List LocalRun) → Declares (0 ∷ text) runs → runs ≡ []
none_declared text runs d =
    let mid : Cursor = record { position = length d.1; rest = d.2 } in
    let takes : Takes AreLocalRuns d.0 (start (0 ∷ text)) mid = record { text = d.1; spelled = d.4; parts = d.3; moved = omega arith } in
    let both : Ok (d.0, mid) ≡ Ok ([], record { position = 1; rest = text }) = sym (local_runs_reading.again (start (0 ∷ text)) d.0 mid takes) ∙ none_read text in
    let none : d.0 ≡ [] = ap (λ (r : Result (List LocalRun × Cursor) ReadError). elim r as (λ _. List LocalRun) [ Ok q ↦ q.0 | Err e ↦ [] ]) both in
    d.5 ∙ ap with_locals none

-- ---- it can be run

pub loaded : (parts : ImageParts) (image : LoadedImage) (i : ℕ) (fn : ImageFunction) (type : FunctionType) (text : List ℕ) → IsImageOf parts image → slice_get parts.functions i ≡ Some fn → fn.body ≡ 0 ∷ text
    → slice_get parts.types fn.type_index ≡ Some type → are_integers type.params ≡ true → IsLoaded image.program (length parts.hosts + i) type fn.body
loaded parts image i fn type text is at body typed integers =
    let p = image.program in
    let f = length parts.hosts + i in
    let r = zip_right IsCodeOf parts.functions p.functions i fn is.functions at in
    let code = r.0 in
    let hosts : length p.hosts ≡ length parts.hosts = ap length is.hosts in
    let own : is_host p f ≡ false = rw hosts (grind (arith, nat_tests)) in
    let place : f - length p.hosts ≡ i = omega arith in
    let code_is : code_of p f ≡ Some code =
    ap (λ (b : Bool). if b then None else slice_get p.functions (f - length p.hosts)) own ∙ ap (λ (k : ℕ). slice_get p.functions k) place ∙ r.1 in
    let index : type_index_of p f ≡ Some code.type_index =
    ap (λ (b : Bool). if b then slice_get p.hosts f else option_map (λ (c : Code). c.type_index) (code_of p f)) own
    ∙ ap (λ (o : Option Code). option_map (λ (c : Code). c.type_index) o) code_is in
    let type_is : type_of p f ≡ Some type =
    ap (λ (o : Option ℕ). option_and_then (λ (k : ℕ). slice_get p.types k) o) index
    ∙ ap (λ (ts : List FunctionType). slice_get ts code.type_index) is.types
    ∙ ap (λ (k : ℕ). slice_get parts.types k) r.2.type_index ∙ typed in
    let none : code.locals ≡ [] = none_declared text code.locals (subst (λ (xs : List ℕ). Declares xs code.locals) body r.2.locals) in
    let known : is_known p f type ≡ true =
    ap (λ (b : Bool). b && has_integer_locals (code_of p f)) integers
    ∙ ap (λ (o : Option Code). has_integer_locals o) code_is
    ∙ ap (λ (ls : List LocalRun). are_integer_runs ls) none in
    let starts : start_code p f ≡ Ok code =
    ap (λ (o : Option FunctionType). found o >>= λ t. if is_known p f t then own_code p f else Err Foreign) type_is
    ∙ ap (λ (b : Bool). if b then own_code p f else Err Foreign) known
    ∙ ap (λ (b : Bool). if b then Err (Host f) else found (code_of p f)) own
    ∙ ap (λ (o : Option Code). found o) code_is in
    record { code = code; is_function = record { typed = type_is; starts = starts }; operators = r.2.ops; no_locals = none }
