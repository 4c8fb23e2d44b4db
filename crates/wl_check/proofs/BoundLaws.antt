-- The names and bytes of a line aren't longer than its text.
use Rattle.std.proofs.Common.{ℕ, ◌+◌, ◌≤◌, length, arith, Bool, true, false, cond, List, [], ◌∷◌, ◌++◌, ap, length-append}
use Rattle.std.specs.Prelude.{sum_by, codes}
use Rattle.std.specs.List.{flat_map}
use Rattle.hex.specs.Hex.{encode_lower, lower_digits}
use Rattle.std.proofs.lemmas.List.Sums.{sum_by-cons}
use Rattle.hex.proofs.HexLemmas.{length-encode_with}
use Rattle.wl_module.specs.declared.types.ValType.{ValType}
use Rattle.wl_text.specs.Pieces.{is_escaped, escaped, quoted}
use Rattle.wl_text.specs.Names.{value_type_name}
use Rattle.wl_check.specs.declared.line.Line.{Line}
use Rattle.wl_check.specs.declared.line.Line.TheVariants.{Version, OutputType, Import, Function, Body, Global, Memory, Table, Slot, Segment, Export, Start, Fix, Feature, Debug, End}
use Rattle.wl_output.specs.declared.entities.OutputImportEntity.{OutputImportEntity}
use Rattle.wl_output.specs.declared.entities.OutputImportEntity.TheVariants as entity
use Rattle.wl_check.specs.declared.line.FunctionSource.{FunctionSource}
use Rattle.wl_check.specs.declared.line.FunctionSource.TheVariants as source
use Rattle.wl_check.specs.Texts.{further_type, types, source_text, import_word, entity_text, line_text, name}
use Rattle.wl_check.specs.Spelled.{IsListing, source_bytes, name_bytes}

escaped_long : (b : ℕ) (behind : Bool) → 1 ≤ length (cond behind (0x5c ∷ encode_lower (b ∷ [])) (b ∷ []))
escaped_long b true = omega arith
escaped_long b false = omega arith

escaped_all : (n : List ℕ) → length n ≤ length (flat_map escaped n)
escaped_all [] = omega arith
escaped_all (b ∷ n) =
    let one : 1 ≤ length (escaped b) = escaped_long b (is_escaped b) in
    let more = escaped_all n in
    omega (arith, length-append (escaped b) (flat_map escaped n))

name_long : (end : ℕ) (n : List ℕ) → length n ≤ length (name end n)
name_long end n =
    let all = escaped_all n in
    omega (arith, length-append (quoted n) (end ∷ []), length-append (flat_map escaped n) (0x22 ∷ []))

hex_long : (bytes : List ℕ) → length bytes ≤ length (encode_lower bytes)
hex_long bytes = let two = length-encode_with lower_digits bytes in omega arith

further_long : (ts : List ValType) → length ts ≤ length (flat_map further_type ts)
further_long [] = omega arith
further_long (t ∷ ts) =
    let more = further_long ts in
    omega (arith, length-append (further_type t) (flat_map further_type ts))

types_long : (ts : List ValType) → length ts ≤ length (types ts)
types_long [] = omega arith
types_long (t ∷ ts) =
    let more = further_long ts in
    omega (arith, length-append (value_type_name t ++ flat_map further_type ts) (codes ")"), length-append (value_type_name t) (flat_map further_type ts))

import_word_long : (what : OutputImportEntity) → 1 ≤ length (import_word what)
import_word_long (entity.Function t) = omega arith
import_word_long (entity.Global ty) = omega arith
import_word_long (entity.Memory m) = omega arith

source_long : (s : FunctionSource) → source_bytes s ≤ length (source_text s)
source_long (source.Object object unit) = omega arith
source_long (source.Made m) = omega arith
source_long (source.Stub n) = let s = name_long 10 n in omega (arith, length-append (codes "stub ") (name 10 n))
source_long (source.Wrap n) = let s = name_long 10 n in omega (arith, length-append (codes "wrap ") (name 10 n))

line_long : (l : Line) → name_bytes l + 1 ≤ length (line_text l)
line_long Version = omega arith
line_long (OutputType index ty) = let p = types_long ty.params in let r = types_long ty.results in simp length-append (omega arith)
line_long (Import origin n what) =
    let w = import_word_long what in
    let o = name_long 32 origin in
    let m = name_long 32 n in
    omega (arith, length-append (import_word what ++ name 32 origin ++ name 32 n) (entity_text what), length-append (import_word what ++ name 32 origin) (name 32 n), length-append (import_word what) (name 32 origin))
line_long (Function index type_index from) = let s = source_long from in simp length-append (omega arith)
line_long (Body index bytes) = let h = hex_long bytes in simp length-append (omega arith)
line_long (Global index ty init from) = let h = hex_long init in simp length-append (omega arith)
line_long (Memory m) = omega arith
line_long (Table minimum) = omega arith
line_long (Slot slot function) = omega arith
line_long (Segment index object unit goes len) = omega arith
line_long (Export n kind index) = let m = escaped_all n in simp length-append (omega arith)
line_long (Start function) = omega arith
line_long (Fix f) = omega arith
line_long (Feature n) = let m = escaped_all n in simp length-append (omega arith)
line_long (Debug object n len) = let m = escaped_all n in simp length-append (omega arith)
line_long End = omega arith

all_long : (ls : List Line) → sum_by name_bytes ls + length ls ≤ length (flat_map line_text ls)
all_long [] = omega arith
all_long (l ∷ ls) =
    let one = line_long l in
    let more = all_long ls in
    omega (arith, sum_by-cons name_bytes l ls, length-append (line_text l) (flat_map line_text ls))

pub lines_bounded : (ls : List Line) (text : List ℕ) → IsListing ls text → sum_by name_bytes ls + length ls ≤ length text
lines_bounded ls text listing = let h = all_long ls in omega (arith, ap length listing.joined)
