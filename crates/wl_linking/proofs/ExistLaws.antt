-- What is named exists, by the tests that the code makes and by the facts that callers cite.
use Rattle.std.proofs.Common.{◌≡◌, eqb, Bool, true, false, ◌&&◌, length, refl}
use Rattle.std.specs.List.{list_all}
use Rattle.std.proofs.lemmas.Bool.{eqb-true, eq-eqb, and_parts}
use Rattle.wl_linking.specs.Object.{Object}
use Rattle.wl_linking.specs.Spaces.{NamesExist, spaces_of, counts_hold, core_names_exist, linked_names_exist, counts_segments, import_exists, type_exists, export_exists, memory_exists, symbol_exists, init_exists, relocation_exists}

-- four tests that all pass
four : (a b c d : Bool) → (a && b && c && d) ≡ true → (a ≡ true) × (b ≡ true) × (c ≡ true) × (d ≡ true)
four true true true true e = (refl, refl, refl, refl)
four true true true false e = absurd cc
four true true false d e = absurd cc
four true false c d e = absurd cc
four false b c d e = absurd cc

-- what passes the tests exists
pub names_exist : (o : Object) → counts_hold (spaces_of o) o ≡ true → core_names_exist (spaces_of o) o ≡ true → linked_names_exist (spaces_of o) o ≡ true → NamesExist o
names_exist o counts core linked =
    let s = spaces_of o in
    let count = and_parts (eqb (length o.bodies) (length o.functions)) (list_all (counts_segments s) o.data_counts) counts in
    let cores = four (list_all (import_exists s) o.imports) (list_all (type_exists s) o.functions) (list_all (export_exists s) o.exports) (list_all (memory_exists s) o.segment_memories) core in
    let links = four (list_all (symbol_exists s) o.symbols) (list_all (init_exists s) o.init_funcs) (list_all (relocation_exists s) o.code_relocations) (list_all (relocation_exists s) o.data_relocations) linked in
    record {
      bodies = eqb-true (length o.bodies) (length o.functions) count.0;
      data_counts = count.1;
      imports = cores.0;
      functions = cores.1;
      exports = cores.2;
      segment_memories = cores.3;
      symbols = links.0;
      init_funcs = links.1;
      code = links.2;
      data_ = links.3;
    }

-- what exists passes the test of counts
pub counts_pass : (o : Object) → NamesExist o → counts_hold (spaces_of o) o ≡ true
counts_pass o h = rw (eq-eqb (length o.bodies) (length o.functions) h.bodies, h.data_counts) refl

-- what exists passes the test of the core sections
pub core_passes : (o : Object) → NamesExist o → core_names_exist (spaces_of o) o ≡ true
core_passes o h = rw (h.imports, h.functions, h.exports, h.segment_memories) refl

-- what exists passes the test of the linking section and the relocations
pub linked_passes : (o : Object) → NamesExist o → linked_names_exist (spaces_of o) o ≡ true
linked_passes o h = rw (h.symbols, h.init_funcs, h.code, h.data_) refl
