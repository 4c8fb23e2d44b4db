-- What `resolve_reloc` answers for kept relocations.
use Rattle.std.proofs.Common.{◌≡◌, ℕ, List, subst, arith}
use Rattle.std.specs.Prelude.{Result, Err}
use Rattle.wl_linking.specs.Object.{Object}
use Rattle.wl_custom.specs.RelocationTypes.{taking_of}
use Rattle.wl_reloc.specs.declared.error.RelocError.{RelocError}
use Rattle.wl_index.specs.declared.index_map.WasmObjectIndexMap.{WasmObjectIndexMap}
use Rattle.wl_symbols.specs.Input.{Input}
use Rattle.wl_bind.specs.Kinds.{IsWrongKind}
use Rattle.wl_bind.specs.References.{IsSettled}
use Rattle.wl_symbols.specs.declared.relocated.Relocated.{Relocated}
use Rattle.wl_plan.specs.steps.Fixups.{AnswersValue, HasRoom}
use Rattle.wl_places.specs.IndexedMaps.{AreWholeMaps}
use Rattle.wl_plan.specs.Resolved.{IsNumbered, IsOf, answer_for, HasNoAddress}
use Rattle.wl_places.specs.declared.placing.Placing.{Placing}
use Rattle.wl_linking.proofs.StepLaws.{first_clear}
use Rattle.wl_plan.proofs.FixupLaws.{IsKnown, Laws, map_of, reason_of, resolves_as}
use Rattle.wl_plan.proofs.PlanLaws.{few_by}
use Rattle.wl_plan.proofs.SlotLaws.{TableLaws}
use Rattle.wl_plan.proofs.TableLaws.{TableIs, table_is_few}

pub settled : (input : Input) → IsNumbered input → IsSettled input
settled input h = record {
  whole = h.whole;
  kept = h.kept;
  kinds = first_clear (IsWrongKind input) _ h.clear;
}

room : (input : Input) → TableIs input → IsNumbered input → HasRoom input
room input is h =
    let few = few_by input h.clear in
    let functions = few.functions in
    let within = table_is_few input is in
    record { types = few.types; globals = few.globals; table = omega (arith, within, functions) }

-- only an address is refused
pub only_addresses : (laws : Laws) (table : TableLaws) (input : Input) → TableIs input
    → (g : Placing) (maps : List WasmObjectIndexMap) (r : Relocated) (o : Object)
    (m : WasmObjectIndexMap) (why : RelocError) → IsNumbered input → AreWholeMaps input g maps
    → IsOf input maps r o m → answer_for input g o m r ≡ Err why → HasNoAddress input g r why
only_addresses laws table input is g maps r o m why h whole of fault =
    let known : IsKnown input g r o m = record {
      laws = laws;
      table = table;
      settled = settled input h;
      room = room input is h;
      kept = of.kept;
      here = of.object;
      map = map_of input g maps r.object o m whole of.object of.map;
    } in
    let answer = subst
    (λ (x : Result ℕ RelocError). AnswersValue input g r (taking_of r.relocation.ty) x) fault
    (resolves_as input g r o m known) in
    record {
      base = answer.0;
      takes = answer.1;
      fault = answer.2;
      reason = reason_of input g r answer.0 why answer.2;
    }
