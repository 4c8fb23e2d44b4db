-- Each function of the output is of one of the parts of its space.
use Rattle.std.proofs.Common.{◌≡◌, ◌++◌, ℕ, ◌+◌, true, List, [], inl, inr, subst, arith, Some, slice_get, Contains}
use Rattle.wl_linking.specs.Object.{Object}
use Rattle.wl_symbols.specs.ImportSlots.{ImportSlot}
use Rattle.wl_symbols.specs.Input.{Input}
use Rattle.wl_symbols.specs.Left.{first_imports}
use Rattle.wl_symbols.specs.declared.linker_symbol.WasmLinkerSymbol.TheVariants.{CallCtors, InitTls}
use Rattle.wl_bind.specs.FunctionBinding.{host_functions, link_stubs}
use Rattle.wl_bind.specs.FunctionSpace.{FunctionEntry, FunctionOf, InitMemory, host_function_part, made_function_part, init_memory_part, stub_part, kept_functions, functions_of, object_functions, function_parts, function_space}
use Rattle.wl_bind.specs.Made.{is_made, has_init_memory}
use Rattle.wl_bind.specs.Parts.{joined}
use Rattle.wl_bind.specs.declared.binding.FunctionTarget.TheVariants.{Defined, Made, Host, Stub}
use Rattle.wl_lists.proofs.In.{IsIn, list_in, in_split, in_map, in_if}
use Rattle.wl_lists.proofs.Rows.{given_by}

-- what holds of the functions of each part holds of each function
pub all_functions : (input : Input) (P : FunctionEntry → Type 0)
    → ((t : ImportSlot) → IsIn (first_imports (host_functions input)) t → P (FunctionOf (Host t.object t.number)))
    → (is_made input CallCtors ≡ true → P (FunctionOf (Made CallCtors))) → (is_made input InitTls ≡ true → P (FunctionOf (Made InitTls)))
    → (has_init_memory input ≡ true → P InitMemory)
    → ((t : ImportSlot) → IsIn (link_stubs input) t → P (FunctionOf (Stub t.object t.number)))
    → ((i : ℕ) (o : Object) (k : ℕ) → slice_get input.link.objects i ≡ Some o → IsIn (kept_functions input i o) k → P (FunctionOf (Defined i k)))
    → (entry : FunctionEntry) → Contains (function_space input) entry → P entry
all_functions input P host ctors tls memory stub own entry listed =
    let behind_memory : List FunctionEntry = stub_part input ++ [] in
    let behind_tls : List FunctionEntry = init_memory_part input ++ behind_memory in
    let behind_ctors : List FunctionEntry = made_function_part input InitTls ++ behind_tls in
    let behind_hosts : List FunctionEntry = made_function_part input CallCtors ++ behind_ctors in
    elim (in_split (joined (function_parts input)) (object_functions input) entry (list_in (function_space input) entry listed)) [
      | inr mine ↦
          (let g = given_by (functions_of input) 0 input.link.objects entry mine in
          let same : 0 + g.place ≡ g.place = omega arith in
          let c = in_map (λ k. FunctionOf (Defined g.place k)) (kept_functions input g.place g.object) entry
          (subst (λ (n : ℕ). IsIn (functions_of input n g.object) entry) same g.there) in
          subst P c.to (own g.place g.object c.from g.at c.there))
      | inl front ↦ elim (in_split (host_function_part input) behind_hosts entry front) [
        | inl h ↦
            (let c = in_map (λ (t : ImportSlot). FunctionOf (Host t.object t.number)) (first_imports (host_functions input)) entry h in
            subst P c.to (host c.from c.there))
        | inr rest ↦ elim (in_split (made_function_part input CallCtors) behind_ctors entry rest) [
          | inl h ↦ (let s = in_if (is_made input CallCtors) (FunctionOf (Made CallCtors)) entry h in subst P s.1 (ctors s.0))
          | inr rest ↦ elim (in_split (made_function_part input InitTls) behind_tls entry rest) [
            | inl h ↦ (let s = in_if (is_made input InitTls) (FunctionOf (Made InitTls)) entry h in subst P s.1 (tls s.0))
            | inr rest ↦ elim (in_split (init_memory_part input) behind_memory entry rest) [
              | inl h ↦ (let s = in_if (has_init_memory input) InitMemory entry h in subst P s.1 (memory s.0))
              | inr rest ↦ elim (in_split (stub_part input) [] entry rest) [
                | inl h ↦
                    (let c = in_map (λ (t : ImportSlot). FunctionOf (Stub t.object t.number)) (link_stubs input) entry h in
                    subst P c.to (stub c.from c.there))
                | inr none ↦ absurd none
              ]
            ]
          ]
        ]
      ]
    ]
