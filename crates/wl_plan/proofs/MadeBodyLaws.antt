-- Bodies that the linker makes by itself: what is added, and what is refused.
use Rattle.std.proofs.Common.{◌≡◌, ◌∙◌, inl, inr, ℕ, Bool, true, false, List, [], ◌∷◌, ◌++◌, refl, sym, ap, Option, Some, None, is_some, ◌||◌, slice_get, Contains, if◌then◌else◌}
use Rattle.std.specs.Prelude.{MatchOption}
use Rattle.wl_module.specs.Bodies.{Body}
use Rattle.wl_linking.specs.declared.error.LinkError.{LinkError}
use Rattle.wl_symbols.specs.declared.linker_symbol.WasmLinkerSymbol.TheVariants.{CallCtors, InitTls, TlsBase}
use Rattle.wl_data.specs.DataPlaces.{flag_place, has_init}
use Rattle.wl_ops.specs.declared.op.Op.{Op}
use Rattle.wl_bind.specs.FunctionSpace.{FunctionEntry, FunctionOf, InitMemory, function_space, init_memory_part, made_function_part}
use Rattle.wl_symbols.specs.Input.{Input}
use Rattle.wl_bind.specs.Made.{has_init_memory, has_shared_tls, is_bound, is_made}
use Rattle.wl_bind.specs.MadeIndices.{IsMadeIndex}
use Rattle.wl_bind.specs.declared.binding.FunctionTarget.TheVariants as function
use Rattle.wl_plan.specs.Bodies.{AreInitMemoryOps, AreInitTlsOps, AreMadeOps}
use Rattle.wl_plan.specs.BodySteps.{AddsBodies, AddsMadeBody}
use Rattle.wl_plan.specs.Functions.{own_functions}
use Rattle.wl_plan.specs.steps.Functions.{linker_functions}
use Rattle.wl_places.specs.Placing.{IsPlacing, data_input}
use Rattle.wl_plan.specs.steps.Threads.{IsBodyRefusal, IsSpelledFor, IsUnspelled}
use Rattle.wl_places.specs.declared.placing.Placing.{Placing}
use Rattle.wl_plan.proofs.CallLaws.{split_hosts, host_entry}
use Rattle.wl_plan.proofs.FunctionLaws.{init_is, one_made}
use Rattle.wl_plan.proofs.GrowLaws.{adds_made, adds_more, adds_same, adds_none}
use Rattle.wl_lists.proofs.In.{at_is_in, in_at}

-- ---- what copies data for all threads

pub init_part : (input : Input) (i : ℕ) → slice_get (function_space input) i ≡ Some InitMemory
    → init_memory_part input ≡ InitMemory ∷ []
init_part input i at =
    ap (λ (b : Bool). if b then InitMemory ∷ [] else []) (init_is input (in_at (function_space input) i InitMemory at))

-- without a flag there is none
pub no_flag : ((i : Input) → has_init (data_input i) ≡ has_init_memory i) → (input : Input) (g : Placing) → IsPlacing input g → g.places.flag ≡ None → init_memory_part input ≡ []
no_flag filled input g placed none =
    ap (λ (b : Bool). if b then InitMemory ∷ [] else [])
    (sym (filled input) ∙ at (has_init (data_input input)) (sym placed.laid.flag ∙ none))
  where
    at : (b : Bool) → (if b then Some (flag_place placed.laid.end.memory) else None) ≡ None → b ≡ false
    at true e = absurd cc
    at false e = refl

pub adds_init : (input : Input) (g : Placing) (i : ℕ) (bytes : List ℕ) (old new : List Body)
    → slice_get (function_space input) i ≡ Some InitMemory → IsSpelledFor (AreInitMemoryOps g) bytes
    → AddsMadeBody bytes old new → AddsBodies input g (init_memory_part input) old new
adds_init input g i bytes old new at spelled a =
    adds_made input g (init_memory_part input) InitMemory spelled.ops bytes old new (init_part input i at) spelled.are
    spelled.encoded (λ b x. x) a

pub adds_no_init : (input : Input) (g : Placing) (old : List Body) → init_memory_part input ≡ []
    → AddsBodies input g (init_memory_part input) old old
adds_no_init input g old none = adds_same input g [] (init_memory_part input) old old (sym none) (adds_none input g old)

-- ---- what fills the block of a thread

pub adds_tls : (input : Input) (g : Placing) (i : ℕ) (bytes : List ℕ) (old new : List Body)
    → slice_get (function_space input) i ≡ Some (FunctionOf (function.Made InitTls))
    → IsSpelledFor (AreInitTlsOps input g) bytes → AddsMadeBody bytes old new
    → AddsBodies input g (made_function_part input InitTls) old new
adds_tls input g i bytes old new at spelled a =
    adds_made input g (made_function_part input InitTls) (FunctionOf (function.Made InitTls)) spelled.ops bytes old new
    (one_made input InitTls i at) spelled.are spelled.encoded (λ b x. x) a

pub adds_no_tls : (input : Input) (g : Placing) (old : List Body) → made_function_part input InitTls ≡ []
    → AddsBodies input g (made_function_part input InitTls) old old
adds_no_tls input g old none = adds_same input g [] (made_function_part input InitTls) old old (sym none) (adds_none input g old)

-- ---- what is refused

own_entry : (input : Input) (entry : FunctionEntry) (i : ℕ) → slice_get (function_space input) i ≡ Some entry
    → ((object slot : ℕ) → entry ≡ FunctionOf (function.Host object slot) → ⊥) → Contains (own_functions input) entry
own_entry input entry i at never = elim (split_hosts input entry i at) [
  | inl front ↦ (let h = host_entry input entry i front in absurd (never h.0 h.1 h.2))
  | inr behind ↦ at_is_in (own_functions input) behind.k entry behind.own
]

refusal_of : (input : Input) (g : Placing) (entry : FunctionEntry) (are_ops : List Op → Type 0) (e : LinkError)
    → Contains (own_functions input) entry → ((ops : List Op) → are_ops ops → AreMadeOps input g entry ops)
    → IsUnspelled are_ops e → IsBodyRefusal input g e
refusal_of input g entry are_ops e one made (inl memory) = inl memory
refusal_of input g entry are_ops e one made (inr fault) =
    inr (record {
      entry = entry;
      one = one;
      ops = fault.0;
      are_ops = made fault.0 fault.2;
      number = fault.1;
      great = fault.3;
      told = fault.4;
    })

pub init_refused : (input : Input) (g : Placing) (i : ℕ) (e : LinkError)
    → slice_get (function_space input) i ≡ Some InitMemory → IsUnspelled (AreInitMemoryOps g) e
    → IsBodyRefusal input g e
init_refused input g i e at h =
    refusal_of input g InitMemory (AreInitMemoryOps g) e (own_entry input InitMemory i at (λ object slot x. absurd cc))
    (λ ops x. x) h

pub tls_refused : (input : Input) (g : Placing) (i : ℕ) (e : LinkError)
    → slice_get (function_space input) i ≡ Some (FunctionOf (function.Made InitTls))
    → IsUnspelled (AreInitTlsOps input g) e → IsBodyRefusal input g e
tls_refused input g i e at h =
    refusal_of input g (FunctionOf (function.Made InitTls)) (AreInitTlsOps input g) e
    (own_entry input (FunctionOf (function.Made InitTls)) i at (λ object slot x. absurd cc)) (λ ops x. x) h

-- ---- by indices

pub init_index : (input : Input) (index : Option ℕ) → MatchOption index (has_init_memory input ≡ false)
    (λ (i : ℕ). slice_get (function_space input) i ≡ Some InitMemory) → is_some index ≡ true
    → (i : ℕ) × (slice_get (function_space input) i ≡ Some InitMemory)
init_index input None is some = absurd cc
init_index input (Some i) is some = (i, is)

pub tls_index : (input : Input) (index : Option ℕ) → IsMadeIndex input InitTls index → is_some index ≡ true
    → (i : ℕ) × (slice_get (function_space input) i ≡ Some (FunctionOf (function.Made InitTls)))
tls_index input None is some = absurd cc
tls_index input (Some i) is some = (i, is)

-- without a base there is no block
either_false : (a b : Bool) → (a || b) ≡ false → a ≡ false
either_false true b e = absurd cc
either_false false b e = refl

pub no_base : (input : Input) → is_made input TlsBase ≡ false → made_function_part input InitTls ≡ []
no_base input none =
    ap (λ (b : Bool). if b then FunctionOf (function.Made InitTls) ∷ [] else [])
    (either_false (has_shared_tls input) (is_bound input TlsBase) none)

-- ---- the three after each other

pub adds_three : (input : Input) (g : Placing) (old one two new : List Body)
    → AddsBodies input g (made_function_part input CallCtors) old one
    → AddsBodies input g (made_function_part input InitTls) one two
    → AddsBodies input g (init_memory_part input) two new → AddsBodies input g (linker_functions input) old new
adds_three input g old one two new a b d =
    adds_more input g (made_function_part input CallCtors ++ made_function_part input InitTls) (init_memory_part input)
    old two new
    (adds_more input g (made_function_part input CallCtors) (made_function_part input InitTls) old one two a b) d
