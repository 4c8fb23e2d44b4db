-- Functions, one after the other.
use Rattle.std.proofs.Common.{◌≡◌, ℕ, zero, suc, ◌+◌, ◌<◌, true, false, List, [], ◌∷◌, ◌++◌, length, take, drop, get_or, sym, ◌∙◌, ap, subst, arith}
use Rattle.std.proofs.lemmas.List.{take_more, length-take-le}
use Rattle.wl_bytes.specs.declared.read_error.ReadError.{ReadError}
use Rattle.wl_bytes.specs.declared.read_error.ReadError.TheVariants.{OutOfMemory as OutOfMemoryRead, Malformed, Unsupported}
use Rattle.wl_bytes.specs.Outcome.{HasCause}
use Rattle.wl_lists.proofs.Beside.{zip_length, zip_joined}
use Rattle.wl_ops.specs.Decoding.{DecodeFault}
use Rattle.wl_load.specs.declared.parts.ImageFunction.{ImageFunction}
use Rattle.wl_load.specs.declared.error.LoadError.{LoadError}
use Rattle.wl_load.specs.declared.error.LoadError.TheVariants.{OutOfMemory, HostGlobal, TooBig, Init, Body, Nesting}
use Rattle.wl_load.specs.Codes.{Code}
use Rattle.wl_load.specs.Blocks.{is_nested}
use Rattle.wl_load.specs.Loading.{IsCodeOf, AreCodesOf, AreNested, IsUndecoded, IsUnnested, UndecodedFault, UnnestedFault, load_error}
use Rattle.wl_load.proofs.CutLaws.{split_at}

-- ---- bodies

-- the only function can't be decoded
pub undecoded_here : (number : ℕ) (f : ImageFunction) (e : ReadError) → DecodeFault e f.body → UndecodedFault number (f ∷ []) (Body number)
undecoded_here number f e d = (0, omega arith, (e, d))

-- how reading a body failed, reported for its function
pub undecoded_told : (number : ℕ) (f : ImageFunction) (e : ReadError) → HasCause (λ d. DecodeFault d f.body) e → UndecodedFault number (f ∷ []) (load_error number e)
undecoded_told number f OutOfMemoryRead h = tt
undecoded_told number f (Malformed why) h = undecoded_here number f (Malformed why) h
undecoded_told number f (Unsupported form) h = undecoded_here number f (Unsupported form) h

-- functions are as many as their code
pub codes_counted : (fs : List ImageFunction) (cs : List Code) → AreCodesOf fs cs → length cs ≡ length fs
codes_counted fs cs them = sym (zip_length IsCodeOf fs cs them)

codes_more : (fs : List ImageFunction) (cs : List Code) (f : ImageFunction) (c : Code) → AreCodesOf fs cs → IsCodeOf f c → AreCodesOf (fs ++ f ∷ []) (cs ++ c ∷ [])
codes_more fs cs f c them is = zip_joined IsCodeOf fs (f ∷ []) cs (c ∷ []) them (is, tt)

-- one more is read
pub codes_read : (parts : List ImageFunction) (i : ℕ) (f : ImageFunction) (cs : List Code) (c : Code) → i < length parts → f ≡ get_or parts i f → AreCodesOf (take i parts) cs → IsCodeOf f c
    → AreCodesOf (take (i + 1) parts) (cs ++ c ∷ [])
codes_read parts i f cs c lt is them one =
    let more : take (i + 1) parts ≡ take i parts ++ f ∷ [] = take_more parts i f lt ∙ ap (λ (g : ImageFunction). take i parts ++ g ∷ []) (sym is) in
    rw more (codes_more (take i parts) cs f c them one)

undecoded_behind : (before rest : List ImageFunction) (cs : List Code) (f : ImageFunction) (e : ReadError) → AreCodesOf before cs → DecodeFault e f.body → IsUndecoded (before ++ f ∷ rest) (length before)
undecoded_behind [] rest [] f e them d = (e, d)
undecoded_behind (g ∷ gs) rest (c ∷ cs) f e them d = ((c.ops, them.0.ops), undecoded_behind gs rest cs f e them.1 d)
undecoded_behind [] rest (c ∷ cs) f e them d = absurd them
undecoded_behind (g ∷ gs) rest [] f e them d = absurd them

-- after some that are read, one isn't
pub undecoded_at : (first number : ℕ) (parts : List ImageFunction) (i : ℕ) (f : ImageFunction) (cs : List Code) (e : LoadError) → i < length parts → f ≡ get_or parts i f → number ≡ first + i
    → AreCodesOf (take i parts) cs → UndecodedFault number (f ∷ []) e → UndecodedFault first parts e
undecoded_at first number parts i f cs OutOfMemory lt is at them d = tt
undecoded_at first number parts i f cs (HostGlobal index) lt is at them d = absurd d
undecoded_at first number parts i f cs (TooBig pages) lt is at them d = absurd d
undecoded_at first number parts i f cs (Init global) lt is at them d = absurd d
undecoded_at first number parts i f cs (Nesting function) lt is at them d = absurd d
undecoded_at first number parts i f cs (Body function) lt is at them d = by_place d.0 d.1 d.2
  where
    by_place : (k : ℕ) → function ≡ number + k → IsUndecoded (f ∷ []) k → UndecodedFault first parts (Body function)
    by_place zero e fault =
        let size : length (take i parts) ≡ i = length-take-le i parts (omega arith) in (
          i,
          omega arith,
          subst (λ (n : ℕ). IsUndecoded parts n) size (subst (λ (xs : List ImageFunction). IsUndecoded xs (length (take i parts))) (sym (split_at parts i f lt is))
              (undecoded_behind (take i parts) (drop (i + 1) parts) cs f fault.0 them fault.1)),
        )
    by_place (suc k) e fault = absurd fault.1

-- ---- blocks

nested_more : (cs : List Code) (c : Code) → AreNested cs → is_nested c.ops ≡ true → AreNested (cs ++ c ∷ [])
nested_more [] c all one = (one, tt)
nested_more (d ∷ ds) c all one = (all.0, nested_more ds c all.1 one)

-- one more nests
pub nested_read : (codes : List Code) (i : ℕ) (c : Code) → i < length codes → c ≡ get_or codes i c → AreNested (take i codes) → is_nested c.ops ≡ true → AreNested (take (i + 1) codes)
nested_read codes i c lt is all one =
    let more : take (i + 1) codes ≡ take i codes ++ c ∷ [] = take_more codes i c lt ∙ ap (λ (d : Code). take i codes ++ d ∷ []) (sym is) in
    rw more (nested_more (take i codes) c all one)

unnested_behind : (before rest : List Code) (c : Code) → AreNested before → is_nested c.ops ≡ false → IsUnnested (before ++ c ∷ rest) (length before)
unnested_behind [] rest c all unlike = unlike
unnested_behind (d ∷ ds) rest c all unlike = (all.0, unnested_behind ds rest c all.1 unlike)

-- after some that nest, one doesn't
pub unnested_at : (first number : ℕ) (codes : List Code) (i : ℕ) (c : Code) → i < length codes → c ≡ get_or codes i c → number ≡ first + i → AreNested (take i codes) → is_nested c.ops ≡ false
    → UnnestedFault first codes (Nesting number)
unnested_at first number codes i c lt is at all unlike =
    let size : length (take i codes) ≡ i = length-take-le i codes (omega arith) in
    (i, at, subst (λ (n : ℕ). IsUnnested codes n) size (subst (λ (xs : List Code). IsUnnested xs (length (take i codes))) (sym (split_at codes i c lt is)) (unnested_behind (take i codes) (drop (i + 1) codes) c all unlike)))
