-- The line that says how a run has ended, or why there was none.
use Rattle.std.specs.Prelude.{◌≡◌, ◌++◌, ℕ, List, map, codes, decimal}
use Rattle.wl_numeric.specs.Values.{number_of}
use Rattle.wl_numeric.specs.declared.value.TrapKind.{TrapKind}
use Rattle.wl_numeric.specs.declared.value.TrapKind.TheVariants as trap
use Rattle.wl_load.specs.declared.error.LoadError.{LoadError}
use Rattle.wl_load.specs.declared.error.LoadError.TheVariants as load
use Rattle.wl_load.specs.declared.run_end.RunEnd.{RunEnd}
use Rattle.wl_load.specs.declared.run_end.RunEnd.TheVariants.{Done, Trap, Waits, Host, OutOfFuel, Foreign, Invalid, OutOfMemory}
use Rattle.wl_text.specs.Pieces.{numbers_text}

-- the name of a trap
abbrev pub trap_name : TrapKind → List ℕ
trap_name trap.Unreachable = codes "Unreachable"
trap_name trap.DivideByZero = codes "DivideByZero"
trap_name trap.Overflow = codes "Overflow"
trap_name trap.OutOfBounds = codes "OutOfBounds"
trap_name trap.NullEntry = codes "NullEntry"
trap_name trap.BadSignature = codes "BadSignature"
trap_name trap.Unaligned = codes "Unaligned"
trap_name trap.Unshared = codes "Unshared"

-- a word, and the numbers of a function and of an operator in it, after it
abbrev pub place_text : List ℕ → ℕ → ℕ → List ℕ
place_text word function operator = word ++ decimal function ++ codes " " ++ decimal operator

-- a text with the end of a line
abbrev pub line : List ℕ → List ℕ
line text = text ++ codes "\n"

-- How a run has ended; results are numbers without a sign. No line says that memory ran out.
abbrev pub IsEndLine : RunEnd → List ℕ → Type 0
IsEndLine (Done results) text =
    text ≡ line (codes "done" ++ numbers_text (map number_of results))
IsEndLine (Trap kind) text = text ≡ line (codes "trap " ++ trap_name kind)
IsEndLine Waits text = text ≡ line (codes "waits")
IsEndLine (Host import) text = text ≡ line (codes "host " ++ decimal import)
IsEndLine OutOfFuel text = text ≡ line (codes "fuel")
IsEndLine (Foreign function operator) text =
    text ≡ line (place_text (codes "foreign ") function operator)
IsEndLine (Invalid function operator) text =
    text ≡ line (place_text (codes "invalid ") function operator)
IsEndLine (OutOfMemory count) text = ⊥

-- The cause for which a module isn't loaded, and its number. No line says that memory ran out.
abbrev pub IsLoadLine : LoadError → List ℕ → Type 0
IsLoadLine load.OutOfMemory text = ⊥
IsLoadLine (load.HostGlobal index) text =
    text ≡ line (codes "load HostGlobal " ++ decimal index)
IsLoadLine (load.TooBig pages) text = text ≡ line (codes "load TooBig " ++ decimal pages)
IsLoadLine (load.Init global) text = text ≡ line (codes "load Init " ++ decimal global)
IsLoadLine (load.Body function) text = text ≡ line (codes "load Body " ++ decimal function)
IsLoadLine (load.Nesting function) text = text ≡ line (codes "load Nesting " ++ decimal function)
