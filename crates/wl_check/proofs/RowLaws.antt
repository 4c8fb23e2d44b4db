-- The line of a relocation, put together from its pieces.
use Rattle.std.proofs.Common.{◌≡◌, ℕ, List, ◌++◌, codes, decimal, append_assoc}
use Rattle.wl_custom.specs.RelocationTypes.{type_name}
use Rattle.wl_output.specs.declared.fixups.Fixup.{Fixup}
use Rattle.wl_check.specs.Texts.{line_text, place_name, to_text}
use Rattle.wl_check.specs.declared.line.Line.TheVariants.{Fix}

-- each piece follows those before it
pub fixup_row : (page p q r s t whole : List ℕ) (f : Fixup) → p ≡ page ++ codes "fix " ++ decimal f.object → q ≡ p ++ (codes " " ++ place_name f.place ++ codes " " ++ decimal f.unit)
    → r ≡ q ++ codes " " ++ decimal f.position → s ≡ r ++ codes " " → t ≡ s ++ type_name f.ty → whole ≡ t ++ codes " " ++ to_text f.to → whole ≡ page ++ line_text (Fix f)
fixup_row page p q r s t whole f one two three four five six = rw (six, five, four, three, two, one) (simp append_assoc)
