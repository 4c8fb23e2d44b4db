-- How the program ends.
use Rattle.std.specs.Prelude.{ℕ}
use Rattle.wildplan.specs.declared.run.Status.{Status}
use Rattle.wildplan.specs.declared.run.Status.TheVariants.{Done, Refused, BadWords, ReadFault, WriteFault, OutOfMemory}

-- the number that the program ends with
abbrev pub status_code : Status → ℕ
status_code Done = 0
status_code Refused = 1
status_code BadWords = 2
status_code ReadFault = 3
status_code WriteFault = 4
status_code OutOfMemory = 5
