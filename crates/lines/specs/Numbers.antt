-- The faults of the code as those of texts, and their numbers. Assumes nothing.
use Rattle.std.specs.Prelude.{ℕ, List, [], Some, None, Option}
use Rattle.std.specs.Option.{option_map, unwrap_or}
use Rattle.texts.specs.Faults.{Fault, form, name, over_long, other_wheel, number, values}
use Rattle.lines.specs.declared.faults.Cause.{Cause}
use Rattle.lines.specs.declared.faults.Cause.TheVariants.{Form, Name}
use Rattle.lines.specs.declared.faults.TextFault.{TextFault}
use Rattle.lines.specs.declared.faults.TextFault.TheVariants.{Line, TooLong, OtherWheel, OutOfMemory}

-- the fault of a line
abbrev pub at_line : ℕ → Cause → Fault
at_line line Form = form line
at_line line (Name byte) = name line byte

-- what is wrong with the text; nothing is where memory ran out
abbrev pub fault_of : TextFault → Option Fault
fault_of (Line fault) = Some (at_line fault.line fault.cause)
fault_of (TooLong bytes) = Some (over_long bytes)
fault_of (OtherWheel wheel) = Some (other_wheel wheel)
fault_of OutOfMemory = None

-- the number by which a call is refused where memory ran out
abbrev pub out_of_memory : ℕ
out_of_memory = 99

abbrev pub number_of : TextFault → ℕ
number_of fault = unwrap_or (option_map number (fault_of fault)) out_of_memory

abbrev pub values_of : TextFault → List ℕ
values_of fault = unwrap_or (option_map values (fault_of fault)) []
