-- The names that faults print.
use Rattle.std.specs.Prelude.{ℕ, List, ◌++◌, codes}
use Rattle.std.specs.Fmt.{decimal}
use Rattle.fixed_worth.specs.declared.numerals.NumberFault.{NumberFault}
use Rattle.fixed_worth.specs.declared.numerals.NumberFault.TheVariants.{NotANumber, TooLong, TooLarge}
use Rattle.fixed_worth.specs.declared.line_reader.TextFault.{TextFault}
use Rattle.fixed_worth.specs.declared.line_reader.TextFault.TheVariants.{LineTooLong}

abbrev pub number_fault_name : NumberFault → List ℕ
number_fault_name NotANumber = codes "NotANumber"
number_fault_name TooLong = codes "TooLong"
number_fault_name TooLarge = codes "TooLarge"

abbrev pub text_fault_name : TextFault → List ℕ
text_fault_name LineTooLong = codes "LineTooLong"

-- A fault of a file: its name, with the number of its line in parentheses.
abbrev pub at_line : List ℕ → ℕ → List ℕ
at_line word line = word ++ (codes "(" ++ (decimal line ++ codes ")"))
