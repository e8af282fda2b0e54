-- The line of what is wrong with a design.
use Rattle.std.specs.Prelude.{ℕ, List, [], ◌∷◌, ◌++◌, codes}
use Rattle.design_file.specs.Records.{design_fault_text}
use Rattle.design_engines.specs.declared.value_fault.DesignProblem.{DesignProblem}
use Rattle.design_engines.specs.declared.value_fault.DesignProblem.TheVariants as problem

abbrev pub design_problem_text : DesignProblem → List ℕ
design_problem_text problem.InputTooLong = codes "InputTooLong"
design_problem_text (problem.Fault fault) = design_fault_text fault
design_problem_text problem.TooLarge = codes "TooLarge"

-- the word for the input that has it, and the problem
abbrev pub design_problem_words : DesignProblem → List ℕ
design_problem_words p = codes "design " ++ design_problem_text p

-- the line, as that of every fault
abbrev pub design_problem_line : DesignProblem → List ℕ
design_problem_line p = codes "fault: " ++ (design_problem_words p ++ 10 ∷ [])
