-- The line of what is wrong with the expanded mine.
use Rattle.std.specs.Prelude.{ℕ, List, [], ◌∷◌, ◌++◌, codes}
use Rattle.planned_mine.specs.declared.bound_fault.NodesProblem.{NodesProblem}
use Rattle.planned_mine.specs.declared.bound_fault.NodesProblem.TheVariants as nodes

-- what is wrong with the expanded mine, and its line, as that of every fault
abbrev pub nodes_problem_text : NodesProblem → List ℕ
nodes_problem_text nodes.TooManyNodes = codes "TooManyNodes"
nodes_problem_text nodes.TooManyPairs = codes "TooManyPairs"
nodes_problem_text nodes.TooLarge = codes "TooLarge"

abbrev pub nodes_problem_line : NodesProblem → List ℕ
nodes_problem_line p = codes "fault: nodes " ++ (nodes_problem_text p ++ 10 ∷ [])
