-- The lines of what is wrong with periods and with a schedule.
use Rattle.std.specs.Prelude.{ℕ, List, [], ◌∷◌, ◌++◌, codes, decimal}
use Rattle.periods_file.specs.Periods.{periods_fault_text}
use Rattle.schedule_file.specs.Records.{schedule_fault_text}
use Rattle.schedule_engines.specs.declared.plan_fault.PeriodsProblem.{PeriodsProblem}
use Rattle.schedule_engines.specs.declared.plan_fault.PeriodsProblem.TheVariants as periods
use Rattle.schedule_engines.specs.declared.plan_fault.ScheduleProblem.{ScheduleProblem}
use Rattle.schedule_engines.specs.declared.plan_fault.ScheduleProblem.TheVariants as schedule

abbrev pub periods_problem_text : PeriodsProblem → List ℕ
periods_problem_text periods.InputTooLong = codes "InputTooLong"
periods_problem_text (periods.Fault fault) = periods_fault_text fault
periods_problem_text periods.BlockCount = codes "BlockCount"
periods_problem_text (periods.NegativeUse r b) = codes "NegativeUse"
    ++ (codes "(" ++ (decimal r ++ (codes ", " ++ (decimal b ++ codes ")"))))
periods_problem_text (periods.UnknownWait c b) = codes "UnknownWait"
    ++ (codes "(" ++ (decimal c ++ (codes ", " ++ (decimal b ++ codes ")"))))
periods_problem_text periods.TooLarge = codes "TooLarge"

abbrev pub schedule_problem_text : ScheduleProblem → List ℕ
schedule_problem_text schedule.InputTooLong = codes "InputTooLong"
schedule_problem_text (schedule.Fault fault) = schedule_fault_text fault

-- the word for the input that has it, and the problem
abbrev pub periods_problem_words : PeriodsProblem → List ℕ
periods_problem_words p = codes "periods " ++ periods_problem_text p

abbrev pub schedule_problem_words : ScheduleProblem → List ℕ
schedule_problem_words p = codes "schedule " ++ schedule_problem_text p

-- the lines, as that of every fault
abbrev pub periods_problem_line : PeriodsProblem → List ℕ
periods_problem_line p = codes "fault: " ++ (periods_problem_words p ++ 10 ∷ [])

abbrev pub schedule_problem_line : ScheduleProblem → List ℕ
schedule_problem_line p = codes "fault: " ++ (schedule_problem_words p ++ 10 ∷ [])
