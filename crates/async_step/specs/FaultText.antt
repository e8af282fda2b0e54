-- How refusals and faults are printed.
use Rattle.std.specs.Prelude.{ℕ, ◌++◌, List, codes, decimal}
use Rattle.machine_law.specs.KindText.{kind_text}
use Rattle.async_step.specs.declared.refusals.StepRefusal.{StepRefusal}
use Rattle.async_step.specs.declared.refusals.StepRefusal.TheVariants.{NoSuchBlock, OutOfTurn, TooLarge, TooManySteps}
use Rattle.async_step.specs.declared.refusals.ReplayFault.{ReplayFault}
use Rattle.async_step.specs.declared.refusals.ReplayFault.TheVariants.{Refused, NoMemory}

-- The refusal's name, and the kind of the next step in brackets.
abbrev pub step_refusal_text : StepRefusal → List ℕ
step_refusal_text NoSuchBlock = codes "NoSuchBlock"
step_refusal_text (OutOfTurn kind) = codes "OutOfTurn(" ++ kind_text kind ++ codes ")"
step_refusal_text TooLarge = codes "TooLarge"
step_refusal_text TooManySteps = codes "TooManySteps"

-- The fault's name, and the place and the refusal in brackets.
abbrev pub replay_fault_text : ReplayFault → List ℕ
replay_fault_text (Refused place refusal) = codes "Refused(" ++ decimal place ++ codes ", "
    ++ step_refusal_text refusal ++ codes ")"
replay_fault_text NoMemory = codes "NoMemory"
