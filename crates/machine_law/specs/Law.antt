-- The law on one step, and what it gives for runs.
use Rattle.std.specs.Prelude.{List}
use Rattle.closure_net.specs.Network.{NetView}
use Rattle.machine_law.specs.declared.events.Event.{Event}
use Rattle.machine_law.specs.States.{State, opening}
use Rattle.machine_law.specs.Steps.{Step, Run}
use Rattle.machine_law.specs.Amounts.{HasAmounts}
use Rattle.machine_law.specs.Balances.{IsBalanced}
use Rattle.machine_law.specs.Labels.{HasLabels}

-- what holds of amounts, balances and labels
pub record IsLawful (net : NetView) (s : State) : Type 0 where
  pub amounts : HasAmounts net s
  pub balances : IsBalanced net s
  pub labels : HasLabels net s

-- a step of any block keeps all that is lawful, over amounts of any size
abbrev pub StepsKeepLaw : Type 0
StepsKeepLaw = (net : NetView) (s : State) (e : Event) (t : State) → IsLawful net s → Step net s e t → IsLawful net t

-- every run from the opening leads to a lawful state
abbrev pub RunsKeepLaw : Type 0
RunsKeepLaw = (net : NetView) (es : List Event) (t : State) → Run net (opening net) es t → IsLawful net t
