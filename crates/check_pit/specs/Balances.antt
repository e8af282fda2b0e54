-- What is found of the balances alone.
use Rattle.std.specs.Prelude.{ℕ, ◌<◌, length}
use Rattle.closure_net.specs.Prelude.{NetView, FlowView, IsBalancedAt}
use Rattle.check_pit.specs.Fits.{BalanceFits, BalanceOverflows}
use Rattle.check_pit.specs.Checks.{BalanceStands}
use Rattle.check_pit.specs.declared.pit_fault.PitFault.{PitFault}
use Rattle.check_pit.specs.declared.pit_fault.PitFault.TheVariants.{Unbalanced, TooLarge}

-- the check comes to b: it is a block of the net, and the balances of the blocks before it stand
pub record ComesTo (net : NetView) (flow : FlowView) (b : ℕ) : Type 0 where
  pub known : b < length net.worths
  pub before : (k : ℕ) → k < b → BalanceStands net flow k

-- the first balance that doesn't stand: it doesn't hold, or one of its sums doesn't fit
abbrev pub BalanceFault : NetView → FlowView → PitFault → Type 0
BalanceFault net flow (Unbalanced b) = ComesTo net flow b × BalanceFits net flow b × ¬ (IsBalancedAt net flow b)
BalanceFault net flow TooLarge = (b : ℕ) × ComesTo net flow b × BalanceOverflows net flow b
BalanceFault net flow _ = ⊥
