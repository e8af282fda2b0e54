-- What the steps of a check come to.
use Rattle.fixed_worth.proofs.Common.{◌≡◌, ℕ, List, inl, inr, subst, arith, cases_lt, common_steps}
use Rattle.closure_net.specs.Prelude.{NetView, FlowView, IsFlow}
use Rattle.check_pit.specs.Prelude.{BalanceFits, BalanceOverflows, SumsFit, SomeSumOverflows, ProvesPit, Sizes}
use Rattle.check_pit.specs.Prelude.{NoneBelowZero, PassesCapacities, AllWithin, AllBalanced, BalancedWhileFit}
use Rattle.check_pit.specs.Prelude.{FaultHolds, PitFaultStands, ComesTo, BalanceFault}
use Rattle.check_pit.specs.declared.pit_fault.PitFault.{PitFault}
use Rattle.check_pit.specs.declared.pit_fault.PitFault.TheVariants.{Unbalanced, TooLarge}

-- what passes every test but the last is a flow
pub flow_found : (net : NetView) (flow : FlowView) (pit : List ℕ) → Sizes net flow pit → NoneBelowZero flow
    → AllWithin net flow → AllBalanced net flow → IsFlow net flow
flow_found net flow pit sizes signs within balanced = grind (arith, common_steps)

-- ---- a fault that is found is the first that holds

-- where the sums of a balance fit, none overflows
balance_fits : (net : NetView) (flow : FlowView) (b : ℕ) → BalanceFits net flow b → BalanceOverflows net flow b → ⊥
balance_fits net flow b fits h = grind (arith, common_steps)

-- before a sum of a balance that overflows, all balances stand
balanced_before : (net : NetView) (flow : FlowView) (b : ℕ) → ComesTo net flow b → BalanceOverflows net flow b
    → BalancedWhileFit net flow
balanced_before net flow b comes over = λ k l fit. elim (cases_lt k b) [
  | inl h ↦ (comes.before k h).1
  | inr h ↦ absurd (balance_fits net flow b (fit b h) over)
]

-- a fault of the balances is one of the check
pub balance_fault : (net : NetView) (flow : FlowView) (pit : List ℕ) (e : PitFault) → PassesCapacities net flow pit
    → BalanceFault net flow e → PitFaultStands net flow pit e
balance_fault net flow pit (Unbalanced b) passes h = record
    { holds = (h.0.known, h.2); first = (passes, h.0.before, h.1) }
balance_fault net flow pit TooLarge passes h = record
    { holds = inl (h.0, h.1.known, h.2); first = (passes, balanced_before net flow h.0 h.1 h.2) }
balance_fault net flow pit _ passes h = absurd h

-- ---- no fault holds of what is sound

-- where all sums fit, none overflows
sums_fit : (net : NetView) (flow : FlowView) (pit : List ℕ) → SumsFit net flow pit → SomeSumOverflows net flow pit → ⊥
sums_fit net flow pit fit (inl h) = balance_fits net flow h.0 (fit.balances h.0 h.1) h.2
sums_fit net flow pit fit (inr (inl h)) = h.3 (fit.set h.0 h.1 h.2)
sums_fit net flow pit fit (inr (inr h)) = h.2 (fit.room h.0 h.1)

-- of a proved pit no fault holds but sums that don't fit
pub proved_holds : (net : NetView) (flow : FlowView) (pit : List ℕ) (e : PitFault) → ProvesPit net flow pit
    → FaultHolds net flow pit e → e ≡ TooLarge
proved_holds net flow pit e h f = grind (arith, common_steps)

-- no fault holds of a proved pit whose sums fit
pub no_fault : (net : NetView) (flow : FlowView) (pit : List ℕ) (e : PitFault) → ProvesPit net flow pit
    → SumsFit net flow pit → FaultHolds net flow pit e → ⊥
no_fault net flow pit e proves fit f =
    let P : PitFault → Type 0 = λ g. FaultHolds net flow pit g in
    sums_fit net flow pit fit (subst P (proved_holds net flow pit e proves f) f)
