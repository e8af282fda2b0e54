-- What a block does next by what it read is the same over other numbers, where it isn't told by their amounts.
use Rattle.fixed_worth.proofs.Common.{◌≡◌, ℕ, Option, arith, option_map, common_steps}
use Rattle.closure_net.specs.declared.port.Port.{Port}
use Rattle.machine_law.specs.declared.operations.Best.{Best}
use Rattle.machine_law.specs.Prelude.{best_as, operation_as, after_label}

module _ {N M : Type 0} (f : N → M) where
  pub after_label-as : (count label : ℕ) (have : N) (place : ℕ) (best : Option (Best N)) (capacity : N) (port : Port)
      (beyond : ℕ) → operation_as f (after_label count label have place best capacity port beyond)
      ≡ after_label count label (f have) place (option_map (best_as f) best) (f capacity) port beyond
  after_label-as count label have place best capacity port beyond = grind (arith, common_steps)
