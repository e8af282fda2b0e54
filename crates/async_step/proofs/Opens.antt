-- The opening state.
use Rattle.fixed_worth.proofs.Common.{◌≡◌, ℕ, zero, suc, ◌≤◌, Bool, not, List, ◌∷◌, length, map, replicate, refl, ap}
use Rattle.fixed_worth.proofs.Common.{subst, arith, All, length-replicate, ints, common_steps}
use Rattle.std.proofs.Math.ListN.{get_or-map}
use Rattle.fixed_worth.specs.declared.limits.TheConstants.{MOST_BLOCKS}
use Rattle.ordered_group.specs.Prelude.{Amount, zero_amount, minus, positive, negative, FitsPair, is_zero, amount_at}
use Rattle.closure_net.specs.Network.{NetView, IsNet}
use Rattle.machine_law.specs.declared.operations.Operation.TheVariants.{Idle}
use Rattle.machine_law.specs.Prelude.{opening, is_positive}
use Rattle.async_step.specs.Prelude.{StateView, state_of, IsMarked, IsState, Fits, IsStateOf}

pub mapped_replicate : {X Y : Type 0} (f : X → Y) (n : ℕ) (z : X) → map f (replicate n z) ≡ replicate n (f z)
mapped_replicate f zero z = refl
mapped_replicate f (suc n) z = ap (λ ys. f z ∷ ys) (mapped_replicate f n z)

zero_fits : FitsPair zero_amount
zero_fits = (omega (arith, ints), omega (arith, ints))

-- elements that fit, also past the last
all_fit : (xs : List Amount) → All FitsPair xs → (b : ℕ) → FitsPair (amount_at xs b)
all_fit xs h b = grind (arith, common_steps)

rooms_fit : (net : NetView) → IsNet net → (b : ℕ) → FitsPair (minus (negative (amount_at net.worths b)) zero_amount)
rooms_fit net h b = grind (arith, common_steps)

-- the lists show the opening state
pub shows_opening : (net : NetView) (v : StateView) (n m : ℕ) → v.excess ≡ map positive net.worths
    → v.label ≡ replicate n 0 → v.source ≡ map positive net.worths → v.sink ≡ replicate n zero_amount
    → v.flow ≡ replicate m zero_amount
    → v.operation ≡ replicate n Idle → v.at_source ≡ zero_amount → v.at_sink ≡ zero_amount → v.steps ≡ 0
    → state_of v ≡ opening net
shows_opening net v n m e l s t f o back gone k = grind (arith, common_steps)

-- and all that is in it fits
pub opening_fits : (net : NetView) → IsNet net → All FitsPair (map positive net.worths) → Fits net (opening net)
opening_fits net h fit =
    let each : (b : ℕ) → FitsPair (positive (amount_at net.worths b)) = λ b. subst FitsPair
    (get_or-map positive net.worths b zero_amount) (all_fit (map positive net.worths) fit b) in
    record {
      excess = each;
      label = λ b. omega arith;
      source = each;
      sink = λ b. zero_fits;
      room = rooms_fit net h;
      flow = λ k. zero_fits;
      at_source = zero_fits;
      at_sink = zero_fits;
    }

pub opens : (net : NetView) (v : StateView) (n m : ℕ) → IsNet net → n ≡ length net.worths → m ≡ length net.pairs
    → All FitsPair v.excess → v.excess ≡ map positive net.worths → v.flow ≡ replicate m zero_amount
    → v.operation ≡ replicate n Idle → state_of v ≡ opening net → IsStateOf net v
opens net v n m h bn bm fit e f o s = grind (arith, common_steps, length-replicate, opening_fits)

pub opening_state : (v : StateView) (n k : ℕ) (ready undone : List Bool) → n ≤ MOST_BLOCKS → k ≡ n
    → length v.excess ≡ n → length v.source ≡ n → v.label ≡ replicate n 0 → v.sink ≡ replicate n zero_amount
    → v.operation ≡ replicate n Idle
    → IsMarked (λ b. is_positive (amount_at v.excess b)) k ready
    → IsMarked (λ b. not (is_zero (amount_at v.excess b))) k undone → IsState v ready undone
opening_state v n k ready undone few kn e s l t o w u = grind (arith, common_steps)
