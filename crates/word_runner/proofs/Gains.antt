-- Positive worths in units, and their sum.
use Rattle.fixed_worth.proofs.Common.{inl, inr, ◌⊎◌, ◌≡◌, ℕ, pos, ◌<ℤ◌, ◌≤ℤ◌, ◌+◌, ◌<◌, ◌≤◌, ◌^◌, List, length, get_or}
use Rattle.fixed_worth.proofs.Common.{ap, ap₂, sym, ◌∙◌, arith, ints}
use Rattle.ordered_group.specs.declared.scaled.Scaled.{Scaled}
use Rattle.ordered_group.specs.Prelude.{Amount, AtMost, plus, positive, amount_at, total}
use Rattle.ordered_group.proofs.Order.{AtMost-trans}
use Rattle.ordered_group.proofs.Signs.{NonNeg-positive}
use Rattle.ordered_group.proofs.Totals.{total_next, total_term, total_first}
use Rattle.closure_net.specs.Network.{NetView}
use Rattle.machine_law.specs.Conservation.{all_given}
use Rattle.machine_law.proofs.Numbers.{same}
use Rattle.word_steps.specs.Prelude.{units, count}
use Rattle.word_runner.specs.Prelude.{scaled_parts, AreGains}

-- one worth is 2^63 units or more
pub too_much_at : (net : NetView) (b : ℕ) → b < count net → (x : Scaled)
    → scaled_parts x ≡ positive (amount_at net.worths b) → (x.units <ℤ pos 0) ⊎ (pos 9223372036854775808 ≤ℤ x.units)
    → AtMost (units 9223372036854775808) (all_given net)
unfolding all_given
too_much_at net b l x e (inl h) = let n = NonNeg-positive (amount_at net.worths b) in let s = same e in let w =
    n.worths in absurd (omega (arith, ints, w, s, h))
too_much_at net b l x e (inr h) = let s = same e in AtMost-trans _ _ _
    (record { worths = omega (arith, ints, s, h); counts = λ i. omega (arith, ints, s) })
    (total_term (λ k. positive (amount_at net.worths k)) b (count net) l
    (λ k m. NonNeg-positive (amount_at net.worths k)))

-- the sum up to one of them is
pub too_much : (net : NetView) (b : ℕ) → b < count net → (sum k : ℕ)
    → total (λ j. positive (amount_at net.worths j)) b ≡ units sum → positive (amount_at net.worths b) ≡ units k
    → 2 ^ 63 ≤ sum + k → AtMost (units 9223372036854775808) (all_given net)
unfolding all_given
too_much net b l sum k e f h =
    let g : ℕ → Amount = λ j. positive (amount_at net.worths j) in
    let is = same (total_next g b ∙ ap₂ plus e f) in
    AtMost-trans _ (total g (b + 1)) _
    (record { worths = omega (arith, ints, is, h); counts = λ i. omega (arith, ints, is) })
    (total_first g (b + 1) (count net) (omega (arith, l)) (λ j m. NonNeg-positive (amount_at net.worths j)))

pub all_gains : (net : NetView) (gain : List ℕ) (sum b : ℕ) → b ≡ count net → length gain ≡ b
    → ((k : ℕ) → k < b → positive (amount_at net.worths k) ≡ units (get_or gain k 0))
    → total (λ j. positive (amount_at net.worths j)) b ≡ units sum → sum < 2 ^ 63 → AreGains net gain sum
unfolding all_given
all_gains net gain sum b is size each all small = record {
  size = size ∙ is;
  each = λ k l. each k (omega (arith, l, is));
  all = ap
      (λ (n : ℕ). total (λ j. positive (amount_at net.worths j)) n) (sym is) ∙ all;
  small = small;
}
