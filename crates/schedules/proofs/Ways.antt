-- No schedule is worth more than the bound, whichever way its blocks go and however they lag.
use Rattle.fixed_worth.proofs.Common.{◌≡◌, ℕ, ◌+◌, ◌*◌, ◌/◌, ◌%◌, ◌<◌, ℤ, pos, ◌≤ℤ◌, Bool, true, false, cond, ◌&&◌}
use Rattle.fixed_worth.proofs.Common.{◌==◌, nat_lt, refl, arith, ints, inl, inr, and_parts, or_cases, eqb-true}
use Rattle.fixed_worth.proofs.Common.{ltb-true, le-leb}
use Rattle.std.proofs.lemmas.Bool.{leb-true}
use Rattle.std.proofs.lemmas.Nat.{div_below}
use Rattle.ordered_group.specs.Prelude.{worth_in}
use Rattle.closure_net.specs.Mine.{IsPit}
use Rattle.schedules.specs.Prelude.{KeepsPrecedence, IsTreatedFeasible, LeavesNoMore, NoTreatmentIsWorthMore, Treated}
use Rattle.schedules.specs.Prelude.{by_ways, expanded, is_dug, leaving, nodes_of, reduced, treated_mine}
use Rattle.schedules.proofs.Sums.{sum-most, worth_is_sum}
use Rattle.schedules.proofs.Layers.{nodes_are_pit, nodes_worth, some_blocks}
use Rattle.schedules.proofs.Duality.{all_charged, npv_parts}

cond_most : (t : Bool) (x y : ℤ) → (t ≡ true → x ≤ℤ y) → cond t x (pos 0) ≤ℤ cond t y (pos 0)
cond_most true x y h = h refl
cond_most false x y h = omega (arith, ints)

module _ (treated : Treated) (price : ℕ → ℕ → ℕ) (left : ℕ → ℕ → ℤ) (schedule way : ℕ → ℕ)
    (known : (b : ℕ) → b < treated.mine.blocks → way b < treated.ways b) where
  -- what is left by the ways that are chosen is no more than what is counted
  pub left_less : LeavesNoMore treated price left → worth_in (λ b. reduced (by_ways treated way) price b (schedule b))
      (is_dug (by_ways treated way) schedule) treated.mine.blocks
      ≤ℤ worth_in (λ b. reduced (leaving treated left) price b (schedule b)) (is_dug (leaving treated left) schedule)
      treated.mine.blocks
  left_less above =
      let n = treated.mine.blocks in
      let dug : ℕ → Bool = λ b. nat_lt (schedule b) treated.periods in
      let X : ℕ → ℤ = λ b. reduced (by_ways treated way) price b (schedule b) in
      let Y : ℕ → ℤ = λ b. reduced (leaving treated left) price b (schedule b) in
      let each : (b : ℕ) → b < n → cond (dug b) (X b) (pos 0) ≤ℤ cond (dug b) (Y b) (pos 0) = λ b m. cond_most (dug b)
      (X b) (Y b) (λ e.
      let h = above.ways b (way b) (schedule b) m (known b m) (ltb-true (schedule b) treated.periods e) in omega
      (arith, ints, h)) in
      let all = sum-most (λ b. cond (dug b) (X b) (pos 0)) (λ b. cond (dug b) (Y b) (pos 0)) n each in
      omega (arith, ints, all, worth_is_sum X dug n, worth_is_sum Y dug n)

module _ (treated : Treated) (price : ℕ → ℕ → ℕ) (left : ℕ → ℕ → ℤ) (schedule way : ℕ → ℕ)
    (feasible : IsTreatedFeasible treated schedule way) where
  keeps : KeepsPrecedence (leaving treated left) schedule
  keeps = record { earlier = feasible.feasible.precedence.earlier }

  -- the nodes of the schedule are a pit, also of the mine with lags
  lagged_pit : IsPit (treated_mine treated price left) (nodes_of (leaving treated left) schedule)
  lagged_pit i j r t =
      let n = treated.mine.blocks in
      elim (or_cases ((expanded (leaving treated left) price).rests i j)
      ((nat_lt i (treated.periods * n) && i / n == j / n + 1) && treated.lags (i % n) (j % n)) r) [
        | inl x ↦ nodes_are_pit (leaving treated left) price schedule keeps i j x t
        | inr x ↦
            let y = and_parts (nat_lt i (treated.periods * n) && i / n == j / n + 1) (treated.lags (i % n) (j % n)) x in
            let z = and_parts (nat_lt i (treated.periods * n)) (i / n == j / n + 1) y.0 in
            let known = ltb-true i (treated.periods * n) z.0 in
            let next = eqb-true (i / n) (j / n + 1) z.1 in
            let period = div_below i n treated.periods (some_blocks n treated.periods i known) known in
            let dug = leb-true (schedule (i % n)) (i / n) t in
            let before = feasible.later (i % n) (j % n) y.1 (omega (arith, dug, period)) in
            le-leb (schedule (j % n)) (j / n) (omega (arith, before, dug, next))
      ]

pub no_treatment_is_worth_more : NoTreatmentIsWorthMore
no_treatment_is_worth_more treated price left pit schedule way above rich feasible =
    let most = rich.most (nodes_of (leaving treated left) schedule)
    (lagged_pit treated price left schedule way feasible) in
    let told = nodes_worth (leaving treated left) price schedule in
    let parts = npv_parts (by_ways treated way) price schedule in
    let bound = all_charged (by_ways treated way) price schedule feasible.feasible in
    let less = left_less treated price left schedule way feasible.ways above in
    omega (arith, ints, most, told, parts, bound, less)
