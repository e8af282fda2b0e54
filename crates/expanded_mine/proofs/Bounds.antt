-- From a richest pit of the nodes to the bound, whichever ways blocks go.
use Rattle.fixed_worth.proofs.Common.{◌≡◌, ℕ, zero, suc, ◌+◌, ◌*◌, ◌<◌, ◌≤◌, Bool, List, All, length, ℤ, pos, ◌+ℤ◌}
use Rattle.fixed_worth.proofs.Common.{◌-ℤ◌, ◌*ℤ◌, ◌≤ℤ◌, refl, sym, ap, ap₂, subst, ◌∙◌, arith, ints, inl, inr, cases_lt}
use Rattle.std.specs.Int.{int_max}
use Rattle.std.proofs.lemmas.Int.{clamps}
use Rattle.prec_file.specs.Rests.{has_pair}
use Rattle.closure_net.specs.Prelude.{IsRichest, worth_of}
use Rattle.schedules.specs.Prelude.{LeavesNoMore, by_ways, npv_of, price_of_capacities, sum_below}
use Rattle.production_figures.specs.Figures.{FiguresView, in_row, production_of, uses_by, value_by}
use Rattle.expanded_mine.specs.Prelude.{IsTreatedBound, IsWayOf, figures_by, left_by, most_left, most_of, price_by}
use Rattle.expanded_mine.specs.Prelude.{treated_by, treated_mine_of}
use Rattle.expanded_mine.proofs.Waiting.{no_more, the_treated_pit_bounds}

-- the greatest is none of them below
pub most_is_most : (f : ℕ → ℤ) (n d : ℕ) → d < n + 1 → f d ≤ℤ most_of f n
most_is_most f zero d l = subst (λ (k : ℕ). f k ≤ℤ f 0) (sym (first d l)) (no_more (f 0))
  where
    first : (d : ℕ) → d < 1 → d ≡ 0
    first d l = omega arith
most_is_most f (suc n) d l = elim (cases_lt d (n + 1)) [
  | inl below ↦ let h = most_is_most f n d below in omega (arith, ints, clamps, h)
  | inr past ↦
      let same : d ≡ suc n = omega (arith, l, past) in
      subst (λ (k : ℕ). f k ≤ℤ int_max (most_of f n) (f (suc n))) (sym same) (omega (arith, ints, clamps))
]

module _ (f : FiguresView) (others : List FiguresView) (are : All (IsWayOf f) others) where
  -- each way is one of the same blocks, over the same periods
  way_known : (d : ℕ) → d < length others + 1 → IsWayOf f (figures_by f others d)
  way_known zero l = record { blocks = refl; periods = refl; resources = refl }
  way_known (suc d) l = are d f (omega (arith, l))

  -- by it a block leaves what it does at the prices of the first
  left_is : (prices : List ℕ) (b d t : ℕ) → d < length others + 1
      → left_by (figures_by f others d) prices b t ≡ value_by (figures_by f others d) b t -ℤ sum_below
      (λ r. uses_by (figures_by f others d) r b *ℤ pos (price_by f prices r t)) f.resources
  left_is prices b d t l =
      let g = figures_by f others d in
      let w = way_known d l in
      ap₂ (λ (m k : ℕ). value_by g b t -ℤ sum_below (λ r. uses_by g r b *ℤ pos (in_row prices m r t)) k)
      (ap length w.periods) w.resources

  leaves_no_more : (pairs : List (ℕ × ℕ)) (prices : List ℕ)
      → LeavesNoMore (treated_by pairs f others) (price_by f prices) (most_left f others prices)
  leaves_no_more pairs prices = record {
    ways = λ b d t l k m.
        let most = most_is_most (λ (e : ℕ). left_by (figures_by f others e) prices b t) (length others) d k in
        subst (λ (z : ℤ). z ≤ℤ most_left f others prices b t) (left_is prices b d t k) most;
  }

-- what a richest pit is worth, with all capacities at their prices, is a bound
pub bound_holds : (f : FiguresView) (others : List FiguresView) (prices : List ℕ) (pairs waits : List (ℕ × ℕ))
    (lag : ℕ) (chosen : ℕ → Bool) (worth capacities bound : ℤ) → All (IsWayOf f) others
    → IsRichest (treated_mine_of (treated_by pairs f others) (most_left f others prices) lag waits) chosen
    → worth ≡ worth_of (treated_mine_of (treated_by pairs f others) (most_left f others prices) lag waits) chosen
    → capacities ≡ price_of_capacities (production_of pairs f) (price_by f prices) → bound ≡ worth +ℤ capacities
    → IsTreatedBound (treated_by pairs f others) lag (has_pair waits) bound
unfolding leaves_no_more
bound_holds f others prices pairs waits lag chosen worth capacities bound are rich is all sum = λ way known schedule
    feasible later.
    let treated = treated_by pairs f others in
    let mine = treated_mine_of treated (most_left f others prices) lag waits in
    let most = the_treated_pit_bounds treated (price_by f prices) (most_left f others prices) lag waits chosen
    (leaves_no_more f others are pairs prices) rich way known schedule feasible later in
    let same : bound ≡ worth_of mine chosen +ℤ price_of_capacities (production_of pairs f) (price_by f prices) = sum
    ∙ ap (λ z. z +ℤ capacities) is ∙ ap (λ z. worth_of mine chosen +ℤ z) all in
    subst (λ (z : ℤ). npv_of (by_ways treated way) schedule ≤ℤ z) (sym same) most
