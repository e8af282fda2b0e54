-- The net of pairs, and of the worths by prices at a factor; and what an accepted pit of it has.
use Rattle.fixed_worth.proofs.Common.{◌≡◌, ℕ, ℤ, pos, ◌<◌, List, length, map, get_or, sym, ap, ◌∙◌, arith, All}
use Rattle.fixed_worth.proofs.Common.{length-map, get_or-map, length-map-range_with_len, get_or-map-range_with_len}
use Rattle.fixed_worth.proofs.Common.{common_steps}
use Rattle.ordered_group.specs.Prelude.{Amount, zero_amount, SumsTellWorth}
use Rattle.ordered_group.proofs.Totals.Ranges.{total-same}
use Rattle.prec_file.specs.Rests.{RestsView}
use Rattle.closure_net.specs.Prelude.{NetView, net_view, IsAscending, holds_of, group_worth, Mine, IsNetOf, IsBest}
use Rattle.shells.specs.Prelude.{PricesView, priced_count, worth_at, worths_at, IsOver}
use Rattle.check_engines.proofs.Counted.{count_in-ascending}
use Rattle.series_pits.specs.ShellTable.{IsRowOf}

pub over_of : (block : ℤ → ℕ → Amount) (rests : RestsView) (prices : PricesView) (k : ℕ) (net : NetView)
    → net ≡ net_view rests.pairs (map (λ v. block v rests.blocks) (worths_at prices k))
    → rests.blocks ≡ length (worths_at prices k) → IsOver block rests.pairs prices k net
over_of block rests prices k net is l =
    let n = priced_count prices in
    let counted : length (worths_at prices k) ≡ n = length-map-range_with_len (worth_at prices k) 0 n in
    let size : length net.worths ≡ n = ap (λ (x : NetView). length x.worths) is
    ∙ length-map (worths_at prices k) (λ v. block v rests.blocks) ∙ counted in
    record {
      blocks = size;
      pairs = ap (λ (x : NetView). x.pairs) is;
      worths = λ b low.
          let inside : b < length (worths_at prices k) = omega (arith, low, size, counted) in
          let here : b < n = omega (arith, low, size) in
          ap (λ (x : NetView). get_or x.worths b zero_amount) is
          ∙ get_or-map (λ v. block v rests.blocks) (worths_at prices k) b (pos 0) zero_amount inside
          ∙ ap (λ v. block v rests.blocks)
          (get_or-map-range_with_len (worth_at prices k) 0 n b b (pos 0) here (omega arith))
          ∙ ap (block (worth_at prices k b)) (l ∙ counted ∙ sym size);
    }

-- the row of a best pit whose net is the mine's
pub row_is : (block : ℤ → ℕ → Amount) (set_worth : Amount → ℕ → ℕ → ℤ) → SumsTellWorth block set_worth
    → (net : NetView) (pit : List ℕ) → All (λ b. b < length net.worths) pit → IsAscending pit
    → (factor blocks : ℕ) (worth shown : ℤ) → blocks ≡ length pit
    → worth ≡ set_worth (group_worth net.worths (holds_of pit)) (length net.worths) blocks → shown ≡ worth
    → (mine : Mine) → IsNetOf block mine net → IsBest mine (holds_of pit)
    → IsRowOf mine (record { factor = factor; blocks = blocks; worth = shown })
row_is block set_worth tells net pit known ascending factor blocks worth shown b w s mine of_mine best = grind
    (arith, common_steps, count_in-ascending, total-same)
