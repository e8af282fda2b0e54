-- What the amounts of a pit's blocks tell of their number and of their worth.
use Rattle.std.proofs.Common.{◌≡◌, ℕ, ◌<◌, ℤ, List, length, All, sym, ap, ◌∙◌}
use Rattle.ordered_group.specs.Prelude.{Amount, where_so, group_sum, SumsTellWorth}
use Rattle.ordered_group.proofs.Totals.Ranges.{total-same}
use Rattle.closure_net.specs.Prelude.{NetView, IsAscending, holds_of, group_worth, IsNetOf, worth_of, block_count_of}
use Rattle.mine_inputs.specs.Mines.{MineTexts, mine_of}
use Rattle.check_engines.proofs.Counted.{count_in-ascending}

module _ (block : ℤ → ℕ → Amount) (texts : MineTexts) (net : NetView)
    (of_mine : IsNetOf block (mine_of (length net.worths) texts) net) (pit : List ℕ) (ascending : IsAscending pit)
    (below : All (λ b. b < length net.worths) pit) (count : ℕ) (c : count ≡ length pit) where
  -- as many as the pit lists
  pub size_told : block_count_of (mine_of (length net.worths) texts) (holds_of pit) ≡ count
  size_told = count_in-ascending pit (length net.worths) ascending below ∙ sym c

  group_sum_is : group_worth net.worths (holds_of pit) ≡ group_sum block (mine_of (length net.worths) texts).worth
      (holds_of pit) (length net.worths)
  group_sum_is = total-same _ _ (length net.worths) (λ b l. ap (λ x. where_so (holds_of pit b) x) (of_mine.worths b l))

  -- and what the sum of their amounts says
  pub worth_told : (set_worth : Amount → ℕ → ℕ → ℤ) → SumsTellWorth block set_worth → (worth : ℤ)
      → worth ≡ set_worth (group_worth net.worths (holds_of pit)) (length net.worths) count
      → worth_of (mine_of (length net.worths) texts) (holds_of pit) ≡ worth
  worth_told set_worth tells worth w =
      let n = length net.worths in
      let mine = mine_of n texts in
      sym (w ∙ ap (λ a. set_worth a n count) group_sum_is
      ∙ ap (λ (k : ℕ). set_worth (group_sum block mine.worth (holds_of pit) n) n k) (sym size_told)
      ∙ tells mine.worth (holds_of pit) n)
