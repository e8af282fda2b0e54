-- Amounts that were read of a block, and the numbers of zero.
use Rattle.fixed_worth.proofs.Common.{◌≡◌, ℕ, pos, List, sym, ap, ◌∙◌, arith, ◌&&◌, int_eq, common_steps}
use Rattle.ordered_group.specs.Prelude.{Amount, is_zero, minus, positive, amount_at}
use Rattle.closure_net.specs.Flows.{Within, WithinAt, residual_at}

-- block i keeps to its worth, where the amounts that were read do
pub within_there : (ws ss ts : List Amount) (i : ℕ) (w s t : Amount) → w ≡ amount_at ws i → s ≡ amount_at ss i
    → t ≡ amount_at ts i → Within w s t → WithinAt ws ss ts i
within_there ws ss ts i w s t ew es et h = grind (arith, common_steps)

-- what the source could still give block i, by what was read and computed
pub residual_here : (ws ss : List Amount) (i : ℕ) (p s r : Amount) → p ≡ positive (amount_at ws i)
    → s ≡ amount_at ss i → r ≡ minus p s → residual_at ws ss i ≡ r
residual_here ws ss i p s r e is_s d = ap (minus (positive (amount_at ws i))) (sym is_s) ∙ ap (λ x. minus x s) (sym e)
    ∙ sym d

-- an amount is zero where both its numbers are
pub zero_numbers : (x : Amount) → is_zero x ≡ (int_eq x.w (pos 0) && int_eq x.c (pos 0))
zero_numbers x = grind (arith, common_steps)
