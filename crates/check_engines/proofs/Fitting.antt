-- Where there is a net of a mine, its worths fit.
use Rattle.fixed_worth.proofs.Common.{◌≡◌, ℕ, ◌<◌, ℤ, pos, List, length, map, sym, ap, ◌∙◌, subst, arith, inl, inr}
use Rattle.fixed_worth.proofs.Common.{FitsSigned, w128, ints, length-map, get_or-map, common_steps}
use Rattle.ordered_group.specs.Prelude.{Amount, zero_amount, plus, minus, positive, FitsPair, total, amount_at}
use Rattle.ordered_group.specs.declared.groups.Group.{Group}
use Rattle.ordered_group.specs.declared.groups.Group.TheVariants.{Worth}
use Rattle.ordered_group.proofs.Signs.{NonNeg, NonNeg-positive}
use Rattle.ordered_group.proofs.Totals.Ranges.{total_nonneg}
use Rattle.closure_net.specs.Prelude.{NetView, IsNet, IsNetOf, BlockOverflows, WorthsOverflow}
use Rattle.closure_net.specs.declared.net.NetFault.{NetFault}
use Rattle.closure_net.specs.declared.net.NetFault.TheVariants as net_fault
use Rattle.closure_net.proofs.Views.{same_at_default}
use Rattle.mine_inputs.specs.Prelude.{MineTexts, mine_of, AreWorths}
use Rattle.check_engines.specs.Prelude.{ModelFails, block_by}

-- a worth fits whose opposite does, and whose sum with one that isn't negative does where it is positive itself
worth_fits : (x t : Amount) → NonNeg t → FitsPair (minus zero_amount x) → FitsPair (plus t (positive x))
    → FitsSigned w128 x.w
worth_fits x t n o s = grind (arith, common_steps)

-- so does each worth of a net
net_worth_fits : (net : NetView) → IsNet net → (b : ℕ) → b < length net.worths
    → FitsSigned w128 (amount_at net.worths b).w
net_worth_fits net is_net b h =
    let g : ℕ → Amount = λ k. positive (amount_at net.worths k) in
    worth_fits (amount_at net.worths b) (total g b)
    (total_nonneg g b (λ k l. NonNeg-positive (amount_at net.worths k))) (is_net.opposites b h)
    (is_net.positives b h)

-- one block's amount fits where its worth does
block_fits : (group : Group) (v : ℤ) (n : ℕ) → FitsSigned w128 (block_by group v n).w → FitsPair (block_by group v n)
block_fits Worth v n h = (h, omega (arith, ints))
block_fits group v n h = (h, omega (arith, ints))

module _ (texts : MineTexts) (n : ℕ) (group : Group) (net : NetView) (is_net : IsNet net)
    (of_mine : IsNetOf (block_by group) (mine_of n texts) net) where
  -- the amounts of the worths are those of the net
  amounts_same : (vs : List ℤ) → AreWorths texts n vs → map (λ v. block_by group v n) vs ≡ net.worths
  amounts_same vs w =
      let size = length-map vs (λ v. block_by group v n) in
      same_at_default zero_amount (map (λ v. block_by group v n) vs) net.worths (size ∙ w.size ∙ sym of_mine.blocks)
      (λ k l.
      let below : k < length vs = omega (arith, l, size) in
      let here : k < n = omega (arith, below, w.size) in
      get_or-map (λ v. block_by group v n) vs k (pos 0) zero_amount below
      ∙ ap (λ v. block_by group v n) (w.each k here) ∙ sym (of_mine.worths k here))

  no_block_overflows : (vs : List ℤ) → AreWorths texts n vs → BlockOverflows (block_by group) n vs → ⊥
  no_block_overflows vs w h =
      let here : h.0 < n = omega (arith, h.1, w.size) in
      let inside : h.0 < length net.worths = omega (arith, here, of_mine.blocks) in
      let is = of_mine.worths h.0 here ∙ sym (ap (λ v. block_by group v n) (w.each h.0 here)) in
      h.2 (block_fits group _ n (subst (λ (x : Amount). FitsSigned w128 x.w) is (net_worth_fits net is_net h.0 inside)))

  no_worths_overflow : (ws : List Amount) → ws ≡ net.worths → WorthsOverflow ws → ⊥
  no_worths_overflow ws e (inl h) =
      let P : List Amount → Type 0 = λ xs. h.0 < length xs in
      let Q : List Amount → Type 0 = λ xs. FitsPair (minus zero_amount (amount_at xs h.0)) in
      h.2 (subst Q (sym e) (is_net.opposites h.0 (subst P e h.1)))
  no_worths_overflow ws e (inr h) =
      let P : List Amount → Type 0 = λ xs. h.0 < length xs in
      let Q : List Amount → Type 0 = λ xs. FitsPair
      (plus (total (λ b. positive (amount_at xs b)) h.0) (positive (amount_at xs h.0))) in
      h.2 (subst Q (sym e) (is_net.positives h.0 (subst P e h.1)))

  -- no fault of a net stands where there is one
  pub no_model_fails : (fault : NetFault) → ModelFails texts n group fault → ⊥
  no_model_fails net_fault.WrongLength h = h.stands (sym h.are.size)
  no_model_fails net_fault.TooLarge h = elim h.stands.1
      [ inl b ↦ no_block_overflows h.worths h.are b | inr l ↦ no_worths_overflow _ (amounts_same h.worths h.are) l ]
  no_model_fails net_fault.NoMemory h = h
