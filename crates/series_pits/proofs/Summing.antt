-- Sums of worths that don't fit 128 bits, and what a call that may give none says.
use Rattle.std.specs.Prelude.{IfNone, IfSome}
use Rattle.fixed_worth.proofs.Common.{◌≡◌, ℕ, ℤ, suc, ◌<◌, ◌+ℤ◌, All, List, length, get_or, Option, Some, None}
use Rattle.fixed_worth.proofs.Common.{FitsSigned, w128, inl, inr, sym, subst, arith}
use Rattle.ordered_group.specs.Sets.{worth_in}
use Rattle.closure_net.specs.Network.{IsAscending}
use Rattle.shells.specs.Prelude.{PricesView, priced_count, worth_at}
use Rattle.sub_mines.specs.Prelude.{every_block, number_in}
use Rattle.series_pits.specs.Prelude.{NoPitStands, PartSumLeaves}

pub if_none : {T : Type 0} (o : Option T) {X : Type 0} → X → IfNone o X
if_none None h = h
if_none (Some x) h = tt

pub if_none_with : {T : Type 0} (o : Option T) {X Y : Type 0} → (X → Y) → IfNone o X → IfNone o Y
if_none_with None f h = f h
if_none_with (Some x) f h = tt

pub if_some_with : {T : Type 0} (o : Option T) {P Q : T → Type 0} → ((x : T) → P x → Q x) → IfSome o P → IfSome o Q
if_some_with None f h = tt
if_some_with (Some x) f h = f x h

-- the sum of so many worths fits no more with the next one
pub sum_leaves : (prices : PricesView) (k : ℕ) (blocks : List ℕ) (i : ℕ) (sum worth : ℤ) → i < length blocks
    → sum ≡ worth_in (λ j. worth_at prices k (number_in blocks j)) every_block i
    → worth ≡ worth_at prices k (get_or blocks i 0)
    → ¬ (FitsSigned w128 (sum +ℤ worth)) → PartSumLeaves prices k blocks
sum_leaves prices k blocks i sum worth low is at large = record {
  count = suc i;
  within = omega (arith, low);
  leaves = λ fits. large (subst (λ x. FitsSigned w128 (x +ℤ worth)) (sym is)
      (subst (λ w. FitsSigned w128 (worth_in (λ j. worth_at prices k (number_in blocks j)) every_block i +ℤ w))
      (sym at) fits));
}

-- of ascending blocks with prices nothing else is wrong
pub only_leaves : (prices : PricesView) (k : ℕ) (blocks : List ℕ) → IsAscending blocks
    → All (λ b. b < priced_count prices) blocks → NoPitStands prices k blocks → PartSumLeaves prices k blocks
only_leaves prices k blocks up low (inl h) = absurd (h up)
only_leaves prices k blocks up low (inr (inl h)) = absurd (h low)
only_leaves prices k blocks up low (inr (inr h)) = h
