-- From the net of a mine to the mine: closed sets are pits, and sums are worths.
use Rattle.fixed_worth.proofs.Common.{◌≡◌, ℕ, ◌<◌, ◌≤◌, ℤ, ◌<ℤ◌, Bool, ◌⊎◌, inl, inr, get_or, sym, arith, ints}
use Rattle.fixed_worth.proofs.Common.{cases_lt, All-contains, Contains-get_or, common_steps}
use Rattle.ordered_group.specs.Prelude.{Amount, AtMost, group_sum, IsBefore, worth_block, SumsOrderSets, worth_told}
use Rattle.ordered_group.proofs.Order.{Below-not}
use Rattle.ordered_group.proofs.Totals.{total-same}
use Rattle.closure_net.specs.Prelude.{NetView, Stays, IsClosed, group_worth, IsGreatest, Mine, IsPit, block_count_of}
use Rattle.closure_net.specs.Prelude.{IsRichest, IsBest, IsNetOf}
use Rattle.closure_net.proofs.BestPits.{best_from_fewest}

module _ (block : ℤ → ℕ → Amount) (mine : Mine) (net : NetView) (h : IsNetOf block mine net) where
  pub pit_from_closed : (e : ℕ → Bool) → IsClosed net.pairs e → IsPit mine e
  pit_from_closed e closed b p r t = All-contains (Stays e) net.pairs (b, p) closed ((h.pairs b p).1 r) t

  pub closed_from_pit : (e : ℕ → Bool) → IsPit mine e → IsClosed net.pairs e
  closed_from_pit e pit k d l t =
      let q = get_or net.pairs k d in
      pit q.0 q.1 ((h.pairs q.0 q.1).0 (Contains-get_or net.pairs k d l)) t

  -- a set's sum is that of its blocks' amounts
  pub sum_of_set : (e : ℕ → Bool) → group_worth net.worths e ≡ group_sum block mine.worth e mine.blocks
  sum_of_set e = grind (arith, common_steps, total-same)

  -- no pit sums to more than a greatest set
  pub greatest_sum : (e c : ℕ → Bool) → IsGreatest net e → IsPit mine c
      → AtMost (group_sum block mine.worth c mine.blocks) (group_sum block mine.worth e mine.blocks)
  greatest_sum e c g p = grind (arith, common_steps, (sum_of_set e), (sum_of_set c), (closed_from_pit c p))

pub greatest_is_richest : (mine : Mine) (net : NetView) (e : ℕ → Bool) → IsNetOf worth_block mine net
    → IsGreatest net e → IsRichest mine e
greatest_is_richest mine net e h g = record {
  is_pit = pit_from_closed worth_block mine net h e g.closed;
  most = λ c p. omega (
    arith,
    ints,
    (greatest_sum worth_block mine net h e c g p).worths,
    (worth_told mine.worth c mine.blocks),
    (worth_told mine.worth e mine.blocks),
  );
}

count_kept : (v w : ℤ) (k l : ℕ) → ¬ ((w <ℤ v) ⊎ ((w ≡ v) × (k < l))) → v ≡ w → l ≤ k
count_kept v w k l h e = elim (cases_lt k l) [ inl t ↦ absurd (h (inr (sym e, t))) | inr t ↦ t ]

-- where sums order sets by worth and then by the fewer blocks
pub greatest_is_best : (block : ℤ → ℕ → Amount)
    → SumsOrderSets block
    → (mine : Mine) (net : NetView) (e : ℕ → Bool) → IsNetOf block mine net → IsGreatest net e → IsBest mine e
greatest_is_best block orders mine net e h g =
    let after : (c : ℕ → Bool) → IsPit mine c → ¬ (IsBefore mine.worth mine.blocks e c) =
    λ c p i. Below-not _ _ ((orders mine.worth e c mine.blocks).1 i) (greatest_sum block mine net h e c g p) in
    best_from_fewest mine e (pit_from_closed block mine net h e g.closed)
    (λ c p. let i : _ <ℤ _ → ⊥ = λ t. (after c p) (inl t) in grind (arith, ints, i))
    (λ c p s. count_kept _ _ (block_count_of mine c) (block_count_of mine e) (after c p) s)
