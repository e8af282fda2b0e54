-- A pit that is the best one with some of the pairs is the best one with all, where it is closed under all.
use Rattle.fixed_worth.proofs.Common.{◌≡◌, ◌∙◌, ℕ, ◌<◌, ℤ, Bool, true, false, IsTrue, Contains, List, length, sym}
use Rattle.fixed_worth.proofs.Common.{arith, common_steps}
use Rattle.prec_file.specs.Rests.{has_pair}
use Rattle.prec_file.proofs.Pairs.{rests_of_pair, pair_of_rests}
use Rattle.closure_net.specs.Prelude.{IsBest, IsPit, holds_of}
use Rattle.places.specs.Prelude.{PrecedenceView, IsPrecedence, implied}
use Rattle.places.proofs.ImpliedPairs.{implied_is}
use Rattle.design_value.specs.Prelude.{leads_out, marked_in}
use Rattle.shells.specs.Prelude.{PricesView}
use Rattle.sub_mines.specs.Prelude.{IsPartPairs}
use Rattle.series_pits.specs.Prelude.{IsBestAmong, mine_among}

pub best_by_fewer : (n : ℕ) (few all : ℕ → ℕ → Bool) (worth : ℕ → ℤ) (pit : ℕ → Bool)
    → ((b p : ℕ) → IsTrue (few b p) → IsTrue (all b p))
    → IsPit (record { blocks = n; rests = all; worth = worth }) pit
    → IsBest (record { blocks = n; rests = few; worth = worth }) pit
    → IsBest (record { blocks = n; rests = all; worth = worth }) pit
best_by_fewer n few all worth pit within closed best = record {
  is_pit = closed;
  most = λ other h. best.most other (λ b p t k. h b p (within b p t) k);
  fewest = λ other h. best.fewest other (λ b p t k. h b p (within b p t) k);
}

-- what isn't led out of is in the set too
stays_in : (marks : List Bool) (b p : ℕ) → leads_out (marked_in marks) (b, p) ≡ false → marked_in marks b ≡ true
    → marked_in marks p ≡ true
stays_in marks b p h e = grind (arith, common_steps)

pub placed_best : (v : PrecedenceView) (pairs few : List (ℕ × ℕ)) (prices : PricesView) (kept : List ℕ) (k : ℕ)
    (marks : List Bool) (pit : List ℕ) → IsPrecedence v → IsPartPairs kept pairs (implied v).pairs
    → ((b p : ℕ) → Contains few (b, p) → IsTrue (v.rests b p))
    → ((b p : ℕ) → IsTrue (v.rests b p) → leads_out (marked_in marks) (b, p) ≡ false)
    → ((b : ℕ) → b < v.blocks → marked_in marks b ≡ holds_of pit b)
    → IsBest (mine_among few prices kept k) (holds_of pit) → IsBestAmong pairs prices kept k pit
placed_best v pairs few prices kept k marks pit i part held closed are best =
    let less = (implied v).pairs in
    let all = implied_is v i in
    record {
      less = less;
      part = part;
      best = best_by_fewer (length kept) (has_pair few) (has_pair less) (mine_among few prices kept k).worth
          (holds_of pit)
          (λ b p t. rests_of_pair less b p (all.held b p (held b p (pair_of_rests few b p t))))
          (λ b p t k.
          let r = all.only b p (pair_of_rests less b p t) in
          let known = i.known b p r in
          sym (are p known.1) ∙ stays_in marks b p (closed b p r) (are b known.0 ∙ k))
          best;
    }
