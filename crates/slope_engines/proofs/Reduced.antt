-- The reduced pairs of a pattern decide the same pits as every pair.
use Rattle.fixed_worth.proofs.Common.{◌≡◌, ◌↔◌, ℕ, ℤ, Bool, List, Contains, None, subst}
use Rattle.slope.proofs.Reduction.{closed_by_either}
use Rattle.slope_offsets.specs.Prelude.{Offset, IsPattern}
use Rattle.slope.specs.Prelude.{IsClosedBy}
use Rattle.slope_offsets.specs.declared.selection.Selection.TheVariants.{Every, Reduced}
use Rattle.slope_offsets.specs.declared.up.Up.{Up}
use Rattle.blocks_file.specs.Denotes.{BlocksView}
use Rattle.prec_file.specs.Prelude.{RestsView, ArePairsOf, pairs_of_text, fault_of, ReadsBack, prec_text}
use Rattle.prec_file.proofs.WrittenRecords.{reads_back}
use Rattle.mine_inputs.specs.Mines.{MineTexts, mine_texts, priced_texts, sloped_texts, valued_texts, mine_of, rests_by}
use Rattle.closure_net.specs.Mine.{Mine, IsPit, IsBest}
use Rattle.slope_engines.specs.Reduced.{mine_of_pairs, ReducedPairsDecide, AreWritten, ReducedTextsDecide}
use Rattle.slope_engines.specs.Reduced.{with_precedence}
use Rattle.mine_inputs.proofs.Listed.{listed_rests}
use Rattle.prec_file.proofs.Pairs.{rests_of_pair, pair_of_rests}

-- a pit by listed pairs is closed by them
closed_of_pit : (n : ℕ) (pairs : List (ℕ × ℕ)) (worth : ℕ → ℤ) (d : ℕ → Bool) → IsPit (mine_of_pairs n pairs worth) d
    → IsClosedBy (Contains pairs) d
closed_of_pit n pairs worth d h q c held = h q.0 q.1 (rests_of_pair pairs q.0 q.1 c) held

pit_of_closed : (n : ℕ) (pairs : List (ℕ × ℕ)) (worth : ℕ → ℤ) (d : ℕ → Bool) → IsClosedBy (Contains pairs) d
    → IsPit (mine_of_pairs n pairs worth) d
pit_of_closed n pairs worth d h b p r held = h (b, p) (pair_of_rests pairs b p r) held

-- where the pits of one mine are those of another, so is its best pit
best_moves : (n : ℕ) (from to : List (ℕ × ℕ)) (worth : ℕ → ℤ) (e : ℕ → Bool)
    → ((d : ℕ → Bool) → IsPit (mine_of_pairs n from worth) d → IsPit (mine_of_pairs n to worth) d)
    → ((d : ℕ → Bool) → IsPit (mine_of_pairs n to worth) d → IsPit (mine_of_pairs n from worth) d)
    → IsBest (mine_of_pairs n from worth) e → IsBest (mine_of_pairs n to worth) e
best_moves n from to worth e there back h = record {
  is_pit = there e h.is_pit;
  most = λ d p. h.most d (back d p);
  fewest = λ d p. h.fewest d (back d p);
}

pub reduced_decide : ReducedPairsDecide
reduced_decide m offsets up every reduced n worth e pattern all less =
    let both = closed_by_either m (λ b. offsets) up reduced (λ b. pattern.upward) less in
    let there : (d : ℕ → Bool) → IsPit (mine_of_pairs n reduced.pairs worth) d
    → IsPit (mine_of_pairs n every.pairs worth) d
    = λ d h. pit_of_closed n every.pairs worth d
    (λ q c. (both d).0 (closed_of_pit n reduced.pairs worth d h) q (all.only q c)) in
    let back : (d : ℕ → Bool) → IsPit (mine_of_pairs n every.pairs worth) d
    → IsPit (mine_of_pairs n reduced.pairs worth) d
    = λ d h. pit_of_closed n reduced.pairs worth d
    ((both d).1 (λ q s. closed_of_pit n every.pairs worth d h q (all.held q s))) in (
      best_moves n reduced.pairs every.pairs worth e there back,
      best_moves n every.pairs reduced.pairs worth e back
          there,
    )

-- ---- the same of the files

-- the mine of n blocks, of which one rests on another where that is listed
listed_mine : List (ℕ × ℕ) → (ℕ → ℤ) → ℕ → Mine
listed_mine listed worth n = record { blocks = n; rests = rests_by listed; worth = worth }

closed_of_listed : (listed ps : List (ℕ × ℕ)) (worth : ℕ → ℤ) (n : ℕ) (d : ℕ → Bool) → ArePairsOf listed ps
    → IsPit (listed_mine listed worth n) d → IsClosedBy (Contains ps) d
unfolding listed_mine
closed_of_listed listed ps worth n d a h q c held = h q.0 q.1 ((listed_rests listed ps a q.0 q.1).0 c) held

listed_of_closed : (listed ps : List (ℕ × ℕ)) (worth : ℕ → ℤ) (n : ℕ) (d : ℕ → Bool) → ArePairsOf listed ps
    → IsClosedBy (Contains ps) d → IsPit (listed_mine listed worth n) d
unfolding listed_mine
listed_of_closed listed ps worth n d a h b p r held = h (b, p) ((listed_rests listed ps a b p).1 r) held

-- where each pit of one of two listed mines is one of the other's, so is the best pit
listed_moves : (from to : List (ℕ × ℕ)) (worth : ℕ → ℤ) (n : ℕ) (e : ℕ → Bool)
    → ((d : ℕ → Bool) → IsPit (listed_mine from worth n) d → IsPit (listed_mine to worth n) d)
    → ((d : ℕ → Bool) → IsPit (listed_mine to worth n) d → IsPit (listed_mine from worth n) d)
    → IsBest (listed_mine from worth n) e → IsBest (listed_mine to worth n) e
unfolding listed_mine
listed_moves from to worth n e there back h = record {
  is_pit = there e h.is_pit;
  most = λ d p. h.most d (back d p);
  fewest = λ d p. h.fewest d (back d p);
}

module _ (m : BlocksView) (offsets : List Offset) (up : Up) (every reduced : RestsView) (pattern : IsPattern offsets)
    (all : AreWritten m offsets up Every every) (less : AreWritten m offsets up Reduced reduced) where
  all_read : ReadsBack every (prec_text every)
  all_read = reads_back every all.is_rests all.few all.narrow

  less_read : ReadsBack reduced (prec_text reduced)
  less_read = reads_back reduced less.is_rests less.few less.narrow

  listed_decide : (worth : ℕ → ℤ) (n : ℕ) (e : ℕ → Bool)
      → IsBest (listed_mine (pairs_of_text (prec_text reduced)) worth n) e ↔ IsBest
      (listed_mine (pairs_of_text (prec_text every)) worth n) e
  listed_decide worth n e =
      let few = pairs_of_text (prec_text reduced) in
      let many = pairs_of_text (prec_text every) in
      let both = closed_by_either m (λ b. offsets) up reduced (λ b. pattern.upward) less.slopes in
      let there : (d : ℕ → Bool) → IsPit (listed_mine few worth n) d → IsPit (listed_mine many worth n) d
      = λ d h. listed_of_closed many every.pairs worth n d all_read.same
      (λ q c. (both d).0 (closed_of_listed few reduced.pairs worth n d less_read.same h) q (all.slopes.only q c)) in
      let back : (d : ℕ → Bool) → IsPit (listed_mine many worth n) d → IsPit (listed_mine few worth n) d
      = λ d h. listed_of_closed few reduced.pairs worth n d less_read.same
      ((both d).1 (λ q s. closed_of_listed many every.pairs worth n d all_read.same h q (all.slopes.held q s))) in
      (listed_moves few many worth n e there back, listed_moves many few worth n e back there)

  texts_decide : (texts : MineTexts) (n : ℕ) (e : ℕ → Bool)
      → IsBest (mine_of n (with_precedence texts (prec_text reduced))) e ↔ IsBest
      (mine_of n (with_precedence texts (prec_text every))) e
  unfolding listed_mine
  texts_decide (mine_texts values precedence) n e = listed_decide _ n e
  texts_decide (priced_texts settings blocks precedence factor) n e = listed_decide _ n e
  texts_decide (sloped_texts settings blocks factor) n e = listed_decide _ n e
  texts_decide (valued_texts settings blocks values) n e = listed_decide _ n e

pub reduced_texts : ReducedTextsDecide
reduced_texts m offsets up every reduced texts n e pattern all less = (
  subst (λ k. fault_of k (prec_text every) ≡ None) all.slopes.blocks
      (all_read m offsets up every reduced pattern all less).sound,
  subst (λ k. fault_of k (prec_text reduced) ≡ None) less.slopes.blocks
      (less_read m offsets up every reduced pattern all less).sound,
  texts_decide m offsets up every reduced pattern all less texts n e,
)
