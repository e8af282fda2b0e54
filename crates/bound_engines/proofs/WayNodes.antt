-- The nodes of figures way by way are those of the production that has them.
use Rattle.fixed_worth.proofs.Common.{◌≡◌, ℕ, zero, suc, ◌+◌, ◌*◌, ◌/◌, ◌%◌, ◌<◌, ℤ, pos, ◌+ℤ◌, ◌-ℤ◌, ◌*ℤ◌, Bool, false}
use Rattle.fixed_worth.proofs.Common.{cond, ◌&&◌, ◌||◌, ◌==◌, nat_lt, List, length, slice_index, sym, ap, ap₂, subst}
use Rattle.fixed_worth.proofs.Common.{◌∙◌, arith, length-map, get_or-map}
use Rattle.std.specs.Int.{int_max}
use Rattle.std.proofs.lemmas.Nat.{mod_below}
use Rattle.ordered_group.specs.Prelude.{Amount, zero_amount, worth_block, worth_told}
use Rattle.prec_file.specs.Rests.{RestsView, has_pair}
use Rattle.closure_net.specs.Prelude.{Mine, IsNetOf, IsRichest, worth_of}
use Rattle.closure_net.proofs.NetSums.{greatest_is_richest, sum_of_set}
use Rattle.periods_file.specs.Periods.{PeriodsView}
use Rattle.schedules.specs.Prelude.{LeavesNoMore, Treated, by_ways, price_of_capacities, sum_below}
use Rattle.schedules.proofs.Sums.{sum-same}
use Rattle.schedules.proofs.Layers.{some_blocks}
use Rattle.production_figures.specs.Figures.{FiguresView, production_of, uses_by}
use Rattle.expanded_mine.specs.Prelude.{AreNodePairs, AreNodeWorths, IsTreatedBound, figures_by, is_early, left_by}
use Rattle.expanded_mine.specs.Prelude.{most_left, most_of, node_rests, node_worth, price_by, rests_by_wait, withheld}
use Rattle.expanded_mine.proofs.Bounds.{most_is_most}
use Rattle.expanded_mine.proofs.Waiting.{the_treated_pit_bounds}
use Rattle.planned_mine.specs.Prelude.{AreWayFigures}
use Rattle.bound_engines.specs.Prelude.{IsToldBy, left_at_most, left_by_way, node_net, priced_by, treated_nodes}
use Rattle.bound_engines.specs.declared.bound_judge.BoundJudgement.TheVariants as told

-- The production of n blocks, of which these tests and functions say who rests on whom, what the mine says that they
-- are
-- worth, and what they are worth and use by so many ways and as waste; over periods of which a text says this.
abbrev pub treated_with : ℕ → (ℕ → ℕ → Bool) → (ℕ → ℤ) → (ways : ℕ) → (worth : ℕ → ℕ → ℤ) → (used : ℕ → ℕ → ℕ → ℤ)
    → PeriodsView → Treated
treated_with n rest whole ways worth used said = record {
  mine = record { blocks = n; rests = rest; worth = whole };
  periods = length said.weights;
  ways = λ b. ways + 1;
  value = λ b way t. worth way b *ℤ pos (slice_index said.weights t);
  resources = length said.shared;
  uses = λ r b way. used r way b;
  capacity = λ r t. pos (slice_index said.capacities (r * length said.weights + t) * 1000000);
  lags = λ b a. false;
}

-- what a bound is of: a richest pit of the nodes of a production, and all capacities at their prices
pub record PitBound (ways : ℕ) (treated : Treated) (price : ℕ → ℕ → ℕ) (lag : ℕ) (waits : List (ℕ × ℕ))
    (bound : ℤ) : Type 0 where
  pub best : ℕ → Bool
  pub richest : IsRichest (treated_nodes ways treated price lag waits) best
  pub exact : bound ≡ worth_of (treated_nodes ways treated price lag waits) best +ℤ price_of_capacities
      (by_ways treated (λ b. 0)) price

-- the greatest of amounts that are the same
most_same : (F G : ℕ → ℤ) (n : ℕ) → ((d : ℕ) → d < n + 1 → F d ≡ G d) → most_of F n ≡ most_of G n
most_same F G zero f = f 0 (omega arith)
most_same F G (suc n) f = ap₂ int_max (most_same F G n (λ d l. f d (omega (arith, l)))) (f (suc n) (omega arith))

-- figures by other names of the same amounts
pub figures_as : (n ways known : ℕ) (worth shown : ℕ → ℕ → ℤ) (used seen : ℕ → ℕ → ℕ → ℤ) (said : PeriodsView)
    (f : FiguresView) (others : List FiguresView) → ways ≡ known
    → ((way b : ℕ) → b < n → worth way b ≡ shown way b)
    → ((r way b : ℕ) → r < length said.shared → b < n → used r way b ≡ seen r way b)
    → AreWayFigures n ways worth used said f others → AreWayFigures n known shown seen said f others
figures_as n ways known worth shown used seen said f others many same alike a = record {
  count = a.count ∙ many;
  each = λ way l.
      let x = a.each way (omega (arith, l, many)) in
      record {
        blocks = x.blocks;
        weights = x.weights;
        resources = x.resources;
        capacities = x.capacities;
        worths = λ b k. x.worths b k ∙ same way b k;
        uses = λ r b low k. x.uses r b low k ∙ alike r way b low k;
      };
}

module _ (rests : RestsView) (rest : ℕ → ℕ → Bool) (whole : ℕ → ℤ) (ways : ℕ) (worth : ℕ → ℕ → ℤ)
    (used : ℕ → ℕ → ℕ → ℤ) (said : PeriodsView) (prices : List ℕ) (lags : RestsView) (f : FiguresView)
    (others : List FiguresView)
    (pairs_are : (b p : ℕ) → rest b p ≡ has_pair rests.pairs b p)
    (a : AreWayFigures rests.blocks ways worth used said f others) where
  abbrev treated : Treated
  treated = treated_with rests.blocks rest whole ways worth used said

  abbrev price : ℕ → ℕ → ℕ
  price = priced_by said prices

  abbrev mine_of_nodes : Mine
  mine_of_nodes = treated_nodes ways treated price said.lag lags.pairs

  size : length f.worths ≡ rests.blocks
  size = (a.each 0 (omega arith)).blocks

  weights_same : length f.weights ≡ length said.weights
  weights_same = ap length (a.each 0 (omega arith)).weights

  -- ---- a block in a period

  left_same : (way b t : ℕ) → way < ways + 1 → b < rests.blocks
      → left_by (figures_by f others way) prices b t ≡ left_by_way treated price way b t
  left_same way b t l k =
      let g = figures_by f others way in
      let x = a.each way l in
      let charge : ℕ → ℕ → ℤ = λ m rs. sum_below (λ r. uses_by g r b *ℤ pos (slice_index prices (r * m + t))) rs in
      ap₂ (λ (v c : ℤ). v -ℤ c)
      (ap₂ (λ (v : ℤ) (ws : List ℕ). v *ℤ pos (slice_index ws t)) (x.worths b k) x.weights)
      (ap₂ charge (ap length x.weights) x.resources
      ∙ sum-same (λ r. uses_by g r b *ℤ pos (price r t)) (λ r. used r way b *ℤ pos (price r t)) (length said.shared)
      (λ r low. ap (λ (z : ℤ). z *ℤ pos (price r t)) (x.uses r b low k)))

  most_left_same : (b t : ℕ) → b < rests.blocks → most_left f others prices b t ≡ left_at_most ways treated price b t
  most_left_same b t k =
      ap (most_of (λ way. left_by (figures_by f others way) prices b t)) a.count
      ∙ most_same (λ way. left_by (figures_by f others way) prices b t) (λ way. left_by_way treated price way b t)
      ways (λ way l. left_same way b t l k)

  block_same : (b t : ℕ) → b < rests.blocks
      → node_worth f others prices b t
      ≡ (left_at_most ways treated price b t -ℤ cond (nat_lt (t + 1) (length said.weights))
      (left_at_most ways treated price b (t + 1)) (pos 0))
  block_same b t l =
      ap₂ (λ (v w : ℤ). v -ℤ cond (nat_lt (t + 1) (length f.weights)) w (pos 0)) (most_left_same b t l)
      (most_left_same b (t + 1) l)
      ∙ ap (λ (m : ℕ). left_at_most ways treated price b t -ℤ cond (nat_lt (t + 1) m)
      (left_at_most ways treated price b (t + 1)) (pos 0)) weights_same

  -- ---- a node

  worth_same : (i : ℕ) → i < length said.weights * rests.blocks
      → node_worth f others prices (i % length f.worths) (i / length f.worths) -ℤ withheld
      (is_early (length f.worths) said.lag lags.pairs i) ≡ mine_of_nodes.worth i
  worth_same i l =
      let low : i % rests.blocks < rests.blocks = mod_below i rests.blocks
      (some_blocks rests.blocks (length said.weights) i l) in
      ap (λ (n : ℕ). node_worth f others prices (i % n) (i / n) -ℤ withheld (is_early n said.lag lags.pairs i)) size
      ∙ ap (λ (z : ℤ). z -ℤ withheld (is_early rests.blocks said.lag lags.pairs i))
      (block_same (i % rests.blocks) (i / rests.blocks) low)

  pair_same : (i j : ℕ) → node_rests rests.blocks (length said.weights) said.lag lags.pairs rests.pairs i j
      ≡ mine_of_nodes.rests i j
  pair_same i j =
      let n = rests.blocks in
      ap (λ (x : Bool). (nat_lt j (length said.weights * n) && ((i / n == j / n && x) || j == i + n)) || rests_by_wait
      n (length said.weights) said.lag lags.pairs i j) (sym (pairs_are (i % n) (j % n)))

  -- the net of the nodes is that of the expanded mine
  pub net_same : (pairs : RestsView) (worths : List ℤ)
      → AreNodePairs rests.blocks (length said.weights) said.lag lags.pairs rests.pairs pairs.pairs
      → AreNodeWorths f others prices said.lag lags.pairs worths
      → IsNetOf worth_block mine_of_nodes (node_net pairs worths)
  net_same pairs worths p w =
      let m = pairs.blocks in
      let many : length worths ≡ length said.weights * rests.blocks = w.size
      ∙ ap₂ (λ (x y : ℕ). x * y) weights_same size in
      record {
        blocks = length-map worths (λ v. worth_block v m) ∙ many;
        worths = λ i l.
            let k : i < length worths = omega (arith, l, many) in
            get_or-map (λ v. worth_block v m) worths i (pos 0) zero_amount k
            ∙ ap (λ v. worth_block v m) (w.at i k ∙ worth_same i l);
        pairs = λ i j.
            let s = p.same i j in
            let e = pair_same i j in
            (λ h. sym e ∙ s.0 h, λ h. s.1 (e ∙ h));
      }

  -- ---- the bound

  capacities_same : (base : List (ℕ × ℕ)) → price_of_capacities (production_of base f) (price_by f prices)
      ≡ price_of_capacities (by_ways treated (λ b. 0)) price
  capacities_same base =
      let x = a.each 0 (omega arith) in
      let all : List ℕ → ℕ → List ℕ
      → ℤ = λ ws rs cs. sum_below
      (λ r. sum_below (λ t. pos (slice_index cs (r * length ws + t) * 1000000) *ℤ pos
      (slice_index prices (r * length ws + t))) (length ws)) rs in
      ap (λ (ws : List ℕ). all ws f.resources f.capacities) x.weights
      ∙ ap₂ (λ (rs : ℕ) (cs : List ℕ). all said.weights rs cs) x.resources x.capacities

  -- what a greatest set of the nodes' net is worth, with all capacities at their prices
  pub pit_bound : (pairs : RestsView) (worths : List ℤ)
      → AreNodePairs rests.blocks (length said.weights) said.lag lags.pairs rests.pairs pairs.pairs
      → AreNodeWorths f others prices said.lag lags.pairs worths
      → (bound : ℤ) → IsToldBy f prices pairs worths (told.Bound bound)
      → PitBound ways treated price said.lag lags.pairs bound
  pit_bound pairs worths p w bound h =
      let mine = mine_of_nodes in
      let j = h.1 in
      let of = net_same pairs worths p w in
      let net = node_net pairs worths in
      let rich : IsRichest mine j.0 = greatest_is_richest mine net j.0 of j.1 in
      let worth_is : h.0 ≡ worth_of mine j.0 = j.2 ∙ ap (λ (m : Amount). m.w) (sum_of_set worth_block mine net of j.0)
      ∙ worth_told mine.worth j.0 mine.blocks in
      record {
        best = j.0;
        richest = rich;
        exact = h.2 rests.pairs ∙ ap₂ (λ (v c : ℤ). v +ℤ c) worth_is (capacities_same rests.pairs);
      }

-- a block leaves no more by any way than at most
leaves : (ways : ℕ) (treated : Treated) (price : ℕ → ℕ → ℕ) → ((b : ℕ) → treated.ways b ≡ ways + 1)
    → LeavesNoMore treated price (left_at_most ways treated price)
leaves ways treated price many = record {
  ways = λ b way t l k m. most_is_most (λ d. left_by_way treated price d b t) ways way
      (subst (λ (n : ℕ). way < n) (many b) k);
}

-- so no feasible schedule is worth more
pub bound_holds : (ways : ℕ) (treated : Treated) (price : ℕ → ℕ → ℕ) (lag : ℕ) (waits : List (ℕ × ℕ)) (bound : ℤ)
    → ((b : ℕ) → treated.ways b ≡ ways + 1) → PitBound ways treated price lag waits bound
    → IsTreatedBound treated lag (has_pair waits) bound
bound_holds ways treated price lag waits bound many b =
    subst (λ (z : ℤ). IsTreatedBound treated lag (has_pair waits) z) (sym b.exact)
    (the_treated_pit_bounds treated price (left_at_most ways treated price) lag waits b.best
    (leaves ways treated price many) b.richest)
