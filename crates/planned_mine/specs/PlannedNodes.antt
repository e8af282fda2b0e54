-- The figures of what was read of a mine and its periods, way by way, and its nodes.
use Rattle.std.specs.Prelude.{◌≡◌, ℕ, ◌+◌, ◌*◌, ◌<◌, ℤ, pos, List, All, length, Some}
use Rattle.prec_file.specs.Rests.{RestsView}
use Rattle.mine_inputs.specs.declared.worths.Worths.{Worths}
use Rattle.mine_inputs.specs.Prelude.{blocks_valued, ways_valued, worth_valued}
use Rattle.periods_file.specs.Periods.{PeriodsView, periods_view}
use Rattle.production_figures.specs.Figures.{FiguresView, uses_by, worth_by}
use Rattle.expanded_mine.specs.Prelude.{AreNodePairs, AreNodeWorths, IsWayOf, figures_by}
use Rattle.sub_mines.specs.Prelude.{IsPartPairs, number_in}
use Rattle.schedule_engines.specs.Prelude.{amount_by}
use Rattle.planned_mine.specs.declared.bound_inputs.BesideRead.{BesideRead}
use Rattle.planned_mine.specs.declared.planned.Figured.{Figured}

-- The figures are of n blocks over these periods: each is worth this, and uses that.
pub record IsFiguresBy (n : ℕ) (said : PeriodsView) (worth : ℕ → ℤ) (used : (r b : ℕ) → ℤ) (g : FiguresView) : Type 0
  where
    pub blocks : length g.worths ≡ n
    pub weights : g.weights ≡ said.weights
    pub resources : g.resources ≡ length said.shared
    pub capacities : g.capacities ≡ said.capacities
    pub worths : (b : ℕ) → b < n → worth_by g b ≡ worth b
    pub uses : (r b : ℕ) → r < length said.shared → b < n → uses_by g r b ≡ used r b

-- The figures are those of n blocks that may go so many ways or to waste: one for each of these, the first before the
-- others. By a way a block is worth this, and uses that.
pub record AreWayFigures (n ways : ℕ) (worth : (way b : ℕ) → ℤ) (used : (r way b : ℕ) → ℤ) (said : PeriodsView)
    (f : FiguresView) (others : List FiguresView) : Type 0 where
  pub count : length others ≡ ways
  pub each : (way : ℕ) → way < ways + 1 → IsFiguresBy n said (worth way) (λ r b. used r way b) (figures_by f others way)

-- These are the figures of a mine with these pairs, way by way, with the prices of its periods, and the pairs of blocks
-- that wait so many periods.
pub record IsFigured (rests : RestsView) (ways : ℕ) (worth : (way b : ℕ) → ℤ) (used : (r way b : ℕ) → ℤ)
    (said : PeriodsView) (waits : RestsView) (x : Figured) : Type 0 where
  pub figures : AreWayFigures rests.blocks ways worth used said x.figures x.others.items
  pub prices : said.multipliers ≡ Some x.prices.items
  pub same_pairs : x.predecessors ≡ rests
  pub same_waits : x.waits.pairs ≡ waits
  pub same_lag : x.waits.lag ≡ said.lag

-- the figures of all ways are of as many blocks as the pairs, and over the same periods
pub record IsSound (x : Figured) : Type 0 where
  pub waits : x.waits.pairs.blocks ≡ x.predecessors.blocks
  pub size : length x.figures.worths ≡ x.predecessors.blocks
  pub ways : All (IsWayOf x.figures) x.others.items

-- these are the pairs and the worths of the nodes of such a mine
pub record IsExpanded (rests : RestsView) (ways : ℕ) (worth : (way b : ℕ) → ℤ) (used : (r way b : ℕ) → ℤ)
    (said : PeriodsView) (waits : RestsView) (f : FiguresView) (others : List FiguresView) (listed : List ℕ)
    (node_pairs : RestsView) (node_worths : List ℤ) : Type 0 where
  pub figures : AreWayFigures rests.blocks ways worth used said f others
  pub prices : said.multipliers ≡ Some listed
  pub blocks : node_pairs.blocks ≡ length said.weights * rests.blocks
  pub pairs : AreNodePairs rests.blocks (length said.weights) said.lag waits.pairs rests.pairs node_pairs.pairs
  pub worths : AreNodeWorths f others listed said.lag waits.pairs node_worths

-- what a block uses by a way of what was read
abbrev pub used_valued : Worths → BesideRead → (r way b : ℕ) → ℤ
used_valued worths beside r way b = pos
    (amount_by beside.uses.items beside.periods.shared.items (ways_valued worths) (blocks_valued worths) r way b)

-- these are the figures of all of what was read, at this factor
abbrev pub IsWholeFigured : Worths → ℕ → RestsView → BesideRead → Figured → Type 0
IsWholeFigured worths factor rests beside x = IsFigured rests (ways_valued worths) (worth_valued worths factor)
    (used_valued worths beside) (periods_view beside.periods) beside.waits x

-- The figures of some of the blocks of what was read, at this factor: by each way they are worth and use what they do
-- there; with the pairs among them, and those of them that wait; and the same periods.
pub record IsPartFigured (kept : List ℕ) (worths : Worths) (factor : ℕ) (rests : RestsView) (beside : BesideRead)
    (x : Figured) : Type 0 where
  pub figured : IsFigured x.predecessors (ways_valued worths)
      (λ way i. worth_valued worths factor way (number_in kept i))
      (λ r way i. used_valued worths beside r way (number_in kept i)) (periods_view beside.periods) x.waits.pairs x
  pub blocks : x.predecessors.blocks ≡ length kept
  pub pairs : IsPartPairs kept rests.pairs x.predecessors.pairs
  pub wait_blocks : x.waits.pairs.blocks ≡ length kept
  pub wait_pairs : IsPartPairs kept beside.waits.pairs x.waits.pairs.pairs
