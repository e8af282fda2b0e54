-- The figures of a production as lists, and what they denote.
use Rattle.std.specs.Prelude.{◌≡◌, ℕ, ◌+◌, ◌*◌, ◌≤◌, ℤ, pos, neg_ℤ, ◌*ℤ◌, ◌≤ℤ◌, List, length, slice_index}
use Rattle.std.specs.Prelude.{slice_index_or}
use Rattle.std.specs.List.{All}
use Rattle.fixed_worth.specs.declared.limits.TheConstants.{MOST_BLOCKS}
use Rattle.prec_file.specs.Rests.{has_pair}
use Rattle.schedules.specs.Prelude.{Production}

-- What each block is worth in billionths, what each period weighs in millionths, and how many resources there are; row
-- by row for each resource what each block uses of it in millionths, and what each period has of it in whole units.
pub record FiguresView : Type 0 where
  pub worths : List ℤ
  pub weights : List ℕ
  pub resources : ℕ
  pub uses : List ℕ
  pub capacities : List ℕ

-- the figures of these lists
abbrev pub figures_view : List ℤ → List ℕ → ℕ → List ℕ → List ℕ → FiguresView
figures_view worths weights resources uses capacities = record
    { worths = worths; weights = weights; resources = resources; uses = uses; capacities = capacities }

-- there are as many of each as there should be
pub record AreComplete (f : FiguresView) : Type 0 where
  pub blocks : length f.worths ≤ MOST_BLOCKS
  pub periods : length f.weights ≤ 1000
  pub few : f.resources ≤ 8
  pub uses : length f.uses ≡ f.resources * length f.worths
  pub capacities : length f.capacities ≡ f.resources * length f.weights

-- a block is worth or costs at most 10^23 billionths, which all files keep
pub record IsWorth (z : ℤ) : Type 0 where
  pub most : z ≤ℤ pos 100000000000000000000000
  pub least : neg_ℤ (pos 100000000000000000000000) ≤ℤ z

-- The figures are complete, and none is so large that a sum over all blocks leaves 128 bits: a period weighs at most 1.
pub record AreFigures (f : FiguresView) : Type 0 where
  pub complete : AreComplete f
  pub worths : All IsWorth f.worths
  pub weights : All (λ w. w ≤ 1000000) f.weights

-- the number at a place of a row
abbrev pub in_row : List ℕ → ℕ → ℕ → ℕ → ℕ
in_row xs width row i = slice_index xs (row * width + i)

-- what block b is worth, and what it is worth in period t
abbrev pub worth_by : FiguresView → ℕ → ℤ
worth_by f b = slice_index_or f.worths b (pos 0)

abbrev pub value_by : FiguresView → ℕ → ℕ → ℤ
value_by f b t = worth_by f b *ℤ pos (slice_index f.weights t)

-- what block b uses of resource r, and what period t has of it, both in millionths
abbrev pub uses_by : FiguresView → ℕ → ℕ → ℤ
uses_by f r b = pos (in_row f.uses (length f.worths) r b)

abbrev pub capacity_by : FiguresView → ℕ → ℕ → ℤ
capacity_by f r t = pos (in_row f.capacities (length f.weights) r t * 1000000)

-- the production of these pairs and figures
abbrev pub production_of : List (ℕ × ℕ) → FiguresView → Production
production_of pairs f = record {
  mine = record { blocks = length f.worths; rests = has_pair pairs; worth = worth_by f };
  periods = length f.weights;
  value = value_by f;
  resources = f.resources;
  uses = uses_by f;
  capacity = capacity_by f;
}
