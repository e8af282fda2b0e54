-- Ways of treatment, and blocks that wait a period for others: the general bound.
use Rattle.std.specs.Prelude.{ℕ, ◌+◌, ◌*◌, ◌/◌, ◌%◌, ◌<◌, ℤ, pos, ◌+ℤ◌, ◌-ℤ◌, ◌*ℤ◌, ◌≤ℤ◌, Bool, ◌&&◌, ◌||◌, ◌==◌}
use Rattle.std.specs.Prelude.{nat_lt, IsTrue}
use Rattle.closure_net.specs.Mine.{Mine, IsRichest, worth_of}
use Rattle.schedules.specs.Production.{Production, IsFeasible, npv_of}
use Rattle.schedules.specs.Expanded.{expanded, price_of_capacities, sum_below}

-- A production whose block b may be treated in so many ways, as in a mill or as waste: what it is worth in period t
-- where it goes way d, and what it uses of resource r then. A block that lags behind another is dug in a later period.
-- What `pit bound` proves is of productions in which no block lags: its waits are pairs of blocks and a number of periods.
pub record Treated : Type 0 where
  pub mine : Mine
  pub periods : ℕ
  pub ways : ℕ → ℕ
  pub value : (b d t : ℕ) → ℤ
  pub resources : ℕ
  pub uses : (r b d : ℕ) → ℤ
  pub capacity : (r t : ℕ) → ℤ
  pub lags : ℕ → ℕ → Bool

-- the production in which each block goes the way that is chosen for it
abbrev pub by_ways : Treated → (ℕ → ℕ) → Production
by_ways treated way = record {
  mine = treated.mine;
  periods = treated.periods;
  value = λ b t. treated.value b (way b) t;
  resources = treated.resources;
  uses = λ r b. treated.uses r b (way b);
  capacity = treated.capacity;
}

-- Each block goes one of its ways, each that is dug and lags behind another is dug later, and the schedule is feasible
-- by these ways.
pub record IsTreatedFeasible (treated : Treated) (schedule way : ℕ → ℕ) : Type 0 where
  pub ways : (b : ℕ) → b < treated.mine.blocks → way b < treated.ways b
  pub later : (b a : ℕ) → IsTrue (treated.lags b a) → schedule b < treated.periods → schedule a < schedule b
  pub feasible : IsFeasible (by_ways treated way) schedule

-- whichever way a block goes in a period, it leaves no more above its charge than this
pub record LeavesNoMore (treated : Treated) (price : ℕ → ℕ → ℕ) (left : ℕ → ℕ → ℤ) : Type 0 where
  pub ways : (b d t : ℕ) → b < treated.mine.blocks → d < treated.ways b → t < treated.periods
      → (treated.value b d t -ℤ sum_below (λ r. treated.uses r b d *ℤ pos (price r t)) treated.resources) ≤ℤ left b t

-- the production of which a block leaves this, and uses nothing
abbrev pub leaving : Treated → (ℕ → ℕ → ℤ) → Production
leaving treated left = record {
  mine = treated.mine;
  periods = treated.periods;
  value = left;
  resources = 0;
  uses = λ r b. pos 0;
  capacity = treated.capacity;
}

-- the mine of nodes in which a node rests on that of the period before of each block behind which its own lags
abbrev pub with_lags : ℕ → ℕ → (ℕ → ℕ → Bool) → Mine → Mine
with_lags n periods lags mine = record {
  blocks = mine.blocks;
  rests = λ i j. mine.rests i j || ((nat_lt i (periods * n) && i / n == j / n + 1) && lags (i % n) (j % n));
  worth = mine.worth;
}

abbrev pub treated_mine : Treated → (ℕ → ℕ → ℕ) → (ℕ → ℕ → ℤ) → Mine
treated_mine treated price left = with_lags treated.mine.blocks treated.periods treated.lags
    (expanded (leaving treated left) price)

-- Whatever the prices, whichever way each block goes, and however blocks lag: no feasible schedule is worth more than
-- the richest pit of the nodes and all capacities at their prices.
abbrev pub NoTreatmentIsWorthMore : Type 0
NoTreatmentIsWorthMore = (treated : Treated) (price : ℕ → ℕ → ℕ) (left : ℕ → ℕ → ℤ) (pit : ℕ → Bool)
    (schedule way : ℕ → ℕ)
    → LeavesNoMore treated price left → IsRichest (treated_mine treated price left) pit
    → IsTreatedFeasible treated schedule way
    → npv_of (by_ways treated way) schedule ≤ℤ
    (worth_of (treated_mine treated price left) pit +ℤ price_of_capacities (by_ways treated way) price)
