-- What a bound on the worth of every schedule is.
use Rattle.std.specs.Prelude.{ℕ, ◌+◌, ◌<◌, ◌≤◌, ℤ, ◌+ℤ◌, ◌≤ℤ◌, Bool, false, IsTrue, List, length}
use Rattle.prec_file.specs.Rests.{has_pair}
use Rattle.closure_net.specs.Mine.{IsRichest, worth_of}
use Rattle.schedules.specs.Prelude.{Production, IsFeasible, LeavesNoMore, Treated, by_ways, npv_of, price_of_capacities}
use Rattle.production_figures.specs.Figures.{FiguresView, capacity_by, production_of, uses_by, value_by}
use Rattle.expanded_mine.specs.Nodes.{figures_by}
use Rattle.expanded_mine.specs.Waiting.{treated_mine_of, waiting_mine}

-- No feasible schedule of the production is worth more than this that digs each block at least so many periods after
-- those for which it waits.
abbrev pub IsBound : Production → (lag : ℕ) → (waits : ℕ → ℕ → Bool) → ℤ → Type 0
IsBound plan lag waits bound = (schedule : ℕ → ℕ) → IsFeasible plan schedule
    → ((b a : ℕ) → IsTrue (waits b a) → schedule b < plan.periods → lag + schedule a ≤ schedule b)
    → npv_of plan schedule ≤ℤ bound

-- the same of each schedule by whichever ways its blocks go
abbrev pub IsTreatedBound : Treated → (lag : ℕ) → (waits : ℕ → ℕ → Bool) → ℤ → Type 0
IsTreatedBound treated lag waits bound = (way : ℕ → ℕ) → ((b : ℕ) → b < treated.mine.blocks → way b < treated.ways b)
    → IsBound (by_ways treated way) lag waits bound

-- Whatever the prices: what the richest pit of the expanded mine with these waits is worth, and all capacities at their
-- prices, are a bound.
abbrev pub TheWaitingPitBounds : Type 0
TheWaitingPitBounds = (plan : Production) (price : ℕ → ℕ → ℕ) (lag : ℕ) (waits : List (ℕ × ℕ)) (pit : ℕ → Bool)
    → IsRichest (waiting_mine plan price lag waits) pit
    → IsBound plan lag (has_pair waits)
    (worth_of (waiting_mine plan price lag waits) pit +ℤ price_of_capacities plan price)

-- The same where each block may go one of several ways, of which none leaves more than is counted.
abbrev pub TheTreatedPitBounds : Type 0
TheTreatedPitBounds = (treated : Treated) (price : ℕ → ℕ → ℕ) (left : ℕ → ℕ → ℤ) (lag : ℕ) (waits : List (ℕ × ℕ))
    (pit : ℕ → Bool) → LeavesNoMore treated price left → IsRichest (treated_mine_of treated left lag waits) pit
    → IsTreatedBound treated lag (has_pair waits)
    (worth_of (treated_mine_of treated left lag waits) pit +ℤ price_of_capacities (by_ways treated (λ b. 0)) price)

-- The production of these pairs and of the figures of all ways, where each block may go any of them.
abbrev pub treated_by : List (ℕ × ℕ) → FiguresView → List FiguresView → Treated
treated_by pairs f others = record {
  mine = (production_of pairs f).mine;
  periods = length f.weights;
  ways = λ b. length others + 1;
  value = λ b d t. value_by (figures_by f others d) b t;
  resources = f.resources;
  uses = λ r b d. uses_by (figures_by f others d) r b;
  capacity = capacity_by f;
  lags = λ b a. false;
}
