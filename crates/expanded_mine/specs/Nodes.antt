-- The expanded mine as lists.
use Rattle.std.specs.Prelude.{◌≡◌, ℕ, zero, suc, ◌+◌, ℤ, pos, ◌-ℤ◌, ◌*ℤ◌, cond, nat_lt, List, length, slice_index_or}
use Rattle.std.specs.Int.{int_max}
use Rattle.schedules.specs.Prelude.{sum_below}
use Rattle.production_figures.specs.Figures.{FiguresView, in_row, value_by, uses_by}

-- the price of resource r in period t: row by row for each resource, and nothing where none is listed
abbrev pub price_by : FiguresView → List ℕ → ℕ → ℕ → ℕ
price_by f prices r t = in_row prices (length f.weights) r t

-- what block b is charged in period t, and what it leaves above that
abbrev pub charge_by : FiguresView → List ℕ → ℕ → ℕ → ℤ
charge_by f prices b t = sum_below (λ r. uses_by f r b *ℤ pos (price_by f prices r t)) f.resources

abbrev pub left_by : FiguresView → List ℕ → ℕ → ℕ → ℤ
left_by f prices b t = value_by f b t -ℤ charge_by f prices b t

-- ---- ways to treat blocks

-- The figures are those of another way to treat the same blocks, over the same periods.
pub record IsWayOf (f g : FiguresView) : Type 0 where
  pub blocks : length g.worths ≡ length f.worths
  pub periods : g.weights ≡ f.weights
  pub resources : g.resources ≡ f.resources

-- the figures of each way: these are those of the first, and a list has those of the others
abbrev pub figures_by : FiguresView → List FiguresView → ℕ → FiguresView
figures_by f others zero = f
figures_by f others (suc d) = slice_index_or others d f

-- the greatest of f 0 to f n
abbrev pub most_of : (ℕ → ℤ) → ℕ → ℤ
most_of f zero = f 0
most_of f (suc n) = int_max (most_of f n) (f (suc n))

-- what block b leaves in period t at most, whichever way it goes, and nothing from the end of the last period on
abbrev pub most_left : FiguresView → List FiguresView → List ℕ → ℕ → ℕ → ℤ
most_left f others prices b t = most_of (λ d. left_by (figures_by f others d) prices b t) (length others)

abbrev pub left_or_none : FiguresView → List FiguresView → List ℕ → ℕ → ℕ → ℤ
left_or_none f others prices b t = cond (nat_lt t (length f.weights)) (most_left f others prices b t) (pos 0)

-- what the node of block b and period t is worth
abbrev pub node_worth : FiguresView → List FiguresView → List ℕ → ℕ → ℕ → ℤ
node_worth f others prices b t = most_left f others prices b t -ℤ left_or_none f others prices b (t + 1)
