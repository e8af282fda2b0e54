-- The pairs and the worths of all nodes, as lists.
use Rattle.std.specs.Prelude.{◌≡◌, ◌↔◌, ℕ, ◌*◌, ◌/◌, ◌%◌, ◌<◌, ℤ, pos, ◌-ℤ◌, IsTrue, List, length, slice_index_or}
use Rattle.std.specs.Prelude.{Contains}
use Rattle.production_figures.specs.Figures.{FiguresView}
use Rattle.expanded_mine.specs.Nodes.{node_worth}
use Rattle.expanded_mine.specs.Waiting.{is_early, node_rests, withheld}

-- the worths of all nodes, period by period, where blocks may go other ways too
pub record AreNodeWorths (f : FiguresView) (others : List FiguresView) (prices : List ℕ) (lag : ℕ)
    (waits : List (ℕ × ℕ)) (nanos : List ℤ) : Type 0 where
  pub size : length nanos ≡ length f.weights * length f.worths
  pub at : (i : ℕ) → i < length nanos
      → slice_index_or nanos i (pos 0) ≡ node_worth f others prices (i % length f.worths) (i / length f.worths) -ℤ
      withheld (is_early (length f.worths) lag waits i)

-- the pairs of the nodes of n blocks over so many periods
pub record AreNodePairs (n periods lag : ℕ) (waits pairs nodes : List (ℕ × ℕ)) : Type 0 where
  pub same : (i j : ℕ) → Contains nodes (i, j) ↔ IsTrue (node_rests n periods lag waits pairs i j)
