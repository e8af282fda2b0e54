-- The nodes of blocks in periods: node t * n + b says that block b of n is dug by the end of period t.
use Rattle.std.specs.Prelude.{◌≡◌, ℕ, ◌+◌, ◌-◌, ◌*◌, ◌/◌, ◌%◌, ◌<◌, ◌≤◌, Bool, cond, ◌&&◌, ◌||◌, ◌==◌, nat_lt, Option}
use Rattle.std.specs.Prelude.{Some, None}
use Rattle.fixed_worth.specs.declared.limits.TheConstants.{MOST_BLOCKS}
use Rattle.prec_file.specs.declared.limits.TheConstants.{MOST_PAIRS}
use Rattle.places.specs.Ways.{PrecedenceView, IsPrecedence}

-- Who precedes whom among the blocks, how many periods there are, and which blocks wait for which, so many periods.
pub record TimedView : Type 0 where
  pub base : PrecedenceView
  pub periods : ℕ
  pub waits : PrecedenceView
  pub lag : ℕ

-- how many nodes there are
abbrev pub node_count : TimedView → ℕ
node_count v = v.periods * v.base.blocks

-- Node i rests on the nodes, in the same period, of the blocks on which its block rests, and on that of its own block
-- in
-- the next period.
abbrev pub rests_in_period : TimedView → ℕ → ℕ → Bool
rests_in_period v i j = nat_lt j (node_count v) &&
    ((i / v.base.blocks == j / v.base.blocks && v.base.rests (i % v.base.blocks) (j % v.base.blocks)) || j == i
    + v.base.blocks)

-- It also rests on those of the blocks for which its block waits, so many periods before its own.
abbrev pub rests_by_lag : TimedView → ℕ → ℕ → Bool
rests_by_lag v i j = nat_lt i (node_count v) &&
    (i / v.base.blocks == v.lag + j / v.base.blocks && v.waits.rests (i % v.base.blocks) (j % v.base.blocks))

-- who rests on whom
abbrev pub rests_in_time : TimedView → ℕ → ℕ → Bool
rests_in_time v i j = rests_in_period v i j || rests_by_lag v i j

-- the node of a block, if there is one, where the first block's node of its period is this
abbrev pub node_from : ℕ → Option ℕ → Option ℕ
node_from first None = None
node_from first (Some p) = Some (first + p)

-- The ways of a node are those of its block, then one to the next period, then those of its block's waits.
abbrev pub own_ways : TimedView → ℕ → ℕ
own_ways v i = v.base.ways (i % v.base.blocks)

abbrev pub node_ways : TimedView → ℕ → ℕ
node_ways v i = own_ways v i + 1 + v.waits.ways (i % v.base.blocks)

abbrev pub next_node : TimedView → ℕ → Option ℕ
next_node v i = cond (nat_lt (i + v.base.blocks) (node_count v)) (Some (i + v.base.blocks)) None

-- there is nothing to wait for in the first periods
abbrev pub lagged_node : TimedView → ℕ → ℕ → Option ℕ
lagged_node v i k = cond (nat_lt (i / v.base.blocks) v.lag) None
    (node_from ((i / v.base.blocks - v.lag) * v.base.blocks) (v.waits.way (i % v.base.blocks) k))

abbrev pub node_way : TimedView → ℕ → ℕ → Option ℕ
node_way v i k = cond (nat_lt k (own_ways v i))
    (node_from (i / v.base.blocks * v.base.blocks) (v.base.way (i % v.base.blocks) k))
    (cond (k == own_ways v i) (next_node v i) (lagged_node v i (k - (own_ways v i + 1))))

-- the precedence of the nodes
abbrev pub in_time : TimedView → PrecedenceView
in_time v = record { blocks = node_count v; rests = rests_in_time v; ways = node_ways v; way = node_way v }

-- The waits are of the same blocks; there are few nodes, and no block has many ways.
pub record AreNodes (v : TimedView) : Type 0 where
  pub base : IsPrecedence v.base
  pub waits : IsPrecedence v.waits
  pub same : v.waits.blocks ≡ v.base.blocks
  pub few : node_count v ≤ MOST_BLOCKS
  pub own : (b : ℕ) → b < v.base.blocks → v.base.ways b ≤ MOST_PAIRS
  pub waiting : (b : ℕ) → b < v.base.blocks → v.waits.ways b ≤ MOST_PAIRS
