-- The expanded mine where blocks wait so many periods for others.
use Rattle.std.specs.Prelude.{ℕ, ◌+◌, ◌*◌, ◌/◌, ◌%◌, ℤ, pos, ◌-ℤ◌, Bool, cond, ◌&&◌, ◌||◌, ◌==◌, nat_lt, List}
use Rattle.std.specs.List.{list_any}
use Rattle.prec_file.specs.Rests.{has_pair}
use Rattle.closure_net.specs.Mine.{Mine}
use Rattle.schedules.specs.Prelude.{Production, Treated, expanded, rests_by_period}

-- Node i rests on node j where its block waits for the other's, and its period is so many after the other's.
abbrev pub rests_by_wait : (n periods lag : ℕ) → List (ℕ × ℕ) → ℕ → ℕ → Bool
rests_by_wait n periods lag waits i j = nat_lt i (periods * n) &&
    (i / n == lag + j / n && has_pair waits (i % n) (j % n))

-- who rests on whom: as in the expanded mine, and by these waits
abbrev pub node_rests : (n periods lag : ℕ) → (waits pairs : List (ℕ × ℕ)) → ℕ → ℕ → Bool
node_rests n periods lag waits pairs i j = rests_by_period n periods (has_pair pairs) i j || rests_by_wait n periods
    lag waits i j

-- Whether the block of node i waits for another, so that it isn't dug by the end of a period as early as the node's.
abbrev pub is_early : (n lag : ℕ) → List (ℕ × ℕ) → ℕ → Bool
is_early n lag waits i = nat_lt (i / n) lag && list_any (λ q. q.0 == i % n) waits

-- What such a node is worth less: 10^15 units. A pit gains by it only where what rests on it brings more; the bound
-- holds all the same.
abbrev pub withheld : Bool → ℤ
withheld early = cond early (pos 1000000000000000000000000000000) (pos 0)

-- a mine of nodes, with these waits
abbrev pub with_waits : (n periods lag : ℕ) → List (ℕ × ℕ) → Mine → Mine
with_waits n periods lag waits mine = record {
  blocks = mine.blocks;
  rests = λ i j. mine.rests i j || rests_by_wait n periods lag waits i j;
  worth = λ i. mine.worth i -ℤ withheld (is_early n lag waits i);
}

-- The mine of nodes of n blocks over so many periods, in which a block leaves this: a node is worth what its block
-- leaves in its period, less what it leaves in the next one.
abbrev pub leaving_mine : (n periods : ℕ) → (ℕ → ℕ → Bool) → (ℕ → ℕ → ℤ) → Mine
leaving_mine n periods rests left = record {
  blocks = periods * n;
  rests = rests_by_period n periods rests;
  worth = λ i. left (i % n) (i / n) -ℤ cond (nat_lt (i / n + 1) periods) (left (i % n) (i / n + 1)) (pos 0);
}

-- the expanded mine of blocks that go the ways by which they leave at most this, and wait so many periods for others
abbrev pub treated_mine_of : Treated → (ℕ → ℕ → ℤ) → (lag : ℕ) → List (ℕ × ℕ) → Mine
treated_mine_of treated left lag waits = with_waits treated.mine.blocks treated.periods lag waits
    (leaving_mine treated.mine.blocks treated.periods treated.mine.rests left)

-- the expanded mine of a production in which blocks wait so many periods for others
abbrev pub waiting_mine : Production → (price : ℕ → ℕ → ℕ) → (lag : ℕ) → List (ℕ × ℕ) → Mine
waiting_mine plan price lag waits = with_waits plan.mine.blocks plan.periods lag waits (expanded plan price)
