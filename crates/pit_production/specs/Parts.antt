-- The production of some of a mine's blocks, and what a bound on its schedules bounds.
use Rattle.std.specs.Prelude.{ℕ, ◌<◌, ℤ, pos, ◌*ℤ◌, ◌≤ℤ◌, Bool, ◌&&◌, nat_lt, List, All, length}
use Rattle.prec_file.specs.Rests.{has_pair}
use Rattle.closure_net.specs.Prelude.{IsAscending, IsRichest, Mine, holds_of}
use Rattle.sub_mines.specs.Renumbered.{IsPartPairs, number_in}
use Rattle.schedules.specs.Prelude.{AreFalling, IsWeighted, Production, Treated, UsesNothingBack}
use Rattle.expanded_mine.specs.Prelude.{IsBound, IsTreatedBound}

-- Whether both are places of a list, and the block at one has that at the other by a test.
abbrev pub among_kept : List ℕ → (ℕ → ℕ → Bool) → ℕ → ℕ → Bool
among_kept kept test i j = (nat_lt i (length kept) && nat_lt j (length kept)) && test (number_in kept i) (number_in kept j)

-- the mine of the blocks of a list alone: each has its place there as its number
abbrev pub part_mine : Mine → List ℕ → Mine
part_mine mine kept = record {
  blocks = length kept;
  rests = among_kept kept mine.rests;
  worth = λ i. mine.worth
      (number_in kept i);
}

-- the production of these blocks alone, in which each has what it has in the whole
abbrev pub part_of : Production → List ℕ → Production
part_of plan kept = record {
  mine = part_mine plan.mine kept;
  periods = plan.periods;
  value = λ i t. plan.value (number_in kept i) t;
  resources = plan.resources;
  uses = λ r i. plan.uses r (number_in kept i);
  capacity = plan.capacity;
}

-- the same where blocks may go several ways
abbrev pub treated_part_of : Treated → List ℕ → Treated
treated_part_of treated kept = record {
  mine = part_mine treated.mine kept;
  periods = treated.periods;
  ways = λ i. treated.ways (number_in kept i);
  value = λ i d t. treated.value (number_in kept i) d t;
  resources = treated.resources;
  uses = λ r i d. treated.uses r (number_in kept i) d;
  capacity = treated.capacity;
  lags = λ i j. treated.lags (number_in kept i) (number_in kept j);
}

-- Where no block is worth more in a period than the mine says, but for weights that fall, and none gives a resource
-- back: what bounds every schedule of the blocks of a richest pit bounds every schedule of the whole mine. Of the pairs
-- of blocks that wait those with an end outside the pit are left out.
abbrev pub ThePartBounds : Type 0
ThePartBounds = (plan : Production) (weight : ℕ → ℕ) (kept : List ℕ) (lag : ℕ) (waits less : List (ℕ × ℕ)) (bound : ℤ)
    → IsWeighted plan weight → AreFalling plan.periods weight → UsesNothingBack plan
    → IsAscending kept → All (λ b. b < plan.mine.blocks) kept → IsRichest plan.mine (holds_of kept)
    → IsPartPairs kept waits less
    → IsBound (part_of plan kept) lag (has_pair less) bound → IsBound plan lag (has_pair waits) bound

-- By no way is a block worth more in a period than the mine says, times its weight, and by none does it give a resource
-- back.
pub record IsEachWayWeighted (treated : Treated) (weight : ℕ → ℕ) : Type 0 where
  pub values : (b d t : ℕ) → b < treated.mine.blocks → d < treated.ways b → t < treated.periods → treated.value b d t ≤ℤ (treated.mine.worth b *ℤ pos (weight t))
  pub uses : (r b d : ℕ) → r < treated.resources → b < treated.mine.blocks → d < treated.ways b
      → pos 0 ≤ℤ treated.uses r b d

-- The same where that holds of each way that a block may go: the pit is a richest one at what the mine says.
abbrev pub TheTreatedPartBounds : Type 0
TheTreatedPartBounds = (treated : Treated) (weight : ℕ → ℕ) (kept : List ℕ) (lag : ℕ) (waits less : List (ℕ × ℕ))
    (bound : ℤ)
    → IsEachWayWeighted treated weight → AreFalling treated.periods weight
    → IsAscending kept → All (λ b. b < treated.mine.blocks) kept → IsRichest treated.mine (holds_of kept)
    → IsPartPairs kept waits less
    → IsTreatedBound (treated_part_of treated kept) lag (has_pair less) bound
    → IsTreatedBound treated lag (has_pair waits) bound
