-- The laws of best pits that are found in parts of a mine.
use Rattle.std.specs.Prelude.{◌≡◌, ◌↔◌, ℕ, ◌+◌, ◌+ℤ◌, Bool, List, All, ◌<◌, length, map}
use Rattle.closure_net.specs.Prelude.{holds_of, IsAscending, Mine, IsPit, worth_of, block_count_of, IsBest, LiesWithin}
use Rattle.closure_net.specs.Prelude.{RisesTo, RestsWithin}
use Rattle.sub_mines.specs.Parts.{union_of, difference_of, no_block, every_block, part, LiesBetween, IsFloor, IsCeiling}
use Rattle.prec_file.specs.Rests.{numbers_passing}
use Rattle.sub_mines.specs.Renumbered.{IsKept, IsListed, IsRenumbered, IsImage, number_in}

-- Where the best pit is known to lie between two pits, it is the lower one with the best pit of the blocks between
-- them: the second makes the first, and the first gives the second.
abbrev pub BestByPart : Type 0
BestByPart = (mine : Mine) (low high f : ℕ → Bool) → RestsWithin mine → LiesBetween mine low high → IsBest (part mine (difference_of high low)) f → IsBest mine (union_of low f)

abbrev pub PartOfBest : Type 0
PartOfBest = (mine : Mine) (low high e : ℕ → Bool) → RestsWithin mine → LiesBetween mine low high → IsBest mine e
    → LiesWithin mine low e × LiesWithin mine e high × IsBest (part mine (difference_of high low)) (difference_of e low)

-- Within: where the best pit lies within a pit, a set is best exactly where it is best of that pit's blocks alone.
abbrev pub BestWithin : Type 0
BestWithin = (mine : Mine) (high e : ℕ → Bool) → RestsWithin mine → LiesBetween mine no_block high
    → IsBest mine e ↔ IsBest (part mine high) e

-- The rest: where the best pit has all of a pit, it is that pit with the best one of the other blocks.
abbrev pub BestOfRest : Type 0
BestOfRest = (mine : Mine) (low f : ℕ → Bool) → RestsWithin mine → LiesBetween mine low every_block → IsBest (part mine (difference_of every_block low)) f → IsBest mine (union_of low f)

-- What is known beforehand: the best pit itself; or a floor and a ceiling.
abbrev pub KnownByBest : Type 0
KnownByBest = (mine : Mine) (low high c : ℕ → Bool) → IsPit mine low → IsPit mine high → IsBest mine c
    → LiesWithin mine low c → LiesWithin mine c high → LiesBetween mine low high

abbrev pub KnownByBounds : Type 0
KnownByBounds = (mine : Mine) (low high : ℕ → Bool) → IsFloor mine low → IsCeiling mine high → LiesBetween mine low high

-- No block is a floor and every block a ceiling.
abbrev pub AlwaysBounded : Type 0
AlwaysBounded = (mine : Mine) → IsFloor mine no_block × IsCeiling mine every_block

-- Where no block is worth less than before, the best pit from before is a floor, and the later one is a ceiling of what
-- was before.
abbrev pub BestBounds : Type 0
BestBounds = (mine later : Mine) (e c : ℕ → Bool) → RisesTo mine later → (IsBest mine e → IsFloor later e) × (IsBest later c → IsCeiling mine c)

-- Between two best pits, one where blocks are worth no more and one where they are worth no less.
abbrev pub BestBetween : Type 0
BestBetween = (earlier mine later : Mine) (low high f : ℕ → Bool) → RestsWithin mine → RisesTo earlier mine
    → RisesTo mine later → IsBest earlier low → IsBest later high
    → IsBest (part mine (difference_of high low)) f → IsBest mine (union_of low f)

-- The best pit of the small mine is that of the part whose blocks it numbers anew.
abbrev pub BestByNumbers : Type 0
BestByNumbers = (mine small : Mine) (set : ℕ → Bool) (at : ℕ → ℕ) (s t : ℕ → Bool) → RestsWithin mine
    → IsListed set mine.blocks small.blocks at → IsRenumbered mine small at
    → IsImage mine.blocks small.blocks at s t → IsBest small s → IsBest (part mine set) t

-- All of it: the lower pit with the image of the best pit of the small mine.
abbrev pub BestBySmallMine : Type 0
BestBySmallMine = (mine small : Mine) (low high : ℕ → Bool) (at : ℕ → ℕ) (s t : ℕ → Bool) → RestsWithin mine
    → LiesBetween mine low high
    → IsListed (difference_of high low) mine.blocks small.blocks at → IsRenumbered mine small at
    → IsImage mine.blocks small.blocks at s t → IsBest small s → IsBest mine (union_of low t)

-- What it is worth and how many blocks it has: the lower pit's and the small mine's together.
abbrev pub RowBySmallMine : Type 0
RowBySmallMine = (mine small : Mine) (low high : ℕ → Bool) (at : ℕ → ℕ) (s t : ℕ → Bool) → RestsWithin mine
    → IsListed (difference_of high low) mine.blocks small.blocks at → IsRenumbered mine small at
    → IsImage mine.blocks small.blocks at s t
    → (worth_of mine (union_of low t) ≡ worth_of mine low +ℤ worth_of small s)
    × (block_count_of mine (union_of low t) ≡ block_count_of mine low + block_count_of small s)

-- The blocks at the places of a list, where each is the place of one.
abbrev pub ListsMakeImages : Type 0
ListsMakeImages = (n : ℕ) (kept xs : List ℕ) → IsAscending kept → All (λ i. i < length kept) xs
    → IsImage n (length kept) (number_in kept) (holds_of xs) (holds_of (map (number_in kept) xs))

-- The numbers below n that are in a set, ascending.
abbrev pub PassingAreKept : Type 0
PassingAreKept = (set : ℕ → Bool) (n : ℕ) → IsKept set n (numbers_passing set n)
