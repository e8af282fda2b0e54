-- Which block rests on which, by a pattern or by the offsets of its own region.
use Rattle.std.specs.Prelude.{◌≡◌, ℕ, ◌<◌, ◌≤◌, ◌/◌, ◌%◌, ◌==◌, ℤ, pos, negsuc, ◌-ℤ◌, List, [], Contains, ◌≢◌}
use Rattle.std.specs.Prelude.{slice_index_or, length, Bool, IsTrue, cond, ◌&&◌, nat_lt, Option, Some, None, All}
use Rattle.std.specs.List.{list_any}
use Rattle.std.specs.Ordering.{int_eq}
use Rattle.prec_file.specs.declared.limits.TheConstants.{MOST_PAIRS}
use Rattle.slope_offsets.specs.declared.pattern.TheConstants.{MOST_OFFSETS}
use Rattle.slope.specs.declared.region_slopes.TheConstants.{MOST_REGIONS}
use Rattle.blocks_file.specs.declared.place.Place.{Place}
use Rattle.blocks_file.specs.Denotes.{BlocksView, origin}
use Rattle.prec_file.specs.Rests.{RestsView, IsRising, IsFirstNot}
use Rattle.slope_offsets.specs.Prelude.{AreMoreThan, Offset, IsUpward, UpwardAt, listed_at}
use Rattle.slope_offsets.specs.declared.selection.Selection.{Selection}
use Rattle.slope_offsets.specs.declared.selection.Selection.TheVariants.{Every, Reduced}
use Rattle.slope_offsets.specs.declared.up.Up.{Up}
use Rattle.slope_offsets.specs.declared.up.Up.TheVariants.{PlusZ, MinusZ}
use Rattle.slope.specs.declared.slope_fault.SlopeFault.{SlopeFault}
use Rattle.slope.specs.declared.slope_fault.SlopeFault.TheVariants.{SamePlace, TooMany, NoMemory}
use Rattle.slope.specs.declared.region_fault.RegionFault.{RegionFault}
use Rattle.slope.specs.declared.region_fault.RegionFault.TheVariants as region

-- Where a block is.
abbrev pub block_place : BlocksView → ℕ → Place
block_place m b = slice_index_or m.places b origin

-- No two blocks below c have one place.
abbrev pub AreApartBelow : BlocksView → ℕ → Type 0
AreApartBelow m c = (i j : ℕ) → i < j → j < c → block_place m i ≢ block_place m j

-- The set holds with the block of each of these pairs the one that it rests on.
abbrev pub IsClosedBy : (ℕ × ℕ → Type 0) → (ℕ → Bool) → Type 0
IsClosedBy P e = (pair : ℕ × ℕ) → P pair → IsTrue (e pair.0) → IsTrue (e pair.1)

-- A difference of heights, counted upward.
abbrev pub upward : Up → ℤ → ℤ
upward PlusZ z = z
upward MinusZ z = pos 0 -ℤ z

-- The offset from one place to another.
abbrev pub offset_between : Up → Place → Place → Offset
offset_between up from to = (to.x -ℤ from.x, to.y -ℤ from.y, upward up (to.z -ℤ from.z))

-- In the pair (b, p), b rests on p: both are blocks, and p stands from b at one of b's own offsets.
pub record IsOwnPair (m : BlocksView) (own : ℕ → List Offset) (up : Up) (pair : ℕ × ℕ) : Type 0 where
  pub bottom : pair.0 < m.blocks
  pub top : pair.1 < m.blocks
  pub offset : Contains (own pair.0) (offset_between up (block_place m pair.0) (block_place m pair.1))

-- In the pair (b, p), b rests on a third block, which rests on p.
pub record LeadsOver (m : BlocksView) (own : ℕ → List Offset) (up : Up) (pair : ℕ × ℕ) : Type 0 where
  pub over : ℕ
  pub first : IsOwnPair m own up (pair.0, over)
  pub second : IsOwnPair m own up (over, pair.1)

-- The selection has the pair: of every pair each, and of the reduced ones those that lead over no third block.
abbrev pub IsSelected : Selection → BlocksView → (ℕ → List Offset) → Up → ℕ × ℕ → Type 0
IsSelected Every m own up pair = IsOwnPair m own up pair
IsSelected Reduced m own up pair = IsOwnPair m own up pair × (LeadsOver m own up pair → ⊥)

-- The blocks have places of their own, and the pairs are the selected ones, each once and in order.
pub record AreOwnSlopes (m : BlocksView) (own : ℕ → List Offset) (up : Up) (selection : Selection)
    (rests : RestsView) : Type 0 where
  pub apart : AreApartBelow m m.blocks
  pub blocks : rests.blocks ≡ m.blocks
  pub rising : IsRising rests.pairs
  pub held : (pair : ℕ × ℕ) → IsSelected selection m own up pair → Contains rests.pairs pair
  pub only : (pair : ℕ × ℕ) → Contains rests.pairs pair → IsSelected selection m own up pair

-- ---- by a pattern, whose offsets are those of every block

-- In the pair (b, p), p stands at an offset of the pattern from b.
abbrev pub IsSlopePair : BlocksView → List Offset → Up → ℕ × ℕ → Type 0
IsSlopePair m offsets up pair = IsOwnPair m (λ b. offsets) up pair

-- The blocks have places of their own, and the pairs are those of the pattern that are selected, each once and in
-- order.
abbrev pub AreSlopes : BlocksView → List Offset → Up → Selection → RestsView → Type 0
AreSlopes m offsets up selection rests = AreOwnSlopes m (λ b. offsets) up selection rests

-- ---- by region

-- A number of millionths as a whole number from 0 on, where it is one.
abbrev pub whole_millionths : ℤ → Option ℕ
whole_millionths (pos n) = cond (n % 1000000 == 0) (Some (n / 1000000)) None
whole_millionths (negsuc n) = None

-- The region of a block, where it has one: the whole number that the first column says, or region 0 where there is no
-- column.
abbrev pub region_of : BlocksView → ℕ → Option ℕ
region_of m b = whole_millionths (slice_index_or (slice_index_or m.columns 0 []) b (pos 0))

-- The offsets of a region, and none where there is no such region.
abbrev pub region_offsets : List (List Offset) → Option ℕ → List Offset
region_offsets listed (Some r) = slice_index_or listed r []
region_offsets listed None = []

-- The offsets of a block are those of its own region.
abbrev pub own_offsets : List (List Offset) → BlocksView → ℕ → List Offset
own_offsets listed m b = region_offsets listed (region_of m b)

-- Block b rests on block p by the slopes of regions: p stands from b at an offset of b's own region.
abbrev pub rests : List (List Offset) → BlocksView → Up → ℕ → ℕ → Type 0
rests listed m up b p = IsOwnPair m (own_offsets listed m) up (b, p)

-- Whether an offset is this one.
abbrev pub is_offset : Offset → Offset → Bool
is_offset o q = int_eq q.0 o.0 && (int_eq q.1 o.1 && int_eq q.2 o.2)

-- Whether b rests on p by slopes of regions: both are blocks, and the offset from b to p is one of b's own region.
abbrev pub rests_by_slopes : List (List Offset) → BlocksView → Up → ℕ → ℕ → Bool
rests_by_slopes listed m up b p = (nat_lt b m.blocks && nat_lt p m.blocks) && list_any
    (is_offset (offset_between up (block_place m b) (block_place m p))) (own_offsets listed m b)

-- The number of a region is that of a listed one.
abbrev pub IsListedRegion : List (List Offset) → Option ℕ → Type 0
IsListedRegion listed (Some r) = r < length listed
IsListedRegion listed None = ⊥

-- Every block is of a listed region.
abbrev pub AreListedRegions : List (List Offset) → BlocksView → Type 0
AreListedRegions listed m = (b : ℕ) → b < m.blocks → IsListedRegion listed (region_of m b)

-- Every offset of a region leads up.
abbrev pub IsAllUpward : List (List Offset) → ℕ → Type 0
IsAllUpward listed r = All IsUpward (listed_at listed r)

-- A region has at most 4,096 offsets.
abbrev pub HasFew : List (List Offset) → ℕ → Type 0
HasFew listed r = length (listed_at listed r) ≤ MOST_OFFSETS

-- Every offset of every region leads up.
abbrev pub AreAllUpward : List (List Offset) → Type 0
AreAllUpward listed = (r : ℕ) → r < length listed → IsAllUpward listed r

-- Every region has at most 4,096 offsets.
abbrev pub HaveAllFew : List (List Offset) → Type 0
HaveAllFew listed = (r : ℕ) → r < length listed → HasFew listed r

-- Region r is the first with an offset that doesn't lead up, and offset i the first of it.
pub record IsFirstNotUpward (listed : List (List Offset)) (r i : ℕ) : Type 0 where
  pub known : r < length listed
  pub before : (s : ℕ) → s < r → IsAllUpward listed s
  pub first : IsFirstNot (UpwardAt (listed_at listed r)) (length (listed_at listed r)) i

-- Region r is the first with more offsets than a region may have.
pub record IsFirstWide (listed : List (List Offset)) (r : ℕ) : Type 0 where
  pub known : r < length listed
  pub before : (s : ℕ) → s < r → HasFew listed s
  pub many : MOST_OFFSETS < length (listed_at listed r)

-- c is the first block that has an earlier block's place, and b is that block.
pub record IsFirstRepeat (m : BlocksView) (b c : ℕ) : Type 0 where
  pub earlier : b < c
  pub known : c < m.blocks
  pub same : block_place m b ≡ block_place m c
  pub first : AreApartBelow m c

-- The fault stands, and none that comes before it.
abbrev pub SlopeFaultStands : BlocksView → List Offset → Up → Selection → SlopeFault → Type 0
SlopeFaultStands m offsets up selection (SamePlace b c) = IsFirstRepeat m b c
SlopeFaultStands m offsets up selection TooMany = AreApartBelow m m.blocks
    × AreMoreThan MOST_PAIRS (IsSelected selection m (λ b. offsets) up)
SlopeFaultStands m offsets up selection NoMemory = Unit {0}

-- Block b is the first that is of no listed region.
pub record IsFirstOutside (listed : List (List Offset)) (m : BlocksView) (b : ℕ) : Type 0 where
  pub known : b < m.blocks
  pub outside : IsListedRegion listed (region_of m b) → ⊥
  pub first : (c : ℕ) → c < b → IsListedRegion listed (region_of m c)

-- What is right where a fault of the offsets stands: the places, and the regions of blocks.
pub record ArePlacedInRegions (listed : List (List Offset)) (m : BlocksView) : Type 0 where
  pub apart : AreApartBelow m m.blocks
  pub regions : AreListedRegions listed m

-- The fault of slopes by region stands, and none that comes before it.
abbrev pub RegionFaultStands : List (List Offset) → BlocksView → Up → Selection → RegionFault → Type 0
RegionFaultStands listed m up selection (region.SamePlace b c) = IsFirstRepeat m b c
RegionFaultStands listed m up selection (region.UnknownRegion b) = AreApartBelow m m.blocks × IsFirstOutside listed m b
RegionFaultStands listed m up selection (region.NotUpward r i) = ArePlacedInRegions listed m
    × IsFirstNotUpward listed r i
RegionFaultStands listed m up selection (region.TooManyOffsets r) = ArePlacedInRegions listed m × AreAllUpward listed
    × IsFirstWide listed r
RegionFaultStands listed m up selection region.TooManyRegions = ArePlacedInRegions listed m × AreAllUpward listed
    × HaveAllFew listed × (MOST_REGIONS < length listed)
RegionFaultStands listed m up selection region.TooMany = ArePlacedInRegions listed m × AreAllUpward listed
    × HaveAllFew listed × (length listed ≤ MOST_REGIONS)
    × AreMoreThan MOST_PAIRS (IsSelected selection m (own_offsets listed m) up)
RegionFaultStands listed m up selection region.NoMemory = Unit {0}

-- Nothing is wrong with the slopes of regions among the blocks of a model. How many pairs they give is not asked.
pub record AreRightSlopes (listed : List (List Offset)) (m : BlocksView) : Type 0 where
  pub placed : ArePlacedInRegions listed m
  pub upward : AreAllUpward listed
  pub few_offsets : HaveAllFew listed
  pub few_regions : length listed ≤ MOST_REGIONS

-- The slopes of regions give the selected pairs of a model as a list: no fault of them stands.
pub record GivePairs (listed : List (List Offset)) (m : BlocksView) (up : Up) (selection : Selection) : Type 0 where
  pub right : AreRightSlopes listed m
  pub few_pairs : AreMoreThan MOST_PAIRS (IsSelected selection m (own_offsets listed m) up) → ⊥
