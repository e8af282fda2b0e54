-- What only the functions of this crate say to one another: lists as they are gathered, a cone level by level, the
-- index of places, and the pairs block by block.
use Rattle.std.specs.Prelude.{◌≡◌, ℕ, ◌<◌, ◌≤◌, ◌+◌, ◌-◌, Bool, true, false, pos, ◌⊎◌, List, [], length, take, AllPairs}
use Rattle.std.specs.Prelude.{Contains, Option, Some, None, Result, Ok, Err, FitsSigned, slice_index_or}
use Rattle.std.specs.Int.{w32}
use Rattle.prec_file.specs.declared.limits.TheConstants.{MOST_PAIRS}
use Rattle.blocks_file.specs.declared.place.Place.{Place}
use Rattle.blocks_file.specs.Denotes.{BlocksView}
use Rattle.slope_offsets.specs.Prelude.{AreMoreThan, Offset, OffsetBefore, AreOffsetsRising, IsPattern, listed_at}
use Rattle.slope_offsets.specs.Prelude.{Collects, offset_at, rest_after}
use Rattle.prec_file.specs.Rests.{RowsView}
use Rattle.slope.specs.Slopes.{block_place, IsSelected, IsFirstRepeat, offset_between, region_of, region_offsets}
use Rattle.slope.specs.Slopes.{IsListedRegion, AreListedRegions, AreAllUpward, HaveAllFew, IsFirstOutside}
use Rattle.slope.specs.Slopes.{IsFirstNotUpward, IsFirstWide}
use Rattle.slope_offsets.specs.declared.selection.Selection.{Selection}
use Rattle.slope.specs.declared.sight.Sight.{Sight}
use Rattle.slope.specs.declared.sight.Sight.TheVariants as sight
use Rattle.slope.specs.declared.slope_fault.SlopeFault.{SlopeFault}
use Rattle.slope.specs.declared.slope_fault.SlopeFault.TheVariants as slope
use Rattle.slope.specs.declared.region_fault.RegionFault.{RegionFault}
use Rattle.slope.specs.declared.region_fault.RegionFault.TheVariants as region
use Rattle.slope.specs.declared.region_slopes.TheConstants.{MOST_REGIONS}
use Rattle.slope_offsets.specs.declared.up.Up.{Up}

-- The coordinates have 32 bits.
abbrev pub IsPlace : Place → Type 0
IsPlace p = FitsSigned w32 p.x × FitsSigned w32 p.y × FitsSigned w32 p.z

-- The key of a place: its level, its row, and where it is in the row. Keys go as offsets do.
abbrev pub place_key : Place → Offset
place_key p = (p.z, p.y, p.x)

-- A key, and the block there.
abbrev pub Entry : Type 0
Entry = Offset × ℕ

-- Entry i of a list.
abbrev pub entry_at : List Entry → ℕ → Entry
entry_at entries i = slice_index_or entries i ((pos 0, pos 0, pos 0), 0)

-- The entry of a block.
abbrev pub entry_of : BlocksView → ℕ → Entry
entry_of m b = (place_key (block_place m b), b)

-- The entries of the first c blocks, in their order. The places are read from the model, and fit.
pub record AreEntries (m : BlocksView) (c : ℕ) (entries : List Entry) : Type 0 where
  pub as_many : length entries ≡ c
  pub each : (b : ℕ) (d : Entry) → b < c → slice_index_or entries b d ≡ entry_of m b
  pub fits : (b : ℕ) → b < c → IsPlace (block_place m b)

-- The entries of all blocks, in some order.
pub record AreEntriesOf (m : BlocksView) (entries : List Entry) : Type 0 where
  pub held : (b : ℕ) → b < m.blocks → Contains entries (entry_of m b)
  pub only : (e : Entry) → Contains entries e → (e.1 < m.blocks) × (e ≡ entry_of m e.1)
  pub fits : (b : ℕ) → b < m.blocks → IsPlace (block_place m b)

-- By key, and where keys are equal by block.
abbrev pub BeforeEntry : Entry → Entry → Type 0
BeforeEntry d e = OffsetBefore d.0 e.0 ⊎ ((d.0 ≡ e.0) × (d.1 < e.1))

-- Each entry is before all later ones.
pub record AreEntriesInOrder (entries : List Entry) : Type 0 where
  pub rises : AllPairs BeforeEntry entries

-- Entry k and the next one have one key.
pub record IsRepeatAt (entries : List Entry) (k : ℕ) : Type 0 where
  pub inside : k + 1 < length entries
  pub same : (entry_at entries k).0 ≡ (entry_at entries (k + 1)).0

-- No entry has the key of the next one.
abbrev pub HaveNoRepeat : List Entry → Type 0
HaveNoRepeat entries = (k : ℕ) → IsRepeatAt entries k → ⊥

-- The blocks of two neighbours that have one key, of which the second is the least that there is, among the first c
-- neighbours.
pub record IsEarliestAmong (entries : List Entry) (c : ℕ) (repeat : ℕ × ℕ) : Type 0 where
  pub place : ℕ
  pub stands : IsRepeatAt entries place
  pub first : (entry_at entries place).1 ≡ repeat.0
  pub again : (entry_at entries (place + 1)).1 ≡ repeat.1
  pub least : (k : ℕ) → k + 1 < c → IsRepeatAt entries k → repeat.1 ≤ (entry_at entries (k + 1)).1

-- The blocks of two neighbours that have one key, of which the second is the least that there is among all neighbours.
abbrev pub IsEarliestRepeat : List Entry → ℕ × ℕ → Type 0
IsEarliestRepeat entries = IsEarliestAmong entries (length entries)

-- Of two repeats the one whose second block is less.
abbrev pub IsEarlierRepeat : Option (ℕ × ℕ) → ℕ × ℕ → ℕ × ℕ → Type 0
IsEarlierRepeat None other result = result ≡ other
IsEarlierRepeat (Some repeat) other result = ((result ≡ repeat) ⊎ (result ≡ other)) × (result.1 ≤ repeat.1)
    × (result.1 ≤ other.1)

-- The keys rise, and each block is found by the key of its place, and nothing else.
pub record IsIndex (m : BlocksView) (keys : List Offset) (blocks : List ℕ) : Type 0 where
  pub rising : AreOffsetsRising keys
  pub as_many : length blocks ≡ length keys
  pub stands : (i : ℕ) (d : Offset) (e : ℕ) → i < length keys → (slice_index_or blocks i e < m.blocks)
      × (place_key (block_place m (slice_index_or blocks i e)) ≡ slice_index_or keys i d)
  pub finds : (b : ℕ) → b < m.blocks → (i : ℕ) × (i < length keys) × ((e : ℕ) → slice_index_or blocks i e ≡ b)
  pub fits : (b : ℕ) → b < m.blocks → IsPlace (block_place m b)

-- The list ends at a place, or what stands there is above the key.
abbrev pub IsEndOrBelow : List Offset → Offset → ℕ → Type 0
IsEndOrBelow keys key at = (at ≡ length keys) ⊎ OffsetBefore key (slice_index_or keys at key)

-- The list begins at a place, or what stands in front of it is below the key.
abbrev pub IsStartOrAbove : List Offset → Offset → ℕ → Type 0
IsStartOrAbove keys key at = (at ≡ 0) ⊎ OffsetBefore (slice_index_or keys (at - 1) key) key

-- What a search for a key tells: where it stands, or that it isn't among the keys, and a place to look on from.
abbrev pub IsFinding : List Offset → Offset → Result ℕ ℕ → Type 0
IsFinding keys key (Ok i) = (i < length keys) × (slice_index_or keys i key ≡ key)
IsFinding keys key (Err i) = (i ≤ length keys) × (Contains keys key → ⊥)

-- The fault of the places stands.
abbrev pub IndexFaultStands : BlocksView → SlopeFault → Type 0
IndexFaultStands m (slope.SamePlace b c) = IsFirstRepeat m b c
IndexFaultStands m slope.TooMany = ⊥
IndexFaultStands m slope.NoMemory = Unit {0}

-- The region of a block: by the first column of a model, or region 0.
abbrev pub region_by : Bool → BlocksView → ℕ → Option ℕ
region_by true m b = region_of m b
region_by false m b = Some 0

-- The offsets of a block's own region.
abbrev pub own_by : Bool → List (List Offset) → BlocksView → ℕ → List Offset
own_by by_column patterns m b = region_offsets patterns (region_by by_column m b)

-- Every block has a region, and its offsets make a pattern.
pub record HaveRegions (by_column : Bool) (patterns : List (List Offset)) (m : BlocksView) : Type 0 where
  pub each : (b : ℕ) → b < m.blocks → IsListedRegion patterns (region_by by_column m b)
  pub are : (b : ℕ) → b < m.blocks → IsPattern (own_by by_column patterns m b)

-- The patterns have the offsets that are listed for their regions.
pub record AreOfListed (listed patterns : List (List Offset)) : Type 0 where
  pub as_many : length patterns ≡ length listed
  pub are : (r : ℕ) → r < length patterns → IsPattern (listed_at patterns r)
  pub held : (r : ℕ) (o : Offset) → Contains (listed_at listed r) o → Contains (listed_at patterns r) o
  pub only : (r : ℕ) (o : Offset) → Contains (listed_at patterns r) o → Contains (listed_at listed r) o

-- The selected pairs of the blocks below this one.
pub record IsPairBelow (m : BlocksView) (own : ℕ → List Offset) (up : Up) (selection : Selection) (block : ℕ)
    (pair : ℕ × ℕ) : Type 0 where
  pub selected : IsSelected selection m own up pair
  pub below : pair.0 < block

-- Those, and this block's at the first of its offsets.
pub record IsPairUpTo (m : BlocksView) (own : ℕ → List Offset) (up : Up) (selection : Selection) (block i : ℕ)
    (pair : ℕ × ℕ) : Type 0 where
  pub selected : IsSelected selection m own up pair
  pub below : (pair.0 < block)
      ⊎ ((pair.0 ≡ block) × Contains (take i (own block))
      (offset_between up (block_place m block) (block_place m pair.1)))

-- The blocks below this one are listed, with their selected pairs.
pub record AreListedBelow (m : BlocksView) (own : ℕ → List Offset) (up : Up) (selection : Selection) (block : ℕ)
    (rows : RowsView) : Type 0 where
  pub blocks : rows.blocks ≡ m.blocks
  pub next : rows.next ≡ block
  pub pairs : Collects (IsPairBelow m own up selection block) rows.pairs

-- A fault of places or of pairs, as one of slopes by region.
abbrev pub region_fault_of : SlopeFault → RegionFault
region_fault_of (slope.SamePlace b c) = region.SamePlace b c
region_fault_of slope.TooMany = region.TooMany
region_fault_of slope.NoMemory = region.NoMemory

-- The fault of regions or their offsets stands, whatever the places are.
abbrev pub RegionRefusalStands : List (List Offset) → BlocksView → RegionFault → Type 0
RegionRefusalStands listed m (region.UnknownRegion b) = IsFirstOutside listed m b
RegionRefusalStands listed m (region.NotUpward r i) = AreListedRegions listed m × IsFirstNotUpward listed r i
RegionRefusalStands listed m (region.TooManyOffsets r) = AreListedRegions listed m × AreAllUpward listed
    × IsFirstWide listed r
RegionRefusalStands listed m region.TooManyRegions = AreListedRegions listed m × AreAllUpward listed
    × HaveAllFew listed × (MOST_REGIONS < length listed)
RegionRefusalStands listed m fault = ⊥

-- The fault of the pairs stands.
abbrev pub PairFaultStands : BlocksView → (ℕ → List Offset) → Up → Selection → SlopeFault → Type 0
PairFaultStands m own up selection (slope.SamePlace b c) = ⊥
PairFaultStands m own up selection slope.TooMany = AreMoreThan MOST_PAIRS (IsSelected selection m own up)
PairFaultStands m own up selection slope.NoMemory = Unit {0}

-- Why a pair isn't added to so many: there are 2^27 already, or fewer and no memory for one more.
abbrev pub PairRefusalStands : ℕ → SlopeFault → Type 0
PairRefusalStands count (slope.SamePlace b c) = ⊥
PairRefusalStands count slope.TooMany = MOST_PAIRS ≤ count
PairRefusalStands count slope.NoMemory = count < MOST_PAIRS

-- ---- offsets in two steps

-- ---- what stands around a block

-- The model, the patterns of its regions, the offsets of the block that is looked from, and its place.
pub record SurroundingsView : Type 0 where
  pub model : BlocksView
  pub patterns : List (List Offset)
  pub by_column : Bool
  pub offsets : List Offset
  pub up : Up
  pub from : Place

-- The offsets of each block's own region.
abbrev pub owns : SurroundingsView → ℕ → List Offset
owns v = own_by v.by_column v.patterns v.model

-- The surroundings are of this model and these patterns.
pub record ArePlacesOf (v : SurroundingsView) (m : BlocksView) (by_column : Bool) (patterns : List (List Offset))
    (up : Up) : Type 0 where
  pub of_model : v.model ≡ m
  pub of_column : v.by_column ≡ by_column
  pub of_patterns : v.patterns ≡ patterns
  pub of_up : v.up ≡ up

-- Block p stands at offset i.
pub record StandsAtOffset (v : SurroundingsView) (i p : ℕ) : Type 0 where
  pub known : p < v.model.blocks
  pub there : offset_between v.up v.from (block_place v.model p) ≡ offset_at v.offsets i

-- No block stands at offset i.
abbrev pub StandsNone : SurroundingsView → ℕ → Type 0
StandsNone v i = (p : ℕ) → StandsAtOffset v i p → ⊥

-- What was seen at offset i is what stands there.
abbrev pub IsSight : SurroundingsView → ℕ → Sight → Type 0
IsSight v i sight.Unasked = Unit {0}
IsSight v i sight.Nothing = StandsNone v i
IsSight v i (sight.Block p) = StandsAtOffset v i p

-- The index is that of the model, every block has a region and room for what is seen, and what was seen stands there.
pub record AreSeen (v : SurroundingsView) (keys : List Offset) (blocks : List ℕ) (seen : List Sight) : Type 0 where
  pub indexed : IsIndex v.model keys blocks
  pub regions : HaveRegions v.by_column v.patterns v.model
  pub room : (r : ℕ) → length (listed_at v.patterns r) ≤ length seen
  pub one_each : length v.offsets ≤ length seen
  pub each : (i : ℕ) (d : Sight) → i < length v.offsets → IsSight v i (slice_index_or seen i d)

-- Block q stands at offset a, and by its own offsets rests on what stands at offset i.
pub record StandsBetween (v : SurroundingsView) (i a q : ℕ) : Type 0 where
  pub stands : StandsAtOffset v a q
  pub onward : Contains (owns v q) (rest_after (offset_at v.offsets a) (offset_at v.offsets i))

-- A block at one of these offsets lies between.
pub record LiesAtSome (v : SurroundingsView) (i : ℕ) (steps : List ℕ) : Type 0 where
  pub step : ℕ
  pub among : Contains steps step
  pub block : ℕ
  pub lies : StandsBetween v i step block

-- No block at any of these offsets lies between.
abbrev pub LiesAtNone : SurroundingsView → ℕ → List ℕ → Type 0
LiesAtNone v i steps = (a q : ℕ) → Contains steps a → StandsBetween v i a q → ⊥
