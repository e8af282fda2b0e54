-- What the net's worths are in units, and the net whose most negative worths are cut.
use Rattle.std.specs.Prelude.{pos, ◌-ℤ◌, ◌≡◌, ℕ, ◌+◌, ◌<◌, ◌⊎◌, ◌^◌, List, length, slice_index}
use Rattle.ordered_group.specs.declared.scaled.Scaled.{Scaled}
use Rattle.ordered_group.specs.Prelude.{Amount, AtMost, minus, positive, negative, amount_at}
use Rattle.closure_net.specs.Network.{NetView}
use Rattle.machine_law.specs.Conservation.{all_given}
use Rattle.word_steps.specs.Layout.{units, room_at, count}

-- what the positive worths are in units, and their sum
pub record AreGains (net : NetView) (gain : List ℕ) (sum : ℕ) : Type 0 where
  pub size : length gain ≡ count net
  pub each : (b : ℕ) → b < count net → positive (amount_at net.worths b) ≡ units (slice_index gain b)
  pub all : all_given net ≡ units sum
  pub small : sum < 2 ^ 63

pub record AreLosses (net : NetView) (loss : List ℕ) : Type 0 where
  pub size : length loss ≡ count net
  pub each : (b : ℕ) → b < count net → negative (amount_at net.worths b) ≡ units (slice_index loss b)

-- no block may give the sink more than so many units
abbrev pub AreWithin : NetView → ℕ → Type 0
AreWithin net most = (b : ℕ) → b < count net → AtMost (negative (amount_at net.worths b)) (units most)

abbrev pub scaled_parts : Scaled → Amount
scaled_parts x = record { w = x.units; c = pos 0 }

-- the amounts are the units of so many words from this one on
pub record AreUnits (ws : List ℕ) (from size : ℕ) (amounts : List Amount) : Type 0 where
  pub size_is : length amounts ≡ size
  pub each : (k : ℕ) → k < size → amount_at amounts k ≡ units (slice_index ws (from + k))

-- no block's room at the sink is more than it may give there
abbrev pub AreRooms : NetView → List ℕ → Type 0
AreRooms net ws = (b : ℕ) → b < count net
    → AtMost (units (slice_index ws (room_at net b))) (negative (amount_at net.worths b))

-- the amounts are what the net's blocks gave the sink, where their rooms are the words from this one on
pub record AreSinks (net : NetView) (ws : List ℕ) (amounts : List Amount) : Type 0 where
  pub size_is : length amounts ≡ count net
  pub each : (b : ℕ) → b < count net → amount_at amounts b ≡ minus (negative (amount_at net.worths b))
      (units (slice_index ws (room_at net b)))

-- the net with these worths
abbrev pub net_with_worths : NetView → List Amount → NetView
net_with_worths net ws = record { pairs = net.pairs; worths = ws }

-- the worths are the net's, but for negative ones, which may be nearer to zero where they take all that the source
-- gives
pub record IsCut (net : NetView) (ws : List Amount) : Type 0 where
  pub size : length ws ≡ count net
  pub positives : (b : ℕ) → b < count net → positive (amount_at ws b) ≡ positive (amount_at net.worths b)
  pub less : (b : ℕ) → b < count net → AtMost (negative (amount_at ws b)) (negative (amount_at net.worths b))
  pub fits : (b : ℕ) (x : Amount) → b < count net → AtMost x (negative (amount_at net.worths b))
      → AtMost x (all_given net) → AtMost x (negative (amount_at ws b))

-- c is w, or takes k from the sink where w takes more
pub record IsCutWorth (w : Amount) (k : ℕ) (c : Amount) : Type 0 where
  pub positives : positive c ≡ positive w
  pub less : AtMost (negative c) (negative w)
  pub fits : (x : Amount) → AtMost x (negative w) → AtMost x (units k) → AtMost x (negative c)
  pub within : AtMost (negative c) (units k)
  pub is : (c ≡ w) ⊎ (c ≡ record { w = pos 0 -ℤ pos k; c = pos 0 })

pub record AreCut (net : NetView) (k : ℕ) (ws : List Amount) : Type 0 where
  pub size : length ws ≡ count net
  pub each : (b : ℕ) → b < count net → IsCutWorth (amount_at net.worths b) k (amount_at ws b)

-- the net is this one with its worths cut
pub record IsCutNet (net cut : NetView) : Type 0 where
  pub worths : List Amount
  pub is : cut ≡ net_with_worths net worths
  pub cuts : IsCut net worths
