-- The sums that a check makes while it reads lines.
use Rattle.std.specs.Prelude.{◌≡◌, ◌↔◌, ℕ, ◌<◌, ◌≤◌, Bool, false, IsTrue, ◌⊎◌, List, [], ◌∷◌, ◌++◌, length, slice_set}
use Rattle.std.specs.Prelude.{Result, MatchResult}
use Rattle.ordered_group.specs.Prelude.{Amount, zero_amount, plus, minus, AtMost, FitsPair, positive, negative}
use Rattle.ordered_group.specs.Prelude.{amount_at}
use Rattle.prec_file.specs.Rests.{IsFirstNot}
use Rattle.closure_net.specs.Prelude.{NetView, IsAscending, holds_of, IsBalancedAt, IsTight}
use Rattle.check_pit.specs.declared.pit_fault.PitFault.{PitFault}
use Rattle.check_pit.specs.declared.pit_fault.PitFault.TheVariants.{Negative, OverCapacity, TooLarge}
use Rattle.certificate_file.specs.declared.body_lines.LineKind.{LineKind}
use Rattle.certificate_file.specs.declared.body_lines.LineKind.TheVariants.{Pit, Source, Rest, Sink, End}
use Rattle.certificate_file.specs.declared.body_lines.BodyLine.{BodyLine}
use Rattle.certificate_file.specs.Certificate.{block_if_pit, pit_of, amount_of}
use Rattle.check_pit.specs.LineSums.{brings_by, balance_of, source_by, worth_of_blocks, residual_after, flow_of}
use Rattle.check_pit.specs.LineSums.{keeps_by, SomeLineSumOverflows}
use Rattle.check_pit.specs.LineLaws.{LinesTell}

-- a balance for each block; the blocks of the pit so far, how many there is space for, and whether they are a pit
-- already, to which no block comes any more; what they are worth; and what the source could still give
pub record RoomView : Type 0 where
  pub balances : List Amount
  pub blocks : List ℕ
  pub space : ℕ
  pub is_pit : Bool
  pub worth : Amount
  pub left : Amount

-- the room with another balance of b
abbrev pub with_balance : ℕ → Amount → RoomView → RoomView
with_balance b x room = record {
  balances = slice_set room.balances b x;
  blocks = room.blocks;
  space = room.space;
  is_pit = room.is_pit;
  worth =
      room.worth;
  left = room.left;
}

-- the room with another amount that the source could still give
abbrev pub with_left : Amount → RoomView → RoomView
with_left x room = record {
  balances = room.balances;
  blocks = room.blocks;
  space = room.space;
  is_pit = room.is_pit;
  worth = room.worth;
  left = x;
}

-- the room has a balance for each block of the net, and space for each, unless its blocks are a pit already
pub record IsRoomFor (net : NetView) (room : RoomView) : Type 0 where
  pub size : length room.balances ≡ length net.worths
  pub space : room.is_pit ≡ false → length net.worths ≤ room.space

-- the room has the sums over these lines
pub record AreSumsOf (net : NetView) (ls : List BodyLine) (room : RoomView) : Type 0 where
  pub fits : IsRoomFor net room
  pub balances : (b : ℕ) → b < length net.worths → amount_at room.balances b ≡ balance_of ls b
  pub blocks : room.blocks ≡ pit_of ls
  pub worth : room.worth ≡ worth_of_blocks net.worths (pit_of ls)
  pub left : room.left ≡ residual_after net.worths ls

-- a block of a PIT line is above those that the room holds, of which it has made no pit yet
abbrev pub TakesBlock : LineKind → RoomView → ℕ → Type 0
TakesBlock Pit room b = (room.is_pit ≡ false) × IsAscending (room.blocks ++ b ∷ [])
TakesBlock _ room b = Unit {0}

-- the line has blocks of the net, and the room is one for it, which takes the block of a PIT line
pub record MayPut (net : NetView) (room : RoomView) (line : BodyLine) : Type 0 where
  pub fits : IsRoomFor net room
  pub block : line.block < length net.worths
  pub other : line.kind ≡ Rest → line.other < length net.worths
  pub takes : TakesBlock line.kind room line.block

-- a room with what a line brings
pub record WithLine (net : NetView) (line : BodyLine) (before later : RoomView) : Type 0 where
  pub size : length later.balances ≡ length before.balances
  pub balances : (b : ℕ) → b < length net.worths → amount_at later.balances b ≡ plus (amount_at before.balances b)
      (brings_by line.kind line b)
  pub blocks : later.blocks ≡ before.blocks ++ block_if_pit line.kind line.block []
  pub space : later.space ≡ before.space
  pub is_pit : later.is_pit ≡ before.is_pit
  pub worth : later.worth ≡ plus before.worth (worth_of_blocks net.worths (block_if_pit line.kind line.block []))
  pub left : later.left ≡ minus before.left (source_by line.kind (amount_of line))

-- a sum of the room doesn't fit with what a line brings
abbrev pub SumOverflowsWith : NetView → RoomView → BodyLine → Type 0
SumOverflowsWith net room l =
    ((b : ℕ) × (b < length net.worths) × ¬ (FitsPair (plus (amount_at room.balances b) (brings_by l.kind l b))))
    ⊎ (¬ (FitsPair (plus room.worth (worth_of_blocks net.worths (block_if_pit l.kind l.block []))))
    ⊎ ¬ (FitsPair (minus room.left (source_by l.kind (amount_of l)))))

-- the amount of a line of this kind is negative
abbrev pub IsNegative : LineKind → Amount → Type 0
IsNegative Pit x = ⊥
IsNegative End x = ⊥
IsNegative _ x = ¬ (AtMost zero_amount x)

-- the amount of a line of this kind is not negative, and more than a block of this worth gets from the source or gives
-- the sink
abbrev pub IsOverLimit : LineKind → Amount → Amount → Type 0
IsOverLimit Source worth x = AtMost zero_amount x × ¬ (AtMost x (positive worth))
IsOverLimit Sink worth x = AtMost zero_amount x × ¬ (AtMost x (negative worth))
IsOverLimit _ worth x = ⊥

-- Why a line is refused, in this order: its amount is negative; it is more than its block may get or give; or a sum, as
-- it is with the line, doesn't fit.
abbrev pub RefusedWhere : NetView → BodyLine → Type 0 → PitFault → Type 0
RefusedWhere net l overflows Negative = IsNegative l.kind (amount_of l)
RefusedWhere net l overflows (OverCapacity b) = (b ≡ l.block)
    × IsOverLimit l.kind (amount_at net.worths l.block) (amount_of l)
RefusedWhere net l overflows TooLarge = keeps_by l.kind net.worths l × overflows
RefusedWhere net l overflows _ = ⊥

-- a line of this kind is put, within its limits, or is refused
abbrev pub Puts : {U : Type 0} → LineKind → NetView → BodyLine → RoomView → RoomView → Result U PitFault → Type 0
Puts kind net l before later r =
    MatchResult r
    (λ _. WithLine net l before later × keeps_by kind net.worths l)
    (λ e. RefusedWhere net l (SumOverflowsWith net before l) e)

-- a line is refused after these lines, by their sums and its own amount
abbrev pub LineRefused : NetView → List BodyLine → BodyLine → PitFault → Type 0
LineRefused net ls l e = RefusedWhere net l (SomeLineSumOverflows net (ls ++ l ∷ [])) e

-- where the room had the sums over some lines, it has those over one more
abbrev pub PutsLine : NetView → BodyLine → RoomView → RoomView → Type 0
PutsLine net l before later = (ls : List BodyLine) → AreSumsOf net ls before → AreSumsOf net (ls ++ l ∷ []) later

-- where the room had the sums over some lines, one more is refused after them
abbrev pub RefusesLine : NetView → BodyLine → RoomView → PitFault → Type 0
RefusesLine net l before e = (ls : List BodyLine) → AreSumsOf net ls before → LineRefused net ls l e

-- where the room has the sums over lines that tell of a flow, this is the first block that the flow doesn't balance
abbrev pub IsFirstUnbalanced : NetView → RoomView → ℕ → Type 0
IsFirstUnbalanced net room b = (ls : List BodyLine) → LinesTell net ls → AreSumsOf net ls room
    → IsFirstNot (IsBalancedAt net (flow_of (length net.worths) net.pairs ls)) (length net.worths) b

-- where it has them, whether the pit is tight by that flow
abbrev pub TellsTight : NetView → RoomView → Bool → Type 0
TellsTight net room t = (ls : List BodyLine) → LinesTell net ls → AreSumsOf net ls room
    → IsTrue t ↔ IsTight net (flow_of (length net.worths) net.pairs ls) (holds_of (pit_of ls))
