-- When a net can't be built, and how that prints.
use Rattle.std.specs.Prelude.{◌≡◌, ◌≢◌, ℕ, ◌<◌, ℤ, pos, ◌⊎◌, List, length, map, slice_index_or, codes}
use Rattle.ordered_group.specs.Prelude.{Amount, zero_amount, minus, positive, FitsPair, amount_at, SumFits}
use Rattle.ordered_group.specs.Prelude.{SumOverflows}
use Rattle.closure_net.specs.declared.net.NetFault.{NetFault}
use Rattle.closure_net.specs.declared.net.NetFault.TheVariants.{WrongLength, TooLarge, NoMemory}

-- the opposite of each worth fits
abbrev pub OppositesFit : List Amount → Type 0
OppositesFit ws = (b : ℕ) → b < length ws → FitsPair (minus zero_amount (amount_at ws b))

-- the opposite of some worth doesn't fit
abbrev pub OppositeOverflows : List Amount → Type 0
OppositeOverflows ws = (b : ℕ) × (b < length ws) × ¬ (FitsPair (minus zero_amount (amount_at ws b)))

-- each sum of the positive worths in their order fits
abbrev pub PositivesFit : List Amount → Type 0
PositivesFit ws = SumFits (λ b. positive (amount_at ws b)) (length ws)

-- some sum of the positive worths in their order doesn't fit
abbrev pub PositivesOverflow : List Amount → Type 0
PositivesOverflow ws = SumOverflows (λ b. positive (amount_at ws b)) (length ws)

-- these can be the worths of a net
abbrev pub WorthsFit : List Amount → Type 0
WorthsFit ws = OppositesFit ws × PositivesFit ws

-- a worth whose opposite doesn't fit, or a sum of the positive worths in their order that doesn't
abbrev pub WorthsOverflow : List Amount → Type 0
WorthsOverflow ws = OppositeOverflows ws ⊎ PositivesOverflow ws

-- why n blocks and these worths are no net
abbrev pub NetFaultStands : ℕ → List Amount → NetFault → Type 0
NetFaultStands n ws WrongLength = n ≢ length ws
NetFaultStands n ws TooLarge = (n ≡ length ws) × WorthsOverflow ws
NetFaultStands n ws NoMemory = ⊥

-- the amount of one of the blocks, by their worths in billionths, doesn't fit
abbrev pub BlockOverflows : (ℤ → ℕ → Amount) → ℕ → List ℤ → Type 0
BlockOverflows block n vs = (b : ℕ) × (b < length vs) × ¬ (FitsPair (block (slice_index_or vs b (pos 0)) n))

-- Why worths in billionths make no net: there isn't one for each block; the amount of a block, or a sum of amounts,
-- doesn't fit; or memory is refused, which is asked for only where the lengths agree.
abbrev pub WorthsFaultStands : (ℤ → ℕ → Amount) → ℕ → List ℤ → NetFault → Type 0
WorthsFaultStands block n vs WrongLength = n ≢ length vs
WorthsFaultStands block n vs TooLarge = (n ≡ length vs)
    × (BlockOverflows block n vs ⊎ WorthsOverflow (map (λ v. block v n) vs))
WorthsFaultStands block n vs NoMemory = n ≡ length vs

-- The fault's name.
abbrev pub net_fault_text : NetFault → List ℕ
net_fault_text WrongLength = codes "WrongLength"
net_fault_text TooLarge = codes "TooLarge"
net_fault_text NoMemory = codes "NoMemory"
