-- Sums over the lines of a certificate, as they are made while the lines are read.
use Rattle.std.specs.Prelude.{ℕ, ◌<◌, ◌==◌, ◌⊎◌, List, [], ◌∷◌, length, map, slice_index_or, All}
use Rattle.std.specs.List.{range_with_len}
use Rattle.ordered_group.specs.Prelude.{Amount, zero_amount, plus, minus, AtMost, FitsPair, positive, negative, total}
use Rattle.ordered_group.specs.Prelude.{where_so, amount_at}
use Rattle.closure_net.specs.Network.{NetView, FlowView, flow_view}
use Rattle.certificate_file.specs.declared.body_lines.LineKind.{LineKind}
use Rattle.certificate_file.specs.declared.body_lines.LineKind.TheVariants.{Source, Rest, Sink}
use Rattle.certificate_file.specs.declared.body_lines.BodyLine.{BodyLine}
use Rattle.certificate_file.specs.Certificate.{pit_of, amount_of, given_amount, gives_source, gives_rest, gives_sink}

-- what a line of a kind brings block b, less what it takes from it
abbrev pub brings_by : LineKind → BodyLine → ℕ → Amount
brings_by Source l b = where_so (l.block == b) (amount_of l)
brings_by Rest l b = minus (where_so (l.other == b) (amount_of l)) (where_so (l.block == b) (amount_of l))
brings_by Sink l b = minus zero_amount (where_so (l.block == b) (amount_of l))
brings_by _ l b = zero_amount

-- what lines bring block b, less what they take from it
abbrev pub balance_of : List BodyLine → ℕ → Amount
balance_of [] b = zero_amount
balance_of (l ∷ ls) b = plus (brings_by l.kind l b) (balance_of ls b)

-- an amount of a line, where that is a SOURCE line
abbrev pub source_by : LineKind → Amount → Amount
source_by Source x = x
source_by _ x = zero_amount

-- what the SOURCE lines give
abbrev pub source_sum : List BodyLine → Amount
source_sum [] = zero_amount
source_sum (l ∷ ls) = plus (source_by l.kind (amount_of l)) (source_sum ls)

-- the residual capacity of the source after the lines: what it could still give
abbrev pub residual_after : List Amount → List BodyLine → Amount
residual_after ws ls = minus (total (λ b. positive (amount_at ws b)) (length ws)) (source_sum ls)

-- what the blocks of a list are worth
abbrev pub worth_of_blocks : List Amount → List ℕ → Amount
worth_of_blocks ws [] = zero_amount
worth_of_blocks ws (b ∷ bs) = plus (amount_at ws b) (worth_of_blocks ws bs)

-- a line's amount is not negative, and no more than the worth of its block lets the source give or the sink take
abbrev pub keeps_by : LineKind → List Amount → BodyLine → Type 0
keeps_by Source ws l = AtMost zero_amount (amount_of l) × AtMost (amount_of l) (positive (amount_at ws l.block))
keeps_by Rest ws l = AtMost zero_amount (amount_of l)
keeps_by Sink ws l = AtMost zero_amount (amount_of l) × AtMost (amount_of l) (negative (amount_at ws l.block))
keeps_by _ ws l = Unit {0}

-- no line's amount is negative, or more than the worth of its block lets the source give or the sink take
abbrev pub KeepLimits : List Amount → List BodyLine → Type 0
KeepLimits ws ls = All (λ l. keeps_by l.kind ws l) ls

-- the flow that lines say, over n blocks and these pairs: an amount without a line is zero
abbrev pub flow_of : ℕ → List (ℕ × ℕ) → List BodyLine → FlowView
flow_of n pairs ls =
    flow_view (map (λ b. given_amount (gives_source b) zero_amount ls) (range_with_len 0 n))
    (map (λ k. given_amount (gives_rest (slice_index_or pairs k (0, 0))) zero_amount ls)
    (range_with_len 0 (length pairs)))
    (map (λ b. given_amount (gives_sink b) zero_amount ls) (range_with_len 0 n))

-- a sum over the lines doesn't fit: the balance of a block, the worth of the pit, or what the source could still give
abbrev pub SomeLineSumOverflows : NetView → List BodyLine → Type 0
SomeLineSumOverflows net ls =
    ((b : ℕ) × (b < length net.worths) × ¬ (FitsPair (balance_of ls b)))
    ⊎ (¬ (FitsPair (worth_of_blocks net.worths (pit_of ls))) ⊎ ¬ (FitsPair (residual_after net.worths ls)))
