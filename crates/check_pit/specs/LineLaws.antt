-- What sums over the lines of a faultless text say of its flow.
use Rattle.std.specs.Prelude.{◌≡◌, ◌↔◌, ℕ, ◌<◌, Bool, List, length, None}
use Rattle.ordered_group.specs.Amount.{zero_amount}
use Rattle.prec_file.specs.Prelude.{IsRests, has_pair}
use Rattle.closure_net.specs.Prelude.{NetView, holds_of, IsBalancedAt, IsTight}
use Rattle.certificate_file.specs.declared.body_lines.BodyLine.{BodyLine}
use Rattle.certificate_file.specs.Prelude.{Piece, body_fault, lines_of_pieces, DenotesFlow, pit_of}
use Rattle.check_pit.specs.Checks.{NoneBelowZero, AllWithin}
use Rattle.check_pit.specs.LineSums.{balance_of, worth_of_blocks, residual_after, flow_of, KeepLimits}

-- the lines denote this flow; and of it the sums over the lines tell whether a block is balanced and the pit tight
pub record LinesTell (net : NetView) (ls : List BodyLine) : Type 0 where
  pub denotes : DenotesFlow (length net.worths) net.pairs ls (pit_of ls) (flow_of (length net.worths) net.pairs ls)
  pub balanced : (b : ℕ) → b < length net.worths → IsBalancedAt net (flow_of (length net.worths) net.pairs ls) b ↔
      (balance_of ls b ≡ zero_amount)
  pub tight : IsTight net (flow_of (length net.worths) net.pairs ls) (holds_of (pit_of ls)) ↔
      (worth_of_blocks net.worths (pit_of ls) ≡ residual_after net.worths ls)
  pub limits : KeepLimits net.worths ls → NoneBelowZero (flow_of (length net.worths) net.pairs ls)
      × AllWithin net (flow_of (length net.worths) net.pairs ls)

-- so it is for the lines after the header of every text without a fault
abbrev pub LineSumsTell : Type 0
LineSumsTell = (counts : Bool) (net : NetView) (number : ℕ) (ps : List Piece)
    → IsRests (record { blocks = length net.worths; pairs = net.pairs })
    → body_fault counts (length net.worths) (has_pair net.pairs) None number ps ≡ None
    → LinesTell net (lines_of_pieces counts (length net.worths) ps)
