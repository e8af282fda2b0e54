use Rattle.std.proofs.Common.{ℕ, ◌<◌, length}
use Rattle.prec_file.specs.Rests.{from_at}
use Rattle.closure_net.specs.Network.{holds_of}
use Rattle.check_pit.specs.Checks.{StaysAt}
use Rattle.check_pit.proofs.closing.first_open.Given as goal

abbrev pub invariant-loop-b : goal.invariant-loop-b
invariant-loop-b g l = (k : ℕ) → k < length l.fn.net.pairs → from_at l.fn.net.pairs k < l.b
    → StaysAt l.fn.net.pairs (holds_of l.fn.pit) k
