use Rattle.std.proofs.Common.{◌≡◌}
use Rattle.prec_file.specs.Rests.{numbers_passing}
use Rattle.closure_net.specs.Network.{holds_of}
use Rattle.closure_net.proofs.search.Search.ascending.Given as goal

abbrev pub invariant-loop-b : goal.invariant-loop-b
invariant-loop-b l = l.blocks.items ≡ numbers_passing (holds_of l.self.found) l.b
