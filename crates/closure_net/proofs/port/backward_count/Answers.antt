use Rattle.std.proofs.Common.{arith}
use Rattle.closure_net.proofs.PortPlaces.{length_back, back_most}
use Rattle.closure_net.proofs.port.backward_count.Goals as goal

pub overflow_cast-result : goal.overflow_cast-result
overflow_cast-result c = omega (
  arith,
  length_back c.args.rests.now.pairs c.args.b _ c.below.ensures,
  back_most c.args.rests.now.pairs c.args.b,
  c.len-n.ensures.few,
)

pub returns-clause-few : goal.returns-clause-few
returns-clause-few c = omega (
  arith,
  length_back c.args.rests.now.pairs c.args.b _ c.below.ensures,
  back_most c.args.rests.now.pairs c.args.b,
  c.len-n.ensures.few,
)
