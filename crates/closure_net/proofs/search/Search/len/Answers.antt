use Rattle.std.proofs.Common.{arith, ap}
use Rattle.closure_net.proofs.Marks.{trues_most}
use Rattle.closure_net.proofs.search.Search.len.Goals as goal

pub returns-clause-most : goal.returns-clause-most
returns-clause-most c = omega (
  arith,
  c.self.invariant.count,
  trues_most c.self.inside.marks.items,
  ap (λ v. v.blocks) c.self.view_is,
  c.len.ensures,
)
