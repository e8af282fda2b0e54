use Rattle.fixed_worth.proofs.Common.{arith}
use Rattle.prec_file.specs.Indexes.{AreAbove}
use Rattle.prec_file.proofs.Rows.{above_are, above_told}
use Rattle.prec_file.proofs.predecessors.Predecessors.of_pairs.Goals as goal
use Rattle.prec_file.proofs.predecessors.Predecessors.of_pairs.Goals.{In_ok-predecessors}

held : (c : In_ok-predecessors)
    → AreAbove c.args.n c.args.pairs.now c.in_ok-firsts.firsts.items c.in_ok-predecessors.predecessors.items
held c = record {
  rests = record {
    blocks = c.requires.blocks;
    few = omega (arith, c.requires.few);
    known = c.requires.known;
    rising =
        c.requires.rising;
    apart = c.requires.apart;
  };
  few = c.requires.few;
  predecessors = c.in_ok-predecessors.ensures;
  firsts = c.in_ok-firsts.ensures;
}

pub invariant_of-result : goal.invariant_of-result
invariant_of-result c = above_told _ _ _ _ (held c)

pub returns : goal.returns
returns c = let e = above_are _ _ _ _ (held c) in λ i. record { blocks = c.args.n; pairs = e i }
