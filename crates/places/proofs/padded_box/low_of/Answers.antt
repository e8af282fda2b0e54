use Rattle.std.proofs.Common.{arith}
use Rattle.std.proofs.lemmas.Grind.{common_steps}
use Rattle.std.proofs.lemmas.Bool.Decides.{nat_tests}
use Rattle.places.proofs.padded_box.low_of.Goals as goal

pub returns : goal.returns
returns c = record {
  x = c.in_ok-x.x;
  y = c.in_ok-y.y;
  z = c.in_ok-z.z;
  along = grind (arith, common_steps);
  across = grind (arith, common_steps);
  upward = grind (arith, common_steps);
  wide = grind (arith, nat_tests, common_steps);
  deep = grind (arith, nat_tests, common_steps);
  cell_is = grind (arith, common_steps);
}
