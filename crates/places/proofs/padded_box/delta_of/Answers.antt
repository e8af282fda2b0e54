use Rattle.std.proofs.Common.{arith, ◌-ℤ◌, ◌+ℤ◌, ◌≡◌, ℤ, ℕ, pos, neg_ℤ}
use Rattle.std.proofs.lemmas.Int.{ints}
use Rattle.std.proofs.lemmas.Grind.{common_steps}
use Rattle.std.proofs.lemmas.Bool.Decides.{nat_tests}
use Rattle.places.proofs.padded_box.delta_of.Goals as goal

-- raised by p
raised : (o : ℤ) (p n : ℕ) → o ≡ neg_ℤ (pos p) +ℤ pos n → o ≡ pos n -ℤ pos p
raised o p n e = omega (arith, ints)

pub returns : goal.returns
returns c = record {
  a = c.in_ok-x.x;
  b = c.in_ok-y.y;
  c = c.in_ok-z.z;
  along = raised c.args.offset.0 c.args.of.now.px c.in_ok-x.x (grind (arith, common_steps));
  across = raised c.args.offset.1 c.args.of.now.py c.in_ok-y.y (grind (arith, common_steps));
  upward = raised c.args.offset.2 c.args.of.now.pz c.in_ok-z.z (grind (arith, common_steps));
  low = grind (arith, nat_tests, common_steps);
  near = grind (arith, nat_tests, common_steps);
  cell = grind (arith, common_steps);
}
