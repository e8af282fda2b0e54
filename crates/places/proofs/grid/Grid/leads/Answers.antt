use Rattle.fixed_worth.proofs.Common.{◌==◌, sym, arith, eq-eqb, common_steps, nat_tests}
use Rattle.places.specs.Grids.{cell_at, home_at, ways_at}
use Rattle.places.proofs.GridWays.{any_to}
use Rattle.places.proofs.grid.Grid.leads.Goals as goal

pub returns-then-cell_to-home : goal.returns-then-cell_to-home
returns-then-cell_to-home c =
    let g = c.args.self.now in
    sym (any_to (λ k. cell_at g c.args.b k == home_at g c.args.p) (ways_at g c.args.b) c.loop-k.k
    (grind (arith, common_steps)) (eq-eqb _ _ (grind (arith, nat_tests, common_steps))))
