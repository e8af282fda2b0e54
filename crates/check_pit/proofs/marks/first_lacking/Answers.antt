use Rattle.std.proofs.Common.{false, get_or}
use Rattle.places.specs.Prelude.{gridded, in_time, timed}
use Rattle.check_pit.proofs.LeastLacks.{first_lacks}
use Rattle.check_pit.proofs.marks.first_lacking.Goals as goal

pub returns-in-Placed : goal.returns-in-Placed
returns-in-Placed c = rw c.in-Placed.is
    (first_lacks (gridded c.in-Placed.grid.now) c.len-blocks.ensures.all (λ q. get_or c.args.marks.now q false)
    c.args.b c.least_placed.result c.least_placed.ensures)

pub returns-in-Timed : goal.returns-in-Timed
returns-in-Timed c = rw c.in-Timed.is
    (first_lacks (in_time (timed c.in-Timed.nodes.now)) c.len-nodes.ensures.all (λ q. get_or c.args.marks.now q false)
    c.args.b c.least_placed-in-Timed.result c.least_placed-in-Timed.ensures)
