use Rattle.fixed_worth.proofs.Common.{IfOk-weaker}
use Rattle.bound_engines.specs.Prelude.{IsParted, IsPartedOf}
use Rattle.bound_engines.proofs.PitsTold.{parted_is}
use Rattle.bound_engines.proofs.pit_part.parted_by.Goals as goal

pub returns-clause-part : goal.returns-clause-part
returns-clause-part g c =
    let o = g.C.Read.remaining c.args.device.now in
    let mine = c.args.mine in
    let beside = c.args.beside.now in
    IfOk-weaker c.part_of_pit.result (IsPartedOf c.in-Ok.pit beside) (IsParted o mine.worths mine.predecessors beside)
    (parted_is o mine.worths mine.predecessors beside c.in-Ok.pit c.in-Ok.ensures.1.0 c.in-Ok.ensures.0)
    c.part_of_pit.ensures.part
