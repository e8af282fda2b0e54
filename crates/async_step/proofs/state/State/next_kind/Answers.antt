use Rattle.std.proofs.Common.{sym, ap, ◌∙◌}
use Rattle.machine_law.specs.Operations.{operation_as}
use Rattle.async_step.proofs.Turns.{scan_inside}
use Rattle.async_step.proofs.state.State.next_kind.Goals as goal

pub port-requires-clause-inside : goal.port-requires-clause-inside
port-requires-clause-inside g c κs within = scan_inside _ _ _ _ _ _ _ c.requires.over
    (sym (ap (operation_as g.G.OrderedGroup.parts_of) c.in-Scan.is) ∙ c.present.ensures)
