use Rattle.std.proofs.Common.{sym, ap, ◌∙◌}
use Rattle.machine_law.specs.Operations.{operation_as}
use Rattle.async_step.proofs.Turns.{push_port, give_port, turn}
use Rattle.async_step.proofs.state.State.advance.Goals as goal

pub move_capacity-requires-clause-port : goal.move_capacity-requires-clause-port
move_capacity-requires-clause-port g c κs within = push_port _ _ _ _ _ c.requires.over
    (sym (ap (operation_as g.G.OrderedGroup.parts_of) c.in-PushDue.is) ∙ c.present.ensures)

pub give_excess-requires-clause-port : goal.give_excess-requires-clause-port
give_excess-requires-clause-port g c κs within = give_port _ _ _ _ _ c.requires.over
    (sym (ap (operation_as g.G.OrderedGroup.parts_of) c.in-GiveDue.is) ∙ c.present.ensures)

pub returns-in-Idle : goal.returns-in-Idle
returns-in-Idle g c = turn _ _ _ _ _ _ _ (sym (ap (operation_as g.G.OrderedGroup.parts_of) c.in-Idle.is)
    ∙ c.present.ensures) c.read_excess.ensures

pub returns-in-TakeDue : goal.returns-in-TakeDue
returns-in-TakeDue g c = turn _ _ _ _ _ _ _ (sym (ap (operation_as g.G.OrderedGroup.parts_of) c.in-TakeDue.is)
    ∙ c.present.ensures) c.take_excess.ensures

pub returns-in-RaiseDue : goal.returns-in-RaiseDue
returns-in-RaiseDue g c = turn _ _ _ _ _ _ _ (sym (ap (operation_as g.G.OrderedGroup.parts_of) c.in-RaiseDue.is)
    ∙ c.present.ensures) c.raise_label.ensures
