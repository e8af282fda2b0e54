use Rattle.fixed_worth.proofs.Common.{◌/◌, ◌%◌, slice_index}
use Rattle.schedule_engines.specs.Choice.{AreListed, amount_by}
use Rattle.schedule_engines.proofs.choice.uses_chosen.Given as goal

abbrev pub invariant-loop-i : goal.invariant-loop-i
invariant-loop-i l = AreListed l.i
    (λ i. amount_by l.uses.amounts.now l.uses.shared.now l.uses.ways l.uses.blocks (i / l.uses.blocks)
    (slice_index l.ways (i % l.uses.blocks)) (i % l.uses.blocks)) l.chosen.items
