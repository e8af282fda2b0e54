use Rattle.fixed_worth.proofs.Common.{◌/◌, ◌%◌, length, slice_index}
use Rattle.schedule_engines.specs.Choice.{AreListed, amount_by}
use Rattle.schedule_engines.proofs.way_lists.uses_of_listed.Given as goal

abbrev pub invariant-loop-i : goal.invariant-loop-i
invariant-loop-i l = AreListed l.i
    (λ i. amount_by l.uses.amounts.now l.uses.shared.now l.uses.ways l.uses.blocks (i / length l.kept) l.way
    (slice_index l.kept (i % length l.kept))) l.listed.items
