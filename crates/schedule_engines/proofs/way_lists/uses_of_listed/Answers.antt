use Rattle.fixed_worth.proofs.Common.{◌/◌, ◌%◌, length, slice_index}
use Rattle.schedule_engines.specs.Choice.{amount_by}
use Rattle.schedule_engines.proofs.Lists.{listed_more}
use Rattle.schedule_engines.proofs.way_lists.uses_of_listed.Goals as goal

pub loop-i-preserved : goal.loop-i-preserved
loop-i-preserved c =
    let u = c.args.uses in
    let kept = c.args.kept.now in
    listed_more (λ k. amount_by u.amounts.now u.shared.now u.ways u.blocks (k / length kept) c.args.way
    (slice_index kept (k % length kept))) c.loop-i.i c.loop-i.listed.items c.push_use.new.uses.items
    c.use_at.result c.in_ok-push_use.ensures c.use_at.ensures
    c.loop-i.invariant
