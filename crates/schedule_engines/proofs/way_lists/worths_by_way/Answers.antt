use Rattle.fixed_worth.proofs.Common.{rules, ◌∙◌, ℕ, ℤ, pos, slice_index, SFits, w128, to_z-of_z}
use Rattle.mine_inputs.specs.Ways.{worth_valued}
use Rattle.schedule_engines.proofs.Lists.{one_longer, one_more}
use Rattle.schedule_engines.proofs.way_lists.worths_by_way.Goals as goal

pub loop-i-preserved : goal.loop-i-preserved
loop-i-preserved c =
    let w = c.args.worths.now in
    let kept = c.args.kept.now in
    let i = c.loop-i.i in
    let f : ℕ → ℤ = λ k. worth_valued w c.args.factor c.args.way (slice_index kept k) in
    let fits : SFits w128 c.worth_by.result = search rules in
    let last = to_z-of_z w128 c.worth_by.result fits ∙ c.worth_by.ensures in (
      one_longer (pos 0) f i c.loop-i.nanos.items c.push_worth.new.nanos.items _ c.loop-i.invariant.0
          c.in_ok-push_worth.ensures last c.loop-i.invariant.1,
      one_more (pos 0) f i c.loop-i.nanos.items c.push_worth.new.nanos.items _ c.loop-i.invariant.0
          c.in_ok-push_worth.ensures last c.loop-i.invariant.1,
    )
