use Rattle.fixed_worth.proofs.Common.{rules, ◌∙◌, ℕ, ℤ, pos, slice_index, SFits, w128, to_z-of_z}
use Rattle.mine_inputs.specs.Ways.{worth_valued}
use Rattle.schedule_engines.proofs.Lists.{one_longer, one_more}
use Rattle.schedule_engines.proofs.choice.worths_chosen.Goals as goal

pub loop-b-preserved : goal.loop-b-preserved
loop-b-preserved c =
    let w = c.args.worths.now in
    let ways = c.args.ways.now in
    let b = c.loop-b.b in
    let f : ℕ → ℤ = λ k. worth_valued w c.args.factor (slice_index ways k) k in
    let fits : SFits w128 c.worth_by.result = search rules in
    let last = to_z-of_z w128 c.worth_by.result fits ∙ c.worth_by.ensures in (
      one_longer (pos 0) f b c.loop-b.nanos.items c.push_worth.new.nanos.items _ c.loop-b.invariant.0
          c.in_ok-push_worth.ensures last c.loop-b.invariant.1,
      one_more (pos 0) f b c.loop-b.nanos.items c.push_worth.new.nanos.items _ c.loop-b.invariant.0
          c.in_ok-push_worth.ensures last c.loop-b.invariant.1,
    )
