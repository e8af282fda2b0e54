use Rattle.fixed_worth.proofs.Common.{ℕ, ◌/◌, ◌%◌, ◌<◌, ap, ◌∙◌, arith}
use Rattle.prec_file.specs.Rests.{above_of}
use Rattle.expanded_mine.proofs.EarlyNodes.{early_is}
use Rattle.expanded_mine.proofs.node_worths.is_early.Goals as goal

pub returns : goal.returns
returns c =
    let w = c.args.waits.now.pairs in
    let is = c.len-blocks.ensures.is in
    let period = ap (λ (k : ℕ). c.args.node / k) is in
    let low : c.args.node / w.blocks < c.args.waits.now.lag = omega (arith, period) in
    early_is w c.len-blocks.ensures.all w.blocks c.args.waits.now.lag c.args.node c.above.result.now
    (c.above.ensures ∙ ap (λ (k : ℕ). above_of w.pairs (c.args.node % k)) is) low
