use Rattle.std.proofs.Common.{rules, subst}
use Rattle.ordered_group.specs.Prelude.{Amount, amount_at}
use Rattle.word_runner.specs.CutNets.{scaled_parts, IsCutWorth}
use Rattle.word_runner.proofs.Cuts.{pushed_all}
use Rattle.word_runner.proofs.clipped_worths.cut_worths.Goals as goal

pub loop-b-preserved : goal.loop-b-preserved
loop-b-preserved c =
    let h = c.loop-b.invariant in
    let x = c.cut_worth-worth.result in
    let net = c.args.net.now in (
      search rules,
      search rules,
      pushed_all (λ j a. IsCutWorth (amount_at net.worths j) c.args.most a) c.loop-b.worths.items
          c.push.new.self.items x c.loop-b.b c.in_ok-push.ensures.items h.1 h.2
          (subst (λ (w : Amount). IsCutWorth w c.args.most (scaled_parts x)) c.worth.ensures c.cut_worth-worth.ensures),
    )
