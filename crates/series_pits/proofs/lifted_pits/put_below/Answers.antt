use Rattle.std.proofs.Common.{◌≡◌, ◌+◌, length, sym, subst, arith}
use Rattle.series_pits.specs.Parting.{AreJoined}
use Rattle.series_pits.proofs.Merging.{put_second}
use Rattle.series_pits.proofs.lifted_pits.put_below.Goals as goal

pub loop-k-preserved : goal.loop-k-preserved
loop-k-preserved c = λ e h.
    let k = c.loop-k.k in
    subst (AreJoined e c.args.blocks.now (k + 1)) (sym c.in_ok-push.ensures.items)
    (put_second e c.args.blocks.now k c.loop-k.found.items (omega arith) (c.loop-k.invariant e h))

pub returns : goal.returns
returns c = λ e h.
    let put = c.loop-k.invariant e h in
    let most = put.most in
    let at : c.loop-k.k ≡ length c.args.blocks.now = omega (arith, most, c.loop-k-test.false) in
    subst (λ n. AreJoined e c.args.blocks.now n c.loop-k.found.items) at put
