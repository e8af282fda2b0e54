use Rattle.std.proofs.Common.{◌+◌, take, sym, subst, arith}
use Rattle.closure_net.specs.Network.{holds_of}
use Rattle.series_pits.specs.Parting.{AreJoined}
use Rattle.series_pits.proofs.Merging.{put_first}
use Rattle.series_pits.proofs.lifted_pits.merged.Goals as goal

pub loop-b-preserved : goal.loop-b-preserved
loop-b-preserved c =
    let first = c.args.first.now in
    let second = c.args.second.now in
    let i = c.loop-b.b-index in
    let put = c.in_ok-next.ensures (holds_of (take i first)) c.loop-b.invariant in
    subst (AreJoined (holds_of (take (i + 1) first)) second c.in_ok-next.next) (sym c.in_ok-push.ensures.items)
    (put_first first second i c.in_ok-next.next _ (omega arith) put)
