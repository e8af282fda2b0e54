use Rattle.std.proofs.Common.{rules, ap, subst}
use Rattle.closure_net.specs.Network.{NetView}
use Rattle.word_runner.specs.Prelude.{WordsView, IsOpenRunOf, IsQuietEnd}
use Rattle.word_runner.proofs.Settles.{rooms_closed, ends_closed, open_closed}
use Rattle.word_runner.proofs.settling.close.Goals as goal

pub flow_of-flow-requires-clause-rooms : goal.flow_of-flow-requires-clause-rooms
flow_of-flow-requires-clause-rooms c = rooms_closed c.words.inside.net _ _ _ _ _ c.words.invariant.key
    c.close_with-closed.ensures.values.2

pub returns-in-Ok : goal.returns-in-Ok
returns-in-Ok c =
    let net = ap (λ (w : WordsView). w.cut) c.words.view_is in
    subst (λ (n : NetView). IsQuietEnd n c.args.place.me.0.made c.in-Ok.flow) net
    (ends_closed c.words.inside.net _ _ _ _ _ c.words.invariant.key c.close_with-closed.ensures.values.2
    c.words.inside.total c.words.invariant.all c.requires.all c.in-Ok.flow (search rules) c.in-Ok.ensures)

pub returns-then-not-has_arrived : goal.returns-then-not-has_arrived
returns-then-not-has_arrived c =
    let net = ap (λ (w : WordsView). w.cut) c.words.view_is in
    subst (λ (n : NetView). IsOpenRunOf n c.args.place.me.0.made) net
    (open_closed c.words.inside.net _ _ _ _ _ c.words.invariant.key c.close_with-closed.ensures.values.2
    c.words.inside.total c.words.invariant.all c.requires.all (search rules))
