use Rattle.fixed_worth.proofs.Common.{subst, MatchResult}
use Rattle.closure_net.specs.Network.{NetView}
use Rattle.workers.specs.Prelude.{Settles, RunFaultStands}
use Rattle.workers.proofs.RunEnds.{answers}
use Rattle.workers.proofs.solving.solve.Goals as goal

pub returns-clause-answer : goal.returns-clause-answer
returns-clause-answer g c =
    answers (λ s. s.flow) (λ s. s.steps) c.args.net.now c.args.workers c.args.steps c.flow_of.result
    (subst (λ (n : NetView). MatchResult c.flow_of.result (λ s. Settles n c.args.steps s.flow s.steps)
    (λ fault. RunFaultStands n c.args.steps fault)) c.in_ok-board.ensures.net_is c.flow_of.ensures)
