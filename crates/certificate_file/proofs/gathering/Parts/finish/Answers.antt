use Rattle.std.proofs.Common.{sym, ap, subst}
use Rattle.closure_net.specs.Network.{IsAscending}
use Rattle.certificate_file.specs.Gathered.{Gathered}
use Rattle.certificate_file.proofs.gathering.Parts.finish.Goals as goal

pub returns-in_err-pit : goal.returns-in_err-pit
returns-in_err-pit g c = rw c.from_residual.ensures
    (λ h. c.in_err-pit.ensures (subst IsAscending (sym (ap (λ (v : Gathered). v.pit) c.self.view_is)) h))
