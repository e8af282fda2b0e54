use Rattle.check_engines.proofs.Nested.{accepted_are_nested}
use Rattle.check_engines.proofs.laws.accepted_pits_are_nested.Goals as goal

pub returns : goal.returns
returns c = accepted_are_nested
