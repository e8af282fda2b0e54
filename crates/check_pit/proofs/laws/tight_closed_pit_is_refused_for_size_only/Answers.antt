use Rattle.check_pit.proofs.Tightness.{refused_for_size_only}
use Rattle.check_pit.proofs.laws.tight_closed_pit_is_refused_for_size_only.Goals as goal

pub returns : goal.returns
returns c = refused_for_size_only
