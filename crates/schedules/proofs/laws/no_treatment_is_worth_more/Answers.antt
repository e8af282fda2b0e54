use Rattle.schedules.proofs.Ways.{no_treatment_is_worth_more}
use Rattle.schedules.proofs.laws.no_treatment_is_worth_more.Goals as goal

pub returns : goal.returns
returns c = no_treatment_is_worth_more
