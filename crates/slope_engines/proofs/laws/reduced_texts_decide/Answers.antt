use Rattle.slope_engines.proofs.Reduced.{reduced_texts}
use Rattle.slope_engines.proofs.laws.reduced_texts_decide.Goals as goal

pub returns : goal.returns
returns c = reduced_texts
