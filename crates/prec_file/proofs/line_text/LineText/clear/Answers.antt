use Rattle.fixed_worth.proofs.Common.{arith, drop_all}
use Rattle.prec_file.proofs.line_text.LineText.clear.Goals as goal

pub returns : goal.returns
returns c = drop_all 77022 c.self.inside.bytes (omega (arith, c.self.told))
