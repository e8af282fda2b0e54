use Rattle.fixed_worth.proofs.Common.{arith, w64, to_z-of_z, common_steps}
use Rattle.upit_file.proofs.RecordLines.{line_made, minus_pushed, none_pushed}
use Rattle.upit_file.proofs.written_record.record_line.Goals as goal

pub returns : goal.returns
returns c = grind (arith, common_steps, w64, to_z-of_z, minus_pushed, none_pushed, line_made)
