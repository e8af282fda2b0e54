use Rattle.std.proofs.Common.{length}
use Rattle.fixed_worth.proofs.line_parts.first_block.Given as goal

abbrev pub decreases-loop-line : goal.decreases-loop-line
decreases-loop-line l = length l.lines.lines
