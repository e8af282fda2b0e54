use Rattle.std.proofs.Common.{length}
use Rattle.fixed_worth.specs.Record.{numbered_lines}
use Rattle.upit_file.proofs.BodyLines.{Kept}
use Rattle.upit_file.proofs.body.read_body.Given as goal

abbrev pub invariant-loop-text : goal.invariant-loop-text
invariant-loop-text l = Kept l.n (numbered_lines l.fn.lines.number l.fn.lines.lines) l.seen.items l.values.items l.lines

abbrev pub decreases-loop-text : goal.decreases-loop-text
decreases-loop-text l = length l.lines.lines
