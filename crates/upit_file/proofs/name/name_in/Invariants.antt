use Rattle.std.proofs.Common.{◌≡◌}
use Rattle.upit_file.specs.Header.{last_end}
use Rattle.upit_file.proofs.name.name_in.Given as goal

abbrev pub invariant-loop-field : goal.invariant-loop-field
invariant-loop-field l = last_end l.end l.field-iterator ≡ last_end l.initial.end l.initial.field-iterator
