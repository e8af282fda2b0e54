use Rattle.fixed_worth.proofs.Common.{◌≡◌, take, string_bytes}
use Rattle.design_engines.specs.Designs.{needs_text}
use Rattle.design_engines.proofs.design_lines.text_of_needs.Given as goal

abbrev pub invariant-loop-i : goal.invariant-loop-i
invariant-loop-i l = string_bytes l.text ≡ needs_text (take l.i l.pairs)
