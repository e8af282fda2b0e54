use Rattle.std.proofs.Common.{◌≡◌}
use Rattle.prec_file.specs.Rests.{numbers_passing}
use Rattle.sub_mines.specs.Parts.{every_block}
use Rattle.series_pits.proofs.mine_parts.whole.Given as goal

abbrev pub invariant-loop-b : goal.invariant-loop-b
invariant-loop-b l = l.kept.items ≡ numbers_passing every_block l.b
