use Rattle.fixed_worth.proofs.Common.{length}
use Rattle.mine_inputs.specs.Prelude.{ways_valued, worth_valued}
use Rattle.periods_file.specs.Periods.{periods_view}
use Rattle.sub_mines.specs.Renumbered.{number_in}
use Rattle.planned_mine.specs.Prelude.{used_valued}
use Rattle.planned_mine.proofs.FiguredWays.{ways_are}
use Rattle.planned_mine.proofs.way_figures.figures_of_ways.Goals as goal

pub returns-clause-are : goal.returns-clause-are
returns-clause-are c =
    let w = c.args.worths.now in
    let b = c.args.beside.now in
    let kept = c.args.kept.now in
    ways_are (length kept) (ways_valued w) (λ way i. worth_valued w c.args.factor way (number_in kept i))
    (λ r way i. used_valued w b r way (number_in kept i)) (periods_view b.periods) c.in-Ok-figures_of_way.figures
    c.in-Ok-figures_of_others.others.items
    c.in-Ok-figures_of_others.ensures.count c.in-Ok-figures_of_way.ensures.is c.in-Ok-figures_of_others.ensures.each
