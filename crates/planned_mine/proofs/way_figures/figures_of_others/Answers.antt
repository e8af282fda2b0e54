use Rattle.fixed_worth.proofs.Common.{◌+◌, length}
use Rattle.mine_inputs.specs.Prelude.{worth_valued}
use Rattle.periods_file.specs.Periods.{periods_view}
use Rattle.sub_mines.specs.Renumbered.{number_in}
use Rattle.planned_mine.specs.Prelude.{IsFiguresBy, used_valued}
use Rattle.planned_mine.proofs.FiguredWays.{way_pushed}
use Rattle.planned_mine.proofs.way_figures.figures_of_others.Goals as goal

pub loop-k-preserved : goal.loop-k-preserved
loop-k-preserved c =
    let w = c.args.worths.now in
    let b = c.args.beside.now in
    let kept = c.args.kept.now in
    way_pushed (λ j g. IsFiguresBy (length kept) (periods_view b.periods)
    (λ i. worth_valued w c.args.factor (j + 1) (number_in kept i))
    (λ r i. used_valued w b r (j + 1) (number_in kept i)) g) c.loop-k.k c.loop-k.others.items
    c.push_figures.new.others.items
    c.in-Ok.figures c.loop-k.invariant.0 c.in-Ok-push_figures.ensures.is c.in-Ok.ensures.is c.loop-k.invariant.1
