use Rattle.fixed_worth.proofs.Common.{◌≡◌, ℕ, ◌+◌, ◌<◌, length, get_or}
use Rattle.mine_inputs.specs.Prelude.{worth_valued}
use Rattle.periods_file.specs.Periods.{periods_view}
use Rattle.production_figures.specs.Figures.{FiguresView}
use Rattle.sub_mines.specs.Renumbered.{number_in}
use Rattle.planned_mine.specs.Prelude.{IsFiguresBy, used_valued}
use Rattle.planned_mine.proofs.way_figures.figures_of_others.Given as goal

abbrev pub invariant-loop-k : goal.invariant-loop-k
invariant-loop-k l = (length l.others.items ≡ l.k)
    × ((j : ℕ) (g : FiguresView) → j < l.k → IsFiguresBy (length l.kept) (periods_view l.beside.periods)
    (λ i. worth_valued l.worths l.factor (j + 1) (number_in l.kept i))
    (λ r i. used_valued l.worths l.beside r (j + 1) (number_in l.kept i)) (get_or l.others.items j g))
