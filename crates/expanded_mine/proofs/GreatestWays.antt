-- The greatest of what a block leaves, way by way.
use Rattle.fixed_worth.proofs.Common.{◌≡◌, ℕ, ◌+◌, ◌<◌, List, length, get_or, sym, ap, ap₂, ◌∙◌, add-one, ℤ}
use Rattle.fixed_worth.proofs.Common.{get_or_default}
use Rattle.std.specs.Int.{int_max}
use Rattle.production_figures.specs.Figures.{FiguresView}
use Rattle.expanded_mine.specs.Nodes.{figures_by, most_of}

-- the figures of one way more, and the greatest of what is left by it and by those before
pub next_way : (f : FiguresView) (others : List FiguresView) (d : ℕ) (g : FiguresView) → d < length others
    → g ≡ get_or others d g → g ≡ figures_by f others (d + 1)
next_way f others d g l is = is ∙ get_or_default others d g f l ∙ ap (figures_by f others) (sym (add-one d))

pub most_next : (F : ℕ → ℤ) (d : ℕ) (x y z : ℤ) → x ≡ most_of F d → y ≡ F (d + 1) → z ≡ int_max x y
    → z ≡ most_of F (d + 1)
most_next F d x y z e f g = g ∙ ap₂ int_max e (f ∙ ap F (add-one d)) ∙ ap (most_of F) (sym (add-one d))
