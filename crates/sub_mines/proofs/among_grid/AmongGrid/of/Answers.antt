use Rattle.std.proofs.Common.{ℕ, length, subst}
use Rattle.sub_mines.specs.Prelude.{ArePlacesAmong}
use Rattle.sub_mines.proofs.GridParts.{among_part}
use Rattle.sub_mines.proofs.among_grid.AmongGrid.of.Goals as goal

pub returns-clause-part : goal.returns-clause-part
returns-clause-part c =
    among_part (record { grid = c.args.grid.now; kept = c.args.kept.now; places = c.in_ok-places.places.items })
    (record {
      precedes = c.len-blocks.ensures.all;
      ascending = c.requires.ascending;
      below = c.requires.below;
      size = c.requires.size;
      places = subst (λ (n : ℕ). ArePlacesAmong n c.args.kept.now (length c.args.kept.now)
          c.in_ok-places.places.items) c.len-blocks.ensures.is c.in_ok-places.ensures;
    })
