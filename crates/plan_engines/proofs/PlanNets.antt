-- The nets of the expanded mines of what was read, and of what the blocks of a pit have of it.
use Rattle.fixed_worth.proofs.Common.{ℕ, ◌<◌, ℤ, List, All, Some, None}
use Rattle.prec_file.specs.Rests.{RestsView}
use Rattle.closure_net.specs.Prelude.{IsAscending, IsNet}
use Rattle.mine_inputs.specs.declared.worths.Worths.{Worths}
use Rattle.mine_inputs.specs.Prelude.{IsMineRead, MineTexts, ways_of}
use Rattle.periods_file.specs.Periods.{periods_view}
use Rattle.production_figures.specs.Figures.{FiguresView}
use Rattle.schedule_engines.specs.Prelude.{ReadsPeriodsBy, ReadsWayUses}
use Rattle.planned_mine.specs.declared.bound_inputs.BesideRead.{BesideRead}
use Rattle.planned_mine.specs.declared.planned.Figured.{Figured}
use Rattle.planned_mine.specs.Prelude.{IsPartFigured, IsWholeFigured}
use Rattle.bound_engines.specs.Prelude.{IsPitOf, node_net}
use Rattle.bound_engines.proofs.Bounded.{denotes, net_told}
use Rattle.bound_engines.proofs.Within.{net_of_part}
use Rattle.plan_engines.specs.Prelude.{AreNodesOf, IsPlanNet}

module _ (texts : MineTexts) (periods uses : List ℕ) (worths : Worths) (factor : ℕ) (rests : RestsView)
    (beside : BesideRead)
    (m : IsMineRead texts factor worths rests)
    (pr : ReadsPeriodsBy (ways_of texts) periods (periods_view beside.periods))
    (ur : ReadsWayUses rests.blocks (ways_of texts) (periods_view beside.periods) uses beside.uses.items
    beside.waits)
    (q : Figured) (f : FiguresView) (others : List FiguresView) (prices : List ℕ) (pairs : RestsView)
    (node_worths : List ℤ) (nodes : AreNodesOf q f others prices pairs node_worths)
    (is : IsNet (node_net pairs node_worths)) where
  pub net_of_plan : IsWholeFigured worths factor rests beside q
      → IsPlanNet texts periods uses None (node_net pairs node_worths)
  net_of_plan whole =
      let x = nodes _ _ _ _ _ _ whole in
      record {
        denotes = denotes texts periods uses worths factor rests beside m pr ur prices x.prices;
        part = None;
        over = tt;
        is_net = is;
        of_nodes = net_told texts periods uses worths factor rests beside m pr ur f others prices pairs node_worths x;
      }

  -- the net of the nodes of a pit's blocks
  pub net_within : (certificate kept : List ℕ) (rising : IsAscending kept) (below : All (λ b. b < rests.blocks) kept)
      (pit : IsPitOf texts rests.blocks certificate kept) → IsPartFigured kept worths factor rests beside q
      → IsPlanNet texts periods uses (Some certificate) (node_net pairs node_worths)
  net_within certificate kept rising below pit p =
      let x = nodes _ _ _ _ _ _ p.figured in
      record {
        denotes = denotes texts periods uses worths factor rests beside m pr ur prices x.prices;
        part = Some (record { kept = kept; waits = q.waits.pairs.pairs });
        over = (pit, p.wait_pairs);
        is_net = is;
        of_nodes = net_of_part texts periods uses worths factor rests beside m pr ur certificate kept rising below pit
            q p f others prices pairs node_worths x;
      }
