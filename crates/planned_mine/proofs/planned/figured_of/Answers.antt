use Rattle.fixed_worth.proofs.Common.{rules, ◌≡◌, ℕ, List, refl, sym, subst, arith}
use Rattle.mine_inputs.specs.Prelude.{blocks_valued, ways_valued, worth_valued}
use Rattle.periods_file.specs.Periods.{periods_view}
use Rattle.schedule_engines.specs.Prelude.{AreListed}
use Rattle.planned_mine.specs.Prelude.{used_valued}
use Rattle.planned_mine.proofs.FiguredWays.{all_known, ways_alike, whole_figures}
use Rattle.planned_mine.proofs.planned.figured_of.Goals as goal

pub figures_of_ways-requires-clause-known : goal.figures_of_ways-requires-clause-known
figures_of_ways-requires-clause-known c =
    let n = c.len-count.result in
    let listed = subst (λ (xs : List ℕ). AreListed n (λ b. b) xs) (sym c.as_slice.ensures.value) c.in-Ok.ensures in
    let same : blocks_valued c.args.worths.now ≡ n = search rules in
    all_known n n (blocks_valued c.args.worths.now) c.as_slice.result.now listed refl same

pub returns-clause-is : goal.returns-clause-is
returns-clause-is c =
    let w = c.args.worths.now in
    let b = c.args.beside in
    let n = c.len-count.result in
    let found = c.in-Ok-figures_of_ways.found in
    let listed = subst (λ (xs : List ℕ). AreListed n (λ i. i) xs) (sym c.as_slice.ensures.value) c.in-Ok.ensures in
    record {
      figures = whole_figures c.args.predecessors.blocks n (ways_valued w) (worth_valued w c.args.factor)
          (used_valued w b) (periods_view b.periods) c.as_slice.result.now found.figures found.others.items listed
          c.len-count.ensures.is c.in-Ok-figures_of_ways.ensures.are;
      prices = c.in-Ok-figures_of_ways.ensures.prices;
      same_pairs = refl;
      same_waits = refl;
      same_lag = refl;
    }

pub returns-clause-sound : goal.returns-clause-sound
returns-clause-sound c =
    let w = c.args.worths.now in
    let b = c.args.beside in
    let n = c.len-count.result in
    let found = c.in-Ok-figures_of_ways.found in
    let listed = subst (λ (xs : List ℕ). AreListed n (λ i. i) xs) (sym c.as_slice.ensures.value) c.in-Ok.ensures in
    let all = whole_figures c.args.predecessors.blocks n (ways_valued w) (worth_valued w c.args.factor)
    (used_valued w b) (periods_view b.periods) c.as_slice.result.now found.figures found.others.items listed
    c.len-count.ensures.is c.in-Ok-figures_of_ways.ensures.are in
    let waiting : b.waits.blocks ≡ c.args.predecessors.blocks = search rules in
    record {
      waits = waiting;
      size = (all.each 0 (omega arith)).blocks;
      ways = ways_alike c.args.predecessors.blocks (ways_valued w) (worth_valued w c.args.factor) (used_valued w b)
          (periods_view b.periods) found.figures found.others.items all;
    }
