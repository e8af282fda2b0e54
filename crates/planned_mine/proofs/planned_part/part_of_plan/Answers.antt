use Rattle.fixed_worth.proofs.Common.{rules, ◌≡◌, ℕ, ◌<◌, All, length, refl, sym, subst, arith, ◌∙◌}
use Rattle.prec_file.specs.Rests.{RestsView}
use Rattle.mine_inputs.specs.Prelude.{blocks_valued, ways_valued, worth_valued}
use Rattle.periods_file.specs.Periods.{periods_view}
use Rattle.sub_mines.specs.Renumbered.{IsPartPairs, number_in}
use Rattle.planned_mine.specs.Prelude.{AreWayFigures, used_valued}
use Rattle.planned_mine.proofs.FiguredWays.{ways_alike}
use Rattle.planned_mine.proofs.planned_part.part_of_plan.Goals as goal

pub figures_of_ways-requires-clause-known : goal.figures_of_ways-requires-clause-known
figures_of_ways-requires-clause-known c =
    let same : c.args.held.now.blocks ≡ blocks_valued c.args.worths.now = search rules in
    subst (λ (n : ℕ). All (λ b. b < n) c.args.kept.now) same c.requires.below

pub returns-clause-is : goal.returns-clause-is
returns-clause-is c =
    let w = c.args.worths.now in
    let b = c.args.beside.now in
    let kept = c.args.kept.now in
    let found = c.in-Ok-figures_of_ways.found in
    let mine = c.in-Ok-pairs_among.pairs in
    let is = c.in-Ok-pairs_among.ensures.is in
    let waiting = c.in-Ok-pairs_among-2.ensures.is in
    let F : ℕ → Type 0 = λ n. AreWayFigures n (ways_valued w)
    (λ way i. worth_valued w c.args.factor way (number_in kept i))
    (λ r way i. used_valued w b r way (number_in kept i)) (periods_view b.periods) found.figures
    found.others.items in
    record {
      figured = record {
        figures = subst F (sym is.0) c.in-Ok-figures_of_ways.ensures.are;
        prices =
            c.in-Ok-figures_of_ways.ensures.prices;
        same_pairs = refl;
        same_waits = refl;
        same_lag = refl;
      };
      blocks = is.0;
      pairs = subst (λ (r : RestsView). IsPartPairs kept r.pairs mine.pairs) c.in-Ok.ensures.is is.1;
      wait_blocks = waiting.0;
      wait_pairs = waiting.1;
    }

pub returns-clause-sound : goal.returns-clause-sound
returns-clause-sound c =
    let w = c.args.worths.now in
    let b = c.args.beside.now in
    let kept = c.args.kept.now in
    let found = c.in-Ok-figures_of_ways.found in
    let is = c.in-Ok-pairs_among.ensures.is in
    let all = c.in-Ok-figures_of_ways.ensures.are in
    record {
      waits = c.in-Ok-pairs_among-2.ensures.is.0 ∙ sym is.0;
      size = (all.each 0 (omega arith)).blocks ∙ sym is.0;
      ways = ways_alike (length kept) (ways_valued w) (λ way i. worth_valued w c.args.factor way (number_in kept i))
          (λ r way i. used_valued w b r way (number_in kept i)) (periods_view b.periods) found.figures
          found.others.items all;
    }
