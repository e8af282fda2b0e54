use Rattle.fixed_worth.proofs.Common.{rules, FitsSigned, w128, to_z-of_z}
use Rattle.closure_net.specs.Prelude.{holds_of, Mine, IsBest, IsNetOf}
use Rattle.series_pits.proofs.Nets.{row_is}
use Rattle.series_pits.proofs.best_pits.best_of.Goals as goal

pub returns : goal.returns
returns g c = λ net solved.
    let laws = g.met.G.OrderedGroup g.world.𝓛 g.world.𝓜 g.world.𝓡 ((λ s x. x), (λ x. x), (λ x. x), λ x. x) in
    let s = c.args.solution in
    let fits : FitsSigned w128 s.worth = search rules in
    let best : (mine : Mine) → IsNetOf g.G.OrderedGroup.block_parts mine net
    → IsBest mine (holds_of s.pit) = λ mine h. c.greatest_set_is_best_pit.ensures mine net (holds_of s.pit) h
    solved.greatest in
    record {
      at = c.get.ensures.value;
      is_best = best;
      row_is = λ mine h. row_is g.G.OrderedGroup.block_parts g.G.OrderedGroup.set_worth laws.tells_worth net s.pit
          solved.sound.proves.of_net solved.ascending c.get.result s.count s.worth _ solved.count_is solved.worth_is
          (to_z-of_z w128 s.worth fits) mine h (best mine h);
    }
