use Rattle.std.proofs.Common.{◌≡◌, ◌∙◌, ℤ, List, length, map, subst}
use Rattle.ordered_group.specs.Block.{scaled_block}
use Rattle.closure_net.specs.Prelude.{net_view, WorthsFaultStands}
use Rattle.shells.specs.Prices.{worths_at}
use Rattle.series_pits.proofs.Nets.{over_of}
use Rattle.series_pits.proofs.best_pits.net_at.Goals as goal

pub returns-in-Ok : goal.returns-in-Ok
returns-in-Ok g c =
    let r = c.args.rests in
    let worths : c.as_slice.result.now ≡ worths_at c.args.prices.now c.args.factor = c.as_slice.ensures.value
    ∙ c.in_ok-nanos.ensures in
    let M : List ℤ → Type 0 = λ vs. (c.in-Ok.net ≡ net_view r.pairs (map (λ v. scaled_block v r.blocks) vs))
    × (r.blocks ≡ length vs) in
    let made : M (worths_at c.args.prices.now c.args.factor) = subst M worths c.in-Ok.ensures in
    record {
      is_net = c.worths-worths.ensures.net;
      over = over_of scaled_block r c.args.prices.now c.args.factor
          c.in-Ok.net made.0 made.1;
    }

pub returns : goal.returns
returns g c = λ factors effort held.
    let worths : c.as_slice.result.now ≡ worths_at c.args.prices.now c.args.factor = c.as_slice.ensures.value
    ∙ c.in_ok-nanos.ensures in
    let F : List ℤ → Type 0 = λ vs. WorthsFaultStands scaled_block c.args.rests.blocks vs c.in-Err.fault in
    rw c.get.ensures.value (held, subst F worths c.in-Err.ensures)
