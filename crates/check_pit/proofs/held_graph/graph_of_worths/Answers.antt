use Rattle.fixed_worth.proofs.Common.{◌≡◌, ℕ, ℤ, map, sym, ap, subst, ◌∙◌}
use Rattle.closure_net.specs.Prelude.{NetView, WorthsFaultStands}
use Rattle.check_pit.proofs.held_graph.graph_of_worths.Goals as goal

pub returns-in-Ok-of_worths : goal.returns-in-Ok-of_worths
returns-in-Ok-of_worths g c =
    let block = g.G.OrderedGroup.block_parts in
    let same : c.in-Ok.none.blocks ≡ c.args.pairs.now.blocks = c.in-Ok.ensures ∙ c.len-blocks.ensures.is in
    let made = c.in-Ok-of_worths.ensures in (
      ap (λ (v : NetView). v.worths) made.0 ∙ ap (λ (n : ℕ). map (λ (x : ℤ). block x n) c.args.nanos.now) same,
      sym
          same ∙ made.1,
    )

pub returns-in-Err : goal.returns-in-Err
returns-in-Err g c =
    let same : c.in-Ok.none.blocks ≡ c.args.pairs.now.blocks = c.in-Ok.ensures ∙ c.len-blocks.ensures.is in
    subst (λ (n : ℕ). WorthsFaultStands g.G.OrderedGroup.block_parts n c.args.nanos.now c.in-Err.fault) same
    c.in-Err.ensures
