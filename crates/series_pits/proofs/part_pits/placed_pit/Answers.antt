use Rattle.fixed_worth.proofs.Common.{◌≡◌, ◌∙◌, ◌<◌, ℕ, List, Bool, Option, IfSome, sym, ap, subst, false}
use Rattle.ordered_group.specs.Block.{scaled_block}
use Rattle.closure_net.specs.Prelude.{holds_of}
use Rattle.places.specs.Prelude.{gridded, implied}
use Rattle.design_value.specs.Prelude.{marked_in}
use Rattle.sub_mines.specs.Prelude.{among}
use Rattle.series_pits.specs.declared.part_pits.Draft.{Draft}
use Rattle.series_pits.specs.Prelude.{IsFewNet, mine_among}
use Rattle.series_pits.proofs.FewPairs.{placed_best}
use Rattle.series_pits.proofs.part_pits.placed_pit.Goals as goal

pub returns : goal.returns
returns c =
    let v = among c.in_ok-among.among in
    let prices = c.args.prices.now in
    let kept = c.args.kept.now in
    let k = c.args.factor in
    let draft = c.in-Some.draft in
    let few = subst (λ (o : Option Draft). IfSome o (λ d. IsFewNet scaled_block v prices kept k d.net)) c.in-Some.is
    c.in_ok-draft.ensures in
    let best = c.greatest_set_is_best_pit.ensures (mine_among few.few prices kept k) draft.net (holds_of draft.pit)
    few.of (c.is_accepted.ensures c.if-not-is_accepted.false) in
    let marks = c.as_slice.result.now in
    let are : (b : ℕ) → b < v.blocks → marked_in marks b ≡ holds_of draft.pit b = λ b l. ap
    (λ (ms : List Bool). marked_in ms b) c.as_slice.ensures.value
    ∙ c.in_ok-marks.ensures.are b (subst (λ (n : ℕ). b < n) (sym c.len-blocks.ensures.is) l) in
    placed_best v (implied (gridded c.args.grid.now)).pairs few.few prices kept k marks draft.pit
    c.len-blocks.ensures.all c.in_ok-among.ensures.part few.held (c.is_closed.ensures c.if-not-is_closed.false)
    are best
