use Rattle.fixed_worth.proofs.Common.{◌≡◌, List, ap, ◌∙◌, subst}
use Rattle.slope.specs.Prelude.{AreOwnSlopes, AreRightSlopes, own_offsets}
use Rattle.slope_offsets.specs.Prelude.{Offset}
use Rattle.slope_offsets.specs.declared.selection.Selection.TheVariants.{Every}
use Rattle.slope_offsets.specs.declared.up.Up.{Up}
use Rattle.slope.proofs.Tested.{pairs_tested}
use Rattle.mine_inputs.specs.SlopedTexts.{slopes_said, up_by, up_said}
use Rattle.mine_inputs.proofs.held_mines.held_said.Goals as goal

pub returns-in-Ok-clause-pairs : goal.returns-in-Ok-clause-pairs
returns-in-Ok-clause-pairs c =
    let said = c.args.settings.now in
    let m = c.args.model.now in
    let found = c.in-Ok.found in
    let slopes = c.slopes_of-slopes.ensures in
    let up : c.up_of-up.result ≡ up_said said = c.up_of-up.ensures ∙ ap up_by c.up.ensures in
    let made = subst (λ (u : Up). AreOwnSlopes m (own_offsets (slopes_said said) m) u Every found) up
    (subst (λ (ls : List (List Offset)). AreOwnSlopes m (own_offsets ls m) c.up_of-up.result Every found) slopes
    c.in-Ok.ensures.made) in
    let right = subst (λ (ls : List (List Offset)). AreRightSlopes ls m) slopes c.in-Ok.ensures.right in (
      made.blocks,
      right,
      record {
        rising = made.rising;
        same = pairs_tested (slopes_said said) m (up_said said) found
            made;
      },
    )
