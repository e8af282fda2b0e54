use Rattle.fixed_worth.proofs.Common.{MatchResult, err_from_is_err_and}
use Rattle.mine_inputs.specs.Prelude.{AreSlopedTexts, IsMineRead, MineFails, sloped_texts}
use Rattle.mine_inputs.proofs.MineDevices.{under2}
use Rattle.mine_inputs.proofs.held_mines.held_sloped.Goals as goal

pub returns-in_err-read-clause-read : goal.returns-in_err-read-clause-read
returns-in_err-read-clause-read g c = λ factor.
    let p = err_from_is_err_and c.from_residual.result c.from_residual.ensures.1 in
    rw (p.1, p.2) (c.in_err-read.ensures.read factor)

pub returns-clause-read : goal.returns-clause-read
returns-clause-read g c = λ factor.
    let read = c.in_ok-read.read in
    under2 (g.D.Read.remaining c.args.settings.now) (g.D.Read.remaining c.args.blocks.now)
    (λ s b. AreSlopedTexts s b read.settings read.columns read.model)
    (λ s b. MatchResult c.held_of_texts.result
    (λ mine. IsMineRead (sloped_texts s b factor) factor mine.worths mine.predecessors)
    (MineFails (sloped_texts s b factor)))
    (c.in_ok-read.ensures.read factor) (λ s b t. c.held_of_texts.ensures.read factor s b t)
