use Rattle.fixed_worth.proofs.Common.{MatchResult, sym, subst}
use Rattle.mine_inputs.specs.Prelude.{ForTexts, IsMineRead, MineFails}
use Rattle.mine_inputs.proofs.held_mines.held_mine.Goals as goal

pub returns-in-Listed-clause-read : goal.returns-in-Listed-clause-read
returns-in-Listed-clause-read g c = λ factor.
    subst (λ i. ForTexts i g.D.Read.remaining factor
    (λ texts. MatchResult c.mine_of_prec.result (λ mine. IsMineRead texts factor mine.worths mine.predecessors)
    (MineFails texts))) (sym c.in-Listed.is) (c.mine_of_prec.ensures.read factor)

pub returns-in-Sloped-clause-read : goal.returns-in-Sloped-clause-read
returns-in-Sloped-clause-read g c = λ factor.
    subst (λ i. ForTexts i g.D.Read.remaining factor
    (λ texts. MatchResult c.held_sloped.result (λ mine. IsMineRead texts factor mine.worths mine.predecessors)
    (MineFails texts))) (sym c.in-Sloped.is) (c.held_sloped.ensures.read factor)

pub returns-in-Valued-clause-read : goal.returns-in-Valued-clause-read
returns-in-Valued-clause-read g c = λ factor.
    subst (λ i. ForTexts i g.D.Read.remaining factor
    (λ texts. MatchResult c.held_valued.result (λ mine. IsMineRead texts factor mine.worths mine.predecessors)
    (MineFails texts))) (sym c.in-Valued.is) (c.held_valued.ensures.read factor)
