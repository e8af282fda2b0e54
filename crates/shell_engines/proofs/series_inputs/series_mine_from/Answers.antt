use Rattle.fixed_worth.proofs.Common.{List, ℕ, IfSome, MatchResult, sym, subst}
use Rattle.mine_inputs.specs.Mines.{PrecedenceBy}
use Rattle.shell_engines.specs.Prelude.{IsSeriesRead, SeriesMineFails, precedence_in}
use Rattle.shell_engines.proofs.Readings.{listed_told}
use Rattle.shell_engines.proofs.series_inputs.series_mine_from.Goals as goal

pub returns-in-Some-clause-read : goal.returns-in-Some-clause-read
returns-in-Some-clause-read g c =
    let o = g.D.Read.remaining c.args.inputs.now.settings in
    let q = g.D.Read.remaining c.args.inputs.now.blocks in
    let P : List ℕ → List ℕ → PrecedenceBy → Type 0 = λ s b p. MatchResult c.listed_series.result
    (λ mine. IsSeriesRead s b p mine.prices mine.predecessors mine.factors.items mine.factor)
    (SeriesMineFails s b p) in
    subst (λ d. IfSome o (λ s. IfSome q (λ b. IfSome (precedence_in d g.D.Read.remaining) (λ p. P s b p))))
    (sym c.in-Some.is) (listed_told o q (g.D.Read.remaining c.in-Some.prec) P c.listed_series.ensures.read)

pub returns-in-None-clause-read : goal.returns-in-None-clause-read
returns-in-None-clause-read g c =
    let o = g.D.Read.remaining c.args.inputs.now.settings in
    let q = g.D.Read.remaining c.args.inputs.now.blocks in
    let P : List ℕ → List ℕ → PrecedenceBy → Type 0 = λ s b p. MatchResult c.sloped_series.result
    (λ mine. IsSeriesRead s b p mine.prices mine.predecessors mine.factors.items mine.factor)
    (SeriesMineFails s b p) in
    subst (λ d. IfSome o (λ s. IfSome q (λ b. IfSome (precedence_in d g.D.Read.remaining) (λ p. P s b p))))
    (sym c.in-None.is) c.sloped_series.ensures.read
