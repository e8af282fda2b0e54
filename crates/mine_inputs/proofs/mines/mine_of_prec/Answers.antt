use Rattle.fixed_worth.proofs.Common.{rules, sym, subst, err_from_is_err_and}
use Rattle.mine_inputs.specs.declared.worths.Worths.TheVariants.{Values}
use Rattle.mine_inputs.specs.Prelude.{MineFails, ForWorths, AreWorthsOf}
use Rattle.mine_inputs.proofs.MinesRead.{worths_unread, values_read, prec_unread, mine_read}
use Rattle.mine_inputs.proofs.mines.mine_of_prec.Goals.{in-Values+in_ok-text-in-Values+in_ok-read_values-in-Values}
use Rattle.mine_inputs.proofs.mines.mine_of_prec.Goals.{in-Prices+in_ok-valued-in-Prices}
use Rattle.mine_inputs.proofs.mines.mine_of_prec.Goals as goal

pub returns-in_err-valued-in-Prices-clause-read : goal.returns-in_err-valued-in-Prices-clause-read
returns-in_err-valued-in-Prices-clause-read g c = λ factor.
    let e = c.in_err-valued-in-Prices.field-0.0 in
    let p = err_from_is_err_and c.from_residual-in_err-valued-in-Prices.result
    c.from_residual-in_err-valued-in-Prices.ensures.1 in
    rw (p.1, p.2) (worths_unread c.args.worths.now c.args.prec.now g.D.Read.remaining factor e (λ q.
    subst (λ i. ForWorths i g.D.Read.remaining factor q (λ texts. MineFails texts e)) (sym c.in-Prices.is)
    (c.in_err-valued-in-Prices.ensures.read factor q)))

pub returns-in_err-predecessors-clause-read : goal.returns-in_err-predecessors-clause-read
returns-in_err-predecessors-clause-read g c = λ factor.
    let e = c.in_err-predecessors.field-0.0 in
    let p = err_from_is_err_and c.from_residual-in_err-predecessors.result
    c.from_residual-in_err-predecessors.ensures.1 in
    rw (p.1, p.2) (elim c.match-worths.branch [
      | in-Values+in_ok-text-in-Values+in_ok-read_values-in-Values w ↦ prec_unread c.args.worths.now c.args.prec.now
          g.D.Read.remaining factor c.match-worths.valued c.len.result c.len.ensures.count (λ q.
          subst (λ x. ForWorths c.args.worths.now g.D.Read.remaining factor q (λ texts. AreWorthsOf texts factor x))
          (sym w.valued-is)
          (subst (λ i. ForWorths i g.D.Read.remaining factor q
          (λ texts. AreWorthsOf texts factor (Values w.in_ok-read_values-in-Values.field-0))) (sym w.in-Values.is)
          (values_read (g.D.Read.remaining w.in-Values.upit) q factor w.in_ok-read_values-in-Values.field-0
          (search rules))))
          e c.in_err-predecessors.ensures.read
      | in-Prices+in_ok-valued-in-Prices w ↦ prec_unread c.args.worths.now c.args.prec.now g.D.Read.remaining factor
          c.match-worths.valued c.len.result c.len.ensures.count (λ q.
          subst (λ x. ForWorths c.args.worths.now g.D.Read.remaining factor q (λ texts. AreWorthsOf texts factor x))
          (sym w.valued-is)
          (subst (λ i. ForWorths i g.D.Read.remaining factor q
          (λ texts. AreWorthsOf texts factor w.in_ok-valued-in-Prices.valued)) (sym w.in-Prices.is)
          (w.in_ok-valued-in-Prices.ensures.read factor q)))
          e c.in_err-predecessors.ensures.read
    ])

pub returns-clause-read : goal.returns-clause-read
returns-clause-read g c = λ factor.
    elim c.match-worths.branch [
      | in-Values+in_ok-text-in-Values+in_ok-read_values-in-Values w ↦ mine_read c.args.worths.now c.args.prec.now
          g.D.Read.remaining factor c.match-worths.valued c.len.result c.len.ensures.count (λ q.
          subst (λ x. ForWorths c.args.worths.now g.D.Read.remaining factor q (λ texts. AreWorthsOf texts factor x))
          (sym w.valued-is)
          (subst (λ i. ForWorths i g.D.Read.remaining factor q
          (λ texts. AreWorthsOf texts factor (Values w.in_ok-read_values-in-Values.field-0))) (sym w.in-Values.is)
          (values_read (g.D.Read.remaining w.in-Values.upit) q factor w.in_ok-read_values-in-Values.field-0
          (search rules))))
          c.in_ok-predecessors.predecessors c.in_ok-predecessors.ensures.read
      | in-Prices+in_ok-valued-in-Prices w ↦ mine_read c.args.worths.now c.args.prec.now g.D.Read.remaining factor
          c.match-worths.valued c.len.result c.len.ensures.count (λ q.
          subst (λ x. ForWorths c.args.worths.now g.D.Read.remaining factor q (λ texts. AreWorthsOf texts factor x))
          (sym w.valued-is)
          (subst (λ i. ForWorths i g.D.Read.remaining factor q
          (λ texts. AreWorthsOf texts factor w.in_ok-valued-in-Prices.valued)) (sym w.in-Prices.is)
          (w.in_ok-valued-in-Prices.ensures.read factor q)))
          c.in_ok-predecessors.predecessors c.in_ok-predecessors.ensures.read
    ]
