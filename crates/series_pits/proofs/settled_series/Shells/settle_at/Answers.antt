use Rattle.fixed_worth.proofs.Common.{sym, Contains, err_from_is_err_and}
use Rattle.series_pits.proofs.Growing.{above_before, settled_more}
use Rattle.series_pits.proofs.settled_series.Shells.settle_at.Goals as goal

pub add-requires-clause-above : goal.add-requires-clause-above
add-requires-clause-above g c =
    above_before c.args.wanted.now.factors.now c.args.self.now.series.factors c.args.place
    c.index-factors-place.result c.requires.form.ascending c.requires.inside c.index-factors-place.is
    c.requires.done.same_factors

pub add-requires-2-clause-above : goal.add-requires-2-clause-above
add-requires-2-clause-above g c =
    above_before c.args.wanted.now.factors.now c.args.self.now.series.factors c.args.place
    c.index-factors-place.result c.requires.form.ascending c.requires.inside c.index-factors-place.is
    c.requires.done.same_factors

pub returns-in-Some-clause-settled : goal.returns-in-Some-clause-settled
returns-in-Some-clause-settled g c =
    let self = c.args.self.now in
    settled_more self.series.pairs self.series.prices c.args.wanted.now.factors.now c.args.place self.series
    c.add.new.self.series self.rows.items c.add.new.self.rows.items c.index-factors-place.result c.requires.inside
    c.index-factors-place.is c.requires.done c.in_ok-add.ensures

pub returns-clause-settled : goal.returns-clause-settled
returns-clause-settled g c =
    let self = c.args.self.now in
    settled_more self.series.pairs self.series.prices c.args.wanted.now.factors.now c.args.place self.series
    c.add-2.new.self.series self.rows.items c.add-2.new.self.rows.items c.index-factors-place.result
    c.requires.inside c.index-factors-place.is c.requires.done c.in_ok-add-2.ensures

pub returns-in_err-best-clause-fault : goal.returns-in_err-best-clause-fault
returns-in_err-best-clause-fault g c =
    let fs = c.args.wanted.now.factors.now in
    let held : Contains fs c.index-factors-place.result =
    (c.args.place, c.requires.inside, sym c.index-factors-place.is) in
    let p = err_from_is_err_and c.from_residual-in_err-best.result c.from_residual-in_err-best.ensures.1 in
    rw (p.1, p.2) (c.in_err-best.ensures.fault fs held)
