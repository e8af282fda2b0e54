use Rattle.mine_inputs.proofs.Priced.{prices_told}
use Rattle.mine_inputs.proofs.priced_inputs.prices_from.Goals as goal

pub returns-clause-read : goal.returns-clause-read
returns-clause-read g c =
    prices_told (g.R.Read.remaining c.args.from.now) c.args.columns.now c.in_ok-model.model c.prices_of.result
    c.in_ok-model.ensures.read c.prices_of.ensures.prices
