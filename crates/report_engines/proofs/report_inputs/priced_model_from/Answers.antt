use Rattle.fixed_worth.proofs.Common.{◌<◌, ◌∷◌, length, length-append, arith, err_from_is_err_and}
use Rattle.mine_inputs.specs.Prelude.{column_list, columns_for, place_beside}
use Rattle.report_engines.proofs.Readings.{blocks_fail, prices_fail}
use Rattle.report_engines.proofs.Tables.{tonnes_within}
use Rattle.report_engines.proofs.report_inputs.priced_model_from.Goals as goal

pub prices_of-requires : goal.prices_of-requires
prices_of-requires g c =
    let columns = c.args.columns in
    omega (
      arith,
      c.in_ok-model.ensures.columns,
      length-append (column_list columns.prices)
          (columns.tonnes ∷ columns_for columns.region),
    )

pub invariant_of-result : goal.invariant_of-result
invariant_of-result g c =
    let columns = c.args.columns in
    let inside : place_beside columns.prices < length c.in_ok-model.model.columns = omega (
      arith,
      c.in_ok-model.ensures.columns,
      tonnes_within columns.prices columns.tonnes
          (columns_for columns.region),
    ) in
    record {
      priced = record {
        columns = inside;
        prices_are = c.in_ok-prices.ensures.prices;
        small = λ i h. c.columns-columns.ensures.small i (omega (arith, h, inside, c.columns-columns.ensures.value));
      };
    }

pub returns-in_err-model-clause-read : goal.returns-in_err-model-clause-read
returns-in_err-model-clause-read g c =
    let p = err_from_is_err_and c.from_residual.result c.from_residual.ensures.1 in
    rw (p.1, p.2) (blocks_fail (g.B.Read.remaining c.args.blocks.now) c.args.columns c.in_err-model.field-0.0
    c.in_err-model.ensures.read)

pub returns-in_err-prices-clause-read : goal.returns-in_err-prices-clause-read
returns-in_err-prices-clause-read g c =
    let p = err_from_is_err_and c.from_residual-in_err-prices.result c.from_residual-in_err-prices.ensures.1 in
    rw (p.1, p.2) (prices_fail (g.B.Read.remaining c.args.blocks.now) c.args.columns c.in_ok-model.model
    c.in_err-prices.field-0.0 c.in_ok-model.ensures.read c.in_err-prices.ensures.prices)
