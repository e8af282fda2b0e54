use Rattle.fixed_worth.proofs.Common.{◌≡◌, ◌+◌, ◌*◌, ◌∙◌, List, length, sym, ap, arith}
use Rattle.settings_file.specs.declared.ways.WayColumns.{WayColumns}
use Rattle.mine_inputs.specs.PricedTexts.{place_beside}
use Rattle.mine_inputs.proofs.Priced.{price_places}
use Rattle.mine_inputs.proofs.priced_inputs.prices_of.Goals as goal

pub ways_of-requires : goal.ways_of-requires
ways_of-requires c =
    let places : place_beside c.args.columns.now ≡ 2 * length c.as_slice.result.now
    + 1 = ap place_beside c.in-Treated.is
    ∙ ap (λ (ws : List WayColumns). 2 * length ws + 1) (sym c.as_slice.ensures.is) in
    (c.as_slice.ensures.few, omega (arith, places, price_places c.args.columns.now, c.requires))

pub column_of-requires-in-Treated : goal.column_of-requires-in-Treated
column_of-requires-in-Treated c =
    let places : place_beside c.args.columns.now ≡ 2 * length c.as_slice.result.now
    + 1 = ap place_beside c.in-Treated.is
    ∙ ap (λ (ws : List WayColumns). 2 * length ws + 1) (sym c.as_slice.ensures.is) in
    omega (arith, places, price_places c.args.columns.now, c.requires)
