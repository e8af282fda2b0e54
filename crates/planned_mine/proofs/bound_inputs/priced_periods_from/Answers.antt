use Rattle.std.proofs.Common.{rules, ◌≡◌, None}
use Rattle.periods_file.specs.Periods.{periods_view}
use Rattle.planned_mine.proofs.TextsFailing.{prices_missing}
use Rattle.planned_mine.proofs.bound_inputs.priced_periods_from.Goals as goal

pub returns-then-is_none-clause-read : goal.returns-then-is_none-clause-read
returns-then-is_none-clause-read g c =
    let said = periods_view c.in-Ok.periods in
    let none : said.multipliers ≡ None = search rules in
    prices_missing c.args.ways (g.D.Read.remaining c.args.from.now) said none c.in-Ok.ensures.read
