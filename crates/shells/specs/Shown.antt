-- What the type of a table in memory shows.
use Rattle.shells.specs.Prices.{PricesView, plain_prices, treated_prices}
use Rattle.shells.specs.declared.tables.Table.{Table}
use Rattle.shells.specs.declared.tables.Table.TheVariants.{Plain, Treated}

-- the table of its lists
abbrev pub shown_table : Table → PricesView
shown_table (Plain revenue cost) = plain_prices revenue.items cost.items
shown_table (Treated ways mining) = treated_prices ways.items mining.items
