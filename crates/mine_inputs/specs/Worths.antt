-- What the blocks of a mine are worth, whether its texts give values or prices.
use Rattle.std.specs.Prelude.{ℕ, ℤ, pos, ◌*ℤ◌, List, length, map}
use Rattle.certificate_file.specs.declared.header.Price.{Price}
use Rattle.certificate_file.specs.declared.header.Price.TheVariants.{Objective, Factor, Mill}
use Rattle.shells.specs.Prices.{priced_count, price_of, worths_at}
use Rattle.mine_inputs.specs.declared.worths.Worths.{Worths}
use Rattle.mine_inputs.specs.declared.worths.Worths.TheVariants.{Values, Prices}

-- how many blocks have a worth
abbrev pub blocks_valued : Worths → ℕ
blocks_valued (Values upit) = length upit.values
blocks_valued (Prices table) = priced_count table

-- what the blocks are worth in billionths: by their values, or by their prices at a factor
abbrev pub nanos_at : Worths → ℕ → List ℤ
nanos_at (Values upit) factor = map (λ x. pos 1000 *ℤ x) upit.values
nanos_at (Prices table) factor = worths_at table factor

-- the price that a certificate names: values have one alone
abbrev pub price_at : Worths → ℕ → Price
price_at (Values upit) factor = Objective
price_at (Prices table) factor = price_of table factor

-- the factor that a price names: 0 where it names none
abbrev pub factor_at : Price → ℕ
factor_at Objective = 0
factor_at (Factor factor) = factor
factor_at (Mill factor) = factor
