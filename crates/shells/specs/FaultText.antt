-- Faults as they are printed.
use Rattle.std.specs.Prelude.{ℕ, List, ◌++◌, codes, decimal}
use Rattle.shells.specs.declared.prices_fault.PricesFault.{PricesFault}
use Rattle.shells.specs.declared.prices_fault.PricesFault.TheVariants as prices
use Rattle.shells.specs.declared.series_fault.SeriesFault.{SeriesFault}
use Rattle.shells.specs.declared.series_fault.SeriesFault.TheVariants as series

-- the name, and the block in parentheses where there is one
abbrev pub prices_fault_text : PricesFault → List ℕ
prices_fault_text prices.WrongLength = codes "WrongLength"
prices_fault_text (prices.NegativeRevenue b) = codes "NegativeRevenue(" ++ decimal b ++ codes ")"

-- the name
abbrev pub series_fault_text : SeriesFault → List ℕ
series_fault_text series.NotHigher = codes "NotHigher"
series_fault_text series.WrongModel = codes "WrongModel"
series_fault_text series.Full = codes "Full"
series_fault_text series.NoMemory = codes "NoMemory"
