-- The names of this crate that its proofs and the crates above it use, each from its own file.
pub use Rattle.mine_inputs.specs.BlockTexts.{BlocksFails, BlocksReadFails, ReadsBlocks}
pub use Rattle.mine_inputs.specs.FaultStands.{AreWorths, BlocksFail, MineFails, MineSlopesFail, PrecFails}
pub use Rattle.mine_inputs.specs.FaultStands.{PrecedenceFails, SettingsFail, TableFails, UpitFails, ValuesFail}
pub use Rattle.mine_inputs.specs.FaultStands.{ValuesFailFor}
pub use Rattle.mine_inputs.specs.Inputs.{ArePlacedTexts, AreSlopedTexts, AreValuedTexts, IsMissing, ModelPricesFail}
pub use Rattle.mine_inputs.specs.Inputs.{PairsSaidFail, PlacesFail, PrecReadFails, PricedMineFails, PricesReadFail}
pub use Rattle.mine_inputs.specs.Inputs.{ReadsPrec, ReadsPrices, ReadsSettingsText, ReadsUpit, ReadsValues}
pub use Rattle.mine_inputs.specs.Inputs.{SettingsReadFails, ValuesReadFail, unread_fault}
pub use Rattle.mine_inputs.specs.Limits.{IsTooLong, IsWithinLimit, longest_input}
pub use Rattle.mine_inputs.specs.MineInputs.{CanCount, ForTexts, ForWorths, MineKind, NoWorthsFailed, NoneFailed}
pub use Rattle.mine_inputs.specs.MineInputs.{OneFailed, WorthsCanCount, is_priced, mine_kind_of, listed_kind}
pub use Rattle.mine_inputs.specs.MineInputs.{mine_failures, sloped_kind, valued_kind, worths_failures}
pub use Rattle.mine_inputs.specs.Mines.{DenoteMine, MineTexts, PrecedenceBy, PrecedenceRead, RestsRead, ValuesRead}
pub use Rattle.mine_inputs.specs.Mines.{ValuesReadFor, WorthsRead, by_slopes, by_text, is_sloped, mine_of, mine_texts}
pub use Rattle.mine_inputs.specs.Mines.{price_wanted, priced_texts, rests_by, rests_of, sloped_texts, texts_by}
pub use Rattle.mine_inputs.specs.Mines.{valued_texts, worth_by_texts}
pub use Rattle.mine_inputs.specs.PricedTexts.{ColumnsKnown, KeysSaid, PricedBlocksFail, PricedBlocksFailBy, PricesFail}
pub use Rattle.mine_inputs.specs.PricedTexts.{PricesFailBy, PricesRead, PricesReadBy, SettingsFails}
pub use Rattle.mine_inputs.specs.PricedTexts.{SettingsFaultStands, Wanted, cell, cells, column_list, columns_beside}
pub use Rattle.mine_inputs.specs.PricedTexts.{columns_by, columns_said, first_columns, first_unused, keys_by, mill_way}
pub use Rattle.mine_inputs.specs.PricedTexts.{others_by, place_beside, price_columns, price_keys, prices_alone}
pub use Rattle.mine_inputs.specs.PricedTexts.{replaced_by, slope_keys, table_at, table_by, table_of, unused_by}
pub use Rattle.mine_inputs.specs.PricedTexts.{values_of, way_cells, way_from, way_list, ways_from}
pub use Rattle.mine_inputs.specs.ReadMines.{ArePairsBy, ArePricesRead, AreRead, AreWorthsOf, IsMineRead}
pub use Rattle.mine_inputs.specs.SlopedTexts.{PlacesRead, SlopesFail, SlopesRead, column_after, columns_for, model_in}
pub use Rattle.mine_inputs.specs.SlopedTexts.{placed_in, placing_keys, prices_and_slopes, region_columns, rests_said}
pub use Rattle.mine_inputs.specs.SlopedTexts.{sloped_columns, sloped_keys, slopes_alone, slopes_said, up_by, up_said}
pub use Rattle.mine_inputs.specs.Ways.{AreWaysOf, most_way, most_way_at, way_valued, ways_of, ways_valued, worth_of_way}
pub use Rattle.mine_inputs.specs.Ways.{worth_valued}
pub use Rattle.mine_inputs.specs.Worths.{blocks_valued, factor_at, nanos_at, price_at}
