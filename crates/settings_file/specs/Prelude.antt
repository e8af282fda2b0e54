-- The names of this crate that its proofs and the crates above it use, each from its own file.
pub use Rattle.settings_file.specs.GoodTables.{IsGoodUpToFactors, IsOfSettingsTable}
pub use Rattle.settings_file.specs.Keys.{all_settings_keys, is_settings_key, settings_key_name}
pub use Rattle.settings_file.specs.Settings.{AreSettings, IsSettings, ReadsSettings, RegionsView, SettingsView, beside}
pub use Rattle.settings_file.specs.Settings.{cost_in, first_missing, has_mill, is_said, names_mill, offsets_in}
pub use Rattle.settings_file.specs.Settings.{optional_or_bad, regions_in, optional_at, said_or_nothing, settings_by}
pub use Rattle.settings_file.specs.Settings.{settings_fault_text, settings_in, settings_view, optional_said}
pub use Rattle.settings_file.specs.Settings.{settings_values_in}
unfoldable pub use Rattle.settings_file.specs.Settings.{settings_of}
pub use Rattle.settings_file.specs.Values.{AreFactors, AreWays, IsWay, column_at, factors_of, factors_of_items}
pub use Rattle.settings_file.specs.Values.{if_factors, if_ways, is_below_first, is_way_key, offset_number, offset_of}
pub use Rattle.settings_file.specs.Values.{offset_of_items, offsets_of, offsets_of_items, put_first, read_if, sign_of}
pub use Rattle.settings_file.specs.Values.{sign_of_text, slopes_of, slopes_of_items, three, two_columns, way_of}
pub use Rattle.settings_file.specs.Values.{way_of_members, ways_of, ways_of_items, whole_in_i32}
unfoldable pub use Rattle.settings_file.specs.Values.{all_read, are_ascending}
