use Rattle.std.proofs.Common.{◌≡◌, drop}
use Rattle.settings_file.specs.Settings.{first_missing}
use Rattle.mine_inputs.proofs.columns_of_prices.need.Given as goal

abbrev pub invariant-loop-key : goal.invariant-loop-key
invariant-loop-key l = first_missing l.keys l.settings ≡ first_missing (drop l.key-index l.keys) l.settings
