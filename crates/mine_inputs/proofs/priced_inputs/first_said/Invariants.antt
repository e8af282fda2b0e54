use Rattle.std.proofs.Common.{◌≡◌, drop}
use Rattle.settings_file.specs.Settings.{first_said}
use Rattle.mine_inputs.proofs.priced_inputs.first_said.Given as goal

abbrev pub invariant-loop-key : goal.invariant-loop-key
invariant-loop-key l = first_said l.keys l.settings ≡ first_said (drop l.key-index l.keys) l.settings
