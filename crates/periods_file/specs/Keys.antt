-- The keys of periods, as they are written.
use Rattle.std.specs.Prelude.{ℕ, ◌||◌, Bool, List, codes, bytes_eq}
use Rattle.toml.specs.Data.{Members}
use Rattle.toml_values.specs.Documents.{all_named}
use Rattle.periods_file.specs.declared.keys.PeriodKey.{PeriodKey}
use Rattle.periods_file.specs.declared.keys.PeriodKey.TheVariants.{Weights, Resources, Capacities, Multipliers, Waits}
use Rattle.periods_file.specs.declared.keys.PeriodKey.TheVariants.{Lag}

-- A key as it is written.
abbrev pub key_name : PeriodKey → List ℕ
key_name Weights = codes "weights"
key_name Resources = codes "resources"
key_name Capacities = codes "capacities"
key_name Multipliers = codes "multipliers"
key_name Waits = codes "waits"
key_name Lag = codes "lag"

-- Whether a name is a key.
abbrev pub is_known : List ℕ → Bool
is_known name = bytes_eq name (key_name Weights) || bytes_eq name (key_name Resources) || bytes_eq name
    (key_name Capacities) || bytes_eq name (key_name Multipliers) || bytes_eq name (key_name Waits) || bytes_eq name
    (key_name Lag)

-- Whether every name of a table is a key.
abbrev pub all_known : Members → Bool
all_known ms = all_named is_known ms
