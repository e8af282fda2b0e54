-- What a text says as periods: a TOML document, and what its table has at each key.
use Rattle.std.specs.Prelude.{◌≡◌, ℕ, Bool, cond, List, [], length, Option, Some, None, Result, Ok, Err, IsUtf8, codes}
use Rattle.std.specs.Prelude.{option_map}
use Rattle.toml.specs.Parse.{parse_document}
use Rattle.toml.specs.Data.{Data, Members, get_member}
use Rattle.periods_file.specs.declared.keys.PeriodKey.{PeriodKey}
use Rattle.periods_file.specs.declared.keys.PeriodKey.TheVariants.{Weights, Resources, Capacities, Multipliers, Waits}
use Rattle.periods_file.specs.declared.keys.PeriodKey.TheVariants.{Lag}
use Rattle.periods_file.specs.declared.periods.Periods.{Periods}
use Rattle.periods_file.specs.declared.periods_fault.PeriodsFault.{PeriodsFault}
use Rattle.periods_file.specs.declared.periods_fault.PeriodsFault.TheVariants.{NotToml, UnknownKey, BadValue, Missing}
use Rattle.periods_file.specs.declared.periods_fault.PeriodsFault.TheVariants.{NoMemory}
use Rattle.periods_file.specs.Keys.{key_name, all_known}
use Rattle.toml_values.specs.Documents.{Says, then_with, with_key}
use Rattle.periods_file.specs.Values.{columns_of, weights_of, rows_of, lag_of}
use Rattle.periods_file.specs.ByWay.{resources_of, shared_of}

-- What periods say: weights in millionths, the columns of resources by each way, resource by resource, and whether each
-- has one for all ways; row by row for each resource what each period
-- has of it in whole units, and its price there in billionths; the columns of the blocks for which blocks wait, and how
-- many periods they wait.
pub record PeriodsView : Type 0 where
  pub weights : List ℕ
  pub resources : List ℕ
  pub shared : List Bool
  pub capacities : List ℕ
  pub multipliers : Option (List ℕ)
  pub waits : List ℕ
  pub lag : ℕ

-- what the type shows
abbrev pub periods_view : Periods → PeriodsView
periods_view p = record {
  weights = p.weights.items;
  resources = p.resources.items;
  shared = p.shared.items;
  capacities = p.capacities.items;
  multipliers = option_map (λ v. v.items) p.multipliers;
  waits = p.waits.items;
  lag = p.lag;
}

-- What a value at a key reads as; one that doesn't read is bad.
abbrev pub or_bad : {V : Type 0} → PeriodKey → Option V → Result V PeriodsFault
or_bad key (Some v) = Ok v
or_bad key None = Err (BadValue key)

-- What a key says by its value, if any: a key that isn't there is missing, and a value that doesn't read is bad.
abbrev pub value_said : {V : Type 0} → PeriodKey → (Data → Option V) → Option Data → Result V PeriodsFault
value_said key reads None = Err (Missing key)
value_said key reads (Some d) = or_bad key (reads d)

-- What a table says at a key whose value has to read so.
abbrev pub said_at : {V : Type 0} → PeriodKey → (Data → Option V) → Members → Result V PeriodsFault
said_at key reads ms = value_said key reads (get_member (key_name key) ms)

-- What a key says that may be left out: nothing where it is missing.
abbrev pub or_none : {V : Type 0} → Result V PeriodsFault → Result (Option V) PeriodsFault
or_none (Ok v) = Ok (Some v)
or_none (Err (Missing key)) = Ok None
or_none (Err fault) = Err fault

-- What a key says that may be left out: this where it is missing.
abbrev pub or_given : {V : Type 0} → V → Result V PeriodsFault → Result V PeriodsFault
or_given given (Ok v) = Ok v
or_given given (Err (Missing key)) = Ok given
or_given given (Err fault) = Err fault

-- The value of each key where there are so many ways, or the first fault of a key, in this order.
abbrev pub values_in : ℕ → Members → Result PeriodsView PeriodsFault
values_in ways ms =
    then_with (said_at Weights weights_of ms) (λ weights.
    then_with (said_at Resources shared_of ms) (λ shared.
    then_with (said_at Resources (resources_of ways (length shared)) ms) (λ resources.
    then_with (said_at Capacities (rows_of 1000000000000 (length shared) (length weights)) ms) (λ capacities.
    then_with (or_none (said_at Multipliers (rows_of 1000000000000000 (length shared) (length weights)) ms))
    (λ multipliers.
    then_with (or_given [] (said_at Waits columns_of ms)) (λ waits.
    then_with (or_given 1 (said_at Lag lag_of ms)) (λ lag.
    Ok (record {
      weights = weights;
      resources = resources;
      shared = shared;
      capacities = capacities;
      multipliers =
          multipliers;
      waits = waits;
      lag = lag;
    }))))))))

-- What a table says of periods, or its first fault: a name that is no key comes before the faults of keys.
abbrev pub periods_in : ℕ → Members → Result PeriodsView PeriodsFault
periods_in ways ms = cond (all_known ms) (values_in ways ms) (Err UnknownKey)

-- What the reader answers for a text, where there are so many ways to treat a block. Memory is asked for only where the
-- text is UTF-8.
abbrev pub ReadsPeriods : ℕ → List ℕ → Result PeriodsView PeriodsFault → Type 0
ReadsPeriods ways text (Ok p) = Says text (λ ms. periods_in ways ms ≡ Ok p)
ReadsPeriods ways text (Err NotToml) = IsUtf8 text → parse_document text ≡ None
ReadsPeriods ways text (Err NoMemory) = IsUtf8 text
ReadsPeriods ways text (Err fault) = Says text (λ ms. periods_in ways ms ≡ Err fault)

-- a fault that a table of a document can have, or want of memory
abbrev pub IsOfTable : PeriodsFault → Type 0
IsOfTable NotToml = ⊥
IsOfTable _ = Unit {0}

-- The fault's name, with its key in parentheses where it has one.
abbrev pub periods_fault_text : PeriodsFault → List ℕ
periods_fault_text NotToml = codes "NotToml"
periods_fault_text UnknownKey = codes "UnknownKey"
periods_fault_text (BadValue key) = with_key (codes "BadValue") (key_name key)
periods_fault_text (Missing key) = with_key (codes "Missing") (key_name key)
periods_fault_text NoMemory = codes "NoMemory"
