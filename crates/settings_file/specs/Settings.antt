-- What a text says as settings: a TOML document, and what its table has at each key.
use Rattle.std.specs.Prelude.{◌≡◌, ◌≤◌, ℕ, ◌||◌, IfSome, Bool, true, cond, ℤ, List, [], ◌∷◌, Option, Some, None}
use Rattle.std.specs.Prelude.{is_some, Result, Ok, Err, IsUtf8, codes}
use Rattle.toml.specs.Parse.{parse_document}
use Rattle.toml.specs.Data.{Data, Members, get_member}
use Rattle.fixed_worth.specs.declared.limits.TheConstants.{MOST_FACTOR}
use Rattle.settings_file.specs.declared.keys.Key.{Key}
use Rattle.settings_file.specs.declared.keys.Key.TheVariants.{Revenue, Cost, Tonnes, Factors, Report, Offsets}
use Rattle.settings_file.specs.declared.keys.Key.TheVariants.{Processing, Mining, Slopes, Region, Up, Ways}
use Rattle.settings_file.specs.declared.settings_fault.SettingsFault.{SettingsFault}
use Rattle.settings_file.specs.declared.settings_fault.SettingsFault.TheVariants.{NotToml, UnknownKey, BadValue, Unused}
use Rattle.settings_file.specs.declared.settings_fault.SettingsFault.TheVariants.{Missing, NoMemory}
use Rattle.settings_file.specs.Keys.{settings_key_name, all_settings_keys}
use Rattle.settings_file.specs.declared.up_sign.UpSign.{UpSign}
use Rattle.settings_file.specs.declared.ways.WayColumns.{WayColumns}
use Rattle.toml_values.specs.Prelude.{Says, then_with, whole_value_within, with_key}
use Rattle.settings_file.specs.Values.{factors_of, offsets_of, slopes_of, sign_of, ways_of, AreFactors, AreWays}

-- What the type shows: the value of each key, where the text has the key.
pub record SettingsView : Type 0 where
  pub revenue : Option ℕ
  pub cost : Option ℕ
  pub tonnes : Option ℕ
  pub factors : Option (List ℕ)
  pub report : Option ℕ
  pub offsets : Option (List (ℤ × ℤ × ℤ))
  pub processing : Option ℕ
  pub mining : Option ℕ
  pub slopes : Option (List (List (ℤ × ℤ × ℤ)))
  pub region : Option ℕ
  pub up : Option UpSign
  pub ways : Option (List WayColumns)

-- What settings say of slopes that differ by region: the offsets of each, the column of the block's own, and which way
-- is up.
pub record RegionsView : Type 0 where
  pub slopes : Option (List (List (ℤ × ℤ × ℤ)))
  pub region : Option ℕ
  pub up : Option UpSign

-- what the type shows, by the values of the keys
abbrev pub settings_view : (revenue cost tonnes : Option ℕ) (factors : Option (List ℕ)) (report : Option ℕ)
    (offsets : Option (List (ℤ × ℤ × ℤ))) (processing mining : Option ℕ) (slopes : Option (List (List (ℤ × ℤ × ℤ))))
    (region : Option ℕ) (up : Option UpSign) (ways : Option (List WayColumns)) → SettingsView
settings_view revenue cost tonnes factors report offsets processing mining slopes region up ways = record {
  revenue = revenue;
  cost = cost;
  tonnes = tonnes;
  factors = factors;
  report = report;
  offsets = offsets;
  processing = processing;
  mining = mining;
  slopes = slopes;
  region = region;
  up = up;
  ways = ways;
}

-- What is known of settings that were read: columns are numbered from 0 to 65,535, factors are from 0 to 10,000, and
-- ways are 1 to 8.
pub record IsSettings (s : SettingsView) : Type 0 where
  pub revenue : IfSome s.revenue (λ column. column ≤ 65535)
  pub cost : IfSome s.cost (λ column. column ≤ 65535)
  pub tonnes : IfSome s.tonnes (λ column. column ≤ 65535)
  pub factors : IfSome s.factors AreFactors
  pub report : IfSome s.report (λ factor. factor ≤ MOST_FACTOR)
  pub processing : IfSome s.processing (λ column. column ≤ 65535)
  pub mining : IfSome s.mining (λ column. column ≤ 65535)
  pub region : IfSome s.region (λ column. column ≤ 65535)
  pub ways : IfSome s.ways AreWays

-- What a value at a key reads as; one that doesn't read is bad.
abbrev pub optional_or_bad : {V : Type 0} → Key → Option V → Result (Option V) SettingsFault
optional_or_bad key (Some v) = Ok (Some v)
optional_or_bad key None = Err (BadValue key)

-- What a key says by its value, if any: a missing key says nothing, and a value that doesn't read is bad.
abbrev pub optional_said : {V : Type 0} → Key → (Data → Option V) → Option Data → Result (Option V) SettingsFault
optional_said key reads None = Ok None
optional_said key reads (Some d) = optional_or_bad key (reads d)

-- What a table says at a key whose value has to read so.
abbrev pub optional_at : {V : Type 0} → Key → (Data → Option V) → Members → Result (Option V) SettingsFault
optional_at key reads ms = optional_said key reads (get_member (settings_key_name key) ms)

-- whether a table names a charge of a mill, be its value what it may
abbrev pub has_mill : Members → Bool
has_mill ms = is_some (get_member (settings_key_name Processing) ms) || is_some
    (get_member (settings_key_name Mining) ms)

-- Where what stands in a key's place is there too, the key's value is bad.
abbrev pub beside : {V : Type 0} → Key → Bool → Option V → Result (Option V) SettingsFault
beside key true (Some v) = Err (BadValue key)
beside key _ o = Ok o

-- what a table says at the key of costs, in whose place a mill's charges stand
abbrev pub cost_in : Members → Result (Option ℕ) SettingsFault
cost_in ms = then_with (optional_at Cost (whole_value_within 65535) ms) (beside Cost (has_mill ms))

-- what a table says at the key of offsets, in whose place slopes by region stand
abbrev pub offsets_in : Members → Result (Option (List (ℤ × ℤ × ℤ))) SettingsFault
offsets_in ms = then_with (optional_at Offsets offsets_of ms)
    (beside Offsets (is_some (get_member (settings_key_name Slopes) ms)))

-- what a table says of slopes by region
abbrev pub regions_in : Members → Result RegionsView SettingsFault
regions_in ms =
    then_with (optional_at Slopes slopes_of ms) (λ slopes.
    then_with (optional_at Region (whole_value_within 65535) ms) (λ region.
    then_with (optional_at Up sign_of ms) (λ up.
    Ok (record { slopes = slopes; region = region; up = up }))))

-- The value of each key, or the first key, in this order, whose value is bad.
abbrev pub settings_values_in : Members → Result SettingsView SettingsFault
settings_values_in ms =
    then_with (optional_at Revenue (whole_value_within 65535) ms) (λ revenue.
    then_with (cost_in ms) (λ cost.
    then_with (optional_at Tonnes (whole_value_within 65535) ms) (λ tonnes.
    then_with (optional_at Factors factors_of ms) (λ factors.
    then_with (optional_at Report (whole_value_within MOST_FACTOR) ms) (λ report.
    then_with (offsets_in ms) (λ offsets.
    then_with (optional_at Processing (whole_value_within 65535) ms) (λ processing.
    then_with (optional_at Mining (whole_value_within 65535) ms) (λ mining.
    then_with (regions_in ms) (λ by.
    then_with (optional_at Ways ways_of ms) (λ ways.
    Ok (settings_view revenue cost tonnes factors report offsets processing mining by.slopes by.region by.up
    ways)))))))))))

-- What a table says at each key, or its first fault: a name that is no key comes before all bad values.
abbrev pub settings_in : Members → Result SettingsView SettingsFault
settings_in ms = cond (all_settings_keys ms) (settings_values_in ms) (Err UnknownKey)

-- What the reader answers for a text. Memory is asked for only where the text is UTF-8, and a key that is missing or
-- unused is no fault of the text.
abbrev pub ReadsSettings : List ℕ → Result SettingsView SettingsFault → Type 0
ReadsSettings text (Ok s) = Says text (λ ms. settings_in ms ≡ Ok s)
ReadsSettings text (Err NotToml) = IsUtf8 text → parse_document text ≡ None
ReadsSettings text (Err NoMemory) = IsUtf8 text
ReadsSettings text (Err (Unused key)) = ⊥
ReadsSettings text (Err (Missing key)) = ⊥
ReadsSettings text (Err fault) = Says text (λ ms. settings_in ms ≡ Err fault)

-- what settings say, or nothing at any key where there is a fault
abbrev pub said_or_nothing : Result SettingsView SettingsFault → SettingsView
said_or_nothing (Ok s) = s
said_or_nothing (Err e) = settings_view None None None None None None None None None None None None

-- what the table of a document says as settings; nothing at any key where there is no document, or a fault in it
abbrev pub settings_by : Option Members → SettingsView
settings_by (Some ms) = said_or_nothing (settings_in ms)
settings_by None = said_or_nothing (Err NotToml)

-- what a text says as settings: nothing at any key where it has a fault
unfoldable pub settings_of : List ℕ → SettingsView
settings_of text = settings_by (parse_document text)

-- the text reads as settings without a fault
abbrev pub AreSettings : List ℕ → Type 0
AreSettings text = ReadsSettings text (Ok (settings_of text))

-- whether there is something at a key
abbrev pub is_said : SettingsView → Key → Bool
is_said s Revenue = is_some s.revenue
is_said s Cost = is_some s.cost
is_said s Tonnes = is_some s.tonnes
is_said s Factors = is_some s.factors
is_said s Report = is_some s.report
is_said s Offsets = is_some s.offsets
is_said s Processing = is_some s.processing
is_said s Mining = is_some s.mining
is_said s Slopes = is_some s.slopes
is_said s Region = is_some s.region
is_said s Up = is_some s.up
is_said s Ways = is_some s.ways

-- whether settings name a charge of a mill
abbrev pub names_mill : SettingsView → Bool
names_mill s = is_said s Processing || is_said s Mining

-- the first of these keys at which there is nothing
abbrev pub first_missing : List Key → SettingsView → Option Key
first_missing [] s = None
first_missing (key ∷ keys) s = cond (is_said s key) (first_missing keys s) (Some key)

-- the first of these keys at which there is something
abbrev pub first_said : List Key → SettingsView → Option Key
first_said [] s = None
first_said (key ∷ keys) s = cond (is_said s key) (Some key) (first_said keys s)

-- The fault's name, with its key in parentheses where it has one.
abbrev pub settings_fault_text : SettingsFault → List ℕ
settings_fault_text NotToml = codes "NotToml"
settings_fault_text UnknownKey = codes "UnknownKey"
settings_fault_text (BadValue key) = with_key (codes "BadValue") (settings_key_name key)
settings_fault_text (Unused key) = with_key (codes "Unused") (settings_key_name key)
settings_fault_text (Missing key) = with_key (codes "Missing") (settings_key_name key)
settings_fault_text NoMemory = codes "NoMemory"
