-- The ways that settings list are 1 to 8.
use Rattle.fixed_worth.proofs.Common.{◌≡◌, ℕ, ◌≤◌, ◌&&◌, Bool, true, false, cond, ℤ, List, length, Option, Some, None}
use Rattle.fixed_worth.proofs.Common.{Result, Ok, Err, IfSome, nat_le, nat_tests, refl, subst, arith}
use Rattle.toml.specs.Data.{Data, Items, Members, as_array, get_member}
use Rattle.fixed_worth.specs.declared.limits.TheConstants.{MOST_FACTOR}
use Rattle.settings_file.specs.declared.keys.Key.TheVariants.{Revenue, Tonnes, Factors, Report, Processing, Mining}
use Rattle.settings_file.specs.declared.keys.Key.TheVariants.{Ways}
use Rattle.settings_file.specs.declared.settings_fault.SettingsFault.{SettingsFault}
use Rattle.settings_file.specs.declared.settings_fault.SettingsFault.TheVariants.{UnknownKey}
use Rattle.settings_file.specs.declared.ways.TheConstants.{MOST_WAYS}
use Rattle.settings_file.specs.declared.ways.WayColumns.{WayColumns}
use Rattle.toml_values.specs.Prelude.{then_with, whole_value_within}
use Rattle.settings_file.specs.Prelude.{AreSettings, RegionsView, SettingsView, all_settings_keys, all_read, cost_in}
use Rattle.settings_file.specs.Prelude.{factors_of, if_ways, settings_key_name, offsets_in, optional_or_bad, regions_in}
use Rattle.settings_file.specs.Prelude.{optional_at, settings_of, settings_view, optional_said, settings_values_in}
use Rattle.settings_file.specs.Prelude.{way_of, ways_of, ways_of_items}

-- as many ways as settings may list
abbrev pub AreFew : List WayColumns → Type 0
AreFew ws = (1 ≤ length ws) × (length ws ≤ MOST_WAYS)

few_if : (ws : List WayColumns) (a b : Bool) → nat_le 1 (length ws) ≡ a → nat_le (length ws) MOST_WAYS ≡ b
    → IfSome (cond (a && b) (Some ws) None) AreFew
few_if ws true true p q = grind (arith, nat_tests)
few_if ws _ _ p q = tt

few_read : (o : Option (List WayColumns)) → IfSome (if_ways o) AreFew
few_read (Some ws) = few_if ws (nat_le 1 (length ws)) (nat_le (length ws) MOST_WAYS) refl refl
few_read None = tt

few_items : (o : Option Items) → IfSome (ways_of_items o) AreFew
few_items (Some ds) = few_read (all_read way_of ds)
few_items None = tt

-- ways that are said are few
abbrev FewSaid : Result (Option (List WayColumns)) SettingsFault → Type 0
FewSaid (Ok o) = IfSome o AreFew
FewSaid (Err e) = Unit {0}

few_or_bad : (o : Option (List WayColumns)) → IfSome o AreFew → FewSaid (optional_or_bad Ways o)
few_or_bad (Some ws) h = h
few_or_bad None h = tt

few_said : (o : Option Data) → FewSaid (optional_said Ways ways_of o)
few_said (Some d) = few_or_bad (ways_of d) (few_items (as_array d))
few_said None = tt

-- where settings were read, their ways are few
abbrev FewIn : Result SettingsView SettingsFault → Type 0
FewIn (Ok s) = IfSome s.ways AreFew
FewIn (Err e) = Unit {0}

few_in : (a b c : Result (Option ℕ) SettingsFault) (f : Result (Option (List ℕ)) SettingsFault)
    (r : Result (Option ℕ) SettingsFault) (o : Result (Option (List (ℤ × ℤ × ℤ))) SettingsFault)
    (p m : Result (Option ℕ) SettingsFault) (g : Result RegionsView SettingsFault)
    (w : Result (Option (List WayColumns)) SettingsFault) → FewSaid w
    → FewIn (then_with a (λ revenue. then_with b
    (λ cost. then_with c (λ tonnes. then_with f
    (λ factors. then_with r (λ report. then_with o
    (λ offsets. then_with p (λ processing. then_with m
    (λ mining. then_with g (λ by. then_with w
    (λ ways. Ok (settings_view revenue cost tonnes factors report offsets processing mining by.slopes by.region
    by.up ways))))))))))))
few_in (Ok a) (Ok b) (Ok c) (Ok f) (Ok r) (Ok o) (Ok p) (Ok m) (Ok g) (Ok w) h = h
few_in _ _ _ _ _ _ _ _ _ _ h = tt

few_values : (ms : Members) → FewIn (settings_values_in ms)
few_values ms = few_in (optional_at Revenue (whole_value_within 65535) ms) (cost_in ms)
    (optional_at Tonnes (whole_value_within 65535) ms) (optional_at Factors factors_of ms)
    (optional_at Report (whole_value_within MOST_FACTOR) ms) (offsets_in ms)
    (optional_at Processing (whole_value_within 65535) ms) (optional_at Mining (whole_value_within 65535) ms)
    (regions_in ms) (optional_at Ways ways_of ms) (few_said (get_member (settings_key_name Ways) ms))

few_known : (t : Bool) (read : Result SettingsView SettingsFault) → FewIn read → FewIn (cond t read (Err UnknownKey))
few_known true read h = h
few_known false read h = tt

pub few_ways : (text : List ℕ) → AreSettings text → IfSome (settings_of text).ways AreFew
few_ways text a = subst FewIn a.2 (few_known (all_settings_keys a.0) (settings_values_in a.0) (few_values a.0))
