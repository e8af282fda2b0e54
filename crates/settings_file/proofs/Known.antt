-- A text has one meaning as settings, or one fault.
use Rattle.fixed_worth.proofs.Common.{◌≡◌, ℕ, List, Some, None, Result, Ok, Err, MatchResult, IfErr, refl, sym, ap, ◌∙◌}
use Rattle.fixed_worth.proofs.Common.{subst, arith, common_steps}
use Rattle.toml.specs.Data.{Members}
use Rattle.settings_file.specs.declared.settings_fault.SettingsFault.{SettingsFault}
use Rattle.settings_file.specs.declared.settings_fault.SettingsFault.TheVariants.{NotToml, UnknownKey, BadValue, Unused}
use Rattle.settings_file.specs.declared.settings_fault.SettingsFault.TheVariants.{Missing, NoMemory}
use Rattle.toml_values.specs.Prelude.{IsDocument, Says}
use Rattle.settings_file.specs.Prelude.{IsOfSettingsTable, SettingsView, settings_in, settings_by, said_or_nothing}
use Rattle.settings_file.specs.Prelude.{settings_of, ReadsSettings, AreSettings}

-- what was read is what the text says
pub settings_are : (text : List ℕ) (s : SettingsView) → ReadsSettings text (Ok s) → settings_of text ≡ s
unfolding settings_of
settings_are text s h = ap settings_by h.1.parsed ∙ ap said_or_nothing h.2

pub settings_read : (text : List ℕ) (s : SettingsView) → ReadsSettings text (Ok s) → AreSettings text
settings_read text s h = let P : SettingsView
    → Type 0 = λ v. ReadsSettings text (Ok v) in subst P (sym (settings_are text s h)) h

no_fault : (text : List ℕ) (s : SettingsView) (fault : SettingsFault) → ReadsSettings text (Ok s)
    → Says text (λ ms. settings_in ms ≡ Err fault) → ⊥
no_fault text s fault h k = grind (arith, common_steps)

-- a text without a fault is told of none, but of memory that is refused
pub no_settings_fault : (text : List ℕ) (s : SettingsView) (fault : SettingsFault) → ReadsSettings text (Ok s)
    → ¬ (fault ≡ NoMemory) → ReadsSettings text (Err fault) → ⊥
no_settings_fault text s NotToml h ne k = let g : Some h.0 ≡ None = sym h.1.parsed ∙ k h.1.utf8 in cc
no_settings_fault text s UnknownKey h ne k = no_fault text s UnknownKey h k
no_settings_fault text s (BadValue key) h ne k = no_fault text s (BadValue key) h k
no_settings_fault text s (Unused key) h ne k = k
no_settings_fault text s (Missing key) h ne k = k
no_settings_fault text s NoMemory h ne k = ne refl

-- what is read of the table of a document is what its text says
pub table_is_text : (text : List ℕ) (ms : Members) (answer : Result SettingsView SettingsFault) → IsDocument text ms
    → MatchResult answer (λ s. settings_in ms ≡ Ok s) (λ e. ¬ (e ≡ NoMemory) → settings_in ms ≡ Err e)
    → IfErr answer IsOfSettingsTable → ReadsSettings text answer
table_is_text text ms (Ok s) d h k = (ms, d, h)
table_is_text text ms (Err NotToml) d h k = absurd k
table_is_text text ms (Err (Unused key)) d h k = k
table_is_text text ms (Err (Missing key)) d h k = k
table_is_text text ms (Err NoMemory) d h k = d.utf8
table_is_text text ms _ d h k = (ms, d, h (λ e. cc))
