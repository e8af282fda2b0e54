-- The names of a table, one after another.
use Rattle.fixed_worth.proofs.Common.{◌≡◌, ℕ, List, [], ◌∷◌, refl, ap, ◌&&◌, true, Bool, String, Global, string_bytes}
use Rattle.fixed_worth.proofs.Common.{keys_of}
use Rattle.toml.specs.View.{members_view}
use Rattle.toml.specs.declared.value.Value.{Value}
use Rattle.toml_values.specs.Prelude.{all_named}

-- whether every name passes a test, over the names of a table
abbrev pub names_pass : (List ℕ → Bool) → List (String Global) → Bool
names_pass test [] = true
names_pass test (k ∷ ks) = test (string_bytes k) && names_pass test ks

pub names_pass-table : (test : List ℕ → Bool) (es : List (String Global × Value))
    → names_pass test (keys_of es) ≡ all_named test (members_view es)
names_pass-table test [] = refl
names_pass-table test (e ∷ es) = ap (λ b. test (string_bytes e.0) && b) (names_pass-table test es)
