-- Keys at which settings say something, and the first at which they don't.
use Rattle.std.proofs.Common.{◌≡◌, Bool, true, false, List, [], ◌∷◌, ◌++◌, cond, refl, Option, Some, None}
use Rattle.settings_file.specs.declared.keys.Key.{Key}
use Rattle.settings_file.specs.Settings.{SettingsView, is_said, first_missing}

past : (t : Bool) (key : Key) (a b c : Option Key) → (a ≡ None → b ≡ c) → cond t a (Some key) ≡ None
    → cond t b (Some key) ≡ c
past true key a b c f h = f h
past false key a b c f h = absurd cc

-- where none of the first keys is missing, the first missing one is among the others
pub first_missing-append : (s : SettingsView) (keys others : List Key) → first_missing keys s ≡ None
    → first_missing (keys ++ others) s ≡ first_missing others s
first_missing-append s [] others h = refl
first_missing-append s (key ∷ keys) others h = past (is_said s key) key (first_missing keys s)
    (first_missing (keys ++ others) s) (first_missing others s) (first_missing-append s keys others) h

-- a key that is missing among the first is missing
held : (t : Bool) (key m : Key) (a b : Option Key) → (a ≡ Some m → b ≡ Some m) → cond t a (Some key) ≡ Some m
    → cond t b (Some key) ≡ Some m
held true key m a b f h = f h
held false key m a b f h = h

pub first_missing-front : (s : SettingsView) (keys others : List Key) (m : Key) → first_missing keys s ≡ Some m
    → first_missing (keys ++ others) s ≡ Some m
first_missing-front s [] others m h = absurd cc
first_missing-front s (key ∷ keys) others m h = held (is_said s key) key m (first_missing keys s)
    (first_missing (keys ++ others) s) (first_missing-front s keys others m) h

parts : (t : Bool) (key : Key) (a b c : Option Key) → (a ≡ None → (b ≡ None) × (c ≡ None))
    → cond t a (Some key) ≡ None → (cond t b (Some key) ≡ None) × (c ≡ None)
parts true key a b c f h = f h
parts false key a b c f h = absurd cc

-- where none of some keys is missing, none is among the first of them, nor among the others
pub none_missing : (s : SettingsView) (keys others : List Key) → first_missing (keys ++ others) s ≡ None
    → (first_missing keys s ≡ None) × (first_missing others s ≡ None)
none_missing s [] others h = (refl, h)
none_missing s (key ∷ keys) others h = parts (is_said s key) key (first_missing (keys ++ others) s)
    (first_missing keys s) (first_missing others s) (none_missing s keys others) h
