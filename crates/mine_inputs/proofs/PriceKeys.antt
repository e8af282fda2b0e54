-- The keys of prices, and others that are needed with them.
use Rattle.fixed_worth.proofs.Common.{◌≡◌, Bool, true, false, List, [], ◌∷◌, ◌∙◌, None, arith, common_steps}
use Rattle.settings_file.specs.declared.keys.Key.{Key}
use Rattle.settings_file.specs.declared.keys.Key.TheVariants.{Revenue, Cost}
use Rattle.settings_file.specs.Settings.{SettingsView, first_missing}
use Rattle.settings_file.proofs.MissingKeys.{none_missing, first_missing-append}
use Rattle.mine_inputs.specs.PricedTexts.{keys_by}

-- where none is missing, none of the prices' is, nor of the others
pub prices_and_others : (s : SettingsView) (ways mill : Bool) (others : List Key)
    → first_missing (keys_by ways mill others) s ≡ None → (first_missing (keys_by ways mill []) s ≡ None)
    × (first_missing others s ≡ None)
prices_and_others s true mill others h = grind (arith, common_steps, none_missing, first_missing-append)
prices_and_others s false false others h = none_missing s (Revenue ∷ Cost ∷ []) others h
prices_and_others s false true others h = grind (arith, common_steps, none_missing, first_missing-append)

-- and the other way round
pub prices_with_others : (s : SettingsView) (ways mill : Bool) (others : List Key)
    → first_missing (keys_by ways mill []) s ≡ None → first_missing others s ≡ None
    → first_missing (keys_by ways mill others) s ≡ None
prices_with_others s true mill others h k = grind (arith, common_steps, none_missing, first_missing-append)
prices_with_others s false false others h k = first_missing-append s (Revenue ∷ Cost ∷ []) others h ∙ k
prices_with_others s false true others h k = grind (arith, common_steps, none_missing, first_missing-append)
