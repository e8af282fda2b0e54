use Rattle.fixed_worth.proofs.Common.{◌≡◌, ◌∙◌, ap, is_some, Option, Some, None, Bor, option_map}
use Rattle.toml.specs.Data.{Data}
use Rattle.toml.specs.View.{view}
use Rattle.toml.specs.declared.value.Value.{Value}
use Rattle.toml.proofs.Views.{table_get}
use Rattle.settings_file.proofs.reading.has_key.Goals as goal

-- something is found where something is there to be shown
found_shown : (o : Option (Bor Value)) (shown : Option Data) → option_map (λ x. view x.now) o ≡ shown
    → is_some o ≡ is_some shown
found_shown (Some x) shown h = ap is_some h
found_shown None shown h = ap is_some h

pub returns : goal.returns
returns c =
    let found = table_get c.get.result c.name.result.now c.args.table.now.entries c.get.ensures.value in
    c.is_some.ensures ∙ found_shown c.get.result _ (rw c.name.ensures at found)
