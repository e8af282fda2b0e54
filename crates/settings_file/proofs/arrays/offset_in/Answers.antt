use Rattle.std.proofs.Common.{◌≡◌, ◌∙◌, sym, ap, Some, rules}
use Rattle.toml.specs.View.{view, items_view}
use Rattle.toml.specs.Data.{as_array}
use Rattle.settings_file.specs.Values.{offset_of_items}
use Rattle.settings_file.proofs.ReadArrays.{not-three}
use Rattle.settings_file.proofs.arrays.offset_in.Goals as goal

pub returns-then-len-ne3 : goal.returns-then-len-ne3
returns-then-len-ne3 c =
    let shown : as_array (view c.args.value.now) ≡ Some (items_view c.in-Some.numbers.now.items) = search
    (rules, c.in-Some.ensures) in
    let short = not-three c.in-Some.numbers.now.items (λ e. c.if-len-ne3.true (search (rules, c.len.ensures, e))) in
    sym (ap offset_of_items shown ∙ short)
