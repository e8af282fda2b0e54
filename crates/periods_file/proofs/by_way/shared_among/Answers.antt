use Rattle.fixed_worth.proofs.Common.{◌≡◌, ◌<◌, ◌≤◌, [], ◌∷◌, length, get_or, is_some, Some, sym, ap, rules, drop_all}
use Rattle.toml.specs.View.{view}
use Rattle.toml_values.specs.Prelude.{whole_value_within}
use Rattle.periods_file.specs.Prelude.{shared_row}
use Rattle.periods_file.proofs.ReadRows.{row-next, row-end}
use Rattle.periods_file.proofs.by_way.shared_among.Goals as goal

pub loop-value-preserved : goal.loop-value-preserved
loop-value-preserved c =
    let vs = c.args.values.now.items in
    let i = c.loop-value.value-index in
    let inside : i < length vs = search (rules, c.deref-value-items.ensures.value, c.loop-value-test.true) in
    let whole : is_some (whole_value_within 65535 (view (get_or vs i c.value-item.result))) ≡ c.is_some-whole.result =
    search (
      rules,
      c.value-item.is,
      c.number_within.ensures.value,
      c.is_some-whole.ensures,
      c.deref-value-items.ensures.value,
    ) in
    rw c.in_ok-push.ensures.items
    (row-next shared_row vs c.loop-value.shared.items i c.value-item.result (c.is_some-whole.result ∷ []) inside
    (ap (λ t. Some (t ∷ [])) whole) c.loop-value.invariant)

pub returns : goal.returns
returns c =
    let vs = c.args.values.now.items in
    let i = c.loop-value.value-index in
    let past : length vs ≤ i = search (rules, c.deref-value-items.ensures.value, c.loop-value-test.false) in
    sym (row-end shared_row vs c.loop-value.shared.items i (drop_all i vs past) c.loop-value.invariant)
