use Rattle.fixed_worth.proofs.Common.{◌≡◌, ◌<◌, ◌≤◌, [], ◌∷◌, length, get_or, Some, None, sym, ap, rules, drop_all}
use Rattle.toml.specs.View.{view}
use Rattle.toml_values.specs.Prelude.{whole_value_within}
use Rattle.periods_file.specs.Prelude.{alone, number_row}
use Rattle.periods_file.proofs.ReadRows.{row-next, row-bad, row-end}
use Rattle.periods_file.proofs.arrays.columns_among.Goals as goal

pub returns-in-None : goal.returns-in-None
returns-in-None c =
    let vs = c.args.values.now.items in
    let i = c.loop-value.value-index in
    let inside : i < length vs = search (rules, c.deref-value-items.ensures.value, c.loop-value-test.true) in
    let bad : whole_value_within 65535 (view (get_or vs i c.value-item.result)) ≡ None = search
    (rules, c.value-item.is, c.number_within.ensures.value, c.in-None.is, c.deref-value-items.ensures.value) in
    sym (row-bad (number_row 65535) vs c.loop-value.columns.items i c.value-item.result inside
    (ap alone bad) c.loop-value.invariant)

pub loop-value-preserved : goal.loop-value-preserved
loop-value-preserved c =
    let vs = c.args.values.now.items in
    let i = c.loop-value.value-index in
    let inside : i < length vs = search (rules, c.deref-value-items.ensures.value, c.loop-value-test.true) in
    let good : whole_value_within 65535 (view (get_or vs i c.value-item.result)) ≡ Some c.in-Some.column = search
    (rules, c.value-item.is, c.number_within.ensures.value, c.in-Some.is, c.deref-value-items.ensures.value) in
    rw c.in_ok-push-in-Some.ensures.items
    (row-next (number_row 65535) vs c.loop-value.columns.items i c.value-item.result (c.in-Some.column ∷ [])
    inside (ap alone good) c.loop-value.invariant)

pub returns : goal.returns
returns c =
    let vs = c.args.values.now.items in
    let i = c.loop-value.value-index in
    let past : length vs ≤ i = search (rules, c.deref-value-items.ensures.value, c.loop-value-test.false) in
    sym (row-end (number_row 65535) vs c.loop-value.columns.items i (drop_all i vs past) c.loop-value.invariant)
