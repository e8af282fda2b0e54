use Rattle.fixed_worth.proofs.Common.{◌≡◌, ◌<◌, ◌≤◌, length, get_or, Some, None, sym, rules, drop_all}
use Rattle.toml.specs.View.{view}
use Rattle.periods_file.specs.Prelude.{row_value_within}
use Rattle.periods_file.proofs.ReadRows.{row-next, row-bad, row-end}
use Rattle.periods_file.proofs.arrays.rows_among.Goals as goal

pub returns-in-None : goal.returns-in-None
returns-in-None c =
    let vs = c.args.values.now.items in
    let i = c.loop-value.value-index in
    let inside : i < length vs = search (rules, c.deref-value-items.ensures.value, c.loop-value-test.true) in
    let bad : row_value_within c.args.most c.args.width (view (get_or vs i c.value-item.result)) ≡ None = search
    (rules, c.value-item.is, c.in_ok-row.ensures, c.in-None.is, c.deref-value-items.ensures.value) in
    sym (row-bad (row_value_within c.args.most c.args.width) vs c.loop-value.numbers.items i c.value-item.result
    inside bad c.loop-value.invariant)

pub loop-value-preserved : goal.loop-value-preserved
loop-value-preserved c =
    let vs = c.args.values.now.items in
    let i = c.loop-value.value-index in
    let inside : i < length vs = search (rules, c.deref-value-items.ensures.value, c.loop-value-test.true) in
    let good : row_value_within c.args.most c.args.width (view (get_or vs i c.value-item.result))
    ≡ Some c.in-Some.row.items = search
    (rules, c.value-item.is, c.in_ok-row.ensures, c.in-Some.is, c.deref-value-items.ensures.value) in
    let shown : c.as_slice.result.now ≡ c.in-Some.row.items = c.as_slice.ensures.value in
    rw (c.in_ok-extend_from_slice-in-Some.ensures.items, shown)
    (row-next (row_value_within c.args.most c.args.width) vs c.loop-value.numbers.items i c.value-item.result
    c.in-Some.row.items inside good c.loop-value.invariant)

pub returns : goal.returns
returns c =
    let vs = c.args.values.now.items in
    let i = c.loop-value.value-index in
    let past : length vs ≤ i = search (rules, c.deref-value-items.ensures.value, c.loop-value-test.false) in
    sym (row-end (row_value_within c.args.most c.args.width) vs c.loop-value.numbers.items i (drop_all i vs past)
    c.loop-value.invariant)
