use Rattle.fixed_worth.proofs.Common.{◌≡◌, ◌<◌, ◌≤◌, length, get_or, Some, None, sym, rules, drop_all, All-push}
use Rattle.toml.specs.View.{view}
use Rattle.settings_file.specs.Values.{way_of, IsWay}
use Rattle.settings_file.proofs.ReadArrays.{read-next, read-bad, read-end}
use Rattle.settings_file.proofs.ways.ways_among.Goals as goal

pub returns-in-None-clause-value : goal.returns-in-None-clause-value
returns-in-None-clause-value c =
    let vs = c.args.values.now.items in
    let i = c.loop-value.value-index in
    let inside : i < length vs = search (rules, c.deref-value-items.ensures.value, c.loop-value-test.true) in
    let bad : way_of (view (get_or vs i c.value-item.result)) ≡ None = search
    (rules, c.value-item.is, c.way_in.ensures.value, c.in-None.is, c.deref-value-items.ensures.value) in
    sym (read-bad way_of vs c.loop-value.ways.items i c.value-item.result inside bad c.loop-value.invariant.0)

pub loop-value-preserved : goal.loop-value-preserved
loop-value-preserved c =
    let vs = c.args.values.now.items in
    let i = c.loop-value.value-index in
    let inside : i < length vs = search (rules, c.deref-value-items.ensures.value, c.loop-value-test.true) in
    let good : way_of (view (get_or vs i c.value-item.result)) ≡ Some c.in-Some.way = search
    (rules, c.value-item.is, c.way_in.ensures.value, c.in-Some.is, c.deref-value-items.ensures.value) in
    let within : IsWay c.in-Some.way = search (rules, c.way_in.ensures.bound, c.in-Some.is) in
    rw c.in_ok-push-in-Some.ensures.items
    ((
      read-next way_of vs c.loop-value.ways.items i c.value-item.result c.in-Some.way inside good
          c.loop-value.invariant.0,
      All-push IsWay c.loop-value.ways.items c.in-Some.way c.loop-value.invariant.1 within,
    ))

pub returns-clause-value : goal.returns-clause-value
returns-clause-value c =
    let vs = c.args.values.now.items in
    let i = c.loop-value.value-index in
    let past : length vs ≤ i = search (rules, c.deref-value-items.ensures.value, c.loop-value-test.false) in
    sym (read-end way_of vs c.loop-value.ways.items i (drop_all i vs past) c.loop-value.invariant.0)
