use Rattle.fixed_worth.proofs.Common.{◌≡◌, ◌<◌, ◌≤◌, length, get_or, Some, None, sym, rules, drop_all, All-push}
use Rattle.toml.specs.View.{view}
use Rattle.toml_values.specs.Prelude.{whole_value_within}
use Rattle.settings_file.proofs.ReadArrays.{read-next, read-bad, read-end}
use Rattle.settings_file.proofs.arrays.numbers_within.Goals as goal

pub returns-in-None-clause-value : goal.returns-in-None-clause-value
returns-in-None-clause-value c =
    let vs = c.args.values.now.items in
    let i = c.loop-value.value-index in
    let inside : i < length vs = search (rules, c.deref-value-items.ensures.value, c.loop-value-test.true) in
    let bad : (whole_value_within c.args.most) (view (get_or vs i c.value-item.result)) ≡ None = search
    (rules, c.value-item.is, c.number_within.ensures.value, c.in-None.is, c.deref-value-items.ensures.value) in
    sym (read-bad (whole_value_within c.args.most) vs c.loop-value.numbers.items i c.value-item.result inside bad
    c.loop-value.invariant.0)

pub loop-value-preserved : goal.loop-value-preserved
loop-value-preserved c =
    let vs = c.args.values.now.items in
    let i = c.loop-value.value-index in
    let inside : i < length vs = search (rules, c.deref-value-items.ensures.value, c.loop-value-test.true) in
    let good : (whole_value_within c.args.most) (view (get_or vs i c.value-item.result)) ≡ Some c.in-Some.number =
    search (
      rules,
      c.value-item.is,
      c.number_within.ensures.value,
      c.in-Some.is,
      c.deref-value-items.ensures.value,
    ) in
    let within : c.in-Some.number ≤ c.args.most = search (rules, c.number_within.ensures.bound, c.in-Some.is) in
    rw c.in_ok-push-in-Some.ensures.items
    ((
      read-next (whole_value_within c.args.most) vs c.loop-value.numbers.items i c.value-item.result
          c.in-Some.number inside good c.loop-value.invariant.0,
      All-push (λ n. n ≤ c.args.most)
          c.loop-value.numbers.items c.in-Some.number c.loop-value.invariant.1 within,
    ))

pub returns-clause-value : goal.returns-clause-value
returns-clause-value c =
    let vs = c.args.values.now.items in
    let i = c.loop-value.value-index in
    let past : length vs ≤ i = search (rules, c.deref-value-items.ensures.value, c.loop-value-test.false) in
    sym (read-end (whole_value_within c.args.most) vs c.loop-value.numbers.items i (drop_all i vs past)
    c.loop-value.invariant.0)
