use Rattle.fixed_worth.proofs.Common.{◌≡◌, ◌<◌, ◌≤◌, length, get_or, Some, None, sym, rules, drop_all}
use Rattle.toml.specs.View.{view}
use Rattle.settings_file.specs.Values.{offset_of}
use Rattle.settings_file.proofs.ReadArrays.{read-next, read-bad, read-end}
use Rattle.settings_file.proofs.arrays.offsets_among.Goals as goal

pub returns-in-None : goal.returns-in-None
returns-in-None c =
    let vs = c.args.values.now.items in
    let i = c.loop-value.value-index in
    let inside : i < length vs = search (rules, c.deref-value-items.ensures.value, c.loop-value-test.true) in
    let bad : offset_of (view (get_or vs i c.value-item.result)) ≡ None = search
    (rules, c.value-item.is, c.offset_in.ensures, c.in-None.is, c.deref-value-items.ensures.value) in
    sym (read-bad offset_of vs c.loop-value.offsets.items i c.value-item.result inside bad c.loop-value.invariant)

pub loop-value-preserved : goal.loop-value-preserved
loop-value-preserved c =
    let vs = c.args.values.now.items in
    let i = c.loop-value.value-index in
    let inside : i < length vs = search (rules, c.deref-value-items.ensures.value, c.loop-value-test.true) in
    let good : offset_of (view (get_or vs i c.value-item.result)) ≡ Some c.in-Some.offset = search
    (rules, c.value-item.is, c.offset_in.ensures, c.in-Some.is, c.deref-value-items.ensures.value) in
    rw c.in_ok-push-in-Some.ensures.items
    (read-next offset_of vs c.loop-value.offsets.items i c.value-item.result c.in-Some.offset inside good
    c.loop-value.invariant)

pub returns : goal.returns
returns c =
    let vs = c.args.values.now.items in
    let i = c.loop-value.value-index in
    let past : length vs ≤ i = search (rules, c.deref-value-items.ensures.value, c.loop-value-test.false) in
    sym (read-end offset_of vs c.loop-value.offsets.items i (drop_all i vs past) c.loop-value.invariant)
