use Rattle.fixed_worth.proofs.Common.{◌≡◌, ◌<◌, ◌≤◌, ◌∙◌, ◌∷◌, [], ℤ, List, length, drop, ◌+◌, get_or, map, Some, None}
use Rattle.fixed_worth.proofs.Common.{sym, ap, subst, rules, drop_all, map-append}
use Rattle.std.specs.Global.{Vec}
use Rattle.toml.specs.View.{view, items_view}
use Rattle.settings_file.specs.Values.{all_read, offsets_of}
use Rattle.settings_file.proofs.ReadArrays.{after, read-next, read-bad, read-end}
use Rattle.settings_file.proofs.arrays.slopes_among.Goals as goal

pub returns-in-None : goal.returns-in-None
returns-in-None c =
    let vs = c.args.values.now.items in
    let i = c.loop-value.value-index in
    let xs = map (λ (w : Vec (ℤ × ℤ × ℤ)). w.items) c.loop-value.slopes.items in
    let inside : i < length vs = search (rules, c.deref-value-items.ensures.value, c.loop-value-test.true) in
    let bad : offsets_of (view (get_or vs i c.value-item.result)) ≡ None = search
    (rules, c.value-item.is, c.in_ok-offsets.ensures, c.in-None.is, c.deref-value-items.ensures.value) in
    sym (read-bad offsets_of vs xs i c.value-item.result inside bad c.loop-value.invariant)

pub loop-value-preserved : goal.loop-value-preserved
loop-value-preserved c =
    let vs = c.args.values.now.items in
    let i = c.loop-value.value-index in
    let items : Vec (ℤ × ℤ × ℤ) → List (ℤ × ℤ × ℤ) = λ w. w.items in
    let xs = map items c.loop-value.slopes.items in
    let inside : i < length vs = search (rules, c.deref-value-items.ensures.value, c.loop-value-test.true) in
    let good : offsets_of (view (get_or vs i c.value-item.result)) ≡ Some c.in-Some.offsets.items = search
    (rules, c.value-item.is, c.in_ok-offsets.ensures, c.in-Some.is, c.deref-value-items.ensures.value) in
    let Q : List (List (ℤ × ℤ × ℤ)) → Type 0 = λ ys. all_read offsets_of (items_view vs) ≡ after ys
    (all_read offsets_of (items_view (drop (i + 1) vs))) in
    subst Q (sym (ap (map items) c.in_ok-push-in-Some.ensures.items
    ∙ map-append items c.loop-value.slopes.items (c.in-Some.offsets ∷ [])))
    (read-next offsets_of vs xs i c.value-item.result c.in-Some.offsets.items inside good c.loop-value.invariant)

pub returns : goal.returns
returns c =
    let vs = c.args.values.now.items in
    let i = c.loop-value.value-index in
    let past : length vs ≤ i = search (rules, c.deref-value-items.ensures.value, c.loop-value-test.false) in
    sym (read-end offsets_of vs (map (λ (w : Vec (ℤ × ℤ × ℤ)). w.items) c.loop-value.slopes.items) i
    (drop_all i vs past) c.loop-value.invariant)
