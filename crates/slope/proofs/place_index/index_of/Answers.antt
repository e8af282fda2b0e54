use Rattle.std.proofs.Common.{◌≡◌, List, map, subst}
use Rattle.slope.specs.Gathering.{Entry, HaveNoRepeat, IsEarliestRepeat}
use Rattle.slope.proofs.Repeats.{first_repeat_is, index_is}
use Rattle.slope.proofs.place_index.index_of.Goals as goal

pub returns-in-Some : goal.returns-in-Some
returns-in-Some c =
    let m = c.args.model.now in
    let P : List Entry → Type 0 = λ es. IsEarliestRepeat es (c.in-Some.first, c.in-Some.again) in
    first_repeat_is m c.in_order-entries.result.items (c.in_order-entries.ensures.same m c.in-Ok.ensures)
    c.in_order-entries.ensures.order _ _ (subst P c.deref.ensures.value c.in-Some.ensures)

pub returns-in-Ok-parted : goal.returns-in-Ok-parted
returns-in-Ok-parted c =
    let m = c.args.model.now in
    let none = rw c.in_default-first_repeat.is at c.first_repeat.ensures in
    let Keys : List Entry → Type 0 = λ es. c.in-Ok-parted.index.keys.items ≡ map (λ (e : Entry). e.0) es in
    let Blocks : List Entry → Type 0 = λ es. c.in-Ok-parted.index.blocks.items ≡ map (λ (e : Entry). e.1) es in
    index_is m c.in_order-entries.result.items (c.in_order-entries.ensures.same m c.in-Ok.ensures)
    c.in_order-entries.ensures.order _ _ (subst HaveNoRepeat c.deref.ensures.value none)
    (subst Keys c.deref-2.ensures.value c.in-Ok-parted.ensures.0)
    (subst Blocks c.deref-2.ensures.value c.in-Ok-parted.ensures.1)
