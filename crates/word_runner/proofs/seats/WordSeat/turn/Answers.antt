use Rattle.fixed_worth.proofs.Common.{◌≡◌, ◌<◌, ◌∙◌, ℕ, List, length, get_or, ap, sym, arith, get_or_read}
use Rattle.closure_net.specs.Network.{NetView}
use Rattle.machine_law.specs.declared.operations.Operation.{Operation}
use Rattle.word_steps.specs.Prelude.{count, after}
use Rattle.word_runner.specs.Prelude.{Own, WordsView}
use Rattle.word_runner.proofs.Told.{told_next}
use Rattle.word_runner.proofs.seats.WordSeat.turn.Goals as goal

-- the next operation, by the label that the seat keeps
next_is : (own net cut : NetView) (labels : List ℕ) (b label x : ℕ) (operation next : Operation ℕ) → own ≡ net
    → length labels ≡ count own → count net ≡ count cut → b < length cut.worths → label ≡ get_or labels b label
    → next ≡ after net b label operation x
    → next ≡ after own b (get_or labels b 0) operation x
next_is own net cut labels b label x operation next at wide same block read is =
    is ∙ ap (λ (l : ℕ). after net b l operation x)
    (get_or_read labels b label (omega (arith, wide, ap count at, same, block)) read 0)
    ∙ ap (λ (n : NetView). after n b (get_or labels b 0) operation x) (sym at)

pub invariant_of-self-2 : goal.invariant_of-self-2
invariant_of-self-2 c =
    let m = c.self.inside in
    let b = c.args.b in
    let x = c.make_next-x.result in
    let net = c.words.inside.net in
    let at : m.place.me.0.net ≡ net = ap (λ (z : Own). z.place.me.0.net) c.self.view_is ∙ c.requires.words.net
    ∙ sym (ap (λ (z : WordsView). z.shared.key) c.words.view_is) ∙ c.words.invariant.key in
    let next = next_is m.place.me.0.net net c.args.words.now.cut m.labels.items b c.index-label.result.now x
    m.operation c.after-next.result at c.self.invariant.wide (ap (λ (z : WordsView). count z.cut) c.words.view_is)
    c.requires.block.0 c.index-label.ensures c.after-next.ensures in
    told_next m.place c.make_next-x.new.place m.labels.items c.note_label.new.labels.items m.block b m.operation
    c.after-next.result m.stopped c.is_overfull-self-inside.result x c.self.invariant c.make_next-x.ensures.view
    c.make_next-x.ensures.same c.note_label.ensures next c.is_overfull-self-inside.ensures

pub returns-clause-told : goal.returns-clause-told
returns-clause-told c =
    let m = c.self.inside in
    let b = c.args.b in
    let x = c.make_next-x.result in
    let net = c.words.inside.net in
    let at : m.place.me.0.net ≡ net = ap (λ (z : Own). z.place.me.0.net) c.self.view_is ∙ c.requires.words.net
    ∙ sym (ap (λ (z : WordsView). z.shared.key) c.words.view_is) ∙ c.words.invariant.key in
    let next = next_is m.place.me.0.net net c.args.words.now.cut m.labels.items b c.index-label.result.now x
    m.operation c.after-next.result at c.self.invariant.wide (ap (λ (z : WordsView). count z.cut) c.words.view_is)
    c.requires.block.0 c.index-label.ensures c.after-next.ensures in
    told_next m.place c.make_next-x.new.place m.labels.items c.note_label.new.labels.items m.block b m.operation
    c.after-next.result m.stopped c.is_overfull-self-inside.result x c.self.invariant c.make_next-x.ensures.view
    c.make_next-x.ensures.same c.note_label.ensures next c.is_overfull-self-inside.ensures
