use Rattle.std.proofs.Common.{rules, ◌≡◌, length, ap, arith}
use Rattle.word_runner.specs.Seats.{WordsView}
use Rattle.word_runner.proofs.SeatLists.{served_one, served_two}
use Rattle.word_runner.proofs.Ends.{last_one, last_two, closed_one, closed_two}
use Rattle.word_runner.proofs.net_words.Words.settle.Goals as goal

pub settle_one-requires : goal.settle_one-requires
settle_one-requires c =
    let none : length c.pop.new.self.items ≡ 0 = search rules in
    served_one c.args.self c.args.seats.items c.in-Some.last (last_one _ _ _ c.in-Some.ensures.items none) c.requires

pub settle_two-requires : goal.settle_two-requires
settle_two-requires c =
    let few = c.self.invariant.few in
    let same = ap (λ (w : WordsView). w.workers) c.self.view_is in
    let size = c.requires.size in
    served_two c.args.self c.args.seats.items c.in-Some-pop.first c.in-Some.last
    (last_two _ _ _ _ _ c.in-Some.ensures.items c.in-Some-pop.ensures.items (omega (arith, few, same, size)))
    c.requires

pub returns-in-None : goal.returns-in-None
returns-in-None c =
    let none : length c.pop.new.self.items ≡ 0 = search rules in
    closed_one c.args.self c.args.seats.items c.in-Some.last (last_one _ _ _ c.in-Some.ensures.items none)
    c.settle_one.result c.settle_one.ensures

pub returns : goal.returns
returns c =
    let few = c.self.invariant.few in
    let same = ap (λ (w : WordsView). w.workers) c.self.view_is in
    let size = c.requires.size in
    closed_two c.args.self c.args.seats.items c.in-Some-pop.first c.in-Some.last
    (last_two _ _ _ _ _ c.in-Some.ensures.items c.in-Some-pop.ensures.items (omega (arith, few, same, size)))
    c.settle_two.result c.settle_two.ensures
