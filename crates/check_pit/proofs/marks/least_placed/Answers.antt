use Rattle.fixed_worth.proofs.Common.{ℕ, ◌+◌, ◌<◌, false, get_or, Option, IfSome, sym, subst, arith}
use Rattle.check_pit.proofs.LeastLacks.{LeastSoFar, least_more, least_told, none_yet, way_known}
use Rattle.check_pit.proofs.marks.least_placed.Goals as goal

pub loop-k-init : goal.loop-k-init
loop-k-init g c = none_yet (g.P.Precedence.shown c.args.of.now) (λ q. get_or c.args.marks.now q false) c.args.b

pub lesser_lacking-least-requires : goal.lesser_lacking-least-requires
lesser_lacking-least-requires g c =
    let v = g.P.Precedence.shown c.args.of.now in
    subst (λ (n : ℕ). IfSome c.way-way.result (λ p. p < n)) (sym c.requires.size)
    (way_known v c.args.b c.loop-k.k c.way-way.result c.len-blocks.ensures.all c.requires.known
    (omega (arith, c.loop-k-test.true, c.ways-count.ensures)) c.way-way.ensures)

pub loop-k-preserved : goal.loop-k-preserved
loop-k-preserved g c =
    let v = g.P.Precedence.shown c.args.of.now in
    subst (λ (o : Option ℕ). LeastSoFar v (λ q. get_or c.args.marks.now q false) c.args.b (c.loop-k.k + 1) o)
    (sym c.lesser_lacking-least.ensures)
    (least_more v (λ q. get_or c.args.marks.now q false) c.args.b c.loop-k.k c.loop-k.least c.way-way.result
    c.way-way.ensures c.loop-k.invariant)

pub returns : goal.returns
returns g c =
    least_told (g.P.Precedence.shown c.args.of.now) (λ q. get_or c.args.marks.now q false) c.args.b c.loop-k.k
    c.loop-k.least c.len-blocks.ensures.all c.requires.known
    (omega (arith, c.loop-k-test.false, c.loop-k.auto.k-end, c.ways-count.ensures)) c.loop-k.invariant
