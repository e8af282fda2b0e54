use Rattle.fixed_worth.proofs.Common.{refl, arith, common_steps}
use Rattle.prec_file.proofs.PartLines.{parts_joined}
use Rattle.prec_file.proofs.part_reading.joined.Goals as goal

pub returns : goal.returns
returns c = λ xs ys p q.
    parts_joined c.args.n c.args.front.from c.args.back.from xs ys c.args.front.rows c.args.back.rows
    c.append.new.self c.args.front.listed c.args.back.listed c.in_ok-listed.listed p q
    (omega (arith, c.next.ensures, c.if-back-next.false)) (grind (arith, common_steps))
    (omega (arith, c.if-listed.false)) (c.if-not-append.ensures refl)
