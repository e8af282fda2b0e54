use Rattle.fixed_worth.proofs.Common.{◌≡◌, ◌+◌, ◌-◌, ◌++◌, ◌≤◌, length, replicate, pos, arith, common_steps}
use Rattle.upit_file.proofs.PartProgress.{ended_joined, parts_joined}
use Rattle.upit_file.proofs.part_reading.joined.Goals as goal

pub returns-then-front : goal.returns-then-front
returns-then-front c = λ n xs ys p q. ended_joined n c.args.from xs ys c.args.front.values.items c.args.front.ended
    c.if-front.true p

pub returns : goal.returns
returns c = λ n xs ys p q.
    let place = c.in_ok-place.field-0 in
    let vs = c.args.front.values.items in
    let ws = c.in_ok-back.back.values.items in
    let put : c.args.later ≡ c.args.from + place = grind (arith, common_steps) in
    let room : length vs ≤ place = omega (arith, c.if-place-len.false, c.len.ensures) in
    let joined : c.append.new.self.items ≡ (vs ++ replicate (place - length vs) (pos 0)) ++ ws = grind
    (arith, common_steps) in
    parts_joined n c.args.from c.args.later place xs ys vs ws c.append.new.self.items c.args.front.ended
    c.in_ok-back.back.ended c.if-front.false p (rw c.in_ok-back.was at q) put room joined
