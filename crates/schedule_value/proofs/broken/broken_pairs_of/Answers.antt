use Rattle.std.proofs.Common.{rules, ◌≡◌, ℕ, List, [], take, ap, ◌∙◌, subst, refl, arith}
use Rattle.prec_file.specs.Rests.{first_of}
use Rattle.schedule_value.proofs.BlockByBlock.{none_passed, all_passed}
use Rattle.schedule_value.specs.Prelude.{AreBroken, period_by}
use Rattle.schedule_value.proofs.broken.broken_pairs_of.Goals as goal

pub loop-b-init : goal.loop-b-init
loop-b-init c =
    let none : c.new.result.items ≡ [] = search rules in
    rw (none_passed c.args.predecessors.now.pairs) (record { all = refl; first = none })

pub returns : goal.returns
returns c =
    let v = c.args.predecessors.now in
    let end : c.loop-b.b ≡ v.blocks = omega arith in
    let all = ap (λ (k : ℕ). take (first_of v.pairs k) v.pairs) end ∙ all_passed v c.len-blocks.ensures.all in
    subst (λ (ps : List (ℕ × ℕ)). AreBroken c.args.lag (period_by c.args.schedule.now) c.args.periods ps
    c.loop-b.broken.count c.loop-b.broken.first.items) all c.loop-b.invariant
