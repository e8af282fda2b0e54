use Rattle.std.proofs.Common.{ℕ, ◌+◌, ◌<◌, ◌≤◌, length, vec_capacity, Vec, Global, sym, arith, subst}
use Rattle.prec_file.specs.Rests.{from_at}
use Rattle.prec_file.proofs.Firsts.{FirstsSoFar, firsts_more, firsts_same, firsts_all}
use Rattle.prec_file.proofs.first_pairs.firsts_of.Goals as goal
use Rattle.prec_file.proofs.first_pairs.firsts_of.Goals.{then-len-beyond, else-len-beyond}

pub loop-k-preserved : goal.loop-k-preserved
loop-k-preserved c =
    let ps = c.args.pairs.now in
    let k = c.loop-k.k in
    let firsts = c.loop-k.firsts in
    let inside : k < length ps = omega arith in
    let known : from_at ps k < c.args.n = (c.requires.known k (0, 0) inside).0 in
    let P : Vec ℕ Global → Type 0 = λ v. record {
      so_far : FirstsSoFar ps c.args.n (k + 1) v.items;
      space : c.args.n
          + 1 ≤ vec_capacity v;
    } in
    elim c.if-len-beyond.branch [
      | then-len-beyond w ↦
          let put = w.fill.ensures in
          let more : length firsts.items ≤ length w.fill.new.list.items = omega
          (arith, put.size, firsts.ok, c.len.ensures, w.if-len-beyond.true) in
          let so_far = firsts_more ps c.requires.rising c.args.n k firsts.items w.fill.new.list.items
          c.loop-k.invariant.so_far inside known put.size more put.kept
          (λ i l m. put.filled i l (omega (arith, put.size))) in
          subst P (sym w.firsts-is)
          (record { so_far = so_far; space = omega (arith, put.space, c.loop-k.invariant.space) })
      | else-len-beyond w ↦
          let so_far = firsts_same ps c.args.n k firsts.items c.loop-k.invariant.so_far
          (omega (arith, firsts.ok, c.len.ensures, w.if-len-beyond.false)) in
          subst P (sym w.firsts-is) (record { so_far = so_far; space = c.loop-k.invariant.space })
    ]

pub returns : goal.returns
returns c =
    let put = c.fill-2.ensures in
    firsts_all _ _ _ _ (subst (λ (k : ℕ). FirstsSoFar c.args.pairs.now c.args.n k c.loop-k.firsts.items)
    (omega arith) c.loop-k.invariant.so_far) put.size put.kept
    (λ i l m. put.filled i l (omega (arith, put.size)))
