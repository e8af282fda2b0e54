use Rattle.std.proofs.Common.{◌≡◌, ◌≢◌, ◌<◌, ◌≤◌, ◌+◌, ◌-◌, ℕ, List, Vec, Global, length, get_or, arith, sym, ap, subst}
use Rattle.std.proofs.Common.{◌∙◌}
use Rattle.prec_file.specs.declared.limits.TheConstants.{MOST_PAIRS}
use Rattle.prec_file.specs.Rests.{above_of}
use Rattle.sub_mines.specs.Among.{AreRowsAnd}
use Rattle.sub_mines.proofs.Rows.{row_begun, row_ended, row_passed, row_taken, above_known}
use Rattle.sub_mines.proofs.among.add_row.Goals as goal
use Rattle.sub_mines.proofs.among.add_row.Goals.{then-place-gt0+else-len-ge-MOST_PAIRS+in_ok-push, else-place-gt0}

pub loop-other-init : goal.loop-other-init
loop-other-init c = (
  row_begun c.args.predecessors.now.pairs c.args.kept.now c.args.row c.args.pairs.now.items
      c.requires.so_far,
  c.requires.few,
)

pub bounds-places-other : goal.bounds-places-other
bounds-places-other c =
    let above = c.above-other-items.ensures in
    let i = c.loop-other.other-index in
    let low : i < length (above_of c.args.predecessors.now.pairs (get_or c.args.kept.now c.args.row 0)) = subst
    (λ xs. i < length xs) above c.loop-other-test.true in
    let known = above_known c.args.predecessors.now (get_or c.args.kept.now c.args.row 0) i c.len.ensures.all low in
    rw c.requires.places.size (subst (λ xs. get_or xs i 0 < c.args.predecessors.now.blocks) (sym above) known)

pub loop-other-preserved : goal.loop-other-preserved
loop-other-preserved c =
    let pairs = c.args.predecessors.now.pairs in
    let kept = c.args.kept.now in
    let row = c.args.row in
    let i = c.loop-other.other-index in
    let above = c.above-other-items.ensures in
    let p = get_or c.above-other-items.result.now i 0 in
    let here : get_or (above_of pairs (get_or kept row 0)) i 0 ≡ p = ap (λ xs. get_or xs i 0) (sym above) in
    let low : i < length (above_of pairs (get_or kept row 0)) = subst (λ xs. i < length xs) above
    c.loop-other-test.true in
    let known : p < c.args.predecessors.now.blocks = subst (λ x. x < c.args.predecessors.now.blocks) here
    (above_known c.args.predecessors.now (get_or kept row 0) i c.len.ensures.all low) in
    let items_of : Vec (ℕ × ℕ) Global → List (ℕ × ℕ) = λ v. v.items in
    let Q : List (ℕ × ℕ) → Type 0 = λ ps. AreRowsAnd pairs kept row (i + 1) ps in
    let R : List (ℕ × ℕ) → Type 0 = λ ps. length ps ≤ MOST_PAIRS in
    elim c.if-place-gt0.branch [
      | then-place-gt0+else-len-ge-MOST_PAIRS+in_ok-push w ↦
          let some : get_or c.args.places.now p 0 ≢ 0 = λ z. (let t = w.if-place-gt0.true in omega (arith, t, z)) in
          let f = w.in_ok-push.ensures.items in
          let t = row_taken pairs kept row i c.args.predecessors.now.blocks c.args.places.now c.loop-other.pairs.items
          p c.loop-other.invariant.0 c.requires.places here c.len.ensures.all.rising c.requires.inside low known
          some
          (get_or c.args.places.now p 0 - 1) (omega arith) in (
            subst Q (sym f ∙ sym (ap items_of w.pairs-is)) t,
            subst R (sym (ap items_of w.pairs-is))
                (let l = w.if-len-ge-MOST_PAIRS.false in let e = w.len-then-place-gt0.ensures in let n =
                w.in_ok-push.ensures.len in omega (arith, l, e, n)),
          )
      | else-place-gt0 w ↦
          let none : get_or c.args.places.now p 0 ≡ 0 = (let t = w.if-place-gt0.false in omega (arith, t)) in
          let t = row_passed pairs kept row i c.args.predecessors.now.blocks c.args.places.now
          c.loop-other.pairs.items p c.loop-other.invariant.0 c.requires.places here none in
          (subst Q (sym (ap items_of w.pairs-is)) t, subst R (sym (ap items_of w.pairs-is)) c.loop-other.invariant.1)
    ]

pub returns-clause-rows : goal.returns-clause-rows
returns-clause-rows c =
    let above = c.above-other-items.ensures in
    let i = c.loop-other.other-index in
    let all : length (above_of c.args.predecessors.now.pairs (get_or c.args.kept.now c.args.row 0)) ≤ i = subst
    (λ xs. length xs ≤ i) above (omega arith) in
    row_ended c.args.predecessors.now.pairs c.args.kept.now c.args.row c.loop-other.pairs.items i all
    c.loop-other.invariant.0
