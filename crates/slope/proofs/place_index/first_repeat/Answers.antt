use Rattle.std.proofs.Common.{◌+◌, ◌-◌, ℕ, Option, arith, sym, subst, ◌∙◌}
use Rattle.slope.specs.Gathering.{entry_at}
use Rattle.slope_offsets.proofs.OffsetSorting.{offset_same, offset_differs}
use Rattle.slope.proofs.Repeats.{SoFar, repeat_passed, repeat_taken, all_told}
use Rattle.slope.proofs.place_index.first_repeat.Goals as goal
use Rattle.slope.proofs.place_index.first_repeat.Goals.{then-eq, else-eq}

pub loop-i-preserved : goal.loop-i-preserved
loop-i-preserved c =
    let es = c.args.entries.now in
    let i = c.loop-i.i in
    let some = c.loop-i.invariant.0 in
    let P : Option (ℕ × ℕ) → Type 0 = λ r. SoFar es (i + 1) r in
    elim c.if-eq.branch [
      | then-eq w ↦
          let same = offset_same (entry_at es (i - 1)).0 (entry_at es i).0 (sym c.eq.ensures ∙ w.if-eq.true) in (
            omega arith,
            subst P (sym w.repeat-is)
                (repeat_taken es i some (omega arith) same c.loop-i.repeat w.earlier.result c.loop-i.invariant.1
                w.earlier.ensures),
          )
      | else-eq w ↦
          let apart = offset_differs (entry_at es (i - 1)).0 (entry_at es i).0 (sym c.eq.ensures ∙ w.if-eq.false) in (
            omega arith,
            subst P (sym w.repeat-is)
                (repeat_passed es i some (omega arith) c.loop-i.repeat c.loop-i.invariant.1 apart),
          )
    ]

pub returns : goal.returns
returns c = all_told c.args.entries.now c.loop-i.i c.loop-i.repeat (omega arith) c.loop-i.invariant.1
