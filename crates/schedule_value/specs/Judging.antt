-- All that a schedule comes to.
use Rattle.std.specs.Prelude.{◌≡◌, ◌↔◌, ℕ, ℤ, List, []}
use Rattle.prec_file.specs.Rests.{has_pair}
use Rattle.ordered_group.specs.Sets.{count_in}
use Rattle.schedules.specs.Prelude.{Production, IsFeasible, is_dug, npv_of}
use Rattle.schedule_value.specs.declared.usage.Over.{Over}
use Rattle.schedule_value.specs.declared.judging.Judged.{Judged}
use Rattle.schedule_value.specs.Breaking.{AreBroken, KeepsLags}
use Rattle.schedule_value.specs.Overuse.{overs_in_rows}

-- What is told of a schedule: how many blocks it digs, what it is worth, how many pairs it breaks and the first of
-- them, how many pairs of blocks that wait it digs too early and the first of them, and where it uses more of a
-- resource than there is.
pub record JudgedView : Type 0 where
  pub count : ℕ
  pub npv : ℤ
  pub broken : ℕ
  pub first : List (ℕ × ℕ)
  pub early : ℕ
  pub first_early : List (ℕ × ℕ)
  pub over : List Over

-- what the type shows
abbrev pub judged_view : Judged → JudgedView
judged_view j = record {
  count = j.count;
  npv = j.npv;
  broken = j.broken.count;
  first = j.broken.first.items;
  early =
      j.early.count;
  first_early = j.early.first.items;
  over = j.over.items;
}

-- This is what a schedule of a production comes to, whose predecessors are these pairs, and whose blocks wait so many
-- periods for others by these. No pair is broken, none is too early and nowhere is more used than there is exactly
-- where it is feasible and keeps the lag.
pub record IsJudged (plan : Production) (schedule : ℕ → ℕ) (pairs : List (ℕ × ℕ)) (lag : ℕ) (waits : List (ℕ × ℕ))
    (v : JudgedView) : Type 0 where
  pub count : v.count ≡ count_in (is_dug plan schedule) plan.mine.blocks
  pub npv : v.npv ≡ npv_of plan schedule
  pub broken : AreBroken 0 schedule plan.periods pairs v.broken v.first
  pub early : AreBroken lag schedule plan.periods waits v.early v.first_early
  pub over : v.over ≡ overs_in_rows plan schedule plan.resources
  pub feasible : ((v.broken ≡ 0) × (v.early ≡ 0) × (v.over ≡ [])) ↔
      (IsFeasible plan schedule × KeepsLags plan.periods lag (has_pair waits) schedule)
