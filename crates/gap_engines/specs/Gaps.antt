-- What a schedule comes to beside a bound on the worth of every schedule, over the texts of a mine and its periods.
use Rattle.std.specs.Prelude.{◌≡◌, ℕ, ℤ, ◌≤ℤ◌, List, [], Option}
use Rattle.mine_inputs.specs.Prelude.{MineTexts}
use Rattle.schedule_value.specs.Prelude.{JudgedView, judged_view}
use Rattle.schedule_engines.specs.Prelude.{IsTreated}
use Rattle.bound_engines.specs.declared.bound_judge.BoundJudgement.{BoundJudgement}
use Rattle.bound_engines.specs.declared.bound_judge.BoundJudgement.TheVariants as told
use Rattle.bound_engines.specs.Prelude.{IsBounded, IsGiven}
use Rattle.gap_engines.specs.declared.compared_within.ComparedBy.{ComparedBy}
use Rattle.gap_engines.specs.declared.compared_within.ComparedBy.TheVariants as compared

-- This is what a schedule comes to, whose blocks go the ways that it names, or the first by which they are worth most;
-- and
-- no feasible schedule of the same mine over the same periods is worth more than the bound, whichever ways its blocks
-- go: so neither is this one, where it breaks no pair, digs no block too early and uses nowhere more than there
-- is.
pub record IsBelow (texts : MineTexts) (periods uses : List ℕ) (pit : Option (List ℕ)) (text : List ℕ)
    (v : JudgedView) (bound : ℤ) : Type 0 where
  pub scheduled : IsTreated texts periods uses text v
  pub bounded : IsBounded texts periods uses pit bound
  pub same_blocks : bounded.denotes.count ≡ scheduled.count
  pub same_periods : bounded.denotes.said ≡ scheduled.said
  pub same_waits : bounded.denotes.waits ≡ scheduled.waits
  pub below : (v.broken ≡ 0) × (v.early ≡ 0) × (v.over ≡ []) → v.npv ≤ℤ bound

-- a bound is one of the texts, as the schedule is; of a certificate that proves no pit nothing is said
abbrev pub IsCompared : MineTexts → List ℕ → List ℕ → Option (List ℕ) → List ℕ → JudgedView → BoundJudgement → Type 0
IsCompared texts periods uses pit text v (told.Bound bound) = IsBelow texts periods uses pit text v bound
IsCompared texts periods uses pit text v (told.Refused fault) = IsTreated texts periods uses text v

-- a schedule and what the nodes' certificate tells are those of the texts; or the certificate of a pit is given, and
-- nothing is said
abbrev pub IsComparedBy : MineTexts → List ℕ → List ℕ → Option (List ℕ) → List ℕ → ComparedBy → Type 0
IsComparedBy texts periods uses pit text (compared.Bound x) = IsCompared texts periods uses pit text
    (judged_view x.judged) x.told
IsComparedBy texts periods uses pit text (compared.NoPit fault) = IsGiven pit
