-- The devices of what a certificate of the expanded mine is made from, and what is to be solved of what they tell.
use Rattle.std.specs.Prelude.{◌≡◌, ℕ, List, Option, Some, None}
use Rattle.mine_inputs.specs.Prelude.{CanCount, price_at}
use Rattle.prec_file.specs.Rests.{RestsView}
use Rattle.certificate_file.specs.Prelude.{IsPrice}
use Rattle.mine_inputs.specs.declared.worths.Worths.{Worths}
use Rattle.planned_mine.specs.declared.bound_inputs.BesideRead.{BesideRead}
use Rattle.planned_mine.specs.Prelude.{BesideCanCount, IsSound, IsWholeFigured}
use Rattle.bound_engines.specs.Prelude.{IsPart, IsToldAt, PitCanCount}
use Rattle.plan_engines.specs.declared.plan_solving_engine.PlanInputs.{PlanInputs}
use Rattle.plan_engines.specs.declared.plan_within.ToSolve.{ToSolve}
use Rattle.plan_engines.specs.declared.plan_within.ToSolve.TheVariants as solve

-- each device of what the mine of nodes is made from has counted fewer than 2^64 - 1 failures
abbrev pub PlanCanCount : {D : Type 0} → PlanInputs D → (D → ℕ) → Type 0
PlanCanCount inputs failed = CanCount inputs.mine failed × BesideCanCount inputs.beside failed
    × PitCanCount inputs.pit failed

-- what is to be solved is all of what was read, at this factor
abbrev pub IsWholePlan : Worths → RestsView → BesideRead → ℕ → ToSolve → Type 0
IsWholePlan worths rests beside factor (solve.Plan q price) = IsWholeFigured worths factor rests beside q
    × (price ≡ price_at worths factor)
IsWholePlan worths rests beside factor (solve.NoPit fault) = ⊥

-- it is what the blocks of a pit have, at the price of this factor; where the pit's certificate is refused nothing is
-- said
abbrev pub IsPartPlan : Option (List ℕ) → Worths → RestsView → BesideRead → ℕ → ToSolve → Type 0
IsPartPlan told worths rests beside factor (solve.Plan q price) = (named : ℕ)
    × IsPart told worths rests beside named q × IsToldAt worths named factor × (price ≡ price_at worths factor)
IsPartPlan told worths rests beside factor (solve.NoPit fault) = Unit {0}

-- it is the one or the other, as a device gives the certificate of a pit or not
abbrev pub IsToSolve : {D : Type 0} → Option D → (D → Option (List ℕ)) → Worths → RestsView → BesideRead → ℕ → ToSolve
    → Type 0
IsToSolve None remaining worths rests beside factor t = IsWholePlan worths rests beside factor t
IsToSolve (Some device) remaining worths rests beside factor t = IsPartPlan (remaining device) worths rests beside
    factor t

-- its figures are of as many blocks as its pairs, and a certificate can name its price
abbrev pub IsRightPlan : ToSolve → Type 0
IsRightPlan (solve.Plan q price) = IsSound q × IsPrice price
IsRightPlan (solve.NoPit fault) = Unit {0}
