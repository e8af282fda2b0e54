-- Where a schedule uses more of a resource than there is.
use Rattle.std.specs.Prelude.{ℕ, zero, suc, Bool, cond, int_lt, List, [], ◌∷◌, ◌++◌}
use Rattle.schedules.specs.Prelude.{Production, used_in}
use Rattle.schedule_value.specs.declared.usage.Over.{Over}

-- whether more of resource r is used in period t than there is
abbrev pub is_over : Production → (ℕ → ℕ) → ℕ → ℕ → Bool
is_over plan schedule r t = int_lt (plan.capacity r t) (used_in plan schedule r t)

-- what period t uses of resource r, and what it has
abbrev pub over_at : Production → (ℕ → ℕ) → ℕ → ℕ → Over
over_at plan schedule r t = record
    { resource = r; period = t; used = used_in plan schedule r t; capacity = plan.capacity r t }

abbrev pub over_if : Bool → Over → List Over
over_if t over = cond t (over ∷ []) []

-- where that is so among the first periods, and among all periods of the first resources
abbrev pub overs_in_row : Production → (ℕ → ℕ) → ℕ → ℕ → List Over
overs_in_row plan schedule r zero = []
overs_in_row plan schedule r (suc t) = overs_in_row plan schedule r t ++ over_if (is_over plan schedule r t)
    (over_at plan schedule r t)

abbrev pub overs_in_rows : Production → (ℕ → ℕ) → ℕ → List Over
overs_in_rows plan schedule zero = []
overs_in_rows plan schedule (suc r) = overs_in_rows plan schedule r ++ overs_in_row plan schedule r plan.periods
