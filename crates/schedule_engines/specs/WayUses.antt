-- What blocks use by each way to treat them: columns of a text of blocks, way by way.
use Rattle.std.specs.Prelude.{◌≡◌, ◌⊎◌, ℕ, ◌+◌, ◌*◌, ◌<◌, ℤ, pos, Bool, false, cond, nat_lt, List, map, length}
use Rattle.std.specs.Prelude.{slice_index, slice_index_or}
use Rattle.std.specs.List.{range_with_len}
use Rattle.prec_file.specs.Rests.{RestsView}
use Rattle.mine_inputs.specs.Prelude.{cell}
use Rattle.periods_file.specs.Prelude.{PeriodsView, width_of}
use Rattle.schedule_engines.specs.declared.plan_fault.PlanFault.{PlanFault}
use Rattle.schedule_engines.specs.PlanTexts.{EntriesFail, PeriodsByFail, ReadsPeriodsBy, ReadsUses, UsesFail}

-- the columns of so many resources by a way, of which each has so many
abbrev pub columns_by : (resources : List ℕ) → (width count way : ℕ) → List ℕ
columns_by resources width count way = map (λ r. slice_index resources (r * width + way)) (range_with_len 0 count)

-- the columns of periods by a way, where there are so many
abbrev pub columns_of : ℕ → PeriodsView → ℕ → List ℕ
columns_of ways p way = columns_by p.resources (width_of ways) (length p.shared) way

-- whether resource r has one column for all ways, and for waste
abbrev pub is_shared : PeriodsView → ℕ → Bool
is_shared p r = slice_index_or p.shared r false

-- What block b of a text uses of resource r by a way, in millionths. A column for all ways tells it of waste too, which
-- is the number after the last way; of another resource waste uses nothing.
abbrev pub use_of_way : ℕ → PeriodsView → List ℕ → (r way b : ℕ) → ℤ
use_of_way ways p text r way b =
    cond (is_shared p r) (cell text (slice_index p.resources (r * width_of ways)) b)
    (cond (nat_lt way ways) (cell text (slice_index p.resources (r * width_of ways + way)) b) (pos 0))

-- What n blocks of a text use by a way, column by column, is this part of a list, which has a part for each way; and
-- these are the pairs of blocks that wait.
pub record ReadsPart (n ways : ℕ) (p : PeriodsView) (text uses : List ℕ) (way : ℕ) : Type 0 where
  pub part : List ℕ
  pub lags : RestsView
  pub read : ReadsUses n (columns_of ways p way) p.waits text part lags
  pub at : (i : ℕ) → i < length p.shared * n → slice_index uses (way * (length p.shared * n) + i) ≡ slice_index part i

-- There are so many parts: one alone where each resource has one column for all ways, and one for each way otherwise.
-- The pairs of blocks that wait are those by the columns of the first.
pub record ReadsWayUses (n ways : ℕ) (p : PeriodsView) (text uses : List ℕ) (lags : RestsView) : Type 0 where
  pub parts : ℕ
  pub some : 0 < parts
  pub all : (r : ℕ) → r < length p.shared → is_shared p r ≡ false → parts ≡ width_of ways
  pub each : (way : ℕ) → way < parts → ReadsPart n ways p text uses way
  pub first : List ℕ
  pub waiting : ReadsUses n (columns_of ways p 0) p.waits text first lags

-- the columns of a way tell what n blocks use
abbrev pub HasUses : ℕ → ℕ → PeriodsView → List ℕ → ℕ → Type 0
HasUses n ways p text way = (uses : List ℕ) × (lags : RestsView)
    × ReadsUses n (columns_of ways p way) p.waits text uses lags

-- The text tells no uses by the columns of this way, and does by those of each way before it.
abbrev pub WayUsesFail : ℕ → ℕ → PeriodsView → List ℕ → PlanFault → Type 0
WayUsesFail n ways p text e = (way : ℕ) × ((k : ℕ) → k < way → HasUses n ways p text k)
    × UsesFail n (columns_of ways p way) p.waits text e

-- Why the texts beside a mine of n blocks aren't read where there are so many ways: the fault is one of the periods;
-- or,
-- where these are read, one of what blocks use; or, where that is read too, one of the schedule.
abbrev pub LaterFailsBy : (n ways : ℕ) → (uses text : List ℕ) → PeriodsView → PlanFault → Type 0
LaterFailsBy n ways uses text said e = WayUsesFail n ways said uses e ⊎ EntriesFail n (length said.weights) ways text e

abbrev pub PlanReadFails : (n ways : ℕ) → (periods uses text : List ℕ) → PlanFault → Type 0
PlanReadFails n ways periods uses text e = PeriodsByFail ways periods e
    ⊎ ((said : PeriodsView) × ReadsPeriodsBy ways periods said × LaterFailsBy n ways uses text said e)
