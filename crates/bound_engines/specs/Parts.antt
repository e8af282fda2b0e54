-- How the certificate of a pit is judged, and what its blocks have of what was read.
use Rattle.std.specs.Prelude.{◌≡◌, ℕ, ◌<◌, List, All, Option, IfSome}
use Rattle.prec_file.specs.Rests.{RestsView}
use Rattle.closure_net.specs.Prelude.{IsAscending}
use Rattle.mine_inputs.specs.declared.worths.Worths.{Worths}
use Rattle.mine_inputs.specs.Prelude.{IsMineRead, MineTexts, nanos_at, price_at}
use Rattle.planned_mine.specs.declared.bound_inputs.BesideRead.{BesideRead}
use Rattle.planned_mine.specs.declared.planned.Figured.{Figured}
use Rattle.planned_mine.specs.Prelude.{IsPartFigured, IsSound}
use Rattle.bound_engines.specs.declared.pit_check.PitTold.{PitTold}
use Rattle.bound_engines.specs.declared.pit_check.PitTold.TheVariants as pit
use Rattle.bound_engines.specs.declared.pit_judge.PitMine.{PitMine}
use Rattle.bound_engines.specs.declared.pit_part.Parted.{Parted}
use Rattle.bound_engines.specs.declared.pit_part.Parted.TheVariants as parted
use Rattle.bound_engines.specs.Pits.{IsPitOf}

-- what a certificate tells of the mine of n blocks that texts denote: its pit; where it proves none nothing is said
abbrev pub IsPitTold : MineTexts → ℕ → List ℕ → PitTold → Type 0
IsPitTold texts n certificate (pit.Kept v) = IsPitOf texts n certificate v.items
IsPitTold texts n certificate (pit.Refused fault) = Unit {0}

-- no pit is told
abbrev pub IsNoPit : PitTold → Type 0
IsNoPit (pit.Kept v) = ⊥
IsNoPit (pit.Refused fault) = Unit {0}

-- the blocks of the pit are some of n, ascending
abbrev pub IsKeptBy : ℕ → PitTold → Type 0
IsKeptBy n (pit.Kept v) = IsAscending v.items × All (λ b. b < n) v.items
IsKeptBy n (pit.Refused fault) = Unit {0}

-- these are the blocks of the pit
abbrev pub IsKeptIn : List ℕ → PitTold → Type 0
IsKeptIn kept (pit.Kept v) = kept ≡ v.items
IsKeptIn kept (pit.Refused fault) = ⊥

-- blocks are worth the same at the factors that two certificates name
abbrev pub IsToldAt : Worths → ℕ → ℕ → Type 0
IsToldAt worths factor named = (nanos_at worths factor ≡ nanos_at worths named)
    × (price_at worths factor ≡ price_at worths named)

-- The mine is the one whose pit was judged, and its blocks are worth this at the factor of the certificate.
pub record IsPitMine (worths : Worths) (rests : RestsView) (q : PitMine) : Type 0 where
  pub same : q.worths ≡ worths
  pub held : q.held ≡ rests
  pub nanos : q.nanos.items ≡ nanos_at worths q.factor
  pub kept : IsKeptBy rests.blocks q.told

-- What the blocks of a pit have of a mine that was read and of its periods, where blocks are worth what they are at
-- this
-- factor; the text that a device told is that pit's certificate.
pub record IsPart (told : Option (List ℕ)) (worths : Worths) (rests : RestsView) (beside : BesideRead) (factor : ℕ)
    (figured : Figured) : Type 0 where
  pub kept : List ℕ
  pub ascending : IsAscending kept
  pub below : All (λ b. b < rests.blocks) kept
  pub part : IsPartFigured kept worths factor rests beside figured
  pub pit : IfSome told (λ c. (texts : MineTexts) → IsMineRead texts factor worths rests
      → IsPitOf texts rests.blocks c kept)

-- this is what the blocks of a pit that was judged have
pub record IsKeptPart (q : PitMine) (beside : BesideRead) (figured : Figured) : Type 0 where
  pub kept : List ℕ
  pub are : IsKeptIn kept q.told
  pub part : IsPartFigured kept q.worths q.factor q.held beside figured

-- what the blocks of a pit that was judged have, with the whole mine beside it, where the certificate proves the pit
abbrev pub IsPartedOf : PitMine → BesideRead → Parted → Type 0
IsPartedOf q beside (parted.Part x whole) = (x.worths ≡ q.worths) × (x.factor ≡ q.factor) × (whole.held ≡ q.held)
    × IsKeptPart q beside x.figured
IsPartedOf q beside (parted.Refused fault) = Unit {0}

-- the same with the whole mine beside it, where the certificate proves its pit
abbrev pub IsParted : Option (List ℕ) → Worths → RestsView → BesideRead → Parted → Type 0
IsParted told worths rests beside (parted.Part x whole) = (x.worths ≡ worths)
    × IsPart told worths rests beside x.factor x.figured × (whole.held ≡ rests)
IsParted told worths rests beside (parted.Refused fault) = Unit {0}

-- the figures of a part are of as many blocks as its pairs
abbrev pub IsSoundPart : Parted → Type 0
IsSoundPart (parted.Part x whole) = IsSound x.figured
IsSoundPart (parted.Refused fault) = Unit {0}
