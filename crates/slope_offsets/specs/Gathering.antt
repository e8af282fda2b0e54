-- What only functions say to one another: lists as they are gathered, a cone level by level, and the first steps to
-- an offset.
use Rattle.std.specs.Prelude.{◌≡◌, ◌≢◌, ℕ, ◌<◌, ◌≤◌, ◌*◌, ◌/◌, Bool, ℤ, pos, ◌-ℤ◌, ◌≤ℤ◌, ◌<ℤ◌, ◌⊎◌, List, [], length}
use Rattle.std.specs.Prelude.{AllPairs, Contains, slice_index_or}
use Rattle.std.specs.Global.{Vec}
use Rattle.slope_offsets.specs.declared.pattern.TheConstants.{MOST_OFFSETS, MOST_CONE_NUMBER}
use Rattle.slope_offsets.specs.Offsets.{Offset, listed_at}
use Rattle.slope_offsets.specs.Patterns.{IsNear}
use Rattle.slope_offsets.specs.declared.selection.Selection.{Selection}
use Rattle.slope_offsets.specs.declared.selection.Selection.TheVariants.{Every, Reduced}
use Rattle.slope_offsets.specs.declared.pattern_fault.PatternFault.{PatternFault}
use Rattle.slope_offsets.specs.declared.pattern_fault.PatternFault.TheVariants as pattern

-- What has the property, each once.
pub record Collects {X : Type 0} (P : X → Type 0) (xs : List X) : Type 0 where
  pub apart : AllPairs (λ x y. x ≢ y) xs
  pub held : (x : X) → P x → Contains xs x
  pub only : (x : X) → Contains xs x → P x

-- The numbers of a level of a cone are small, and reach is the greatest distance there, in whole blocks.
pub record IsLevel (k reach run rise : ℕ) : Type 0 where
  pub few_levels : k ≤ MOST_CONE_NUMBER
  pub small_run : run ≤ MOST_CONE_NUMBER
  pub some_rise : 1 ≤ rise
  pub small_rise : rise ≤ MOST_CONE_NUMBER
  pub furthest : reach ≡ k * run / rise

-- What the levels of a cone below this one hold.
pub record IsBelowLevel (run rise : ℕ) (k : ℤ) (o : Offset) : Type 0 where
  pub above : pos 1 ≤ℤ o.2
  pub near : IsNear run rise o
  pub below : o.2 <ℤ k

-- That, and what the level holds whose first number is below x.
pub record IsBelowRow (run rise : ℕ) (k x : ℤ) (o : Offset) : Type 0 where
  pub above : pos 1 ≤ℤ o.2
  pub near : IsNear run rise o
  pub below : (o.2 <ℤ k) ⊎ ((o.2 ≡ k) × (o.0 <ℤ x))

-- That, and what the row at x holds whose second number is below y.
pub record IsBelowPoint (run rise : ℕ) (k x y : ℤ) (o : Offset) : Type 0 where
  pub above : pos 1 ≤ℤ o.2
  pub near : IsNear run rise o
  pub below : (o.2 <ℤ k) ⊎ ((o.2 ≡ k) × ((o.0 <ℤ x) ⊎ ((o.0 ≡ x) × (o.1 <ℤ y))))

-- Why an offset isn't added to others: there are 4,096 already, or fewer and no memory for one more.
abbrev pub OffsetRefusalStands : List Offset → PatternFault → Type 0
OffsetRefusalStands offsets (pattern.NotUpward i) = ⊥
OffsetRefusalStands offsets pattern.TooMany = MOST_OFFSETS ≤ length offsets
OffsetRefusalStands offsets pattern.NoMemory = length offsets < MOST_OFFSETS

-- Offset i of a list.
abbrev pub offset_at : List Offset → ℕ → Offset
offset_at offsets i = slice_index_or offsets i (pos 0, pos 0, pos 0)

-- The offset that leads on from the place at a step to that at the whole.
abbrev pub rest_after : Offset → Offset → Offset
rest_after step whole = (whole.0 -ℤ step.0, whole.1 -ℤ step.1, whole.2 -ℤ step.2)

-- Offset a of the list is a first step: one of all offsets leads on from it to the whole.
pub record IsFirstStep (offsets all : List Offset) (whole : Offset) (a : ℕ) : Type 0 where
  pub known : a < length offsets
  pub onward : Contains all (rest_after (offset_at offsets a) whole)

-- The numbers of the first steps among the first k offsets, and nothing else.
pub record AreFirstSteps (offsets all : List Offset) (whole : Offset) (k : ℕ) (steps : List ℕ) : Type 0 where
  pub held : (a : ℕ) → a < k → IsFirstStep offsets all whole a → Contains steps a
  pub only : (a : ℕ) → Contains steps a → IsFirstStep offsets all whole a

-- The numbers of the offsets at which a third block may stand that a pair at an offset leads over: none are asked for
-- where every pair is selected, and the first steps to it where the reduced ones are.
abbrev pub AreStepsTo : Selection → List Offset → List Offset → Offset → List ℕ → Type 0
AreStepsTo Every offsets all whole steps = steps ≡ []
AreStepsTo Reduced offsets all whole steps = AreFirstSteps offsets all whole (length offsets) steps

-- Such numbers for each of the first k offsets.
pub record AreStepsOfEach (selection : Selection) (offsets all : List Offset) (k : ℕ) (steps : List (Vec ℕ)) : Type 0
  where
    pub as_many : length steps ≡ k
    pub each : (i : ℕ) (d : Vec ℕ) → i < k → AreStepsTo selection offsets all (offset_at offsets i)
        (slice_index_or steps i d).items

-- The offsets of the first k patterns are among all.
abbrev pub HoldsOf : List (List Offset) → ℕ → List Offset → Type 0
HoldsOf patterns k all = (r : ℕ) (o : Offset) → r < k → Contains (listed_at patterns r) o → Contains all o

-- Such numbers for each offset of each of the first k patterns.
pub record AreStepsOfRegions (selection : Selection) (patterns : List (List Offset)) (all : List Offset) (k : ℕ)
    (steps : List (Vec (Vec ℕ))) : Type 0 where
  pub as_many : length steps ≡ k
  pub each : (r : ℕ) (d : Vec (Vec ℕ)) → r < k
      → AreStepsOfEach selection (listed_at patterns r) all (length (listed_at patterns r))
      (slice_index_or steps r d).items

-- Those of every pattern, by offsets that hold all of theirs.
pub record AreRegionSteps (selection : Selection) (patterns : List (List Offset)) (all : List Offset)
    (steps : List (Vec (Vec ℕ))) : Type 0 where
  pub of_all : HoldsOf patterns (length patterns) all
  pub of_each : AreStepsOfRegions selection patterns all (length patterns) steps
