-- What a design comes to in a mine, and the lines that tell it.
use Rattle.std.specs.Prelude.{◌≡◌, ◌↔◌, ℕ, zero, suc, ℤ, List, [], ◌∷◌, ◌++◌, codes, decimal}
use Rattle.std.specs.List.{flat_map}
use Rattle.fixed_worth.specs.Printed.{amount_text}
use Rattle.closure_net.specs.Mine.{IsPit, worth_of, block_count_of}
use Rattle.design_file.specs.Records.{design_of}
use Rattle.design_value.specs.OpenPairs.{AreOpen}
use Rattle.check_engines.specs.declared.judgement.Verdict.{Verdict}
use Rattle.check_engines.specs.declared.judgement.Verdict.TheVariants.{Done, No}
use Rattle.mine_inputs.specs.Prelude.{ArePairsBy, MineTexts, DenoteMine, mine_of, rests_of}
use Rattle.design_engines.specs.DesignTexts.{IsDesign}

-- What is told of a design: how many blocks it has, what they are worth in billionths, how many pairs lead from a block
-- of it to one outside, and the first of those.
pub record DesignView : Type 0 where
  pub count : ℕ
  pub worth : ℤ
  pub leading : ℕ
  pub needs : List (ℕ × ℕ)

-- The texts denote a mine and a design of some of its blocks, and it is told what this design comes to: its blocks,
-- what they are worth, and of the mine's pairs, each taken once, those that lead out. None leads out exactly where the
-- design is a pit.
pub record IsValued (texts : MineTexts) (design : List ℕ) (v : DesignView) : Type 0 where
  pub blocks : ℕ
  pub mine : DenoteMine texts blocks
  pub drawn : IsDesign blocks design
  pub count : v.count ≡ block_count_of (mine_of blocks texts) (design_of design)
  pub worth : v.worth ≡ worth_of (mine_of blocks texts) (design_of design)
  pub pairs : List (ℕ × ℕ)
  pub are : ArePairsBy (rests_of texts) pairs
  pub leads : AreOpen (design_of design) pairs v.leading v.needs
  pub closed : (v.leading ≡ 0) ↔ IsPit (mine_of blocks texts) (design_of design)

-- ---- how it is told

-- the line of a pair that leads out
abbrev pub needs_line : ℕ × ℕ → List ℕ
needs_line pair = codes "NEEDS " ++ (decimal pair.0 ++ (codes " " ++ (decimal pair.1 ++ 10 ∷ [])))

abbrev pub needs_text : List (ℕ × ℕ) → List ℕ
needs_text pairs = flat_map needs_line pairs

-- the lines on pairs that lead out, of which there are so many and these are the first
abbrev pub open_text : ℕ → List (ℕ × ℕ) → List ℕ
open_text zero needs = codes "CLOSED" ++ 10 ∷ []
open_text (suc k) needs = codes "OPEN " ++ (decimal (suc k) ++ (10 ∷ needs_text needs))

-- the lines of a design
abbrev pub design_text : DesignView → List ℕ
design_text v = codes "DESIGN "
    ++ (decimal v.count ++ (codes " " ++ (amount_text 9 v.worth ++ (10 ∷ open_text v.leading v.needs))))

-- how an engine ends where so many pairs lead out
abbrev pub verdict_for : ℕ → Verdict
verdict_for zero = Done
verdict_for (suc k) = No
