-- What the reduced pairs of a pattern decide.
use Rattle.std.specs.Prelude.{◌≡◌, ◌↔◌, ◌≤◌, ℕ, ℤ, Bool, List, None, length}
use Rattle.blocks_file.specs.Denotes.{BlocksView}
use Rattle.prec_file.specs.Prelude.{RestsView, IsRests, has_pair, AreNarrow, prec_text}
use Rattle.prec_file.specs.Records as prec
use Rattle.prec_file.specs.declared.limits.TheConstants.{MOST_PAIRS}
use Rattle.slope_offsets.specs.Prelude.{Offset, IsPattern}
use Rattle.slope.specs.Prelude.{AreSlopes}
use Rattle.slope_offsets.specs.declared.selection.Selection.{Selection}
use Rattle.slope_offsets.specs.declared.selection.Selection.TheVariants.{Every, Reduced}
use Rattle.slope_offsets.specs.declared.up.Up.{Up}
use Rattle.closure_net.specs.Mine.{Mine, IsBest}
use Rattle.mine_inputs.specs.Mines.{MineTexts, mine_texts, priced_texts, sloped_texts, valued_texts, mine_of}

-- The mine of n blocks with these pairs and worths.
abbrev pub mine_of_pairs : ℕ → List (ℕ × ℕ) → (ℕ → ℤ) → Mine
mine_of_pairs n pairs worth = record { blocks = n; rests = has_pair pairs; worth = worth }

-- A set is the best pit by the reduced pairs of a pattern exactly where it is the best pit by every pair, whatever the
-- worths.
abbrev pub ReducedPairsDecide : Type 0
ReducedPairsDecide = (m : BlocksView) (offsets : List Offset) (up : Up) (every reduced : RestsView) (n : ℕ)
    (worth : ℕ → ℤ) (e : ℕ → Bool)
    → IsPattern offsets → AreSlopes m offsets up Every every → AreSlopes m offsets up Reduced reduced
    → IsBest (mine_of_pairs n reduced.pairs worth) e ↔ IsBest (mine_of_pairs n every.pairs worth) e

-- The texts with these bytes as their precedence.
abbrev pub with_precedence : MineTexts → List ℕ → MineTexts
with_precedence (mine_texts values precedence) bytes = mine_texts values bytes
with_precedence (priced_texts settings blocks precedence factor) bytes = priced_texts settings blocks bytes factor
with_precedence (sloped_texts settings blocks factor) bytes = priced_texts settings blocks bytes factor
with_precedence (valued_texts settings blocks values) bytes = mine_texts values bytes

-- the pairs of a pattern that are selected, where a precedence file may have them: not too many, and not too many of
-- one block
pub record AreWritten (m : BlocksView) (offsets : List Offset) (up : Up) (selection : Selection) (rests : RestsView) :
    Type 0 where
  pub slopes : AreSlopes m offsets up selection rests
  pub is_rests : IsRests rests
  pub few : length rests.pairs ≤ MOST_PAIRS
  pub narrow : AreNarrow rests

-- Two precedence files of the same blocks and offsets, one of them reduced: both are read as of these blocks, and
-- whatever says what the blocks are worth, a set is the best pit of the mine that the one denotes exactly where it is
-- that of the other's.
abbrev pub ReducedTextsDecide : Type 0
ReducedTextsDecide = (m : BlocksView) (offsets : List Offset) (up : Up) (every reduced : RestsView)
    (texts : MineTexts) (n : ℕ) (e : ℕ → Bool)
    → IsPattern offsets → AreWritten m offsets up Every every → AreWritten m offsets up Reduced reduced
    → (prec.fault_of m.blocks (prec_text every) ≡ None) × (prec.fault_of m.blocks (prec_text reduced) ≡ None)
    × (IsBest (mine_of n (with_precedence texts (prec_text reduced))) e ↔ IsBest (mine_of n (with_precedence texts (prec_text every))) e)
