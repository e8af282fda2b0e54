-- For this crate alone: lines of a text that are read by themselves, wherever they stand.
use Rattle.std.specs.Prelude.{◌≡◌, ℕ, ◌+◌, ◌≤◌, List, ◌++◌, length, None}
use Rattle.std.specs.List.{flat_map}
use Rattle.fixed_worth.specs.Prelude.{Line, fields_of, has, numbered_lines}
use Rattle.prec_file.specs.declared.limits.TheConstants.{MOST_PAIRS}
use Rattle.prec_file.specs.Rests.{RowsView, ArePairsOf, IsRests}
use Rattle.prec_file.specs.Records.{blocks_of, blocks_of_fields, first_fault, pairs_in, pairs_of}
use Rattle.prec_file.specs.Indexes.{AreNew}

-- The pairs that the lines with these texts list, in their order.
abbrev pub pairs_listed : List (List ℕ) → List (ℕ × ℕ)
pairs_listed texts = flat_map (λ text. pairs_in (fields_of text)) texts

-- The blocks whose records the lines with these texts are.
abbrev pub blocks_listed : List (List ℕ) → List ℕ
blocks_listed texts = flat_map (λ text. blocks_of_fields (fields_of text)) texts

-- The lines with these texts are read into rows. Their blocks rise, from a given one on, and so many predecessors are
-- listed. After any lines whose blocks are below that one none of them is faulty, if both together don't list too many.
pub record IsPartRead (n from : ℕ) (texts : List (List ℕ)) (rows : RowsView) (listed : ℕ) : Type 0 where
  pub blocks : rows.blocks ≡ n
  pub rises : from ≤ rows.next
  pub size : listed ≡ length (pairs_listed texts)
  pub few : listed ≤ MOST_PAIRS
  pub kept : length rows.pairs ≤ listed
  pub held : ArePairsOf (pairs_listed texts) rows.pairs
  pub below : AreNew rows.next (has (blocks_listed texts))
  pub sound : (k : ℕ) (before : List Line) → AreNew from (has (blocks_of before))
      → length (pairs_of before) + listed ≤ MOST_PAIRS → first_fault n before (numbered_lines k texts) ≡ None

-- The pairs of other rows come after those of the old ones, in order.
pub record AreRowsAdded (old other new : RowsView) : Type 0 where
  pub blocks : new.blocks ≡ old.blocks
  pub next : new.next ≡ other.next
  pub rises : old.next ≤ other.next
  pub pairs : new.pairs ≡ old.pairs ++ other.pairs
  pub rests : IsRests (record { blocks = new.blocks; pairs = new.pairs })
