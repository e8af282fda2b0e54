-- Reading the header line after line.
use Rattle.fixed_worth.proofs.Common.{◌≡◌, ℕ, ◌+◌, suc, Bool, List, [], ◌∷◌, length, Option, None, refl, ap, arith}
use Rattle.fixed_worth.proofs.Common.{◌||◌, is_some, unwrap_or, option_or, common_steps}
use Rattle.fixed_worth.specs.Prelude.{Left, Line, numbered_lines}
use Rattle.upit_file.specs.declared.upit_fault.UpitFault.{UpitFault}
use Rattle.upit_file.specs.Prelude.{header, last_name, after_header, first_count, header_lines_fault, upit_end_fault}
use Rattle.upit_file.specs.Prelude.{header_fault, blocks_declared}

-- The first fault from here on, where an NBLOCKS record came before or not.
abbrev pub fault_from : ℕ → Bool → ℕ → List Line → Option UpitFault
fault_from n counted total ls = option_or (header_lines_fault n (header ls))
    (upit_end_fault (counted || is_some (first_count (header ls))) total (after_header ls))

-- What has been read, and what is left.
pub record Going (n : ℕ) (all : List Line) (name : List ℕ) (wanted counted : Option ℕ) (left : Left) : Type 0 where
  pub fault : fault_from n (is_some counted) (length all) (numbered_lines left.number left.lines) ≡ header_fault n all
  pub name_so : last_name name (header (numbered_lines left.number left.lines)) ≡ last_name [] (header all)
  pub wanted_so : unwrap_or (option_or counted wanted) (blocks_declared (numbered_lines left.number left.lines)) ≡ n
  pub rest : after_header (numbered_lines left.number left.lines) ≡ after_header all
  pub total : left.number + length left.lines ≡ length all

pub length-numbered_lines : (k : ℕ) (lines : List (List ℕ)) → length (numbered_lines k lines) ≡ length lines
length-numbered_lines k [] = refl
length-numbered_lines k (l ∷ ls) = ap suc (length-numbered_lines (k + 1) ls)

pub begins : (n : ℕ) (wanted : Option ℕ) (left : Left) → left.number ≡ 0
    → n ≡ unwrap_or wanted (blocks_declared (numbered_lines 0 left.lines))
    → Going n (numbered_lines 0 left.lines) [] wanted None left
begins n wanted left z e = grind (arith, common_steps, length-numbered_lines)
