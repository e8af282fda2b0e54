-- The marks of a search.
use Rattle.fixed_worth.proofs.Common.{◌≡◌, ℕ, zero, suc, ◌<◌, ◌≤◌, Bool, true, false, List, [], ◌∷◌, ◌++◌, length}
use Rattle.fixed_worth.proofs.Common.{get_or, set, replicate, sym, refl, ap, ◌∙◌, arith, length-set, get_or_default}
use Rattle.fixed_worth.proofs.Common.{common_steps}
use Rattle.fixed_worth.specs.declared.limits.TheConstants.{MOST_BLOCKS}
use Rattle.closure_net.specs.Searches.{trues, IsSearch}

-- how many marks are set
pub trues_most : (ts : List Bool) → trues ts ≤ length ts
trues_most [] = omega arith
trues_most (true ∷ ts) = omega (arith, trues_most ts)
trues_most (false ∷ ts) = omega (arith, trues_most ts)

-- one more is set where a mark was not
trues_set : (ts : List Bool) (i : ℕ) → i < length ts → get_or ts i false ≡ false
    → trues (set ts i true) ≡ suc (trues ts)
trues_set [] i h e = absurd (omega arith)
trues_set (true ∷ ts) zero h e = absurd cc
trues_set (false ∷ ts) zero h e = refl
trues_set (true ∷ ts) (suc i) h e = ap suc (trues_set ts i (omega arith) e)
trues_set (false ∷ ts) (suc i) h e = trues_set ts i (omega arith) e

-- where none is set
trues_none : (n : ℕ) → trues (replicate n false) ≡ 0
trues_none zero = refl
trues_none (suc n) = trues_none n

-- a search begins with no mark set
pub search_none : (n space : ℕ) (marks : List Bool) (found : List ℕ) → n ≤ MOST_BLOCKS → n ≤ space
    → marks ≡ replicate n false → found ≡ [] → IsSearch marks found space
search_none n space marks found h r e f = grind (arith, common_steps, trues_none)

-- there is room for a block that has no mark
pub search_room : (marks : List Bool) (found : List ℕ) (space b : ℕ) → IsSearch marks found space → b < length marks
    → get_or marks b false ≡ false → length found < space
search_room marks found space b h l e = grind
    (arith, common_steps, (length-set marks b true), (trues_most (set marks b true)), (trues_set marks b l e))

-- a block that has no mark is found
pub search_more : (marks : List Bool) (found : List ℕ) (space b : ℕ) → IsSearch marks found space → b < length marks
    → get_or marks b false ≡ false → IsSearch (set marks b true) (found ++ b ∷ []) space
search_more marks found space b h l e = grind (arith, common_steps, trues_set)

-- a mark that was read with its own value for default
pub read_false : (marks : List Bool) (b : ℕ) (t : Bool) → b < length marks → t ≡ get_or marks b t → t ≡ false
    → get_or marks b false ≡ false
read_false marks b t h e f = get_or_default marks b false t h ∙ sym e ∙ f
