-- A block is marked where it had a record.
use Rattle.fixed_worth.proofs.Common.{◌≡◌, ℕ, ◌<◌, Bool, true, false, cond, List, [], ◌∷◌, ◌++◌, length, get_or, set}
use Rattle.fixed_worth.proofs.Common.{replicate, refl, arith, common_steps}
use Rattle.fixed_worth.specs.Prelude.{is_skipped, block_of, has}
use Rattle.prec_file.specs.Indexes.{marks_after}

-- After a line that is skipped the marks stay as they are, and after a record of b it is marked, too.
pub mark : (s : Bool) (n : ℕ) (seen : List Bool) (bs : List ℕ) (b : ℕ) → length seen ≡ n → (s ≡ false → b < n)
    → ((k : ℕ) → k < n → get_or seen k false ≡ has bs k)
    → (k : ℕ) → k < n → get_or (cond s seen (set seen b true)) k false ≡ has (bs ++ cond s [] (b ∷ [])) k
mark s n seen bs b e i h k j = grind (arith, common_steps)

pub marks : (fs : List (List ℕ)) (seen : List Bool) (b : ℕ) → is_skipped fs ≡ false → b ≡ block_of fs
    → set seen b true ≡ marks_after fs seen
marks fs seen b s e = rw (s, e) refl

-- Of marks that are all clear none is set.
pub none_marked : (n b : ℕ) → get_or (replicate n false) b false ≡ false
none_marked n b = grind (arith, common_steps)
