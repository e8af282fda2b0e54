-- The pairs of a part, in another list of them.
use Rattle.fixed_worth.proofs.Common.{◌≡◌, ℕ, List, sym, subst}
use Rattle.prec_file.specs.Rests.{ArePairsOf, AreApart}
use Rattle.std.specs.List.{Contains}
use Rattle.sub_mines.specs.Renumbered.{IsPartPairs}

-- the pairs of a part, in another list of them
pub part_again : (kept : List ℕ) (pairs less listed again : List (ℕ × ℕ)) → IsPartPairs kept pairs less
    → AreApart less → listed ≡ less → ArePairsOf listed again → IsPartPairs kept pairs again
part_again kept pairs less listed again part apart e are = record {
  known = λ i j h. part.known i j (subst (λ ps. Contains ps (i, j)) e (are.only (i, j) h).0);
  same = λ i j l k. (
    λ h. (part.same i j l k).0 (subst (λ ps. Contains ps (i, j)) e (are.only (i, j) h).0),
    λ h. let x = (part.same i j l k).1 h in are.held (i, j) (subst (λ ps. Contains ps (i, j)) (sym e) x)
        (apart (i, j) x),
  );
}
