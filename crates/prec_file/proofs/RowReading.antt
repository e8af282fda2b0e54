-- Reading the records of a text whose blocks rise into rows.
use Rattle.fixed_worth.proofs.Common.{◌≡◌, ℕ, ◌+◌, ◌<◌, ◌≤◌, Bool, false, inl, inr, List, ◌++◌, length, get_or, map}
use Rattle.fixed_worth.proofs.Common.{None, sym, ap, subst, ◌∙◌, arith, All, length-append, Contains}
use Rattle.fixed_worth.proofs.Common.{Contains-append_cases, Contains-append_left, Contains-append_right, common_steps}
use Rattle.fixed_worth.specs.Prelude.{is_skipped, block_of}
use Rattle.prec_file.specs.declared.limits.TheConstants.{MOST_PAIRS}
use Rattle.prec_file.specs.Prelude.{RowsView, ArePairsOf, IsRowAdded, predecessors_of, pairs_in, shape_fault}
use Rattle.prec_file.specs.Prelude.{record_fault, IsRecordOf, AreNew, IsLineRead, marks_after}
use Rattle.prec_file.proofs.History.{pairs_length}

-- the predecessors of a record are known
pub predecessors_known : (n line b claimed k : ℕ) (fs : List (List ℕ)) → IsRecordOf n line fs b claimed k
    → All (λ p. p < n) (predecessors_of fs)
unfolding shape_fault
predecessors_known n line b claimed k fs r = grind (arith, common_steps)

-- the pairs of a record's block
pub record_pairs : (b : ℕ) (fs : List (List ℕ)) → is_skipped fs ≡ false → b ≡ block_of fs
    → map (λ p. (b, p)) (predecessors_of fs) ≡ pairs_in fs
record_pairs b fs s e = rw s (ap (λ (x : ℕ). map (λ (p : ℕ). (x, p)) (predecessors_of fs)) e)

-- what is listed for a block after the others joins their pairs
pub rows_joined : (listed row added : List (ℕ × ℕ)) (old new : RowsView) → ArePairsOf listed old.pairs
    → IsRowAdded old new row added → ArePairsOf (listed ++ row) new.pairs
rows_joined listed row added old new h a = record {
  rising = a.rests.rising;
  held = λ p c d. subst (λ (xs : List (ℕ × ℕ)). Contains xs p) (sym a.pairs)
      (elim (Contains-append_cases listed row p c) [
        | inl l ↦ Contains-append_left old.pairs added p (h.held p l d)
        | inr r ↦ Contains-append_right old.pairs added p (a.own.held p r d)
      ]);
  only = λ p c. elim (Contains-append_cases old.pairs added p
      (subst (λ (xs : List (ℕ × ℕ)). Contains xs p) a.pairs c)) [
        | inl l ↦ (Contains-append_left listed row p (h.only p l).0, (h.only p l).1)
        | inr r ↦ (Contains-append_right listed row p (a.own.only p r).0, (a.own.only p r).1)
      ];
}

module _ (n line b claimed k before : ℕ) (fs : List (List ℕ)) (row : List ℕ) (old mid new : RowsView)
    (added : List (ℕ × ℕ)) (r : IsRecordOf n line fs b claimed k) (e : row ≡ predecessors_of fs)
    (beyond : old.next ≤ b) (skipped : mid ≡ record { blocks = old.blocks; next = b; pairs = old.pairs })
    (a : IsRowAdded mid new (map (λ p. (mid.next, p)) row) added) where
  is_next : mid.next ≡ b
  is_next = ap (λ (v : RowsView). v.next) skipped

  same_pairs : mid.pairs ≡ old.pairs
  same_pairs = ap (λ (v : RowsView). v.pairs) skipped

  row_is : map (λ p. (mid.next, p)) row ≡ pairs_in fs
  row_is = ap (λ (xs : List ℕ). map (λ (p : ℕ). (mid.next, p)) xs) e
      ∙ ap (λ (x : ℕ). map (λ (p : ℕ). (x, p)) (predecessors_of fs)) is_next ∙ record_pairs b fs r.is r.block

  row_joined : (listed : List (ℕ × ℕ)) → ArePairsOf listed old.pairs → ArePairsOf (listed ++ pairs_in fs) new.pairs
  row_joined listed h =
      subst (λ (xs : List (ℕ × ℕ)). ArePairsOf (listed ++ xs) new.pairs) row_is
      (rows_joined listed (map (λ p. (mid.next, p)) row) added mid new
      (subst (λ (xs : List (ℕ × ℕ)). ArePairsOf listed xs) (sym same_pairs) h) a)

  row_marks : (seen : List Bool) → AreNew old.next (λ c. get_or seen c false)
      → AreNew new.next (λ c. get_or (marks_after fs seen) c false)
  row_marks seen h c l = grind (arith, common_steps)

  pub line_read : ((had : ℕ → Bool) → AreNew old.next had → record_fault n had before line fs ≡ None)
      → before + k ≤ MOST_PAIRS → length old.pairs ≤ before → IsLineRead n line fs old new before (before + k)
  line_read sound few kept = record {
    sound = sound;
    blocks = a.blocks ∙ (ap (λ (v : RowsView). v.blocks) skipped);
    listed = omega (arith, pairs_length fs r.is, r.found);
    few = few;
    kept =
        let all = ap length a.pairs in
        let both = length-append mid.pairs added in
        let most = a.fewer in
        let size = ap length row_is in
        let old_size = ap length same_pairs in
        omega (arith, all, both, most, size, old_size, kept, pairs_length fs r.is, r.found);
    rows = row_joined;
    marks = row_marks;
  }
