use Rattle.fixed_worth.proofs.Common.{dedup_is, Contains-dedup, Contains-from_dedup, IsStrictlySortedBy-dedup}
use Rattle.fixed_worth.proofs.Common.{Contains-permutation, IsPermutation-sym}
use Rattle.slope.proofs.EntryOrder.{entry_eq, entries_total, entry_ties, entries_alike, entry_same}
use Rattle.slope.proofs.EntryOrder.{in_order_from_sorted, entries_moved}
use Rattle.slope.proofs.place_index.in_order.Goals as goal

pub returns : goal.returns
returns c =
    let is = dedup_is entry_eq _ _ c.dedup.ensures.filtered in
    let moved = c.sort_unstable.ensures.permutation in
    record {
      order = rw is (in_order_from_sorted _
          (IsStrictlySortedBy-dedup entries_total entry_ties _ c.sort_unstable.ensures.sorted));
      same = λ m h. entries_moved m _ _ h
          (λ e k. rw is (Contains-dedup entries_alike entry_same _ e (Contains-permutation _ _ e moved k)))
          (λ e k. Contains-permutation _ _ e (IsPermutation-sym _ _ moved)
          (Contains-from_dedup entry_eq _ e (rw is at k)));
    }
