use Rattle.fixed_worth.proofs.Common.{dedup_is, Contains-dedup, Contains-from_dedup, IsStrictlySortedBy-dedup}
use Rattle.fixed_worth.proofs.Common.{Contains-permutation, IsPermutation-sym, rules}
use Rattle.slope_offsets.proofs.OffsetSorting.{offset_eq, offsets_total, offset_ties, offsets_alike, offset_same}
use Rattle.slope_offsets.proofs.OffsetSorting.{rising_from_sorted}
use Rattle.slope_offsets.proofs.offset_order.in_order.Goals as goal

pub returns : goal.returns
returns c =
    let is = dedup_is offset_eq _ _ c.dedup.ensures.filtered in
    let moved = c.sort_unstable.ensures.permutation in
    record {
      rising = rw is (rising_from_sorted _
          (IsStrictlySortedBy-dedup offsets_total offset_ties _ c.sort_unstable.ensures.sorted));
      held = λ o h. rw is (Contains-dedup offsets_alike offset_same _ o (Contains-permutation _ _ o moved h));
      only = λ o h. Contains-permutation _ _ o (IsPermutation-sym _ _ moved)
          (Contains-from_dedup offset_eq _ o (rw is at h));
      fewer = search rules;
    }
