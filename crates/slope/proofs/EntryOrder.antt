-- Entries in the order of their places.
use Rattle.fixed_worth.proofs.Common.{◌≡◌, ℕ, zero, suc, ◌+◌, ◌-◌, ◌<◌, ◌&&◌, ◌==◌, Bool, true, inl, inr, pos, List, []}
use Rattle.fixed_worth.proofs.Common.{◌∷◌, length, get_or, sym, refl, ap, subst, ◌∙◌, arith, Ordering, Contains, Less}
use Rattle.fixed_worth.proofs.Common.{MatchOrdering, ordering_then, nat_cmp, eq_by_cmp, IsTotalOrder, IsEquivalence}
use Rattle.fixed_worth.proofs.Common.{IsStrictlySortedBy, ranked, then_total, on_total, nat_cmp_total, eq_by_cmp_equiv}
use Rattle.fixed_worth.proofs.Common.{cases_lt, All-from_recursion, common_steps}
use Rattle.blocks_file.specs.Denotes.{BlocksView}
use Rattle.slope_offsets.specs.Prelude.{OffsetBefore}
use Rattle.slope.specs.Prelude.{Entry, entry_at, entry_of, AreEntries, AreEntriesOf, AreEntriesInOrder, BeforeEntry}
use Rattle.slope.specs.Prelude.{IsRepeatAt}
use Rattle.slope_offsets.proofs.OffsetSorting.{offset_cmp, offset_eq, offset_ties, offset_same, offsets_total, before}
use Rattle.slope_offsets.proofs.OffsetSorting.{before_itself, before_trans}

abbrev pub entry_cmp : Entry → Entry → Ordering
entry_cmp x y = ordering_then (offset_cmp x.0 y.0) (nat_cmp x.1 y.1)

abbrev pub entry_eq : Entry → Entry → Bool
entry_eq x y = offset_eq x.0 y.0 && (x.1 == y.1)

pub entries_total : IsTotalOrder entry_cmp
entries_total = then_total (on_total (λ (e : Entry). e.0) offsets_total) (on_total (λ (e : Entry). e.1) nat_cmp_total)

pub entry_ties : (x y : Entry) → entry_eq x y ≡ eq_by_cmp entry_cmp x y
entry_ties x y = grind (arith, common_steps)

pub entry_same : (x y : Entry) → entry_eq x y ≡ true → x ≡ y
entry_same x y h = grind (arith, common_steps)

pub entries_alike : IsEquivalence entry_eq
entries_alike =
    let e : eq_by_cmp entry_cmp ≡ entry_eq = λ i x y. (sym (entry_ties x y)) i in
    let P : (Entry → Entry → Bool) → Type 0 = λ f. IsEquivalence f in
    subst P e (eq_by_cmp_equiv entries_total)

less_before : (x y : Entry) (o p : Ordering) → offset_cmp x.0 y.0 ≡ o
    → MatchOrdering p (x.1 < y.1) (x.1 ≡ y.1) (y.1 < x.1) → ordering_then o p ≡ Less → BeforeEntry x y
less_before x y o p h k e = grind (arith, common_steps, before, offset_same, offset_ties)

entry_before : (x y : Entry) → entry_cmp x y ≡ Less → BeforeEntry x y
entry_before x y e = less_before x y (offset_cmp x.0 y.0) (nat_cmp x.1 y.1) refl (ranked x.1 y.1 _ refl) e

rises : (es : List Entry) → IsStrictlySortedBy entry_cmp es → (i j : ℕ) (d : Entry) → i < j → j < length es
    → BeforeEntry (get_or es i d) (get_or es j d)
unfolding IsStrictlySortedBy
rises [] s i j d h l = absurd (omega arith)
rises (e ∷ es) s i zero d h l = absurd (omega arith)
rises (e ∷ es) s zero (suc j) d h l = entry_before e (get_or es j d)
    (All-from_recursion (λ y. entry_cmp e y ≡ Less) es s.0 j d (omega arith))
rises (e ∷ es) s (suc i) (suc j) d h l = rises es s.1 i j d (omega arith) (omega arith)

pub in_order_from_sorted : (es : List Entry) → IsStrictlySortedBy entry_cmp es → AreEntriesInOrder es
in_order_from_sorted es s = record { rises = rises es s }

-- the entries of all blocks, listed and then put in another order
pub entries_moved : (m : BlocksView) (es fs : List Entry) → AreEntries m m.blocks es
    → ((e : Entry) → Contains es e → Contains fs e) → ((e : Entry) → Contains fs e → Contains es e) → AreEntriesOf m fs
entries_moved m es fs h there back = record {
  held = λ b l. there (entry_of m b) (b, omega (arith, l, h.as_many), h.each b (entry_of m b) l);
  only = λ e k. listed e (back e k);
  fits = h.fits;
}
  where
    listed : (e : Entry) → Contains es e → (e.1 < m.blocks) × (e ≡ entry_of m e.1)
    listed e (k, l, s) =
        let k_known : k < m.blocks = omega (arith, l, h.as_many) in
        let is : e ≡ entry_of m k = sym s ∙ h.each k e k_known in
        let block : k ≡ e.1 = ap (λ (x : Entry). x.1) (sym is) in
        (subst (λ n. n < m.blocks) block k_known, is ∙ ap (entry_of m) block)

-- where two entries have one key, the second of them and the one before it have
pub neighbours : (es : List Entry) → AreEntriesInOrder es → (p q : ℕ) → p < q → q < length es
    → (entry_at es p).0 ≡ (entry_at es q).0 → IsRepeatAt es (q - 1)
neighbours es o p q h l e =
    let d : Entry = ((pos 0, pos 0, pos 0), 0) in
    let next : q - 1 + 1 ≡ q = omega (arith, h) in
    let same : (entry_at es (q - 1)).0 ≡ (entry_at es q).0 = elim (cases_lt p (q - 1)) [
      | inl far ↦ elim (o.rises (q - 1) q d (omega (arith, h)) l) [
        | inr s ↦ s.0
        | inl b ↦ elim (o.rises p (q - 1) d far (omega (arith, l))) [
          | inl a ↦ absurd (before_itself (entry_at es q).0
              (subst (λ x. OffsetBefore x (entry_at es q).0) e (before_trans _ _ _ a b)))
          | inr s ↦ absurd (before_itself (entry_at es q).0
              (subst (λ x. OffsetBefore x (entry_at es q).0) (sym s.0 ∙ e) b))
        ]
      ]
      | inr near ↦
          let here : q - 1 ≡ p = omega (arith, h, near) in
          ap (λ j. (entry_at es j).0) here ∙ e
    ] in
    record { inside = omega (arith, h, l); same = same ∙ ap (λ j. (entry_at es j).0) (sym next) }
