-- The deltas of one region more.
use Rattle.fixed_worth.proofs.Common.{◌≡◌, ℕ, ◌+◌, ◌-◌, ◌<◌, ◌≤◌, ◌++◌, ◌∷◌, [], inl, inr, List, length, get_or, sym}
use Rattle.fixed_worth.proofs.Common.{subst, ap, refl, ◌∙◌, arith, cases_lt, length-append, get_or_append_left}
use Rattle.fixed_worth.proofs.Common.{get_or-append_right, get_or_push}
use Rattle.slope_offsets.specs.Prelude.{Offset, listed_at}
use Rattle.places.specs.declared.padded_box.PaddedBox.{PaddedBox}
use Rattle.places.specs.Prelude.{IsRaised, AreRaised, AreDeltas, nothing}

-- before the first region
pub no_deltas : (s : PaddedBox) (slopes : List (List Offset)) (starts deltas : List ℕ) → starts ≡ 0 ∷ [] → deltas ≡ []
    → AreDeltas s slopes 0 starts deltas
no_deltas s slopes starts deltas e f = rw (e, f) (record {
  size = refl;
  last = refl;
  within = λ r l. let zero_is : r ≡ 0 = omega arith in subst (λ (k : ℕ). get_or (0 ∷ []) k 0 ≤ 0) (sym zero_is)
      (omega arith);
  ways = λ r l. absurd (omega arith);
  raised = λ r k l. absurd (omega arith);
})

module _ (s : PaddedBox) (slopes : List (List Offset)) (n : ℕ) (starts deltas added : List ℕ)
    (h : AreDeltas s slopes n starts deltas)
    (a : AreRaised s (listed_at slopes n) (length (listed_at slopes n)) added) where
  ends : List ℕ
  ends = starts ++ length (deltas ++ added) ∷ []

  size : length (deltas ++ added) ≡ length deltas + length (listed_at slopes n)
  size = length-append deltas added ∙ ap (λ (k : ℕ). length deltas + k) a.size

  old : (r : ℕ) → r ≤ n → get_or (starts ++ length (deltas ++ added) ∷ []) r 0 ≡ get_or starts r 0
  old r l = get_or_append_left starts (length (deltas ++ added) ∷ []) 0 r (omega (arith, h.size, l))

  new : get_or (starts ++ length (deltas ++ added) ∷ []) (n + 1) 0 ≡ length (deltas ++ added)
  new = get_or_push starts (length (deltas ++ added)) 0 (n + 1) h.size

  pub deltas_more : AreDeltas s slopes (n + 1) (starts ++ length (deltas ++ added) ∷ []) (deltas ++ added)
  deltas_more = record {
    size = omega (arith, h.size, length-append starts (length (deltas ++ added) ∷ []));
    last = new;
    within = λ r l. elim (cases_lt r (n + 1)) [
      | inl m ↦ omega (arith, old r (omega arith), h.within r (omega arith), size)
      | inr m ↦ let same : r ≡ n + 1 = omega arith in subst
          (λ (k : ℕ). get_or (starts ++ length (deltas ++ added) ∷ []) k 0 ≤ length (deltas ++ added)) (sym same)
          (omega (arith, new))
    ];
    ways = λ r l. elim (cases_lt r n) [
      | inl m ↦ omega (arith, old (r + 1) (omega arith), old r (omega arith), h.ways r m)
      | inr m ↦ let same : r ≡ n = omega arith in subst
          (λ (k : ℕ). get_or (starts ++ length (deltas ++ added) ∷ []) (k + 1) 0 ≡ get_or
          (starts ++ length (deltas ++ added) ∷ []) k 0 + length (listed_at slopes k)) (sym same)
          (omega (arith, new, old n (omega arith), h.last, size))
    ];
    raised = λ r k l i. elim (cases_lt r n) [
      | inl m ↦
          let at = old r (omega arith) in
          let inside : get_or starts r 0 + k < length deltas = omega
          (arith, i, h.ways r m, h.within (r + 1) (omega arith)) in
          let is : get_or (deltas ++ added) (get_or (starts ++ length (deltas ++ added) ∷ []) r 0 + k) 0
          ≡ get_or deltas (get_or starts r 0 + k) 0 = ap (λ (j : ℕ). get_or (deltas ++ added) (j + k) 0) at
          ∙ get_or_append_left deltas added 0 (get_or starts r 0 + k) inside in
          subst (IsRaised s (get_or (listed_at slopes r) k nothing)) (sym is) (h.raised r k m i)
      | inr m ↦
          let same : n ≡ r = omega arith in
          let P : ℕ → Type 0 = λ q. k < length (listed_at slopes q)
          → IsRaised s (get_or (listed_at slopes q) k nothing)
          (get_or (deltas ++ added) (get_or (starts ++ length (deltas ++ added) ∷ []) q 0 + k) 0) in
          subst P same (λ own.
          let at : get_or (starts ++ length (deltas ++ added) ∷ []) n 0 + k ≡ length deltas + k = omega
          (arith, old n (omega arith), h.last) in
          let back : length deltas + k - length deltas ≡ k = omega arith in
          let is : get_or (deltas ++ added) (get_or (starts ++ length (deltas ++ added) ∷ []) n 0 + k) 0
          ≡ get_or added k 0 = ap (λ (j : ℕ). get_or (deltas ++ added) j 0) at
          ∙ get_or-append_right deltas added (length deltas) (length deltas + k) 0 refl (omega arith)
          ∙ ap (λ (j : ℕ). get_or added j 0) back in
          subst (IsRaised s (get_or (listed_at slopes n) k nothing)) (sym is) (a.raised k own)) i
    ];
  }

-- the same, where the lists were made piece by piece
pub deltas_next : (s : PaddedBox) (slopes : List (List Offset)) (n : ℕ) (starts deltas added starts' deltas' : List ℕ)
    (offsets : List Offset) (end : ℕ) → AreDeltas s slopes n starts deltas
    → AreRaised s offsets (length offsets) added → offsets ≡ listed_at slopes n → deltas' ≡ deltas ++ added
    → end ≡ length deltas' → starts' ≡ starts ++ end ∷ []
    → AreDeltas s slopes (n + 1) starts' deltas'
deltas_next s slopes n starts deltas added starts' deltas' offsets end h a o d e t =
    let own : AreRaised s (listed_at slopes n) (length (listed_at slopes n)) added = subst
    (λ (xs : List Offset). AreRaised s xs (length xs) added) o a in
    let last : end ≡ length (deltas ++ added) = e ∙ ap length d in
    let more = deltas_more s slopes n starts deltas added h own in
    subst (λ (xs : List ℕ). AreDeltas s slopes (n + 1) xs deltas') (sym (t ∙ ap (λ (k : ℕ). starts ++ k ∷ []) last))
    (subst (λ (xs : List ℕ). AreDeltas s slopes (n + 1) (starts ++ length (deltas ++ added) ∷ []) xs) (sym d) more)
