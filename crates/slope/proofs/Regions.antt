-- The lists of regions, one after another.
use Rattle.fixed_worth.proofs.Common.{◌≡◌, ℕ, ◌+◌, ◌<◌, List, [], ◌∷◌, ◌++◌, length, get_or, map, ℤ, Contains, refl}
use Rattle.fixed_worth.proofs.Common.{sym, ap, subst, ◌∙◌, arith, inl, inr, cases_lt, get_or-map, get_or_append_left}
use Rattle.fixed_worth.proofs.Common.{get_or-append_seam, get_or_past, length-append}
use Rattle.std.specs.Global.{Vec}
use Rattle.slope_offsets.specs.Prelude.{Offset, IsPattern, AreOffsets, listed_at}
use Rattle.slope.specs.Prelude.{AreOfListed}

-- what holds below k and at k
pub below_more : (P : ℕ → Type 0) (k : ℕ) → ((s : ℕ) → s < k → P s) → P k → (s : ℕ) → s < k + 1 → P s
below_more P k f p s l = elim (cases_lt s k) [
  | inl below ↦ f s below
  | inr least ↦ let e : k ≡ s = omega (arith, l, least) in subst P e p
]

-- region r of lists
pub list_at : (vs : List (Vec Offset)) (r : ℕ) (d : Vec Offset) → r < length vs
    → listed_at (map (λ (w : Vec (ℤ × ℤ × ℤ)). w.items) vs) r ≡ (get_or vs r d).items
list_at vs r d l = get_or-map (λ (w : Vec (ℤ × ℤ × ℤ)). w.items) vs r d [] l

-- the list of one region more has its pattern
module _ (listed patterns : List (List Offset)) (h : AreOfListed listed patterns) (xs p : List Offset)
    (are : AreOffsets (Contains xs) p) (pattern : IsPattern p) where
  last : (zs : List (List Offset)) (x : List Offset) (r : ℕ) → r < length zs
      → listed_at (zs ++ x ∷ []) r ≡ listed_at zs r
  last zs x r l = get_or_append_left zs (x ∷ []) [] r l

  seam : (zs : List (List Offset)) (x : List Offset) (r : ℕ) → r ≡ length zs → listed_at (zs ++ x ∷ []) r ≡ x
  seam zs x r e = ap (listed_at (zs ++ x ∷ [])) e ∙ get_or-append_seam zs x [] []

  beyond : (zs : List (List Offset)) (x : List Offset) (r : ℕ) → length zs < r → listed_at (zs ++ x ∷ []) r ≡ []
  beyond zs x r l = get_or_past (zs ++ x ∷ []) r [] (omega (arith, length-append zs (x ∷ []), l))

  moved : (from to : List (List Offset)) (y z : List Offset) → length from ≡ length to
      → ((r : ℕ) (o : Offset) → Contains (listed_at from r) o → Contains (listed_at to r) o)
      → ((o : Offset) → Contains y o → Contains z o) → (r : ℕ) (o : Offset)
      → Contains (listed_at (from ++ y ∷ []) r) o → Contains (listed_at (to ++ z ∷ []) r) o
  moved from to y z same f g r o c = elim (cases_lt r (length from)) [
    | inl below ↦ subst (λ ws. Contains ws o) (sym (last to z r (omega (arith, below, same))))
        (f r o (subst (λ ws. Contains ws o) (last from y r below) c))
    | inr least ↦ elim (cases_lt (length from) r) [
      | inl past ↦ let nothing = subst (λ ws. Contains ws o) (beyond from y r past) c in let bad = nothing.1 in absurd
          (omega (arith, bad))
      | inr most ↦
          let e : r ≡ length from = omega (arith, least, most) in
          subst (λ ws. Contains ws o) (sym (seam to z r (e ∙ same)))
          (g o (subst (λ ws. Contains ws o) (seam from y r e) c))
    ]
  ]

  pub listed_more : AreOfListed (listed ++ xs ∷ []) (patterns ++ p ∷ [])
  listed_more = record {
    as_many = length-append patterns (p ∷ []) ∙ ap (λ n. n + 1) h.as_many ∙ sym (length-append listed (xs ∷ []));
    are = λ r l. elim (cases_lt r (length patterns)) [
      | inl below ↦ subst IsPattern (sym (last patterns p r below)) (h.are r below)
      | inr least ↦ let e : r ≡ length patterns = omega (arith, l, least, length-append patterns (p ∷ [])) in subst
          IsPattern (sym (seam patterns p r e)) pattern
    ];
    held = moved listed patterns xs p (sym h.as_many) h.held are.held;
    only = moved patterns listed p xs h.as_many h.only are.only;
  }

-- no region, no pattern
pub none_of_none : AreOfListed [] []
none_of_none = record { as_many = refl; are = λ r l. absurd (omega (arith, l)); held = λ r o c. c; only = λ r o c. c }
