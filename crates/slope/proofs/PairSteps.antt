-- The steps in which slope pairs are gathered.
use Rattle.fixed_worth.proofs.Common.{◌≡◌, ◌≢◌, ℕ, ◌+◌, ◌<◌, ◌⊎◌, inl, inr, ℤ, pos, ◌-ℤ◌, List, [], ◌∷◌, ◌++◌, length}
use Rattle.fixed_worth.proofs.Common.{get_or, take, sym, refl, ap, subst, ◌∙◌, arith, Contains, cases_lt, take_more}
use Rattle.fixed_worth.proofs.Common.{get_or_default, get_or-take, length-take-le, take-length, Contains-append_left}
use Rattle.fixed_worth.proofs.Common.{Contains-push, Contains-push_cases, All-contains, common_steps}
use Rattle.prec_file.specs.declared.limits.TheConstants.{MOST_PAIRS}
use Rattle.blocks_file.specs.Denotes.{BlocksView}
use Rattle.prec_file.specs.Prelude.{RestsView, IsRising as IsPairRising}
use Rattle.slope_offsets.specs.Prelude.{Offset, IsPattern, AreOffsetsRising, OffsetBefore, Collects}
use Rattle.slope.specs.Prelude.{block_place, AreApartBelow, upward, offset_between, IsOwnPair, IsSelected, AreOwnSlopes}
use Rattle.slope.specs.Prelude.{SlopeFaultStands, IsPairBelow, IsPairUpTo, PairFaultStands, PairRefusalStands}
use Rattle.slope_offsets.specs.declared.selection.Selection.{Selection}
use Rattle.slope_offsets.specs.declared.selection.Selection.TheVariants.{Every, Reduced}
use Rattle.slope_offsets.specs.declared.up.Up.{Up}
use Rattle.slope.specs.declared.slope_fault.SlopeFault.{SlopeFault}
use Rattle.slope.specs.declared.slope_fault.SlopeFault.TheVariants.{SamePlace, TooMany, NoMemory}
use Rattle.slope_offsets.proofs.Gathering.{collected_same, collected_more, too_many}
use Rattle.slope_offsets.proofs.OffsetSorting.{before_itself}
use Rattle.slope.proofs.Finding.{one_place}

-- an offset is none of those in front of it
fresh : (os : List Offset) → AreOffsetsRising os → (i : ℕ) (d : Offset) → i < length os
    → Contains (take i os) (get_or os i d) → ⊥
fresh os r i d l (k, m, e) =
    let x = get_or os i d in
    let size = length-take-le i os (omega arith) in
    let below : k < i = omega arith in
    let same : get_or os k d ≡ x = get_or_default os k d x (omega arith) ∙ sym (get_or-take i os k x below) ∙ e in
    before_itself x (subst (λ y. OffsetBefore y x) same (r.rises k i d below l))

-- selected pairs are slope pairs
pub slope_of : (s : Selection) (m : BlocksView) (own : ℕ → List Offset) (up : Up) (q : ℕ × ℕ)
    → IsSelected s m own up q → IsOwnPair m own up q
slope_of Every m own up q h = h
slope_of Reduced m own up q h = h.0

-- a block and the one at one of its own offsets are a pair
pub slope_at : (m : BlocksView) (own : ℕ → List Offset) (up : Up) (b p i : ℕ) (d : Offset) → i < length (own b)
    → b < m.blocks → p < m.blocks → offset_between up (block_place m b) (block_place m p) ≡ get_or (own b) i d
    → IsOwnPair m own up (b, p)
slope_at m own up b p i d l known top at = record
    { bottom = known; top = top; offset = subst (Contains (own b)) (sym at) (i, l, get_or_default (own b) i _ d l) }

module _ (m : BlocksView) (own : ℕ → List Offset) (up : Up) (s : Selection) (b : ℕ) (ps : List (ℕ × ℕ)) where
  pub block_begun : Collects (IsPairBelow m own up s b) ps → Collects (IsPairUpTo m own up s b 0) ps
  block_begun c = collected_same _ _ ps c
      (λ q h. record { selected = h.selected; below = inl h.below })
      (λ q h. record {
        selected = h.selected;
        below = elim h.below
            [ inl l ↦ l | inr k ↦ let n = k.1 in absurd (nothing n) ];
      })
    where
      nothing : {x : Offset} → Contains (take 0 (own b)) x → ⊥
      nothing k = omega (arith, k.1)

  pub block_ended : (i : ℕ) → i ≡ length (own b) → Collects (IsPairUpTo m own up s b i) ps
      → Collects (IsPairBelow m own up s (b + 1)) ps
  block_ended i e c = collected_same _ _ ps c
      (λ q h. record {
        selected = h.selected;
        below = elim h.below
            [ inl l ↦ omega (arith, l) | inr k ↦ let f = k.0 in omega (arith, f) ];
      })
      (λ q h. record {
        selected = h.selected;
        below = elim (cases_lt q.0 b) [
          | inl l ↦ inl l
          | inr g ↦
              let f : q.0 ≡ b = (let l = h.below in omega (arith, l, g)) in
              let whole : take i (own b) ≡ (own b) = ap (λ j. take j (own b)) e ∙ take-length (own b) in
              let at : Contains (own b) (offset_between up (block_place m b) (block_place m q.1)) = subst
              (λ k. Contains (own k) (offset_between up (block_place m k) (block_place m q.1))) f
              (slope_of s m own up q h.selected).offset in
              inr (
                f,
                subst (λ xs. Contains xs (offset_between up (block_place m b) (block_place m q.1)))
                    (sym whole) at,
              )
        ];
      })

module _ (m : BlocksView) (own : ℕ → List Offset) (up : Up) (s : Selection) (b i : ℕ) (ps : List (ℕ × ℕ)) (d : Offset)
    (l : i < length (own b)) (c : Collects (IsPairUpTo m own up s b i) ps) where
  longer : take (i + 1) (own b) ≡ take i (own b) ++ get_or (own b) i d ∷ []
  longer = take_more (own b) i d l

  kept : (x : Offset) → Contains (take i (own b)) x → Contains (take (i + 1) (own b)) x
  kept x k = subst (λ xs. Contains xs x) (sym longer)
      (Contains-append_left (take i (own b)) (get_or (own b) i d ∷ []) x k)

  still : (q : ℕ × ℕ) → IsPairUpTo m own up s b i q → IsPairUpTo m own up s b (i + 1) q
  still q h = record { selected = h.selected; below = elim h.below [ inl f ↦ inl f | inr k ↦ inr (k.0, kept _ k.1) ] }

  -- a pair of this block
  here : (q : ℕ × ℕ) → IsSelected s m own up q → q.0 ≡ b → IsSelected s m own up (b, q.1)
  here q h e = subst (λ k. IsSelected s m own up (k, q.1)) e h

  -- no pair is selected at the offset
  pub offset_passed : ((p : ℕ) → IsSelected s m own up (b, p)
      → offset_between up (block_place m b) (block_place m p) ≢ get_or (own b) i d)
      → Collects (IsPairUpTo m own up s b (i + 1)) ps
  offset_passed n = collected_same _ _ ps c still (λ q h. record {
    selected = h.selected;
    below = elim h.below [
      | inl f ↦ inl f
      | inr k ↦ elim (Contains-push_cases (take i (own b)) (get_or (own b) i d) _
          (subst (λ xs. Contains xs (offset_between up (block_place m b) (block_place m q.1))) longer k.1)) [
            | inl f ↦ inr (k.0, f)
            | inr e ↦ absurd (n q.1 (here q h.selected k.0) (sym e))
          ]
    ];
  })

  module _ (r : AreOffsetsRising (own b)) (apart : AreApartBelow m m.blocks) (p : ℕ)
      (selected : IsSelected s m own up (b, p))
      (at : offset_between up (block_place m b) (block_place m p) ≡ get_or (own b) i d) where
    not_yet : IsPairUpTo m own up s b i (b, p) → ⊥
    not_yet h = elim (h.below) [
      | inl f ↦ omega (arith, f)
      | inr k ↦ fresh (own b) r i d l (subst (Contains (take i (own b))) at k.1)
    ]

    top : p < m.blocks
    top = (slope_of s m own up (b, p) selected).top

    one_block : (q : ℕ) → q < m.blocks → block_place m p ≡ block_place m q → p ≡ q
    one_block q k e = grind (arith, common_steps)

    before_or_here : (q : ℕ × ℕ) → IsPairUpTo m own up s b (i + 1) q → IsPairUpTo m own up s b i q ⊎ ((b, p) ≡ q)
    before_or_here q h = elim h.below [
      | inl f ↦ inl (record { selected = h.selected; below = inl f })
      | inr k ↦ elim (Contains-push_cases (take i (own b)) (get_or (own b) i d) _
          (subst (λ xs. Contains xs (offset_between up (block_place m b) (block_place m q.1))) longer k.1)) [
            | inl f ↦ inl (record { selected = h.selected; below = inr (k.0, f) })
            | inr e ↦
                let u = sym k.0 in
                let v = one_block q.1 (slope_of s m own up q h.selected).top
                (one_place up (block_place m b) (block_place m p) (block_place m q.1) (at ∙ e)) in
                inr (λ j. (u j, v j))
          ]
    ]

    pub offset_taken : Collects (IsPairUpTo m own up s b (i + 1)) (ps ++ (b, p) ∷ [])
    offset_taken = collected_more _ _ ps c (b, p) not_yet
        (record {
          selected = selected;
          below = inr (
            refl,
            subst (λ xs. Contains xs (offset_between up (block_place m b) (block_place m p))) (sym longer)
                (subst (Contains (take i (own b) ++ get_or (own b) i d ∷ [])) (sym at)
                (Contains-push (take i (own b)) (get_or (own b) i d))),
          );
        })
        still before_or_here

    -- why the pair wasn't added
    pub refused : (e : SlopeFault) (count : ℕ) → count ≡ length ps → PairRefusalStands count e
        → PairFaultStands m own up s e
    refused (SamePlace x y) count as_many h = h
    refused TooMany count as_many h = too_many _ _ ps c MOST_PAIRS (b, p) not_yet selected (λ q f. f.selected)
        (omega (arith, as_many, h))
    refused NoMemory count as_many h = tt

pub pairs_ended : (m : BlocksView) (own : ℕ → List Offset) (up : Up) (s : Selection) (ps : List (ℕ × ℕ))
    → Collects (IsPairBelow m own up s m.blocks) ps → Collects (IsSelected s m own up) ps
pairs_ended m own up s ps c = collected_same _ _ ps c (λ q h. h.selected)
    (λ q h. record { selected = h; below = (slope_of s m own up q h).bottom })

level_height : (up : Up) (x : ℤ) → upward up (x -ℤ x) ≡ pos 0
level_height up x = grind (arith, common_steps)

-- no block rests on itself
pub no_loop : (m : BlocksView) (own : ℕ → List Offset) (up : Up) (q : ℕ × ℕ) → IsPattern (own q.0)
    → IsOwnPair m own up q → q.0 ≡ q.1 → ⊥
no_loop m own up q pattern h e = grind (arith, common_steps, All-contains, level_height)

-- the pairs that were gathered are the slope pairs, where they are in order
pub slopes_are : (m : BlocksView) (own : ℕ → List Offset) (up : Up) (s : Selection) (rests : RestsView)
    → AreApartBelow m m.blocks → rests.blocks ≡ m.blocks → IsPairRising rests.pairs
    → Collects (IsSelected s m own up) rests.pairs → AreOwnSlopes m own up s rests
slopes_are m own up s rests apart e r c = record { apart = apart; blocks = e; rising = r; held = c.held; only = c.only }

-- the fault of the pairs is the fault of the slopes, where the places are apart
pub slope_fault : (m : BlocksView) (os : List Offset) (up : Up) (s : Selection) (e : SlopeFault)
    → AreApartBelow m m.blocks → PairFaultStands m (λ b. os) up s e → SlopeFaultStands m os up s e
slope_fault m os up s (SamePlace x y) apart h = absurd h
slope_fault m os up s TooMany apart h = (apart, h)
slope_fault m os up s NoMemory apart h = tt
