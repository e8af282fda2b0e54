-- Pairs that lead over a third block, and the steps of a pattern that add up to another.
use Rattle.fixed_worth.proofs.Common.{◌≡◌, ◌≢◌, ◌⊎◌, ℕ, ◌<◌, ℤ, ◌-ℤ◌, ◌+◌, List, [], ◌∷◌, length, get_or, Contains, All}
use Rattle.fixed_worth.proofs.Common.{All-contains, refl, Bool, sym, ap, subst, ◌∙◌, arith, inl, inr, ints, cases_order}
use Rattle.fixed_worth.proofs.Common.{take, take_more, Contains-push_cases, get_or_default}
use Rattle.std.specs.Global.{Vec}
use Rattle.blocks_file.specs.declared.place.Place.{Place}
use Rattle.blocks_file.specs.Denotes.{BlocksView}
use Rattle.slope_offsets.specs.Prelude.{Offset, listed_at, offset_at, rest_after, AreFirstSteps, AreStepsTo}
use Rattle.slope_offsets.specs.Prelude.{AreStepsOfEach, AreStepsOfRegions}
use Rattle.slope.specs.Prelude.{AreApartBelow, block_place, upward, offset_between, IsOwnPair, IsSelected, LeadsOver}
use Rattle.slope.specs.Prelude.{own_by, owns, SurroundingsView, ArePlacesOf, StandsAtOffset, StandsNone, StandsBetween}
use Rattle.slope.specs.Prelude.{LiesAtSome, LiesAtNone}
use Rattle.slope_offsets.specs.declared.selection.Selection.{Selection}
use Rattle.slope_offsets.specs.declared.selection.Selection.TheVariants.{Every, Reduced}
use Rattle.slope_offsets.specs.declared.up.Up.{Up}
use Rattle.slope_offsets.specs.declared.up.Up.TheVariants.{PlusZ, MinusZ}
use Rattle.slope.proofs.PairSteps.{slope_of, slope_at}
use Rattle.slope.proofs.Finding.{one_place}

rest_of_height : (up : Up) (x y z : ℤ) → upward up (z -ℤ y) ≡ upward up (z -ℤ x) -ℤ upward up (y -ℤ x)
rest_of_height PlusZ x y z = omega (arith, ints)
rest_of_height MinusZ x y z = omega (arith, ints)

-- from the place between the rest of the offset leads on
pub rest_between : (up : Up) (from over to : Place)
    → offset_between up over to ≡ rest_after (offset_between up from over) (offset_between up from to)
rest_between up from over to =
    let a : to.x -ℤ over.x ≡ (to.x -ℤ from.x) -ℤ (over.x -ℤ from.x) = omega (arith, ints) in
    let b : to.y -ℤ over.y ≡ (to.y -ℤ from.y) -ℤ (over.y -ℤ from.y) = omega (arith, ints) in
    let d = rest_of_height up from.z over.z to.z in
    λ i. (a i, b i, d i)

module _ (v : SurroundingsView) (b : ℕ) (known : b < v.model.blocks) (from : v.from ≡ block_place v.model b)
    (mine : v.offsets ≡ owns v b) where
  -- from b
  pub at_from : (a q : ℕ) → StandsAtOffset v a q → offset_between v.up (block_place v.model b) (block_place v.model q)
      ≡ offset_at v.offsets a
  at_from a q s = ap (λ (f : Place). offset_between v.up f (block_place v.model q)) (sym from) ∙ s.there

  -- from the block at offset a the rest leads on
  onward_of : (i p a q : ℕ) → StandsAtOffset v i p
      → offset_between v.up (block_place v.model b) (block_place v.model q) ≡ offset_at v.offsets a
      → offset_between v.up (block_place v.model q) (block_place v.model p) ≡ rest_after (offset_at v.offsets a)
      (offset_at v.offsets i)
  onward_of i p a q stands first =
      rest_between v.up (block_place v.model b) (block_place v.model q) (block_place v.model p)
      ∙ ap (λ o. rest_after o (offset_between v.up (block_place v.model b) (block_place v.model p))) first
      ∙ ap (rest_after (offset_at v.offsets a)) (at_from i p stands)

  module _ (i p : ℕ) (stands : StandsAtOffset v i p) (steps : List ℕ) where
    -- a block that lies at a step lies between
    pub leads_over : All (λ a. a < length v.offsets) steps → LiesAtSome v i steps
        → LeadsOver v.model (owns v) v.up (b, p)
    leads_over few s =
        let there = s.lies.stands in
        let first = at_from s.step s.block there in
        let inside : s.step < length v.offsets = All-contains (λ a. a < length v.offsets) steps s.step few s.among in
        let at : Contains v.offsets (offset_between v.up (block_place v.model b) (block_place v.model s.block)) =
        subst (Contains v.offsets) (sym first) (s.step, inside, get_or_default v.offsets s.step _ _ inside) in
        record {
          over = s.block;
          first = record {
            bottom = known;
            top = there.known;
            offset = subst
                (λ xs. Contains xs (offset_between v.up (block_place v.model b) (block_place v.model s.block))) mine at;
          };
          second = record {
            bottom = there.known;
            top = stands.known;
            offset = subst (Contains (owns v s.block))
                (sym (onward_of i p s.step s.block stands first)) s.lies.onward;
          };
        }

    -- where none lies at any of the first steps, none lies between
    pub leads_over_none : (all : List Offset) → AreFirstSteps v.offsets all (offset_at v.offsets i) (length v.offsets)
        steps → ((q : ℕ) (o : Offset) → q < v.model.blocks → Contains (owns v q) o → Contains all o)
        → LiesAtNone v i steps → LeadsOver v.model (owns v) v.up (b, p) → ⊥
    leads_over_none all of holds none h =
        let o : Contains v.offsets (offset_between v.up (block_place v.model b) (block_place v.model h.over)) = subst
        (λ xs. Contains xs (offset_between v.up (block_place v.model b) (block_place v.model h.over)))
        (sym mine) h.first.offset in
        let at : offset_between v.up (block_place v.model b) (block_place v.model h.over) ≡ offset_at v.offsets o.0 =
        sym o.2 ∙ get_or_default v.offsets o.0 _ _ o.1 in
        let onward = subst (Contains (owns v h.over)) (onward_of i p o.0 h.over stands at) h.second.offset in
        let lies : StandsBetween v i o.0 h.over = record {
          stands = record {
            known = h.first.top;
            there = ap
                (λ (f : Place). offset_between v.up f (block_place v.model h.over)) from ∙ at;
          };
          onward = onward;
        } in
        none o.0 h.over (of.held o.0 o.1 (record { known = o.1; onward = holds h.over _ h.first.top onward })) lies

-- surroundings by their parts, where a block is looked from
module _ (v : SurroundingsView) (m : BlocksView) (by_column : Bool) (ps : List (List Offset)) (up : Up)
    (same : ArePlacesOf v m by_column ps up) (b : ℕ) (known : b < m.blocks) (from : v.from ≡ block_place m b)
    (mine : v.offsets ≡ own_by by_column ps m b) where
  w : SurroundingsView
  w = record {
    model = m;
    patterns = ps;
    by_column = by_column;
    offsets = own_by by_column ps m b;
    up = up;
    from =
        v.from;
  }

  w_is : v ≡ w
  unfolding w
  w_is = λ j. record {
    model = same.of_model j;
    patterns = same.of_patterns j;
    by_column = same.of_column j;
    offsets =
        mine j;
    up = same.of_up j;
    from = v.from;
  }

  module _ (i : ℕ) (l : i < length (own_by by_column ps m b)) where
    -- a block that stands at an offset makes a pair
    pair_at : (p : ℕ) → StandsAtOffset w i p → IsOwnPair m (own_by by_column ps m) up (b, p)
        × (offset_between up (block_place m b) (block_place m p) ≡ offset_at (own_by by_column ps m b) i)
    unfolding w
    pair_at p s = let at = at_from w b known from refl i p s in
        (slope_at m (own_by by_column ps m) up b p i _ l known s.known at, at)

    -- one at an offset stands there
    stands_at : (p : ℕ) → p < m.blocks → offset_between up (block_place m b) (block_place m p) ≡ offset_at
        (own_by by_column ps m b) i → StandsAtOffset w i p
    unfolding w
    stands_at p top at = record {
      known = top;
      there = ap (λ (f : Place). offset_between up f (block_place m p)) from
          ∙ at;
    }

    module _ (all : List Offset) (holds : (q : ℕ) (o : Offset) → q < m.blocks → Contains (own_by by_column ps m q) o
        → Contains all o) (steps : List ℕ) where
      -- a block that stands there, where none lies between, makes a selected pair
      pub selected_by : (s : Selection)
          → AreStepsTo s (own_by by_column ps m b) all (offset_at (own_by by_column ps m b) i) steps → (p : ℕ)
          → StandsAtOffset v i p × LiesAtNone v i steps → IsSelected s m (own_by by_column ps m) up (b, p)
          × (offset_between up (block_place m b) (block_place m p) ≡ offset_at (own_by by_column ps m b) i)
      unfolding w
      selected_by Every of p h = pair_at p (subst (λ (x : SurroundingsView). StandsAtOffset x i p) w_is h.0)
      selected_by Reduced of p h =
          let stands = subst (λ (x : SurroundingsView). StandsAtOffset x i p) w_is h.0 in
          let pair = pair_at p stands in
          let none = subst (λ (x : SurroundingsView). LiesAtNone x i steps) w_is h.1 in
          ((pair.0, leads_over_none w b known from refl i p stands steps all of holds none), pair.1)

      passed_none : (s : Selection) → StandsNone v i → (p : ℕ) → IsSelected s m (own_by by_column ps m) up (b, p)
          → offset_between up (block_place m b) (block_place m p) ≢ offset_at (own_by by_column ps m b) i
      passed_none s none p selected at = subst (λ (x : SurroundingsView). StandsNone x i) w_is none p
          (stands_at p (slope_of s m (own_by by_column ps m) up (b, p) selected).top at)

      -- where one lies between, or none stands there, no pair is selected
      pub passed_by : (s : Selection)
          → AreStepsTo s (own_by by_column ps m b) all (offset_at (own_by by_column ps m b) i) steps
          → All (λ a. a < length (own_by by_column ps m b)) steps → LiesAtSome v i steps ⊎ StandsNone v i → (p : ℕ)
          → IsSelected s m (own_by by_column ps m) up (b, p)
          → offset_between up (block_place m b) (block_place m p) ≢ offset_at (own_by by_column ps m b) i
      unfolding w
      passed_by Every of few (inl some) p selected at = absurd (omega (arith, ap length of, some.among.1))
      passed_by Reduced of few (inl some) p selected at =
          let lies = subst (λ (x : SurroundingsView). LiesAtSome x i steps) w_is some in
          selected.1 (leads_over w b known from refl i p (stands_at p selected.0.top at) steps few lies)
      passed_by s of few (inr none) p selected at = passed_none s none p selected at

-- the steps are offsets of the pattern
pub steps_known : (s : Selection) (os all : List Offset) (whole : Offset) (steps : List ℕ)
    → AreStepsTo s os all whole steps → All (λ a. a < length os) steps
steps_known Every os all whole steps of k d l = absurd (omega (arith, ap length of, l))
steps_known Reduced os all whole steps of k d l =
    (of.only (get_or steps k d) (k, l, get_or_default steps k _ d l)).known

-- ---- gathering the first steps

-- a list with a place isn't empty
some_of : {X : Type 0} (xs : List X) (i : ℕ) → i < length xs → X
some_of [] i l = absurd (omega (arith, l))
some_of (x ∷ xs) i l = x

-- the steps of the region of a block
pub steps_of_block : (s : Selection) (ps : List (List Offset)) (all : List Offset) (each : List (Vec (Vec ℕ)))
    (region : ℕ) (os : List Offset) (steps : List (Vec ℕ)) → os ≡ listed_at ps region → region < length ps
    → AreStepsOfRegions s ps all (length ps) each → ((d : Vec (Vec ℕ)) → steps ≡ (get_or each region d).items)
    → AreStepsOfEach s os all (length os) steps
steps_of_block s ps all each region os steps e l h is =
    let none = some_of each region (omega (arith, l, h.as_many)) in
    subst (λ xs. AreStepsOfEach s xs all (length xs) steps) (sym e)
    (subst (AreStepsOfEach s (listed_at ps region) all (length (listed_at ps region))) (sym (is none))
    (h.each region none l))

-- the steps to one offset
pub step_at : (s : Selection) (os all : List Offset) (steps : List (Vec ℕ)) (i : ℕ) (own : List ℕ)
    → AreStepsOfEach s os all (length os) steps → i < length os → ((d : Vec ℕ) → own ≡ (get_or steps i d).items)
    → AreStepsTo s os all (offset_at os i) own
step_at s os all steps i own h l is =
    let none = some_of steps i (omega (arith, l, h.as_many)) in
    subst (AreStepsTo s os all (offset_at os i)) (sym (is none)) (h.each i none l)

-- where nothing lies between at the first steps, nor at the next one
pub none_more : (v : SurroundingsView) (i : ℕ) (steps : List ℕ) (k d : ℕ) → k < length steps
    → LiesAtNone v i (take k steps) → ((q : ℕ) → StandsBetween v i (get_or steps k d) q → ⊥)
    → LiesAtNone v i (take (k + 1) steps)
none_more v i steps k d l none here a q c lies = elim
    (Contains-push_cases (take k steps) (get_or steps k d) a (subst (λ xs. Contains xs a) (take_more steps k d l) c)) [
      | inl before ↦ none a q before lies
      | inr e ↦ here q (subst (λ x. StandsBetween v i x q) (sym e) lies)
    ]

-- where no block stands none lies between
pub none_lies : (v : SurroundingsView) (i a : ℕ) → StandsNone v a → (q : ℕ) → StandsBetween v i a q → ⊥
none_lies v i a none q lies = none q lies.stands

-- one block stands at an offset: where that one doesn't lead on, none lies between
pub other_lies : (v : SurroundingsView) → AreApartBelow v.model v.model.blocks → (i a p : ℕ) → StandsAtOffset v a p
    → (Contains (owns v p) (rest_after (offset_at v.offsets a) (offset_at v.offsets i)) → ⊥) → (q : ℕ)
    → StandsBetween v i a q → ⊥
other_lies v apart i a p stands never q lies =
    let same = one_place v.up v.from (block_place v.model p) (block_place v.model q)
    (stands.there ∙ sym lies.stands.there) in
    elim (cases_order p q) [
      | inl e ↦ never (subst (λ x. Contains (owns v x) (rest_after (offset_at v.offsets a) (offset_at v.offsets i)))
          (sym e) lies.onward)
      | inr w ↦ elim w [
        | inl below ↦ apart p q below lies.stands.known same
        | inr above ↦ apart q p above stands.known (sym same)
      ]
    ]
