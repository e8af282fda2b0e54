-- A search that has passed over all that it found has reached the least set.
use Rattle.fixed_worth.proofs.Common.{◌≡◌, ℕ, ◌+◌, ◌<◌, ◌≤◌, ◌==◌, nat_lt, Bool, true, inl, inr, List, length, get_or}
use Rattle.fixed_worth.proofs.Common.{sym, ap, subst, ◌∙◌, arith, All, length-append, cases_eq, eq-eqb, eqb-true}
use Rattle.fixed_worth.proofs.Common.{ltb-true, or_left, get_or-map, get_or_default, length-map, get_or_append_left}
use Rattle.fixed_worth.proofs.Common.{common_steps, list_any-append}
use Rattle.prec_file.specs.Rests.{from_at, to_at, numbers_passing, numbers, above_of, below_of, IsKnown}
use Rattle.prec_file.proofs.Passing.{passing_at, passing_here, passing_after, passing_grows}
use Rattle.closure_net.specs.Prelude.{HasSourceResidual, Carries, Reaches, IsReached, NetView, FlowView, holds_of}
use Rattle.closure_net.specs.Prelude.{IsAscending, PassedPlaces, Always, above_at, sender_at, SendsAt, Extends}
use Rattle.closure_net.proofs.Holding.{holds_at, place_of}

-- a list that becomes longer keeps what it holds, and where
pub holds_grows : (old new : List ℕ) (x : ℕ) → Extends old new → holds_of old x ≡ true → holds_of new x ≡ true
holds_grows old new x e h = ap (λ xs. holds_of xs x) e.is ∙ list_any-append (λ y. y == x) old e.more ∙ or_left _ _ h

pub get_grows : (old new : List ℕ) (i : ℕ) → Extends old new → i < length old → get_or new i 0 ≡ get_or old i 0
get_grows old new i e h = ap (λ xs. get_or xs i 0) e.is ∙ get_or_append_left old e.more 0 i h

pub length_grows : (old new : List ℕ) → Extends old new → length old ≤ length new
length_grows old new e = omega (arith, ap length e.is, length-append old e.more)

-- the blocks before place h were looked at: what is beside them is found, and nothing that a set of this kind could
-- lack
pub record Searched (net : NetView) (flow : FlowView) (found : List ℕ) (h : ℕ) : Type 0 where
  pub begun : (b : ℕ) → b < length net.worths → HasSourceResidual net.worths flow.source b → holds_of found b ≡ true
  pub down : (i k : ℕ) → i < h → k < length net.pairs → from_at net.pairs k ≡ get_or found i 0
      → holds_of found (to_at net.pairs k) ≡ true
  pub up : (i k : ℕ) → i < h → k < length net.pairs → Carries flow.rest k → to_at net.pairs k ≡ get_or found i 0
      → holds_of found (from_at net.pairs k) ≡ true
  pub sound : (c : ℕ → Bool) → Reaches net flow c → (x : ℕ) → holds_of found x ≡ true → c x ≡ true

module _ (net : NetView) (flow : FlowView) (b : ℕ) where
  -- what is found among the pairs of b
  down_here : (old new : List ℕ) → PassedPlaces Always (above_at net.pairs b) old new (length (above_of net.pairs b))
      → (k : ℕ) → k < length net.pairs → from_at net.pairs k ≡ b → holds_of new (to_at net.pairs k) ≡ true
  down_here old new p k l e =
      let t = eq-eqb (from_at net.pairs k) b e in
      let ks = numbers (from_at net.pairs) b (length net.pairs) in
      let j = length (numbers (from_at net.pairs) b k) in
      let inside = passing_after (λ i. from_at net.pairs i == b) k (length net.pairs) l t in
      let h = p.upto j (omega (arith, inside, length-map ks (to_at net.pairs))) tt in
      let at = get_or-map (to_at net.pairs) ks j 0 0 inside
      ∙ ap (to_at net.pairs) (passing_here (λ i. from_at net.pairs i == b) k (length net.pairs) l t) in
      ap (holds_of new) (sym at) ∙ h

  down_only : (c : ℕ → Bool) → Reaches net flow c → c b ≡ true → (j x : ℕ) → j < length (above_of net.pairs b)
      → above_at net.pairs b j ≡ x → c x ≡ true
  down_only c r e j x l q =
      let ks = numbers (from_at net.pairs) b (length net.pairs) in
      let inside : j < length ks = omega (arith, length-map ks (to_at net.pairs)) in
      let p = passing_at (λ i. from_at net.pairs i == b) (length net.pairs) j inside in
      let k = get_or ks j 0 in
      let at = get_or-map (to_at net.pairs) ks j 0 0 inside in
      let d = r.down k p.below (ap c (eqb-true (from_at net.pairs k) b p.passes) ∙ e) in
      ap c (sym q ∙ at) ∙ d

  up_here : (old new : List ℕ) → PassedPlaces (SendsAt net.pairs flow.rest b) (sender_at net.pairs b) old new
      (length (below_of net.pairs b)) → (k : ℕ) → k < length net.pairs → Carries flow.rest k → to_at net.pairs k ≡ b
      → holds_of new (from_at net.pairs k) ≡ true
  up_here old new p k l w e =
      let t = eq-eqb (to_at net.pairs k) b e in
      let j = length (numbers (to_at net.pairs) b k) in
      let inside = passing_after (λ i. to_at net.pairs i == b) k (length net.pairs) l t in
      let at = passing_here (λ i. to_at net.pairs i == b) k (length net.pairs) l t in
      let P : ℕ → Type 0 = λ i. Carries flow.rest i in
      let h = p.upto j inside (subst P (sym at) w) in
      ap (λ i. holds_of new (from_at net.pairs i)) (sym at) ∙ h

  pub searched_more : (old mid new : List ℕ) (h : ℕ) → Searched net flow old h → h < length old → b ≡ get_or old h 0
      → PassedPlaces Always (above_at net.pairs b) old mid (length (above_of net.pairs b))
      → PassedPlaces (SendsAt net.pairs flow.rest b) (sender_at net.pairs b) mid new (length (below_of net.pairs b))
      → Searched net flow new (h + 1)
  searched_more old mid new h s l e p q =
      let grows : (x : ℕ) → holds_of old x ≡ true → holds_of new x ≡ true = λ x t. holds_grows mid new x q.grown
      (holds_grows old mid x p.grown t) in
      let same : (i : ℕ) → i < length old → get_or new i 0 ≡ get_or old i 0 = λ i r. get_grows mid new i q.grown
      (omega (arith, length_grows old mid p.grown)) ∙ get_grows old mid i p.grown r in
      record {
        begun = λ x r w. grows x (s.begun x r w);
        down = λ i k r t z. elim (cases_eq i h) [
          | inl y ↦
              let P : ℕ → Type 0 = λ j. from_at net.pairs k ≡ get_or new j 0 in
              holds_grows mid new (to_at net.pairs k) q.grown (down_here old mid p k t (subst P y z ∙ same h l ∙ sym e))
          | inr d ↦ grows (to_at net.pairs k) (s.down i k (omega arith) t (z ∙ same i (omega arith)))
        ];
        up = λ i k r t w z. elim (cases_eq i h) [
          | inl y ↦
              let P : ℕ → Type 0 = λ j. to_at net.pairs k ≡ get_or new j 0 in
              up_here mid new q k t w (subst P y z ∙ same h l ∙ sym e)
          | inr d ↦ grows (from_at net.pairs k) (s.up i k (omega arith) t w (z ∙ same i (omega arith)))
        ];
        sound = λ c r x t.
            let here : c b ≡ true = ap c e ∙ s.sound c r (get_or old h 0) (holds_at old h l) in
            elim (q.only x t) [
              | inl a ↦ elim (p.only x a) [
                | inl o ↦ s.sound c r x o
                | inr o ↦ down_only c r here o.0 x o.1 o.3
              ]
              | inr a ↦ grind (arith, common_steps, passing_at, eqb-true)
            ];
      }

-- where all that is found was looked at
pub searched_reaches : (net : NetView) (flow : FlowView) (found : List ℕ) (h : ℕ) → Searched net flow found h
    → length found ≤ h → Reaches net flow (holds_of found)
searched_reaches net flow found h s l = grind (arith, common_steps, place_of)

-- the known blocks are such a set
all_reach : (net : NetView) (flow : FlowView) → All (IsKnown (length net.worths)) net.pairs
    → Reaches net flow (λ x. nat_lt x (length net.worths))
all_reach net flow h = grind (arith, common_steps)

-- a list of all that pass below n holds what passes
passing_holds : (e : ℕ → Bool) (n x : ℕ) → x < n → e x ≡ true → holds_of (numbers_passing e n) x ≡ true
passing_holds e n x l t = grind (
  arith,
  common_steps,
  (passing_here e x n l t),
  (holds_at (numbers_passing e n) (length (numbers_passing e x)) (passing_after e x n l t)),
  (passing_after e x n l t),
)

passing_held : (e : ℕ → Bool) (n x : ℕ) → holds_of (numbers_passing e n) x ≡ true → e x ≡ true
passing_held e n x t = grind (arith, common_steps, place_of, passing_at)

-- the search's end
pub reached : (net : NetView) (flow : FlowView) (found : List ℕ) (h n : ℕ) (pit : List ℕ) → n ≡ length net.worths
    → All (IsKnown (length net.worths)) net.pairs → Searched net flow found h → length found ≤ h
    → pit ≡ numbers_passing (holds_of found) n → IsReached net flow (holds_of pit)
reached net flow found h n pit e k s l q =
    let r = searched_reaches net flow found h s l in
    let e' = holds_of found in
    let known : (x : ℕ) → e' x ≡ true → x < n = λ x t. let z = ltb-true x (length net.worths)
    (s.sound _ (all_reach net flow k) x t) in omega (arith, z, e) in
    let P : List ℕ → Type 0 = λ xs. IsReached net flow (holds_of xs) in
    let known_to : (i : ℕ) → i < length net.pairs → (from_at net.pairs i < length net.worths)
    × (to_at net.pairs i < length net.worths) = λ i z. k i (0, 0) z in
    let all : IsReached net flow (holds_of (numbers_passing e' n)) = (
      record {
        begins = λ b z w. passing_holds e' n b (omega (arith, e)) (r.begins b z w);
        down = λ i z t. passing_holds e' n (to_at net.pairs i) (omega (arith, e, (known_to i z).1))
            (r.down i z (passing_held e' n (from_at net.pairs i) t));
        up = λ i z w t. passing_holds e' n (from_at net.pairs i) (omega (arith, e, (known_to i z).0))
            (r.up i z w (passing_held e' n (to_at net.pairs i) t));
      },
      λ c d x t. s.sound c d x (passing_held e' n x t),
    ) in
    subst P (sym q) all

-- a list of all that pass below n ascends, and is of numbers below n
pub ascends : (e : ℕ → Bool) (n : ℕ) (pit : List ℕ) → pit ≡ numbers_passing e n → IsAscending pit
ascends e n pit q = grind (arith, common_steps, passing_at, passing_grows)

pub passing_known : (e : ℕ → Bool) (n : ℕ) (pit : List ℕ) → pit ≡ numbers_passing e n → All (λ b. b < n) pit
passing_known e n pit q =
    let P : List ℕ → Type 0 = λ xs. All (λ b. b < n) xs in
    subst P (sym q) (λ k d l.
    let p = passing_at e n k l in
    let z : get_or (numbers_passing e n) k 0 ≡ get_or (numbers_passing e n) k d = get_or_default (numbers_passing e n)
    k 0 d l in
    omega (arith, p.below, z))
