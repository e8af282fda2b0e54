-- The ways of a list of pairs.
use Rattle.fixed_worth.proofs.Common.{refl, Option, None, MatchOption, is_some, false_from_ne_true, ◌≡◌, ℕ, ◌<◌, ◌+◌}
use Rattle.fixed_worth.proofs.Common.{◌≤◌, ◌==◌, ◌∙◌, get_or_default, List, IsTrue, Some, Contains, length, get_or, sym}
use Rattle.fixed_worth.proofs.Common.{subst, ap, arith, All-contains, Contains-get_or, get_or_from_slice_get}
use Rattle.fixed_worth.proofs.Common.{slice_get-get_or, length-map}
use Rattle.prec_file.specs.Rests.{RestsView, IsRests, IsKnown, has_pair, from_at, to_at, numbers, above_of, first_of}
use Rattle.prec_file.specs.declared.limits.TheConstants.{MOST_PAIRS}
use Rattle.prec_file.proofs.Finding.{above_at, above_has}
use Rattle.prec_file.proofs.Passing.{passing_most}
use Rattle.prec_file.proofs.Pairs.{rests_of_pair, pair_of_rests}
use Rattle.places.specs.Prelude.{ArePairs, IsPrecedence, WayLeads, listed}

-- a block has few ways
pub few_ways : (r : RestsView) → length r.pairs ≤ MOST_PAIRS → (b : ℕ) → length (above_of r.pairs b) ≤ MOST_PAIRS
few_ways r most b = omega (
  arith,
  most,
  length-map (numbers (from_at r.pairs) b (length r.pairs)) (to_at r.pairs),
  passing_most
      (λ k. from_at r.pairs k == b) (length r.pairs),
)

-- a way leads to a block of a pair
listed_sound : (r : RestsView) → IsRests r → (b p k : ℕ) → WayLeads (listed r) b p k → IsTrue (has_pair r.pairs b p)
listed_sound r h b p k l =
    let at = above_at r.pairs h.rising b k l.inside in
    let is = get_or_from_slice_get (above_of r.pairs b) k p 0 l.there in
    let held = Contains-get_or r.pairs (first_of r.pairs b + k) (0, 0) at.0 in
    rests_of_pair r.pairs b p (subst (λ q. Contains r.pairs (b, q)) is (subst (Contains r.pairs) at.1 held))

-- a pair has its way
listed_found : (r : RestsView) → (b p : ℕ) → IsTrue (has_pair r.pairs b p) → (k : ℕ) × WayLeads (listed r) b p k
listed_found r b p held =
    let c = pair_of_rests r.pairs b p held in
    let e : get_or r.pairs c.0 (0, 0) ≡ (b, p) = get_or_default r.pairs c.0 (0, 0) (b, p) c.1 ∙ c.2 in
    let h = above_has r.pairs b c.0 c.1 (ap (λ (x : ℕ × ℕ). x.0) e) in
    let k = length (numbers (from_at r.pairs) b c.0) in (
      k,
      record {
        inside = h.0;
        there = slice_get-get_or (above_of r.pairs b) k 0 h.0
            ∙ ap Some (h.1 ∙ ap (λ (x : ℕ × ℕ). x.1) e);
      },
    )

-- both blocks are known
listed_known : (r : RestsView) → IsRests r → (b p : ℕ) → IsTrue (has_pair r.pairs b p) → (b < r.blocks) × (p < r.blocks)
listed_known r h b p held = All-contains (IsKnown r.blocks) r.pairs (b, p) h.known (pair_of_rests r.pairs b p held)

pub listed_is : (r : RestsView) → IsRests r → IsPrecedence (listed r)
listed_is r h = record {
  few = h.blocks;
  sound = λ b p k known l. listed_sound r h b p k l;
  found = listed_found r;
  known = listed_known r h;
  apart = λ b t. h.apart (b, b) (pair_of_rests r.pairs b b t) refl;
}

-- what a search for a pair tells
pub pair_found : (pairs : List (ℕ × ℕ)) (b p : ℕ) (found : Option ℕ)
    → MatchOption found (¬ (Contains pairs (b, p))) (λ k. (k < length pairs) × (get_or pairs k (0, 0) ≡ (b, p)))
    → is_some found ≡ has_pair pairs b p
pair_found pairs b p None none = sym (false_from_ne_true (has_pair pairs b p) (λ t. none (pair_of_rests pairs b p t)))
pair_found pairs b p (Some k) at = sym
    (rests_of_pair pairs b p (subst (Contains pairs) at.1 (Contains-get_or pairs k (0, 0) at.0)))

-- the pairs of a list are pairs of a precedence
pub pairs_listed : (r : RestsView) → IsRests r → ArePairs r
pairs_listed r h = record { blocks = h.blocks; known = h.known; rising = h.rising; apart = h.apart }
