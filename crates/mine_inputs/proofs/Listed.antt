-- The pairs of a text, as a list in order and as a test.
use Rattle.fixed_worth.proofs.Common.{◌≡◌, ◌↔◌, ℕ, Bool, true, false, not, ◌==◌, List, get_or, refl, IsTrue, arith}
use Rattle.fixed_worth.proofs.Common.{list_any, Contains, and_parts, and_from, eq-eqb, ne_eqb, get_or_default}
use Rattle.fixed_worth.proofs.Common.{Any-from_list_any, list_any_at, common_steps}
use Rattle.prec_file.specs.Rests.{ArePairsOf, AreApart}
use Rattle.prec_file.proofs.Pairs.{is_pair, tells_pair, pair_told}
use Rattle.prec_file.proofs.OneListing.{one_listing}
use Rattle.mine_inputs.specs.Prelude.{ArePairsBy, rests_by}

pub is_listed : (listed : List (ℕ × ℕ)) (b p : ℕ) → Contains listed (b, p) → list_any (is_pair b p) listed ≡ true
is_listed listed b p c = list_any_at (is_pair b p) listed c.0 (b, p) c.1 (tells_pair b p (get_or listed c.0 (b, p)) c.2)

pub where_listed : (listed : List (ℕ × ℕ)) (b p : ℕ) → list_any (is_pair b p) listed ≡ true → Contains listed (b, p)
where_listed listed b p h = grind (arith, common_steps, Any-from_list_any, is_pair, get_or_default, pair_told)

apart : (b p : ℕ) → (b ≡ p → ⊥) → not (b == p) ≡ true
apart b p h = rw (ne_eqb b p h) refl

differ : (b p : ℕ) → not (b == p) ≡ true → b ≡ p → ⊥
differ b p h e = let t : not (b == p) ≡ false = rw (eq-eqb b p e) refl in cc

-- the pairs in order are those that the test has
pub listed_rests : (listed ps : List (ℕ × ℕ)) → ArePairsOf listed ps → (b p : ℕ)
    → Contains ps (b, p) ↔ IsTrue (rests_by listed b p)
listed_rests listed ps a b p = (
  λ c. let o = a.only (b, p) c in and_from _ _ (apart b p o.1) (is_listed listed b p o.0),
  λ h. let t = and_parts _ _ h in a.held (b, p) (where_listed listed b p t.1) (differ b p t.0),
)

pub by_listed : (listed ps : List (ℕ × ℕ)) → ArePairsOf listed ps → ArePairsBy (rests_by listed) ps
by_listed listed ps a = record { rising = a.rising; same = listed_rests listed ps a }

-- one test has one list of pairs
pub pairs_same : (rests : ℕ → ℕ → Bool) (x y : List (ℕ × ℕ)) → AreApart x → ArePairsBy rests x → ArePairsBy rests y
    → x ≡ y
pairs_same rests x y apart a b =
    let there : (q : ℕ × ℕ) → Contains x q → Contains y q = λ q c. (b.same q.0 q.1).1 ((a.same q.0 q.1).0 c) in
    let back : (q : ℕ × ℕ) → Contains y q → Contains x q = λ q c. (a.same q.0 q.1).1 ((b.same q.0 q.1).0 c) in
    one_listing x x y
    (record { rising = a.rising; held = λ q c ne. c; only = λ q c. (c, apart q c) })
    (record { rising = b.rising; held = λ q c ne. there q c; only = λ q c. (back q c, apart q (back q c)) })
