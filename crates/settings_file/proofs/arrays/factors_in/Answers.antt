use Rattle.fixed_worth.proofs.Common.{◌≡◌, ◌≤◌, length, true, rules, ℕ, zero, suc, ◌+◌, ◌<◌, List, [], ◌∷◌, get_or}
use Rattle.fixed_worth.proofs.Common.{subst, arith, ltb, All, IsStrictlyIncreasing, and_parts, ltb-true}
use Rattle.fixed_worth.proofs.Common.{AllPairs-from_increasing}
use Rattle.fixed_worth.specs.declared.limits.TheConstants.{MOST_FACTOR, MOST_FACTORS}
use Rattle.settings_file.specs.Values.{are_ascending, AreFactors}
use Rattle.settings_file.proofs.arrays.factors_in.Goals as goal

increasing : (ns : List ℕ) → are_ascending ns ≡ true → IsStrictlyIncreasing ns
unfolding are_ascending
increasing [] h k within = absurd (omega arith)
increasing (a ∷ []) h k within = absurd (omega arith)
increasing (a ∷ b ∷ ns) h zero within = ltb-true a b (and_parts (ltb a b) (are_ascending (b ∷ ns)) h).0
increasing (a ∷ b ∷ ns) h (suc k) within =
    let rest = increasing (b ∷ ns) (and_parts (ltb a b) (are_ascending (b ∷ ns)) h).1 k (omega arith) in
    let e : suc (k + 1) ≡ suc k + 1 = omega arith in
    subst (λ n. get_or (b ∷ ns) k 0 < get_or (a ∷ b ∷ ns) n 0) e rest

are_factors : (ns : List ℕ) → 1 ≤ length ns → length ns ≤ MOST_FACTORS → are_ascending ns ≡ true
    → All (λ n. n ≤ MOST_FACTOR) ns → AreFactors ns
are_factors ns some few up bounded = record {
  some = some;
  few = few;
  ascending = λ i j below within. AllPairs-from_increasing ns (increasing ns up) i j 0
      below within;
  bounded = bounded;
}

pub returns-then-is_ascending-clause-form : goal.returns-then-is_ascending-clause-form
returns-then-is_ascending-clause-form c =
    let ns = c.in-Some-2.numbers.items in
    let some : 1 ≤ length ns = search (rules, c.len.ensures, c.if-len-ge1.true) in
    let few : length ns ≤ 64 = search (rules, c.len-then-len-ge1.ensures, c.if-len-le-MOST_FACTORS.true) in
    let up : are_ascending ns ≡ true = search
    (rules, c.is_ascending.ensures, c.as_slice.ensures.value, c.if-is_ascending.true) in
    let bounded : All (λ n. n ≤ MOST_FACTOR) ns = search
    (rules, c.in_ok-numbers-in-Some.ensures.bound, c.in-Some-2.is) in
    are_factors ns some few up bounded
