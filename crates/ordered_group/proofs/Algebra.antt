use Rattle.std.proofs.Common.{◌⊎◌, inl, inr, arith}
use Rattle.std.proofs.lemmas.Int.{ints}
use Rattle.ordered_group.specs.Prelude.{Amount, AtMost, Amount_eq, IsOrderedGroup}
use Rattle.ordered_group.proofs.Order.{larger_is}

either_first : (x y : Amount) → AtMost x y ⊎ AtMost y x
either_first x y = elim (larger_is x y) [ inl h ↦ inl h.1 | inr h ↦ inr h.1 ]

pub ordered_group : IsOrderedGroup
ordered_group = record {
  commutative = λ x y. Amount_eq _ _ (omega (arith, ints)) (omega (arith, ints));
  associative = λ x y z. Amount_eq _ _ (omega (arith, ints)) (omega (arith, ints));
  zero_adds_nothing = λ x. Amount_eq _ _ (omega (arith, ints)) (omega (arith, ints));
  opposite = λ x. Amount_eq _ _ (omega (arith, ints)) (omega (arith, ints));
  difference = λ x y. Amount_eq _ _ (omega (arith, ints)) (omega (arith, ints));
  antisymmetric = λ x y h k. Amount_eq _ _ (omega (arith, ints, h, k)) (omega (arith, ints, h, k));
  transitive = λ x y z h k. record { worths = omega (arith, ints, h, k); counts = λ e. omega (arith, ints, h, k, e) };
  comparable = either_first;
  kept = λ x y z h. record { worths = omega (arith, ints, h); counts = λ e. omega (arith, ints, h, e) };
}
