use Rattle.std.proofs.Common.{ℕ, List, All, sym, subst}
use Rattle.prec_file.specs.Rests.{IsKnown, AreApart}
use Rattle.prec_file.proofs.listed_pairs.ListedPairs.into_predecessors.Goals as goal

pub of_pairs-requires-clause-known : goal.of_pairs-requires-clause-known
of_pairs-requires-clause-known c =
    let P : List (ℕ × ℕ) → Type 0 = λ ps. All (IsKnown c.self.inside.blocks) ps in
    subst P (sym c.deref.ensures.value) (c.sorted_apart-pairs.ensures.known c.self.inside.blocks c.self.invariant.2)

pub of_pairs-requires-clause-apart : goal.of_pairs-requires-clause-apart
of_pairs-requires-clause-apart c = subst AreApart (sym c.deref.ensures.value) c.sorted_apart-pairs.ensures.apart
