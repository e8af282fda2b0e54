use Rattle.fixed_worth.proofs.Common.{◌≡◌, ◌≤◌, ◌+◌, ◌<◌, ℕ, List, Result, false, length, get_or, slice_range}
use Rattle.fixed_worth.proofs.Common.{MatchResult, subst, ap, sym, ◌∙◌, IsBinarySearchResult, nat_cmp}
use Rattle.closure_net.specs.Prelude.{holds_of, StandsFrom, StandsBelow}
use Rattle.closure_net.proofs.Ascending.{found_in_part}
use Rattle.closure_net.proofs.pit.Pit.place_near.Goals as goal

pub returns-in-Err : goal.returns-in-Err
returns-in-Err c =
    let xs = c.self.inside.blocks.items in
    let b = c.args.b in
    let from = c.lowest_place-from.result in
    let to = c.highest_place-to.result in
    let low : StandsFrom xs b from = let P : List ℕ
    → Type 0 = λ ys. StandsFrom ys b from in subst P c.deref.ensures.value c.lowest_place-from.ensures.lowest in
    let high : StandsBelow xs b from to = let P : List ℕ
    → Type 0 = λ ys. StandsBelow ys b from to in subst P c.deref-2.ensures.value
    c.highest_place-to.ensures.highest in
    let end : to ≤ length xs = let P : List ℕ
    → Type 0 = λ ys. to ≤ length ys in subst P c.deref-2.ensures.value c.highest_place-to.ensures.inside.1 in
    let Q : List ℕ → Type 0 = λ ys. IsBinarySearchResult (λ y. nat_cmp y b) (slice_range ys from to)
    c.binary_search.result in
    let found = found_in_part xs b from to c.binary_search.result c.self.invariant c.highest_place-to.ensures.inside.0
    end low high (subst Q c.deref-3.ensures.value c.binary_search.ensures.position) in
    let R : Result ℕ ℕ → Type 0 = λ r. MatchResult r (λ i. (from + i < length xs) × (get_or xs (from + i) 0 ≡ b))
    (λ _. holds_of xs b ≡ false) in
    let none : holds_of xs b ≡ false = subst R c.in-Err.is found in
    sym (ap (λ ys. holds_of ys b) c.self.view_is) ∙ none
