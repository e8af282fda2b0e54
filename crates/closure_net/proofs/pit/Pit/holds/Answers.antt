use Rattle.fixed_worth.proofs.Common.{List, ℕ, subst, ap, ◌∙◌, IsBinarySearchResult, nat_cmp}
use Rattle.closure_net.specs.Network.{holds_of}
use Rattle.closure_net.proofs.Ascending.{found_is_held}
use Rattle.closure_net.proofs.pit.Pit.holds.Goals as goal

pub returns : goal.returns
returns c =
    let P : List ℕ → Type 0 = λ xs. IsBinarySearchResult (λ y. nat_cmp y c.args.b) xs c.binary_search.result in
    c.is_ok.ensures.value
    ∙ found_is_held c.self.inside.blocks.items c.args.b c.binary_search.result c.self.invariant
    (subst P c.deref.ensures.value c.binary_search.ensures.position)
    ∙ ap (λ xs. holds_of xs c.args.b) c.self.view_is
