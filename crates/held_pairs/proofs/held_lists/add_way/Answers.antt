use Rattle.fixed_worth.proofs.Common.{ℕ, ◌+◌, List, sym, ◌∙◌, subst}
use Rattle.held_pairs.specs.HeldLists.{AddsWays}
use Rattle.held_pairs.proofs.HeldLists.{adds_pair, adds_nothing}
use Rattle.held_pairs.proofs.held_lists.add_way.Goals as goal

pub returns-in_ok-add-in-Some-clause-added : goal.returns-in_ok-add-in-Some-clause-added
returns-in_ok-add-in-Some-clause-added g c = λ old a.
    let v = g.P.Precedence.shown c.args.held.now in
    let P : List (ℕ × ℕ) → Type 0 = λ xs. AddsWays v c.args.b (c.args.way + 1) old xs in
    subst P (sym c.in_ok-add-in-Some.ensures.added)
    (adds_pair v c.args.b c.args.way c.in-Some.p old c.args.pairs.now.items a (sym c.way.ensures ∙ c.in-Some.is))

pub returns-in-None-clause-added : goal.returns-in-None-clause-added
returns-in-None-clause-added g c = λ old a.
    let v = g.P.Precedence.shown c.args.held.now in
    adds_nothing v c.args.b c.args.way old c.args.pairs.now.items a (sym c.way.ensures ∙ c.in-None.is)
