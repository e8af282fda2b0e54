use Rattle.fixed_worth.proofs.Common.{ℕ, All, refl, sym, ap, ◌∙◌, subst}
use Rattle.prec_file.specs.Rests.{RestsView, IsKnown, ArePairsOf, has_pair}
use Rattle.places.specs.Holders.{lent}
use Rattle.held_pairs.proofs.HeldLists.{all_known, in_order}
use Rattle.held_pairs.proofs.held_lists.list_of.Goals as goal

pub of-requires-clause-known : goal.of-requires-clause-known
of-requires-clause-known c =
    let v = lent c.as_ref-held.result in
    let P : ℕ → Type 0 = λ n. All (IsKnown n) c.in_ok-listed.listed.items in
    subst P (sym c.blocks-blocks.ensures.size)
    (all_known v v.blocks c.in_ok-listed.listed.items c.len-ways.ensures.all c.in_ok-listed.ensures.pairs)

pub returns : goal.returns
returns c =
    let v = lent c.as_ref-held.result in
    let whole = c.args.pairs.now in
    let made = c.in_ok-list.list in
    let blocks = c.in_ok-list.ensures.0 ∙ ap (λ (r : RestsView). r.blocks) c.of.ensures ∙ c.blocks-blocks.ensures.is
    ∙ ap (λ (r : RestsView). r.blocks) c.as_ref-held.ensures in
    let listed = subst (λ (r : RestsView). ArePairsOf r.pairs made.pairs) c.of.ensures c.in_ok-list.ensures.1 in
    let pairs = in_order v v.blocks c.in_ok-listed.listed.items made.pairs whole c.len-ways.ensures.all
    c.in_ok-listed.ensures.pairs refl (λ b p. c.blocks-blocks.ensures.same b p
    ∙ ap (λ (r : RestsView). has_pair r.pairs b p) c.as_ref-held.ensures) c.len-pairs.ensures.all listed in
    λ i. record { blocks = blocks i; pairs = pairs i }
