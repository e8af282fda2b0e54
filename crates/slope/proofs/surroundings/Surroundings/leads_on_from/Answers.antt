use Rattle.fixed_worth.proofs.Common.{◌≡◌, ◌↔◌, IsTrue, Contains, List, [], sym, subst, ◌∙◌, get_or_default}
use Rattle.slope_offsets.specs.Prelude.{Offset, offset_at, rest_after}
use Rattle.slope.specs.Prelude.{SurroundingsView, owns, own_by}
use Rattle.slope.proofs.surroundings.Surroundings.leads_on_from.Goals as goal

pub returns : goal.returns
returns c =
    let ps = c.self.inside.ground.now.patterns.items in
    let mine : c.wide-wide.result.now ≡ own_by c.self.inside.ground.now.by_column ps c.self.inside.model.now
    c.args.block =
    c.wide-wide.ensures.is ∙ c.index.ensures ∙ get_or_default ps c.region-region.result c.index.result.now
    [] c.region-region.ensures.inside ∙ sym c.region-region.ensures.own in
    let os = c.self.inside.offsets.now in
    let R : List Offset → Type 0 = λ xs. IsTrue c.leads_on_at.result ↔ Contains xs
    (rest_after (offset_at os c.args.a) (offset_at os c.args.i)) in
    let S : SurroundingsView → Type 0 = λ v. IsTrue c.leads_on_at.result ↔ Contains (owns v c.args.block)
    (rest_after (offset_at v.offsets c.args.a) (offset_at v.offsets c.args.i)) in
    subst S c.self.view_is (subst R mine c.leads_on_at.ensures)
