use Rattle.std.proofs.Common.{◌↔◌, IsTrue, Contains, subst}
use Rattle.slope_offsets.specs.Offsets.{Offset}
use Rattle.slope_offsets.proofs.OffsetFinding.{found_decides}
use Rattle.slope_offsets.proofs.two_steps.leads_on.Goals as goal

pub returns : goal.returns
returns c =
    let P : Offset → Type 0 = λ t. IsTrue c.is_ok.result ↔ Contains c.args.wide.now t in
    subst P c.rest_offset-left.ensures
    (found_decides c.args.wide.now c.rest_offset-left.result c.binary_search.result c.is_ok.result
    c.binary_search.ensures.bound c.binary_search.ensures.position c.requires c.is_ok.ensures.value)
