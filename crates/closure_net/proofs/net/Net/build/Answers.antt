use Rattle.fixed_worth.proofs.Common.{arith, map, length, List, ap, subst, ◌≡◌, length-map, common_steps}
use Rattle.closure_net.specs.Prelude.{WorthsFit, IsNetParts}
use Rattle.closure_net.proofs.net.Net.build.Goals as goal
use Rattle.ordered_group.specs.Amount.{Amount}
use Rattle.prec_file.specs.Rests.{RestsView, IsRests}

-- pairs and as many worths, all of which fit, make a net
net_parts : (v : RestsView) (ws : List Amount) → v.blocks ≡ length ws → IsRests v → WorthsFit ws → IsNetParts v ws
net_parts v ws e r f = grind (arith, common_steps)

pub invariant_of-result : goal.invariant_of-result
invariant_of-result g c =
    let parts = g.G.OrderedGroup.parts_of in
    let P : List g.row.G.Denot → Type 0 = λ xs. WorthsFit (map parts xs) in
    net_parts c.args.rests (map parts c.args.worths.items)
    (omega (
      arith,
      c.len.ensures.is,
      c.if-len.false,
      c.len-2.ensures,
      c.deref.ensures.len,
      ap length
          c.deref.ensures.value,
      length-map c.args.worths.items parts,
    ))
    c.len.ensures.all (subst P c.deref.ensures.value c.if-not-worths_fit.ensures)
