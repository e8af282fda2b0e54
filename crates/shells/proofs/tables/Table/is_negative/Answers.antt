use Rattle.fixed_worth.proofs.Common.{◌≡◌, ◌<◌, pos, length, rules, ◌∙◌, w64, to_z-of_z, get_or_default}
use mir.Val.{SFits}
use Rattle.shells.specs.Prices.{number_at}
use Rattle.shells.proofs.Greatest.{one_sign}
use Rattle.shells.proofs.tables.Table.is_negative.Goals as goal

pub returns-in-Plain : goal.returns-in-Plain
returns-in-Plain c =
    let fits : SFits w64 c.get.result = search rules in
    let l : c.args.b < length c.in-Plain.revenue.items = rw c.in-Plain.is at c.requires.block in
    let is : c.get.result ≡ number_at c.in-Plain.revenue.items c.args.b = c.get.ensures.value ∙ c.index.ensures
    ∙ get_or_default c.in-Plain.revenue.items c.args.b _ (pos 0) l in
    rw (c.in-Plain.is, to_z-of_z w64 c.get.result fits, is) (one_sign (number_at c.in-Plain.revenue.items c.args.b))

pub returns-in-Treated : goal.returns-in-Treated
returns-in-Treated c = rw c.in-Treated.is (rw c.deref.ensures.value at c.is_some_negative.ensures)
