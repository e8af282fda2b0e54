use Rattle.std.proofs.Common.{sym, ap, ◌∙◌, subst}
use Rattle.closure_net.specs.Network.{IsAscending}
use Rattle.check_pit.specs.PitLists.{PitListView}
use Rattle.check_pit.proofs.RoomSums.{blocks_open}
use Rattle.check_pit.proofs.pit_list.PitList.make_pit.Goals as goal

pub unreachable-requires : goal.unreachable-requires
unreachable-requires c =
    let not_made = ap (λ (v : PitListView). v.is_pit) c.self.view_is ∙ c.requires.open in
    let here = c.replace-blocks.ensures.value in
    c.in-None.ensures (subst IsAscending (sym (ap (λ (v : PitListView). v.blocks) c.self.view_is)
    ∙ blocks_open c.self.inside.blocks.items c.self.inside.pit not_made ∙ sym (ap (λ v. v.items) here))
    c.requires.ascending)
