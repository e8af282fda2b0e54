use Rattle.std.proofs.Common.{rules, ◌≡◌, ◌∙◌, map, ap, sym, subst}
use Rattle.closure_net.specs.Network.{NetView, net_view}
use Rattle.machine_law.specs.Conservation.{all_given}
use Rattle.word_runner.specs.CutNets.{scaled_parts, AreCut, AreWithin, net_with_worths}
use Rattle.word_runner.proofs.Cuts.{cuts_from, cut_gives, cut_within, cut_builds}
use Rattle.word_runner.proofs.clipped_worths.cut_net.Goals as goal

pub returns : goal.returns
returns c =
    let net = c.args.net.now in
    let k = c.args.most in
    let ws = map scaled_parts c.in_ok-worths.worths.items in
    let cuts : AreCut net k ws = search rules in
    let pairs : c.in_ok-rests.rests.pairs ≡ net.pairs = search rules in
    let is : c.in-Ok.cut ≡ net_with_worths net ws = c.in-Ok.ensures.0 ∙ ap (λ ps. net_view ps ws) pairs in (
      record { worths = ws; is = is; cuts = cuts_from net k ws cuts c.requires.0 },
      subst (λ (n : NetView). AreWithin n k) (sym is) (cut_within net k ws cuts),
      ap (λ (n : NetView). all_given n) is ∙ cut_gives net ws (cuts_from net k ws cuts c.requires.0) ∙ c.requires.0,
    )

pub unreachable-requires : goal.unreachable-requires
unreachable-requires c =
    let net = c.args.net.now in
    let ws = map scaled_parts c.in_ok-worths.worths.items in
    let cuts : AreCut net c.args.most ws = search rules in
    cut_builds net c.args.most ws _ _ c.requires.1 c.worths-net.ensures.net cuts (search rules) c.in-Err.ensures
