use Rattle.std.proofs.Common.{◌≡◌, ℕ, ◌≤◌, ◌<◌, List, length, All, arith, subst, sym, ap, rules}
use Rattle.closure_net.specs.Network.{NetView, IsAscending}
use Rattle.check_engines.proofs.Counted.{ascending_short}
use Rattle.check_engines.proofs.certificate_judge.size_and_worth.Goals as goal

few : (xs ys : List ℕ) (n : ℕ) → xs ≡ ys → IsAscending xs → All (λ b. b < n) ys → length xs ≤ n
few xs ys n e a h = let P : List ℕ → Type 0 = λ zs. All (λ b. b < n) zs in ascending_short xs n a (subst P (sym e) h)

pub overflow_cast-count : goal.overflow_cast-count
overflow_cast-count g c =
    let most = few c.pit.result.now c.args.accepted.now.pit (length c.args.accepted.now.net.worths) c.pit.ensures.is
    c.blocks-blocks.ensures.ascending c.pit.ensures.of_net in
    omega (
      arith,
      most,
      ap length c.blocks-blocks.ensures.is,
      c.len-size.ensures,
      ap
          (λ (n : NetView). length n.worths) c.graph.ensures.is,
      c.len-size.type_inv,
    )

pub unreachable-requires : goal.unreachable-requires
unreachable-requires g c =
    let law = (g.met.G.OrderedGroup g.world.𝓛 g.world.𝓜 g.world.𝓡
    ((λ s x. x), (λ x. x), (λ x. x), λ x. x)).worth_fits in
    let most = few c.pit.result.now c.args.accepted.now.pit (length c.args.accepted.now.net.worths) c.pit.ensures.is
    c.blocks-blocks.ensures.ascending c.pit.ensures.of_net in
    c.in-None.ensures (law _ c.len-size.result (length c.blocks-blocks.result.now) (search rules)
    (omega (
      arith,
      most,
      ap length c.blocks-blocks.ensures.is,
      c.len-size.ensures,
      ap
          (λ (n : NetView). length n.worths) c.graph.ensures.is,
    )))
