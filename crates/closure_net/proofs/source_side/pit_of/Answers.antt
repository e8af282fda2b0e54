use Rattle.std.proofs.Common.{ℕ, ◌<◌, length, arith, ◌∙◌, subst, All, List}
use Rattle.prec_file.specs.Rests.{above_of, below_of, IsKnown}
use Rattle.closure_net.specs.Prelude.{holds_of, PassedPlaces, Always, above_at, sender_at, SendsAt}
use Rattle.closure_net.proofs.Reach.{searched_more, reached, ascends, passing_known}
use Rattle.closure_net.proofs.source_side.pit_of.Goals as goal

pub loop-head-preserved : goal.loop-head-preserved
loop-head-preserved g c =
    let b = c.at-b.result in
    let old = c.loop-head.search.found in
    let mid = c.spread_down.new.search.found in
    let new = c.spread_up.new.search.found in
    let P : List (ℕ × ℕ) → Type 0 = λ ps. PassedPlaces Always (above_at ps b) old mid (length (above_of ps b)) in
    let Q : List (ℕ × ℕ) → Type 0 = λ ps. PassedPlaces (SendsAt ps c.args.flow.now.rest b) (sender_at ps b) mid new
    (length (below_of ps b)) in
    record {
      blocks = c.spread_up.ensures.blocks ∙ c.spread_down.ensures.blocks ∙ c.loop-head.invariant.blocks;
      searched = searched_more c.args.net.now c.args.flow.now b old mid new c.loop-head.head
          c.loop-head.invariant.searched
          (omega (arith, c.len-in-loop-head.ensures.is)) c.at-b.ensures.is
          (subst P c.rests-rests.ensures.pairs c.spread_down.ensures.found)
          (subst Q c.rests-rests.ensures.pairs c.spread_up.ensures.found);
    }

pub from_ascending-requires : goal.from_ascending-requires
from_ascending-requires g c = ascends (holds_of c.loop-head.search.found) c.loop-head.search.blocks
    c.in_ok-blocks.blocks.items c.in_ok-blocks.ensures

pub returns-clause-reached : goal.returns-clause-reached
returns-clause-reached g c =
    let found = c.loop-head.search.found in
    let P : ℕ → Type 0 = λ n. All (IsKnown n) c.rests-rests.result.now.pairs in
    let Q : List (ℕ × ℕ) → Type 0 = λ ps. All (IsKnown (length c.args.net.now.worths)) ps in
    reached c.args.net.now c.args.flow.now found c.loop-head.head c.loop-head.search.blocks c.from_ascending.result
    c.loop-head.invariant.blocks
    (subst Q c.rests-rests.ensures.pairs (subst P c.rests-rests.ensures.blocks c.len.ensures.all.known))
    c.loop-head.invariant.searched
    (omega (arith, c.len-in-loop-head.ensures.is)) (c.from_ascending.ensures ∙ c.in_ok-blocks.ensures)

pub returns-clause-known : goal.returns-clause-known
returns-clause-known g c =
    let P : ℕ → Type 0 = λ n. All (λ b. b < n) c.from_ascending.result in
    subst P c.loop-head.invariant.blocks
    (passing_known (holds_of c.loop-head.search.found) c.loop-head.search.blocks c.from_ascending.result
    (c.from_ascending.ensures ∙ c.in_ok-blocks.ensures))
