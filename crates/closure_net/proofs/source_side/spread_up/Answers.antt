use Rattle.std.proofs.Common.{◌≡◌, ℕ, arith, ap, ◌∙◌, sym, get_or, subst}
use Rattle.prec_file.specs.Rests.{from_at, below_of}
use Rattle.closure_net.specs.Prelude.{Carries, SendsAt, sender_at}
use Rattle.closure_net.proofs.Holding.{apart}
use Rattle.closure_net.proofs.Spreads.{passed_add, passed_skip, passed_same, below_known}
use Rattle.closure_net.proofs.source_side.spread_up.Goals as goal
use Rattle.closure_net.proofs.source_side.spread_up.Goals.{then-carries, else-carries}

pub carries-requires-clause-known : goal.carries-requires-clause-known
carries-requires-clause-known g c =
    let known = below_known c.args.rests.now c.args.b c.loop-k.k-index c.below-k-items.result.now
    c.below-k-items.ensures (omega arith) in
    omega (arith, known, c.requires.fits)

pub pair-sender-requires : goal.pair-sender-requires
pair-sender-requires g c = below_known c.args.rests.now c.args.b c.loop-k.k-index c.below-k-items.result.now
    c.below-k-items.ensures (omega arith)

pub loop-k-preserved : goal.loop-k-preserved
loop-k-preserved g c =
    let fs = c.args.flow.now.rest in
    let ps = c.args.rests.now.pairs in
    let i = c.loop-k.k-index in
    let k = get_or c.below-k-items.result.now i 0 in
    let e : k ≡ get_or (below_of ps c.args.b) i 0 = ap (λ l. get_or l i 0) c.below-k-items.ensures in
    let P : ℕ → Type 0 = λ j. Carries fs j in
    let W = SendsAt ps fs c.args.b in
    elim c.if-carries.branch [
      | then-carries w ↦ record {
        blocks = ap (λ s. s.blocks) w.search-is ∙ w.add.ensures.0 ∙ c.loop-k.invariant.blocks;
        found = passed_add W (sender_at ps c.args.b) c.args.search.now.found c.loop-k.search.found
            c.if-carries.search.found i _ c.loop-k.invariant.found
            (subst P e (c.carries.ensures.0 w.if-carries.true))
            (ap (from_at ps) (sym e) ∙ sym (ap (λ (p : ℕ × ℕ). p.0) w.pair-sender.ensures))
            (ap (λ s. s.found) w.search-is ∙ w.add.ensures.1);
      }
      | else-carries w ↦ record {
        blocks = ap (λ s. s.blocks) w.search-is ∙ c.loop-k.invariant.blocks;
        found = passed_same W (sender_at ps c.args.b) c.args.search.now.found c.loop-k.search.found
            c.if-carries.search.found _ (ap (λ s. s.found) w.search-is)
            (passed_skip W (sender_at ps c.args.b) c.args.search.now.found c.loop-k.search.found i
            c.loop-k.invariant.found
            (λ n. apart _ w.if-carries.false (c.carries.ensures.1 (subst P (sym e) n))));
      }
    ]
