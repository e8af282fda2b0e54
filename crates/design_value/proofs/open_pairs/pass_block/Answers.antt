use Rattle.fixed_worth.proofs.Common.{◌≡◌, ℕ, ◌+◌, ◌++◌, ◌∙◌, false, All, List, length, sym, ap, subst, arith, add-one}
use Rattle.prec_file.specs.Rests.{IsKnown}
use Rattle.places.specs.Prelude.{block_pairs, pairs_below}
use Rattle.design_value.specs.Prelude.{AreOpen, leads_out, marked_in}
use Rattle.design_value.proofs.Leading.{stays_row}
use Rattle.design_value.proofs.BlockPairs.{of_row, row_known, row_most}
use Rattle.design_value.proofs.open_pairs.pass_block.Goals as goal

pub returns-then-not-leads_from : goal.returns-then-not-leads_from
returns-then-not-leads_from g c =
    let v = g.P.Precedence.shown c.args.held.now in
    let b = c.args.b in
    let design = marked_in c.args.marks.now in
    rw (add-one b) (stays_row design (pairs_below v.rests v.blocks b) (block_pairs v.rests v.blocks b) _ _
    (λ q k. let o = of_row v.rests v.blocks b q k in subst (λ (x : ℕ). leads_out design (x, q.1) ≡ false)
    (sym o.block) (c.leads_from.ensures c.if-not-leads_from.true q.1 o.passes))
    c.requires.before)

pub pass_row-requires-clause-known : goal.pass_row-requires-clause-known
pass_row-requires-clause-known g c =
    let v = g.P.Precedence.shown c.args.held.now in
    let e = c.as_slice.ensures.value ∙ c.in_ok-row.ensures in
    subst (λ (n : ℕ). All (IsKnown n) c.as_slice.result.now) (sym c.requires.all)
    (subst (All (IsKnown v.blocks)) (sym e) (row_known v.rests v.blocks c.args.b c.requires.known))

pub pass_row-requires-clause-room : goal.pass_row-requires-clause-room
pass_row-requires-clause-room g c =
    let v = g.P.Precedence.shown c.args.held.now in
    let e = c.as_slice.ensures.value ∙ c.in_ok-row.ensures in
    omega (
      arith,
      c.requires.few,
      ap (λ (xs : List (ℕ × ℕ)). length xs) e,
      row_most v.rests v.blocks c.args.b,
      c.len-blocks.ensures.all.few,
    )

pub returns : goal.returns
returns g c =
    let v = g.P.Precedence.shown c.args.held.now in
    let b = c.args.b in
    let e = c.as_slice.ensures.value ∙ c.in_ok-row.ensures in
    let before = pairs_below v.rests v.blocks b in
    rw (add-one b) (subst (λ (xs : List (ℕ × ℕ)). AreOpen (marked_in c.args.marks.now)
    (before ++ xs) c.pass_row.new.leading.count c.pass_row.new.leading.first.items) e
    (c.in_ok-pass_row.ensures before c.requires.before))
