use Rattle.fixed_worth.proofs.Common.{◌≡◌, ℕ, List, [], ◌∷◌, ◌++◌, length, ap, ◌∙◌, subst, decimal, OnOk, OnErr}
use Rattle.counted_devices.specs.Device.{SentOrHeld, ReceivedPrefix}
use Rattle.prec_file.specs.Written.{prec_line, spaced_numbers}
use Rattle.prec_file.proofs.writing.put_line.Goals as goal

-- the line of a block with these predecessors
abbrev line_of : ℕ → List ℕ → List ℕ
line_of b above = (decimal b ++ (32 ∷ decimal (length above))) ++ (spaced_numbers above ++ (10 ∷ []))

pub returns-clause-held : goal.returns-clause-held
returns-clause-held g c =
    let line : c.as_bytes.result.now ≡ prec_line c.args.predecessors.now.pairs c.args.block = c.as_bytes.ensures
    ∙ c.set.ensures ∙ ap (line_of c.args.block) c.above.ensures in
    subst (λ (t : List ℕ). OnOk c.put.result
    (SentOrHeld (g.W.Write.contents c.args.out.now) (g.W.Write.contents c.put.new.out) c.put.new.self
    (c.args.page.now ++ t))) line c.put.ensures.held

pub returns-clause-prefix : goal.returns-clause-prefix
returns-clause-prefix g c =
    let line : c.as_bytes.result.now ≡ prec_line c.args.predecessors.now.pairs c.args.block = c.as_bytes.ensures
    ∙ c.set.ensures ∙ ap (line_of c.args.block) c.above.ensures in
    subst (λ (t : List ℕ). OnErr c.put.result
    (ReceivedPrefix (g.W.Write.contents c.args.out.now) (g.W.Write.contents c.put.new.out)
    (c.args.page.now ++ t))) line c.put.ensures.prefix
