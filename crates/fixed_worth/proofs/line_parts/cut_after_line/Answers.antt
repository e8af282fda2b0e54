use Rattle.fixed_worth.proofs.Common.{◌≡◌, ◌+◌, ◌==◌, ◌++◌, Some, position, sym, ap, ◌∙◌}
use Rattle.fixed_worth.specs.Text.{lines_of}
use Rattle.fixed_worth.proofs.LineParts.{cut_at_feed, feed_found}
use Rattle.fixed_worth.proofs.line_parts.cut_after_line.Goals as goal

pub returns-in-Some-clause-lines : goal.returns-in-Some-clause-lines
returns-in-Some-clause-lines c =
    let text = c.args.text.now in
    let place = c.min-place.result in
    let found : position (λ b. b == 10) c.split_at.result.1.now ≡ Some c.in-Some.end = sym c.first_line_feed.ensures
    ∙ c.in-Some.is in
    let feed = feed_found text place c.in-Some.end (ap (position (λ b. b == 10)) (sym c.split_at.ensures.back)
    ∙ found) in
    cut_at_feed text (place + c.in-Some.end) feed.0 feed.1
    ∙ (λ i. lines_of (sym c.split_at-in-Some.ensures.front i) ++ lines_of (sym c.split_at-in-Some.ensures.back i))
