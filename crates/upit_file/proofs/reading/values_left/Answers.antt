use Rattle.fixed_worth.proofs.Common.{◌≡◌, ℕ, ◌<◌, List, [], length, get_or, pos, None, subst}
use Rattle.fixed_worth.specs.Prelude.{numbered_lines}
use Rattle.upit_file.specs.Prelude.{before_end, first_upit_fault, value_among}
use Rattle.upit_file.proofs.reading.values_left.Goals as goal

pub returns-in-Some : goal.returns-in-Some
returns-in-Some g c =
    let n = c.args.n in
    let k = c.args.lines.now.number in
    let values = c.in-Some.values.items in
    let P : List (List ℕ) → Type 0 = λ texts. let left = before_end (numbered_lines k texts) in
    (first_upit_fault n [] left ≡ None) × (length values ≡ n)
    × ((b : ℕ) → b < n → get_or values b (pos 0) ≡ value_among left b) in
    subst P c.rest.ensures (c.in-Some.ensures k)
