use Rattle.fixed_worth.proofs.Common.{ℕ, List, [], ◌∷◌, ◌++◌, ap, subst, ◌∙◌, arith, codes, decimal, common_steps}
use Rattle.fixed_worth.proofs.Common.{on_ok_weaker, on_err_weaker, err_from_is_err_and}
use Rattle.fixed_worth.specs.Prelude.{with_line_feeds}
use Rattle.counted_devices.specs.Prelude.{SentOrHeld, ReceivedPrefix}
use Rattle.upit_file.proofs.LineFeeds.{held_lines, prefix_lines, prefix_before}
use Rattle.upit_file.proofs.writing.put_header.Goals as goal

-- The four lines.
abbrev name_line : List ℕ → List ℕ
name_line name = codes "NAME: " ++ name

abbrev type_line : List ℕ
type_line = codes "TYPE: UPIT"

abbrev count_line : List ℕ → List ℕ
count_line digits = codes "NBLOCKS: " ++ digits

abbrev last_line : List ℕ
last_line = codes "OBJECTIVE_FUNCTION:"

pub returns-in_err-put_line-clause-prefix : goal.returns-in_err-put_line-clause-prefix
returns-in_err-put_line-clause-prefix g c =
    rw (err_from_is_err_and c.from_residual.result c.from_residual.ensures.1).1
    (prefix_before _ _ _ (name_line c.args.name.now ∷ [])
    (type_line ∷ count_line (decimal c.args.n) ∷ last_line ∷ []) c.in_err-put_line.ensures.prefix)

pub returns-in_err-put_line-2-clause-prefix : goal.returns-in_err-put_line-2-clause-prefix
returns-in_err-put_line-2-clause-prefix g c =
    rw (err_from_is_err_and c.from_residual-in_err-put_line-2.result c.from_residual-in_err-put_line-2.ensures.1).1
    (prefix_before _ _ _ (name_line c.args.name.now ∷ type_line ∷ []) (count_line (decimal c.args.n) ∷ last_line ∷ [])
    (prefix_lines _ _ _ _ _ (name_line c.args.name.now ∷ []) (type_line ∷ []) c.in_ok-put_line.ensures.held
    c.in_err-put_line-2.ensures.prefix))

pub returns-in_err-put_line-3-clause-prefix : goal.returns-in_err-put_line-3-clause-prefix
returns-in_err-put_line-3-clause-prefix g c =
    let a = g.W.Write.contents c.args.out.now in
    let b = g.W.Write.contents c.put_line.new.out in
    let d = g.W.Write.contents c.put_line-2.new.out in
    let e = g.W.Write.contents c.put_line-3.new.out in
    let digits = c.as_bytes.ensures ∙ c.of-count.ensures.digits ∙ ap decimal c.from.ensures in
    let two : SentOrHeld a d c.put_line-2.new.page
    (c.args.page.now ++ with_line_feeds (name_line c.args.name.now ∷ type_line ∷ [])) = held_lines a b d
    c.args.page.now c.put_line.new.page c.put_line-2.new.page (name_line c.args.name.now ∷ [])
    (type_line ∷ []) c.in_ok-put_line.ensures.held c.in_ok-put_line-2.ensures.held in
    let third : ReceivedPrefix d e (c.put_line-2.new.page ++ with_line_feeds (count_line (decimal c.args.n) ∷ [])) =
    subst (λ (t : List ℕ). ReceivedPrefix d e (c.put_line-2.new.page ++ with_line_feeds (count_line t ∷ [])))
    digits c.in_err-put_line-3.ensures.prefix in
    let p = err_from_is_err_and c.from_residual-in_err-put_line-3.result c.from_residual-in_err-put_line-3.ensures.1 in
    rw p.1 (prefix_before a e c.args.page.now
    (name_line c.args.name.now ∷ type_line ∷ count_line (decimal c.args.n) ∷ []) (last_line ∷ [])
    (prefix_lines a d e c.args.page.now c.put_line-2.new.page (name_line c.args.name.now ∷ type_line ∷ [])
    (count_line (decimal c.args.n) ∷ []) two third))

pub returns : goal.returns
returns g c =
    let a = g.W.Write.contents c.args.out.now in
    let d = g.W.Write.contents c.put_line-2.new.out in
    let e = g.W.Write.contents c.put_line-3.new.out in
    let f = g.W.Write.contents c.put_line-4.new.out in
    let three = held_lines a d e c.args.page.now c.put_line-2.new.page c.put_line-3.new.page
    (name_line c.args.name.now ∷ type_line ∷ []) (count_line (decimal c.args.n) ∷ [])
    (held_lines a (g.W.Write.contents c.put_line.new.out) d c.args.page.now c.put_line.new.page c.put_line-2.new.page
    (name_line c.args.name.now ∷ []) (type_line ∷ []) c.in_ok-put_line.ensures.held c.in_ok-put_line-2.ensures.held)
    (subst (λ (t : List ℕ). SentOrHeld d e c.put_line-3.new.page
    (c.put_line-2.new.page ++ with_line_feeds (count_line t ∷ [])))
    (c.as_bytes.ensures ∙ c.of-count.ensures.digits ∙ ap decimal c.from.ensures) c.in_ok-put_line-3.ensures.held) in
    let all = name_line c.args.name.now ∷ type_line ∷ count_line (decimal c.args.n) ∷ [] in
    record {
      held = on_ok_weaker c.put_line-4.result
          (held_lines a e f c.args.page.now c.put_line-3.new.page c.put_line-4.new.page all (last_line ∷ []) three)
          c.put_line-4.ensures.held;
      kept = grind (arith, common_steps);
      prefix = on_err_weaker c.put_line-4.result
          (prefix_lines a e f c.args.page.now c.put_line-3.new.page all (last_line ∷ []) three)
          c.put_line-4.ensures.prefix;
      counted = grind (arith, common_steps);
    }
