use Rattle.fixed_worth.proofs.Common.{◌≡◌, ℕ, List, [], ◌∷◌, ◌++◌, length, ap, ap₂, subst, ◌∙◌, arith, codes}
use Rattle.fixed_worth.proofs.Common.{common_steps, on_ok_weaker, on_err_weaker, err_from_is_err_and}
use Rattle.fixed_worth.specs.Prelude.{with_line_feeds}
use Rattle.counted_devices.specs.Prelude.{SentOrHeld, ReceivedPrefix}
use Rattle.counted_devices.proofs.Pieces.{held_sent, held_prefix}
use Rattle.upit_file.specs.Writing.{header_lines, record_lines}
use Rattle.upit_file.proofs.LineFeeds.{two_groups, prefix_one, prefix_two, prefix_three, all_groups}
use Rattle.upit_file.proofs.writing.write_upit.Goals as goal

-- What the page holds with the header's lines.
header_so : (page name given : List ℕ) (n m : ℕ) → page ≡ [] → name ≡ given → n ≡ m
    → page ++ with_line_feeds (header_lines name n) ≡ with_line_feeds (header_lines given m)
header_so page name given n m e f h = ap (λ t. t ++ with_line_feeds (header_lines name n)) e
    ∙ ap₂ (λ a b. with_line_feeds (header_lines a b)) f h

pub returns-in_err-put_header-clause-prefix : goal.returns-in_err-put_header-clause-prefix
returns-in_err-put_header-clause-prefix g c =
    let u = c.args.upit.now in
    let a = g.W.Write.contents c.args.out.now in
    let b = g.W.Write.contents c.put_header.new.out in
    let so = header_so c.new-page.result c.name.result.now u.name c.len.result (length u.values) c.new-page.ensures
    c.name.ensures.value c.len.ensures.value in
    let p = err_from_is_err_and c.from_residual.result c.from_residual.ensures.1 in
    rw p.1 (prefix_one a b (header_lines u.name (length u.values)) (record_lines 0 u.values) (codes "EOF" ∷ [])
    (subst (ReceivedPrefix a b) so c.in_err-put_header.ensures.prefix))

pub returns-in_err-put_records-clause-prefix : goal.returns-in_err-put_records-clause-prefix
returns-in_err-put_records-clause-prefix g c =
    let u = c.args.upit.now in
    let a = g.W.Write.contents c.args.out.now in
    let b = g.W.Write.contents c.put_header.new.out in
    let d = g.W.Write.contents c.put_records.new.out in
    let so = header_so c.new-page.result c.name.result.now u.name c.len.result (length u.values) c.new-page.ensures
    c.name.ensures.value c.len.ensures.value in
    let one = subst (SentOrHeld a b c.put_header.new.page) so c.in_ok-put_header.ensures.held in
    let more : ReceivedPrefix b d (c.put_header.new.page ++ with_line_feeds (record_lines 0 u.values)) = subst
    (λ vs. ReceivedPrefix b d (c.put_header.new.page ++ with_line_feeds (record_lines 0 vs))) c.values.ensures
    c.in_err-put_records.ensures.prefix in
    let p = err_from_is_err_and c.from_residual-in_err-put_records.result
    c.from_residual-in_err-put_records.ensures.1 in
    rw p.1 (prefix_two a b d c.put_header.new.page (header_lines u.name (length u.values)) (record_lines 0 u.values)
    (codes "EOF" ∷ []) one more)

pub returns-in_err-put_line-clause-prefix : goal.returns-in_err-put_line-clause-prefix
returns-in_err-put_line-clause-prefix g c =
    let u = c.args.upit.now in
    let a = g.W.Write.contents c.args.out.now in
    let b = g.W.Write.contents c.put_header.new.out in
    let d = g.W.Write.contents c.put_records.new.out in
    let e = g.W.Write.contents c.put_line.new.out in
    let so = header_so c.new-page.result c.name.result.now u.name c.len.result (length u.values) c.new-page.ensures
    c.name.ensures.value c.len.ensures.value in
    let one = subst (SentOrHeld a b c.put_header.new.page) so c.in_ok-put_header.ensures.held in
    let more : SentOrHeld b d c.put_records.new.page
    (c.put_header.new.page ++ with_line_feeds (record_lines 0 u.values)) = subst
    (λ vs. SentOrHeld b d c.put_records.new.page (c.put_header.new.page ++ with_line_feeds (record_lines 0 vs)))
    c.values.ensures c.in_ok-put_records.ensures.held in
    let two = two_groups a b d c.put_header.new.page c.put_records.new.page (header_lines u.name (length u.values))
    (record_lines 0 u.values) one more in
    let p = err_from_is_err_and c.from_residual-in_err-put_line.result c.from_residual-in_err-put_line.ensures.1 in
    rw p.1 (prefix_three a d e c.put_records.new.page (header_lines u.name (length u.values))
    (record_lines 0 u.values) (codes "EOF" ∷ []) two c.in_err-put_line.ensures.prefix)

pub returns : goal.returns
returns g c =
    let u = c.args.upit.now in
    let a = g.W.Write.contents c.args.out.now in
    let b = g.W.Write.contents c.put_header.new.out in
    let d = g.W.Write.contents c.put_records.new.out in
    let e = g.W.Write.contents c.put_line.new.out in
    let f = g.W.Write.contents c.finish.new.out in
    let so = header_so c.new-page.result c.name.result.now u.name c.len.result (length u.values) c.new-page.ensures
    c.name.ensures.value c.len.ensures.value in
    let one = subst (SentOrHeld a b c.put_header.new.page) so c.in_ok-put_header.ensures.held in
    let more : SentOrHeld b d c.put_records.new.page
    (c.put_header.new.page ++ with_line_feeds (record_lines 0 u.values)) = subst
    (λ vs. SentOrHeld b d c.put_records.new.page (c.put_header.new.page ++ with_line_feeds (record_lines 0 vs)))
    c.values.ensures c.in_ok-put_records.ensures.held in
    let two = two_groups a b d c.put_header.new.page c.put_records.new.page (header_lines u.name (length u.values))
    (record_lines 0 u.values) one more in
    let all = all_groups a d e c.put_records.new.page c.put_line.new.page (header_lines u.name (length u.values))
    (record_lines 0 u.values) (codes "EOF" ∷ []) two c.in_ok-put_line.ensures.held in
    record {
      sent = on_ok_weaker c.finish.result (held_sent a e f c.put_line.new.page _ all) c.finish.ensures.sent;
      kept = grind (arith, common_steps);
      prefix = on_err_weaker c.finish.result (held_prefix a e f c.put_line.new.page _ all) c.finish.ensures.prefix;
      counted = grind (arith, common_steps);
    }
