use Rattle.fixed_worth.proofs.Common.{◌≡◌, ℕ, List, ◌++◌, [], ap, sym, subst, ◌∙◌, arith, common_steps, on_ok_weaker}
use Rattle.fixed_worth.proofs.Common.{on_err_weaker}
use Rattle.counted_devices.specs.Device.{ReceivedPrefix, SentOrHeld}
use Rattle.counted_devices.proofs.Pieces.{prefix_of_first, prefix_in_second}
use Rattle.ordered_group.specs.declared.groups.Group.{Group}
use Rattle.certificate_file.specs.declared.header.Price.{Price}
use Rattle.certificate_file.specs.Prelude.{lines_text, header_words, header_with, body_text, value_lines, end_text}
use Rattle.certificate_file.specs.Prelude.{text_of, IsCertReadBack}
use Rattle.certificate_file.proofs.Puts.{both_sent, last_failed}
use Rattle.certificate_file.proofs.Whole.{read_back}
use Rattle.certificate_file.proofs.writing.write_certificate.Goals as goal
use Rattle.fixed_worth.proofs.Results.{on_err, on_ok}

-- What is put first is the header.
first_is : (page bytes made : List ℕ) (n : ℕ) (price : Price) (given name : Group) → page ≡ [] → bytes ≡ made
    → made ≡ lines_text (header_words (header_with n price given)) → given ≡ name
    → page ++ bytes ≡ lines_text (header_words (header_with n price name))
first_is page bytes made n price given name e f g h = ap (λ (t : List ℕ). t ++ bytes) e ∙ f ∙ g
    ∙ ap (λ (x : Group). lines_text (header_words (header_with n price x))) h

pub returns-in_err-put-clause-prefix : goal.returns-in_err-put-clause-prefix
returns-in_err-put-clause-prefix g c =
    let a = g.W.Write.contents c.args.out.now in
    let b = g.W.Write.contents c.put.new.out in
    let v = c.args.certificate.now in
    let name = g.G.OrderedGroup.name in
    let head = lines_text (header_words (header_with v.blocks v.price name)) in
    let rest = body_text (value_lines c.args.rests.now.pairs v.pit v.flow) ++ end_text in
    let is = first_is c.new-page.result c.as_bytes.result.now c.written_header.result v.blocks v.price c.group.result
    name c.new-page.ensures c.as_bytes.ensures c.written_header.ensures c.group.ensures in
    on_err c.from_residual.result
    (prefix_of_first a b head rest (subst (ReceivedPrefix a b) is c.in_err-put.ensures.prefix))

pub returns-in_err-put_body-clause-prefix : goal.returns-in_err-put_body-clause-prefix
returns-in_err-put_body-clause-prefix g c =
    let a = g.W.Write.contents c.args.out.now in
    let b = g.W.Write.contents c.put.new.out in
    let d = g.W.Write.contents c.put_body.new.out in
    let v = c.args.certificate.now in
    let name = g.G.OrderedGroup.name in
    let head = lines_text (header_words (header_with v.blocks v.price name)) in
    let rest = body_text (value_lines c.args.rests.now.pairs v.pit v.flow) ++ end_text in
    let is = first_is c.new-page.result c.as_bytes.result.now c.written_header.result v.blocks v.price c.group.result
    name c.new-page.ensures c.as_bytes.ensures c.written_header.ensures c.group.ensures in
    on_err c.from_residual-in_err-put_body.result
    (prefix_in_second a b d [] c.put.new.self head rest
    (subst (SentOrHeld a b c.put.new.self) is c.in_ok-put.ensures.held) c.in_err-put_body.ensures.prefix)

pub returns : goal.returns
returns g c =
    let a = g.W.Write.contents c.args.out.now in
    let b = g.W.Write.contents c.put.new.out in
    let d = g.W.Write.contents c.put_body.new.out in
    let e = g.W.Write.contents c.finish.new.out in
    let v = c.args.certificate.now in
    let r = c.args.rests.now in
    let counts = g.G.OrderedGroup.counts in
    let name = g.G.OrderedGroup.name in
    let head = lines_text (header_words (header_with v.blocks v.price name)) in
    let rest = body_text (value_lines r.pairs v.pit v.flow) ++ end_text in
    let is = first_is c.new-page.result c.as_bytes.result.now c.written_header.result v.blocks v.price c.group.result
    name c.new-page.ensures c.as_bytes.ensures c.written_header.ensures c.group.ensures in
    let one = subst (SentOrHeld a b c.put.new.self) is c.in_ok-put.ensures.held in
    record {
      sent = on_ok_weaker c.finish.result
          (both_sent a b d e c.put.new.self c.put_body.new.page head rest one c.in_ok-put_body.ensures.held)
          c.finish.ensures.sent;
      read_back = on_ok c.finish.result
          (λ same price known. subst
          (λ (n : ℕ). IsCertReadBack counts name r.blocks r.pairs
          (text_of (header_with n v.price name) r.pairs v.pit v.flow) v.price v.pit v.flow) (sym same)
          (read_back counts name r.blocks r.pairs v.price v.pit v.flow c.len-blocks.ensures.all price
          c.blocks-pit.ensures.ascending known c.requires.covers c.in_ok-put_body.ensures.writable));
      kept = grind (arith, common_steps);
      prefix = on_err_weaker c.finish.result
          (last_failed a b d e c.put.new.self c.put_body.new.page head rest one c.in_ok-put_body.ensures.held)
          c.finish.ensures.prefix;
      counted = grind (arith, common_steps);
    }
