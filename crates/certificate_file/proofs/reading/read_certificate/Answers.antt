use Rattle.std.proofs.Common.{◌≡◌, ℕ, List, drop, Some, Ok, sym, ap, ◌∙◌, subst}
use Rattle.closure_net.specs.Network.{FlowView}
use Rattle.certificate_file.specs.declared.header.Wanted.{Wanted}
use Rattle.certificate_file.specs.Prelude.{Piece, header_for, Covers, IsRead}
use Rattle.certificate_file.proofs.Wants.{header_wanted}
use Rattle.certificate_file.proofs.Whole.{IsEmpty, none_ascends, all_read}
use Rattle.certificate_file.proofs.reading.read_certificate.Goals as goal

pub read_body-requires-after_bounds : goal.read_body-requires-after_bounds
read_body-requires-after_bounds g c = λ lives held.
    let w : Wanted = record { blocks = c.len.result; group = c.group.result } in
    let q = header_wanted w c.new-pieces.result.pieces c.in_ok-header.header c.in_ok-header.ensures.0 in
    subst (λ (m : ℕ). Covers c.args.rests.now.blocks m c.in-Ok.parts.flow) c.pairs.ensures
    (subst (λ (n : ℕ). Covers n c.pairs.result c.in-Ok.parts.flow) (q.0 ∙ c.len.ensures.is) c.in-Ok.ensures.covers)

pub unreachable-requires : goal.unreachable-requires
unreachable-requires g c =
    c.in-None.ensures (none_ascends g.G.OrderedGroup.counts c.args.rests.now.blocks c.args.rests.now.pairs
    c.read_header.new.pieces c.in-Ok.parts c.read_body.new.parts c.in-Ok.ensures.empty c.in_ok-read_body.ensures.0
    c.in_ok-read_body.ensures.2)

pub returns-clause-read : goal.returns-clause-read
returns-clause-read g c =
    let counts = g.G.OrderedGroup.counts in
    let name = g.G.OrderedGroup.name in
    let n = c.args.rests.now.blocks in
    let pairs = c.args.rests.now.pairs in
    let text = c.args.text.now in
    let w : Wanted = record { blocks = c.len.result; group = c.group.result } in
    let r = c.in_ok-read_body.ensures in
    let h = c.in_ok-header.ensures in
    let e = c.new-pieces.ensures.pieces in
    let made = c.in-Ok.ensures in
    let empty : IsEmpty c.in-Ok.parts = record
    { pit = made.empty; source = made.source; rest = made.rest; sink = made.sink } in
    let q = all_read counts name n pairs text w c.in_ok-header.header c.read_header.new.pieces c.in-Ok.parts
    c.read_body.new.parts c.len.ensures.is c.group.ensures
    (subst (λ (ps : List Piece). header_for (Some w) ps ≡ Ok c.in_ok-header.header) e h.0) (h.1 ∙ ap (drop 4) e) h.2
    empty c.len.ensures.all r.0 r.1 r.2 in (
      q.0,
      subst (λ (f : FlowView). IsRead counts name n pairs text c.in_ok-header.header.blocks
          c.in_ok-header.header.price c.in-Some.pit f) (sym c.in-Some.ensures.1)
          (subst (λ (bs : List ℕ). IsRead counts name n pairs text c.in_ok-header.header.blocks
          c.in_ok-header.header.price bs c.read_body.new.parts.flow) (sym c.in-Some.ensures.0) q.1),
    )
