use Rattle.std.proofs.Common.{eqb, length, ap, ◌∙◌}
use Rattle.certificate_file.specs.Pieces.{Unread}
use Rattle.certificate_file.proofs.Splits.{none_left}
use Rattle.certificate_file.proofs.piece_reader.Pieces.is_done.Goals as goal

pub returns : goal.returns
returns c = c.is_empty.ensures ∙ none_left c.self.inside.rest.now
    ∙ ap (λ (v : Unread). eqb (length v.pieces) 0) c.self.view_is
