use Rattle.prec_file.proofs.PartProgress.{text_read}
use Rattle.prec_file.proofs.part_reading.read_at_once.Goals as goal

pub returns-in-Ok : goal.returns-in-Ok
returns-in-Ok g c = rw c.in-Ok.ensures
    (text_read c.args.n c.in_ok-part.part.from c.args.text.now c.in_ok-part.part.rows c.in_ok-part.part.listed
    c.in_ok-part.ensures)
