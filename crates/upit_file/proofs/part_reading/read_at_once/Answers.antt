use Rattle.fixed_worth.specs.Prelude.{lines_of}
use Rattle.upit_file.proofs.PartProgress.{text_read}
use Rattle.upit_file.proofs.part_reading.read_at_once.Goals as goal

pub returns : goal.returns
returns g c = λ k. text_read c.args.n k (lines_of c.args.text.now) c.in_ok-part.part.values.items
    c.fill.new.values.items c.in_ok-part.part.ended c.in_ok-part.ensures c.in_ok-fill.ensures
