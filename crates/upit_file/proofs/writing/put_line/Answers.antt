use Rattle.std.proofs.lemmas.Result.{on_ok_weaker, on_err_weaker}
use Rattle.counted_devices.proofs.Pieces.{held_both, prefix_in_second}
use Rattle.upit_file.proofs.writing.put_line.Goals as goal

pub returns-clause-held : goal.returns-clause-held
returns-clause-held g c = on_ok_weaker _ (held_both _ _ _ _ _ _ _ _ c.in_ok-put_two.ensures.held) c.put.ensures.held

pub returns-clause-prefix : goal.returns-clause-prefix
returns-clause-prefix g c = on_err_weaker _ (prefix_in_second _ _ _ _ _ _ _ c.in_ok-put_two.ensures.held)
    c.put.ensures.prefix
