use Rattle.fixed_worth.proofs.Common.{arith, on_ok_weaker, on_err_weaker, common_steps}
use Rattle.counted_devices.proofs.Pieces.{none_held, prefix_of_second}
use Rattle.counted_devices.proofs.pages.Page.put.Goals as goal

pub returns-then-piece-gt-ROOM-clause-held : goal.returns-then-piece-gt-ROOM-clause-held
returns-then-piece-gt-ROOM-clause-held g c = grind (arith, common_steps, on_ok_weaker, none_held)

pub returns-then-piece-gt-ROOM-clause-prefix : goal.returns-then-piece-gt-ROOM-clause-prefix
returns-then-piece-gt-ROOM-clause-prefix g c =
    on_err_weaker c.write_text.result
    (prefix_of_second _ (g.W.Write.contents c.finish.new.out) _ _ _ c.in_ok-finish.ensures.sent)
    c.write_text.ensures.prefix
