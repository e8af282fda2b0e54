use Rattle.std.proofs.Common.{rules}
use Rattle.check_pit.proofs.RoomLines.{sink_put}
use Rattle.check_pit.proofs.room.Room.put_sink.Goals as goal

pub returns-clause-puts : goal.returns-clause-puts
returns-clause-puts g c = sink_put _ _ _ _ _ _ c.requires.kind c.requires.may.block c.requires.may.fits.size
    c.in_ok-amount.ensures.0 (c.in_ok-amount.ensures.1, search rules) c.take.ensures
