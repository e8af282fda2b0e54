use Rattle.check_pit.proofs.HeldBytes.{passed}
use Rattle.check_pit.proofs.stream_bytes.StreamBytes.pass.Goals as goal

pub returns : goal.returns
returns c = passed c.self.inside.buffer.items c.args.self.now c.self.inside.start c.self.inside.end c.args.count
    c.self.view_is c.requires
