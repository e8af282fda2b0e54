use Rattle.std.proofs.Common.{refl}
use Rattle.upit_file.proofs.HeaderLines.{begins}
use Rattle.upit_file.proofs.header.read_header.Goals as goal

pub loop-text-init : goal.loop-text-init
loop-text-init c = record { going = begins _ c.args.wanted c.args.lines.now c.requires refl; bound = tt }
