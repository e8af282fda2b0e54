use Prim.Native.Nat.{◌+◌, ◌*◌}
use Rattle.prec_file.proofs.part_reading.+halves.Given as goal

abbrev pub decreases-read_parts : goal.decreases-read_parts
decreases-read_parts g l = 2 * l.parts

abbrev pub decreases-read_front : goal.decreases-read_front
decreases-read_front g l = 2 * l.low + 1

abbrev pub decreases-read_back : goal.decreases-read_back
decreases-read_back g l = 2 * l.high + 1
