-- No fault but TooLarge holds of a proved pit.
use Rattle.check_pit.specs.Tightness.{RefusedForSizeOnly}
use Rattle.check_pit.proofs.Verdicts.{proved_holds}

pub refused_for_size_only : RefusedForSizeOnly
refused_for_size_only = proved_holds
