-- What contracts see of a certificate that a device gives.
use Rattle.std.specs.Prelude.{◌≡◌, ℕ, Bool, false, Option, Some, None}
use Rattle.ordered_group.specs.declared.groups.Group.{Group}
use Rattle.certificate_file.specs.declared.header.Header.{Header}
use Rattle.check_pit.specs.declared.stream_fault.StreamFault.{StreamFault}
use Rattle.check_pit.specs.StreamView.{LineView}

-- its lines; its header, once it was read; the fault that was answered; and whether its pit was accepted
pub record CertView (R : Type 0) : Type 0 where
  pub lines : LineView R
  pub header : Option Header
  pub fault : Option StreamFault
  pub is_done : Bool

-- until a fault is answered or the pit accepted, as many lines were passed as the header has, or none before it
abbrev pub StandsAt : Option Header → Option StreamFault → Bool → ℕ → Type 0
StandsAt None None is_done number = (is_done ≡ false) × (number ≡ 0)
StandsAt (Some h) None false number = number ≡ 4
StandsAt _ _ _ number = Unit {0}

-- a header was read, which names so many blocks and this group; or a fault was answered
abbrev pub IsReadFor : ℕ → Group → Option Header → Option StreamFault → Type 0
IsReadFor n name header (Some e) = Unit {0}
IsReadFor n name None None = ⊥
IsReadFor n name (Some h) None = (h.blocks ≡ n) × (h.group ≡ name)
