-- What a check of a stream finds: the lines after the header say a pit and a flow, and the flow proves the pit.
use Rattle.std.specs.Prelude.{◌≡◌, ℕ, ◌+◌, ◌<◌, ◌≤◌, Bool, true, false, not, cond, List, [], ◌∷◌, ◌++◌, length, Option}
use Rattle.std.specs.Prelude.{Some, None}
use Rattle.std.specs.Io.KnownBytes.{Consumes, IsAtEnd}
use Rattle.ordered_group.specs.Prelude.{zero_amount, amount_at}
use Rattle.prec_file.specs.Prelude.{IsFirstNot, has_pair}
use Rattle.closure_net.specs.Prelude.{NetView, FlowView, holds_of, IsClosed, IsBalancedAt, IsTight}
use Rattle.certificate_file.specs.declared.cert_fault.CertFault.{CertFault}
use Rattle.certificate_file.specs.declared.cert_fault.CertFault.TheVariants as fault
use Rattle.check_pit.specs.declared.pit_fault.PitFault.{PitFault}
use Rattle.check_pit.specs.declared.pit_fault.PitFault.TheVariants.{WrongSize, NotClosed, Negative, OverCapacity}
use Rattle.check_pit.specs.declared.pit_fault.PitFault.TheVariants.{Unbalanced, NotTight, TooLarge}
use Rattle.check_pit.specs.declared.stream_fault.StreamFault.{StreamFault}
use Rattle.check_pit.specs.declared.stream_fault.StreamFault.TheVariants.{Device, InputTooLong, Cert}
use Rattle.check_pit.specs.declared.stream_fault.StreamFault.TheVariants as stream
use Rattle.fixed_worth.specs.declared.limits.TheConstants.{MOST_BYTES}
use Rattle.certificate_file.specs.declared.body_lines.LineKind.{LineKind}
use Rattle.certificate_file.specs.declared.body_lines.LineKind.TheVariants.{Pit}
use Rattle.certificate_file.specs.declared.body_lines.BodyLine.{BodyLine}
use Rattle.certificate_file.specs.Prelude.{pieces_of, body_fault, lines_of_pieces, DenotesFlow, UnlessCertMemory}
use Rattle.certificate_file.specs.Prelude.{pit_of}
use Rattle.check_pit.specs.Checks.{ProvesPit}
use Rattle.check_pit.specs.Closing.{IsFirstOpen}
use Rattle.check_pit.specs.LineSums.{KeepLimits, flow_of}
use Rattle.check_pit.specs.Rooms.{RoomView, AreSumsOf, LineRefused}
use Rattle.check_pit.specs.StreamView.{LineView}
use Rattle.check_pit.specs.TakenLines.{FaultIs}

-- the kind of the lines PIT
abbrev pub is_pit : LineKind → Bool
is_pit Pit = true
is_pit _ = false

-- a line other than PIT was read last
abbrev pub is_after_pits : Option BodyLine → Bool
is_after_pits None = false
is_after_pits (Some line) = not (is_pit line.kind)

-- the PIT lines with which some lines begin
abbrev pub first_pits : List BodyLine → List BodyLine
first_pits [] = []
first_pits (l ∷ ls) = cond (is_pit l.kind) (l ∷ first_pits ls) []

-- these bytes were read
pub record ReadsOn {R : Type 0} (remaining : R → Option (List ℕ)) (before later : LineView R) (bytes : List ℕ) : Type
    0 where
  pub given : Consumes (remaining before.from) (remaining later.from) bytes
  pub taken : later.taken ≡ before.taken + length bytes

-- what is wrong with the body of a certificate for a net, which is what stands after the header
abbrev pub fault_of_body : Bool → NetView → List ℕ → Option CertFault
fault_of_body counts net body = body_fault counts (length net.worths) (has_pair net.pairs) None 4 (pieces_of body)

-- its lines before END
abbrev pub lines_of_body : Bool → NetView → List ℕ → List BodyLine
lines_of_body counts net body = lines_of_pieces counts (length net.worths) (pieces_of body)

-- the flow that lines say
abbrev pub flow_by : NetView → List BodyLine → FlowView
flow_by net ls = flow_of (length net.worths) net.pairs ls

-- the lines of the body begin with these, whatever follows it
abbrev pub LinesBegin : Bool → NetView → List ℕ → List BodyLine → Type 0
LinesBegin counts net body ls = (future : List ℕ) → (more : List BodyLine)
    × (lines_of_body counts net (body ++ future) ≡ ls ++ more)

-- the device has no further byte, few enough were read, and the body has no fault
pub record IsWholeBody (left : Option (List ℕ)) (taken : ℕ) (counts : Bool) (net : NetView) (body : List ℕ) : Type 0
  where
    pub ends : IsAtEnd left
    pub few : taken ≤ MOST_BYTES
    pub none : fault_of_body counts net body ≡ None

-- a line of the body is refused after those before it, of which none has an amount that is negative or too large
abbrev pub RefusesSome : Bool → NetView → List ℕ → PitFault → Type 0
RefusesSome counts net body e = (ls : List BodyLine) × (l : BodyLine) × LinesBegin counts net body (ls ++ l ∷ [])
    × KeepLimits net.worths ls × LineRefused net ls l e

-- What the PIT lines say with which the body begins, whatever follows it; and no text without a fault has others.
pub record HasPit (counts : Bool) (net : NetView) (body pit : List ℕ) : Type 0 where
  pub first : (future : List ℕ) → pit_of (first_pits (lines_of_body counts net (body ++ future))) ≡ pit
  pub all : (future : List ℕ) → fault_of_body counts net (body ++ future) ≡ None
      → pit_of (lines_of_body counts net (body ++ future)) ≡ pit

-- Why a certificate doesn't prove its pit. An amount is negative or too large, the first such one, or a sum with it
-- doesn't fit; the pit of the PIT lines is not closed, whatever the other lines say; or all lines were read, and the
-- flow is not balanced, or the pit not tight by it.
abbrev pub BodyRefused : Option (List ℕ) → ℕ → Bool → NetView → List ℕ → PitFault → Type 0
BodyRefused left taken counts net body WrongSize = ⊥
BodyRefused left taken counts net body (NotClosed b p) = (pit : List ℕ) × HasPit counts net body pit
    × IsFirstOpen net.pairs (holds_of pit) (b, p)
BodyRefused left taken counts net body Negative = RefusesSome counts net body Negative
BodyRefused left taken counts net body (OverCapacity b) = RefusesSome counts net body (OverCapacity b)
BodyRefused left taken counts net body (Unbalanced b) = IsWholeBody left taken counts net body
    × IsFirstNot (IsBalancedAt net (flow_by net (lines_of_body counts net body))) (length net.worths) b
BodyRefused left taken counts net body NotTight =
    IsWholeBody left taken counts net body
    × ((b : ℕ) → b < length net.worths → IsBalancedAt net (flow_by net (lines_of_body counts net body)) b)
    × ¬ (IsTight net (flow_by net (lines_of_body counts net body)) (holds_of (pit_of (lines_of_body counts net body))))
BodyRefused left taken counts net body TooLarge = RefusesSome counts net body TooLarge

-- why a body was not accepted
abbrev pub BodyFails : Option (List ℕ) → ℕ → Bool → NetView → List ℕ → StreamFault → Type 0
BodyFails left taken counts net body e = FaultIs left taken
    (λ future x. UnlessCertMemory x (fault_of_body counts net (body ++ future) ≡ Some x))
    (BodyRefused left taken counts net body) e

-- the body is whole, and its flow proves this pit, which it says
pub record BodyProves (left : Option (List ℕ)) (taken : ℕ) (counts : Bool) (net : NetView) (body pit : List ℕ) : Type
    0 where
  pub whole : IsWholeBody left taken counts net body
  pub denotes : DenotesFlow (length net.worths) net.pairs (lines_of_body counts net body) pit
      (flow_by net (lines_of_body counts net body))
  pub proves : ProvesPit net (flow_by net (lines_of_body counts net body)) pit

-- the blocks of the room are a pit once a line other than PIT is read, and its sums are the same
pub record ClosesPit (net : NetView) (previous : Option BodyLine) (kind : LineKind) (before later : RoomView) : Type 0
  where
    pub sums : (ls : List BodyLine) → AreSumsOf net ls before → AreSumsOf net ls later
    pub blocks : later.blocks ≡ before.blocks
    pub made : later.is_pit ≡ cond (is_after_pits previous) true (not (is_pit kind))
    pub closed : is_after_pits previous ≡ false → is_pit kind ≡ false → IsClosed net.pairs (holds_of later.blocks)

-- the pit isn't closed, and after PIT lines alone a line of this kind, other than PIT, was read
abbrev pub IsOpenPit : NetView → Option BodyLine → LineKind → List ℕ → PitFault → Type 0
IsOpenPit net previous kind pit (NotClosed b p) = (is_after_pits previous ≡ false) × (is_pit kind ≡ false)
    × IsFirstOpen net.pairs (holds_of pit) (b, p)
IsOpenPit net previous kind pit _ = ⊥

-- each balance is zero
abbrev pub AreZero : NetView → RoomView → Type 0
AreZero net room = (b : ℕ) → b < length net.worths → amount_at room.balances b ≡ zero_amount

-- each balance is zero, and the pit is worth what the source could still give
pub record SumsSettle (net : NetView) (room : RoomView) : Type 0 where
  pub zero : AreZero net room
  pub tight : room.worth ≡ room.left

-- why the sums don't prove the pit: a balance is not zero, or the pit is worth something else
abbrev pub SumsFail : NetView → RoomView → PitFault → Type 0
SumsFail net room (Unbalanced b) = IsFirstNot (λ k. amount_at room.balances k ≡ zero_amount) (length net.worths) b
SumsFail net room NotTight = AreZero net room × ¬ (room.worth ≡ room.left)
SumsFail net room _ = ⊥

-- the text ends here, and few enough bytes were read
pub record IsDone {R : Type 0} (left : Option (List ℕ)) (s : LineView R) : Type 0 where
  pub ends : IsAtEnd left
  pub none : s.held ≡ []
  pub few : s.taken ≤ MOST_BYTES

-- why the pit isn't proved once END is read: a read failed; or more bytes were read than a stream may give; or
-- something stands after END; or the sums don't prove the pit
abbrev pub EndFails : {R : Type 0} → Option (List ℕ) → NetView → RoomView → LineView R → StreamFault → Type 0
EndFails left net room s Device = Unit {0}
EndFails left net room s InputTooLong = MOST_BYTES < s.taken
EndFails left net room s (Cert e) = (e ≡ fault.Text (s.number + 1)) × (0 < length s.held)
EndFails left net room s (stream.Pit e) = IsDone left s × SumsFail net room e
