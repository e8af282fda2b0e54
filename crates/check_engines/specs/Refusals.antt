-- Why the text of a certificate for a net doesn't prove its pit, where its header is right.
use Rattle.std.specs.Prelude.{◌≡◌, ℕ, ◌<◌, Bool, List, [], ◌∷◌, ◌++◌, length, None}
use Rattle.ordered_group.specs.declared.groups.Group.{Group}
use Rattle.prec_file.specs.Rests.{IsFirstNot}
use Rattle.closure_net.specs.Prelude.{NetView, FlowView, holds_of, IsBalancedAt, IsTight}
use Rattle.certificate_file.specs.declared.body_lines.BodyLine.{BodyLine}
use Rattle.check_pit.specs.declared.pit_fault.PitFault.{PitFault}
use Rattle.check_pit.specs.declared.pit_fault.PitFault.TheVariants.{WrongSize, NotClosed, Negative, OverCapacity}
use Rattle.check_pit.specs.declared.pit_fault.PitFault.TheVariants.{Unbalanced, NotTight, TooLarge}
use Rattle.certificate_file.specs.Certificate.{cert_fault_of, lines_of_text, pit_of}
use Rattle.check_pit.specs.Prelude.{IsFirstOpen, KeepLimits, flow_of, SomeLineSumOverflows, LineRefused, first_pits}
use Rattle.mine_inputs.specs.Limits.{IsWithinLimit}

-- the lines of the certificate's body: after its header, before END
abbrev pub lines_for : Bool → NetView → List ℕ → List BodyLine
lines_for counts net text = lines_of_text counts (length net.worths) text

-- the flow that these lines say
abbrev pub flow_for : Bool → NetView → List ℕ → FlowView
flow_for counts net text = flow_of (length net.worths) net.pairs (lines_for counts net text)

-- the lines of the certificate's body begin with these
abbrev pub TextBegins : Bool → NetView → List ℕ → List BodyLine → Type 0
TextBegins counts net text ls = (more : List BodyLine) × (lines_for counts net text ≡ ls ++ more)

-- a line of the certificate's body is refused after the lines before it, of which none has an amount that is negative
-- or too large
abbrev pub TextRefusesLine : Bool → NetView → List ℕ → PitFault → Type 0
TextRefusesLine counts net text e = (ls : List BodyLine) × (l : BodyLine) × TextBegins counts net text (ls ++ l ∷ [])
    × KeepLimits net.worths ls × LineRefused net ls l e

-- some first lines have a sum that doesn't fit: the balance of a block, the worth of the pit, or what the source could
-- still give
abbrev pub SomeSumLeaves : Bool → NetView → List ℕ → Type 0
SomeSumLeaves counts net text = (ls : List BodyLine) × TextBegins counts net text ls × SomeLineSumOverflows net ls

-- the text is read to its end without a fault
abbrev pub IsFaultless : Bool → Group → NetView → List ℕ → Type 0
IsFaultless counts name net text = IsWithinLimit text
    × (cert_fault_of counts name (length net.worths) net.pairs text ≡ None)

-- The pit that the PIT lines say with which the lines begin. A text without a fault has no others, since a PIT line
-- after another line is one.
pub record SaysPit (counts : Bool) (name : Group) (net : NetView) (text pit : List ℕ) : Type 0 where
  pub first : pit_of (first_pits (lines_for counts net text)) ≡ pit
  pub all : cert_fault_of counts name (length net.worths) net.pairs text ≡ None
      → pit_of (lines_for counts net text) ≡ pit

-- Each fault stands. An amount that is negative or too large is the first such one, and a sum that doesn't fit is one
-- over the lines so far; the pit of the PIT lines is open, whatever stands after them; the balances and the pit's
-- worth are told where the whole text is read.
abbrev pub TextRefused : Bool → Group → NetView → List ℕ → PitFault → Type 0
TextRefused counts name net text WrongSize = ⊥
TextRefused counts name net text (NotClosed b p) = (pit : List ℕ) × SaysPit counts name net text pit
    × IsFirstOpen net.pairs (holds_of pit) (b, p)
TextRefused counts name net text Negative = TextRefusesLine counts net text Negative
TextRefused counts name net text (OverCapacity b) = TextRefusesLine counts net text (OverCapacity b)
TextRefused counts name net text (Unbalanced b) = IsFaultless counts name net text
    × IsFirstNot (IsBalancedAt net (flow_for counts net text)) (length net.worths) b
TextRefused counts name net text NotTight =
    IsFaultless counts name net text × ((b : ℕ) → b < length net.worths → IsBalancedAt net (flow_for counts net text) b)
    × ¬ (IsTight net (flow_for counts net text) (holds_of (pit_of (lines_for counts net text))))
TextRefused counts name net text TooLarge = TextRefusesLine counts net text TooLarge
