-- From what a stream of a certificate came to, to what is answered of its text.
use Rattle.fixed_worth.proofs.Common.{◌≡◌, ℕ, ◌+◌, ◌<◌, ℤ, Bool, List, [], ◌∷◌, ◌++◌, length, drop, Option, Some, None}
use Rattle.fixed_worth.proofs.Common.{Ok, refl, sym, ap, ◌∙◌, subst, arith, append-nil, append_assoc, All}
use Rattle.fixed_worth.proofs.Common.{length-append, Consumes, IsAtEnd}
use Rattle.ordered_group.specs.Amount.{Amount}
use Rattle.ordered_group.specs.declared.groups.Group.{Group}
use Rattle.prec_file.specs.Prelude.{IsFirstNot, has_pair}
use Rattle.closure_net.specs.Prelude.{NetView, IsNet, IsAscending, holds_of, IsBalancedAt, IsTight, IsNetOf}
use Rattle.certificate_file.specs.declared.cert_fault.CertFault.{CertFault}
use Rattle.certificate_file.specs.declared.cert_fault.CertFault.TheVariants as cert
use Rattle.certificate_file.specs.declared.header.Price.{Price}
use Rattle.certificate_file.specs.declared.body_lines.BodyLine.{BodyLine}
use Rattle.check_pit.specs.declared.pit_fault.PitFault.{PitFault}
use Rattle.check_pit.specs.declared.pit_fault.PitFault.TheVariants.{WrongSize, NotClosed, Unbalanced, NotTight}
use Rattle.check_pit.specs.declared.stream_fault.StreamFault.{StreamFault}
use Rattle.check_pit.specs.declared.stream_fault.StreamFault.TheVariants as stream
use Rattle.certificate_file.specs.Prelude.{pieces_of, body_fault, lines_of_pieces, DenotesFlow, UnlessCertMemory}
use Rattle.certificate_file.specs.Prelude.{cert_fault_after, cert_fault_of, pit_of, wanted_for, header_for}
use Rattle.check_pit.specs.Prelude.{flow_of, ProvesPit, LineView, first_pits, ReadsOn, fault_of_body, lines_of_body}
use Rattle.check_pit.specs.Prelude.{IsWholeBody, BodyRefused, BodyFails, BodyProves}
use Rattle.check_pit.specs.StreamChecks as checks
use Rattle.certificate_file.proofs.NamedHeaders.{header_named}
use Rattle.certificate_file.proofs.Order.{stands_in_order, ascending, known}
use Rattle.certificate_file.proofs.Whole.{spelled}
use Rattle.mine_inputs.specs.Prelude.{IsWithinLimit, IsTooLong, MineTexts, DenoteMine, mine_of, price_wanted}
use Rattle.engine_faults.specs.Prelude.{of_certificate}
use Rattle.check_engines.specs.Prelude.{IsHeader, IsGroupNamed, TextBegins, lines_for, flow_for, TextRefused, Fails}
use Rattle.check_engines.specs.Prelude.{CertificateRefused, Judges, StandsAfter, of_stream}
use Rattle.check_engines.proofs.Judged.{HasRead, text_fails}
use Rattle.check_engines.proofs.HeaderAnswers.{consumed}

-- The text of a certificate whose header was read. What was read after it is the body so far; and so many bytes are
-- left.
pub record IsSplit (name : Group) (net : NetView) (text body left : List ℕ) (price : Price) (taken : ℕ) : Type 0 where
  pub header : header_for (wanted_for (length net.worths) name) (pieces_of text)
      ≡ Ok (record { blocks = length net.worths; price = price; group = name })
  pub after : drop 4 (pieces_of text) ≡ pieces_of (body ++ left)
  pub size : taken + length left ≡ length text

module _ (name : Group) (counts : Bool) (net : NetView) (text body left : List ℕ) (price : Price) (taken : ℕ)
    (s : IsSplit name net text body left price taken) where
  text_fault : cert_fault_of counts name (length net.worths) net.pairs text ≡ fault_of_body counts net (body ++ left)
  text_fault = ap (cert_fault_after counts (length net.worths) net.pairs (drop 4 (pieces_of text))) s.header
      ∙ ap (body_fault counts (length net.worths) (has_pair net.pairs) None 4) s.after

  text_lines : lines_for counts net text ≡ lines_of_body counts net (body ++ left)
  text_lines = ap (lines_of_pieces counts (length net.worths)) s.after

  begins : (ls : List BodyLine) → checks.LinesBegin counts net body ls → TextBegins counts net text ls
  begins ls b = ((b left).0, text_lines ∙ (b left).1)

  ended : IsAtEnd (Some left) → body ++ left ≡ body
  ended e = ap (λ (l : List ℕ). body ++ l) e ∙ append-nil body

  whole_lines : IsAtEnd (Some left) → lines_of_body counts net body ≡ lines_for counts net text
  whole_lines e = sym (text_lines ∙ ap (lines_of_body counts net) (ended e))

  within : IsWholeBody (Some left) taken counts net body → IsWithinLimit text
  within w = let few = w.few in let all = s.size in let none = ap length w.ends in omega (arith, few, all, none)

  no_fault : IsWholeBody (Some left) taken counts net body
      → cert_fault_of counts name (length net.worths) net.pairs text ≡ None
  no_fault w = text_fault ∙ ap (fault_of_body counts net) (ended w.ends) ∙ w.none

  pub refusal : (e : PitFault) → BodyRefused (Some left) taken counts net body e → TextRefused counts name net text e
  refusal WrongSize h = h
  refusal (NotClosed b p) h =
      let pit = h.1 in (
        h.0,
        record {
          first = ap (λ (ls : List BodyLine). pit_of (first_pits ls)) text_lines
              ∙ pit.first left;
          all = λ f. ap pit_of text_lines ∙ pit.all left (sym text_fault ∙ f);
        },
        h.2,
      )
  refusal (Unbalanced b) h =
      let P : List BodyLine → Type 0 = λ ls. IsFirstNot (IsBalancedAt net (flow_of (length net.worths) net.pairs ls))
      (length net.worths) b in
      ((within h.0, no_fault h.0), subst P (whole_lines h.0.ends) h.1)
  refusal NotTight h =
      let P : List BodyLine → Type 0 = λ ls. ((b : ℕ) → b < length net.worths
      → IsBalancedAt net (flow_of (length net.worths) net.pairs ls) b)
      × ¬ (IsTight net (flow_of (length net.worths) net.pairs ls) (holds_of (pit_of ls))) in
      let told = subst P (whole_lines h.0.ends) (h.1, h.2) in
      ((within h.0, no_fault h.0), told.0, told.1)
  refusal e h = (h.0, h.1, begins (h.0 ++ h.1 ∷ []) h.2, h.3, h.4)

  -- a fault that stands whatever follows stands in the text
  text_has : (e : CertFault)
      → ((future : List ℕ) → UnlessCertMemory e (fault_of_body counts net (body ++ future) ≡ Some e))
      → UnlessCertMemory e (cert_fault_of counts name (length net.worths) net.pairs text ≡ Some e)
  text_has cert.NoMemory h = tt
  text_has e h = text_fault ∙ h left

  cut_off : IsAtEnd (Some left) → fault_of_body counts net (body ++ []) ≡ Some cert.Truncated
      → cert_fault_of counts name (length net.worths) net.pairs text ≡ Some cert.Truncated
  cut_off e h = text_fault ∙ ap (λ (l : List ℕ). fault_of_body counts net (body ++ l)) e ∙ h

  -- a text that was read to its end without a fault
  pub has_read : (block : ℤ → ℕ → Amount) (texts : MineTexts) (pit : List ℕ) → DenoteMine texts (length net.worths)
      → IsGroupNamed name block counts → IsHeader texts text (length net.worths) name → IsNet net
      → IsNetOf block (mine_of (length net.worths) texts) net
      → BodyProves (Some left) taken counts net body pit
      → HasRead name block counts texts text net pit (flow_for counts net text)
  has_read block texts pit mine named header is_net of_mine b =
      let n = length net.worths in
      let has : ℕ → ℕ → Bool = has_pair net.pairs in
      let D : List BodyLine → Type 0 = λ ls. DenotesFlow n net.pairs ls pit (flow_of n net.pairs ls) in
      let denotes = subst D (whole_lines b.whole.ends) b.denotes in
      let none = no_fault b.whole in
      let fine : body_fault counts n has None 4 (drop 4 (pieces_of text)) ≡ None = sym
      (ap (cert_fault_after counts n net.pairs (drop 4 (pieces_of text))) s.header) ∙ none in
      let order = stands_in_order counts n has None 4 (drop 4 (pieces_of text)) fine in
      let ls = lines_of_pieces counts n (drop 4 (pieces_of text)) in
      let rises = subst IsAscending (sym denotes.pit) (ascending counts n has None ls order) in
      let below = subst (λ (l : List ℕ). All (λ b. b < n) l) (sym denotes.pit) (known counts n has None ls order) in
      record {
        mine = mine;
        named = named;
        header = header;
        is_net = is_net;
        of_mine = of_mine;
        no_fault = none;
        blocks = n;
        price = price;
        read = record {
          header = s.header;
          same_blocks = refl;
          denotes = denotes;
          ascending = rises;
          known = below;
          spelled = spelled counts name n net.pairs text price pit (flow_for counts net text) is_net.rests s.header 4
              fine denotes rises below;
        };
      }

  pub proved : (pit : List ℕ) → BodyProves (Some left) taken counts net body pit
      → ProvesPit net (flow_for counts net text) pit
  proved pit b = let P : List BodyLine → Type 0 = λ ls. ProvesPit net (flow_of (length net.worths) net.pairs ls)
      pit in subst P (whole_lines b.whole.ends) b.proves

  pub not_long : (pit : List ℕ) → BodyProves (Some left) taken counts net body pit → IsWithinLimit text
  not_long pit b = within b.whole

-- What is known of the net of a mine, and of the header of a certificate for it.
pub record IsAsked (name : Group) (block : ℤ → ℕ → Amount) (counts : Bool) (texts : MineTexts) (text : List ℕ)
    (net : NetView) : Type 0 where
  pub mine : DenoteMine texts (length net.worths)
  pub named : IsGroupNamed name block counts
  pub header : IsHeader texts text (length net.worths) name
  pub is_net : IsNet net
  pub of_mine : IsNetOf block (mine_of (length net.worths) texts) net

module _ (name : Group) (block : ℤ → ℕ → Amount) (counts : Bool) (texts : MineTexts) (text : List ℕ) (net : NetView)
    (a : IsAsked name block counts texts text net) where
  module _ (body left : List ℕ) (price : Price) (taken : ℕ) (s : IsSplit name net text body left price taken) where
    refused : (e : PitFault) → BodyRefused (Some left) taken counts net body e → CertificateRefused texts text e
    refused e h = record {
      blocks = length net.worths;
      mine = a.mine;
      group = name;
      header = a.header;
      net = net;
      is_net = a.is_net;
      of_mine = let P : (ℤ → ℕ → Amount) → Type 0 = λ f. IsNetOf f (mine_of (length net.worths) texts) net in subst P
          (sym a.named.block_is) a.of_mine;
      stands = let P : Bool → Type 0 = λ c. TextRefused c name net text e in subst P (sym a.named.counts_is)
          (refusal name counts net text body left price taken s e h);
    }

    failed : (e : CertFault)
        → UnlessCertMemory e (cert_fault_of counts name (length net.worths) net.pairs text ≡ Some e)
        → Fails texts text (of_certificate e)
    failed e f = text_fails name block counts texts text net e a.mine a.named a.header a.is_net a.of_mine f

    wrong : (e : CertFault) → ((future : List ℕ)
        → UnlessCertMemory e (fault_of_body counts net (body ++ future) ≡ Some e)) → Fails texts text (of_certificate e)
    wrong e h = failed e (text_has name counts net text body left price taken s e h)

    answered : (e : StreamFault) → BodyFails (Some left) taken counts net body e → Judges texts text (of_stream e)
    answered stream.InputTooLong h = let all = s.size in let long : IsTooLong text = omega (arith, h, all) in
        (length net.worths, a.mine, long)
    answered (stream.Cert cert.Truncated) h = failed cert.Truncated
        (cut_off name counts net text body left price taken s h.0 h.2)
    answered (stream.Cert (cert.Text k)) h = wrong (cert.Text k) h
    answered (stream.Cert (cert.Number k)) h = wrong (cert.Number k) h
    answered (stream.Cert (cert.OutOfOrder k)) h = wrong (cert.OutOfOrder k) h
    answered (stream.Cert (cert.UnknownPair k)) h = wrong (cert.UnknownPair k) h
    answered (stream.Pit e) h = refused e h
    answered e h = tt

  split : (held old bytes left : List ℕ) (before later : ℕ) → drop 4 (pieces_of text) ≡ pieces_of (held ++ old)
      → before + length old ≡ length text → later ≡ before + length bytes → old ≡ bytes ++ left
      → IsSplit name net text (held ++ bytes) left (price_wanted texts) later
  split held old bytes left before later after taken more is =
      let size = ap length is ∙ length-append bytes left in
      record {
        header = header_named (record { blocks = length net.worths; group = name }) (pieces_of text)
            (record { blocks = length net.worths; price = price_wanted texts; group = name }) a.header refl refl;
        after = after ∙ ap (λ (l : List ℕ). pieces_of (held ++ l)) is
            ∙ ap pieces_of (sym (append_assoc held bytes left));
        size = omega (arith, taken, more, size);
      }

  module _ {R : Type 0} (remaining : R → Option (List ℕ)) (before later : LineView R)
      (stands : StandsAfter remaining text before) (bytes : List ℕ) (read : ReadsOn remaining before later bytes) where
    given : Consumes (Some stands.left) (remaining later.from) bytes
    given = let P : Option (List ℕ) → Type 0 = λ o. Consumes o (remaining later.from) bytes in subst P stands.known
        read.given

    rest : (left : List ℕ) × (remaining later.from ≡ Some left) × (stands.left ≡ bytes ++ left)
    rest = consumed (remaining later.from) stands.left bytes given

    parts : IsSplit name net text (before.held ++ bytes) rest.0 (price_wanted texts) later.taken
    parts = split before.held stands.left bytes rest.0 before.taken later.taken stands.body stands.taken read.taken
        rest.2

    -- a fault of the stream is answered rightly
    pub stream_answered : (e : StreamFault) → BodyFails (remaining later.from) later.taken counts net
        (before.held ++ bytes) e → Judges texts text (of_stream e)
    stream_answered e h =
        let P : Option (List ℕ) → Type 0 = λ o. BodyFails o later.taken counts net (before.held ++ bytes) e in
        answered (before.held ++ bytes) rest.0 (price_wanted texts) later.taken parts e (subst P rest.1 h)

    proves_here : (pit : List ℕ) → BodyProves (remaining later.from) later.taken counts net (before.held ++ bytes) pit
        → BodyProves (Some rest.0) later.taken counts net (before.held ++ bytes) pit
    proves_here pit h = let P : Option (List ℕ)
        → Type 0 = λ o. BodyProves o later.taken counts net (before.held ++ bytes) pit in subst P rest.1 h

    -- what is known where the stream was accepted
    pub stream_read : (pit : List ℕ) → BodyProves (remaining later.from) later.taken counts net (before.held ++ bytes)
        pit → HasRead name block counts texts text net pit (flow_for counts net text)
    stream_read pit h = has_read name counts net text (before.held ++ bytes) rest.0 (price_wanted texts) later.taken
        parts block texts pit a.mine a.named a.header a.is_net a.of_mine (proves_here pit h)

    pub stream_proves : (pit : List ℕ) → BodyProves (remaining later.from) later.taken counts net
        (before.held ++ bytes) pit → ProvesPit net (flow_for counts net text) pit
    stream_proves pit h = proved name counts net text (before.held ++ bytes) rest.0 (price_wanted texts) later.taken
        parts pit (proves_here pit h)

    pub stream_short : (pit : List ℕ) → BodyProves (remaining later.from) later.taken counts net
        (before.held ++ bytes) pit → IsWithinLimit text
    stream_short pit h = not_long name counts net text (before.held ++ bytes) rest.0 (price_wanted texts) later.taken
        parts pit (proves_here pit h)
