-- A certificate that proves its pit is refused by a stream for a sum that doesn't fit, and for nothing else.
use Rattle.fixed_worth.proofs.Common.{◌≡◌, ℕ, Bool, true, eqb, List, [], ◌∷◌, ◌++◌, length, get_or, None, Ok, inl, inr}
use Rattle.fixed_worth.proofs.Common.{refl, sym, ap, ◌∙◌, subst, arith, ◌&&◌, eq-eqb}
use Rattle.ordered_group.specs.Prelude.{Amount, zero_amount, AtMost, positive, negative, amount_at}
use Rattle.ordered_group.specs.declared.groups.Group.{Group}
use Rattle.closure_net.specs.Prelude.{NetView, FlowView, holds_of, IsClosed, IsBalancedAt, IsFlow, IsTight, IsNetOf}
use Rattle.certificate_file.specs.declared.header.Header.{Header}
use Rattle.certificate_file.specs.declared.body_lines.LineKind.{LineKind}
use Rattle.certificate_file.specs.declared.body_lines.LineKind.TheVariants.{Source, Rest, Sink}
use Rattle.certificate_file.specs.declared.body_lines.BodyLine.{BodyLine}
use Rattle.check_pit.specs.declared.pit_fault.PitFault.{PitFault}
use Rattle.check_pit.specs.declared.pit_fault.PitFault.TheVariants.{WrongSize, NotClosed, Negative, OverCapacity}
use Rattle.check_pit.specs.declared.pit_fault.PitFault.TheVariants.{Unbalanced, NotTight, TooLarge}
use Rattle.certificate_file.specs.Prelude.{body_fault, is_of_model, DenotesFlow, amount_of, body_of, cert_fault_after}
use Rattle.certificate_file.specs.Prelude.{cert_fault_of, gives_rest, gives_sink, gives_source, is_rest, is_sink}
use Rattle.certificate_file.specs.Prelude.{is_source, lines_of_text, pit_of, wanted_for, header_for, pieces_of}
use Rattle.prec_file.specs.Rests.{has_pair}
use Rattle.check_pit.specs.Prelude.{ProvesPit, keeps_by, IsNegative, IsOverLimit}
use Rattle.check_pit.proofs.LineFlows.{denoted}
use Rattle.certificate_file.proofs.LineOrder.{Has, has_good, Proper, given_by, good_is_proper}
use Rattle.certificate_file.proofs.NamedHeaders.{header_named}
use Rattle.certificate_file.proofs.Order.{InOrder, Good, in_order_weaker, stands_in_order}
use Rattle.certificate_file.proofs.SameLines.{pair_place, tells_rest, tells_sink, tells_source}
use Rattle.mine_inputs.specs.Mines.{MineTexts, mine_of, price_wanted}
use Rattle.check_engines.specs.Prelude.{Reads, block_by, counts_by, TextBegins, SomeSumLeaves, TextRefused, flow_for}
use Rattle.check_engines.specs.Prelude.{lines_for, CertificateRefused}
use Rattle.check_engines.proofs.Alone.{flows_same, nets_same, ok_same}

-- a line that keeps its limits has no negative amount, and none that is too much
not_negative : (k : LineKind) (net : NetView) (l : BodyLine) → keeps_by k net.worths l → IsNegative k (amount_of l) → ⊥
not_negative Source net l h i = i h.0
not_negative Rest net l h i = i h
not_negative Sink net l h i = i h.0
not_negative k net l h i = i

not_over : (k : LineKind) (net : NetView) (l : BodyLine) → keeps_by k net.worths l
    → IsOverLimit k (amount_at net.worths l.block) (amount_of l) → ⊥
not_over Source net l h i = i.1 h.1
not_over Sink net l h i = i.1 h.1
not_over k net l h i = i

-- a line between others is among them
among : (ls : List BodyLine) (l : BodyLine) (more : List BodyLine) → Has l ((ls ++ l ∷ []) ++ more)
among [] l more = inl refl
among (m ∷ ms) l more = inr (among ms l more)

module _ (net : NetView) (ls : List BodyLine) (pit : List ℕ) (flow : FlowView)
    (order : InOrder (Proper (length net.worths) (has_pair net.pairs)) None ls)
    (d : DenotesFlow (length net.worths) net.pairs ls pit flow) (f : IsFlow net flow) (l : BodyLine)
    (h : Has l ls) where
  mine : Proper (length net.worths) (has_pair net.pairs) l
  mine = has_good (Proper (length net.worths) (has_pair net.pairs)) None ls order l h

  kept_by : (k : LineKind) → l.kind ≡ k → keeps_by k net.worths l
  kept_by Source e =
      let gives : gives_source l.block l ≡ true = ap (λ (k : LineKind). is_source k && eqb l.block l.block) e
      ∙ eq-eqb l.block l.block refl in
      let same : amount_at flow.source l.block ≡ amount_of l = d.source l.block mine.block
      ∙ given_by (Proper (length net.worths) (has_pair net.pairs)) (gives_source l.block) None ls zero_amount l
      (tells_source (length net.worths) (has_pair net.pairs) l.block) order h gives in
      let within = f.capacity l.block mine.block in (
        subst (AtMost zero_amount) same (f.source l.block (omega (arith, mine.block, d.covers.sources))),
        subst
            (λ (x : Amount). AtMost x (positive (amount_at net.worths l.block))) same within.0,
      )
  kept_by Sink e =
      let gives : gives_sink l.block l ≡ true = ap (λ (k : LineKind). is_sink k && eqb l.block l.block) e
      ∙ eq-eqb l.block l.block refl in
      let same : amount_at flow.sink l.block ≡ amount_of l = d.sink l.block mine.block
      ∙ given_by (Proper (length net.worths) (has_pair net.pairs)) (gives_sink l.block) None ls zero_amount l
      (tells_sink (length net.worths) (has_pair net.pairs) l.block) order h gives in
      let within = f.capacity l.block mine.block in (
        subst (AtMost zero_amount) same (f.sink l.block (omega (arith, mine.block, d.covers.sinks))),
        subst
            (λ (x : Amount). AtMost x (negative (amount_at net.worths l.block))) same within.1,
      )
  kept_by Rest e =
      let held : has_pair net.pairs l.block l.other ≡ true = subst
      (λ (k : LineKind). is_of_model (has_pair net.pairs) k l ≡ true) e mine.pair in
      let place = pair_place l.block l.other net.pairs held in
      let pair : ℕ × ℕ = get_or net.pairs place.0 (0, 0) in
      let at_block : pair.0 ≡ l.block = ap (λ (x : ℕ × ℕ). x.0) place.2 in
      let at_other : pair.1 ≡ l.other = ap (λ (x : ℕ × ℕ). x.1) place.2 in
      let both : (eqb pair.0 l.block && eqb pair.1 l.other) ≡ true = ap (λ (t : Bool). t && eqb pair.1 l.other)
      (eq-eqb pair.0 l.block at_block) ∙ eq-eqb pair.1 l.other at_other in
      let gives : gives_rest pair l ≡ true = ap
      (λ (k : LineKind). is_rest k && (eqb pair.0 l.block && eqb pair.1 l.other)) e ∙ both in
      let same : amount_at flow.rest place.0 ≡ amount_of l = d.rest place.0 place.1
      ∙ given_by (Proper (length net.worths) (has_pair net.pairs)) (gives_rest pair) None ls zero_amount l
      (tells_rest (length net.worths) (has_pair net.pairs) pair) order h gives in
      subst (AtMost zero_amount) same (f.rest place.0 (omega (arith, place.1, d.covers.rests)))
  kept_by k e = tt

  -- each line of a flow keeps its limits
  pub line_keeps : keeps_by l.kind net.worths l
  line_keeps = kept_by l.kind refl

-- What is known of a text without a fault that proves its pit.
record IsProved (counts : Bool) (name : Group) (net : NetView) (text pit : List ℕ) (flow : FlowView) : Type 0 where
  none : cert_fault_of counts name (length net.worths) net.pairs text ≡ None
  order : InOrder (Proper (length net.worths) (has_pair net.pairs)) None (lines_for counts net text)
  denotes : DenotesFlow (length net.worths) net.pairs (lines_for counts net text) pit flow
  proves : ProvesPit net flow pit

module _ (counts : Bool) (name : Group) (net : NetView) (text pit : List ℕ) (flow : FlowView)
    (p : IsProved counts name net text pit flow) where
  line_kept : (ls : List BodyLine) (l : BodyLine) → TextBegins counts net text (ls ++ l ∷ [])
      → keeps_by l.kind net.worths l
  line_kept ls l b = line_keeps net (lines_for counts net text) pit flow p.order p.denotes p.proves.is_flow l
      (subst (Has l) (sym b.1) (among ls l b.0))

  flow_is : flow_for counts net text ≡ flow
  flow_is = flows_same counts (length net.worths) net.pairs text (pit_of (lines_for counts net text)) pit
      (flow_for counts net text) flow (denoted (length net.worths) net.pairs (lines_for counts net text)) p.denotes

  refusal_leaves : (e : PitFault) → TextRefused counts name net text e → SomeSumLeaves counts net text
  refusal_leaves WrongSize h = absurd h
  refusal_leaves (NotClosed a b) h =
      let says = h.1 in
      let first = h.2 in
      let same : pit ≡ h.0 = p.denotes.pit ∙ says.all p.none in
      let closed : IsClosed net.pairs (holds_of h.0) = subst (λ (l : List ℕ). IsClosed net.pairs (holds_of l)) same
      p.proves.closed in
      absurd (first.1.2 (closed first.0 (0, 0) first.1.0))
  refusal_leaves Negative h = absurd (not_negative h.1.kind net h.1 (line_kept h.0 h.1 h.2) h.4)
  refusal_leaves (OverCapacity b) h = absurd (not_over h.1.kind net h.1 (line_kept h.0 h.1 h.2) h.4.1)
  refusal_leaves (Unbalanced b) h =
      let balanced : IsBalancedAt net (flow_for counts net text) b = subst (λ (f : FlowView). IsBalancedAt net f b)
      (sym flow_is) (p.proves.is_flow.balance b h.1.0) in
      absurd (h.1.2 balanced)
  refusal_leaves NotTight h =
      let T : FlowView → Type 0 = λ f. IsTight net f (holds_of pit) in
      let U : List ℕ → Type 0 = λ l. IsTight net (flow_for counts net text) (holds_of l) in
      absurd (h.2 (subst U p.denotes.pit (subst T (sym flow_is) p.proves.tight)))
  refusal_leaves TooLarge h = (h.0 ++ h.1 ∷ [], h.2, h.4.1)

-- a reading of texts that proves its pit
proved_at : (texts : MineTexts) (c : List ℕ) (n : ℕ) (x : Reads texts c) → x.blocks ≡ n → n ≡ length x.net.worths
    → ProvesPit x.net x.flow x.pit → IsProved (counts_by x.group) x.group x.net c x.pit x.flow
proved_at texts c n x e f proves =
    let counts = counts_by x.group in
    let size = e ∙ f in
    let m = length x.net.worths in
    let N : ℕ → Type 0 = λ k. cert_fault_of counts x.group k x.net.pairs c ≡ None in
    let D : ℕ → Type 0 = λ k. DenotesFlow k x.net.pairs (lines_of_text counts k c) x.pit x.flow in
    let none = subst N size x.no_fault in
    let has : ℕ → ℕ → Bool = has_pair x.net.pairs in
    let header : header_for (wanted_for m x.group) (pieces_of c)
    ≡ Ok (record { blocks = x.blocks; price = price_wanted texts; group = x.group }) = header_named
    (record { blocks = m; group = x.group }) (pieces_of c)
    (record { blocks = x.blocks; price = price_wanted texts; group = x.group }) x.header size refl in
    let fine : body_fault counts m has None 4 (body_of c) ≡ None = sym
    (ap (cert_fault_after counts m x.net.pairs (body_of c)) header) ∙ none in
    let good = stands_in_order counts m has None 4 (body_of c) fine in
    record {
      none = none;
      order = in_order_weaker (Good counts m has) (Proper m has) (good_is_proper counts m has) None
          (lines_of_text counts m c) good;
      denotes = subst D size x.denotes;
      proves = proves;
    }

-- a refusal of a text is one by the net of any reading of it
refused_here : (texts : MineTexts) (c : List ℕ) (e : PitFault) (x : Reads texts c) → CertificateRefused texts c e
    → TextRefused (counts_by x.group) x.group x.net c e
refused_here texts c e x r =
    let h = ok_same _ _ _ r.header x.header in
    let blocks : r.blocks ≡ x.blocks = ap (λ (z : Header). z.blocks) h in
    let group : r.group ≡ x.group = ap (λ (z : Header). z.group) h in
    let M : ℕ → Type 0 = λ k. IsNetOf (block_by r.group) (mine_of k texts) r.net in
    let N : Group → Type 0 = λ g. IsNetOf (block_by g) (mine_of x.blocks texts) r.net in
    let net = nets_same (block_by x.group) x.blocks texts r.net x.net r.is_net x.is_net
    (subst N group (subst M blocks r.of_mine)) x.of_mine in
    let B : Group → Type 0 = λ g. TextRefused (counts_by g) g r.net c e in
    let C : NetView → Type 0 = λ w. TextRefused (counts_by x.group) x.group w c e in
    subst C net (subst B group r.stands)

pub refused_leaves : (texts : MineTexts) (c : List ℕ) (e : PitFault) (x : Reads texts c)
    → ProvesPit x.net x.flow x.pit → CertificateRefused texts c e → SomeSumLeaves (counts_by x.group) x.net c
refused_leaves texts c e x proves r = refusal_leaves (counts_by x.group) x.group x.net c x.pit x.flow
    (proved_at texts c x.blocks x refl (sym x.of_mine.blocks) proves) e (refused_here texts c e x r)
