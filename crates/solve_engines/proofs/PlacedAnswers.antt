-- From a text that a check accepts over pairs that no list holds to the certificate of their net.
use Rattle.fixed_worth.proofs.Common.{◌≡◌, ℕ, ◌<◌, Bool, true, false, List, [], ◌∷◌, ◌++◌, length, get_or, drop, Option}
use Rattle.fixed_worth.proofs.Common.{None, Some, Result, Ok, Err, refl, sym, ap, ◌∙◌, subst, arith, All, cases_Bool}
use Rattle.fixed_worth.proofs.Common.{inl, inr, cond, append-nil, append_assoc, Consumes}
use Rattle.ordered_group.specs.Prelude.{Amount, zero_amount, amount_at}
use Rattle.ordered_group.specs.declared.groups.Group.{Group}
use Rattle.prec_file.specs.Rests.{has_pair}
use Rattle.closure_net.specs.Prelude.{NetView, FlowView, IsNet, IsAscending}
use Rattle.certificate_file.specs.declared.cert_fault.CertFault.{CertFault}
use Rattle.certificate_file.specs.declared.header.Header.{Header}
use Rattle.certificate_file.specs.declared.header.Price.{Price}
use Rattle.certificate_file.specs.declared.header.Price.TheVariants.{Objective}
use Rattle.certificate_file.specs.declared.body_lines.BodyLine.{BodyLine}
use Rattle.certificate_file.specs.Prelude.{pieces_of, IsRead, IsCertReadBack, DenotesFlow, header_of, header_for}
use Rattle.certificate_file.specs.Prelude.{wanted_for, cert_fault_after, body_fault, lines_of_pieces, lines_of_text}
use Rattle.certificate_file.specs.Prelude.{given_amount, gives_rest, amount_of, is_of_model}
use Rattle.certificate_file.specs.declared.body_lines.LineKind.{LineKind}
use Rattle.certificate_file.specs.declared.body_lines.LineKind.TheVariants.{Rest}
use Rattle.certificate_file.proofs.NamedHeaders.{header_named}
use Rattle.certificate_file.proofs.Order.{InOrder, Good, in_order_weaker, stands_in_order, ascending, known}
use Rattle.certificate_file.proofs.LineOrder.{Proper, good_is_proper}
use Rattle.certificate_file.proofs.SameLines.{rest_so, pair_place}
use Rattle.certificate_file.proofs.Whole.{spelled}
use Rattle.check_pit.specs.Prelude.{IsSound, ProvesPit, flow_of, LineView, ReadsOn, lines_of_body, BodyProves}
use Rattle.engine_faults.specs.declared.engine_fault.EngineFault.{EngineFault}
use Rattle.check_engines.specs.declared.judgement.Verdict.{Verdict}
use Rattle.option_words.specs.declared.method.Method.{Method}
use Rattle.check_engines.specs.Prelude.{lines_for, flow_for, StandsAfter}
use Rattle.solve_engines.specs.Prelude.{IsSmallAmount, AreSmall, AreSmallWorths, IsSmallFlow, IsAcceptedText}
use Rattle.solve_engines.specs.Prelude.{IsCertificateOf, IsPlacedCertificate, SendsText, SolvesNet}
use Rattle.check_engines.proofs.Alone.{flows_same}
use Rattle.check_engines.proofs.HeaderAnswers.{consumed}
use Rattle.solve_engines.proofs.SmallSums.{sums_fit, zero_small}

-- a line of a pair that isn't one of the lines' model isn't proper
unknown : (has : ℕ → ℕ → Bool) (q : ℕ × ℕ) (l : BodyLine) → has q.0 q.1 ≡ false → l.kind ≡ Rest → q.0 ≡ l.block
    → q.1 ≡ l.other → is_of_model has l.kind l ≡ true → ⊥
unknown has q l lacks kind block other pair =
    let t : has l.block l.other ≡ true = subst (λ (k : LineKind). is_of_model has k l ≡ true) kind pair in
    let u : has q.0 q.1 ≡ true = ap (λ (x : ℕ). has x q.1) block ∙ ap (has l.block) other ∙ t in
    let z : false ≡ true = sym lacks ∙ u in cc

-- no line gives an amount over such a pair
none_given : (n : ℕ) (has : ℕ → ℕ → Bool) (q : ℕ × ℕ) (x : Amount) (previous : Option BodyLine) (ls : List BodyLine)
    → has q.0 q.1 ≡ false → InOrder (Proper n has) previous ls → given_amount (gives_rest q) x ls ≡ x
none_given n has q x previous [] lacks o = refl
none_given n has q x previous (l ∷ ls) lacks o =
    elim (cases_Bool (gives_rest q l)) [
      | inl t ↦ absurd (let r = rest_so q l t in unknown has q l lacks r.0 r.1 r.2 o.1.pair)
      | inr f ↦ ap (λ (b : Bool). given_amount (gives_rest q) (cond b (amount_of l) x) ls) f
          ∙ none_given n has q x (Some l) ls lacks o.2
    ]

-- ---- small amounts, by the lines of a text that was written over few pairs

module _ (counts : Bool) (name : Group) (n : ℕ) (few : List (ℕ × ℕ)) (text : List ℕ) (price : Price) (pit : List ℕ)
    (flow : FlowView) (r : IsCertReadBack counts name n few text price pit flow) where
  fine : body_fault counts n (has_pair few) None 4 (drop 4 (pieces_of text)) ≡ None
  fine = sym (ap (cert_fault_after counts n few (drop 4 (pieces_of text))) r.read.header) ∙ r.none

  proper : InOrder (Proper n (has_pair few)) None (lines_of_text counts n text)
  proper = in_order_weaker (Good counts n (has_pair few)) (Proper n (has_pair few))
      (good_is_proper counts n (has_pair few)) None (lines_of_text counts n text)
      (stands_in_order counts n (has_pair few) None 4 (drop 4 (pieces_of text)) fine)

  over_pair : AreSmall flow.rest → (q : ℕ × ℕ)
      → IsSmallAmount (given_amount (gives_rest q) zero_amount (lines_of_text counts n text))
  over_pair s q = elim (cases_Bool (has_pair few q.0 q.1)) [
    | inl t ↦
        let w = pair_place q.0 q.1 few t in
        let same : amount_at flow.rest w.0 ≡ given_amount (gives_rest q) zero_amount (lines_of_text counts n text) =
        r.read.denotes.rest w.0 w.1
        ∙ ap (λ (x : ℕ × ℕ). given_amount (gives_rest x) zero_amount (lines_of_text counts n text)) w.2 in
        subst IsSmallAmount same (s w.0 (omega (arith, w.1, r.read.denotes.covers.rests)))
    | inr f ↦ subst IsSmallAmount
        (sym (none_given n (has_pair few) q zero_amount None (lines_of_text counts n text) f proper)) zero_small
  ]

  -- so it is of the flow that the text says over all pairs
  pub small_over : (net : NetView) (all : FlowView) (blocks : List ℕ) → length net.worths ≡ n
      → DenotesFlow n net.pairs (lines_of_text counts n text) blocks all → AreSmallWorths net.worths
      → AreSmall flow.source → AreSmall flow.rest → AreSmall flow.sink → IsSmallFlow net all
  small_over net all blocks e d w a b c = record {
    worths = w;
    source = λ k l. let m : k < n = omega (arith, l, d.covers.sources) in subst IsSmallAmount
        (r.read.denotes.source k m ∙ sym (d.source k m)) (a k (omega (arith, m, r.read.denotes.covers.sources)));
    rest = λ k l. subst IsSmallAmount (sym (d.rest k (omega (arith, l, d.covers.rests))))
        (over_pair b (get_or net.pairs k (0, 0)));
    sink = λ k l. let m : k < n = omega (arith, l, d.covers.sinks) in subst IsSmallAmount
        (r.read.denotes.sink k m ∙ sym (d.sink k m)) (c k (omega (arith, m, r.read.denotes.covers.sinks)));
  }

-- ---- what the check of a stream says

-- the header that was read is the one that is wanted
pub header_is : (name : Group) (n : ℕ) (price : Price) (text : List ℕ) (h : Header)
    → header_of (pieces_of text) ≡ Ok h → h.blocks ≡ n → h.price ≡ price → h.group ≡ name
    → header_for (wanted_for n name) (pieces_of text) ≡ Ok (record { blocks = n; price = price; group = name })
header_is name n price text h read blocks at group =
    header_named (record { blocks = n; group = name }) (pieces_of text) h read blocks group
    ∙ ap (λ (x : Header). Ok x) (λ i. record { blocks = blocks i; price = at i; group = group i })

module _ (counts : Bool) (name : Group) (price : Price) (net : NetView) (text : List ℕ) (is_net : IsNet net)
    (header : header_for (wanted_for (length net.worths) name) (pieces_of text)
    ≡ Ok (record { blocks = length net.worths; price = price; group = name })) where
  -- what stands after it was read to its end
  accepted_body : (body left pit : List ℕ) (taken : ℕ) → drop 4 (pieces_of text) ≡ pieces_of (body ++ left)
      → BodyProves (Some left) taken counts net body pit → IsAcceptedText counts name price net text
  accepted_body body left pit taken after b =
      let n = length net.worths in
      let has : ℕ → ℕ → Bool = has_pair net.pairs in
      let whole : body ++ left ≡ body = ap (λ (l : List ℕ). body ++ l) b.whole.ends ∙ append-nil body in
      let same = after ∙ ap pieces_of whole in
      let lines : lines_of_body counts net body ≡ lines_for counts net text = sym
      (ap (lines_of_pieces counts n) same) in
      let D : List BodyLine → Type 0 = λ ls. DenotesFlow n net.pairs ls pit (flow_of n net.pairs ls) in
      let P : List BodyLine → Type 0 = λ ls. ProvesPit net (flow_of n net.pairs ls) pit in
      let denotes = subst D lines b.denotes in
      let fine : body_fault counts n has None 4 (drop 4 (pieces_of text)) ≡ None = ap (body_fault counts n has None 4)
      same ∙ b.whole.none in
      let order = stands_in_order counts n has None 4 (drop 4 (pieces_of text)) fine in
      let ls = lines_for counts net text in
      let rises = subst IsAscending (sym denotes.pit) (ascending counts n has None ls order) in
      let below = subst (λ (l : List ℕ). All (λ b. b < n) l) (sym denotes.pit) (known counts n has None ls order) in
      record {
        is_net = is_net;
        none = ap (cert_fault_after counts n net.pairs (drop 4 (pieces_of text))) header ∙ fine;
        pit = pit;
        read = record {
          header = header;
          same_blocks = refl;
          denotes = denotes;
          ascending = rises;
          known = below;
          spelled = spelled counts name n net.pairs text price pit (flow_for counts net text) is_net.rests header 4
              fine denotes rises below;
        };
        proves = subst P lines b.proves;
      }

  pub accepted : {R : Type 0} (remaining : R → Option (List ℕ)) (before later : LineView R) (bytes pit : List ℕ)
      → StandsAfter remaining text before → ReadsOn remaining before later bytes
      → BodyProves (remaining later.from) later.taken counts net (before.held ++ bytes) pit
      → IsAcceptedText counts name price net text
  accepted remaining before later bytes pit stands read b =
      let C : Option (List ℕ) → Type 0 = λ o. Consumes o (remaining later.from) bytes in
      let B : Option (List ℕ) → Type 0 = λ o. BodyProves o later.taken counts net (before.held ++ bytes) pit in
      let left = consumed (remaining later.from) stands.left bytes (subst C stands.known read.given) in
      let after = stands.body ∙ ap (λ (l : List ℕ). pieces_of (before.held ++ l)) left.2
      ∙ ap pieces_of (sym (append_assoc before.held bytes left.0)) in
      accepted_body (before.held ++ bytes) left.0 pit later.taken after (subst B left.1 b)

-- ---- the certificate

-- the price that a header says
abbrev price_in : Result Header CertFault → Price
price_in (Ok h) = h.price
price_in (Err e) = Objective

module _ (counts : Bool) (name : Group) (price : Price) (net : NetView) (text : List ℕ)
    (a : IsAcceptedText counts name price net text) where
  -- the text gives one value
  one_value : (b : ℕ) (p : Price) (q : List ℕ) (f : FlowView)
      → IsRead counts name (length net.worths) net.pairs text b p q f → (b ≡ length net.worths) × (p ≡ price)
      × (q ≡ a.pit) × (f ≡ flow_for counts net text)
  one_value b p q f r = (
    r.same_blocks,
    ap price_in (sym r.header ∙ a.read.header),
    r.denotes.pit ∙ sym a.read.denotes.pit,
    flows_same counts (length net.worths) net.pairs text q a.pit f (flow_for counts net text) r.denotes a.read.denotes,
  )

  pub certificate : IsSmallFlow net (flow_for counts net text) → IsPlacedCertificate counts name price net text
  certificate s =
      let flow = flow_for counts net text in
      let covers = a.read.denotes.covers in
      let sound : IsSound net flow a.pit = record
      { proves = a.proves; fits = sums_fit net flow a.pit a.is_net covers.sources covers.rests covers.sinks s } in
      let back : IsCertReadBack counts name (length net.worths) net.pairs text price a.pit flow = record
      { none = a.none; read = a.read; only = one_value } in
      record { is_net = a.is_net; certificate = record { pit = a.pit; flow = flow; read = back; sound = sound } }

-- ---- what is written of it

pub sent : (counts : Bool) (name : Group) (price : Price) (net : NetView) (method : Method) (limit : ℕ)
    (text : List ℕ) (old new : Option (List ℕ)) (r : Result Verdict EngineFault)
    → IsCertificateOf counts name price net text → SendsText text old new r
    → SolvesNet counts name price net method limit old new r
sent counts name price net method limit text old new (Ok v) c a = subst
    (λ (w : Verdict). SolvesNet counts name price net method limit old new (Ok w)) (sym a.0) (text, c, a.1)
sent counts name price net method limit text old new (Err e) c a =
    let due = inl (record { pit = c.pit; flow = c.flow; sound = c.sound; spelled = c.read.read.spelled }) in
    subst (λ (w : EngineFault). SolvesNet counts name price net method limit old new (Err w)) (sym a.0) (text, due, a.1)
