-- A certificate that is read for a model, as a whole.
use Rattle.fixed_worth.proofs.Common.{◌≡◌, ℕ, ◌<◌, Bool, List, [], ◌++◌, length, drop, get_or, Some, None, Result, Ok}
use Rattle.fixed_worth.proofs.Common.{refl, sym, ap, ◌∙◌, subst, arith, All, result_unwrap_or, same_lists, common_steps}
use Rattle.ordered_group.specs.declared.groups.Group.{Group}
use Rattle.ordered_group.specs.Prelude.{Amount, zero_amount, amount_at}
use Rattle.prec_file.specs.Prelude.{IsRests, has_pair}
use Rattle.closure_net.specs.Network.{FlowView, IsAscending}
use Rattle.certificate_file.specs.declared.header.Header.{Header}
use Rattle.certificate_file.specs.declared.header.Wanted.{Wanted}
use Rattle.certificate_file.specs.declared.header.Price.{Price}
use Rattle.certificate_file.specs.declared.body_lines.BodyLine.{BodyLine}
use Rattle.certificate_file.specs.declared.cert_fault.CertFault.{CertFault}
use Rattle.certificate_file.specs.Prelude.{Piece, Unread, pieces_of, header_for, body_fault, lines_of_pieces}
use Rattle.certificate_file.specs.Prelude.{lines_text, header_words, header_with, body_text, end_text, value_lines}
use Rattle.certificate_file.specs.Prelude.{text_of, line_of_block, pair_at, Covers, IsRead, DenotesFlow, cert_fault_of}
use Rattle.certificate_file.specs.Prelude.{cert_fault_after, wanted_for, given_amount, gives_source, gives_rest}
use Rattle.certificate_file.specs.Prelude.{gives_sink, pit_of, Writable, AreWritable, IsPrice, IsCertReadBack, Gathered}
use Rattle.certificate_file.specs.Prelude.{Adds}
use Rattle.certificate_file.proofs.Order.{InOrder, Good, in_order_weaker, stands_in_order, ascending, known}
use Rattle.certificate_file.proofs.Wants.{header_wanted}
use Rattle.certificate_file.proofs.Texts.{pieces_make_text}
use Rattle.certificate_file.proofs.Spelling.{body_is}
use Rattle.certificate_file.proofs.Heads.{header_is}
use Rattle.certificate_file.proofs.LineOrder.{Proper, good_is_proper}
use Rattle.certificate_file.proofs.SameLines.{say_the_same}
use Rattle.certificate_file.proofs.ValueLines.{EachLine, each_all, each_both, value_in_order, value_says, value_proper}
use Rattle.certificate_file.proofs.Readable.{Readable, pit_readable, source_readable, rest_readable, sink_readable}
use Rattle.certificate_file.proofs.ReadBack.{Both, ReadAs, body_read, header_read, body_left}
use Rattle.certificate_file.specs.declared.body_lines.LineKind.TheVariants.{Source, Sink}

-- A text without a fault is the text of the value that it gives.
pub spelled : (counts : Bool) (name : Group) (n : ℕ) (pairs : List (ℕ × ℕ)) (text : List ℕ) (price : Price)
    (pit : List ℕ) (flow : FlowView) → IsRests (record { blocks = n; pairs = pairs })
    → header_for (wanted_for n name) (pieces_of text) ≡ Ok (header_with n price name)
    → (k : ℕ) → body_fault counts n (has_pair pairs) None k (drop 4 (pieces_of text)) ≡ None
    → DenotesFlow n pairs (lines_of_pieces counts n (drop 4 (pieces_of text))) pit flow → IsAscending pit
    → All (λ b. b < n) pit → text ≡ text_of (header_with n price name) pairs pit flow
spelled counts name n pairs text price pit flow r h k f d a b =
    let has : ℕ → ℕ → Bool = has_pair pairs in
    let ps = drop 4 (pieces_of text) in
    let ls = lines_of_pieces counts n ps in
    let head = lines_text (header_words (header_with n price name)) in
    let mine : InOrder (Proper n has) None ls = in_order_weaker (Good counts n has) (Proper n has)
    (good_is_proper counts n has) None ls (stands_in_order counts n has None k ps f) in
    let value : InOrder (Proper n has) None (value_lines pairs pit flow) = value_in_order (Proper n has) n pairs pit
    flow a r.rising d.covers (value_proper n pairs pit flow b r.known d.covers) in
    let same : ls ≡ value_lines pairs pit flow = say_the_same n pairs pit flow None None ls
    (value_lines pairs pit flow) mine value d (value_says n pairs pit flow r.rising d.covers) in
    sym (pieces_make_text text) ∙ header_is (wanted_for n name) (pieces_of text) (header_with n price name) h
    ∙ ap (λ (t : List ℕ). head ++ t) (body_is counts n has None k ps f)
    ∙ ap (λ (ms : List BodyLine). head ++ (body_text ms ++ end_text)) same

pub none_ascends : (counts : Bool) (n : ℕ) (pairs : List (ℕ × ℕ)) (left : Unread) (start later : Gathered)
    → start.pit ≡ [] → body_fault counts n (has_pair pairs) None left.number left.pieces ≡ None
    → Adds n pairs (lines_of_pieces counts n left.pieces) start later → IsAscending later.pit
none_ascends counts n pairs left start later e f a = grind (
  arith,
  common_steps,
  (ascending counts n (has_pair pairs) None (lines_of_pieces counts n left.pieces)
      (stands_in_order counts n (has_pair pairs) None left.number left.pieces f)),
  (stands_in_order counts n (has_pair pairs) None left.number left.pieces f),
)

-- The amounts of a start are zero.
pub record IsEmpty (start : Gathered) : Type 0 where
  pub pit : start.pit ≡ []
  pub source : (b : ℕ) → amount_at start.flow.source b ≡ zero_amount
  pub rest : (k : ℕ) → amount_at start.flow.rest k ≡ zero_amount
  pub sink : (b : ℕ) → amount_at start.flow.sink b ≡ zero_amount

pub all_read : (counts : Bool) (name : Group) (n : ℕ) (pairs : List (ℕ × ℕ)) (text : List ℕ) (w : Wanted) (h : Header)
    (left : Unread) (start later : Gathered) → w.blocks ≡ n → w.group ≡ name
    → header_for (Some w) (pieces_of text) ≡ Ok h → left.pieces ≡ drop 4 (pieces_of text) → left.number ≡ 4
    → IsEmpty start → IsRests (record { blocks = n; pairs = pairs })
    → body_fault counts n (has_pair pairs) None left.number left.pieces ≡ None
    → Covers n (length pairs) later.flow → Adds n pairs (lines_of_pieces counts n left.pieces) start later
    → (cert_fault_of counts name n pairs text ≡ None)
    × IsRead counts name n pairs text h.blocks h.price later.pit later.flow
all_read counts name n pairs text w h left start later b g e p k z r f c a =
    let same : w ≡ record { blocks = n; group = name } = λ i. record { blocks = b i; group = g i } in
    let q = header_wanted w (pieces_of text) h e in
    let made : h ≡ record { blocks = n; price = h.price; group = name } = λ i. record
    { blocks = (q.0 ∙ b) i; price = h.price; group = (q.1 ∙ g) i } in
    let lines : lines_of_pieces counts n left.pieces ≡ lines_of_pieces counts n (drop 4 (pieces_of text)) = ap
    (lines_of_pieces counts n) p in
    let is : later.pit ≡ pit_of (lines_of_pieces counts n left.pieces) = a.pit
    ∙ ap (λ (bs : List ℕ). bs ++ pit_of (lines_of_pieces counts n left.pieces)) z.pit in
    let order = stands_in_order counts n (has_pair pairs) None left.number left.pieces f in
    let head = subst (λ (v : Wanted). header_for (Some v) (pieces_of text) ≡ Ok h) same e
    ∙ ap (λ (x : Header). Ok x) made in
    let says : DenotesFlow n pairs (lines_of_pieces counts n (drop 4 (pieces_of text))) later.pit later.flow = record {
      pit = is ∙ ap pit_of lines;
      covers = c;
      source = λ i j. a.source i j
          ∙ ap (λ (x : Amount). given_amount (gives_source i) x (lines_of_pieces counts n left.pieces)) (z.source i)
          ∙ ap (given_amount (gives_source i) zero_amount) lines;
      rest = λ i j. a.rest i j
          ∙ ap (λ (x : Amount). given_amount (gives_rest (get_or pairs i (0, 0))) x
          (lines_of_pieces counts n left.pieces)) (z.rest i)
          ∙ ap (given_amount (gives_rest (get_or pairs i (0, 0))) zero_amount) lines;
      sink = λ i j. a.sink i j
          ∙ ap (λ (x : Amount). given_amount (gives_sink i) x (lines_of_pieces counts n left.pieces)) (z.sink i)
          ∙ ap (given_amount (gives_sink i) zero_amount) lines;
    } in
    let rises = none_ascends counts n pairs left start later z.pit f a in
    let below : All (λ x. x < n) later.pit = subst (All (λ x. x < n)) (sym is)
    (known counts n (has_pair pairs) None (lines_of_pieces counts n left.pieces) order) in (
      (grind (arith, common_steps)) ∙ f,
      record {
        header = head;
        same_blocks = q.0 ∙ b;
        denotes = says;
        ascending = rises;
        known = below;
        spelled = spelled counts name n pairs text h.price later.pit later.flow r head left.number
            (subst (λ (ps : List Piece). body_fault counts n (has_pair pairs) None left.number ps ≡ None) p f) says
            rises below;
      },
    )

-- A text gives one value.
any_default : (xs : List Amount) (k : ℕ) (d e : Amount) → k < length xs → get_or xs k d ≡ get_or xs k e
any_default xs k d e h = grind (arith, common_steps)

same_amounts : (xs ys : List Amount) (m : ℕ) → length xs ≡ m → length ys ≡ m
    → ((k : ℕ) → k < m → amount_at xs k ≡ amount_at ys k) → xs ≡ ys
same_amounts xs ys m e f h = same_lists xs ys (e ∙ sym f) (λ k d i. any_default xs k d zero_amount i
    ∙ h k (omega arith) ∙ any_default ys k zero_amount d (omega arith))

same_flow : (f g : FlowView) → f.source ≡ g.source → f.rest ≡ g.rest → f.sink ≡ g.sink → f ≡ g
same_flow f g a b c = λ i. record { source = a i; rest = b i; sink = c i }

one_value : (counts : Bool) (name : Group) (n : ℕ) (pairs : List (ℕ × ℕ)) (text : List ℕ) (a b : ℕ) (p q : Price)
    (r s : List ℕ) (f g : FlowView) → IsRead counts name n pairs text a p r f
    → IsRead counts name n pairs text b q s g → (a ≡ n) × (p ≡ q) × (r ≡ s) × (f ≡ g)
one_value counts name n pairs text a b p q r s f g x y =
    let d = x.denotes in
    let e = y.denotes in (
      x.same_blocks,
      ap (λ (h : Result Header CertFault). (result_unwrap_or h (header_with n p name)).price) (sym x.header ∙ y.header),
      d.pit ∙ sym e.pit,
      same_flow f g (same_amounts f.source g.source n d.covers.sources e.covers.sources
          (λ k h. d.source k h ∙ sym (e.source k h)))
          (same_amounts f.rest g.rest (length pairs) d.covers.rests e.covers.rests
          (λ k h. d.rest k h ∙ sym (e.rest k h)))
          (same_amounts f.sink g.sink n d.covers.sinks e.covers.sinks (λ k h. d.sink k h ∙ sym (e.sink k h))),
    )

-- The lines of a value are readable, and proper.
value_readable : (counts : Bool) (n : ℕ) (pairs : List (ℕ × ℕ)) (pit : List ℕ) (flow : FlowView)
    → IsRests (record { blocks = n; pairs = pairs }) → All (λ b. b < n) pit → Covers n (length pairs) flow
    → AreWritable counts flow → EachLine (Both counts n (has_pair pairs)) pairs pit flow
value_readable counts n pairs pit flow r b c w =
    let p = value_proper n pairs pit flow b r.known c in
    record {
      pit = λ i h. (pit_readable counts n (get_or pit i 0) r.blocks (b i 0 h), p.pit i h);
      source = each_both (Readable counts n) (Proper n (has_pair pairs)) (line_of_block Source) 0 flow.source
          (each_all (Readable counts n) (Writable counts) (line_of_block Source) n
          (λ k x h q z. source_readable counts n k x r.blocks h q z) flow.source 0 (omega (arith, c.sources))
          w.source) p.source;
      rest = each_both (Readable counts n) (Proper n (has_pair pairs)) (pair_at pairs) 0 flow.rest
          (each_all (Readable counts n) (Writable counts) (pair_at pairs) (length pairs)
          (λ k x h q z. rest_readable counts n (get_or pairs k (0, 0)).0 (get_or pairs k (0, 0)).1 x r.blocks
          (r.known k (0, 0) h).0 (r.known k (0, 0) h).1 q z) flow.rest 0 (omega (arith, c.rests)) w.rest) p.rest;
      sink = each_both (Readable counts n) (Proper n (has_pair pairs)) (line_of_block Sink) 0 flow.sink
          (each_all (Readable counts n) (Writable counts) (line_of_block Sink) n
          (λ k x h q z. sink_readable counts n k x r.blocks h q z) flow.sink 0 (omega (arith, c.sinks)) w.sink) p.sink;
    }

-- The text of a value is read without a fault, and as that value.
pub read_back : (counts : Bool) (name : Group) (n : ℕ) (pairs : List (ℕ × ℕ)) (price : Price) (pit : List ℕ)
    (flow : FlowView) → IsRests (record { blocks = n; pairs = pairs }) → IsPrice price → IsAscending pit
    → All (λ b. b < n) pit → Covers n (length pairs) flow → AreWritable counts flow
    → IsCertReadBack counts name n pairs (text_of (header_with n price name) pairs pit flow) price pit flow
read_back counts name n pairs price pit flow r p a b c w =
    let has : ℕ → ℕ → Bool = has_pair pairs in
    let ls = value_lines pairs pit flow in
    let body = body_text ls ++ end_text in
    let text = text_of (header_with n price name) pairs pit flow in
    let order : InOrder (Both counts n has) None ls = value_in_order (Both counts n has) n pairs pit flow a r.rising c
    (value_readable counts n pairs pit flow r b c w) in
    let good : ReadAs counts n has None 4 body ls = body_read counts n has ls None 4 tt order in
    let head : header_for (wanted_for n name) (pieces_of text) ≡ Ok (header_with n price name) = header_read n price
    name body r.blocks p in
    let left : drop 4 (pieces_of text) ≡ pieces_of body = body_left n price name body r.blocks p in
    let lines : lines_of_pieces counts n (drop 4 (pieces_of text)) ≡ ls = ap (lines_of_pieces counts n) left
    ∙ good.lines in
    let read : IsRead counts name n pairs text n price pit flow = record {
      header = head;
      same_blocks = refl;
      denotes = subst (λ (ms : List BodyLine). DenotesFlow n pairs ms pit flow) (sym lines)
          (value_says n pairs pit flow r.rising c);
      ascending = a;
      known = b;
      spelled = refl;
    } in
    record {
      none = ap (cert_fault_after counts n pairs (drop 4 (pieces_of text))) head
          ∙ ap (body_fault counts n has None 4) left ∙ good.none;
      read = read;
      only = λ m q bs f other. one_value counts name n pairs text m n q price bs pit f flow other read;
    }
