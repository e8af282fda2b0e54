-- The sums of a check of a stream, line after line.
use Rattle.fixed_worth.proofs.Common.{◌≡◌, ℕ, ◌<◌, Bool, true, false, not, List, [], ◌∷◌, ◌++◌, length, Option, Some}
use Rattle.fixed_worth.proofs.Common.{None, Result, Ok, Err, refl, sym, ap, ◌∙◌, subst, arith, append-nil, IfOk}
use Rattle.fixed_worth.proofs.Common.{MatchResult, All, All-append, common_steps}
use Rattle.prec_file.specs.Prelude.{IsRests, has_pair}
use Rattle.closure_net.specs.Prelude.{NetView, IsAscending, holds_of, IsClosed, IsGreatest, group_worth}
use Rattle.closure_net.proofs.Duality.{greatest_from_tight}
use Rattle.check_pit.specs.declared.pit_fault.PitFault.{PitFault}
use Rattle.check_pit.specs.declared.pit_fault.PitFault.TheVariants as pit_fault
use Rattle.check_pit.specs.declared.stream_fault.StreamFault.{StreamFault}
use Rattle.check_pit.specs.declared.stream_fault.StreamFault.TheVariants as stream
use Rattle.certificate_file.specs.declared.body_lines.LineKind.{LineKind}
use Rattle.certificate_file.specs.declared.body_lines.LineKind.TheVariants.{Pit, Rest}
use Rattle.certificate_file.specs.declared.body_lines.BodyLine.{BodyLine}
use Rattle.certificate_file.specs.Prelude.{pieces_of, line_of, is_end, is_of_model, may_follow, body_fault}
use Rattle.certificate_file.specs.Prelude.{lines_of_pieces, pit_of, block_if_pit}
use Rattle.check_pit.specs.Prelude.{ProvesPit, worth_of_blocks, keeps_by, KeepLimits, LinesTell, RoomView, AreSumsOf}
use Rattle.check_pit.specs.Prelude.{TakesBlock, MayPut, LineRefused, PutsLine, RefusesLine, LineView, ReadsSome}
use Rattle.check_pit.specs.Prelude.{TakesLine, is_pit, is_after_pits, ReadsOn, fault_of_body, lines_of_body, flow_by}
use Rattle.check_pit.specs.Prelude.{first_pits, LinesBegin, IsWholeBody, HasPit, BodyRefused, BodyFails, BodyProves}
use Rattle.check_pit.specs.Prelude.{ClosesPit, IsOpenPit, SumsSettle, SumsFail, IsDone, EndFails}
use Rattle.certificate_file.proofs.Going.{Sound, sound, text_read}
use Rattle.certificate_file.proofs.Order.{InOrder, Good, stands_in_order, later_pits, ascending, known}
use Rattle.check_pit.proofs.LineFlows.{worth_is, sums_tell}
use Rattle.check_pit.proofs.RoomSums.{pit_more}
use Rattle.check_pit.proofs.Beginnings.{ends_more}
use Rattle.check_pit.proofs.FirstPits.{AllPits, first_after, first_all, all_pits}
use Rattle.check_pit.proofs.StreamReadings.{Reading, Ended, MetNext, next_of, Fails, line_met, reading_on, reading_ends}
use Rattle.check_pit.proofs.StreamReadings.{lines_begin, ended_stops, ended_whole}
use Rattle.fixed_worth.proofs.Bits.{not_true}
use Rattle.certificate_file.proofs.ValueLines.{pit_append}
use Rattle.certificate_file.proofs.SameLines.{pair_place}

-- What the room has of the lines so far.
pub record Summed (net : NetView) (previous : Option BodyLine) (room : RoomView) (ls : List BodyLine) : Type 0 where
  pub sums : AreSumsOf net ls room
  pub limits : KeepLimits net.worths ls
  pub made : room.is_pit ≡ is_after_pits previous
  pub closed : is_after_pits previous ≡ true → IsClosed net.pairs (holds_of (pit_of ls))

pub summed_begins : (net : NetView) (room : RoomView) → AreSumsOf net [] room → room.is_pit ≡ false
    → Summed net None room []
summed_begins net room s o = record {
  sums = s;
  limits = λ k d h. absurd (omega arith);
  made = o;
  closed = λ h. absurd
      (let z : false ≡ true = h in cc);
}

-- A line that is met has what the room asks for.
pub met_sound : (counts : Bool) (net : NetView) (previous : Option BodyLine) (line : BodyLine)
    → MetNext counts net previous line → Sound counts (length net.worths) line
met_sound counts net previous line m = sound counts (length net.worths) m.1.text line
    (text_read (line_of counts (length net.worths)) m.0 m.1 line m.2.read)

pit_after : (previous : Option BodyLine) (line : BodyLine) → may_follow previous line ≡ true → line.kind ≡ Pit
    → is_after_pits previous ≡ false
pit_after previous line h e = grind (arith, common_steps)

-- Behind a line of this kind the blocks of the room are a pit or not.
made_now : (net : NetView) (previous : Option BodyLine) (line : BodyLine) (before later : RoomView)
    → may_follow previous line ≡ true → ClosesPit net previous line.kind before later
    → later.is_pit ≡ not (is_pit line.kind)
made_now net previous line before later m c = c.made ∙ (grind (arith, common_steps))

sums_closed : (net : NetView) (previous : Option BodyLine) (kind : LineKind) (before later : RoomView)
    (ls : List BodyLine) → Summed net previous before ls → ClosesPit net previous kind before later
    → AreSumsOf net ls later
sums_closed net previous kind before later ls s c = c.sums ls s.sums

pub closed_now : (net : NetView) (previous : Option BodyLine) (kind : LineKind) (before later : RoomView)
    (ls : List BodyLine) → Summed net previous before ls → ClosesPit net previous kind before later
    → is_pit kind ≡ false → IsClosed net.pairs (holds_of (pit_of ls))
closed_now net previous kind before later ls s c f = grind (arith, common_steps)

-- The blocks of the lines so far ascend.
pub blocks_ascend : {R : Type 0} (remaining : R → Option (List ℕ)) (counts : Bool) (net : NetView)
    (start now : LineView R) (previous : Option BodyLine) (bytes : List ℕ) (ls : List BodyLine) (room : RoomView)
    → Reading remaining counts net start now previous bytes ls → Summed net previous room ls → IsAscending room.blocks
blocks_ascend remaining counts net start now previous bytes ls room r s = subst IsAscending (sym s.sums.blocks)
    (ascending counts (length net.worths) (has_pair net.pairs) None ls r.begins.order)

other_known : (net : NetView) (line : BodyLine) → IsRests (record { blocks = length net.worths; pairs = net.pairs })
    → is_of_model (has_pair net.pairs) line.kind line ≡ true → line.kind ≡ Rest → line.other < length net.worths
other_known net line r m e = grind (arith, common_steps, pair_place, known)

takes_at : (net : NetView) (line : BodyLine) (room : RoomView) (ls : List BodyLine) (kind : LineKind)
    → line.kind ≡ kind → room.is_pit ≡ not (is_pit kind) → room.blocks ≡ pit_of ls
    → IsAscending (pit_of (ls ++ line ∷ [])) → TakesBlock kind room line.block
takes_at net line room ls Pit e m b a = (
  m,
  subst IsAscending (pit_more ls line ∙ ap (λ (k : LineKind). pit_of ls ++ block_if_pit k line.block []) e
      ∙ ap (λ (bs : List ℕ). bs ++ line.block ∷ []) (sym b)) a,
)
takes_at net line room ls _ e m b a = tt

pub may_put : (counts : Bool) (net : NetView) (previous : Option BodyLine) (line : BodyLine) (before later : RoomView)
    (ls : List BodyLine) → IsRests (record { blocks = length net.worths; pairs = net.pairs })
    → Summed net previous before ls → ClosesPit net previous line.kind before later → MetNext counts net previous line
    → is_end line.kind ≡ false → InOrder (Good counts (length net.worths) (has_pair net.pairs)) None (ls ++ line ∷ [])
    → MayPut net later line
may_put counts net previous line before later ls r s c m e o =
    let a = sums_closed net previous line.kind before later ls s c in
    record {
      fits = a.fits;
      block = (met_sound counts net previous line m).block e;
      other = other_known net line r m.2.of_model;
      takes = takes_at net line later ls line.kind refl (made_now net previous line before later m.2.follows c)
          a.blocks (ascending counts (length net.worths) (has_pair net.pairs) None (ls ++ line ∷ []) o);
    }

pub same_pit : (ls : List BodyLine) (line : BodyLine) → is_pit line.kind ≡ false → pit_of (ls ++ line ∷ []) ≡ pit_of ls
same_pit ls line h = pit_more ls line ∙ ap (λ (bs : List ℕ). pit_of ls ++ bs) (grind (arith, common_steps))
    ∙ append-nil (pit_of ls)

one_kept : (net : NetView) (line : BodyLine) → keeps_by line.kind net.worths line
    → All (λ l. keeps_by l.kind net.worths l) (line ∷ [])
one_kept net line h k d i = grind (arith, common_steps)

-- One line on.
pub summed_on : (counts : Bool) (net : NetView) (previous : Option BodyLine) (line : BodyLine)
    (before mid later : RoomView) (ls : List BodyLine) → Summed net previous before ls
    → ClosesPit net previous line.kind before mid → MetNext counts net previous line
    → PutsLine net line mid later → keeps_by line.kind net.worths line → later.is_pit ≡ mid.is_pit
    → Summed net (Some line) later (ls ++ line ∷ [])
summed_on counts net previous line before mid later ls s c m p k i = record {
  sums = p ls (sums_closed net previous line.kind before mid ls s c);
  limits = All-append (λ l. keeps_by l.kind net.worths l) ls (line ∷ []) s.limits (one_kept net line k);
  made = i ∙ made_now net previous line before mid m.2.follows c;
  closed = λ h. let f = not_true (is_pit line.kind) h in subst (λ (bs : List ℕ). IsClosed net.pairs (holds_of bs))
      (sym (same_pit ls line f)) (closed_now net previous line.kind before mid ls s c f);
}

-- A line that is refused.
pub refused_as : (left : Option (List ℕ)) (taken : ℕ) (counts : Bool) (net : NetView) (body : List ℕ)
    (ls : List BodyLine) (line : BodyLine) (e : PitFault) → LinesBegin counts net body (ls ++ line ∷ [])
    → KeepLimits net.worths ls → LineRefused net ls line e → BodyRefused left taken counts net body e
refused_as left taken counts net body ls line pit_fault.Negative b k h = (ls, line, b, k, h)
refused_as left taken counts net body ls line (pit_fault.OverCapacity x) b k h = (ls, line, b, k, h)
refused_as left taken counts net body ls line pit_fault.TooLarge b k h = (ls, line, b, k, h)
refused_as left taken counts net body ls line _ b k h = absurd h

pub line_refused : {R : Type 0} (remaining : R → Option (List ℕ)) (counts : Bool) (net : NetView)
    (start now later : LineView R) (previous : Option BodyLine) (bytes : List ℕ) (ls : List BodyLine)
    (line : BodyLine) (before mid : RoomView) (e : PitFault) → Reading remaining counts net start now previous bytes ls
    → Summed net previous before ls → ClosesPit net previous line.kind before mid
    → TakesLine remaining (next_of counts net previous) now later line → is_end line.kind ≡ false
    → RefusesLine net line mid e → Fails remaining counts net start later (stream.Pit e)
line_refused remaining counts net start now later previous bytes ls line before mid e r s c t f h =
    let q = reading_on remaining counts net start now later previous bytes ls line r t f in (
      bytes ++ t.0,
      q.read,
      refused_as (remaining later.from) later.taken counts net (start.held ++ (bytes ++ t.0)) ls line e
          (lines_begin remaining counts net start later (Some line) (bytes ++ t.0) (ls ++ line ∷ []) q) s.limits
          (h ls (sums_closed net previous line.kind before mid ls s c)),
    )

-- The pit isn't closed: after a line that is none of its own, no other names a block.
no_pits : (bs : List ℕ) → ((i : ℕ) → i < length bs → ⊥) → bs ≡ []
no_pits bs h = grind (arith, common_steps)

pit_kind : (kind : LineKind) → kind ≡ Pit → is_pit kind ≡ false → ⊥
pit_kind kind e f = let z : true ≡ false = sym (ap is_pit e) ∙ f in cc

none_later : (counts : Bool) (net : NetView) (line : BodyLine) (k : ℕ) (left : List ℕ)
    → Sound counts (length net.worths) line → is_pit line.kind ≡ false
    → body_fault counts (length net.worths) (has_pair net.pairs) (Some line) k (pieces_of left) ≡ None
    → pit_of (lines_of_pieces counts (length net.worths) (pieces_of left)) ≡ []
none_later counts net line k left s f h =
    let n = length net.worths in
    let has : ℕ → ℕ → Bool = has_pair net.pairs in
    let rest = lines_of_pieces counts n (pieces_of left) in
    no_pits (pit_of rest) (λ i l. pit_kind line.kind
    (later_pits counts n has line rest s (stands_in_order counts n has (Some line) k (pieces_of left) h) i l).0 f)

pit_on : {R : Type 0} (remaining : R → Option (List ℕ)) (counts : Bool) (net : NetView) (start later : LineView R)
    (bytes : List ℕ) (ls : List BodyLine) (line : BodyLine)
    → Reading remaining counts net start later (Some line) bytes (ls ++ line ∷ [])
    → Sound counts (length net.worths) line → is_pit line.kind ≡ false
    → AllPits ls → HasPit counts net (start.held ++ bytes) (pit_of ls)
pit_on remaining counts net start later bytes ls line q s f a =
    let n = length net.worths in
    record {
      first = λ future. ap (λ (xs : List BodyLine). pit_of (first_pits xs)) (q.begins.lines future)
          ∙ ap pit_of (first_after ls (lines_of_pieces counts n (pieces_of (later.held ++ future))) line a f);
      all = λ future h.
          let none = none_later counts net line later.number (later.held ++ future) s f
          (sym (q.begins.same_fault future) ∙ h) in
          ap pit_of (q.begins.lines future)
          ∙ pit_append (ls ++ line ∷ []) (lines_of_pieces counts n (pieces_of (later.held ++ future)))
          ∙ ap (λ (bs : List ℕ). pit_of (ls ++ line ∷ []) ++ bs) none ∙ append-nil (pit_of (ls ++ line ∷ []))
          ∙ same_pit ls line f;
    }

pit_at_end : {R : Type 0} (remaining : R → Option (List ℕ)) (counts : Bool) (net : NetView) (start later : LineView R)
    (bytes : List ℕ) (ls : List BodyLine) → Ended remaining counts net start later bytes ls → AllPits ls
    → HasPit counts net (start.held ++ bytes) (pit_of ls)
pit_at_end remaining counts net start later bytes ls q a = grind (arith, common_steps, first_all)

open_as : (left : Option (List ℕ)) (taken : ℕ) (counts : Bool) (net : NetView) (body pit : List ℕ)
    (previous : Option BodyLine) (kind : LineKind) (e : PitFault)
    → (is_after_pits previous ≡ false → is_pit kind ≡ false → HasPit counts net body pit)
    → IsOpenPit net previous kind pit e → BodyRefused left taken counts net body e
open_as left taken counts net body pit previous kind e p h = grind (arith, common_steps)

-- Up to the first line of another kind they are PIT lines alone.
pits_so_far : {R : Type 0} (remaining : R → Option (List ℕ)) (counts : Bool) (net : NetView) (start now : LineView R)
    (previous : Option BodyLine) (bytes : List ℕ) (ls : List BodyLine)
    → Reading remaining counts net start now previous bytes ls → is_after_pits previous ≡ false → AllPits ls
pits_so_far remaining counts net start now previous bytes ls r h = grind (arith, common_steps, all_pits, pit_after)

open_at : {R : Type 0} (remaining : R → Option (List ℕ)) (counts : Bool) (net : NetView)
    (start now later : LineView R) (previous : Option BodyLine) (bytes : List ℕ) (ls : List BodyLine)
    (line : BodyLine) (e : PitFault) (t : Bool) → is_end line.kind ≡ t
    → Reading remaining counts net start now previous bytes ls
    → TakesLine remaining (next_of counts net previous) now later line
    → IsOpenPit net previous line.kind (pit_of ls) e → Fails remaining counts net start later (stream.Pit e)
open_at remaining counts net start now later previous bytes ls line e true i r t h =
    let q = reading_ends remaining counts net start now later previous bytes ls line r t i in (
      bytes ++ t.0,
      q.read,
      open_as (remaining later.from) later.taken counts net (start.held ++ (bytes ++ t.0))
          (pit_of ls) previous line.kind e
          (λ b f. pit_at_end remaining counts net start later (bytes ++ t.0) ls q
          (pits_so_far remaining counts net start now previous bytes ls r b)) h,
    )
open_at remaining counts net start now later previous bytes ls line e false i r t h =
    let q = reading_on remaining counts net start now later previous bytes ls line r t i in
    let s = met_sound counts net previous line (line_met remaining counts net now later previous line t) in (
      bytes ++ t.0,
      q.read,
      open_as (remaining later.from) later.taken counts net (start.held ++ (bytes ++ t.0))
          (pit_of ls) previous line.kind e
          (λ b f. pit_on remaining counts net start later (bytes ++ t.0) ls line q s f
          (pits_so_far remaining counts net start now previous bytes ls r b)) h,
    )

pub pit_open : {R : Type 0} (remaining : R → Option (List ℕ)) (counts : Bool) (net : NetView)
    (start now later : LineView R) (previous : Option BodyLine) (bytes : List ℕ) (ls : List BodyLine)
    (line : BodyLine) (before : RoomView) (e : PitFault) → Reading remaining counts net start now previous bytes ls
    → Summed net previous before ls → TakesLine remaining (next_of counts net previous) now later line
    → IsOpenPit net previous line.kind before.blocks e → Fails remaining counts net start later (stream.Pit e)
pit_open remaining counts net start now later previous bytes ls line before e r s t h =
    open_at remaining counts net start now later previous bytes ls line e (is_end line.kind) refl r t
    (subst (λ (bs : List ℕ). IsOpenPit net previous line.kind bs e) s.sums.blocks h)

-- All lines were read.
pub record AllRead (net : NetView) (room : RoomView) (ls : List BodyLine) : Type 0 where
  pub sums : AreSumsOf net ls room
  pub limits : KeepLimits net.worths ls
  pub closed : IsClosed net.pairs (holds_of (pit_of ls))

tells : (counts : Bool) (net : NetView) (body : List ℕ)
    → IsRests (record { blocks = length net.worths; pairs = net.pairs }) → fault_of_body counts net body ≡ None
    → LinesTell net (lines_of_body counts net body)
tells counts net body r h = sums_tell counts net 4 (pieces_of body) r h

settled : (counts : Bool) (net : NetView) (room : RoomView) (ls : List BodyLine)
    (order : InOrder (Good counts (length net.worths) (has_pair net.pairs)) None ls) → LinesTell net ls
    → AllRead net room ls → SumsSettle net room → ProvesPit net (flow_by net ls) (pit_of ls)
settled counts net room ls o t a s = grind (arith, common_steps, known)

-- The lines prove the pit.
pub proves_at : (left : Option (List ℕ)) (taken : ℕ) (counts : Bool) (net : NetView) (body : List ℕ) (room : RoomView)
    (ls : List BodyLine) → IsRests (record { blocks = length net.worths; pairs = net.pairs })
    → IsWholeBody left taken counts net body → lines_of_body counts net body ≡ ls → AllRead net room ls
    → SumsSettle net room
    → BodyProves left taken counts net body room.blocks
proves_at left taken counts net body room ls r w same a s = grind (arith, common_steps, stands_in_order, tells, settled)

-- They don't.
fails_at : (left : Option (List ℕ)) (taken : ℕ) (counts : Bool) (net : NetView) (body : List ℕ) (room : RoomView)
    (e : PitFault) → LinesTell net (lines_of_body counts net body) → IsWholeBody left taken counts net body
    → AreSumsOf net (lines_of_body counts net body) room → SumsFail net room e
    → BodyRefused left taken counts net body e
fails_at left taken counts net body room (pit_fault.Unbalanced b) t w s h = grind (arith, common_steps)
fails_at left taken counts net body room pit_fault.NotTight t w s h = grind (arith, common_steps)
fails_at left taken counts net body room e t w s h = absurd h

-- The pit of an accepted body is a greatest closed set, and the room has what it is worth.
pub accepted_worth : (left : Option (List ℕ)) (taken : ℕ) (counts : Bool) (net : NetView) (body pit : List ℕ)
    → BodyProves left taken counts net body pit → group_worth net.worths (holds_of pit) ≡ worth_of_blocks net.worths pit
accepted_worth left taken counts net body pit p =
    let order = stands_in_order counts (length net.worths) (has_pair net.pairs) None 4 (pieces_of body) p.whole.none in
    worth_is net.worths pit (subst IsAscending (sym p.denotes.pit)
    (ascending counts (length net.worths) (has_pair net.pairs) None (lines_of_body counts net body) order))
    p.proves.of_net

pub accepted_greatest : (left : Option (List ℕ)) (taken : ℕ) (counts : Bool) (net : NetView) (body pit : List ℕ)
    → IsRests (record { blocks = length net.worths; pairs = net.pairs }) → BodyProves left taken counts net body pit
    → IsGreatest net (holds_of pit)
accepted_greatest left taken counts net body pit r p = greatest_from_tight net
    (flow_by net (lines_of_body counts net body)) (holds_of pit) r.known p.proves.is_flow p.proves.closed p.proves.tight

-- What a check answers.
pub record Answered {R T : Type 0} (remaining : R → Option (List ℕ)) (counts : Bool) (net : NetView)
    (start later : LineView R) (room : RoomView) (result : Result T StreamFault) : Type 0 where
  pub checked : (bytes : List ℕ) × ReadsOn remaining start later bytes
      × MatchResult result (λ x. BodyProves (remaining later.from) later.taken counts net (start.held ++ bytes)
      room.blocks) (λ e. BodyFails (remaining later.from) later.taken counts net (start.held ++ bytes) e)
  pub worth : IfOk result (λ x. room.worth ≡ group_worth net.worths (holds_of room.blocks))
  pub greatest : IfOk result (λ x. IsGreatest net (holds_of room.blocks))

answered_at : {R T : Type 0} (remaining : R → Option (List ℕ)) (counts : Bool) (net : NetView)
    (start later : LineView R) (bytes : List ℕ) (ls : List BodyLine) (room : RoomView) (result : Result T StreamFault)
    → IsRests (record { blocks = length net.worths; pairs = net.pairs })
    → Ended remaining counts net start later bytes ls → AllRead net room ls
    → MatchResult result (λ x. IsDone (remaining later.from) later × SumsSettle net room)
    (λ e. EndFails (remaining later.from) net room later e) → Answered remaining counts net start later room result
answered_at remaining counts net start later bytes ls room (Ok x) r q a h =
    let d = h.0 in
    let body = start.held ++ bytes in
    let w = ended_whole remaining counts net start later bytes ls q d.ends d.none d.few in
    let proves = proves_at (remaining later.from) later.taken counts net body room ls r w.0 w.1 a h.1 in
    record {
      checked = (bytes, q.read, proves);
      worth = a.sums.worth ∙ sym (ap (worth_of_blocks net.worths) a.sums.blocks)
          ∙ sym (accepted_worth (remaining later.from) later.taken counts net body room.blocks proves);
      greatest = accepted_greatest (remaining later.from) later.taken counts net body room.blocks r proves;
    }
answered_at remaining counts net start later bytes ls room (Err e) r q a h = grind
    (arith, common_steps, ends_more, ended_whole, fails_at, tells)

pub end_answered : {R T : Type 0} (remaining : R → Option (List ℕ)) (counts : Bool) (net : NetView)
    (start now mid later : LineView R) (previous : Option BodyLine) (bytes : List ℕ) (ls : List BodyLine)
    (line : BodyLine) (before room : RoomView) (result : Result T StreamFault)
    → IsRests (record { blocks = length net.worths; pairs = net.pairs })
    → Reading remaining counts net start now previous bytes ls → Summed net previous before ls
    → ClosesPit net previous line.kind before room
    → TakesLine remaining (next_of counts net previous) now mid line → is_end line.kind ≡ true
    → ReadsSome remaining mid later
    → MatchResult result (λ x. IsDone (remaining later.from) later × SumsSettle net room)
    (λ e. EndFails (remaining later.from) net room later e) → Answered remaining counts net start later room result
end_answered remaining counts net start now mid later previous bytes ls line before room result r q s c t e m h =
    let ended = ended_stops remaining counts net start mid later (bytes ++ t.0) m.0 ls
    (reading_ends remaining counts net start now mid previous bytes ls line q t e) m.1 in
    let all : AllRead net room ls = record {
      sums = sums_closed net previous line.kind before room ls s c;
      limits = s.limits;
      closed = closed_now net
          previous line.kind before room ls s c (grind (arith, common_steps));
    } in
    answered_at remaining counts net start later ((bytes ++ t.0) ++ m.0) ls room result r ended all h
