-- Two lists of lines in order that say the same are the same.
use Rattle.fixed_worth.proofs.Common.{◌≡◌, ℕ, suc, ◌<◌, Bool, true, false, eqb, ◌⊎◌, inl, inr, List, [], ◌∷◌, length}
use Rattle.fixed_worth.proofs.Common.{get_or, Option, refl, sym, ap, ◌∙◌, subst, arith, eqb-true, eq-eqb, ◌&&◌, ◌||◌}
use Rattle.fixed_worth.proofs.Common.{nat_tests, common_steps}
use Rattle.ordered_group.specs.Prelude.{Amount, zero_amount, amount_at}
use Rattle.closure_net.specs.Network.{FlowView}
use Rattle.certificate_file.specs.declared.body_lines.LineKind.{LineKind}
use Rattle.certificate_file.specs.declared.body_lines.LineKind.TheVariants.{Pit, Source, Rest, Sink, End}
use Rattle.certificate_file.specs.declared.body_lines.BodyLine.{BodyLine}
use Rattle.certificate_file.specs.Prelude.{is_of_model, DenotesFlow, pit_of, block_if_pit, amount_of, given_amount}
use Rattle.certificate_file.specs.Prelude.{gives_source, gives_rest, gives_sink, is_source, is_rest, is_sink}
use Rattle.prec_file.specs.Rests.{has_pair}
use Rattle.certificate_file.proofs.Going.{carries}
use Rattle.certificate_file.proofs.Order.{InOrder}
use Rattle.certificate_file.proofs.LineOrder.{Has, has_good, same_lines, Proper, Found, found, Tells, given_by}

source_kind : (k : LineKind) (t : Bool) → (is_source k && t) ≡ true → (k ≡ Source) × (t ≡ true)
source_kind k t h = grind (arith, common_steps)

rest_kind : (k : LineKind) (t : Bool) → (is_rest k && t) ≡ true → (k ≡ Rest) × (t ≡ true)
rest_kind k t h = grind (arith, common_steps)

sink_kind : (k : LineKind) (t : Bool) → (is_sink k && t) ≡ true → (k ≡ Sink) × (t ≡ true)
sink_kind k t h = grind (arith, common_steps)

two_same : (x y u v : ℕ) → (eqb x y && eqb u v) ≡ true → (x ≡ y) × (u ≡ v)
two_same x y u v h = (grind (arith, nat_tests), grind (arith, nat_tests))

both_same : (x y u v : ℕ) → x ≡ y → u ≡ v → (eqb x y && eqb u v) ≡ true
both_same x y u v e f = grind (arith, nat_tests)

pub source_so : (b : ℕ) (l : BodyLine) → gives_source b l ≡ true → (l.kind ≡ Source) × (l.block ≡ b)
source_so b l h = let q = source_kind l.kind (eqb l.block b) h in (q.0, eqb-true l.block b q.1)

pub sink_so : (b : ℕ) (l : BodyLine) → gives_sink b l ≡ true → (l.kind ≡ Sink) × (l.block ≡ b)
sink_so b l h = let q = sink_kind l.kind (eqb l.block b) h in (q.0, eqb-true l.block b q.1)

pub rest_so : (x : ℕ × ℕ) (l : BodyLine) → gives_rest x l ≡ true → (l.kind ≡ Rest) × (x.0 ≡ l.block) × (x.1 ≡ l.other)
rest_so x l h = let q = rest_kind l.kind (eqb x.0 l.block && eqb x.1 l.other) h in let r = two_same x.0 l.block x.1
    l.other q.1 in (q.0, r.0, r.1)

not_rest : (l : BodyLine) (k : LineKind) → l.kind ≡ k → is_rest k ≡ false → is_rest l.kind ≡ false
not_rest l k e f = ap is_rest e ∙ f

pub tells_source : (n : ℕ) (has : ℕ → ℕ → Bool) (b : ℕ) → Tells (Proper n has) (gives_source b)
tells_source n has b l m p q g h above = grind (arith, common_steps)

pub tells_sink : (n : ℕ) (has : ℕ → ℕ → Bool) (b : ℕ) → Tells (Proper n has) (gives_sink b)
tells_sink n has b l m p q g h above = grind (arith, common_steps)

pub tells_rest : (n : ℕ) (has : ℕ → ℕ → Bool) (r : ℕ × ℕ) → Tells (Proper n has) (gives_rest r)
tells_rest n has r l m p q g h above = grind (arith, common_steps)

-- An amount that one list gives, the other gives.
given_too : (n : ℕ) (has : ℕ → ℕ → Bool) (gives : BodyLine → Bool) (p q : Option BodyLine) (ls ms : List BodyLine)
    (l : BodyLine) (x : Amount) → Tells (Proper n has) gives → InOrder (Proper n has) p ls
    → InOrder (Proper n has) q ms → Has l ls → gives l ≡ true → carries l.kind ≡ true
    → x ≡ given_amount gives zero_amount ls → x ≡ given_amount gives zero_amount ms → Found gives (amount_of l) ms
given_too n has gives p q ls ms l x t o r h g c e f = grind
    (arith, common_steps, given_by, Proper, has_good, found, Found)

-- A block that one list has in its pit, the other has.
abbrev HasBlock : ℕ → List ℕ → Type 0
HasBlock b [] = ⊥
HasBlock b (x ∷ xs) = (x ≡ b) ⊎ HasBlock b xs

block_more : (k : LineKind) (b x : ℕ) (bs : List ℕ) → HasBlock b bs → HasBlock b (block_if_pit k x bs)
block_more k b x bs h = grind (arith, common_steps)

pit_has : (l : BodyLine) (ls : List BodyLine) → l.kind ≡ Pit → Has l ls → HasBlock l.block (pit_of ls)
pit_has l [] e h = absurd h
pit_has l (m ∷ ms) e h = elim h [
  | inl i ↦
      let first : HasBlock l.block (block_if_pit Pit m.block (pit_of ms)) = inl (ap (λ (x : BodyLine). x.block) i) in
      subst (λ (k : LineKind). HasBlock l.block (block_if_pit k m.block (pit_of ms)))
      (sym (ap (λ (x : BodyLine). x.kind) i ∙ e)) first
  | inr i ↦ block_more m.kind l.block m.block (pit_of ms) (pit_has l ms e i)
]

record InPit (b : ℕ) (ls : List BodyLine) : Type 0 where
  line : BodyLine
  held : Has line ls
  kind_is : line.kind ≡ Pit
  block_is : line.block ≡ b

pit_found_at : (b : ℕ) (m : BodyLine) (ms : List BodyLine) (k : LineKind) → m.kind ≡ k
    → (HasBlock b (pit_of ms) → InPit b ms) → HasBlock b (block_if_pit k m.block (pit_of ms)) → InPit b (m ∷ ms)
pit_found_at b m ms k e ih h = grind (arith, common_steps)

pit_found : (b : ℕ) (ms : List BodyLine) → HasBlock b (pit_of ms) → InPit b ms
pit_found b [] h = absurd h
pit_found b (m ∷ ms) h = pit_found_at b m ms m.kind refl (pit_found b ms) h

-- A pair that the test has stands at some place.
pair_at_first : (b p : ℕ) (q : ℕ × ℕ) (qs : List (ℕ × ℕ)) (t : Bool) → (eqb q.0 b && eqb q.1 p) ≡ t
    → (t || has_pair qs b p) ≡ true
    → (has_pair qs b p ≡ true → (k : ℕ) × (k < length qs) × (get_or qs k (0, 0) ≡ (b, p))) → (k : ℕ)
    × (k < length (q ∷ qs)) × (get_or (q ∷ qs) k (0, 0) ≡ (b, p))
pair_at_first b p q qs true e h ih = let r = two_same q.0 b q.1 p e in (0, omega arith, λ i. (r.0 i, r.1 i))
pair_at_first b p q qs false e h ih = let r = ih h in (suc r.0, omega (arith, r.1), r.2)

pub pair_place : (b p : ℕ) (qs : List (ℕ × ℕ)) → has_pair qs b p ≡ true → (k : ℕ) × (k < length qs)
    × (get_or qs k (0, 0) ≡ (b, p))
pair_place b p [] h = absurd (let z : false ≡ true = h in cc)
pair_place b p (q ∷ qs) h = pair_at_first b p q qs (eqb q.0 b && eqb q.1 p) refl h (pair_place b p qs)

-- A line of the one is a line of the other.
record Said (n : ℕ) (pairs : List (ℕ × ℕ)) (blocks : List ℕ) (flow : FlowView) (p : Option BodyLine)
    (ls : List BodyLine) : Type 0 where
  order : InOrder (Proper n (has_pair pairs)) p ls
  says : DenotesFlow n pairs ls blocks flow

is_same : (n : ℕ) (has : ℕ → ℕ → Bool) (q : Option BodyLine) (ms : List BodyLine) (l m : BodyLine) → Has m ms
    → m.kind ≡ l.kind → m.block ≡ l.block → m.other ≡ l.other → amount_of m ≡ amount_of l → Has l ms
is_same n has q ms l m h a b c d = subst (λ (x : BodyLine). Has x ms)
    (λ i. record { kind = a i; block = b i; other = c i; worth = (d i).w; count = (d i).c }) h

moved : (n : ℕ) (pairs : List (ℕ × ℕ)) (blocks : List ℕ) (flow : FlowView) (p q : Option BodyLine)
    (ls ms : List BodyLine) → Said n pairs blocks flow p ls → Said n pairs blocks flow q ms
    → (l : BodyLine) (k : LineKind) → l.kind ≡ k → Has l ls → Has l ms
moved n pairs blocks flow p q ls ms s t l Pit e h =
    let mine = has_good (Proper n (has_pair pairs)) p ls s.order l h in
    let f = pit_found l.block ms (subst (HasBlock l.block) (sym s.says.pit ∙ t.says.pit) (pit_has l ls e h)) in
    let other = has_good (Proper n (has_pair pairs)) q ms t.order f.line f.held in
    is_same n (has_pair pairs) q ms l f.line f.held (f.kind_is ∙ sym e) f.block_is
    (other.other (not_rest f.line Pit f.kind_is refl) ∙ sym (mine.other (not_rest l Pit e refl)))
    (other.none f.kind_is ∙ sym (mine.none e))
moved n pairs blocks flow p q ls ms s t l Source e h =
    let mine = has_good (Proper n (has_pair pairs)) p ls s.order l h in
    let gives : gives_source l.block l ≡ true = ap (λ (k : LineKind). is_source k && eqb l.block l.block) e
    ∙ eq-eqb l.block l.block refl in
    let f = given_too n (has_pair pairs) (gives_source l.block) p q ls ms l (amount_at flow.source l.block)
    (tells_source n (has_pair pairs) l.block) s.order t.order h gives (ap carries e)
    (s.says.source l.block mine.block) (t.says.source l.block mine.block) in
    let so = source_so l.block f.line f.so in
    let other = has_good (Proper n (has_pair pairs)) q ms t.order f.line f.held in
    is_same n (has_pair pairs) q ms l f.line f.held (so.0 ∙ sym e) so.1
    (other.other (not_rest f.line Source so.0 refl) ∙ sym (mine.other (not_rest l Source e refl))) f.amount
moved n pairs blocks flow p q ls ms s t l Sink e h =
    let mine = has_good (Proper n (has_pair pairs)) p ls s.order l h in
    let gives : gives_sink l.block l ≡ true = ap (λ (k : LineKind). is_sink k && eqb l.block l.block) e
    ∙ eq-eqb l.block l.block refl in
    let f = given_too n (has_pair pairs) (gives_sink l.block) p q ls ms l (amount_at flow.sink l.block)
    (tells_sink n (has_pair pairs) l.block) s.order t.order h gives (ap carries e)
    (s.says.sink l.block mine.block) (t.says.sink l.block mine.block) in
    let so = sink_so l.block f.line f.so in
    let other = has_good (Proper n (has_pair pairs)) q ms t.order f.line f.held in
    is_same n (has_pair pairs) q ms l f.line f.held (so.0 ∙ sym e) so.1 (other.other (not_rest f.line Sink so.0 refl)
    ∙ sym (mine.other (not_rest l Sink e refl))) f.amount
moved n pairs blocks flow p q ls ms s t l Rest e h =
    let mine = has_good (Proper n (has_pair pairs)) p ls s.order l h in
    let known : has_pair pairs l.block l.other ≡ true = subst
    (λ (k : LineKind). is_of_model (has_pair pairs) k l ≡ true) e mine.pair in
    let place = pair_place l.block l.other pairs known in
    let pair : ℕ × ℕ = get_or pairs place.0 (0, 0) in
    let at_block : pair.0 ≡ l.block = ap (λ (x : ℕ × ℕ). x.0) place.2 in
    let at_other : pair.1 ≡ l.other = ap (λ (x : ℕ × ℕ). x.1) place.2 in
    let gives : gives_rest pair l ≡ true = ap
    (λ (k : LineKind). is_rest k && (eqb pair.0 l.block && eqb pair.1 l.other)) e
    ∙ both_same pair.0 l.block pair.1 l.other at_block at_other in
    let f = given_too n (has_pair pairs) (gives_rest pair) p q ls ms l (amount_at flow.rest place.0)
    (tells_rest n (has_pair pairs) pair) s.order t.order h gives (ap carries e) (s.says.rest place.0 place.1)
    (t.says.rest place.0 place.1) in
    let so = rest_so pair f.line f.so in
    is_same n (has_pair pairs) q ms l f.line f.held (so.0 ∙ sym e) (sym so.1 ∙ at_block) (sym so.2 ∙ at_other) f.amount
moved n pairs blocks flow p q ls ms s t l End e h = grind (arith, common_steps, has_good, Proper)

pub say_the_same : (n : ℕ) (pairs : List (ℕ × ℕ)) (blocks : List ℕ) (flow : FlowView) (p q : Option BodyLine)
    (ls ms : List BodyLine) → InOrder (Proper n (has_pair pairs)) p ls → InOrder (Proper n (has_pair pairs)) q ms
    → DenotesFlow n pairs ls blocks flow → DenotesFlow n pairs ms blocks flow → ls ≡ ms
say_the_same n pairs blocks flow p q ls ms o r d e = grind (arith, common_steps, same_lines, Proper, moved)
