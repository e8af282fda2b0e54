-- The step of the machine that is next for a block, as its word shows it: what the block's operation and the labels
-- become.
use Rattle.fixed_worth.proofs.Common.{◌≡◌, ◌≢◌, ℕ, ◌+◌, ◌<◌, Option, Some, None, List, All, length, get_or, refl, ap}
use Rattle.fixed_worth.proofs.Common.{sym, ◌∙◌, arith, get_or-set_other, get_or-set_same, cases_eq, slice_get}
use Rattle.fixed_worth.proofs.Common.{option_map, common_steps}
use Rattle.ordered_group.specs.Amount.{Amount}
use Rattle.prec_file.specs.Rests.{IsKnown}
use Rattle.closure_net.specs.Prelude.{NetView, ports}
use Rattle.closure_net.specs.declared.port.Port.{Port}
use Rattle.closure_net.specs.declared.port.PortKind.{PortKind}
use Rattle.machine_law.specs.declared.operations.Best.{Best}
use Rattle.machine_law.specs.declared.operations.Operation.{Operation}
use Rattle.machine_law.specs.declared.operations.Operation.TheVariants.{Idle, Scan, PushDue, TakeDue, GiveDue, RaiseDue}
use Rattle.machine_law.specs.Prelude.{best_as, operation_as, with_value_at, IsEnd, label_beyond, operation_begun_with}
use Rattle.machine_law.specs.Prelude.{after_label, after_look, after_look_by, after_label_at, push_amount}
use Rattle.machine_law.specs.Prelude.{after_push_by, after_give_by, advance_by}
use Rattle.machine_law.specs.States as law
use Rattle.machine_law.proofs.Points.{with_value_at-same, with_value_at-other}
use Rattle.machine_law.proofs.Naturality.{after_label-as}
use Rattle.machine_law.proofs.PortLists.{port_with, port-at}
use Rattle.word_steps.specs.Prelude.{units, count, Cells, look_word, look_word_at, label_word_at, word_of}
use Rattle.word_steps.specs.Prelude.{operation_begun_by_word, after_look_word, after_look_word_if, after_label_word_if}
use Rattle.word_steps.specs.Prelude.{after, push_units, labels_after}

-- ---- reads over units
begun_units : (x : ℕ) → operation_begun_with (units x) ≡ operation_as units (operation_begun_by_word x)
begun_units x = grind (arith, common_steps)

pub push_of_units : (have : ℕ) (kind : PortKind) (read : ℕ)
    → push_amount (units have) kind (units read) ≡ units (push_units have kind read)
push_of_units have kind read = grind (arith, common_steps)

-- the other end of a port is a block
pub other_within : (net : NetView) (b : ℕ) (kind : PortKind) (other slot : ℕ) → All (IsKnown (count net)) net.pairs
    → b < count net → IsEnd net b kind other slot → other < count net
other_within net b kind other slot known lb q = grind (arith, common_steps)

module _ (net : NetView) (known : All (IsKnown (count net)) net.pairs) (t : law.State) (ws : List ℕ)
    (c : Cells net t ws) (b : ℕ) (lb : b < count net) where
  looked_shown : (have place : ℕ) (best : Option (Best ℕ)) (kind : PortKind) (other slot : ℕ)
      → IsEnd net b kind other slot
      → after_look_by net t b (units have) place (option_map (best_as units) best) (port_with kind other slot) kind
      ≡ operation_as units (after_look_word net b (t.label b) have place best (port_with kind other slot) kind
      (get_or ws (look_word net b kind other slot) 0))
  looked_shown have place best kind other slot q = grind (arith, common_steps, port_with, other_within, after_label-as)

  looked_shown_if : (have place : ℕ) (best : Option (Best ℕ)) (q : Option Port) → slice_get (ports net b) place ≡ q
      → after_look net t b (units have) place (option_map (best_as units) best) q ≡ operation_as units
      (after_look_word_if net b (t.label b) have place best q (get_or ws (look_word_at net b q) 0))
  looked_shown_if have place best None e = refl
  looked_shown_if have place best (Some p) e = looked_shown have place best p.kind p.other p.slot
      (port-at net b place p e)

  weighed_shown_if : (have place : ℕ) (best : Option (Best ℕ)) (read : ℕ) (q : Option Port)
      → slice_get (ports net b) place ≡ q
      → after_label_at net t b (units have) place (option_map (best_as units) best) (units read) q
      ≡ operation_as units (after_label_word_if net b (t.label b) have place best read q
      (get_or ws (label_word_at net q) 0))
  weighed_shown_if have place best read None e = refl
  weighed_shown_if have place best read (Some p) e =
      ap (λ h. after_label (length (ports net b)) (t.label b) (units have) place (option_map (best_as units) best)
      (units read) p (label_beyond net p.kind h))
      (c.label p.other (other_within net b p.kind p.other p.slot known lb (port-at net b place p e)))
      ∙ sym (after_label-as units (length (ports net b)) (t.label b) have place best read p _)

  given_operation : (d : Amount) (p : Port) (kind : PortKind)
      → (after_give_by t b d p kind).operation ≡ with_value_at t.operation b Idle
  given_operation d p kind = grind (arith, common_steps)

  pub operation_shown : (o : Operation ℕ) → (advance_by net t b (operation_as units o)).operation
      ≡ with_value_at t.operation b (operation_as units (after net b (t.label b) o (get_or ws (word_of net b o) 0)))
  operation_shown o = grind
      (arith, common_steps, begun_units, looked_shown_if, weighed_shown_if, push_of_units, given_operation)

  -- ---- labels
  pushed_label : (d : Amount) (p : Port) (kind : PortKind) → (after_push_by t b d p kind).label ≡ t.label
  pushed_label d p kind = grind (arith, common_steps)

  given_label : (d : Amount) (p : Port) (kind : PortKind) → (after_give_by t b d p kind).label ≡ t.label
  given_label d p kind = grind (arith, common_steps)

  abbrev LabelsTo : Operation ℕ → Type 0
  LabelsTo o = (labels : List ℕ) → b < length labels → (x : ℕ) → t.label x ≡ get_or labels x 0
      → (advance_by net t b (operation_as units o)).label x ≡ get_or (labels_after labels b o) x 0

  pub labels_shown : (o : Operation ℕ) → LabelsTo o
  labels_shown Idle labels l x e = e
  labels_shown (Scan have place None best) labels l x e = e
  labels_shown (Scan have place (Some read) best) labels l x e = e
  labels_shown (PushDue have best) labels l x e = ap (λ f. f x)
      (pushed_label (push_amount (units have) best.port.kind (units best.capacity)) best.port best.port.kind) ∙ e
  labels_shown (TakeDue d p) labels l x e = e
  labels_shown (GiveDue d p) labels l x e = ap (λ f. f x) (given_label (units d) p p.kind) ∙ e
  labels_shown (RaiseDue have best) labels l x e = grind
      (arith, common_steps, cases_eq, with_value_at-same, get_or-set_same, with_value_at-other, get_or-set_other)

  pub labels_else : (o : Operation ℕ) (x : ℕ) → x ≢ b → (advance_by net t b (operation_as units o)).label x ≡ t.label x
  labels_else Idle x ne = refl
  labels_else (Scan have place None best) x ne = refl
  labels_else (Scan have place (Some read) best) x ne = refl
  labels_else (PushDue have best) x ne = ap (λ f. f x)
      (pushed_label (push_amount (units have) best.port.kind (units best.capacity)) best.port best.port.kind)
  labels_else (TakeDue d p) x ne = refl
  labels_else (GiveDue d p) x ne = ap (λ f. f x) (given_label (units d) p p.kind)
  labels_else (RaiseDue have best) x ne = with_value_at-other t.label b (best.label + 1) x ne
