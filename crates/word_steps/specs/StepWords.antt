-- The word that a step is at, what it becomes, and the operation after the step.
use Rattle.std.specs.Prelude.{ℕ, ◌+◌, ◌-◌, if◌then◌else◌, nat_lt, length, slice_get, Option, Some, None}
use Rattle.closure_net.specs.Prelude.{NetView, ports}
use Rattle.closure_net.specs.declared.port.Port.{Port}
use Rattle.closure_net.specs.declared.port.PortKind.{PortKind}
use Rattle.closure_net.specs.declared.port.PortKind.TheVariants.{Sink, Forward, Backward, Source}
use Rattle.machine_law.specs.declared.operations.Best.{Best}
use Rattle.machine_law.specs.declared.operations.Operation.{Operation}
use Rattle.machine_law.specs.declared.operations.Operation.TheVariants.{Idle, Scan, PushDue, TakeDue, GiveDue, RaiseDue}
use Rattle.machine_law.specs.Prelude.{label_beyond, after_port, after_label}
use Rattle.word_steps.specs.Layout.{excess_at, label_at, source_at, room_at, flow_at}

abbrev pub capacity_word : NetView → ℕ → PortKind → ℕ → ℕ
capacity_word net b Sink slot = room_at net b
capacity_word net b Forward slot = flow_at net slot
capacity_word net b Backward slot = flow_at net slot
capacity_word net b Source slot = source_at net b

-- where the capacity of the port isn't read
abbrev pub look_word : NetView → ℕ → PortKind → ℕ → ℕ → ℕ
look_word net b Sink other slot = room_at net b
look_word net b Forward other slot = label_at net other
look_word net b Backward other slot = flow_at net slot
look_word net b Source other slot = source_at net b

abbrev pub look_word_at : NetView → ℕ → Option Port → ℕ
look_word_at net b None = 0
look_word_at net b (Some port) = look_word net b port.kind port.other port.slot

-- at the sink and the source, whose labels are constant, the block's own label
abbrev pub label_word_at : NetView → Option Port → ℕ
label_word_at net None = 0
label_word_at net (Some port) = label_at net port.other

abbrev pub landing_word : NetView → PortKind → ℕ → ℕ
landing_word net Sink other = 1
landing_word net Forward other = excess_at net other
landing_word net Backward other = excess_at net other
landing_word net Source other = 0

-- the word of the step that is next for b, which has this operation
abbrev pub word_of : NetView → ℕ → Operation ℕ → ℕ
word_of net b Idle = excess_at net b
word_of net b (Scan have place None best) = look_word_at net b (slice_get (ports net b) place)
word_of net b (Scan have place (Some read) best) = label_word_at net (slice_get (ports net b) place)
word_of net b (PushDue have best) = capacity_word net b best.port.kind best.port.slot
word_of net b (TakeDue d port) = excess_at net b
word_of net b (GiveDue d port) = landing_word net port.kind port.other
word_of net b (RaiseDue have best) = label_at net b

-- ---- what the word becomes
abbrev pub smaller_of : ℕ → ℕ → ℕ
smaller_of have capacity = if nat_lt capacity have then capacity else have

-- the units of a push over a port of this kind
abbrev pub push_units : ℕ → PortKind → ℕ → ℕ
push_units have Forward read = have
push_units have _ read = smaller_of have read

abbrev pub word_after_push : PortKind → ℕ → ℕ → ℕ
word_after_push Forward d x = x + d
word_after_push _ d x = x - d

abbrev pub word_after : Operation ℕ → ℕ → ℕ
word_after Idle x = x
word_after (Scan have place read best) x = x
word_after (PushDue have best) x = word_after_push best.port.kind (push_units have best.port.kind best.capacity) x
word_after (TakeDue d port) x = x - d
word_after (GiveDue d port) x = x + d
word_after (RaiseDue have best) x = best.label + 1

-- ---- what the operation becomes, where the word was x
abbrev pub operation_begun_by_word : ℕ → Operation ℕ
operation_begun_by_word x = if nat_lt 0 x then Scan x 0 None None else Idle

abbrev pub after_capacity_word : ℕ → ℕ → ℕ → ℕ → Option (Best ℕ) → ℕ → Operation ℕ
after_capacity_word ports label have place best x = if nat_lt 0 x then Scan have place (Some x) best else after_port
    ports label have place best

abbrev pub after_look_word : NetView → ℕ → ℕ → ℕ → ℕ → Option (Best ℕ) → Port → PortKind → ℕ → Operation ℕ
after_look_word net b label have place best port Forward x = after_label (length (ports net b)) label have place best
    0 port (label_beyond net Forward x)
after_look_word net b label have place best port _ x = after_capacity_word (length (ports net b)) label have place
    best x

abbrev pub after_look_word_if : NetView → ℕ → ℕ → ℕ → ℕ → Option (Best ℕ) → Option Port → ℕ → Operation ℕ
after_look_word_if net b label have place best None x = Idle
after_look_word_if net b label have place best (Some port) x = after_look_word net b label have place best port
    port.kind x

abbrev pub after_label_word_if : NetView → ℕ → ℕ → ℕ → ℕ → Option (Best ℕ) → ℕ → Option Port → ℕ → Operation ℕ
after_label_word_if net b label have place best read None x = Idle
after_label_word_if net b label have place best read (Some port) x = after_label (length (ports net b)) label have
    place best read port (label_beyond net port.kind x)

-- b has this label
abbrev pub after : NetView → ℕ → ℕ → Operation ℕ → ℕ → Operation ℕ
after net b label Idle x = operation_begun_by_word x
after net b label (Scan have place None best) x = after_look_word_if net b label have place best
    (slice_get (ports net b) place) x
after net b label (Scan have place (Some read) best) x = after_label_word_if net b label have place best read
    (slice_get (ports net b) place) x
after net b label (PushDue have best) x = TakeDue (push_units have best.port.kind best.capacity) best.port
after net b label (TakeDue d port) x = GiveDue d port
after net b label (GiveDue d port) x = Idle
after net b label (RaiseDue have best) x = Idle
