-- One word changes: what the words show.
use Rattle.fixed_worth.proofs.Common.{◌≡◌, ◌≢◌, ℕ, ◌<◌, List, length, get_or, set, sym, ap, ◌∙◌, arith, length-set}
use Rattle.fixed_worth.proofs.Common.{get_or-set_same, get_or-set_other, common_steps}
use Rattle.ordered_group.specs.Prelude.{Amount, minus, negative, amount_at}
use Rattle.closure_net.specs.Network.{NetView}
use Rattle.machine_law.specs.declared.operations.Operation.{Operation}
use Rattle.machine_law.specs.States as law
use Rattle.machine_law.specs.States.{with_value_at}
use Rattle.machine_law.proofs.Points.{with_value_at-each}
use Rattle.word_steps.specs.Layout.{units, count, Cells, excess_at, label_at, source_at, room_at, flow_at, width}

module _ (net : NetView) (t : law.State) (ws : List ℕ) (c : Cells net t ws) (o : ℕ → Operation Amount) (k : ℕ) where
  -- no word changes
  pub cells_op : Cells net (record t { operation = o; steps = k }) ws
  cells_op = record {
    wide = c.wide;
    at_source = c.at_source;
    at_sink = c.at_sink;
    excess = c.excess;
    label = c.label;
    source = c.source;
    room = c.room;
    flow = c.flow;
  }

  module _ (i v : ℕ) where
    still : (a : Amount) (j : ℕ) → j ≢ i → a ≡ units (get_or ws j 0) → a ≡ units (get_or (set ws i v) j 0)
    still a j ne e = e ∙ ap units (sym (get_or-set_other ws i j v 0 ne))

    same : (a b : ℕ) (j : ℕ) → j ≢ i → a ≡ get_or ws j 0 → a ≡ get_or (set ws i v) j 0
    same a b j ne e = e ∙ sym (get_or-set_other ws i j v 0 ne)

    here : (a : Amount) → i < width net → a ≡ units v → a ≡ units (get_or (set ws i v) i 0)
    here a l e = let w = c.wide in e ∙ ap units (sym (get_or-set_same ws i v 0 (omega arith)))

  pub cells_excess : (x v : ℕ) (a : Amount) → x < count net → a ≡ units v
      → Cells net (record t { excess = with_value_at t.excess x a; operation = o; steps = k })
      (set ws (excess_at net x) v)
  cells_excess x v a lx e = let i = excess_at net x in record {
    wide = length-set ws i v ∙ c.wide;
    at_source = still i v t.at_source 0 (λ h. omega arith) c.at_source;
    at_sink = still i v t.at_sink 1 (λ h. omega arith) c.at_sink;
    excess = with_value_at-each (λ y z. y < count net → z ≡ units (get_or (set ws i v) (excess_at net y) 0)) t.excess
        x a (λ l. here i v a (omega arith) e)
        (λ y ne l. still i v (t.excess y) (excess_at net y) (λ h. ne (omega arith)) (c.excess y l));
    label = λ y l. same i v (t.label y) 0 (label_at net y) (λ h. omega arith) (c.label y l);
    source = λ y l. still i v (t.source y) (source_at net y) (λ h. omega arith) (c.source y l);
    room = λ y l. still i v (minus (negative (amount_at net.worths y)) (t.sink y)) (room_at net y) (λ h. omega arith)
        (c.room y l);
    flow = λ y l. still i v (t.flow y) (flow_at net y) (λ h. omega arith) (c.flow y l);
  }

  pub cells_flow : (x v : ℕ) (a : Amount) → x < length net.pairs → a ≡ units v
      → Cells net (record t { flow = with_value_at t.flow x a; operation = o; steps = k }) (set ws (flow_at net x) v)
  cells_flow x v a lx e = let i = flow_at net x in record {
    wide = length-set ws i v ∙ c.wide;
    at_source = still i v t.at_source 0 (λ h. omega arith) c.at_source;
    at_sink = still i v t.at_sink 1 (λ h. omega arith) c.at_sink;
    excess = λ y l. still i v (t.excess y) (excess_at net y) (λ h. omega arith) (c.excess y l);
    label = λ y l. same i v (t.label y) 0 (label_at net y) (λ h. omega arith) (c.label y l);
    source = λ y l. still i v (t.source y) (source_at net y) (λ h. omega arith) (c.source y l);
    room = λ y l. still i v (minus (negative (amount_at net.worths y)) (t.sink y)) (room_at net y) (λ h. omega arith)
        (c.room y l);
    flow = with_value_at-each (λ y z. y < length net.pairs → z ≡ units (get_or (set ws i v) (flow_at net y) 0)) t.flow
        x a (λ l. here i v a (omega arith) e)
        (λ y ne l. still i v (t.flow y) (flow_at net y) (λ h. ne (omega arith)) (c.flow y l));
  }

  pub cells_label : (x v : ℕ) → x < count net
      → Cells net (record t { label = with_value_at t.label x v; operation = o; steps = k }) (set ws (label_at net x) v)
  cells_label x v lx = let i = label_at net x in record {
    wide = length-set ws i v ∙ c.wide;
    at_source = still i v t.at_source 0 (λ h. omega arith) c.at_source;
    at_sink = still i v t.at_sink 1 (λ h. omega arith) c.at_sink;
    excess = λ y l. still i v (t.excess y) (excess_at net y) (λ h. omega arith) (c.excess y l);
    label = with_value_at-each (λ y z. y < count net → z ≡ get_or (set ws i v) (label_at net y) 0) t.label x v
        (λ l. let w = c.wide in sym (get_or-set_same ws i v 0 (omega arith)))
        (λ y ne l. same i v (t.label y) 0 (label_at net y) (λ h. ne (omega arith)) (c.label y l));
    source = λ y l. still i v (t.source y) (source_at net y) (λ h. omega arith) (c.source y l);
    room = λ y l. still i v (minus (negative (amount_at net.worths y)) (t.sink y)) (room_at net y) (λ h. omega arith)
        (c.room y l);
    flow = λ y l. still i v (t.flow y) (flow_at net y) (λ h. omega arith) (c.flow y l);
  }

  pub cells_source : (x v : ℕ) (a : Amount) → x < count net → a ≡ units v
      → Cells net (record t { source = with_value_at t.source x a; operation = o; steps = k })
      (set ws (source_at net x) v)
  cells_source x v a lx e = let i = source_at net x in record {
    wide = length-set ws i v ∙ c.wide;
    at_source = still i v t.at_source 0 (λ h. omega arith) c.at_source;
    at_sink = still i v t.at_sink 1 (λ h. omega arith) c.at_sink;
    excess = λ y l. still i v (t.excess y) (excess_at net y) (λ h. omega arith) (c.excess y l);
    label = λ y l. same i v (t.label y) 0 (label_at net y) (λ h. omega arith) (c.label y l);
    source = with_value_at-each (λ y z. y < count net → z ≡ units (get_or (set ws i v) (source_at net y) 0)) t.source
        x a (λ l. here i v a (omega arith) e)
        (λ y ne l. still i v (t.source y) (source_at net y) (λ h. ne (omega arith)) (c.source y l));
    room = λ y l. still i v (minus (negative (amount_at net.worths y)) (t.sink y)) (room_at net y) (λ h. omega arith)
        (c.room y l);
    flow = λ y l. still i v (t.flow y) (flow_at net y) (λ h. omega arith) (c.flow y l);
  }

  pub cells_room : (x v : ℕ) (a : Amount) → x < count net → minus (negative (amount_at net.worths x)) a ≡ units v
      → Cells net (record t { sink = with_value_at t.sink x a; operation = o; steps = k }) (set ws (room_at net x) v)
  cells_room x v a lx e = let i = room_at net x in record {
    wide = length-set ws i v ∙ c.wide;
    at_source = still i v t.at_source 0 (λ h. omega arith) c.at_source;
    at_sink = still i v t.at_sink 1 (λ h. omega arith) c.at_sink;
    excess = λ y l. still i v (t.excess y) (excess_at net y) (λ h. omega arith) (c.excess y l);
    label = λ y l. same i v (t.label y) 0 (label_at net y) (λ h. omega arith) (c.label y l);
    source = λ y l. still i v (t.source y) (source_at net y) (λ h. omega arith) (c.source y l);
    room = with_value_at-each
        (λ y z. y < count net → minus (negative (amount_at net.worths y)) z ≡ units
        (get_or (set ws i v) (room_at net y) 0)) t.sink x a
        (λ l. here i v (minus (negative (amount_at net.worths x)) a) (omega arith) e)
        (λ y ne l. still i v (minus (negative (amount_at net.worths y)) (t.sink y)) (room_at net y)
        (λ h. ne (omega arith)) (c.room y l));
    flow = λ y l. still i v (t.flow y) (flow_at net y) (λ h. omega arith) (c.flow y l);
  }

  pub cells_at_source : (v : ℕ) (a : Amount) → a ≡ units v
      → Cells net (record t { at_source = a; operation = o; steps = k }) (set ws 0 v)
  cells_at_source v a e = grind (arith, common_steps)

  pub cells_at_sink : (v : ℕ) (a : Amount) → a ≡ units v
      → Cells net (record t { at_sink = a; operation = o; steps = k }) (set ws 1 v)
  cells_at_sink v a e = grind (arith, common_steps)
