-- From the parts of the engine to its answer, where the readers tell their bytes.
use Rattle.std.proofs.Common.{◌≡◌, ℕ, ℤ, List, ◌∙◌, Option, Result, Err, inl, IfSome}
use Rattle.prec_file.specs.Rests.{RestsView}
use Rattle.ordered_group.specs.declared.groups.Group.{Group}
use Rattle.machine_law.specs.declared.events.Event.{Event}
use Rattle.certificate_file.specs.declared.header.Price.{Price}
use Rattle.check_engines.specs.declared.judgement.Verdict.{Verdict}
use Rattle.engine_faults.specs.declared.engine_fault.EngineFault.{EngineFault}
use Rattle.engine_faults.specs.declared.engine_fault.EngineFault.TheVariants as engine
use Rattle.mine_inputs.specs.declared.mines.MineInputs.{MineInputs}
use Rattle.mine_inputs.specs.Prelude.{MineFails, ForTexts, MineTexts, price_wanted, DenoteMine, AreRead}
use Rattle.check_engines.proofs.Answered.{keeps_self}
use Rattle.mine_inputs.proofs.MineDevices.{always, under, for_texts}
use Rattle.replay_engines.specs.Prelude.{ReadsTrace, TraceReadFails, Replays}

-- the trace was not read
untraced : (texts : MineTexts) (n : ℕ) (name : Group) (trace : List ℕ) (w : Option (List ℕ)) (e : EngineFault)
    → DenoteMine texts n → TraceReadFails trace e → Replays texts name trace w w (Err e)
untraced texts n name trace w (engine.Trace q) mine h = ((n, mine, h), keeps_self w)
untraced texts n name trace w engine.Memory mine h = (tt, keeps_self w)
untraced texts n name trace w engine.Device mine h = (tt, inl (keeps_self w))
untraced texts n name trace w e mine h = absurd h

-- a fault of the texts of the mine is one of a replay over it
unread_at : (texts : MineTexts) (name : Group) (t : List ℕ) (w : Option (List ℕ)) (e : EngineFault)
    → MineFails texts e → Replays texts name t w w (Err e)
unread_at texts name t w engine.Device h = (h, inl (keeps_self w))
unread_at texts name t w (engine.Model q) h = absurd h
unread_at texts name t w (engine.Certificate q) h = absurd h
unread_at texts name t w (engine.Trace q) h = absurd h
unread_at texts name t w engine.Thread h = absurd h
unread_at texts name t w engine.Stranger h = absurd h
unread_at texts name t w e h = (h, keeps_self w)

module _ {D : Type 0} (inputs : MineInputs D) (remaining : D → Option (List ℕ)) (factor : ℕ) (x : Option (List ℕ))
    (name : Group) where
  pub unread : (w : Option (List ℕ)) (e : EngineFault) → ForTexts inputs remaining factor (λ texts. MineFails texts e)
      → IfSome x (λ t. ForTexts inputs remaining factor (λ texts. Replays texts name t w w (Err e)))
  unread w e h = always x (λ t. ForTexts inputs remaining factor (λ texts. Replays texts name t w w (Err e))) (λ t.
      for_texts inputs remaining factor (λ texts. MineFails texts e) (λ texts. Replays texts name t w w (Err e)) h
      (λ texts f. unread_at texts name t w e f))

  module _ (nanos : List ℤ) (rests : RestsView) (price : Price)
      (h : ForTexts inputs remaining factor (λ texts. AreRead texts nanos rests × (price ≡ price_wanted texts))) where
    pub trace_unread : (w : Option (List ℕ)) (e : EngineFault) → IfSome x (λ t. TraceReadFails t e)
        → IfSome x (λ t. ForTexts inputs remaining factor (λ texts. Replays texts name t w w (Err e)))
    trace_unread w e f = under x (λ t. TraceReadFails t e)
        (λ t. ForTexts inputs remaining factor (λ texts. Replays texts name t w w (Err e))) f (λ t k.
        for_texts inputs remaining factor (λ texts. AreRead texts nanos rests × (price ≡ price_wanted texts))
        (λ texts. Replays texts name t w w (Err e)) h
        (λ texts r. untraced texts rests.blocks name t w e r.0.mine k))

    -- what holds of any texts of what was read holds of these
    pub replay_answer : (events listed : List Event) (old new : Option (List ℕ)) (result : Result Verdict EngineFault)
        → IfSome x (λ t. ReadsTrace t events) → listed ≡ events
        → ((texts : MineTexts) (trace : List ℕ) → AreRead texts nanos rests → ReadsTrace trace listed
        → Replays texts name trace old new result)
        → IfSome x (λ t. ForTexts inputs remaining factor (λ texts. Replays texts name t old new result))
    replay_answer events listed old new result f same replays = under x (λ t. ReadsTrace t events)
        (λ t. ForTexts inputs remaining factor (λ texts. Replays texts name t old new result)) f (λ t k.
        for_texts inputs remaining factor (λ texts. AreRead texts nanos rests × (price ≡ price_wanted texts))
        (λ texts. Replays texts name t old new result) h (λ texts r. replays texts t r.0 (k.0, same ∙ k.1)))
