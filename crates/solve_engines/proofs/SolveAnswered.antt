-- From the parts of a solution to its answer, where the readers tell their bytes.
use Rattle.fixed_worth.proofs.Common.{◌≡◌, ℕ, ℤ, List, Option, Err, inl}
use Rattle.ordered_group.specs.declared.groups.Group.{Group}
use Rattle.prec_file.specs.Rests.{RestsView}
use Rattle.certificate_file.specs.declared.header.Price.{Price}
use Rattle.engine_faults.specs.declared.engine_fault.EngineFault.{EngineFault}
use Rattle.engine_faults.specs.declared.engine_fault.EngineFault.TheVariants as engine
use Rattle.option_words.specs.declared.method.Method.{Method}
use Rattle.mine_inputs.specs.declared.mines.MineInputs.{MineInputs}
use Rattle.solve_engines.specs.Solving.{Solves}
use Rattle.mine_inputs.specs.Prelude.{MineFails, ForTexts, MineTexts, price_wanted, AreRead}
use Rattle.check_engines.proofs.Answered.{keeps_self}
use Rattle.mine_inputs.proofs.MineDevices.{for_texts}

-- a fault of the texts of the mine is one of solving it
unsolved_at : (texts : MineTexts) (name : Group) (method : Method) (limit : ℕ) (w : Option (List ℕ)) (e : EngineFault)
    → MineFails texts e → Solves texts name method limit w w (Err e)
unsolved_at texts name method limit w engine.Device h = (h, inl (keeps_self w))
unsolved_at texts name method limit w (engine.Model q) h = absurd h
unsolved_at texts name method limit w (engine.Certificate q) h = absurd h
unsolved_at texts name method limit w (engine.Trace q) h = absurd h
unsolved_at texts name method limit w engine.Thread h = absurd h
unsolved_at texts name method limit w engine.Stranger h = absurd h
unsolved_at texts name method limit w e h = (h, keeps_self w)

module _ {D : Type 0} (inputs : MineInputs D) (remaining : D → Option (List ℕ)) (factor : ℕ) where
  -- and of whatever is answered where solving is
  pub unsolved : (Q : MineTexts → Type 0) (name : Group) (method : Method) (limit : ℕ) (w : Option (List ℕ))
      (e : EngineFault) → ForTexts inputs remaining factor (λ texts. MineFails texts e)
      → ((texts : MineTexts) → MineFails texts e → Solves texts name method limit w w (Err e) → Q texts)
      → ForTexts inputs remaining factor Q
  unsolved Q name method limit w e h f = for_texts inputs remaining factor (λ texts. MineFails texts e) Q h
      (λ texts k. f texts k (unsolved_at texts name method limit w e k))

  -- what holds of all texts of what was read holds of these
  pub answered : (Q : MineTexts → Type 0) (nanos : List ℤ) (rests : RestsView) (price : Price)
      → ForTexts inputs remaining factor (λ texts. AreRead texts nanos rests × (price ≡ price_wanted texts))
      → ((texts : MineTexts) → AreRead texts nanos rests → price ≡ price_wanted texts → Q texts)
      → ForTexts inputs remaining factor Q
  answered Q nanos rests price h f = for_texts inputs remaining factor (λ texts. AreRead texts nanos rests
      × (price ≡ price_wanted texts)) Q h (λ texts r. f texts r.0 r.1)
