-- From what is written for a net to what is written for the mine of texts, where a run has no lock.
use Rattle.std.proofs.Common.{◌≡◌, ℕ, ℤ, Bool, List, length, subst, Option, Result, Ok, Err, inl, inr}
use Rattle.ordered_group.specs.Amount.{Amount}
use Rattle.prec_file.specs.Rests.{RestsView}
use Rattle.closure_net.specs.Prelude.{NetView, WorthsFaultStands}
use Rattle.closure_net.specs.declared.net.NetFault.{NetFault}
use Rattle.closure_net.specs.declared.net.NetFault.TheVariants as net_fault
use Rattle.check_engines.specs.declared.judgement.Verdict.TheVariants.{Done, No}
use Rattle.check_engines.specs.declared.judgement.Verdict.{Verdict}
use Rattle.engine_faults.specs.declared.engine_fault.EngineFault.{EngineFault}
use Rattle.engine_faults.specs.declared.engine_fault.EngineFault.TheVariants as engine
use Rattle.option_words.specs.declared.method.Method.TheVariants.{PushRelabel}
use Rattle.mine_inputs.specs.Prelude.{MineFails, AreRead, MineTexts, price_wanted}
use Rattle.engine_faults.specs.Prelude.{of_model}
use Rattle.check_engines.specs.Prelude.{IsGroupNamed, counts_by}
use Rattle.solve_engines.specs.Prelude.{IsNetBy, SolveFails, Solves}
use Rattle.check_engines.proofs.Answered.{keeps_self}
use Rattle.solve_engines.proofs.Solutions.{certificate_is, unmade}
use Rattle.lock_free_engine.specs.LockFreeSolving.{lock_free_group, FailsWithoutLock, AtFaultWithoutLock}
use Rattle.lock_free_engine.specs.LockFreeSolving.{SolvesWithoutLock, SolvesNetWithoutLock}

-- ---- nothing was written

at_fault : (texts : MineTexts) (workers limit : ℕ) (w : Option (List ℕ)) (fault : EngineFault)
    → AtFaultWithoutLock texts workers limit w w fault
at_fault texts workers limit w engine.Device = inl (keeps_self w)
at_fault texts workers limit w fault = keeps_self w

fails : (texts : MineTexts) (fault : EngineFault) → ¬ (fault ≡ engine.Stranger)
    → SolveFails texts lock_free_group fault → FailsWithoutLock texts fault
fails texts engine.Stranger n h = absurd (n (λ i. engine.Stranger))
fails texts fault n h = h

-- a fault that stands for a run under a lock stands here too
as_locked : (texts : MineTexts) (workers limit : ℕ) (w : Option (List ℕ)) (fault : EngineFault)
    → ¬ (fault ≡ engine.Stranger) → Solves texts lock_free_group PushRelabel limit w w (Err fault)
    → SolvesWithoutLock texts workers limit w w (Err fault)
as_locked texts workers limit w fault n h = (fails texts fault n h.0, at_fault texts workers limit w fault)

no_stranger : (fault : NetFault) → ¬ (of_model fault ≡ engine.Stranger)
no_stranger net_fault.WrongLength e = absurd cc
no_stranger fault e = absurd cc

-- there is no net of the mine
pub unmade_without_lock : (block : ℤ → ℕ → Amount) (counts : Bool) (texts : MineTexts) (rests : RestsView)
    (worths : List ℤ) (workers limit : ℕ) (w : Option (List ℕ)) (fault : NetFault) → AreRead texts worths rests
    → IsGroupNamed lock_free_group block counts → WorthsFaultStands block rests.blocks worths fault
    → SolvesWithoutLock texts workers limit w w (Err (of_model fault))
unmade_without_lock block counts texts rests worths workers limit w fault read named stands = as_locked texts workers
    limit w (of_model fault) (no_stranger fault)
    (unmade block counts texts lock_free_group rests worths PushRelabel limit w fault read named stands)

-- ---- what was written for the net of the mine
module _ (block : ℤ → ℕ → Amount) (texts : MineTexts) (net : NetView) (workers limit : ℕ)
    (named : IsGroupNamed lock_free_group block (counts_by lock_free_group)) (by : IsNetBy texts lock_free_group net)
    (old new : Option (List ℕ)) where
  pub solved_without_lock : (result : Result Verdict EngineFault)
      → SolvesNetWithoutLock (price_wanted texts) net workers limit old new result
      → SolvesWithoutLock texts workers limit old new result
  solved_without_lock (Ok Done) (text, c, sent) = (
    text,
    certificate_is block (counts_by lock_free_group) texts lock_free_group net PushRelabel limit named by
        text c,
    sent,
  )
  solved_without_lock (Ok No) (text, h, sent) = (text, (net, by, h), sent)
  solved_without_lock (Err engine.Memory) h = (tt, h)
  solved_without_lock (Err engine.Thread) h = ((length net.worths, by.mine), h)
  solved_without_lock (Err engine.Device) h = (tt, inr (net, by, h.0, h.1, h.2))
  solved_without_lock (Err _) h = absurd h

-- the texts of the mine were not read
pub unread : (texts : MineTexts) (workers limit : ℕ) (w : Option (List ℕ)) (e : EngineFault) → MineFails texts e
    → Solves texts lock_free_group PushRelabel limit w w (Err e) → SolvesWithoutLock texts workers limit w w (Err e)
unread texts workers limit w e f h = as_locked texts workers limit w e (λ i. absurd (subst (MineFails texts) i f)) h
