-- From a run without a lock to what is written of it.
use Rattle.fixed_worth.proofs.Common.{ℕ, List, refl, sym, subst, Option, Result, Ok, Err, inl, inr, MatchResult}
use Rattle.closure_net.specs.Network.{NetView, FlowView, IsNet}
use Rattle.word_runner.specs.Prelude.{AreNeitherOneNorTwo, IsSolvedBy, WordSolveFaultStands}
use Rattle.workers.specs.declared.solving.SolveFault.{SolveFault}
use Rattle.workers.specs.declared.solving.SolveFault.TheVariants as run
use Rattle.check_pit.specs.Checks.{IsSound}
use Rattle.check_pit.specs.declared.pit_fault.PitFault.{PitFault}
use Rattle.certificate_file.specs.declared.header.Price.{Price}
use Rattle.check_engines.specs.declared.judgement.Verdict.{Verdict}
use Rattle.engine_faults.specs.declared.engine_fault.EngineFault.{EngineFault}
use Rattle.solve_engines.specs.declared.solvers.Unsolved.{Unsolved}
use Rattle.solve_engines.specs.declared.solvers.Unsolved.TheVariants.{Unsettled, TooLarge, NoMemory, NoThread}
use Rattle.solve_engines.specs.Prelude.{unsolved_by, SendsCertificate, SendsLine, SendsNo, certificate_text}
use Rattle.solve_engines.specs.Prelude.{unsettled_line, too_large_line, IsRefusedFlow}
use Rattle.check_engines.specs.Prelude.{counts_by}
use Rattle.solve_engines.proofs.RefusedRuns.{refused_for_size}
use Rattle.lock_free_engine.specs.Prelude.{RunsAreTight, LockFreeCheckOverflows, LockFreeStands, IsNoWithoutLock}
use Rattle.lock_free_engine.specs.Prelude.{SolvesNetWithoutLock, lock_free_group}

-- what the source reaches in the flow of a run is refused for sums that overflow, and nothing else
pub check_overflows : RunsAreTight → (net : NetView) (workers limit : ℕ) (flow : FlowView) (steps : ℕ)
    (fault : PitFault) → IsNet net → IsSolvedBy net workers limit flow steps → IsRefusedFlow net flow fault
    → LockFreeCheckOverflows net workers limit
check_overflows law net workers limit flow steps fault is solved refused =
    let size = refused_for_size net flow fault (law net workers limit flow steps is solved) refused in
    record {
      flow = flow;
      steps = steps;
      solved = solved;
      pit = size.pit;
      reached = size.reached;
      of_net =
          size.of_net;
      stands = size.stands;
    }

-- why a run gives no flow is why it proves no pit: there are one worker or two, and the words are the net's
pub fault_stands : (net : NetView) (workers limit : ℕ) (fault : SolveFault) → ¬ AreNeitherOneNorTwo workers
    → WordSolveFaultStands net workers fault → LockFreeStands net workers limit (unsolved_by fault)
fault_stands net workers limit run.BadWorkers few h = absurd (few h)
fault_stands net workers limit run.Unsettled few h = h.1
fault_stands net workers limit run.TooLarge few h = inl h.1
fault_stands net workers limit run.StrangerNet few h = absurd h
fault_stands net workers limit fault few h = tt

module _ (price : Price) (net : NetView) (workers limit : ℕ) (old new : Option (List ℕ)) where
  sent : (pit : List ℕ) (flow : FlowView) (r : Result Verdict EngineFault) → IsSound net flow pit
      → SendsCertificate (counts_by lock_free_group) lock_free_group price net pit flow old new r
      → SolvesNetWithoutLock price net workers limit old new r
  sent pit flow (Ok v) s a = subst (λ (w : Verdict). SolvesNetWithoutLock price net workers limit old new (Ok w))
      (sym a.0) (a.1.0, record { pit = pit; flow = flow; read = a.1.1; sound = s }, a.1.2)
  sent pit flow (Err e) s a = subst
      (λ (w : EngineFault). SolvesNetWithoutLock price net workers limit old new (Err w)) (sym a.0) (
        certificate_text lock_free_group price net pit flow,
        inl
            (record { pit = pit; flow = flow; sound = s; spelled = refl }),
        a.1,
      )

  said : (line : List ℕ) (r : Result Verdict EngineFault) → IsNoWithoutLock net workers limit line
      → SendsLine line old new r → SolvesNetWithoutLock price net workers limit old new r
  said line (Ok v) h a = subst (λ (w : Verdict). SolvesNetWithoutLock price net workers limit old new (Ok w))
      (sym a.0) (line, h, a.1)
  said line (Err e) h a = subst (λ (w : EngineFault). SolvesNetWithoutLock price net workers limit old new (Err w))
      (sym a.0) (line, inr h, a.1)

  said_no : (why : Unsolved) (r : Result Verdict EngineFault) → LockFreeStands net workers limit why
      → SendsNo why old new r → SolvesNetWithoutLock price net workers limit old new r
  said_no Unsettled r h a = said unsettled_line r (inl (h, refl)) a
  said_no TooLarge r h a = said too_large_line r (inr (h, refl)) a
  said_no NoMemory r h a = subst
      (λ (x : Result Verdict EngineFault). SolvesNetWithoutLock price net workers limit old new x) (sym a.0) a.1
  said_no NoThread r h a = subst
      (λ (x : Result Verdict EngineFault). SolvesNetWithoutLock price net workers limit old new x) (sym a.0) a.1
  said_no why r h a = absurd h

  -- what is found, with its flow and its pit in any terms, and what is written for it
  pub answered : {A : Type 0} (flow : A → FlowView) (pit : A → List ℕ) (Is : A → Type 0) (found : Result A Unsolved)
      (r : Result Verdict EngineFault) → ((s : A) → Is s → IsSound net (flow s) (pit s))
      → MatchResult found Is (λ why. LockFreeStands net workers limit why)
      → MatchResult found (λ s. SendsCertificate (counts_by lock_free_group) lock_free_group price net (pit s)
      (flow s) old new r) (λ why. SendsNo why old new r) → SolvesNetWithoutLock price net workers limit old new r
  answered flow pit Is (Ok s) r sound h a = sent (pit s) (flow s) r (sound s h) a
  answered flow pit Is (Err why) r sound h a = said_no why r h a
