-- From what is found for a net to what is written for it.
use Rattle.fixed_worth.proofs.Common.{◌≡◌, ℕ, Bool, List, length, refl, sym, subst, Option, Result, Ok, Err, inl, inr}
use Rattle.fixed_worth.proofs.Common.{MatchResult}
use Rattle.counted_devices.specs.Device.{ReceivedPrefix}
use Rattle.ordered_group.specs.declared.groups.Group.{Group}
use Rattle.closure_net.specs.Network.{NetView, FlowView}
use Rattle.check_pit.specs.Checks.{IsSound}
use Rattle.certificate_file.specs.Written.{header_with, text_of}
use Rattle.certificate_file.specs.declared.header.Price.{Price}
use Rattle.check_engines.specs.declared.judgement.Verdict.{Verdict}
use Rattle.engine_faults.specs.declared.engine_fault.EngineFault.{EngineFault}
use Rattle.engine_faults.specs.declared.engine_fault.EngineFault.TheVariants as engine
use Rattle.option_words.specs.declared.method.Method.{Method}
use Rattle.solve_engines.specs.declared.solvers.Unsolved.{Unsolved}
use Rattle.solve_engines.specs.declared.solvers.Unsolved.TheVariants.{Unsettled, TooLarge, GaveUp}
use Rattle.solve_engines.specs.Prelude.{SendsCertificate, SendsLine, SendsNo, certificate_text, unsettled_line}
use Rattle.solve_engines.specs.Prelude.{too_large_line, UnsolvedStands, IsNoOf, SolvesNet}

-- ---- a certificate

-- what was to be written of a solution
module _ (counts : Bool) (name : Group) (price : Price) (net : NetView) (blocks : ℕ) (pit : List ℕ) (flow : FlowView)
    (n : ℕ) (ps : List (ℕ × ℕ)) (s : IsSound net flow pit) (b : blocks ≡ length net.worths)
    (e : n ≡ length net.worths) (f : ps ≡ net.pairs) where
  abbrev text : List ℕ
  text = text_of (header_with blocks price name) ps pit flow

  pub cut_short : (old new : Option (List ℕ)) → ReceivedPrefix old new text
      → SendsCertificate counts name price net pit flow old new (Err engine.Device)
  cut_short old new prefix = (
    refl,
    subst (λ (xs : List ℕ). ReceivedPrefix old new xs)
        (λ i. text_of (header_with (b i) price name) (f i) pit flow) prefix,
  )

-- ---- what is found for a net

module _ (counts : Bool) (name : Group) (price : Price) (net : NetView) (method : Method) (limit : ℕ)
    (old new : Option (List ℕ)) where
  sent : (pit : List ℕ) (flow : FlowView) (r : Result Verdict EngineFault) → IsSound net flow pit
      → SendsCertificate counts name price net pit flow old new r
      → SolvesNet counts name price net method limit old new r
  sent pit flow (Ok v) s a = subst (λ (w : Verdict). SolvesNet counts name price net method limit old new (Ok w))
      (sym a.0) (a.1.0, record { pit = pit; flow = flow; read = a.1.1; sound = s }, a.1.2)
  sent pit flow (Err e) s a = subst
      (λ (w : EngineFault). SolvesNet counts name price net method limit old new (Err w)) (sym a.0) (
        certificate_text name price net pit flow,
        inl (record { pit = pit; flow = flow; sound = s; spelled = refl }),
        a.1,
      )

  said : (line : List ℕ) (r : Result Verdict EngineFault) → IsNoOf net method limit line → SendsLine line old new r
      → SolvesNet counts name price net method limit old new r
  said line (Ok v) h a = subst (λ (w : Verdict). SolvesNet counts name price net method limit old new (Ok w))
      (sym a.0) (line, h, a.1)
  said line (Err e) h a = subst (λ (w : EngineFault). SolvesNet counts name price net method limit old new (Err w))
      (sym a.0) (line, inr h, a.1)

  said_no : (why : Unsolved) (r : Result Verdict EngineFault) → UnsolvedStands net method limit why
      → SendsNo why old new r → SolvesNet counts name price net method limit old new r
  said_no Unsettled r h a = said unsettled_line r (inr (inl (h, refl))) a
  said_no GaveUp r h a = said unsettled_line r (inl (h, refl)) a
  said_no TooLarge r h a = said too_large_line r (inr (inr (h, refl))) a
  said_no why r h a = subst
      (λ (x : Result Verdict EngineFault). SolvesNet counts name price net method limit old new x) (sym a.0) a.1

  pub answered : {A : Type 0} (flow : A → FlowView) (pit : A → List ℕ) (Is : A → Type 0) (found : Result A Unsolved)
      (r : Result Verdict EngineFault) → ((s : A) → Is s → IsSound net (flow s) (pit s))
      → MatchResult found Is (λ why. UnsolvedStands net method limit why)
      → MatchResult found (λ s. SendsCertificate counts name price net (pit s) (flow s) old new r)
      (λ why. SendsNo why old new r) → SolvesNet counts name price net method limit old new r
  answered flow pit Is (Ok s) r sound h a = sent (pit s) (flow s) r (sound s h) a
  answered flow pit Is (Err why) r sound h a = said_no why r h a
