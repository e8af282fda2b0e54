-- From what is written for a net to what is written for the mine of texts.
use Rattle.std.proofs.Common.{ℕ, ℤ, Bool, List, length, sym, subst, Option, Result, Ok, Err, inl, inr}
use Rattle.ordered_group.specs.Amount.{Amount}
use Rattle.ordered_group.specs.declared.groups.Group.{Group}
use Rattle.prec_file.specs.Rests.{RestsView}
use Rattle.closure_net.specs.Prelude.{NetView, WorthsFaultStands}
use Rattle.closure_net.specs.declared.net.NetFault.{NetFault}
use Rattle.check_engines.specs.declared.judgement.Verdict.{Verdict}
use Rattle.check_engines.specs.declared.judgement.Verdict.TheVariants.{Done, No}
use Rattle.engine_faults.specs.declared.engine_fault.EngineFault.{EngineFault}
use Rattle.engine_faults.specs.declared.engine_fault.EngineFault.TheVariants as engine
use Rattle.option_words.specs.declared.method.Method.TheVariants.{PushRelabel}
use Rattle.mine_inputs.specs.Prelude.{AreRead, MineTexts, price_wanted}
use Rattle.engine_faults.specs.Prelude.{of_model}
use Rattle.check_engines.specs.Prelude.{IsGroupNamed}
use Rattle.solve_engines.specs.Prelude.{IsNetBy, Solves}
use Rattle.check_engines.proofs.Answered.{keeps_self}
use Rattle.solve_engines.proofs.Solutions.{certificate_is, unmade}
use Rattle.traced_engine.specs.TracedRuns.{IsCertificateOfRun, TracesNet, TraceAtFault, Traces}

-- ---- nothing was written

at_fault : (texts : MineTexts) (name : Group) (limit room : ℕ) (t w : Option (List ℕ)) (fault : EngineFault)
    → TraceAtFault texts name limit room t t w w fault
at_fault texts name limit room t w engine.Memory = inl (keeps_self t, keeps_self w)
at_fault texts name limit room t w engine.Device = inl (keeps_self t, keeps_self w)
at_fault texts name limit room t w fault = (keeps_self t, keeps_self w)

-- a fault that stands without a trace stands with one
pub untraced : (texts : MineTexts) (name : Group) (limit room : ℕ) (t w : Option (List ℕ)) (fault : EngineFault)
    → Solves texts name PushRelabel limit w w (Err fault) → Traces texts name limit room t t w w (Err fault)
untraced texts name limit room t w fault h = (h.0, at_fault texts name limit room t w fault)

-- there is no net of the mine
pub unmade_traced : (block : ℤ → ℕ → Amount) (counts : Bool) (texts : MineTexts) (name : Group) (rests : RestsView)
    (worths : List ℤ) (limit room : ℕ) (t w : Option (List ℕ)) (fault : NetFault) → AreRead texts worths rests
    → IsGroupNamed name block counts → WorthsFaultStands block rests.blocks worths fault
    → Traces texts name limit room t t w w (Err (of_model fault))
unmade_traced block counts texts name rests worths limit room t w fault read named stands = untraced texts name limit
    room t w (of_model fault) (unmade block counts texts name rests worths PushRelabel limit w fault read named stands)

-- ---- what was written for the net of the mine
module _ (block : ℤ → ℕ → Amount) (counts : Bool) (texts : MineTexts) (name : Group) (net : NetView) (limit room : ℕ)
    (named : IsGroupNamed name block counts) (by : IsNetBy texts name net) (before after old new : Option (List ℕ))
  where
    pub traced : (result : Result Verdict EngineFault)
        → TracesNet counts name (price_wanted texts) net limit room before after old new result
        → Traces texts name limit room before after old new result
    traced (Ok Done) (history, sent, (text, c, out)) =
        let same = subst (λ (k : Bool). IsCertificateOfRun k name (price_wanted texts) net limit room history text)
        (sym named.counts_is) c in (
          history,
          sent,
          (
            text,
            (
              certificate_is block counts texts name net PushRelabel limit named by text
                  c.certificate,
              (net, by, same),
            ),
            out,
          ),
        )
    traced (Ok No) (history, sent, (text, h, out)) = (history, sent, (text, (net, by, h), out))
    traced (Err engine.Memory) h = (
      tt,
      inr (
        net,
        by,
        subst
            (λ (k : Bool). TracesNet k name (price_wanted texts) net limit room before after old new (Err engine.Memory))
            (sym named.counts_is) h,
      ),
    )
    traced (Err engine.Device) h = (
      tt,
      inr (
        net,
        by,
        subst
            (λ (k : Bool). TracesNet k name (price_wanted texts) net limit room before after old new (Err engine.Device))
            (sym named.counts_is) h,
      ),
    )
    traced (Err engine.Thread) h = ((length net.worths, by.mine), h)
    traced (Err engine.Stranger) h = ((length net.worths, by.mine), h)
    traced (Err _) h = absurd h
