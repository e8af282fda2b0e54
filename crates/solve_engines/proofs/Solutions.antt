-- From a run to what is written of it.
use Rattle.fixed_worth.proofs.Common.{◌≡◌, ℕ, ℤ, Bool, List, length, map, refl, subst, Option, Result, Ok, Err, inr}
use Rattle.fixed_worth.proofs.Common.{arith, length-map, common_steps}
use Rattle.ordered_group.specs.Amount.{Amount}
use Rattle.ordered_group.specs.declared.groups.Group.{Group}
use Rattle.prec_file.specs.Rests.{RestsView}
use Rattle.closure_net.specs.Prelude.{NetView, net_view, IsNet, holds_of, IsNetOf, WorthsFaultStands}
use Rattle.closure_net.specs.declared.net.NetFault.{NetFault}
use Rattle.closure_net.specs.declared.net.NetFault.TheVariants as net_fault
use Rattle.certificate_file.specs.Pieces.{pieces_of}
use Rattle.check_pit.proofs.Duality.{duality}
use Rattle.check_engines.specs.declared.judgement.Verdict.{Verdict}
use Rattle.check_engines.specs.declared.judgement.Verdict.TheVariants.{Done, No}
use Rattle.engine_faults.specs.declared.engine_fault.EngineFault.{EngineFault}
use Rattle.engine_faults.specs.declared.engine_fault.EngineFault.TheVariants as engine
use Rattle.mine_inputs.specs.Prelude.{AreRead, MineTexts, price_wanted, mine_of}
use Rattle.engine_faults.specs.Prelude.{of_model}
use Rattle.check_engines.specs.Prelude.{IsGroupNamed}
use Rattle.solve_engines.specs.Prelude.{IsCertificateOf, AnswersNet, SolvesNet, IsCertificate, IsNetBy, AnswersMine}
use Rattle.solve_engines.specs.Prelude.{Solves}
use Rattle.option_words.specs.declared.method.Method.{Method}
use Rattle.check_engines.proofs.Answered.{keeps_self}
use Rattle.check_engines.proofs.Judged.{HasRead, reads, net_made, worths_fail}
use Rattle.solve_engines.proofs.Lone.{header_alone}

-- ---- the mine of the texts

pub net_by : (block : ℤ → ℕ → Amount) (counts : Bool) (texts : MineTexts) (name : Group) (rests : RestsView)
    (worths : List ℤ) (net : NetView) → AreRead texts worths rests → IsGroupNamed name block counts → IsNet net
    → net ≡ net_view rests.pairs (map (λ v. block v rests.blocks) worths) → rests.blocks ≡ length worths
    → IsNetBy texts name net
net_by block counts texts name rests worths net a named is_net is l = grind
    (arith, common_steps, net_made, length-map, ℤ)

module _ (block : ℤ → ℕ → Amount) (counts : Bool) (texts : MineTexts) (name : Group) (net : NetView) (method : Method)
    (limit : ℕ) (named : IsGroupNamed name block counts) (by : IsNetBy texts name net) where
  pub certificate_is : (text : List ℕ) → IsCertificateOf counts name (price_wanted texts) net text
      → IsCertificate texts name text
  certificate_is text c =
      let B : (ℤ → ℕ → Amount) → Type 0 = λ b. IsNetOf b (mine_of (length net.worths) texts) net in
      let of_mine : IsNetOf block (mine_of (length net.worths) texts) net = subst B named.block_is by.of_mine in
      let known : HasRead name block counts texts text net c.pit c.flow = record {
        mine = by.mine;
        named = named;
        header = header_alone (record { blocks = length net.worths; group = name }) (pieces_of text)
            (record { blocks = length net.worths; price = price_wanted texts; group = name }) c.read.read.header;
        is_net = by.is_net;
        of_mine = of_mine;
        no_fault = c.read.none;
        blocks = length net.worths;
        price = price_wanted texts;
        read = c.read.read;
      } in
      let greatest = (duality net c.flow (holds_of c.pit) by.is_net.rests c.sound.proves.is_flow c.sound.proves.closed
      c.sound.proves.tight).greatest_set in
      record {
        read = reads name block counts texts text net c.pit c.flow known;
        group = refl;
        sound = c.sound;
        proved = named.proves (mine_of (length net.worths) texts) net (holds_of c.pit) of_mine greatest;
      }

  answers : (verdict : Verdict) (text : List ℕ)
      → AnswersNet counts name (price_wanted texts) net method limit verdict text
      → AnswersMine texts name method limit verdict text
  answers Done written h = certificate_is written h
  answers No written h = (net, by, h)

  pub solved : (old new : Option (List ℕ)) (result : Result Verdict EngineFault)
      → SolvesNet counts name (price_wanted texts) net method limit old new result
      → Solves texts name method limit old new result
  solved old new (Ok verdict) h = (h.0, answers verdict h.0 h.1, h.2)
  solved old new (Err engine.Memory) h = (tt, h)
  solved old new (Err engine.Thread) h = ((length net.worths, by.mine), h)
  solved old new (Err engine.Stranger) h = ((length net.worths, by.mine), h)
  solved old new (Err engine.Device) h = (tt, inr (net, by, h.0, h.1, h.2))
  solved old new (Err _) h = absurd h

-- there is no net of the mine
pub unmade : (block : ℤ → ℕ → Amount) (counts : Bool) (texts : MineTexts) (name : Group) (rests : RestsView)
    (worths : List ℤ) (method : Method) (limit : ℕ) (w : Option (List ℕ)) (fault : NetFault)
    → AreRead texts worths rests → IsGroupNamed name block counts → WorthsFaultStands block rests.blocks worths fault
    → Solves texts name method limit w w (Err (of_model fault))
unmade block counts texts name rests worths method limit w net_fault.WrongLength a named f = (
  (
    rests.blocks,
    a.mine,
    worths_fail name block counts texts rests.blocks worths net_fault.WrongLength a.worths
        named f,
  ),
  keeps_self w,
)
unmade block counts texts name rests worths method limit w net_fault.TooLarge a named f = (
  (
    rests.blocks,
    a.mine,
    worths_fail name block counts texts rests.blocks worths net_fault.TooLarge a.worths named
        f,
  ),
  keeps_self w,
)
unmade block counts texts name rests worths method limit w net_fault.NoMemory a named f = (tt, keeps_self w)
