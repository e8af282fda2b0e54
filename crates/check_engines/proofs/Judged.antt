-- From what was read to the judgement.
use Rattle.fixed_worth.proofs.Common.{◌≡◌, ℕ, ℤ, pos, Bool, List, length, map, refl, sym, ap, ◌∙◌, subst, arith, None}
use Rattle.fixed_worth.proofs.Common.{Some, inr, length-map, get_or-map, common_steps}
use Rattle.ordered_group.specs.Prelude.{Amount, SumsTellWorth, zero_amount}
use Rattle.ordered_group.specs.declared.groups.Group.{Group}
use Rattle.prec_file.specs.Rests.{RestsView}
use Rattle.closure_net.specs.Prelude.{NetView, FlowView, net_view, IsNet, holds_of, IsGreatest, group_worth, IsNetOf}
use Rattle.closure_net.specs.Prelude.{WorthsFaultStands}
use Rattle.check_pit.specs.Checks.{ProvesPit}
use Rattle.certificate_file.specs.Certificate.{cert_fault_of, lines_of_text, IsRead, DenotesFlow, UnlessCertMemory}
use Rattle.certificate_file.specs.declared.header.Price.{Price}
use Rattle.mine_inputs.specs.Prelude.{IsWithinLimit, MineTexts, mine_of, DenoteMine, AreWorths, AreRead}
use Rattle.engine_faults.specs.Prelude.{of_certificate, of_model}
use Rattle.check_engines.specs.Prelude.{IsHeader, Reads, IsGroupNamed, CertificateAccepted, BodyTextFails, NetFails}
use Rattle.check_engines.specs.Prelude.{Fails}
use Rattle.closure_net.specs.declared.net.NetFault.{NetFault}
use Rattle.closure_net.specs.declared.net.NetFault.TheVariants as net
use Rattle.certificate_file.specs.declared.cert_fault.CertFault.{CertFault}
use Rattle.certificate_file.specs.declared.cert_fault.CertFault.TheVariants as cert
use Rattle.check_engines.proofs.Told.{size_told, worth_told}

-- the net that is made of the worths that were read
pub net_made : (block : ℤ → ℕ → Amount) (texts : MineTexts) (rests : RestsView) (worths : List ℤ)
    → AreRead texts worths rests
    → IsNetOf block (mine_of rests.blocks texts) (net_view rests.pairs (map (λ v. block v rests.blocks) worths))
net_made block texts rests worths a =
    let each = a.worths.each in
    let size = a.worths.size in
    record {
      blocks = length-map worths (λ v. block v rests.blocks) ∙ size;
      worths = λ b l. get_or-map (λ v. block v rests.blocks) worths b (pos 0) zero_amount (omega (arith, l, size))
          ∙ ap (λ (v : ℤ). block v rests.blocks) (each b l);
      pairs = a.pairs.same;
    }

-- What is known once the net is made and the certificate is read without a fault.
pub record HasRead (name : Group) (block : ℤ → ℕ → Amount) (counts : Bool) (texts : MineTexts) (certificate : List ℕ)
    (net : NetView) (pit : List ℕ) (flow : FlowView) : Type 0 where
  pub mine : DenoteMine texts (length net.worths)
  pub named : IsGroupNamed name block counts
  pub header : IsHeader texts certificate (length net.worths) name
  pub is_net : IsNet net
  pub of_mine : IsNetOf block (mine_of (length net.worths) texts) net
  pub no_fault : cert_fault_of counts name (length net.worths) net.pairs certificate ≡ None
  pub blocks : ℕ
  pub price : Price
  pub read : IsRead counts name (length net.worths) net.pairs certificate blocks price pit flow

module _ (name : Group) (block : ℤ → ℕ → Amount) (counts : Bool) (texts : MineTexts) (certificate : List ℕ)
    (net : NetView) (pit : List ℕ) (flow : FlowView) (h : HasRead name block counts texts certificate net pit flow)
  where
    abbrev pub reads : Reads texts certificate
    reads = record {
      blocks = length net.worths;
      mine = h.mine;
      group = name;
      header = h.header;
      net = net;
      is_net = h.is_net;
      of_mine = let P : (ℤ → ℕ → Amount) → Type 0 = λ f. IsNetOf f (mine_of (length net.worths) texts) net in subst P
          (sym h.named.block_is) h.of_mine;
      no_fault = let P : Bool → Type 0 = λ c. cert_fault_of c name (length net.worths) net.pairs certificate
          ≡ None in subst P (sym h.named.counts_is) h.no_fault;
      pit = pit;
      flow = flow;
      denotes = let P : Bool → Type 0 = λ c. DenotesFlow (length net.worths) net.pairs
          (lines_of_text c (length net.worths) certificate) pit flow in subst P (sym h.named.counts_is) h.read.denotes;
      ascending = h.read.ascending;
      known = h.read.known;
    }

    pub accepted : IsWithinLimit certificate → (set_worth : Amount → ℕ → ℕ → ℤ) → SumsTellWorth block set_worth
        → ProvesPit net flow pit → IsGreatest net (holds_of pit) → (count : ℕ) (worth : ℤ) → count ≡ length pit
        → worth ≡ set_worth (group_worth net.worths (holds_of pit)) (length net.worths) count
        → CertificateAccepted texts certificate name count worth
    accepted within set_worth tells proves greatest count worth c w =
        record {
          within = within;
          read = reads;
          group = refl;
          proves = proves;
          proved = h.named.proves (mine_of (length net.worths) texts) net (holds_of pit) h.of_mine greatest;
          count = size_told block texts net h.of_mine pit h.read.ascending h.read.known count c;
          worth = worth_told block texts net h.of_mine pit h.read.ascending h.read.known count c set_worth tells worth w;
        }

-- the fault of a certificate's text after its header, for the net that was made
body_fails : (name : Group) (block : ℤ → ℕ → Amount) (counts : Bool) (texts : MineTexts) (certificate : List ℕ)
    (net : NetView) (fault : CertFault) → IsGroupNamed name block counts
    → IsHeader texts certificate (length net.worths) name → IsNet net
    → IsNetOf block (mine_of (length net.worths) texts) net
    → cert_fault_of counts name (length net.worths) net.pairs certificate ≡ Some fault
    → BodyTextFails texts certificate (length net.worths) fault
body_fails name block counts texts certificate net fault named header is_net of_mine f = grind (arith, common_steps)

-- a fault in answering it
pub text_fails : (name : Group) (block : ℤ → ℕ → Amount) (counts : Bool) (texts : MineTexts) (certificate : List ℕ)
    (net : NetView) (fault : CertFault) → DenoteMine texts (length net.worths) → IsGroupNamed name block counts
    → IsHeader texts certificate (length net.worths) name → IsNet net
    → IsNetOf block (mine_of (length net.worths) texts) net
    → UnlessCertMemory fault (cert_fault_of counts name (length net.worths) net.pairs certificate ≡ Some fault)
    → Fails texts certificate (of_certificate fault)
text_fails name block counts texts certificate net cert.NoMemory mine named header is_net of_mine f = tt
text_fails name block counts texts certificate net fault mine named header is_net of_mine f =
    (length net.worths, mine, inr (body_fails name block counts texts certificate net _ named header is_net of_mine f))

pub worths_fail : (name : Group) (block : ℤ → ℕ → Amount) (counts : Bool) (texts : MineTexts) (n : ℕ)
    (worths : List ℤ) (fault : NetFault) → AreWorths texts n worths → IsGroupNamed name block counts
    → WorthsFaultStands block n worths fault → NetFails texts n name fault
worths_fail name block counts texts n worths fault are named f =
    record {
      worths = worths;
      are = are;
      stands = let P : (ℤ → ℕ → Amount) → Type 0 = λ b. WorthsFaultStands b n worths fault in subst P
          (sym named.block_is) f;
    }

-- a fault in making the net
pub net_fails : (name : Group) (block : ℤ → ℕ → Amount) (counts : Bool) (texts : MineTexts) (certificate : List ℕ)
    (rests : RestsView) (worths : List ℤ) (fault : NetFault) → AreRead texts worths rests
    → IsGroupNamed name block counts → IsHeader texts certificate rests.blocks name
    → WorthsFaultStands block rests.blocks worths fault → Fails texts certificate (of_model fault)
net_fails name block counts texts certificate rests worths net.WrongLength a named header f = (
  rests.blocks,
  a.mine,
  name,
  header,
  worths_fail name block counts texts rests.blocks worths net.WrongLength
      a.worths named f,
)
net_fails name block counts texts certificate rests worths net.TooLarge a named header f = (
  rests.blocks,
  a.mine,
  name,
  header,
  worths_fail name block counts texts rests.blocks worths net.TooLarge a.worths
      named f,
)
net_fails name block counts texts certificate rests worths net.NoMemory a named header f = tt

-- what was answered with an accepted pit
pub judged_accepted : (name : Group) (block : ℤ → ℕ → Amount) (counts : Bool) (texts : MineTexts)
    (certificate : List ℕ) (net : NetView) (pit : List ℕ) (flow : FlowView)
    → HasRead name block counts texts certificate net pit flow → IsWithinLimit certificate
    → (set_worth : Amount → ℕ → ℕ → ℤ) → SumsTellWorth block set_worth → (seen : NetView) (blocks : List ℕ)
    → seen ≡ net → blocks ≡ pit → ProvesPit net flow pit → IsGreatest seen (holds_of blocks)
    → (group : Group) (count : ℕ) (worth shown : ℤ) → group ≡ name → count ≡ length blocks
    → worth ≡ set_worth (group_worth seen.worths (holds_of blocks)) (length seen.worths) count → shown ≡ worth
    → CertificateAccepted texts certificate group count shown
judged_accepted name block counts texts certificate net pit flow h within set_worth tells seen blocks e f proves
    greatest group count worth shown a b w s =
    let G : NetView → Type 0 = λ n. IsGreatest n (holds_of blocks) in
    let H : List ℕ → Type 0 = λ l. IsGreatest net (holds_of l) in
    let size = b ∙ ap length f in
    let told = w ∙ ap (λ (n : NetView). set_worth (group_worth n.worths (holds_of blocks)) (length n.worths) count) e
    ∙ ap (λ (l : List ℕ). set_worth (group_worth net.worths (holds_of l)) (length net.worths) count) f in
    let all = accepted name block counts texts certificate net pit flow h within set_worth tells proves
    (subst H f (subst G e greatest)) count worth size told in
    let S : ℤ → Type 0 = λ z. CertificateAccepted texts certificate name count z in
    let N : Group → Type 0 = λ n. CertificateAccepted texts certificate n count shown in
    subst N (sym a) (subst S (sym s) all)

-- What is known of a net that was made of the worths that were read.
pub record NetKnown (block : ℤ → ℕ → Amount) (texts : MineTexts) (certificate : List ℕ) (name : Group)
    (net : NetView) : Type 0 where
  pub mine : DenoteMine texts (length net.worths)
  pub header : IsHeader texts certificate (length net.worths) name
  pub of_mine : IsNetOf block (mine_of (length net.worths) texts) net

known_at : (block : ℤ → ℕ → Amount) (texts : MineTexts) (certificate : List ℕ) (name : Group) (n m : ℕ)
    (net : NetView) → n ≡ m → m ≡ length net.worths → DenoteMine texts n → IsHeader texts certificate n name
    → IsNetOf block (mine_of n texts) net → NetKnown block texts certificate name net
known_at block texts certificate name n m net e f mine header of_mine = grind (arith, common_steps)

pub net_known : (block : ℤ → ℕ → Amount) (texts : MineTexts) (certificate : List ℕ) (name : Group) (rests : RestsView)
    (worths : List ℤ) (net : NetView) → AreRead texts worths rests → IsHeader texts certificate rests.blocks name
    → net ≡ net_view rests.pairs (map (λ v. block v rests.blocks) worths) → rests.blocks ≡ length worths
    → NetKnown block texts certificate name net
net_known block texts certificate name rests worths net a header is l = grind
    (arith, common_steps, net_made, length-map, known_at)
