-- What is answered where the header of a certificate is read from a stream, where the device tells its bytes.
use Rattle.fixed_worth.proofs.Common.{◌≡◌, ◌≢◌, ℕ, List, [], ◌++◌, length, drop, Option, Some, None, Ok, refl, sym, ap}
use Rattle.fixed_worth.proofs.Common.{◌∙◌, subst, arith, IfSome, inl, inr, length-append, Consumes}
use Rattle.certificate_file.specs.declared.cert_fault.CertFault.TheVariants as cert
use Rattle.certificate_file.specs.declared.header.Header.{Header}
use Rattle.certificate_file.specs.Prelude.{header_of, pieces_of}
use Rattle.check_pit.specs.Prelude.{ReadsHeader, GivesHeader, LineView}
use Rattle.engine_faults.specs.declared.engine_fault.EngineFault.{EngineFault}
use Rattle.mine_inputs.specs.Prelude.{MineTexts, DenoteMine}
use Rattle.engine_faults.specs.Prelude.{of_certificate}
use Rattle.check_engines.specs.Prelude.{Fails, StandsAfter}

-- what a device has left of its bytes, where they are known
pub consumed : (rem : Option (List ℕ)) (old bytes : List ℕ) → Consumes (Some old) rem bytes → (left : List ℕ)
    × (rem ≡ Some left) × (old ≡ bytes ++ left)
consumed None old bytes h = absurd h
consumed (Some left) old bytes h = (left, refl, h)

-- bytes that were read where none was held
read_here : (held bytes left text : List ℕ) → held ≡ [] → text ≡ bytes ++ left → (held ++ bytes) ++ left ≡ text
read_here held bytes left text e is = ap (λ (l : List ℕ). (l ++ bytes) ++ left) e ∙ sym is

module _ {R : Type 0} (remaining : R → Option (List ℕ)) (before later : LineView R) (held : before.held ≡ [])
    (taken : before.taken ≡ 0) where
  given_at : (o : Option (List ℕ)) (h : Header) (bytes : List ℕ) → Consumes o (remaining later.from) bytes
      → ReadsHeader remaining before later h bytes
      → IfSome o (λ c. (header_of (pieces_of c) ≡ Ok h) × StandsAfter remaining c later)
  given_at None h bytes g r = tt
  given_at (Some c) h bytes g r =
      let left = consumed (remaining later.from) c bytes g in
      let is = read_here before.held bytes left.0 c held left.2 in
      let size = ap length left.2 ∙ length-append bytes left.0 in
      let more = r.taken in (
        ap (λ (t : List ℕ). header_of (pieces_of t)) (sym is) ∙ r.header left.0,
        record {
          left = left.0;
          known = left.1;
          body = ap (λ (t : List ℕ). drop 4 (pieces_of t)) (sym is)
              ∙ r.body left.0;
          taken = omega (arith, more, taken, size);
        },
      )

  -- the header was read
  pub header_given : (h : Header) → GivesHeader remaining before later h
      → IfSome (remaining before.from) (λ c. (header_of (pieces_of c) ≡ Ok h) × StandsAfter remaining c later)
  header_given h g = given_at (remaining before.from) h g.0 g.1.given g.1

-- the header names another number of blocks
pub other_blocks : {R : Type 0} (remaining : R → Option (List ℕ)) (later : LineView R) (o : Option (List ℕ)) (n : ℕ)
    (h : Header) (f : EngineFault) → h.blocks ≢ n → f ≡ of_certificate (cert.Number 2)
    → IfSome o (λ c. (header_of (pieces_of c) ≡ Ok h) × StandsAfter remaining c later)
    → IfSome o (λ c. (texts : MineTexts) → DenoteMine texts n → Fails texts c f)
other_blocks remaining later None n h f d e r = tt
other_blocks remaining later (Some c) n h f d e r = λ texts mine. let P : EngineFault
    → Type 0 = λ x. Fails texts c x in subst P (sym e) (n, mine, inl (inr (h, r.0, d, refl)))
