-- The first lines of a stream, one after another, whatever follows them.
use Rattle.fixed_worth.proofs.Common.{◌≡◌, ℕ, ◌+◌, List, [], ◌∷◌, ◌++◌, length, drop, Option, Result, Ok, Err, refl}
use Rattle.fixed_worth.proofs.Common.{sym, ap, ◌∙◌, arith, append-nil, append_assoc, None, Consumes, Consumes-nil}
use Rattle.fixed_worth.proofs.Common.{length-append, common_steps}
use Rattle.ordered_group.specs.declared.groups.Group.{Group}
use Rattle.certificate_file.specs.declared.header.Price.{Price}
use Rattle.certificate_file.specs.declared.header.Version.{Version}
use Rattle.certificate_file.specs.declared.cert_fault.CertFault.{CertFault}
use Rattle.check_pit.specs.declared.stream_fault.StreamFault.{StreamFault}
use Rattle.certificate_file.specs.Prelude.{Piece, pieces_of, piece_at, read_line, header_of, version_in, blocks_in}
use Rattle.certificate_file.specs.Prelude.{price_in, group_in, header_with}
use Rattle.check_pit.specs.Prelude.{LineView, ReadsBytes, held_piece, PassesLine, TakesLine, LacksLine, NoPitFault}
use Rattle.check_pit.specs.Prelude.{GivesHeader, LacksHeader}
use Rattle.certificate_file.proofs.HeaderLines.{all_ok}
use Rattle.check_pit.proofs.HeldLines.{line_held}
use Rattle.check_pit.proofs.NextLines.{fault_as}

-- k lines were passed, which the text begins with.
pub record Heads {R : Type 0} (remaining : R → Option (List ℕ)) (before later : LineView R) (bytes : List ℕ)
    (ps : List Piece) (k : ℕ) : Type 0 where
  pub given : Consumes (remaining before.from) (remaining later.from) bytes
  pub taken : later.taken ≡ before.taken + length bytes
  pub number : later.number ≡ k
  pub pieces : (future : List ℕ) → pieces_of ((before.held ++ bytes) ++ future) ≡ ps ++ pieces_of (later.held ++ future)

pub heads_at : {R : Type 0} (remaining : R → Option (List ℕ)) (s : LineView R) (k : ℕ) → s.number ≡ k
    → Heads remaining s s [] [] k
heads_at remaining s k e = record {
  given = Consumes-nil (remaining s.from);
  taken = omega arith;
  number = e;
  pieces = λ future. ap
      (λ (t : List ℕ). pieces_of (t ++ future)) (append-nil s.held);
}

shifted : (a b c d : List ℕ) → (a ++ (b ++ c)) ++ d ≡ (a ++ b) ++ (c ++ d)
shifted a b c d = simp append_assoc

heads_stop : {R : Type 0} (remaining : R → Option (List ℕ)) (before mid later : LineView R) (bytes more : List ℕ)
    (ps : List Piece) (k : ℕ) → Heads remaining before mid bytes ps k → ReadsBytes remaining mid later more
    → Heads remaining before later (bytes ++ more) ps k
heads_stop remaining before mid later bytes more ps k h r = grind (arith, common_steps)

heads_pass : {R : Type 0} (remaining : R → Option (List ℕ)) (before mid later : LineView R) (bytes more : List ℕ)
    (ps : List Piece) (k count : ℕ) → Heads remaining before mid bytes ps k → PassesLine remaining mid later more count
    → Heads remaining before later (bytes ++ more) (ps ++ held_piece count (mid.held ++ more) ∷ []) (k + 1)
heads_pass remaining before mid later bytes more ps k count h r = grind
    (arith, common_steps, length-append, shifted, append_assoc, line_held)

-- One line more.
pub record OneMore {R A : Type 0} (remaining : R → Option (List ℕ)) (f : ℕ → Piece → Result A CertFault)
    (before later : LineView R) (ps : List Piece) (k : ℕ) (x : A) : Type 0 where
  pub bytes : List ℕ
  pub piece : Piece
  pub heads : Heads remaining before later bytes (ps ++ piece ∷ []) (k + 1)
  pub said : f (k + 1) piece ≡ Ok x

pub heads_on : {R A : Type 0} (remaining : R → Option (List ℕ)) (f : ℕ → Piece → Result A CertFault)
    (before mid later : LineView R) (bytes : List ℕ) (ps : List Piece) (k : ℕ) (x : A)
    → Heads remaining before mid bytes ps k → TakesLine remaining f mid later x
    → OneMore remaining f before later ps k x
heads_on remaining f before mid later bytes ps k x h t = grind
    (arith, common_steps, (heads_pass remaining before mid later bytes t.0 ps k t.1 h t.2))

-- No line more.
heads_lack : {R A : Type 0} (remaining : R → Option (List ℕ)) (f : ℕ → Piece → Result A CertFault)
    (before mid later : LineView R) (bytes : List ℕ) (ps : List Piece) (k : ℕ) (e : StreamFault)
    → Heads remaining before mid bytes ps k → LacksLine remaining f mid later e
    → ((qs : List Piece) (x : CertFault) → f (k + 1) (piece_at qs 0) ≡ Err x → header_of (ps ++ qs) ≡ Err x)
    → LacksHeader remaining before later e
heads_lack remaining f before mid later bytes ps k e h l bad =
    let more = l.0.0 in
    let s = heads_stop remaining before mid later bytes more ps k h l.0.1 in (
      bytes ++ more,
      record {
        given = s.given;
        taken = s.taken;
        fault = fault_as (remaining later.from) later.taken
            (λ future x. f (later.number + 1) (piece_at (pieces_of (later.held ++ future)) 0) ≡ Err x)
            (λ future x. header_of (pieces_of ((before.held ++ (bytes ++ more)) ++ future)) ≡ Err x) NoPitFault
            NoPitFault e
            (λ future x w. ap header_of (s.pieces future)
            ∙ bad (pieces_of (later.held ++ future)) x
            (ap (λ (j : ℕ). f (j + 1) (piece_at (pieces_of (later.held ++ future)) 0)) (sym s.number) ∙ w))
            (λ x z. z) l.1;
      },
    )

first_bad : (qs : List Piece) (x : CertFault) → read_line version_in 1 (piece_at qs 0) ≡ Err x → header_of qs ≡ Err x
first_bad qs x h = rw h refl

-- The four lines, and each of them missing.
pub record Two {R : Type 0} (remaining : R → Option (List ℕ)) (s a b : LineView R) (v : Version) (n : ℕ) : Type 0 where
  pub zero : s.number ≡ 0
  pub first : TakesLine remaining (read_line version_in) s a v
  pub second : TakesLine remaining (read_line (blocks_in None)) a b n

pub lacks_first : {R : Type 0} (remaining : R → Option (List ℕ)) (s a : LineView R) (e : StreamFault) → s.number ≡ 0
    → LacksLine remaining (read_line version_in) s a e → LacksHeader remaining s a e
lacks_first remaining s a e z l = heads_lack remaining (read_line version_in) s s a [] [] 0 e
    (heads_at remaining s 0 z) l first_bad

one_head : {R : Type 0} (remaining : R → Option (List ℕ)) (s a : LineView R) (v : Version) → s.number ≡ 0
    → TakesLine remaining (read_line version_in) s a v → OneMore remaining (read_line version_in) s a [] 0 v
one_head remaining s a v z t = heads_on remaining (read_line version_in) s s a [] [] 0 v (heads_at remaining s 0 z) t

pub lacks_second : {R : Type 0} (remaining : R → Option (List ℕ)) (s a b : LineView R) (v : Version) (e : StreamFault)
    → s.number ≡ 0 → TakesLine remaining (read_line version_in) s a v
    → LacksLine remaining (read_line (blocks_in None)) a b e → LacksHeader remaining s b e
lacks_second remaining s a b v e z t l =
    let o = one_head remaining s a v z t in
    heads_lack remaining (read_line (blocks_in None)) s a b o.bytes (o.piece ∷ []) 1 e o.heads l
    (λ qs x h. rw (o.said, h) refl)

two_heads : {R : Type 0} (remaining : R → Option (List ℕ)) (s a b : LineView R) (v : Version) (n : ℕ)
    (t : Two remaining s a b v n)
    → OneMore remaining (read_line (blocks_in None)) s b ((one_head remaining s a v t.zero t.first).piece ∷ []) 1 n
two_heads remaining s a b v n t = grind (
  arith,
  common_steps,
  (one_head remaining s a v t.zero t.first),
  (heads_on remaining (read_line (blocks_in None)) s a b (one_head remaining s a v t.zero t.first).bytes
      ((one_head remaining s a v t.zero t.first).piece ∷ []) 1 n (one_head remaining s a v t.zero t.first).heads
      t.second),
)

pub lacks_third : {R : Type 0} (remaining : R → Option (List ℕ)) (s a b c : LineView R) (v : Version) (n : ℕ)
    (e : StreamFault) → Two remaining s a b v n → LacksLine remaining (read_line (price_in v)) b c e
    → LacksHeader remaining s c e
lacks_third remaining s a b c v n e t l =
    let o = one_head remaining s a v t.zero t.first in
    let w = two_heads remaining s a b v n t in
    heads_lack remaining (read_line (price_in v)) s b c w.bytes (o.piece ∷ w.piece ∷ []) 2 e w.heads l
    (λ qs x h. rw (o.said, w.said, h) refl)

pub lacks_fourth : {R : Type 0} (remaining : R → Option (List ℕ)) (s a b c d : LineView R) (v : Version) (n : ℕ)
    (price : Price) (e : StreamFault) → Two remaining s a b v n
    → TakesLine remaining (read_line (price_in v)) b c price → LacksLine remaining (read_line (group_in None)) c d e
    → LacksHeader remaining s d e
lacks_fourth remaining s a b c d v n price e t u l =
    let o = one_head remaining s a v t.zero t.first in
    let w = two_heads remaining s a b v n t in
    let x = heads_on remaining (read_line (price_in v)) s b c w.bytes (o.piece ∷ w.piece ∷ []) 2 price w.heads u in
    heads_lack remaining (read_line (group_in None)) s c d x.bytes (o.piece ∷ w.piece ∷ x.piece ∷ []) 3 e x.heads l
    (λ qs y h. rw (o.said, w.said, x.said, h) refl)

pub gives_header : {R : Type 0} (remaining : R → Option (List ℕ)) (s a b c d : LineView R) (v : Version) (n : ℕ)
    (price : Price) (group : Group) → Two remaining s a b v n → TakesLine remaining (read_line (price_in v)) b c price
    → TakesLine remaining (read_line (group_in None)) c d group
    → GivesHeader remaining s d (header_with n price group)
gives_header remaining s a b c d v n price group t u l =
    let o = one_head remaining s a v t.zero t.first in
    let w = two_heads remaining s a b v n t in
    let x = heads_on remaining (read_line (price_in v)) s b c w.bytes (o.piece ∷ w.piece ∷ []) 2 price w.heads u in
    let y = heads_on remaining (read_line (group_in None)) s c d x.bytes (o.piece ∷ w.piece ∷ x.piece ∷ []) 3 group
    x.heads l in (
      y.bytes,
      record {
        given = y.heads.given;
        taken = y.heads.taken;
        number = y.heads.number;
        header = λ future. ap header_of (y.heads.pieces future)
            ∙ all_ok _ _ (λ z. read_line (price_in z) 3 x.piece) _ v n price group o.said w.said x.said y.said;
        body = λ future. ap (drop 4) (y.heads.pieces future);
      },
    )
