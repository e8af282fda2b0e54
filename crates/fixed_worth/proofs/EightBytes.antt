-- Eight bytes at a time: which are digits, and the value of the digits that come first.
use Rattle.fixed_worth.proofs.Common.{◌≡◌, ℕ, zero, suc, ◌+◌, ◌-◌, ◌*◌, ◌/◌, ◌%◌, ◌^◌, ◌<◌, ◌≤◌, Bool, true, not, ◌&&◌}
use Rattle.fixed_worth.proofs.Common.{List, [], ◌∷◌, map, length, take, get_or, refl, ap, ap₂, ◌∙◌, arith, Fits}
use Rattle.fixed_worth.proofs.Common.{list_all, common_steps, get_or-take, length-take-le}
use Rattle.std.proofs.Common.{w8, leb, bit_and}
use Rattle.std.proofs.lemmas.Nat.{and_block, and_mask, mod_low, shr_high, mul-mod_first}
use Rattle.std.proofs.lemmas.Simd.{run_in_chunk_fails}
use Rattle.std.specs.List.{prefix_len}
use lib.Lanes.{chunk, Each1, number_l}
use Rattle.fixed_worth.specs.Numeral.{is_digit, is_other, value_of}
use Rattle.fixed_worth.proofs.Bits.{not_false}
use Rattle.fixed_worth.proofs.Digits.{all_digits}

-- A byte less 48, which wraps below 0, is 10 or more where it is no digit.
other_is : (x : ℕ) → x < 256 → leb 10 ((x + 208) % 256) ≡ is_other x
other_is x h = grind (arith, common_steps)

pub others_are : (v : List ℕ) → Each1 (Fits w8) v → map (λ x. leb 10 ((x + 208) % 256)) v ≡ map is_other v
others_are [] h = refl
others_are (x ∷ xs) h = ap₂ (λ b bs. b ∷ bs) (other_is x h.0.fits) (others_are xs h.1)

-- What comes before the first other byte is digits.
pub front_digits : (text : List ℕ) (r : ℕ) → 8 ≤ length text → r ≤ 8
    → r ≡ prefix_len (λ x. not (is_other x)) (chunk 0 8 text) → list_all is_digit (take r text) ≡ true
front_digits text r long few e =
    let size = length-take-le r text (omega (arith, few, long)) in
    all_digits (take r text) (λ k l.
    let inside : k < r = omega (arith, l, size) in
    ap is_digit (get_or-take r text k 0 inside)
    ∙ not_false (is_digit (get_or text k 0))
    (run_in_chunk_fails is_other text 0 8 r 0 (omega (arith, long)) e k (omega arith) (omega (arith, inside))))

-- The low halves of words' halves.
low_byte : (x p : ℕ) → p < 256 → bit_and (x * 256 + p) 255 ≡ p
low_byte x p h = and_mask (x * 256 + p) 8 ∙ mod_low x 8 p h

low_two : (x p : ℕ) → p < 65536 → bit_and (x * 65536 + p) 65535 ≡ p
low_two x p h = and_mask (x * 65536 + p) 16 ∙ mod_low x 16 p h

step : (a r b s : ℕ) → r < 65536 → s < 65536 → bit_and (a * 65536 + r) (b * 65536 + s) ≡ bit_and a b * 65536
    + bit_and r s
step a r b s = and_block 16 a b r s

odd_bytes : (p0 x0 p1 x1 p2 x2 p3 : ℕ) → p0 < 256 → x0 < 256 → p1 < 256 → x1 < 256 → p2 < 256 → x2 < 256 → p3 < 256
    → bit_and (((p3 * 65536 + (x2 * 256 + p2)) * 65536 + (x1 * 256 + p1)) * 65536 + (x0 * 256 + p0)) 71777214294589695
    ≡ ((p3 * 65536 + p2) * 65536 + p1) * 65536 + p0
odd_bytes p0 x0 p1 x1 p2 x2 p3 h0 g0 h1 g1 h2 g2 h3 =
    let top : bit_and p3 255 ≡ p3 = and_mask p3 8 ∙ omega (arith, h3) in
    let third = step p3 (x2 * 256 + p2) 255 255 (omega (arith, h2, g2)) (omega arith)
    ∙ ap₂ (λ m n. m * 65536 + n) top (low_byte x2 p2 h2) in
    let second = step (p3 * 65536 + (x2 * 256 + p2)) (x1 * 256 + p1) 16711935 255 (omega (arith, h1, g1))
    (omega arith) ∙ ap₂ (λ m n. m * 65536 + n) third (low_byte x1 p1 h1) in
    step ((p3 * 65536 + (x2 * 256 + p2)) * 65536 + (x1 * 256 + p1)) (x0 * 256 + p0) 1095233372415 255
    (omega (arith, h0, g0)) (omega arith) ∙ ap₂ (λ m n. m * 65536 + n) second (low_byte x0 p0 h0)

low_halves : (q0 x q1 : ℕ) → q0 < 65536 → x < 65536 → q1 < 65536
    → bit_and (q1 * 4294967296 + (x * 65536 + q0)) 281470681808895 ≡ q1 * 4294967296 + q0
low_halves q0 x q1 h g j =
    let top : bit_and q1 65535 ≡ q1 = and_mask q1 16 ∙ omega (arith, j) in
    and_block 32 q1 65535 (x * 65536 + q0) 65535 (omega (arith, h, g)) (omega arith)
    ∙ ap₂ (λ m n. m * 4294967296 + n) top (low_two x q0 h)

-- A product without its high half, less its lowest part.
middle : (n hi m k lo : ℕ) → n ≡ hi * 2 ^ 64 + (m * 2 ^ k + lo) → m * 2 ^ k + lo < 2 ^ 64 → lo < 2 ^ k
    → n % 2 ^ 64 / 2 ^ k ≡ m
middle n hi m k lo e h j = ap (λ x. x % 2 ^ 64 / 2 ^ k) e ∙ ap (λ x. x / 2 ^ k) (mod_low hi 64 (m * 2 ^ k + lo) h)
    ∙ shr_high m k lo j

twos : (w a b c d e f g h : ℕ) → a ≤ 9 → b ≤ 9 → c ≤ 9 → d ≤ 9 → e ≤ 9 → f ≤ 9 → g ≤ 9 → h ≤ 9
    → w ≡ a + b * 256 + c * 65536 + d * 16777216 + e * 4294967296 + f * 1099511627776 + g * 281474976710656 + h
    * 72057594037927936
    → bit_and (w * 2561 % 2 ^ 64 / 2 ^ 8) 71777214294589695
    ≡ (((g * 10 + h) * 65536 + (e * 10 + f)) * 65536 + (c * 10 + d)) * 65536 + (a * 10 + b)
twos w a b c d e f g h ha hb hc hd he hf hg hh is =
    let m = (((g * 10 + h) * 65536 + ((f * 10 + g) * 256 + (e * 10 + f))) * 65536
    + ((d * 10 + e) * 256 + (c * 10 + d))) * 65536 + ((b * 10 + c) * 256 + (a * 10 + b)) in
    let product : w * 2561 ≡ (h * 10) * 2 ^ 64 + (m * 2 ^ 8 + a) = omega (arith, is) in
    ap (λ n. bit_and n 71777214294589695) (middle (w * 2561) (h * 10) m 8 a product (omega arith) (omega arith))
    ∙ odd_bytes (a * 10 + b) (b * 10 + c) (c * 10 + d) (d * 10 + e) (e * 10 + f) (f * 10 + g) (g * 10 + h)
    (omega arith) (omega arith) (omega arith) (omega arith) (omega arith) (omega arith) (omega arith)

fours : (w p q r s : ℕ) → p ≤ 99 → q ≤ 99 → r ≤ 99 → s ≤ 99 → w ≡ ((s * 65536 + r) * 65536 + q) * 65536 + p
    → bit_and (w * 6553601 % 2 ^ 64 / 2 ^ 16) 281470681808895 ≡ (r * 100 + s) * 4294967296 + (p * 100 + q)
fours w p q r s hp hq hr hs is =
    let m = (r * 100 + s) * 4294967296 + ((q * 100 + r) * 65536 + (p * 100 + q)) in
    let product : w * 6553601 ≡ (s * 100) * 2 ^ 64 + (m * 2 ^ 16 + p) = omega (arith, is) in
    ap (λ n. bit_and n 281470681808895) (middle (w * 6553601) (s * 100) m 16 p product (omega arith) (omega arith))
    ∙ low_halves (p * 100 + q) (q * 100 + r) (r * 100 + s) (omega arith) (omega arith) (omega arith)

eight : (w t u : ℕ) → t ≤ 9999 → u ≤ 9999 → w ≡ u * 4294967296 + t → w * 42949672960001 % 2 ^ 64 / 2 ^ 32 ≡ t * 10000
    + u
eight w t u ht hu is =
    let product : w * 42949672960001 ≡ (u * 10000) * 2 ^ 64 + ((t * 10000 + u) * 2 ^ 32 + t) = omega (arith, is) in
    middle (w * 42949672960001) (u * 10000) (t * 10000 + u) 32 t product (omega arith) (omega arith)

-- Three products join eight digits.
pub joined : (w a b c d e f g h : ℕ) → a ≤ 9 → b ≤ 9 → c ≤ 9 → d ≤ 9 → e ≤ 9 → f ≤ 9 → g ≤ 9 → h ≤ 9
    → w ≡ a + b * 256 + c * 65536 + d * 16777216 + e * 4294967296 + f * 1099511627776 + g * 281474976710656 + h
    * 72057594037927936
    → bit_and (bit_and (w * 2561 % 2 ^ 64 / 2 ^ 8) 71777214294589695 * 6553601 % 2 ^ 64 / 2 ^ 16) 281470681808895
    * 42949672960001 % 2 ^ 64 / 2 ^ 32
    ≡ a * 10000000 + b * 1000000 + c * 100000 + d * 10000 + e * 1000 + f * 100 + g * 10 + h
joined w a b c d e f g h ha hb hc hd he hf hg hh is =
    let two = twos w a b c d e f g h ha hb hc hd he hf hg hh is in
    let four = fours (bit_and (w * 2561 % 2 ^ 64 / 2 ^ 8) 71777214294589695) (a * 10 + b) (c * 10 + d) (e * 10 + f)
    (g * 10 + h) (omega arith) (omega arith) (omega arith) (omega arith) two in
    let all = eight (bit_and (bit_and (w * 2561 % 2 ^ 64 / 2 ^ 8) 71777214294589695 * 6553601 % 2 ^ 64 / 2 ^ 16)
    281470681808895) ((a * 10 + b) * 100 + (c * 10 + d)) ((e * 10 + f) * 100 + (g * 10 + h)) (omega arith)
    (omega arith) four in
    all ∙ omega arith

-- What joining the digits of a word gives.
abbrev pub Joins : ℕ → ℕ → Type 0
Joins w v = (a b c d e f g h : ℕ) → a ≤ 9 → b ≤ 9 → c ≤ 9 → d ≤ 9 → e ≤ 9 → f ≤ 9 → g ≤ 9 → h ≤ 9
    → w ≡ a + b * 256 + c * 65536 + d * 16777216 + e * 4294967296 + f * 1099511627776 + g * 281474976710656 + h
    * 72057594037927936
    → v ≡ a * 10000000 + b * 1000000 + c * 100000 + d * 10000 + e * 1000 + f * 100 + g * 10 + h

-- A digit's byte is 48 more than the digit.
digit_of : (b : ℕ) (r : Bool) → (is_digit b && r) ≡ true → (b ≡ (b - 48) + 48) × (b - 48 ≤ 9) × (r ≡ true)
digit_of b r h = grind (arith, common_steps)

-- A word without its high part, moved up.
moved : (w c p hi lo : ℕ) → (w + c) * p ≡ hi * 2 ^ 64 + lo → lo < 2 ^ 64 → (w + c) % 2 ^ 64 * p % 2 ^ 64 ≡ lo
moved w c p hi lo e h = mul-mod_first (w + c) p (2 ^ 64) ∙ ap (λ n. n % 2 ^ 64) e ∙ mod_low hi 64 lo h

front1 : (b0 b1 b2 b3 b4 b5 b6 b7 d0 w v : ℕ) → b0 ≡ d0 + 48 → d0 ≤ 9
    → w ≡ b0 + b1 * 256 + b2 * 65536 + b3 * 16777216 + b4 * 4294967296 + b5 * 1099511627776 + b6 * 281474976710656
    + b7 * 72057594037927936
    → Joins ((w + 14974415777481871312) % 2 ^ 64 * 72057594037927936 % 2 ^ 64) v → v ≡ d0 * 1 + 0
front1 b0 b1 b2 b3 b4 b5 b6 b7 d0 w v e0 u0 is joins =
    let product : (w + 14974415777481871312) * 72057594037927936
    ≡ (58493811630788560 + b1 * 1 + b2 * 256 + b3 * 65536 + b4 * 16777216 + b5 * 4294967296 + b6 * 1099511627776
    + b7 * 281474976710656) * 2 ^ 64 + (d0 * 72057594037927936) = omega (arith, is, e0) in
    let s : (w + 14974415777481871312) % 2 ^ 64 * 72057594037927936 % 2 ^ 64 ≡ d0 * 72057594037927936 = moved w
    14974415777481871312 72057594037927936
    (58493811630788560 + b1 * 1 + b2 * 256 + b3 * 65536 + b4 * 16777216 + b5 * 4294967296 + b6 * 1099511627776
    + b7 * 281474976710656) (d0 * 72057594037927936) product (omega (arith, u0)) in
    joins 0 0 0 0 0 0 0 d0 (omega arith) (omega arith) (omega arith) (omega arith) (omega arith) (omega arith)
    (omega arith) u0 (s ∙ omega arith) ∙ omega arith

front2 : (b0 b1 b2 b3 b4 b5 b6 b7 d0 d1 w v : ℕ) → b0 ≡ d0 + 48 → b1 ≡ d1 + 48 → d0 ≤ 9 → d1 ≤ 9
    → w ≡ b0 + b1 * 256 + b2 * 65536 + b3 * 16777216 + b4 * 4294967296 + b5 * 1099511627776 + b6 * 281474976710656
    + b7 * 72057594037927936
    → Joins ((w + 14974415777481871312) % 2 ^ 64 * 281474976710656 % 2 ^ 64) v → v ≡ d0 * 10 + (d1 * 1 + 0)
front2 b0 b1 b2 b3 b4 b5 b6 b7 d0 d1 w v e0 e1 u0 u1 is joins =
    let product : (w + 14974415777481871312) * 281474976710656
    ≡ (228491451682768 + b2 * 1 + b3 * 256 + b4 * 65536 + b5 * 16777216 + b6 * 4294967296 + b7 * 1099511627776)
    * 2 ^ 64 + (d0 * 281474976710656 + d1 * 72057594037927936) = omega (arith, is, e0, e1) in
    let s : (w + 14974415777481871312) % 2 ^ 64 * 281474976710656 % 2 ^ 64 ≡ d0 * 281474976710656 + d1
    * 72057594037927936 = moved w 14974415777481871312 281474976710656
    (228491451682768 + b2 * 1 + b3 * 256 + b4 * 65536 + b5 * 16777216 + b6 * 4294967296 + b7 * 1099511627776)
    (d0 * 281474976710656 + d1 * 72057594037927936) product (omega (arith, u0, u1)) in
    joins 0 0 0 0 0 0 d0 d1 (omega arith) (omega arith) (omega arith) (omega arith) (omega arith) (omega arith) u0 u1
    (s ∙ omega arith) ∙ omega arith

front3 : (b0 b1 b2 b3 b4 b5 b6 b7 d0 d1 d2 w v : ℕ) → b0 ≡ d0 + 48 → b1 ≡ d1 + 48 → b2 ≡ d2 + 48 → d0 ≤ 9 → d1 ≤ 9
    → d2 ≤ 9
    → w ≡ b0 + b1 * 256 + b2 * 65536 + b3 * 16777216 + b4 * 4294967296 + b5 * 1099511627776 + b6 * 281474976710656
    + b7 * 72057594037927936
    → Joins ((w + 14974415777481871312) % 2 ^ 64 * 1099511627776 % 2 ^ 64) v → v ≡ d0 * 100 + (d1 * 10 + (d2 * 1 + 0))
front3 b0 b1 b2 b3 b4 b5 b6 b7 d0 d1 d2 w v e0 e1 e2 u0 u1 u2 is joins =
    let product : (w + 14974415777481871312) * 1099511627776
    ≡ (892544733136 + b3 * 1 + b4 * 256 + b5 * 65536 + b6 * 16777216 + b7 * 4294967296) * 2 ^ 64
    + (d0 * 1099511627776 + d1 * 281474976710656 + d2 * 72057594037927936) = omega (arith, is, e0, e1, e2) in
    let s : (w + 14974415777481871312) % 2 ^ 64 * 1099511627776 % 2 ^ 64 ≡ d0 * 1099511627776 + d1 * 281474976710656
    + d2 * 72057594037927936 = moved w 14974415777481871312 1099511627776
    (892544733136 + b3 * 1 + b4 * 256 + b5 * 65536 + b6 * 16777216 + b7 * 4294967296)
    (d0 * 1099511627776 + d1 * 281474976710656 + d2 * 72057594037927936) product (omega (arith, u0, u1, u2)) in
    joins 0 0 0 0 0 d0 d1 d2 (omega arith) (omega arith) (omega arith) (omega arith) (omega arith) u0 u1 u2
    (s ∙ omega arith) ∙ omega arith

front4 : (b0 b1 b2 b3 b4 b5 b6 b7 d0 d1 d2 d3 w v : ℕ) → b0 ≡ d0 + 48 → b1 ≡ d1 + 48 → b2 ≡ d2 + 48 → b3 ≡ d3 + 48
    → d0 ≤ 9 → d1 ≤ 9 → d2 ≤ 9 → d3 ≤ 9
    → w ≡ b0 + b1 * 256 + b2 * 65536 + b3 * 16777216 + b4 * 4294967296 + b5 * 1099511627776 + b6 * 281474976710656
    + b7 * 72057594037927936
    → Joins ((w + 14974415777481871312) % 2 ^ 64 * 4294967296 % 2 ^ 64) v
    → v ≡ d0 * 1000 + (d1 * 100 + (d2 * 10 + (d3 * 1 + 0)))
front4 b0 b1 b2 b3 b4 b5 b6 b7 d0 d1 d2 d3 w v e0 e1 e2 e3 u0 u1 u2 u3 is joins =
    let product : (w + 14974415777481871312) * 4294967296
    ≡ (3486502864 + b4 * 1 + b5 * 256 + b6 * 65536 + b7 * 16777216) * 2 ^ 64
    + (d0 * 4294967296 + d1 * 1099511627776 + d2 * 281474976710656 + d3 * 72057594037927936) = omega
    (arith, is, e0, e1, e2, e3) in
    let s : (w + 14974415777481871312) % 2 ^ 64 * 4294967296 % 2 ^ 64 ≡ d0 * 4294967296 + d1 * 1099511627776 + d2
    * 281474976710656 + d3 * 72057594037927936 = moved w 14974415777481871312 4294967296
    (3486502864 + b4 * 1 + b5 * 256 + b6 * 65536 + b7 * 16777216)
    (d0 * 4294967296 + d1 * 1099511627776 + d2 * 281474976710656 + d3 * 72057594037927936) product
    (omega (arith, u0, u1, u2, u3)) in
    joins 0 0 0 0 d0 d1 d2 d3 (omega arith) (omega arith) (omega arith) (omega arith) u0 u1 u2 u3 (s ∙ omega arith)
    ∙ omega arith

front5 : (b0 b1 b2 b3 b4 b5 b6 b7 d0 d1 d2 d3 d4 w v : ℕ) → b0 ≡ d0 + 48 → b1 ≡ d1 + 48 → b2 ≡ d2 + 48 → b3 ≡ d3 + 48
    → b4 ≡ d4 + 48 → d0 ≤ 9 → d1 ≤ 9 → d2 ≤ 9 → d3 ≤ 9 → d4 ≤ 9
    → w ≡ b0 + b1 * 256 + b2 * 65536 + b3 * 16777216 + b4 * 4294967296 + b5 * 1099511627776 + b6 * 281474976710656
    + b7 * 72057594037927936
    → Joins ((w + 14974415777481871312) % 2 ^ 64 * 16777216 % 2 ^ 64) v
    → v ≡ d0 * 10000 + (d1 * 1000 + (d2 * 100 + (d3 * 10 + (d4 * 1 + 0))))
front5 b0 b1 b2 b3 b4 b5 b6 b7 d0 d1 d2 d3 d4 w v e0 e1 e2 e3 e4 u0 u1 u2 u3 u4 is joins =
    let product : (w + 14974415777481871312) * 16777216 ≡ (13619152 + b5 * 1 + b6 * 256 + b7 * 65536) * 2 ^ 64
    + (d0 * 16777216 + d1 * 4294967296 + d2 * 1099511627776 + d3 * 281474976710656 + d4 * 72057594037927936) =
    omega (arith, is, e0, e1, e2, e3, e4) in
    let s : (w + 14974415777481871312) % 2 ^ 64 * 16777216 % 2 ^ 64 ≡ d0 * 16777216 + d1 * 4294967296 + d2
    * 1099511627776 + d3 * 281474976710656 + d4 * 72057594037927936 = moved w 14974415777481871312 16777216
    (13619152 + b5 * 1 + b6 * 256 + b7 * 65536)
    (d0 * 16777216 + d1 * 4294967296 + d2 * 1099511627776 + d3 * 281474976710656 + d4 * 72057594037927936) product
    (omega (arith, u0, u1, u2, u3, u4)) in
    joins 0 0 0 d0 d1 d2 d3 d4 (omega arith) (omega arith) (omega arith) u0 u1 u2 u3 u4 (s ∙ omega arith) ∙ omega arith

front6 : (b0 b1 b2 b3 b4 b5 b6 b7 d0 d1 d2 d3 d4 d5 w v : ℕ) → b0 ≡ d0 + 48 → b1 ≡ d1 + 48 → b2 ≡ d2 + 48
    → b3 ≡ d3 + 48 → b4 ≡ d4 + 48 → b5 ≡ d5 + 48 → d0 ≤ 9 → d1 ≤ 9 → d2 ≤ 9 → d3 ≤ 9 → d4 ≤ 9 → d5 ≤ 9
    → w ≡ b0 + b1 * 256 + b2 * 65536 + b3 * 16777216 + b4 * 4294967296 + b5 * 1099511627776 + b6 * 281474976710656
    + b7 * 72057594037927936
    → Joins ((w + 14974415777481871312) % 2 ^ 64 * 65536 % 2 ^ 64) v
    → v ≡ d0 * 100000 + (d1 * 10000 + (d2 * 1000 + (d3 * 100 + (d4 * 10 + (d5 * 1 + 0)))))
front6 b0 b1 b2 b3 b4 b5 b6 b7 d0 d1 d2 d3 d4 d5 w v e0 e1 e2 e3 e4 e5 u0 u1 u2 u3 u4 u5 is joins =
    let product : (w + 14974415777481871312) * 65536 ≡ (53200 + b6 * 1 + b7 * 256) * 2 ^ 64
    + (d0 * 65536 + d1 * 16777216 + d2 * 4294967296 + d3 * 1099511627776 + d4 * 281474976710656 + d5
    * 72057594037927936) = omega (arith, is, e0, e1, e2, e3, e4, e5) in
    let s : (w + 14974415777481871312) % 2 ^ 64 * 65536 % 2 ^ 64 ≡ d0 * 65536 + d1 * 16777216 + d2 * 4294967296 + d3
    * 1099511627776 + d4 * 281474976710656 + d5 * 72057594037927936 = moved w 14974415777481871312 65536
    (53200 + b6 * 1 + b7 * 256)
    (d0 * 65536 + d1 * 16777216 + d2 * 4294967296 + d3 * 1099511627776 + d4 * 281474976710656 + d5
    * 72057594037927936) product (omega (arith, u0, u1, u2, u3, u4, u5)) in
    joins 0 0 d0 d1 d2 d3 d4 d5 (omega arith) (omega arith) u0 u1 u2 u3 u4 u5 (s ∙ omega arith) ∙ omega arith

front7 : (b0 b1 b2 b3 b4 b5 b6 b7 d0 d1 d2 d3 d4 d5 d6 w v : ℕ) → b0 ≡ d0 + 48 → b1 ≡ d1 + 48 → b2 ≡ d2 + 48
    → b3 ≡ d3 + 48 → b4 ≡ d4 + 48 → b5 ≡ d5 + 48 → b6 ≡ d6 + 48 → d0 ≤ 9 → d1 ≤ 9 → d2 ≤ 9 → d3 ≤ 9 → d4 ≤ 9 → d5 ≤ 9
    → d6 ≤ 9
    → w ≡ b0 + b1 * 256 + b2 * 65536 + b3 * 16777216 + b4 * 4294967296 + b5 * 1099511627776 + b6 * 281474976710656
    + b7 * 72057594037927936
    → Joins ((w + 14974415777481871312) % 2 ^ 64 * 256 % 2 ^ 64) v
    → v ≡ d0 * 1000000 + (d1 * 100000 + (d2 * 10000 + (d3 * 1000 + (d4 * 100 + (d5 * 10 + (d6 * 1 + 0))))))
front7 b0 b1 b2 b3 b4 b5 b6 b7 d0 d1 d2 d3 d4 d5 d6 w v e0 e1 e2 e3 e4 e5 e6 u0 u1 u2 u3 u4 u5 u6 is joins =
    let product : (w + 14974415777481871312) * 256 ≡ (208 + b7 * 1) * 2 ^ 64
    + (d0 * 256 + d1 * 65536 + d2 * 16777216 + d3 * 4294967296 + d4 * 1099511627776 + d5 * 281474976710656 + d6
    * 72057594037927936) = omega (arith, is, e0, e1, e2, e3, e4, e5, e6) in
    let s : (w + 14974415777481871312) % 2 ^ 64 * 256 % 2 ^ 64 ≡ d0 * 256 + d1 * 65536 + d2 * 16777216 + d3
    * 4294967296 + d4 * 1099511627776 + d5 * 281474976710656 + d6 * 72057594037927936 = moved w
    14974415777481871312 256 (208 + b7 * 1)
    (d0 * 256 + d1 * 65536 + d2 * 16777216 + d3 * 4294967296 + d4 * 1099511627776 + d5 * 281474976710656 + d6
    * 72057594037927936) product (omega (arith, u0, u1, u2, u3, u4, u5, u6)) in
    joins 0 d0 d1 d2 d3 d4 d5 d6 (omega arith) u0 u1 u2 u3 u4 u5 u6 (s ∙ omega arith) ∙ omega arith

front8 : (b0 b1 b2 b3 b4 b5 b6 b7 d0 d1 d2 d3 d4 d5 d6 d7 w v : ℕ) → b0 ≡ d0 + 48 → b1 ≡ d1 + 48 → b2 ≡ d2 + 48
    → b3 ≡ d3 + 48 → b4 ≡ d4 + 48 → b5 ≡ d5 + 48 → b6 ≡ d6 + 48 → b7 ≡ d7 + 48 → d0 ≤ 9 → d1 ≤ 9 → d2 ≤ 9 → d3 ≤ 9
    → d4 ≤ 9 → d5 ≤ 9 → d6 ≤ 9 → d7 ≤ 9
    → w ≡ b0 + b1 * 256 + b2 * 65536 + b3 * 16777216 + b4 * 4294967296 + b5 * 1099511627776 + b6 * 281474976710656
    + b7 * 72057594037927936
    → Joins ((w + 14974415777481871312) % 2 ^ 64 * 1 % 2 ^ 64) v
    → v ≡ d0 * 10000000 + (d1 * 1000000
    + (d2 * 100000 + (d3 * 10000 + (d4 * 1000 + (d5 * 100 + (d6 * 10 + (d7 * 1 + 0)))))))
front8 b0 b1 b2 b3 b4 b5 b6 b7 d0 d1 d2 d3 d4 d5 d6 d7 w v e0 e1 e2 e3 e4 e5 e6 e7 u0 u1 u2 u3 u4 u5 u6 u7 is joins =
    let product : (w + 14974415777481871312) * 1 ≡ (1) * 2 ^ 64
    + (d0 * 1 + d1 * 256 + d2 * 65536 + d3 * 16777216 + d4 * 4294967296 + d5 * 1099511627776 + d6
    * 281474976710656 + d7 * 72057594037927936) = omega (arith, is, e0, e1, e2, e3, e4, e5, e6, e7) in
    let s : (w + 14974415777481871312) % 2 ^ 64 * 1 % 2 ^ 64 ≡ d0 * 1 + d1 * 256 + d2 * 65536 + d3 * 16777216 + d4
    * 4294967296 + d5 * 1099511627776 + d6 * 281474976710656 + d7 * 72057594037927936 = moved w
    14974415777481871312 1 (1)
    (d0 * 1 + d1 * 256 + d2 * 65536 + d3 * 16777216 + d4 * 4294967296 + d5 * 1099511627776 + d6 * 281474976710656
    + d7 * 72057594037927936) product (omega (arith, u0, u1, u2, u3, u4, u5, u6, u7)) in
    joins d0 d1 d2 d3 d4 d5 d6 d7 u0 u1 u2 u3 u4 u5 u6 u7 (s ∙ omega arith) ∙ omega arith

-- Eight bytes as a number.
pub eight_bytes : (v : List ℕ) → length v ≡ 8 → number_l 256 (chunk 0 8 v)
    ≡ get_or v 0 0 + get_or v 1 0 * 256 + get_or v 2 0 * 65536 + get_or v 3 0 * 16777216 + get_or v 4 0 * 4294967296
    + get_or v 5 0 * 1099511627776 + get_or v 6 0 * 281474976710656 + get_or v 7 0 * 72057594037927936
eight_bytes [] long = absurd (omega (arith, long))
eight_bytes (b0 ∷ []) long = absurd (omega (arith, long))
eight_bytes (b0 ∷ b1 ∷ []) long = absurd (omega (arith, long))
eight_bytes (b0 ∷ b1 ∷ b2 ∷ []) long = absurd (omega (arith, long))
eight_bytes (b0 ∷ b1 ∷ b2 ∷ b3 ∷ []) long = absurd (omega (arith, long))
eight_bytes (b0 ∷ b1 ∷ b2 ∷ b3 ∷ b4 ∷ []) long = absurd (omega (arith, long))
eight_bytes (b0 ∷ b1 ∷ b2 ∷ b3 ∷ b4 ∷ b5 ∷ []) long = absurd (omega (arith, long))
eight_bytes (b0 ∷ b1 ∷ b2 ∷ b3 ∷ b4 ∷ b5 ∷ b6 ∷ []) long = absurd (omega (arith, long))
eight_bytes (b0 ∷ b1 ∷ b2 ∷ b3 ∷ b4 ∷ b5 ∷ b6 ∷ b7 ∷ []) long = omega arith
eight_bytes (b0 ∷ b1 ∷ b2 ∷ b3 ∷ b4 ∷ b5 ∷ b6 ∷ b7 ∷ b ∷ rest) long = absurd (omega (arith, long))

-- The value of the first digits, by how many they are.
pub front_value : (text : List ℕ) (k w v : ℕ) → 8 ≤ length text → 0 < k → k ≤ 8 → list_all is_digit (take k text) ≡ true
    → w ≡ get_or (chunk 0 8 text) 0 0 + get_or (chunk 0 8 text) 1 0 * 256 + get_or (chunk 0 8 text) 2 0 * 65536
    + get_or (chunk 0 8 text) 3 0 * 16777216 + get_or (chunk 0 8 text) 4 0 * 4294967296 + get_or
    (chunk 0 8 text) 5 0 * 1099511627776 + get_or (chunk 0 8 text) 6 0 * 281474976710656 + get_or
    (chunk 0 8 text) 7 0 * 72057594037927936
    → Joins ((w + 14974415777481871312) % 2 ^ 64 * 2 ^ (64 - 8 * k) % 2 ^ 64) v → v ≡ value_of (take k text)
front_value [] k w v long some few digits is joins = absurd (omega (arith, long))
front_value (b0 ∷ []) k w v long some few digits is joins = absurd (omega (arith, long))
front_value (b0 ∷ b1 ∷ []) k w v long some few digits is joins = absurd (omega (arith, long))
front_value (b0 ∷ b1 ∷ b2 ∷ []) k w v long some few digits is joins = absurd (omega (arith, long))
front_value (b0 ∷ b1 ∷ b2 ∷ b3 ∷ []) k w v long some few digits is joins = absurd (omega (arith, long))
front_value (b0 ∷ b1 ∷ b2 ∷ b3 ∷ b4 ∷ []) k w v long some few digits is joins = absurd (omega (arith, long))
front_value (b0 ∷ b1 ∷ b2 ∷ b3 ∷ b4 ∷ b5 ∷ []) k w v long some few digits is joins = absurd (omega (arith, long))
front_value (b0 ∷ b1 ∷ b2 ∷ b3 ∷ b4 ∷ b5 ∷ b6 ∷ []) k w v long some few digits is joins = absurd (omega (arith, long))
front_value (b0 ∷ b1 ∷ b2 ∷ b3 ∷ b4 ∷ b5 ∷ b6 ∷ b7 ∷ rest) zero w v long some few digits is joins = absurd
    (omega (arith, some))
front_value (b0 ∷ b1 ∷ b2 ∷ b3 ∷ b4 ∷ b5 ∷ b6 ∷ b7 ∷ rest) (suc zero) w v long some few digits is joins =
    let d0 = digit_of b0 (list_all is_digit ([])) digits in
    front1 b0 b1 b2 b3 b4 b5 b6 b7 (b0 - 48) w v d0.0 d0.1 is joins
front_value (b0 ∷ b1 ∷ b2 ∷ b3 ∷ b4 ∷ b5 ∷ b6 ∷ b7 ∷ rest) (suc (suc zero)) w v long some few digits is joins =
    let d0 = digit_of b0 (list_all is_digit (b1 ∷ [])) digits in
    let d1 = digit_of b1 (list_all is_digit ([])) d0.2 in
    front2 b0 b1 b2 b3 b4 b5 b6 b7 (b0 - 48) (b1 - 48) w v d0.0 d1.0 d0.1 d1.1 is joins
front_value (b0 ∷ b1 ∷ b2 ∷ b3 ∷ b4 ∷ b5 ∷ b6 ∷ b7 ∷ rest) (suc (suc (suc zero))) w v long some few digits is joins =
    let d0 = digit_of b0 (list_all is_digit (b1 ∷ b2 ∷ [])) digits in
    let d1 = digit_of b1 (list_all is_digit (b2 ∷ [])) d0.2 in
    let d2 = digit_of b2 (list_all is_digit ([])) d1.2 in
    front3 b0 b1 b2 b3 b4 b5 b6 b7 (b0 - 48) (b1 - 48) (b2 - 48) w v d0.0 d1.0 d2.0 d0.1 d1.1 d2.1 is joins
front_value (b0 ∷ b1 ∷ b2 ∷ b3 ∷ b4 ∷ b5 ∷ b6 ∷ b7 ∷ rest) (suc (suc (suc (suc zero)))) w v long some few digits is
    joins =
    let d0 = digit_of b0 (list_all is_digit (b1 ∷ b2 ∷ b3 ∷ [])) digits in
    let d1 = digit_of b1 (list_all is_digit (b2 ∷ b3 ∷ [])) d0.2 in
    let d2 = digit_of b2 (list_all is_digit (b3 ∷ [])) d1.2 in
    let d3 = digit_of b3 (list_all is_digit ([])) d2.2 in
    front4 b0 b1 b2 b3 b4 b5 b6 b7 (b0 - 48) (b1 - 48) (b2 - 48) (b3 - 48) w v d0.0 d1.0 d2.0 d3.0 d0.1 d1.1 d2.1 d3.1
    is joins
front_value (b0 ∷ b1 ∷ b2 ∷ b3 ∷ b4 ∷ b5 ∷ b6 ∷ b7 ∷ rest) (suc (suc (suc (suc (suc zero))))) w v long some few digits
    is joins =
    let d0 = digit_of b0 (list_all is_digit (b1 ∷ b2 ∷ b3 ∷ b4 ∷ [])) digits in
    let d1 = digit_of b1 (list_all is_digit (b2 ∷ b3 ∷ b4 ∷ [])) d0.2 in
    let d2 = digit_of b2 (list_all is_digit (b3 ∷ b4 ∷ [])) d1.2 in
    let d3 = digit_of b3 (list_all is_digit (b4 ∷ [])) d2.2 in
    let d4 = digit_of b4 (list_all is_digit ([])) d3.2 in
    front5 b0 b1 b2 b3 b4 b5 b6 b7 (b0 - 48) (b1 - 48) (b2 - 48) (b3 - 48) (b4 - 48) w v d0.0 d1.0 d2.0 d3.0 d4.0 d0.1
    d1.1 d2.1 d3.1 d4.1 is joins
front_value (b0 ∷ b1 ∷ b2 ∷ b3 ∷ b4 ∷ b5 ∷ b6 ∷ b7 ∷ rest) (suc (suc (suc (suc (suc (suc zero)))))) w v long some few
    digits is joins =
    let d0 = digit_of b0 (list_all is_digit (b1 ∷ b2 ∷ b3 ∷ b4 ∷ b5 ∷ [])) digits in
    let d1 = digit_of b1 (list_all is_digit (b2 ∷ b3 ∷ b4 ∷ b5 ∷ [])) d0.2 in
    let d2 = digit_of b2 (list_all is_digit (b3 ∷ b4 ∷ b5 ∷ [])) d1.2 in
    let d3 = digit_of b3 (list_all is_digit (b4 ∷ b5 ∷ [])) d2.2 in
    let d4 = digit_of b4 (list_all is_digit (b5 ∷ [])) d3.2 in
    let d5 = digit_of b5 (list_all is_digit ([])) d4.2 in
    front6 b0 b1 b2 b3 b4 b5 b6 b7 (b0 - 48) (b1 - 48) (b2 - 48) (b3 - 48) (b4 - 48) (b5 - 48) w v d0.0 d1.0 d2.0 d3.0
    d4.0 d5.0 d0.1 d1.1 d2.1 d3.1 d4.1 d5.1 is joins
front_value (b0 ∷ b1 ∷ b2 ∷ b3 ∷ b4 ∷ b5 ∷ b6 ∷ b7 ∷ rest) (suc (suc (suc (suc (suc (suc (suc zero))))))) w v long
    some few digits is joins =
    let d0 = digit_of b0 (list_all is_digit (b1 ∷ b2 ∷ b3 ∷ b4 ∷ b5 ∷ b6 ∷ [])) digits in
    let d1 = digit_of b1 (list_all is_digit (b2 ∷ b3 ∷ b4 ∷ b5 ∷ b6 ∷ [])) d0.2 in
    let d2 = digit_of b2 (list_all is_digit (b3 ∷ b4 ∷ b5 ∷ b6 ∷ [])) d1.2 in
    let d3 = digit_of b3 (list_all is_digit (b4 ∷ b5 ∷ b6 ∷ [])) d2.2 in
    let d4 = digit_of b4 (list_all is_digit (b5 ∷ b6 ∷ [])) d3.2 in
    let d5 = digit_of b5 (list_all is_digit (b6 ∷ [])) d4.2 in
    let d6 = digit_of b6 (list_all is_digit ([])) d5.2 in
    front7 b0 b1 b2 b3 b4 b5 b6 b7 (b0 - 48) (b1 - 48) (b2 - 48) (b3 - 48) (b4 - 48) (b5 - 48) (b6 - 48) w v d0.0 d1.0
    d2.0 d3.0 d4.0 d5.0 d6.0 d0.1 d1.1 d2.1 d3.1 d4.1 d5.1 d6.1 is joins
front_value (b0 ∷ b1 ∷ b2 ∷ b3 ∷ b4 ∷ b5 ∷ b6 ∷ b7 ∷ rest) (suc (suc (suc (suc (suc (suc (suc (suc zero)))))))) w v
    long some few digits is joins =
    let d0 = digit_of b0 (list_all is_digit (b1 ∷ b2 ∷ b3 ∷ b4 ∷ b5 ∷ b6 ∷ b7 ∷ [])) digits in
    let d1 = digit_of b1 (list_all is_digit (b2 ∷ b3 ∷ b4 ∷ b5 ∷ b6 ∷ b7 ∷ [])) d0.2 in
    let d2 = digit_of b2 (list_all is_digit (b3 ∷ b4 ∷ b5 ∷ b6 ∷ b7 ∷ [])) d1.2 in
    let d3 = digit_of b3 (list_all is_digit (b4 ∷ b5 ∷ b6 ∷ b7 ∷ [])) d2.2 in
    let d4 = digit_of b4 (list_all is_digit (b5 ∷ b6 ∷ b7 ∷ [])) d3.2 in
    let d5 = digit_of b5 (list_all is_digit (b6 ∷ b7 ∷ [])) d4.2 in
    let d6 = digit_of b6 (list_all is_digit (b7 ∷ [])) d5.2 in
    let d7 = digit_of b7 (list_all is_digit ([])) d6.2 in
    front8 b0 b1 b2 b3 b4 b5 b6 b7 (b0 - 48) (b1 - 48) (b2 - 48) (b3 - 48) (b4 - 48) (b5 - 48) (b6 - 48)
    (b7 - 48) w v d0.0 d1.0 d2.0 d3.0 d4.0 d5.0 d6.0 d7.0 d0.1 d1.1 d2.1 d3.1 d4.1 d5.1 d6.1 d7.1 is joins
front_value (b0 ∷ b1 ∷ b2 ∷ b3 ∷ b4 ∷ b5 ∷ b6 ∷ b7 ∷ rest) (suc (suc (suc (suc (suc (suc (suc (suc (suc k))))))))) w v
    long some few digits is joins = absurd (omega (arith, few))
