-- The text of a trace, put line by line.
use Rattle.fixed_worth.proofs.Common.{◌≡◌, ℕ, ◌+◌, ◌<◌, ◌≤◌, List, [], ◌∷◌, ◌++◌, length, get_or, take, drop, Option}
use Rattle.fixed_worth.proofs.Common.{sym, ap, ◌∙◌, subst, append_assoc, add-one, All, map, codes, take-suc, All-push}
use Rattle.fixed_worth.proofs.Common.{map-append, take-append-drop, take_all}
use Rattle.fixed_worth.specs.Prelude.{with_line_feeds}
use Rattle.counted_devices.specs.Prelude.{SentOrHeld, ReceivedPrefix}
use Rattle.fixed_worth.proofs.Joined.{with_line_feeds-append}
use Rattle.counted_devices.proofs.Pieces.{held_more, held_more_prefix, prefix_of_part, held_both, prefix_in_first}
use Rattle.counted_devices.proofs.Pieces.{prefix_in_second}
use Rattle.machine_law.specs.declared.events.Event.{Event}
use Rattle.trace_file.specs.Written.{event_line, trace_text}
use Rattle.trace_file.proofs.RoundTrip.{Fits}

-- ---- the line of an event: a word, a space, digits and a line feed

-- without its line feed
front_held : (a b c d : Option (List ℕ)) (p one two three word digits : List ℕ)
    → SentOrHeld a b one (p ++ word) → SentOrHeld b c two (one ++ (32 ∷ [])) → SentOrHeld c d three (two ++ digits)
    → SentOrHeld a d three (p ++ (word ++ (32 ∷ digits)))
front_held a b c d p one two three word digits first second third =
    held_both a b d p one three word (32 ∷ digits) first (held_both b c d one two three (32 ∷ []) digits second third)

pub line_held : (a b c d e : Option (List ℕ)) (p one two three q word digits : List ℕ)
    → SentOrHeld a b one (p ++ word) → SentOrHeld b c two (one ++ (32 ∷ [])) → SentOrHeld c d three (two ++ digits)
    → SentOrHeld d e q (three ++ (10 ∷ []))
    → SentOrHeld a e q (p ++ ((word ++ (32 ∷ digits)) ++ (10 ∷ [])))
line_held a b c d e p one two three q word digits first second third last =
    held_both a d e p three q (word ++ (32 ∷ digits)) (10 ∷ [])
    (front_held a b c d p one two three word digits first second third) last

pub space_failed : (a b c : Option (List ℕ)) (p one word digits : List ℕ)
    → SentOrHeld a b one (p ++ word) → ReceivedPrefix b c (one ++ (32 ∷ []))
    → ReceivedPrefix a c (p ++ ((word ++ (32 ∷ digits)) ++ (10 ∷ [])))
space_failed a b c p one word digits first h =
    prefix_in_first a c p (word ++ (32 ∷ digits)) (10 ∷ [])
    (prefix_in_second a b c p one word (32 ∷ digits) first (prefix_in_first b c one (32 ∷ []) digits h))

pub digits_failed : (a b c d : Option (List ℕ)) (p one two word digits : List ℕ)
    → SentOrHeld a b one (p ++ word) → SentOrHeld b c two (one ++ (32 ∷ [])) → ReceivedPrefix c d (two ++ digits)
    → ReceivedPrefix a d (p ++ ((word ++ (32 ∷ digits)) ++ (10 ∷ [])))
digits_failed a b c d p one two word digits first second h =
    prefix_in_first a d p (word ++ (32 ∷ digits)) (10 ∷ [])
    (prefix_in_second a b d p one word (32 ∷ digits) first
    (prefix_in_second b c d one two (32 ∷ []) digits second h))

pub feed_failed : (a b c d e : Option (List ℕ)) (p one two three word digits : List ℕ)
    → SentOrHeld a b one (p ++ word) → SentOrHeld b c two (one ++ (32 ∷ [])) → SentOrHeld c d three (two ++ digits)
    → ReceivedPrefix d e (three ++ (10 ∷ []))
    → ReceivedPrefix a e (p ++ ((word ++ (32 ∷ digits)) ++ (10 ∷ [])))
feed_failed a b c d e p one two three word digits first second third h =
    prefix_in_second a d e p three (word ++ (32 ∷ digits)) (10 ∷ [])
    (front_held a b c d p one two three word digits first second third) h

-- ---- the lines of a trace

-- The text of the first line and of these events.
abbrev pub begun : List Event → List ℕ
begun es = with_line_feeds (codes "PITTRACE 1" ∷ map event_line es)

begun_more : (es fs : List Event) → begun (es ++ fs) ≡ begun es ++ with_line_feeds (map event_line fs)
begun_more es fs =
    ap (λ (ls : List (List ℕ)). with_line_feeds (codes "PITTRACE 1" ∷ ls)) (map-append event_line es fs)
    ∙ with_line_feeds-append (codes "PITTRACE 1" ∷ map event_line es) (map event_line fs)

-- One event more.
taken_next : (es : List Event) (i : ℕ) (d : Event) → i < length es → take (i + 1) es ≡ take i es ++ (get_or es i d ∷ [])
taken_next es i d h = rw add-one (take-suc es i d h)

pub fit_next : (es : List Event) (i : ℕ) (d : Event) → i < length es → All Fits (take i es) → Fits (get_or es i d)
    → All Fits (take (i + 1) es)
fit_next es i d h all one = subst (All Fits) (sym (taken_next es i d h))
    (All-push Fits (take i es) (get_or es i d) all one)

abbrev line_at : List Event → ℕ → Event → List ℕ
line_at es i d = event_line (get_or es i d) ++ (10 ∷ [])

begun_next : (es : List Event) (i : ℕ) (d : Event) → i < length es
    → begun (take i es) ++ line_at es i d ≡ begun (take (i + 1) es)
begun_next es i d h = sym (ap begun (taken_next es i d h) ∙ begun_more (take i es) (get_or es i d ∷ []))

pub put_more : (a b c : Option (List ℕ)) (p q : List ℕ) (es : List Event) (i : ℕ) (d : Event) → i < length es
    → SentOrHeld a b p (begun (take i es)) → SentOrHeld b c q (p ++ line_at es i d)
    → SentOrHeld a c q (begun (take (i + 1) es))
put_more a b c p q es i d h held more = subst (SentOrHeld a c q) (begun_next es i d h)
    (held_more a b c p q (begun (take i es)) (line_at es i d) held more)

-- The whole text, of which the first events are put.
text_parts : (es : List Event) (i : ℕ)
    → begun (take i es) ++ (with_line_feeds (map event_line (drop i es)) ++ codes "END\n") ≡ trace_text es
text_parts es i =
    sym (append_assoc (begun (take i es)) (with_line_feeds (map event_line (drop i es))) (codes "END\n"))
    ∙ ap (λ (t : List ℕ). t ++ codes "END\n") (sym (begun_more (take i es) (drop i es))
    ∙ ap begun (take-append-drop i es))
    ∙ sym (with_line_feeds-append (codes "PITTRACE 1" ∷ map event_line es) (codes "END" ∷ []))

pub front_failed : (a b : Option (List ℕ)) (es : List Event) (i : ℕ) → ReceivedPrefix a b (begun (take i es))
    → ReceivedPrefix a b (trace_text es)
front_failed a b es i h = prefix_of_part a b (begun (take i es))
    (with_line_feeds (map event_line (drop i es)) ++ codes "END\n") (trace_text es) (text_parts es i) h

pub head_failed : (a b : Option (List ℕ)) (p : List ℕ) (es : List Event) → p ≡ []
    → ReceivedPrefix a b (p ++ codes "PITTRACE 1\n") → ReceivedPrefix a b (trace_text es)
head_failed a b p es e h = front_failed a b es 0
    (subst (λ (t : List ℕ). ReceivedPrefix a b (t ++ codes "PITTRACE 1\n")) e h)

pub line_failed : (a b c : Option (List ℕ)) (p : List ℕ) (es : List Event) (i : ℕ) (d : Event) → i < length es
    → SentOrHeld a b p (begun (take i es)) → ReceivedPrefix b c (p ++ line_at es i d)
    → ReceivedPrefix a c (trace_text es)
line_failed a b c p es i d h held more =
    front_failed a c es (i + 1)
    (subst (ReceivedPrefix a c) (begun_next es i d h)
    (held_more_prefix a b c p (begun (take i es)) (line_at es i d) held more))

ended : (es : List Event) (i : ℕ) → length es ≤ i → begun (take i es) ++ codes "END\n" ≡ trace_text es
ended es i h =
    ap (λ (xs : List Event). begun xs ++ codes "END\n") (take_all i es h)
    ∙ sym (with_line_feeds-append (codes "PITTRACE 1" ∷ map event_line es) (codes "END" ∷ []))

pub end_failed : (a b c : Option (List ℕ)) (p : List ℕ) (es : List Event) (i : ℕ) → length es ≤ i
    → SentOrHeld a b p (begun (take i es)) → ReceivedPrefix b c (p ++ codes "END\n")
    → ReceivedPrefix a c (trace_text es)
end_failed a b c p es i h held more = subst (ReceivedPrefix a c) (ended es i h)
    (held_more_prefix a b c p (begun (take i es)) (codes "END\n") held more)

pub all_held : (a b c : Option (List ℕ)) (p q : List ℕ) (es : List Event) (i : ℕ) → length es ≤ i
    → SentOrHeld a b p (begun (take i es)) → SentOrHeld b c q (p ++ codes "END\n") → SentOrHeld a c q (trace_text es)
all_held a b c p q es i h held more = subst (SentOrHeld a c q) (ended es i h)
    (held_more a b c p q (begun (take i es)) (codes "END\n") held more)

-- What holds, holds where there is an error.
