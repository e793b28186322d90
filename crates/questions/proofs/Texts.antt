-- Octets put one behind the other into a row of zeros, and the texts that are made so. Assumes nothing.
use Prim.Native.Nat.{ℕ, zero, suc, ◌+◌, ◌*◌, ◌-◌, ◌/◌, ◌%◌, ◌≤◌, ◌<◌}
use mathlib.Core.Bool.{true, false, ◌&&◌}
use mathlib.Core.List.{List, [], ◌∷◌, ◌++◌, append_assoc}
use mathlib.Core.Path.{◌≡◌, refl, sym, ◌∙◌, ap}
use native.Mathlib.Nat.{le-div_iff_mul-le, div-mul-le_self}
use native.Mathlib.Numerals.{add-one}
use native.Mathlib.Omega.{arith}
use lib.Dec.{eqb, leb, ltb}
use lib.ListN.{length, get_or, set, take, drop, replicate, length-append, length-replicate}
use lib.Seq.{set_at, take-suc, length-take-le, take_all, take-length, append_snoc}
use borrow.Author.Tests.{lt-ltb, le-ltb, ltb-true, leb-true, eqb-true, eq-eqb, ne_eqb}
use Rattle.digits.specs.Digits.{all_digits, digit_value, octets_of, upper_digit, lower_digit, digits_of}
use Rattle.digits.proofs.Runs.{and_parts}
use Rattle.digits.proofs.Writing.{digits_of-length}
use Rattle.reader.specs.Lines.{line_feed}
use Rattle.frame.specs.Write.{written_length}
use Rattle.numbers.proofs.Truth.{by_bool}
use Rattle.questions.specs.Line.{mark, is_asked, is_source}
use Rattle.questions.specs.Answer.{frame_text, lent_room}
use Rattle.questions.specs.Asked.{padded, text_octets, held_line}

-- ---- padded

pub padded-length : (total : ℕ) (octets : List ℕ) → length octets ≤ total → length (padded total octets) ≡ total
padded-length total octets fits =
    length-append octets (replicate (total - length octets) 0)
    ∙ (rw (length-replicate {A = ℕ} (total - length octets) 0) (omega arith))

-- one more behind them
pub padded-next : (total : ℕ) (octets : List ℕ) (place octet : ℕ) → place ≡ length octets → place < total
    → set (padded total octets) place octet ≡ padded total (octets ++ (octet ∷ []))
padded-next total octets place octet here room =
    let left : total - length octets ≡ suc (total - suc (length octets)) = omega arith in
    let size : length (octets ++ (octet ∷ [])) ≡ suc (length octets) =
    length-append octets (octet ∷ []) ∙ (omega arith) in
    rw (left, size)
    (set_at octets 0 (replicate (total - suc (length octets)) 0) octet place (sym here)
    ∙ sym (append_snoc octets octet (replicate (total - suc (length octets)) 0)))

-- a text copied to the front of zeros
pub drop-zeros : (count total : ℕ) → drop {A = ℕ} count (replicate total 0) ≡ replicate (total - count) 0
drop-zeros zero total = let all : total ≡ total - 0 = omega arith in ap (λ (n : ℕ). replicate n 0) all
drop-zeros (suc count) zero = let none : 0 ≡ 0 - suc count = omega arith in ap (λ (n : ℕ). replicate n 0) none
drop-zeros (suc count) (suc total) =
    let less : total - count ≡ suc total - suc count = omega arith in
    drop-zeros count total ∙ ap (λ (n : ℕ). replicate n 0) less

pub line_copied : (text octets : List ℕ) (count : ℕ) → count ≡ length text
    → octets ≡ take (length text) text ++ drop (length text) (replicate text_octets 0)
    → record { octets = octets; count = count } ≡ held_line text
unfolding held_line
line_copied text octets count size copied =
    let whole : octets ≡ padded text_octets text =
    copied ∙ (rw (take-length text, drop-zeros (length text) text_octets)) in
    λ j. record { octets = whole j; count = size j }

-- ---- is_asked

pub is_asked-none : (line : List ℕ) → length line < 1 → false ≡ is_asked line
unfolding is_asked
is_asked-none [] none = refl
is_asked-none (character ∷ rest) none = absurd (omega arith)

pub is_asked-mark : (line : List ℕ) → 1 ≤ length line → get_or line 0 0 ≡ mark → true ≡ is_asked line
unfolding is_asked
is_asked-mark [] some is = absurd (omega arith)
is_asked-mark (character ∷ rest) some is = sym (eq-eqb character mark is)

pub is_asked-other : (line : List ℕ) → 1 ≤ length line → (get_or line 0 0 ≡ mark → ⊥) → false ≡ is_asked line
unfolding is_asked
is_asked-other [] some other = absurd (omega arith)
is_asked-other (character ∷ rest) some other = sym (ne_eqb character mark other)

-- ---- frame_text

-- a frame's digits in front, and LF behind them
pub frame-done : (frame : List ℕ) → length frame ≡ 60
    → (text : List ℕ) → text ≡ digits_of frame ++ replicate (121 - 2 * length frame) 0
    → record { octets = set text 120 line_feed; count = 121 } ≡ held_line (frame_text frame)
unfolding held_line
frame-done frame sixty text holds =
    let size : length (digits_of frame) ≡ 120 = digits_of-length frame ∙ (omega arith) in
    let left : 2 * length frame ≡ length (digits_of frame) = omega arith in
    let whole : set text 120 line_feed ≡ padded 121 (frame_text frame) =
    ap (λ (one : List ℕ). set one 120 line_feed)
    (holds ∙ ap (λ (n : ℕ). digits_of frame ++ replicate (121 - n) 0) left)
    ∙ padded-next 121 (digits_of frame) 120 line_feed (sym size) (omega arith) in
    let count : 121 ≡ length (frame_text frame) =
    sym (length-append (digits_of frame) (line_feed ∷ []) ∙ (omega arith)) in
    λ j. record { octets = whole j; count = count j }

-- ---- the octets of a source address

-- a source address that is not `-` is digits, 64 at most
pub record Address (text : List ℕ) : Type 0 where
  pub fits : length text ≤ 64
  pub all : 1 < length text → all_digits text ≡ true

pub is_source-address : (text : List ℕ) → is_source text ≡ true → Address text
unfolding is_source
is_source-address text is =
    by_bool (eqb (length text) 1)
    (λ one.
    let single : length text ≡ 1 = eqb-true _ _ one in
    record { fits = omega arith; all = λ more. absurd (omega arith) })
    (λ other.
    let parts : (leb 2 (length text) && leb (length text) 64 && eqb (length text % 2) 0 && all_digits text) ≡ true =
    rw other at is in
    let whole =
    and_parts (leb 2 (length text) && leb (length text) 64 && eqb (length text % 2) 0) (all_digits text) parts in
    record {
      fits =
          leb-true (length text) 64
          (and_parts (leb 2 (length text)) (leb (length text) 64)
          (and_parts (leb 2 (length text) && leb (length text) 64) (eqb (length text % 2) 0) whole.0).0
          ).1;
      all = λ _. whole.1;
    })

pub source_fits : (text : List ℕ) → is_source text ≡ true → length text ≤ 64
source_fits text is = (is_source-address text is).fits

-- ---- lent_room

pub lent_room-short : (room : ℕ) → room < written_length → room ≡ lent_room room
unfolding lent_room
lent_room-short room short = rw (lt-ltb _ _ short)

pub lent_room-long : (room : ℕ) → written_length ≤ room → written_length ≡ lent_room room
unfolding lent_room
lent_room-long room long = rw (le-ltb _ _ long)

pub ruleset lentRoom-laws = (lent_room-short, lent_room-long)

pub lent_room-fits : (room : ℕ) → lent_room room ≤ written_length
unfolding lent_room
lent_room-fits room =
    by_bool (ltb room written_length)
    (λ short. rw short (omega (arith, ltb-true room written_length short)))
    (λ long. rw long (omega arith))
