-- What a shown line says: a law for each way through. Assumes nothing.
use Rattle.std.specs.Prelude.{Option, Some, None}
use Prim.Native.Nat.{ℕ, suc, ◌+◌, ◌*◌, ◌-◌, ◌≤◌, ◌<◌}
use mathlib.Core.Bool.{Bool, true, false, cond, ◌||◌, or-true}
use mathlib.Core.List.{List, [], ◌∷◌}
use mathlib.Core.Path.{◌≡◌, refl, sym, ap, ◌∙◌}
use native.Mathlib.Nat.{zero-add}
use native.Mathlib.Omega.{arith}
use borrow.Author.Tests.{lt-ltb, le-ltb, ltb-false, eq-eqb, ne_eqb}
use lib.Dec.{eqb, ltb}
use lib.ListN.{length, take, drop, get_or, length-drop}
use lib.Seq.{drop-cons, take_all}
use Rattle.numbers.specs.declared.Answer.{Answer}
use Rattle.digits.specs.Digits.{all_digits, octets_of}
use Rattle.eventlog.specs.Line.{with_octets}
use Rattle.eventlog.specs.InnerPromises.{octet_at}
use Rattle.lanes.specs.declared.View.{View}
use Rattle.lanes.specs.Value.{answer_value}
use Rattle.verdictlines.specs.declared.shown.Shown.{Shown}
use Rattle.verdictlines.specs.Shown.{mark, is_shown, shown_octets, shown_time, shown_octet, shown_answer, is_shown_form, said_in, port_said, read_port, read_answer, read_shown, OctetIn}

-- ---- the mark

pub is_shown-none : (line : List ℕ) → length line ≡ 0 → false ≡ is_shown line
unfolding is_shown
is_shown-none [] none = refl
is_shown-none (c ∷ cs) none = absurd (omega arith)

pub is_shown-first : (line : List ℕ) → (length line ≡ 0 → ⊥) → eqb (get_or line 0 0) mark ≡ is_shown line
unfolding is_shown
is_shown-first [] some = absurd (some refl)
is_shown-first (c ∷ cs) some = refl

-- ---- the octets

-- two digits more, an octet more
octets-next : (line : List ℕ) (place : ℕ) → place + 2 ≤ length line
    → octets_of (drop place line) ≡ octet_at line place ∷ octets_of (drop (place + 2) line)
unfolding octets_of octet_at
octets-next line place inside =
    let one : place + 1 ≡ suc place = omega arith in
    let two : place + 2 ≡ suc (suc place) = omega arith in
    rw (drop-cons line place 0 (omega arith), drop-cons line (suc place) 0 (omega arith), one, two)

module _ (line : List ℕ) (long : 13 ≤ length line) where
  six : shown_octets line
      ≡ octet_at line 1 ∷ octet_at line 3 ∷ octet_at line 5 ∷ octet_at line 7 ∷ octet_at line 9 ∷ octet_at line 11
      ∷ octets_of (drop 13 line)
  six =
      rw (
        octets-next line 1 (omega arith),
        octets-next line 3 (omega arith),
        octets-next line 5 (omega arith),
        octets-next line 7 (omega arith),
        octets-next line 9 (omega arith),
        octets-next line 11 (omega arith),
      )

  pub time-made : (a b c d e f : ℕ) → OctetIn line 1 a → OctetIn line 3 b → OctetIn line 5 c → OctetIn line 7 d
      → OctetIn line 9 e → OctetIn line 11 f
      → ((((a * 256 + b) * 256 + c) * 256 + d) * 256 + e) * 256 + f ≡ shown_time line
  unfolding shown_time with_octets
  time-made a b c d e f is_a is_b isC isD isE isF =
      rw (
        six,
        is_a.value,
        is_b.value,
        isC.value,
        isD.value,
        isE.value,
        isF.value,
        zero-add (octet_at line 1),
      )

  behind : (place : ℕ) → shown_octet line place ≡ get_or (octets_of (drop 13 line)) place 0
  unfolding shown_octet
  behind place =
      let next : 6 + place ≡ suc (suc (suc (suc (suc (suc place))))) = omega arith in
      rw (six, next)

pub octet-first : (line : List ℕ) (octet : ℕ) → 15 ≤ length line → OctetIn line 13 octet → octet ≡ shown_octet line 0
octet-first line octet long is = is.value ∙ sym (behind line (omega arith) 0 ∙ rw (octets-next line 13 (omega arith)))

pub octet-second : (line : List ℕ) (octet : ℕ) → 17 ≤ length line → OctetIn line 15 octet → octet ≡ shown_octet line 1
octet-second line octet long is =
    is.value
    ∙ sym (behind line (omega arith) 1
    ∙ rw (octets-next line 13 (omega arith), octets-next line 15 (omega arith)))

module _ (line : List ℕ) (long : 23 ≤ length line) where
  five : octets_of (drop 13 line)
      ≡ octet_at line 13 ∷ octet_at line 15 ∷ octet_at line 17 ∷ octet_at line 19 ∷ octet_at line 21
      ∷ octets_of (drop 23 line)
  five =
      rw (
        octets-next line 13 (omega arith),
        octets-next line 15 (omega arith),
        octets-next line 17 (omega arith),
        octets-next line 19 (omega arith),
        octets-next line 21 (omega arith),
      )

  octet-at : (place : ℕ) → shown_octet line place
      ≡ get_or (octet_at line 13 ∷ octet_at line 15 ∷ octet_at line 17 ∷ octet_at line 19 ∷ octet_at line 21
      ∷ octets_of (drop 23 line)) place 0
  octet-at place = behind line (omega arith) place ∙ rw five

  pub answer-made : (a b c d e : ℕ) → OctetIn line 13 a → OctetIn line 15 b → OctetIn line 17 c → OctetIn line 19 d
      → OctetIn line 21 e
      → record { number = 0; selected = a; clockstate = b; clockquality = c; switchkind = d; switchinput = e }
      ≡ shown_answer line
  answer-made a b c d e is_a is_b isC isD isE = λ j.
      record {
        number = 0;
        selected = (is_a.value ∙ sym (octet-at 0)) j;
        clockstate = (is_b.value ∙ sym (octet-at 1)) j;
        clockquality = (isC.value ∙ sym (octet-at 2)) j;
        switchkind = (isD.value ∙ sym (octet-at 3)) j;
        switchinput = (isE.value ∙ sym (octet-at 4)) j;
      }

-- ---- what a line says

-- what stands behind the mark, as the code lends it
rest-digits : (line : List ℕ) (digits : Bool) → digits ≡ all_digits (take (length line - 1) (drop 1 line))
    → digits ≡ all_digits (drop 1 line)
rest-digits line digits part =
    part ∙ ap all_digits (take_all (length line - 1) (drop 1 line) (omega (arith, length-drop 1 line)))

module _ (line : List ℕ) where
  pub port-long : (length line ≡ 17 → ⊥) → None ≡ read_port line
  unfolding read_port is_shown_form
  port-long other = rw (ne_eqb (length line) 17 other)

  module _ (size : length line ≡ 17) (digits : Bool)
      (part : digits ≡ all_digits (take (length line - 1) (drop 1 line))) where
    pub port-other : digits ≡ false → None ≡ read_port line
    unfolding read_port is_shown_form
    port-other f = rw (eq-eqb (length line) 17 size, ← rest-digits line digits part, f)

    module _ (t : digits ≡ true) (time port code : ℕ) (is_time : time ≡ shown_time line) (isPort : OctetIn line 13 port)
        (is_code : OctetIn line 15 code) where
      said : read_port line ≡ port_said port time code
      unfolding read_port is_shown_form
      said =
          rw (
            eq-eqb (length line) 17 size,
            ← rest-digits line digits part,
            t,
            ← is_time,
            ← octet-first line port (omega arith) isPort,
            ← octet-second line code (omega arith) is_code,
          )

      pub port-none : 15 < port → None ≡ read_port line
      unfolding port_said
      port-none h = sym (said ∙ rw (lt-ltb 15 port h))

      pub port_uncoded : 15 < code → None ≡ read_port line
      unfolding port_said
      port_uncoded h = sym (said ∙ rw (lt-ltb 15 code h, or-true (ltb 15 port)))

      pub port-told : port ≤ 15 → code ≤ 15 → said_in port time code ≡ read_port line
      unfolding port_said
      port-told p c = sym (said ∙ rw (le-ltb 15 port p, le-ltb 15 code c))

module _ (view : View) (line : List ℕ) where
  pub answer-long : (length line ≡ 23 → ⊥) → None ≡ read_answer view line
  unfolding read_answer is_shown_form
  answer-long other = rw (ne_eqb (length line) 23 other)

  module _ (size : length line ≡ 23) (digits : Bool)
      (part : digits ≡ all_digits (take (length line - 1) (drop 1 line))) where
    pub answer-other : digits ≡ false → None ≡ read_answer view line
    unfolding read_answer is_shown_form
    answer-other f = rw (eq-eqb (length line) 23 size, ← rest-digits line digits part, f)

    pub answer-told : digits ≡ true → (time : ℕ) (answer : Answer) (value : ℕ) → time ≡ shown_time line
        → answer ≡ shown_answer line
        → value ≡ answer_value view answer
        → said_in 0 time value ≡ read_answer view line
    unfolding read_answer is_shown_form
    answer-told t time answer value is_time isAnswer is_value =
        rw (eq-eqb (length line) 23 size, ← rest-digits line digits part, t, is_time, is_value, isAnswer)

  pub shown-port : (read : Option Shown) → view.codes ≡ true → read ≡ read_port line → read ≡ read_shown view line
  unfolding read_shown
  shown-port read t is =
      is ∙ sym (ap (λ (test : Bool). cond test (read_port line) (read_answer view line)) t)

  pub shown-answer : (read : Option Shown) → view.codes ≡ false → read ≡ read_answer view line → read ≡ read_shown view line
  unfolding read_shown
  shown-answer read f is =
      is ∙ sym (ap (λ (test : Bool). cond test (read_port line) (read_answer view line)) f)

-- ---- there are sixteen lanes

abbrev pub InLanes : Option Shown → Type 0
InLanes (Some shown) = shown.lane < 16
InLanes None = Unit {0}

said-inside : (port time code : ℕ) → InLanes (port_said port time code)
unfolding port_said
said-inside port time code = go (ltb 15 port) (ltb 15 code) refl
  where
    go : (high coded : Bool) → ltb 15 port ≡ high → InLanes (cond (high || coded) None (said_in port time code))
    go true coded is = tt
    go false true is = tt
    go false false is = omega (arith, ltb-false 15 port is)

pub shown-inside : (view : View) (line : List ℕ) → InLanes (read_shown view line)
unfolding read_shown read_port read_answer
shown-inside view line = go view.codes (is_shown_form 17 line) (is_shown_form 23 line)
  where
    go : (codes port answer : Bool)
        → InLanes
        (cond codes (cond port (port_said (shown_octet line 0) (shown_time line) (shown_octet line 1)) None)
        (cond answer (said_in 0 (shown_time line) (answer_value view (shown_answer line))) None))
    go true true answer = said-inside (shown_octet line 0) (shown_time line) (shown_octet line 1)
    go true false answer = tt
    go false port true = omega arith
    go false port false = tt

pub ruleset shown-laws = (is_shown-none, is_shown-first, time-made, answer-made, port-long, port-other, port-none, port_uncoded, port-told, answer-long, answer-other, answer-told, shown-port, shown-answer)
