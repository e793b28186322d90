-- What a line says, way by way through `read_question`. Assumes nothing.
use Prim.Native.Nat.{ℕ, suc, ◌+◌, ◌-◌, ◌≤◌, ◌<◌}
use mathlib.Core.Bool.{Bool, true, false, ◌&&◌}
use mathlib.Core.List.{List, [], ◌∷◌}
use mathlib.Core.Path.{◌≡◌, refl, sym, ◌∙◌, ap}
use native.Mathlib.Omega.{arith}
use lib.Dec.{eqb}
use lib.ListN.{length, get_or, take, drop, length-drop}
use lib.Seq.{drop-drop, take_all}
use borrow.Author.Tests.{eq-eqb, ne_eqb, lt-ltb, le-ltb, eqb-true, ltb-true}
use Rattle.digits.specs.Digits.{space}
use Rattle.numbers.proofs.Truth.{by_bool, both-second}
use Rattle.questions.specs.declared.PartRead.{PartRead}
use Rattle.std.specs.Prelude.{None, Some}
use Rattle.questions.specs.Line.{mark, part_length, first_part, has_more, other_parts, number_said, is_number, is_source, has_mark, is_number_part, part_end, part_at, read_part, read_question}

-- ---- what a part that was read says

module _ (line : List ℕ) (start : ℕ) where
  part_not : None ≡ read_part line start → is_number_part (drop start line) ≡ false
  unfolding read_part
  part_not none =
      by_bool (is_number_part (drop start line))
      (λ is. let wrong : None ≡ Some (part_at line start) = rw is at none in cc)
      (λ other. other)

  record Part (part : PartRead) : Type 0 where
    number : is_number_part (drop start line) ≡ true
    is : part ≡ part_at line start

  part-is : (part : PartRead) → Some part ≡ read_part line start → Part part
  unfolding read_part
  part-is part read =
      by_bool (is_number_part (drop start line))
      (λ is. let same : Some part ≡ Some (part_at line start) = rw is at read in record { number = is; is = cc })
      (λ other. let wrong : Some part ≡ None = rw other at read in cc)

  module _ (inside : start ≤ length line) (read : PartRead) (told : Some read ≡ read_part line start) where
    part : Part read
    part = part-is read told

    place : read.next ≡ part_end line start + 1
    place = ap (λ (one : PartRead). one.next) part.is

    pub next-inside : read.next ≤ length line
    next-inside =
        let more : has_more (drop start line) ≡ true =
        both-second (is_number (first_part (drop start line))) (has_more (drop start line)) part.number in
        let short : part_length (drop start line) < length (drop start line) = ltb-true _ _ more in
        omega (arith, place, length-drop start line)

    rest-is : drop read.next line ≡ other_parts (drop start line)
    rest-is =
        let behind : read.next ≡ start + suc (part_length (drop start line)) = omega (arith, place) in
        ap (λ (one : ℕ). drop one line) behind ∙ sym (drop-drop (suc (part_length (drop start line))) start line)

-- ---- how a question begins

module _ (line : List ℕ) where
  abbrev begins : Bool
  begins = has_mark line && has_more line

  short-begins : length line < 2 → begins ≡ false
  unfolding has_mark
  short-begins short =
      by_bool (eqb (part_length line) 1)
      (λ one.
      let all : length line ≤ part_length line = omega (arith, eqb-true (part_length line) 1 one) in
      rw (one, le-ltb (part_length line) (length line) all) (go (eqb (get_or line 0 0) mark)))
      (λ other. rw other)
    where
      go : (test : Bool) → (test && false) ≡ false
      go true = refl
      go false = refl

  unmarked-begins : (get_or line 0 0 ≡ mark → ⊥) → begins ≡ false
  unfolding has_mark
  unmarked-begins other = rw (ne_eqb (get_or line 0 0) mark other) (go (eqb (part_length line) 1))
    where
      go : (test : Bool) → (test && false && has_more line) ≡ false
      go true = refl
      go false = refl

  pub question-short : length line < 2 → None ≡ read_question line
  unfolding read_question
  question-short short = rw (short-begins short)

  pub question-unmarked : 2 ≤ length line → (get_or line 0 0 ≡ mark → ⊥) → None ≡ read_question line
  unfolding read_question
  question-unmarked long other = rw (unmarked-begins other)

joined-part : (a b : ℕ) (rest : List ℕ) → a ≡ mark → (b ≡ space → ⊥) → eqb (part_length (a ∷ b ∷ rest)) 1 ≡ false
unfolding part_length
joined-part a b rest marked other =
    rw (marked, ne_eqb b space other) (ne_eqb (suc (suc (part_length rest))) 1 (λ same. omega arith))

two-long : (line : List ℕ) → 2 ≤ length line → (get_or line 0 0 ∷ get_or line 1 0 ∷ drop 2 line) ≡ line
two-long [] long = absurd (omega arith)
two-long (a ∷ []) long = absurd (omega arith)
two-long (a ∷ b ∷ rest) long = refl

module _ (line : List ℕ) (long : 2 ≤ length line) (marked : get_or line 0 0 ≡ mark) where
  pub question-joined : (get_or line 1 0 ≡ space → ⊥) → None ≡ read_question line
  unfolding read_question has_mark
  question-joined other =
      let two : eqb (part_length line) 1 ≡ false =
      ap (λ (text : List ℕ). eqb (part_length text) 1) (sym (two-long line long))
      ∙ joined-part (get_or line 0 0) (get_or line 1 0) (drop 2 line) marked other in
      rw two

  module _ (spaced : get_or line 1 0 ≡ space) where
    one-part : part_length line ≡ 1
    unfolding part_length
    one-part = ap part_length (sym (two-long line long)) ∙ (rw (marked, eq-eqb _ _ spaced))

    marked-begins : begins line ≡ true
    unfolding has_mark
    marked-begins = rw (one-part, eq-eqb _ _ marked, lt-ltb 1 (length line) (omega arith))

    first-is : other_parts line ≡ drop 2 line
    first-is = rw one-part

    pub question_no_port : None ≡ read_part line 2 → None ≡ read_question line
    unfolding read_question
    question_no_port none = rw (marked-begins, first-is, part_not line 2 none)

    module _ (port : PartRead) (one : Some port ≡ read_part line 2) where
      pub second-inside : port.next ≤ length line
      second-inside = next-inside line 2 long port one

      port-part : Part line 2 port
      port-part = part-is line 2 port one

      second_is : other_parts (drop 2 line) ≡ drop port.next line
      second_is = sym (rest-is line 2 long port one)

      pub question_no_time : None ≡ read_part line port.next → None ≡ read_question line
      unfolding read_question
      question_no_time none =
          rw (marked-begins, first-is, port-part.number, second_is, part_not line port.next none)

      module _ (time : PartRead) (two : Some time ≡ read_part line port.next) where
        pub third-inside : time.next ≤ length line
        third-inside = next-inside line port.next second-inside time two

        time-part : Part line port.next time
        time-part = part-is line port.next time two

        third-is : other_parts (drop port.next line) ≡ drop time.next line
        third-is = sym (rest-is line port.next second-inside time two)

        pub question_no_room : None ≡ read_part line time.next → None ≡ read_question line
        unfolding read_question
        question_no_room none =
            rw (
              marked-begins,
              first-is,
              port-part.number,
              second_is,
              time-part.number,
              third-is,
              part_not line time.next none,
            )

        module _ (room : PartRead) (three : Some room ≡ read_part line time.next) where
          pub start_inside : room.next ≤ length line
          start_inside = next-inside line time.next third-inside room three

          room-part : Part line time.next room
          room-part = part-is line time.next room three

          source_is : other_parts (drop time.next line) ≡ drop room.next line
          source_is = sym (rest-is line time.next third-inside room three)

          -- the rest of the line, as the code takes it
          rest-whole : take (length line - room.next) (drop room.next line) ≡ drop room.next line
          rest-whole =
              take_all (length line - room.next) (drop room.next line) (omega (arith, length-drop room.next line))

          pub question_no_source : is_source (take (length line - room.next) (drop room.next line)) ≡ false
              → None ≡ read_question line
          unfolding read_question
          question_no_source none =
              rw (
                marked-begins,
                first-is,
                port-part.number,
                second_is,
                time-part.number,
                third-is,
                room-part.number,
                source_is,
                ap is_source (sym rest-whole) ∙ none,
              )

          pub question-is : is_source (take (length line - room.next) (drop room.next line)) ≡ true
              → Some (record { port = port.value; time = time.value; room = room.value; start = room.next })
              ≡ read_question line
          unfolding read_question
          question-is right =
              let size : room.next ≡ length line - length (drop room.next line) =
              omega (arith, length-drop room.next line, start_inside) in
              rw (
                marked-begins,
                first-is,
                port-part.number,
                second_is,
                time-part.number,
                third-is,
                room-part.number,
                source_is,
                ap is_source (sym rest-whole) ∙ right,
              )
              (λ j.
              Some
              (record {
                port = (port-part.is j).value;
                time = (time-part.is j).value;
                room = (room-part.is j).value;
                start = size j;
              }))
