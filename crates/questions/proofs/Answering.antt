-- What a question is answered with, way by way. Assumes nothing.
use Prim.Native.Nat.{ℕ, zero, suc, ◌+◌, ◌-◌, ◌≤◌, ◌<◌}
use mathlib.Core.Bool.{Bool, true, not, ◌&&◌, cond}
use mathlib.Core.List.{List, [], ◌∷◌, ◌++◌, append-nil}
use mathlib.Core.Path.{◌≡◌, refl, sym, ◌∙◌, ap}
use native.Mathlib.Omega.{arith}
use borrow.Author.Tests.{eqb-true, eqb-false, leb-true, leb-false, lt-ltb, le-ltb}
use lib.Dec.{eqb, leb, ltb}
use lib.ListN.{length, take, drop, replicate, length-append, length-replicate, length-drop, drop_of_length-le}
use lib.Seq.{drop-drop, take_at, take_all}
use Rattle.numbers.proofs.Truth.{by_bool, both-second}
use Rattle.numbers.specs.Inputs.{last_input, time_limit}
use Rattle.numbers.specs.Refusal.{accepted, time_too_large, time_before_state, input_out_of_range, buffer_too_short, source_not_six}
use Rattle.digits.specs.Digits.{octets_of}
use Rattle.frame.specs.Write.{written_length, source_length}
use Rattle.selector.specs.declared.Selector.{Selector}
use Rattle.numbers.specs.Rows.{refusal, first_that_applies}
use Rattle.sender.specs.declared.Heartbeat.{Heartbeat}
use Rattle.sender.specs.declared.Heartbeat.TheVariants as H
use Rattle.sender.specs.declared.Senders.{Senders}
use Rattle.sender.specs.Heartbeat.{Question, question_of, question_number}
use Rattle.sender.specs.Sender.{Asked, sender_at, asked_number, answered_with, asked_of, asked, content_of, AskSenders}
use Rattle.sender.proofs.SenderLaws.{question_number-fit}
use Rattle.sender.proofs.Agrees.{asked-refused}
use Rattle.questions.specs.declared.LineText.{LineText}
use Rattle.questions.specs.declared.QuestionAnswer.{QuestionAnswer}
use Rattle.questions.specs.declared.QuestionRead.{QuestionRead}
use Rattle.std.specs.Prelude.{None, Some}
use Rattle.questions.specs.Line.{part_length, first_part, has_more, other_parts, number_said, is_source, has_mark, is_number_part, read_question}
use Rattle.questions.specs.Answer.{longest_question, asked_in, frame_text, nothing_text, no_question_text, heartbeat_text, lent_room, put_question}
use Rattle.questions.specs.Asked.{padded, held_line, LentAlike, answered_none, answered_asked, answered_read, answered_question}
use Rattle.questions.proofs.Texts.{lent_room-fits}

-- ---- a question that is put

take-zeros : (count total : ℕ) → count ≤ total → take {A = ℕ} count (replicate total 0) ≡ replicate count 0
take-zeros zero total fits = refl
take-zeros (suc count) zero fits = absurd (omega arith)
take-zeros (suc count) (suc total) fits = ap (λ (rest : List ℕ). 0 ∷ rest) (take-zeros count total (omega arith))

module _ (senders : Senders) (state : Selector) (port time room : ℕ) (source : List ℕ) where
  abbrev put : Question
  put = put_question state port time room source

  -- a frame is answered only where all of its room is lent
  all-lent : asked_number senders put ≡ accepted → lent_room room ≡ written_length
  all-lent is =
      let long = (question_number-fit _ port time (length put.buffer) (length source) is).long in
      let size = length-replicate {A = ℕ} (lent_room room) 0 in
      omega (arith, long, size, lent_room-fits room)

  -- so what is told of it is what the frame's room holds
  told-alike : (after : List ℕ) → after ≡ content_of senders put
      → heartbeat_text (asked senders put).heartbeat (after ++ drop (lent_room room) (replicate written_length 0))
      ≡ heartbeat_text (asked senders put).heartbeat (content_of senders put)
  told-alike after content =
      by_bool (eqb (asked_number senders put) accepted)
      (λ is.
      let all = all-lent (eqb-true _ _ is) in
      let none : drop {A = ℕ} (lent_room room) (replicate written_length 0) ≡ [] =
      ap (λ (n : ℕ). drop n (replicate written_length 0)) all in
      ap (heartbeat_text (asked senders put).heartbeat)
      (ap (λ (rest : List ℕ). after ++ rest) none ∙ append-nil after ∙ content))
      (λ other.
      let refused = asked-refused senders put (eqb-false _ _ other) in
      ap (λ (answer : Asked). heartbeat_text answer.heartbeat
      (after ++ drop (lent_room room) (replicate written_length 0)))
      refused
      ∙ sym (ap (λ (answer : Asked). heartbeat_text answer.heartbeat (content_of senders put)) refused))

  pub asked-put : (lent : ℕ) (answer : Asked) (after frame : List ℕ) (text : LineText) → lent ≡ lent_room room
      → AskSenders senders (question_of port time state source (take lent (replicate written_length 0))) answer after
      → frame ≡ after ++ drop lent (replicate written_length 0)
      → text ≡ held_line (heartbeat_text answer.heartbeat frame)
      → record { senders = answer.senders; text = text } ≡ answered_asked senders put
  unfolding answered_asked
  asked-put lent answer after frame text size asks holds told =
      let buffer : take {A = ℕ} lent (replicate written_length 0) ≡ replicate (lent_room room) 0 =
      ap (λ (n : ℕ). take n (replicate written_length 0)) size
      ∙ take-zeros (lent_room room) written_length (lent_room-fits room) in
      let question : question_of port time state source (take lent (replicate written_length 0)) ≡ put =
      ap (question_of port time state source) buffer in
      let is : answer ≡ asked senders put = asks.answered ∙ ap (asked senders) question in
      let content : after ≡ content_of senders put = asks.content ∙ ap (content_of senders) question in
      let line : text ≡ held_line (heartbeat_text (asked senders put).heartbeat (content_of senders put)) =
      told
      ∙ ap (λ (one : Asked). held_line (heartbeat_text one.heartbeat frame)) is
      ∙ ap (λ (row : List ℕ). held_line (heartbeat_text (asked senders put).heartbeat row))
      (holds ∙ ap (λ (n : ℕ). after ++ drop n (replicate written_length 0)) size)
      ∙ ap held_line (told-alike after content) in
      λ j. record { senders = (is j).senders; text = line j }

-- ---- any buffer

lent_room-test : (room : ℕ) → ltb room written_length ≡ ltb (lent_room room) written_length
unfolding lent_room
lent_room-test room =
    by_bool (ltb room written_length)
    (λ short. rw short (sym short))
    (λ long. rw long refl)

pub lent_alike : (senders : Senders) (state : Selector) (port time : ℕ) (source buffer : List ℕ)
    → LentAlike senders state port time source buffer
unfolding asked question_number
lent_alike senders state port time source buffer =
    let early : Bool = ltb time (sender_at senders port).asked in
    let number_by : Bool → ℕ =
    λ short.
    first_that_applies (
    refusal time_too_large (leb time_limit time) ∷
    refusal time_before_state early ∷
    refusal input_out_of_range (ltb last_input port) ∷
    refusal buffer_too_short short ∷
    refusal source_not_six (not (eqb (length source) source_length)) ∷
    []) in
    let size : length (replicate {A = ℕ} (lent_room (length buffer)) 0) ≡ lent_room (length buffer) =
    length-replicate (lent_room (length buffer)) 0 in
    let number : number_by (ltb (length buffer) written_length)
    ≡ number_by (ltb (length (replicate {A = ℕ} (lent_room (length buffer)) 0)) written_length) =
    ap number_by (lent_room-test (length buffer))
    ∙ sym (ap (λ (room : ℕ). number_by (ltb room written_length)) size) in
    record {
      same =
          ap
          (λ (n : ℕ).
          cond (not (eqb n accepted)) (answered_with senders (H.Refused n))
          (asked_of senders (question_of port time state source buffer)))
          number;
    }

-- ---- heartbeat_text

module _ (heartbeat : Heartbeat) (frame : List ℕ) (text : LineText) where
  pub text-information : heartbeat ≡ H.Information → text ≡ held_line (frame_text frame)
      → text ≡ held_line (heartbeat_text heartbeat frame)
  text-information is told = told ∙ (rw is)

  pub text-event : heartbeat ≡ H.Event → text ≡ held_line (frame_text frame)
      → text ≡ held_line (heartbeat_text heartbeat frame)
  text-event is told = told ∙ (rw is)

  pub text-nothing : heartbeat ≡ H.Nothing → text ≡ held_line nothing_text
      → text ≡ held_line (heartbeat_text heartbeat frame)
  text-nothing is told = told ∙ (rw is)

  pub text-refused : (number : ℕ) → heartbeat ≡ H.Refused number → text ≡ held_line (frame_text (number ∷ []))
      → text ≡ held_line (heartbeat_text heartbeat frame)
  text-refused number is told = told ∙ (rw is)

pub ruleset heartbeatText-laws = (text-information, text-event, text-nothing, text-refused)

-- ---- where SOURCE starts

-- the rest of a line has its place in the line
drop-back : (line : List ℕ) (place : ℕ) → drop (length line - length (drop place line)) line ≡ drop place line
drop-back line place =
    by_bool (leb (length line) place)
    (λ over.
    let past = leb-true (length line) place over in
    let none : length line ≤ length line - length (drop place line) = omega (arith, length-drop place line) in
    drop_of_length-le line none ∙ sym (drop_of_length-le line past))
    (λ within.
    let inside = leb-false (length line) place within in
    let here : length line - length (drop place line) ≡ place = omega (arith, length-drop place line) in
    ap (λ (n : ℕ). drop n line) here)

-- the fifth part of a line
source-at : (line : List ℕ)
    → (place : ℕ) × (other_parts (other_parts (other_parts (other_parts line))) ≡ drop place line)
source-at line =
    let one = suc (part_length line) in
    let two = suc (part_length (other_parts line)) in
    let three = suc (part_length (other_parts (other_parts line))) in
    let four = suc (part_length (other_parts (other_parts (other_parts line)))) in (
      one + two + three + four,
      (
          ap (λ (text : List ℕ). drop four (drop three text)) (drop-drop two one line)
          ∙ ap (drop four) (drop-drop three (one + two) line)
          ∙ drop-drop four (one + two + three) line
          ),
    )

module _ (line : List ℕ) (read : QuestionRead) (told : Some read ≡ read_question line) where
  abbrev first : List ℕ
  first = other_parts line

  abbrev second : List ℕ
  second = other_parts first

  abbrev third : List ℕ
  third = other_parts second

  abbrev source : List ℕ
  source = other_parts third

  record Starts : Type 0 where
    place : read.start ≡ length line - length source
    address : is_source source ≡ true

  starts : Starts
  unfolding read_question
  starts =
      let parts : Bool =
      has_mark line && has_more line && is_number_part first && is_number_part second && is_number_part third in
      by_bool (parts && is_source source)
      (λ yes.
      let same : Some read ≡ Some
      (record {
        port = number_said (first_part first);
        time = number_said (first_part second);
        room = number_said (first_part third);
        start = length line - length source;
      }) = rw yes at told in
      record { place = cc; address = both-second parts (is_source source) yes })
      (λ no. let wrong : Some read ≡ None = rw no at told in cc)

  pub start_within : read.start ≤ length line
  start_within = omega (arith, starts.place)

  pub start_source : is_source (drop read.start line) ≡ true
  start_source =
      let at = source-at line in
      let here : drop read.start line ≡ source =
      ap (λ (n : ℕ). drop n line) starts.place
      ∙ ap (λ (text : List ℕ). drop (length line - length text) line) at.1
      ∙ drop-back line at.0
      ∙ sym at.1 in
      ap is_source here ∙ starts.address

-- the rest of a line as the code lends it
abbrev rest_of : List ℕ → ℕ → List ℕ
rest_of line start = take (length line - start) (drop start line)

rest_all : (line : List ℕ) (start : ℕ) → rest_of line start ≡ drop start line
rest_all line start = take_all (length line - start) (drop start line) (omega (arith, length-drop start line))

pub source-lent : (line : List ℕ) (read : QuestionRead) → Some read ≡ read_question line
    → is_source (rest_of line read.start) ≡ true
source-lent line read told = ap is_source (rest_all line read.start) ∙ start_source line read told

pub octets-lent : (octets text : List ℕ) (count : ℕ) → octets ≡ padded 32 (octets_of text)
    → count ≡ length (octets_of text)
    → count ≤ length octets
octets-lent octets text count holds size =
    omega (arith, ap length holds, length-append (octets_of text) (replicate (32 - length (octets_of text)) 0))

-- ---- answered_question

module _ (senders : Senders) (state : Selector) (line : List ℕ) where
  pub answered-long : longest_question < length line → answered_none senders ≡ answered_question senders state line
  unfolding answered_read asked_in
  answered-long long = rw (lt-ltb longest_question (length line) long)

  module _ (short : length line ≤ longest_question) where
    asked_in_lem : read_question line ≡ asked_in line
    unfolding asked_in
    asked_in_lem = rw (le-ltb longest_question (length line) short)

    pub answered-nothing : None ≡ read_question line → answered_none senders ≡ answered_question senders state line
    unfolding answered_read
    answered-nothing none = rw (← asked_in_lem, ← none)

    pub answered-asked : (read : QuestionRead) (count : ℕ) (octets : List ℕ) (answer : QuestionAnswer)
        → Some read ≡ read_question line
        → octets ≡ padded 32 (octets_of (rest_of line read.start))
        → count ≡ length (octets_of (rest_of line read.start))
        → answer ≡ answered_asked senders (put_question state read.port read.time read.room (take count octets))
        → answer ≡ answered_question senders state line
    unfolding answered_read
    answered-asked read count octets answer told holds size asks =
        let source : take count octets ≡ octets_of (drop read.start line) =
        ap (λ (n : ℕ). take n octets) size
        ∙ ap (take (length (octets_of (rest_of line read.start)))) holds
        ∙ take_at (octets_of (rest_of line read.start)) _ (length (octets_of (rest_of line read.start))) refl
        ∙ ap octets_of (rest_all line read.start) in
        asks
        ∙ ap (λ (text : List ℕ). answered_asked senders (put_question state read.port read.time read.room text)) source
        ∙ ap (answered_read senders state line) (told ∙ asked_in_lem)
