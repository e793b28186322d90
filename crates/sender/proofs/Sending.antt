-- Document 02, L1: when a frame goes out and which, what is refused, and ports apart, after any sequence of questions.
-- Assumes nothing.
use Prim.Native.Nat.{ℕ}
use mathlib.Core.List.{List, [], ◌∷◌}
use mathlib.Core.Logic.{◌≢◌}
use mathlib.Core.Path.{◌≡◌, refl, sym, ◌∙◌, ap, subst}
use native.Mathlib.Omega.{arith}
use lib.Dec.{eqb}
use borrow.Author.Tests.{eq-eqb, ne_eqb, eqb-true, eqb-false}
use Rattle.numbers.specs.Refusal.{accepted, time_too_large}
use Rattle.numbers.specs.Rows.{Refusal, NoneApplies, SmallestRow}
use Rattle.numbers.proofs.Truth.{by_bool}
use Rattle.numbers.proofs.Rows.{none-given, smallest_or_none, applies-numbered, smallest-exact}
use Rattle.sender.specs.declared.Heartbeat.{Heartbeat}
use Rattle.sender.specs.declared.Heartbeat.TheVariants as H
use Rattle.sender.specs.Heartbeat.{Question, Questions, code_asked, question_number, number_over, accepted_of, Sent, heartbeat_over, sent_after, sent_over, answer_over, heartbeat_by, sent_by, content_by}
use Rattle.sender.specs.Sender.{Asked, answered_with, asked}
use Rattle.sender.specs.Sequence.{senders_after, heartbeat_after, answered_on}
use Rattle.sender.specs.Sending.{Sending, rows_by, Refusing, questions_to, OwnQuestions}
use Rattle.sender.proofs.Kept.{Beat, information, event, nothing, heartbeat_over_beat}
use Rattle.sender.proofs.Agrees.{accepted_of-other, accepted_of-refused, accepted_of-accepted, accepted_falling, heartbeat-accepted, heartbeat-refused, senders-kept}

-- ---- one question after others

module _ (earlier : Questions) (question : Question) where
  abbrev before : Questions
  before = accepted_of question.port earlier

  pub after-accepted : number_over before question ≡ accepted
      → heartbeat_after earlier question ≡ heartbeat_over question.time (code_asked question) (sent_over before)
  after-accepted =
      heartbeat-accepted (senders_after earlier) question before (senders-kept earlier question.port)
      (accepted_falling question.port earlier)

  pub after-refused : (number_over before question ≡ accepted → ⊥)
      → asked (senders_after earlier) question
      ≡ answered_with (senders_after earlier) (H.Refused (number_over before question))
  after-refused =
      heartbeat-refused (senders_after earlier) question before (senders-kept earlier question.port)
      (accepted_falling question.port earlier)

  heartbeat-by : heartbeat_after earlier question ≡ heartbeat_by earlier question
  unfolding answer_over
  heartbeat-by =
      by_bool (eqb (number_over before question) accepted)
      (λ none. rw none (after-accepted (eqb-true _ _ none)))
      (λ number.
      rw number
      (ap (λ (answer : Asked). answer.heartbeat)
      (after-refused (eqb-false (number_over before question) accepted number))))

  -- the frames of its port, with the one answered
  sent_by-own : sent_after (heartbeat_after earlier question) question.time (code_asked question) (sent_over before)
      ≡ sent_by question.port (question ∷ earlier)
  unfolding sent_over
  sent_by-own =
      by_bool (eqb (number_over before question) accepted)
      (λ none.
      let given : number_over before question ≡ accepted = eqb-true _ _ none in
      ap (λ (answer : Heartbeat). sent_after answer question.time (code_asked question) (sent_over before))
      (after-accepted given)
      ∙ ap sent_over (sym (accepted_of-accepted question.port question earlier refl given)))
      (λ number.
      let refused : number_over before question ≡ accepted → ⊥ = eqb-false _ _ number in
      ap (λ (answer : Asked). sent_after answer.heartbeat question.time (code_asked question) (sent_over before))
      (after-refused refused)
      ∙ ap sent_over (sym (accepted_of-refused question.port question earlier refused)))

module _ (port : ℕ) (question : Question) (earlier : Questions) where
  answered_on-own : question.port ≡ port
      → answered_on port (question ∷ earlier)
      ≡ sent_after (heartbeat_after earlier question) question.time (code_asked question) (answered_on port earlier)
  unfolding answered_on
  answered_on-own own = rw (eq-eqb question.port port own)

  answered_on-other : (question.port ≡ port → ⊥) → answered_on port (question ∷ earlier) ≡ answered_on port earlier
  unfolding answered_on
  answered_on-other other = rw (ne_eqb question.port port other)

-- the frames answered on a port are those that document 02 says
pub answered-by : (port : ℕ) (questions : Questions) → answered_on port questions ≡ sent_by port questions
unfolding answered_on accepted_of sent_over
answered-by port [] = refl
answered-by port (question ∷ earlier) =
    by_bool (eqb question.port port)
    (λ own. here (eqb-true question.port port own) (answered-by port earlier))
    (λ other.
    let away : question.port ≡ port → ⊥ = eqb-false question.port port other in
    answered_on-other port question earlier away
    ∙ answered-by port earlier
    ∙ ap sent_over (sym (accepted_of-other port question earlier away)))
  where
    here : question.port ≡ port → answered_on port earlier ≡ sent_by port earlier
        → answered_on port (question ∷ earlier) ≡ sent_by port (question ∷ earlier)
    here own frames =
        answered_on-own port question earlier own
        ∙ ap
        (λ (sent : List Sent). sent_after (heartbeat_after earlier question) question.time (code_asked question) sent)
        frames
        ∙ subst
        (λ (number : ℕ).
        sent_after (heartbeat_after earlier question) question.time (code_asked question) (sent_by number earlier)
        ≡ sent_by number (question ∷ earlier))
        own
        (sent_by-own earlier question)

-- L1: a frame goes out exactly when document 02 says, and the one that it says.
pub sending : (earlier : Questions) (question : Question) → Sending earlier question
sending earlier question =
    record {
      heartbeat = heartbeat-by earlier question;
      buffer =
          ap
          (λ (answer : Heartbeat). content_by answer (code_asked question) question.source question.buffer)
          (heartbeat-by earlier question);
      frames = λ port. answered-by port earlier;
    }

-- ---- refusals

module _ (earlier : Questions) (question : Question) where
  abbrev rows : List Refusal
  rows = rows_by earlier question

  smallest-numbered : (number : ℕ) → SmallestRow number rows → number ≢ accepted
  smallest-numbered number smallest =
      applies-numbered time_too_large rows (omega arith) refl number smallest.applies

  number-smallest : (number : ℕ) → SmallestRow number rows
      → number_over (accepted_of question.port earlier) question ≡ number
  unfolding question_number
  number-smallest number smallest =
      (smallest-exact time_too_large rows (omega arith) refl number (smallest-numbered number smallest)).1 smallest

  number-none : NoneApplies rows → number_over (accepted_of question.port earlier) question ≡ accepted
  unfolding question_number
  number-none none = none-given rows none

  refused-smallest : (number : ℕ) → SmallestRow number rows
      → asked (senders_after earlier) question ≡ answered_with (senders_after earlier) (H.Refused number)
  refused-smallest number smallest =
      let given = number-smallest number smallest in
      after-refused earlier question (λ none. smallest-numbered number smallest (sym given ∙ none))
      ∙ ap (λ (one : ℕ). answered_with (senders_after earlier) (H.Refused one)) given

beat_refused : (heartbeat : Heartbeat) (number : ℕ) → Beat heartbeat → heartbeat ≡ H.Refused number → ⊥
beat_refused _ number information same = let wrong : ◌≡◌ {A = ℕ} 0 1 = cc in omega arith
beat_refused _ number event same = let wrong : ◌≡◌ {A = ℕ} 0 1 = cc in omega arith
beat_refused _ number nothing same = let wrong : ◌≡◌ {A = ℕ} 0 1 = cc in omega arith

-- L1: refusals are given by the table, the smallest first, due or not, and keep what they must.
pub refusing : (earlier : Questions) (question : Question) → Refusing earlier question
refusing earlier question =
    record {
      one = smallest_or_none time_too_large (rows_by earlier question) (omega arith) refl;
      refused = refused-smallest earlier question;
      kept = λ number smallest.
          ap
          (λ (answer : Asked).
          content_by answer.heartbeat (code_asked question) question.source question.buffer)
          (refused-smallest earlier question number smallest);
      answered = λ none number same.
          beat_refused _ number
          (heartbeat_over_beat question.time (code_asked question) (sent_over (accepted_of question.port earlier)))
          (sym (after-accepted earlier question (number-none earlier question none)) ∙ same);
      nothing = λ same.
          ap (λ (answer : Heartbeat). content_by answer (code_asked question) question.source question.buffer) same;
    }

-- ---- port by port

-- a port's accepted questions are those of its own questions
accepted_of-own : (port : ℕ) (questions : Questions)
    → accepted_of port questions ≡ accepted_of port (questions_to port questions)
unfolding accepted_of questions_to
accepted_of-own port [] = refl
accepted_of-own port (question ∷ earlier) =
    let own = accepted_of-own port earlier in
    by_bool (eqb question.port port)
    (λ mine. rw (mine, mine, own))
    (λ other. rw other own)

-- L1: a port's answers depend on its own questions alone.
pub own_questions : (one other : Questions) (question : Question) → OwnQuestions one other question
own_questions one other question = record { heartbeat = same; buffer = λ equal. ap content (same equal) }
  where
    before : questions_to question.port one ≡ questions_to question.port other
        → accepted_of question.port one ≡ accepted_of question.port other
    before equal =
        accepted_of-own question.port one
        ∙ ap (accepted_of question.port) equal
        ∙ sym (accepted_of-own question.port other)

    content : Heartbeat → List ℕ
    content answer = content_by answer (code_asked question) question.source question.buffer

    same : questions_to question.port one ≡ questions_to question.port other
        → heartbeat_after one question ≡ heartbeat_after other question
    same equal =
        heartbeat-by one question
        ∙ ap (λ (accept : Questions). answer_over accept question) (before equal)
        ∙ sym (heartbeat-by other question)
