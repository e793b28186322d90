-- Questions in a row to senders that are lent one by one. Cites `sending` of the sixteen. Assumes nothing.
use Prim.Native.Nat.{ℕ, ◌≤◌, ◌<◌}
use mathlib.Core.List.{[], ◌∷◌}
use mathlib.Core.Path.{◌≡◌, sym, ap, subst, ◌∙◌}
use native.Mathlib.Omega.{arith}
use lib.Dec.{eqb, ltb}
use lib.ListN.{length}
use lib.Seq.{get_or-set_same}
use borrow.Author.Tests.{eqb-true, eqb-false, eq-eqb, ne_eqb, le-ltb, ltb-true, ltb-false}
use Rattle.numbers.specs.Inputs.{last_input}
use Rattle.numbers.specs.Refusal.{accepted}
use Rattle.numbers.proofs.Truth.{by_bool}
use Rattle.frame.specs.Write.{largest_code}
use Rattle.selector.proofs.SelectorLaws.{get_d_past}
use Rattle.sender.specs.declared.Heartbeat.TheVariants as H
use Rattle.sender.specs.declared.Sender.{Sender}
use Rattle.sender.specs.declared.Senders.{Senders}
use Rattle.sender.specs.Heartbeat.{Question, Questions, code_asked, question_number}
use Rattle.sender.specs.Sender.{Asked, AskedOne, fresh_sender, heartbeat_of, after_heartbeat, sender_at, asked_number, last_asked, one_number, one_with, asked_one, asked}
use Rattle.sender.specs.Sequence.{senders_after}
use Rattle.sender.proofs.Agrees.{asked-refused, asked-accepted, senders-sixteen, fresh_at, other-kept}
use Rattle.sender.proofs.Codes.{code_of_port-small}
use Rattle.sender.proofs.SenderLaws.{question_number-fit}
use Rattle.sender.proofs.Sending.{sending}
use Rattle.card.specs.Asking.{port_sender, SendersLentRight}

-- ---- one question

module _ (senders : Senders) (question : Question) (sender : Sender) (sixteen : length senders.ports ≡ 16)
    (own : question.port ≤ last_input → sender ≡ sender_at senders question.port) where
  abbrev one : AskedOne
  one = asked_one sender question.port question.time (code_asked question) question.source question.buffer

  asked-last : last_asked sender question.port ≡ (sender_at senders question.port).asked
  unfolding last_asked
  asked-last =
      by_bool (ltb last_input question.port)
      (λ above.
      let past : length senders.ports ≤ question.port = omega (arith, sixteen, ltb-true last_input question.port above) in
      rw above (sym (ap (λ (kept : Sender). kept.asked) (get_d_past senders.ports question.port fresh_sender past))))
      (λ within. rw within (ap (λ (kept : Sender). kept.asked) (own (omega (arith, ltb-false last_input question.port within)))))

  same_number : one_number sender question.port question.time question.source question.buffer
      ≡ asked_number senders question
  same_number =
      ap
      (λ (last : ℕ). question_number (ltb question.time last) question.port question.time
      (length question.buffer) (length question.source))
      asked-last

  -- where it is refused, both keep the sender
  refused-one : (asked_number senders question ≡ accepted → ⊥)
      → one ≡ one_with sender (asked senders question).heartbeat
  unfolding asked_one
  refused-one refused =
      rw (ne_eqb (one_number sender question.port question.time question.source question.buffer) accepted
      (λ none. refused (sym same_number ∙ none)))
      (ap (one_with sender)
      (ap (λ (number : ℕ). H.Refused number) same_number ∙
      sym (ap (λ (after : Asked). after.heartbeat) (asked-refused senders question refused))))

  -- where it is accepted, both answer and keep the same
  accepted-one : asked_number senders question ≡ accepted → question.port ≤ last_input
      → one ≡
      one_with
      (sender_at (asked senders question).senders question.port)
      (asked senders question).heartbeat
  unfolding asked_one
  accepted-one none within =
      let taken = asked-accepted senders question none in
      let inside : question.port < length senders.ports = omega (arith, sixteen, within) in
      let kept = sender_at senders question.port in
      let after : Sender =
      after_heartbeat (heartbeat_of kept question.time (code_asked question)) kept question.time (code_asked question) in
      rw (
        eq-eqb (one_number sender question.port question.time question.source question.buffer) accepted
            (same_number ∙ none),
        le-ltb largest_code (code_asked question) (code_of_port-small question.state question.port),
      )
      (ap
      (λ (lent : Sender). one_with
      (after_heartbeat (heartbeat_of lent question.time (code_asked question)) lent question.time
      (code_asked question))
      (heartbeat_of lent question.time (code_asked question)))
      (own within) ∙
      (λ j. one_with
      (sym
      (ap (λ (one : Asked). sender_at one.senders question.port) taken ∙
      get_or-set_same senders.ports question.port after fresh_sender inside)
      j)
      (sym (ap (λ (one : Asked). one.heartbeat) taken) j)))

  -- so the answer is that of the sixteen
  one-heartbeat : (asked_number senders question ≡ accepted → question.port ≤ last_input)
      → one.heartbeat ≡ (asked senders question).heartbeat
  one-heartbeat fits =
      by_bool (eqb (asked_number senders question) accepted)
      (λ none. ap (λ (answer : AskedOne). answer.heartbeat) (accepted-one (eqb-true _ _ none) (fits (eqb-true _ _ none))))
      (λ refused. ap (λ (answer : AskedOne). answer.heartbeat) (refused-one (eqb-false _ _ refused)))

  -- and so is what is kept of a port that there is
  one-sender : question.port ≤ last_input → one.sender ≡ sender_at (asked senders question).senders question.port
  one-sender within =
      by_bool (eqb (asked_number senders question) accepted)
      (λ none. ap (λ (answer : AskedOne). answer.sender) (accepted-one (eqb-true _ _ none) within))
      (λ refused.
      ap (λ (answer : AskedOne). answer.sender) (refused-one (eqb-false _ _ refused)) ∙ own within ∙
      sym (ap (λ (after : Asked). sender_at after.senders question.port)
      (asked-refused senders question (eqb-false _ _ refused))))

-- ---- questions in a row

-- only a port that there is has a question accepted
accepted-port : (earlier : Questions) (question : Question) → asked_number (senders_after earlier) question ≡ accepted
    → question.port ≤ last_input
accepted-port earlier question none = (question_number-fit _ _ _ _ _ none).inside

port-sender : (questions : Questions) (port : ℕ) → port ≤ last_input
    → port_sender port questions ≡ sender_at (senders_after questions) port
unfolding port_sender senders_after
port-sender [] port within = sym (fresh_at port)
port-sender (question ∷ earlier) port within =
    by_bool (eqb question.port port)
    (λ own.
    rw own
    (subst
    (λ (number : ℕ).
    (asked_one (port_sender number earlier) number question.time (code_asked question) question.source
    question.buffer).sender
    ≡ sender_at (asked (senders_after earlier) question).senders number)
    (eqb-true question.port port own)
    (one-sender (senders_after earlier) question (port_sender question.port earlier) (senders-sixteen earlier)
    (λ there. port-sender earlier question.port there)
    (omega (arith, within, eqb-true question.port port own)))))
    (λ other.
    rw other
    (port-sender earlier port within ∙
    sym (other-kept (senders_after earlier) question port (eqb-false question.port port other))))

-- QUESTIONS IN A ROW, TO SENDERS LENT ONE BY ONE, are the senders' own.
pub senders-lent-right : (earlier : Questions) (question : Question) (lent : Sender)
    → SendersLentRight earlier question lent
senders-lent-right earlier question lent =
    record {
      sender = λ port within. port-sender earlier port within;
      heartbeat = λ own.
          one-heartbeat (senders_after earlier) question lent (senders-sixteen earlier)
          (λ within. own within ∙ port-sender earlier question.port within)
          (λ none. accepted-port earlier question none) ∙
          (sending earlier question).heartbeat;
    }
