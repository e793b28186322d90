-- After any sequence of questions each port's sender is what its accepted questions come to. Assumes nothing.
use Prim.Native.Nat.{ℕ, ◌<◌}
use mathlib.Core.Bool.{Bool, true, ◌&&◌}
use mathlib.Core.List.{[], ◌∷◌}
use mathlib.Core.Path.{◌≡◌, refl, sym, ◌∙◌, ap, subst}
use native.Mathlib.Omega.{arith}
use lib.Dec.{eqb, leb, ltb}
use lib.ListN.{length, length-set, length-replicate, get_or-replicate}
use lib.Seq.{get_or-set_same, get_or-set_other}
use borrow.Author.Tests.{eq-eqb, ne_eqb, eqb-true, eqb-false, leb-true, leb-false}
use Rattle.numbers.specs.Refusal.{accepted}
use Rattle.numbers.proofs.Truth.{by_bool, both-second}
use Rattle.selector.proofs.SelectorLaws.{get_d_past}
use Rattle.sender.specs.declared.Heartbeat.{Heartbeat}
use Rattle.sender.specs.declared.Heartbeat.TheVariants as H
use Rattle.sender.specs.declared.Sender.{Sender}
use Rattle.sender.specs.declared.Senders.{Senders}
use Rattle.sender.specs.Heartbeat.{Question, Questions, code_asked, question_number, is_earlier, number_over, accepted_of, sent_over, heartbeat_over}
use Rattle.sender.specs.Sender.{Asked, fresh_sender, fresh_senders, heartbeat_of, after_heartbeat, sender_at, asked_number, answered_with, asked_of, asked}
use Rattle.sender.specs.Sequence.{senders_after}
use Rattle.sender.proofs.SenderLaws.{Fit, question_number-fit}
use Rattle.sender.proofs.Kept.{last_asked, is_earlier-asked, sender_over, heartbeat_of-over, after_heartbeat-over, Falling, falling_descending}

-- ---- accepted_of

module _ (port : ℕ) (question : Question) (earlier : Questions) where
  abbrev before : Questions
  before = accepted_of port earlier

  pub accepted_of-other : (question.port ≡ port → ⊥) → accepted_of port (question ∷ earlier) ≡ before
  unfolding accepted_of
  accepted_of-other other = rw (ne_eqb question.port port other)

  pub accepted_of-refused : (number_over before question ≡ accepted → ⊥) → accepted_of port (question ∷ earlier) ≡ before
  unfolding accepted_of
  accepted_of-refused refused =
      by_bool (eqb question.port port)
      (λ own. rw (own, ne_eqb (number_over before question) accepted refused))
      (λ other. rw other)

  pub accepted_of-accepted : question.port ≡ port → number_over before question ≡ accepted
      → accepted_of port (question ∷ earlier) ≡ question ∷ before
  unfolding accepted_of
  accepted_of-accepted own none =
      rw (eq-eqb question.port port own, eq-eqb (number_over before question) accepted none)

-- what an accepted question brings
pub fit-over : (before : Questions) (question : Question) → number_over before question ≡ accepted
    → Fit (is_earlier question.time before) question.port question.time (length question.buffer)
    (length question.source)
fit-over before question none = question_number-fit _ _ _ _ _ none

pub accepted_falling : (port : ℕ) (questions : Questions) → Falling (accepted_of port questions)
unfolding accepted_of
accepted_falling port [] = tt
accepted_falling port (question ∷ earlier) =
    by_bool (eqb question.port port && eqb (number_over (accepted_of port earlier) question) accepted)
    (λ taken.
    rw taken ((fit-over (accepted_of port earlier) question (number taken)).after, accepted_falling port earlier))
    (λ left. rw left (accepted_falling port earlier))
  where
    number : (eqb question.port port && eqb (number_over (accepted_of port earlier) question) accepted) ≡ true
        → number_over (accepted_of port earlier) question ≡ accepted
    number taken = eqb-true _ _ (both-second (eqb question.port port) _ taken)

-- ---- asked

module _ (senders : Senders) (question : Question) where
  pub asked-refused : (asked_number senders question ≡ accepted → ⊥)
      → asked senders question ≡ answered_with senders (H.Refused (asked_number senders question))
  unfolding asked
  asked-refused refused = rw (ne_eqb (asked_number senders question) accepted refused)

  pub asked-accepted : asked_number senders question ≡ accepted → asked senders question ≡ asked_of senders question
  unfolding asked
  asked-accepted none = rw (eq-eqb (asked_number senders question) accepted none)

  -- the number is by the port's accepted questions
  pub asked_number-over : (before : Questions) → sender_at senders question.port ≡ sender_over before
      → asked_number senders question ≡ number_over before question
  asked_number-over before keeps =
      ap
      (λ (early : Bool).
      question_number early question.port question.time (length question.buffer) (length question.source))
      (ap (λ (sender : Sender). ltb question.time sender.asked) keeps ∙ is_earlier-asked question.time before)

-- ---- sixteen senders

asked-length : (senders : Senders) (question : Question)
    → length (asked senders question).senders.ports ≡ length senders.ports
asked-length senders question =
    by_bool (eqb (asked_number senders question) accepted)
    (λ none.
    ap (λ (after : Asked). length after.senders.ports) (asked-accepted senders question (eqb-true _ _ none))
    ∙ length-set senders.ports _ _)
    (λ refused.
    ap (λ (after : Asked). length after.senders.ports) (asked-refused senders question (eqb-false _ _ refused)))

pub senders-sixteen : (questions : Questions) → length (senders_after questions).ports ≡ 16
unfolding senders_after
senders-sixteen [] = length-replicate 16 fresh_sender
senders-sixteen (question ∷ earlier) = asked-length (senders_after earlier) question ∙ senders-sixteen earlier

pub fresh_at : (port : ℕ) → sender_at fresh_senders port ≡ fresh_sender
fresh_at port =
    by_bool (leb 16 port)
    (λ past. get_d_past fresh_senders.ports port fresh_sender (leb-true 16 port past))
    (λ inside. get_or-replicate 16 port fresh_sender fresh_sender (leb-false 16 port inside))

-- ---- one question

module _ (senders : Senders) (question : Question) (before : Questions)
    (keeps : sender_at senders question.port ≡ sender_over before) (falls : Falling before) where
  -- what an accepted one is answered with
  pub heartbeat-accepted : number_over before question ≡ accepted
      → (asked senders question).heartbeat ≡ heartbeat_over question.time (code_asked question) (sent_over before)
  heartbeat-accepted none =
      ap (λ (after : Asked). after.heartbeat)
      (asked-accepted senders question (asked_number-over senders question before keeps ∙ none))
      ∙ ap (λ (sender : Sender). heartbeat_of sender question.time (code_asked question)) keeps
      ∙ heartbeat_of-over before question.time (code_asked question) (last_asked before)
      (falling_descending before falls)

  -- what a refused one is
  pub heartbeat-refused : (number_over before question ≡ accepted → ⊥)
      → asked senders question ≡ answered_with senders (H.Refused (number_over before question))
  heartbeat-refused refused =
      let same : asked_number senders question ≡ number_over before question =
      asked_number-over senders question before keeps in
      asked-refused senders question (λ none. refused (sym same ∙ none))
      ∙ ap (λ (number : ℕ). answered_with senders (H.Refused number)) same

  -- what an accepted one leaves of its own port
  own-accepted : length senders.ports ≡ 16 → number_over before question ≡ accepted
      → sender_at (asked senders question).senders question.port ≡ sender_over (question ∷ before)
  own-accepted sixteen none =
      let same : asked_number senders question ≡ number_over before question =
      asked_number-over senders question before keeps in
      let inside : question.port < length senders.ports = omega (arith, (fit-over before question none).inside) in
      ap (λ (after : Asked). sender_at after.senders question.port) (asked-accepted senders question (same ∙ none))
      ∙ get_or-set_same senders.ports question.port _ fresh_sender inside
      ∙ ap
      (λ (sender : Sender).
      after_heartbeat (heartbeat_of sender question.time (code_asked question)) sender question.time
      (code_asked question))
      keeps
      ∙ ap
      (λ (heartbeat : Heartbeat). after_heartbeat heartbeat (sender_over before) question.time (code_asked question))
      (heartbeat_of-over before question.time (code_asked question) (last_asked before)
      (falling_descending before falls))
      ∙ after_heartbeat-over before question

-- what a question leaves of another port
pub other-kept : (senders : Senders) (question : Question) (port : ℕ) → (question.port ≡ port → ⊥)
    → sender_at (asked senders question).senders port ≡ sender_at senders port
other-kept senders question port other =
    by_bool (eqb (asked_number senders question) accepted)
    (λ none.
    ap (λ (after : Asked). sender_at after.senders port) (asked-accepted senders question (eqb-true _ _ none))
    ∙ get_or-set_other senders.ports question.port port _ fresh_sender (λ same. other (sym same)))
    (λ refused.
    ap (λ (after : Asked). sender_at after.senders port) (asked-refused senders question (eqb-false _ _ refused)))

-- ---- any sequence

-- Each port's sender is what its accepted questions come to.
pub senders-kept : (questions : Questions) (port : ℕ)
    → sender_at (senders_after questions) port ≡ sender_over (accepted_of port questions)
unfolding senders_after accepted_of sent_over
senders-kept [] port = fresh_at port
senders-kept (question ∷ earlier) port =
    by_bool (eqb question.port port)
    (λ own.
    subst (λ (number : ℕ). sender_at after number ≡ sender_over (accepted_of number (question ∷ earlier)))
    (eqb-true question.port port own)
    (here (senders-kept earlier question.port)))
    (λ other.
    let away : question.port ≡ port → ⊥ = eqb-false question.port port other in
    other-kept (senders_after earlier) question port away
    ∙ senders-kept earlier port
    ∙ ap sender_over (sym (accepted_of-other port question earlier away)))
  where
    after : Senders
    after = (asked (senders_after earlier) question).senders

    own : Questions
    own = accepted_of question.port earlier

    here : sender_at (senders_after earlier) question.port ≡ sender_over own
        → sender_at after question.port ≡ sender_over (accepted_of question.port (question ∷ earlier))
    here keeps =
        by_bool (eqb (number_over own question) accepted)
        (λ none.
        let given : number_over own question ≡ accepted = eqb-true _ _ none in
        own-accepted (senders_after earlier) question own keeps (accepted_falling question.port earlier)
        (senders-sixteen earlier)
        given
        ∙ ap sender_over (sym (accepted_of-accepted question.port question earlier refl given)))
        (λ number.
        let refused : number_over own question ≡ accepted → ⊥ = eqb-false _ _ number in
        ap (λ (one : Asked). sender_at one.senders question.port)
        (heartbeat-refused (senders_after earlier) question own keeps (accepted_falling question.port earlier)
        refused)
        ∙ keeps
        ∙ ap sender_over (sym (accepted_of-refused question.port question earlier refused)))
