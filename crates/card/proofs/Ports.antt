-- What is written for a port, whatever the state. Assumes nothing.
use Prim.Native.Nat.{ℕ, ◌≤◌}
use mathlib.Core.Bool.{Bool, false}
use mathlib.Core.List.{List, ◌++◌}
use mathlib.Core.Logic.{◌≢◌}
use mathlib.Core.Path.{◌≡◌, refl, sym, ◌∙◌, ap}
use native.Mathlib.Omega.{arith}
use lib.Dec.{eqb, ltb}
use lib.ListN.{length, drop}
use borrow.Author.Tests.{ltb-false, le-ltb}
use Rattle.numbers.specs.Refusal.{accepted}
use Rattle.std.proofs.Common.{Ok, Err}
use Rattle.frame.specs.Write.{Writing, written_length, source_length, frame_octets, write_answer, content_after}
use Rattle.frame.proofs.RoundTrip.{demand_2_round_trip}
use Rattle.numbers.proofs.Truth.{by_bool}
use Rattle.sender.specs.Heartbeat.{code_of_port}
use Rattle.sender.proofs.Codes.{code_of_port-small}
use Rattle.numbers.specs.Inputs.{last_input}
use Rattle.selector.specs.declared.Selector.{Selector}
use Rattle.card.specs.Lent.{port_write, number_of_write, WritePort}
use Rattle.card.specs.Ports.{port_number, PortFrame}

-- ---- an outgoing code is one of the sixteen

-- whatever the state
port-small : (state : Selector) (port : ℕ) → code_of_port state port ≤ 15
port-small state port = code_of_port-small state port

-- ---- what writing comes to

-- a code that is one of the sixteen is not refused with 6
write_answer-small : (before source : List ℕ) (code : ℕ) → code ≤ 15
    → number_of_write (write_answer before source code) ≡ port_number 0 source before
unfolding write_answer
write_answer-small before source code small =
    rw (le-ltb _ _ small)
    (by_bool (eqb (length source) source_length)
    (λ six. rw six (by_bool (ltb (length before) written_length) (λ short. rw short) (λ long. rw long)))
    (λ other. rw other))

-- where no refusal applies, it is written
write_answer-written : (before source : List ℕ) (code : ℕ) → code ≤ 15
    → number_of_write (write_answer before source code) ≡ accepted → write_answer before source code ≡ Ok tt
unfolding write_answer
write_answer-written before source code small =
    rw (le-ltb _ _ small)
    (by_bool (eqb (length source) source_length)
    (λ six.
    rw six
    (by_bool (ltb (length before) written_length)
    (λ short. rw short (λ accepts. absurd (omega arith)))
    (λ long. rw long (λ accepts. refl))))
    (λ other. rw other (λ accepts. absurd (omega arith))))

refused-kept : (written : Writing) (before source : List ℕ) (event : Bool) (code : ℕ)
    → number_of_write written ≢ accepted → content_after written before source event code ≡ before
refused-kept (Ok _) before source event code refused = absurd (refused refl)
refused-kept (Err number) before source event code refused = refl

module _ (state : Selector) (port : ℕ) (event : Bool) (source before : List ℕ) (answer : ℕ) (after : List ℕ)
    (write : WritePort state port event source before answer after) where
  -- a port that there is: what is answered, and what is left
  there-answered : ltb last_input port ≡ false → answer ≡ number_of_write (port_write state port source before)
  there-answered there = write.answered ∙ (rw there)

  there-content : ltb last_input port ≡ false
      → after ≡ content_after (port_write state port source before) before source event (code_of_port state port)
  there-content there = write.content ∙ (rw there)

  -- What is written for a port tells its outgoing code; the numbers are 5, 19 and 18, and each keeps the buffer.
  pub port-frame : PortFrame state port event source before answer after
  port-frame =
      by_bool (ltb last_input port)
      (λ past.
      record {
        number = write.answered ∙ (rw past);
        kept = λ refused. write.content ∙ (rw past);
        reads = λ accepts. let five : answer ≡ 5 = write.answered ∙ (rw past) in absurd (omega arith);
      })
      (λ there.
      record {
        number = there-answered there ∙ write_answer-small before source _ (port-small state port) ∙ (rw there);
        kept = λ refused.
            there-content there
            ∙ refused-kept (port_write state port source before) before source event (code_of_port state port)
            (λ accepts. refused (there-answered there ∙ accepts));
        reads = λ accepts.
            (demand_2_round_trip before source after event (code_of_port state port) (port_write state port source before)
            (record { answered = refl; content = there-content there })
            ).front
            (write_answer-written before source _ (port-small state port) (sym (there-answered there) ∙ accepts));
      })

  -- what is written is the frame with the port's code, and the octets after it are kept
  pub port-written : answer ≡ accepted
      → (port ≤ last_input) × (after ≡ frame_octets source event (code_of_port state port) ++ drop written_length before)
  port-written accepts =
      by_bool (ltb last_input port)
      (λ past. let five : answer ≡ 5 = write.answered ∙ (rw past) in absurd (omega arith))
      (λ there. (
        ltb-false last_input port there,
        there-content there
            ∙ ap (λ (written : Writing). content_after written before source event (code_of_port state port))
            (write_answer-written before source _ (port-small state port) (sym (there-answered there) ∙ accepts)),
      ))
