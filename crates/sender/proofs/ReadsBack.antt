-- Document 02, L1: any answered frame reads back as the port's code in that state. Assumes nothing.
use Prim.Native.Nat.{ℕ, ◌+◌}
use mathlib.Core.Bool.{Bool, true, false, cond, false≢true}
use mathlib.Core.List.{List, [], ◌∷◌}
use mathlib.Core.Path.{◌≡◌, refl, sym, ◌∙◌, ap, subst}
use lib.Dec.{eqb, leb}
use lib.ListN.{take, drop}
use lib.Seq.{drop_at}
use borrow.Author.Tests.{eqb-true, eqb-false}
use Rattle.numbers.specs.Refusal.{accepted}
use Rattle.frame.specs.declared.FrameRead.TheVariants.{Code}
use Rattle.std.proofs.Common.{Ok}
use Rattle.frame.specs.Read.{message}
use Rattle.frame.specs.Write.{written_length, frame_octets, write_answer, content_after}
use Rattle.frame.specs.RoundTrip.{Layout, RoundTrip}
use Rattle.frame.proofs.WriteLaws.{write_answer-written, frame_octets-length}
use Rattle.frame.proofs.RoundTrip.{demand_2_round_trip}
use Rattle.numbers.proofs.Truth.{by_bool}
use Rattle.sender.specs.declared.Heartbeat.{Heartbeat}
use Rattle.sender.specs.declared.Heartbeat.TheVariants as H
use Rattle.sender.specs.Sender.{Asked}
use Rattle.sender.specs.Heartbeat.{Question, Questions, code_asked, number_over, accepted_of, Sent, period, window_frames, later_count, differs, due_frame, heartbeat_over, sent_over, content_by}
use Rattle.sender.specs.Sequence.{heartbeat_after, heartbeat_buffer, answered_on}
use Rattle.sender.specs.Sending.{is_frame_sent, ReadsBack}
use Rattle.sender.proofs.Codes.{code_of_port-small}
use Rattle.sender.proofs.Agrees.{fit-over}
use Rattle.sender.proofs.Sending.{after-accepted, after-refused, answered-by}

-- the flag that an answer's frame carries
abbrev flag_of : Heartbeat → Bool
flag_of H.Information = false
flag_of H.Event = true
flag_of H.Nothing = false
flag_of (H.Refused number) = false

-- it says whether the code differs from the last one sent
due_frame-flag : (time code : ℕ) (sent : List Sent) → is_frame_sent (due_frame time code sent) ≡ true
    → flag_of (due_frame time code sent) ≡ differs code sent
unfolding due_frame
due_frame-flag time code [] frame = refl
due_frame-flag time code (last ∷ earlier) frame =
    by_bool (eqb code last.code)
    (λ same. rw same (go (leb (last.time + period) time)))
    (λ other. rw other)
  where
    go : (test : Bool) → flag_of (cond test H.Information H.Nothing) ≡ false
    go true = refl
    go false = refl

heartbeat_over-flag : (time code : ℕ) (sent : List Sent) → is_frame_sent (heartbeat_over time code sent) ≡ true
    → flag_of (heartbeat_over time code sent) ≡ differs code sent
unfolding heartbeat_over
heartbeat_over-flag time code sent frame =
    by_bool (leb window_frames (later_count time sent))
    (λ full. let wrong : false ≡ true = rw full at frame in absurd (false≢true wrong))
    (λ free.
    let due : is_frame_sent (due_frame time code sent) ≡ true = rw free at frame in
    rw free (due_frame-flag time code sent due))

-- a frame's content, of its answer
content_by-frame : (answer : Heartbeat) (code : ℕ) (source before : List ℕ) → is_frame_sent answer ≡ true
    → content_by answer code source before ≡ content_after (Ok tt) before source (flag_of answer) code
content_by-frame H.Information code source before frame = refl
content_by-frame H.Event code source before frame = refl
content_by-frame H.Nothing code source before frame = absurd (false≢true frame)
content_by-frame (H.Refused number) code source before frame = absurd (false≢true frame)

-- any other answer's
content_by-kept : (answer : Heartbeat) (code : ℕ) (source before : List ℕ) → is_frame_sent answer ≡ false
    → content_by answer code source before ≡ before
content_by-kept H.Information code source before none = absurd (false≢true (sym none))
content_by-kept H.Event code source before none = absurd (false≢true (sym none))
content_by-kept H.Nothing code source before none = refl
content_by-kept (H.Refused number) code source before none = refl

module _ (earlier : Questions) (question : Question) where
  answer-frame : is_frame_sent (heartbeat_after earlier question) ≡ true
      → number_over (accepted_of question.port earlier) question ≡ accepted
  answer-frame frame =
      by_bool (eqb (number_over (accepted_of question.port earlier) question) accepted)
      (λ none. eqb-true _ _ none)
      (λ number.
      absurd
      (false≢true
      (sym
      (ap (λ (answer : Asked). is_frame_sent answer.heartbeat)
      (after-refused earlier question
      (eqb-false (number_over (accepted_of question.port earlier) question) accepted number)))
      ∙ frame)))

  flag-differs : is_frame_sent (heartbeat_after earlier question) ≡ true
      → flag_of (heartbeat_after earlier question) ≡ differs (code_asked question) (answered_on question.port earlier)
  flag-differs frame =
      let answer = after-accepted earlier question (answer-frame frame) in
      ap flag_of answer
      ∙ heartbeat_over-flag question.time (code_asked question) (sent_over (accepted_of question.port earlier))
      (sym (ap is_frame_sent answer) ∙ frame)
      ∙ ap (λ (sent : List Sent). differs (code_asked question) sent) (sym (answered-by question.port earlier))

  framed : is_frame_sent (heartbeat_after earlier question) ≡ true
      → heartbeat_buffer earlier question
      ≡ content_after (Ok tt) question.buffer question.source (flag_of (heartbeat_after earlier question))
      (code_asked question)
  framed frame =
      content_by-frame (heartbeat_after earlier question) (code_asked question) question.source question.buffer frame

  -- the buffer is as the frame writer leaves it
  trip : is_frame_sent (heartbeat_after earlier question) ≡ true
      → RoundTrip question.buffer question.source (flag_of (heartbeat_after earlier question)) (code_asked question)
      (Ok tt)
      (heartbeat_buffer earlier question)
  trip frame =
      let fit = fit-over (accepted_of question.port earlier) question (answer-frame frame) in
      let written : write_answer question.buffer question.source (code_asked question) ≡ Ok tt =
      write_answer-written question.buffer question.source (code_asked question)
      (code_of_port-small question.state question.port)
      fit.six
      fit.long in
      demand_2_round_trip question.buffer question.source (heartbeat_buffer earlier question)
      (flag_of (heartbeat_after earlier question))
      (code_asked question)
      (Ok tt)
      (record {
        answered = sym written;
        content = framed frame ∙ (rw written);
      })

  rest-kept : drop written_length (heartbeat_buffer earlier question) ≡ drop written_length question.buffer
  rest-kept =
      by_bool (is_frame_sent (heartbeat_after earlier question))
      (λ frame.
      let fit = fit-over (accepted_of question.port earlier) question (answer-frame frame) in
      ap (λ (after : List ℕ). drop written_length after)
      (framed frame)
      ∙ drop_at (frame_octets question.source (flag_of (heartbeat_after earlier question)) (code_asked question))
      (drop written_length question.buffer)
      written_length
      (frame_octets-length question.source _ (code_asked question) fit.six))
      (λ none.
      ap (λ (after : List ℕ). drop written_length after)
      (content_by-kept (heartbeat_after earlier question) (code_asked question) question.source question.buffer
      none))

-- L1: any answered frame reads back as the port's code in that state, with the flag that says whether it is another.
pub reads-back : (earlier : Questions) (question : Question) → ReadsBack earlier question
reads-back earlier question =
    record {
      said = λ frame.
          (trip earlier question frame).front refl
          ∙ ap (λ (flag : Bool). message (Code (code_asked question)) flag question.source)
          (flag-differs earlier question frame);
      layout = λ frame.
          subst
          (λ (flag : Bool).
          Layout (take written_length (heartbeat_buffer earlier question)) question.source flag (code_asked question))
          (flag-differs earlier question frame)
          ((trip earlier question frame).layout refl);
      rest = rest-kept earlier question;
    }
