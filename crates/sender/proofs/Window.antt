-- Document 02, L1: no port ever exceeds ten frames in such a window. Assumes nothing.
use Prim.Native.Nat.{ℕ, suc, ◌+◌, ◌≤◌, ◌<◌}
use mathlib.Core.Bool.{Bool, true, false, ◌&&◌, cond}
use mathlib.Core.List.{List, [], ◌∷◌}
use mathlib.Core.Path.{◌≡◌, refl, sym, ◌∙◌, ap, subst}
use native.Mathlib.Omega.{arith}
use lib.Dec.{leb}
use borrow.Author.Tests.{leb-true, leb-false, le-leb, lt-ltb, ltb-true, ltb-false}
use Rattle.numbers.proofs.Truth.{by_bool, both-second}
use Rattle.sender.specs.declared.Heartbeat.{Heartbeat}
use Rattle.sender.specs.declared.Heartbeat.TheVariants as H
use Rattle.sender.specs.Heartbeat.{Questions, code_asked, accepted_of, Sent, window, window_frames, is_later, later_count, due_frame, heartbeat_over, sent_after, sent_over}
use Rattle.sender.specs.Sender.{asked}
use Rattle.sender.specs.Sending.{is_within, within_count, Window}
use Rattle.sender.proofs.Kept.{Descending, last_asked, is_earlier-asked, falling_descending}
use Rattle.sender.proofs.Agrees.{accepted_falling}
use Rattle.sender.proofs.Sending.{answered-by}

module _ (time : ℕ) where
  -- what is within a window counts at any earlier time too
  within-later : (asked : ℕ) (sent : List Sent) → asked ≤ time → within_count time sent ≤ later_count asked sent
  unfolding within_count later_count
  within-later asked [] before = omega arith
  within-later asked (sent ∷ earlier) before =
      by_bool (is_later time sent)
      (λ later.
      let counts : is_later asked sent ≡ true =
      lt-ltb asked (sent.time + window) (omega (arith, ltb-true time (sent.time + window) later)) in
      rw counts (most (is_within time sent) (within-later asked earlier before)))
      (λ old. rw old (least (is_later asked sent) (within-later asked earlier before)))
    where
      most : (test : Bool) → within_count time earlier ≤ later_count asked earlier
          → cond test (suc (within_count time earlier)) (within_count time earlier) ≤ suc (later_count asked earlier)
      most true rest = omega arith
      most false rest = omega arith

      least : (test : Bool) → within_count time earlier ≤ later_count asked earlier
          → within_count time earlier ≤ cond test (suc (later_count asked earlier)) (later_count asked earlier)
      least true rest = omega arith
      least false rest = omega arith

  -- a frame more, where fewer than ten count at its time
  within-frame : (frame : Sent) (sent : List Sent) → later_count frame.time sent < window_frames
      → within_count time sent ≤ window_frames
      → within_count time (frame ∷ sent) ≤ window_frames
  unfolding within_count
  within-frame frame sent free rest =
      by_bool (is_within time frame)
      (λ counts.
      let before : frame.time ≤ time = leb-true frame.time time (both-second (is_later time frame) _ counts) in
      rw counts (omega (arith, within-later frame.time sent before)))
      (λ old. rw old rest)

  within-ten : (before : Questions) → within_count time (sent_over before) ≤ window_frames
  unfolding sent_over heartbeat_over within_count
  within-ten [] = omega arith
  within-ten (question ∷ earlier) =
      by_bool (leb window_frames (later_count question.time (sent_over earlier)))
      (λ full. rw full (within-ten earlier))
      (λ free.
      rw free
      (go (due_frame question.time (code_asked question) (sent_over earlier))
      (leb-false window_frames (later_count question.time (sent_over earlier)) free)
      (within-ten earlier)))
    where
      go : (answer : Heartbeat) → later_count question.time (sent_over earlier) < window_frames
          → within_count time (sent_over earlier) ≤ window_frames
          → within_count time (sent_after answer question.time (code_asked question) (sent_over earlier)) ≤ window_frames
      go H.Information free rest =
          within-frame (record { time = question.time; code = code_asked question; event = false }) (sent_over earlier)
          free
          rest
      go H.Event free rest =
          within-frame (record { time = question.time; code = code_asked question; event = true }) (sent_over earlier)
          free
          rest
      go H.Nothing free rest = rest
      go (H.Refused number) free rest = rest

  -- where no frame is later than a time, those that count are within the window that ends at it
  later-within : (bound : ℕ) (sent : List Sent) → Descending bound sent → bound ≤ time
      → later_count time sent ≡ within_count time sent
  unfolding within_count later_count
  later-within bound [] falls above = refl
  later-within bound (sent ∷ earlier) falls above =
      let past : sent.time ≤ time = omega (arith, falls.0) in
      rw (le-leb sent.time time past)
      (go (is_later time sent) (later-within sent.time earlier falls.1 past))
    where
      go : (test : Bool) → later_count time earlier ≡ within_count time earlier
          → cond test (suc (later_count time earlier)) (later_count time earlier)
          ≡ cond (test && true) (suc (within_count time earlier)) (within_count time earlier)
      go true same = ap suc same
      go false same = same

-- L1: no port ever exceeds ten frames in such a window.
pub ten_in_a_window : (questions : Questions) (port : ℕ) → Window questions port
ten_in_a_window questions port =
    record {
      any = λ time.
          subst (λ (sent : List Sent). within_count time sent ≤ window_frames) (sym (answered-by port questions))
          (within-ten time before);
      next = λ time after.
          let above : last_asked before ≤ time =
          ltb-false time (last_asked before) (is_earlier-asked time before ∙ after) in
          let same : later_count time (sent_over before) ≡ within_count time (sent_over before) =
          later-within time (last_asked before) (sent_over before)
          (falling_descending before (accepted_falling port questions))
          above in
          subst (λ (sent : List Sent). later_count time sent ≤ window_frames) (sym (answered-by port questions))
          (omega (arith, within-ten time before));
    }
  where
    before : Questions
    before = accepted_of port questions
