-- What the code keeps of a port is what its accepted questions come to: the times of the last ten frames, the last
-- code, how many frames, and the time of the last question. Assumes nothing.
use Prim.Native.Nat.{ℕ, zero, suc, ◌+◌, ◌≤◌, ◌<◌}
use mathlib.Core.Bool.{Bool, true, false, not, ◌&&◌, cond}
use mathlib.Core.List.{List, [], ◌∷◌, map}
use mathlib.Core.Path.{◌≡◌, refl, ◌∙◌}
use native.Mathlib.Omega.{arith}
use lib.Dec.{eqb, leb, ltb}
use lib.ListN.{length, get_or}
use borrow.Author.Tests.{ne_eqb, lt-ltb, le-ltb, lt-leb, leb-true, leb-false, ltb-true, ltb-false}
use Rattle.numbers.proofs.Truth.{by_bool}
use Rattle.sender.specs.declared.Heartbeat.{Heartbeat}
use Rattle.sender.specs.declared.Heartbeat.TheVariants as H
use Rattle.sender.specs.declared.Sender.{Sender}
use Rattle.sender.specs.Heartbeat.{Question, Questions, code_asked, is_earlier, Sent, period, window, window_frames, is_later, later_count, due_frame, heartbeat_over, sent_after, sent_over}
use Rattle.sender.specs.Sender.{tenth, is_full, heartbeat_due, heartbeat_of, with_frame, after_heartbeat}

-- ---- frames in falling order of time

-- no time is above a bound, and none above that of the frame sent after it
abbrev pub Descending : ℕ → List Sent → Type 0
Descending bound [] = Unit {0}
Descending bound (sent ∷ earlier) = (sent.time ≤ bound) × Descending sent.time earlier

pub descending_higher : (bound higher : ℕ) (sent : List Sent) → bound ≤ higher → Descending bound sent
    → Descending higher sent
descending_higher bound higher [] above falls = tt
descending_higher bound higher (sent ∷ earlier) above falls = (omega (arith, falls.0), falls.1)

-- the times of frames
abbrev pub times_of : List Sent → List ℕ
times_of sent = map (λ (one : Sent). one.time) sent

descending_at : (bound number : ℕ) (sent : List Sent) → Descending bound sent → number < length sent
    → get_or (times_of sent) number 0 ≤ bound
descending_at bound number [] falls inside = absurd (omega arith)
descending_at bound zero (sent ∷ earlier) falls inside = falls.0
descending_at bound (suc number) (sent ∷ earlier) falls inside =
    omega (arith, falls.0, descending_at sent.time number earlier falls.1 (omega arith))

-- ---- later_count

-- what is 1,000 ms old counts no more, nor does what was sent before it
later_count-none : (time bound : ℕ) (sent : List Sent) → Descending bound sent → bound + window ≤ time
    → later_count time sent ≡ 0
unfolding later_count
later_count-none time bound [] falls old = refl
later_count-none time bound (sent ∷ earlier) falls old =
    let past : sent.time + window ≤ time = omega (arith, falls.0) in
    rw (le-ltb time (sent.time + window) past) (later_count-none time sent.time earlier falls.1 past)

-- where a frame counts, so do those sent after it
later_count-at : (time bound number : ℕ) (sent : List Sent) → Descending bound sent → number < length sent
    → time < get_or (times_of sent) number 0 + window
    → number < later_count time sent
unfolding later_count
later_count-at time bound number [] falls inside later = absurd (omega arith)
later_count-at time bound zero (sent ∷ earlier) falls inside later =
    rw (lt-ltb time (sent.time + window) later) (omega arith)
later_count-at time bound (suc number) (sent ∷ earlier) falls inside later =
    let before : number < later_count time earlier =
    later_count-at time sent.time number earlier falls.1 (omega arith) later in
    let counts : time < sent.time + window =
    omega (arith, descending_at sent.time number earlier falls.1 (omega arith)) in
    rw (lt-ltb time (sent.time + window) counts) (omega arith)

-- so many frames count only if the last of so many does
pub record Counts (time number : ℕ) (sent : List Sent) : Type 0 where
  pub inside : number < length sent
  pub later : time < get_or (times_of sent) number 0 + window

at-later_count : (time bound number : ℕ) (sent : List Sent) → Descending bound sent → number < later_count time sent
    → Counts time number sent
unfolding later_count
at-later_count time bound number [] falls counts = absurd (omega arith)
at-later_count time bound number (sent ∷ earlier) falls counts =
    by_bool (is_later time sent)
    (λ later.
    go number (ltb-true time (sent.time + window) later)
    (λ place left. at-later_count time sent.time place earlier falls.1 left)
    (rw later at counts))
    (λ old.
    let none : later_count time earlier ≡ 0 =
    later_count-none time sent.time earlier falls.1 (ltb-false time (sent.time + window) old) in
    let left : number < later_count time earlier = rw old at counts in
    absurd (omega arith))
  where
    go : (place : ℕ) → time < sent.time + window
        → ((place : ℕ) → place < later_count time earlier → Counts time place earlier)
        → place < suc (later_count time earlier)
        → Counts time place (sent ∷ earlier)
    go zero later rest left = record { inside = omega arith; later = later }
    go (suc place) later rest left =
        let one = rest place (omega arith) in record { inside = omega (arith, one.inside); later = one.later }

-- ---- the sender of some accepted questions

-- how many frames, 10 for any more
abbrev pub count_of : List Sent → ℕ
count_of [] = 0
count_of (sent ∷ earlier) = cond (ltb (count_of earlier) window_frames) (count_of earlier + 1) (count_of earlier)

count_of_few : (sent : List Sent) → length sent ≤ window_frames → count_of sent ≡ length sent
count_of_few [] few = refl
count_of_few (sent ∷ earlier) few =
    let before : count_of earlier ≡ length earlier = count_of_few earlier (omega arith) in
    rw (before, lt-ltb (length earlier) window_frames (omega arith)) (omega arith)

count_of_many : (sent : List Sent) → window_frames ≤ length sent → count_of sent ≡ window_frames
count_of_many [] many = absurd (omega arith)
count_of_many (sent ∷ earlier) many =
    by_bool (leb window_frames (length earlier))
    (λ more.
    let before : count_of earlier ≡ window_frames = count_of_many earlier (leb-true _ _ more) in
    rw (before))
    (λ less.
    let few : length earlier < window_frames = leb-false _ _ less in
    let before : count_of earlier ≡ length earlier = count_of_few earlier (omega arith) in
    let nine : length earlier ≡ 9 = omega arith in
    rw (before, nine))

-- the code of the last frame
abbrev pub last_code : List Sent → ℕ
last_code [] = 0
last_code (last ∷ earlier) = last.code

-- the time of the last question
abbrev pub last_asked : Questions → ℕ
last_asked [] = 0
last_asked (last ∷ earlier) = last.time

pub is_earlier-asked : (time : ℕ) (before : Questions) → ltb time (last_asked before) ≡ is_earlier time before
is_earlier-asked time [] = le-ltb time 0 (omega arith)
is_earlier-asked time (last ∷ earlier) = refl

-- the times of the last ten frames
abbrev pub last_ten : List Sent → List ℕ
last_ten sent =
    let times = times_of sent in
    get_or times 0 0 ∷ get_or times 1 0 ∷ get_or times 2 0 ∷ get_or times 3 0 ∷ get_or times 4 0 ∷ get_or times 5 0 ∷
    get_or times 6 0 ∷ get_or times 7 0 ∷ get_or times 8 0 ∷ get_or times 9 0 ∷ []

abbrev pub sender_over : Questions → Sender
sender_over before =
    record {
      times = last_ten (sent_over before);
      asked = last_asked before;
      code = last_code (sent_over before);
      sent = count_of (sent_over before);
    }

-- ---- it answers as document 02 says

module _ (time bound : ℕ) (sent : List Sent) (falls : Descending bound sent) where
  abbrev tenth_counts : Bool
  tenth_counts = leb window_frames (count_of sent) && not (leb (get_or (times_of sent) tenth 0 + window) time)

  tenth_counts-few : leb window_frames (length sent) ≡ false → tenth_counts ≡ false
  tenth_counts-few less =
      let short : length sent < window_frames = leb-false _ _ less in
      let count : count_of sent ≡ length sent = count_of_few sent (omega arith) in
      rw (count, less)

  tenth_counts-many : leb window_frames (later_count time sent) ≡ false → leb window_frames (length sent) ≡ true
      → tenth_counts ≡ false
  tenth_counts-many free more =
      let long : window_frames ≤ length sent = leb-true _ _ more in
      let count : count_of sent ≡ window_frames = count_of_many sent long in
      by_bool (leb (get_or (times_of sent) tenth 0 + window) time)
      (λ old. rw (count, old))
      (λ new.
      let counts : tenth < later_count time sent =
      later_count-at time bound tenth sent falls (omega arith) (leb-false _ _ new) in
      absurd (omega (arith, leb-false window_frames (later_count time sent) free)))

  -- ten frames count exactly if the tenth last does
  tenth_counts_full : tenth_counts ≡ leb window_frames (later_count time sent)
  tenth_counts_full =
      by_bool (leb window_frames (later_count time sent))
      (λ full.
      let all : tenth < later_count time sent = omega (arith, leb-true window_frames (later_count time sent) full) in
      let counts = at-later_count time bound tenth sent falls all in
      let many : count_of sent ≡ window_frames = count_of_many sent (omega (arith, counts.inside)) in
      rw (full, many, lt-leb (get_or (times_of sent) tenth 0 + window) time counts.later))
      (λ free. rw free (by_bool (leb window_frames (length sent)) (tenth_counts-many free) tenth_counts-few))

-- a frame was sent
count_of_some : (last : Sent) (earlier : List Sent) → eqb (count_of (last ∷ earlier)) 0 ≡ false
count_of_some last earlier =
    by_bool (ltb (count_of earlier) window_frames)
    (λ few. rw few (ne_eqb (count_of earlier + 1) 0 (λ e. omega arith)))
    (λ many. rw many (ne_eqb (count_of earlier) 0 (λ e. omega (arith, ltb-false (count_of earlier) window_frames many))))

module _ (before : Questions) (time code : ℕ) where
  heartbeat_due-over : heartbeat_due (sender_over before) time code ≡ due_frame time code (sent_over before)
  unfolding heartbeat_due due_frame
  heartbeat_due-over = go (sent_over before)
    where
      go : (sent : List Sent)
          → cond (eqb (count_of sent) 0) H.Information
          (cond (not (eqb code (last_code sent))) H.Event
          (cond (leb (get_or (times_of sent) 0 0 + period) time) H.Information
          H.Nothing))
          ≡ due_frame time code sent
      go [] = refl
      go (last ∷ earlier) = rw (count_of_some last earlier)

  pub heartbeat_of-over : (bound : ℕ) → Descending bound (sent_over before)
      → heartbeat_of (sender_over before) time code ≡ heartbeat_over time code (sent_over before)
  unfolding heartbeat_of heartbeat_over is_full
  heartbeat_of-over bound falls = rw (tenth_counts_full time bound (sent_over before) falls, heartbeat_due-over)

-- ---- and keeps what its questions come to

-- an accepted question is answered with a frame or with nothing
pub data Beat : Heartbeat → Type 0 where
  information : Beat H.Information
  event : Beat H.Event
  nothing : Beat H.Nothing

cond_beat : (test : Bool) (one other : Heartbeat) → Beat one → Beat other → Beat (cond test one other)
cond_beat true one other first second = first
cond_beat false one other first second = second

due_frame_beat : (time code : ℕ) (sent : List Sent) → Beat (due_frame time code sent)
unfolding due_frame
due_frame_beat time code [] = information
due_frame_beat time code (last ∷ earlier) =
    cond_beat (not (eqb code last.code)) H.Event _ event
    (cond_beat (leb (last.time + period) time) H.Information H.Nothing information nothing)

pub heartbeat_over_beat : (time code : ℕ) (sent : List Sent) → Beat (heartbeat_over time code sent)
unfolding heartbeat_over
heartbeat_over_beat time code sent =
    cond_beat (leb window_frames (later_count time sent)) H.Nothing (due_frame time code sent) nothing
    (due_frame_beat time code sent)

module _ (before : Questions) (question : Question) where
  pub after_heartbeat-over :
      after_heartbeat (heartbeat_over question.time (code_asked question) (sent_over before)) (sender_over before)
      question.time
      (code_asked question)
      ≡ sender_over (question ∷ before)
  unfolding after_heartbeat with_frame sent_over
  after_heartbeat-over =
      go (heartbeat_over question.time (code_asked question) (sent_over before))
      (heartbeat_over_beat question.time (code_asked question) (sent_over before))
    where
      go : (heartbeat : Heartbeat) → Beat heartbeat
          → after_heartbeat heartbeat (sender_over before) question.time (code_asked question)
          ≡ record {
            times = last_ten (sent_after heartbeat question.time (code_asked question) (sent_over before));
            asked = question.time;
            code = last_code (sent_after heartbeat question.time (code_asked question) (sent_over before));
            sent = count_of (sent_after heartbeat question.time (code_asked question) (sent_over before));
          }
      go _ information = refl
      go _ event = refl
      go _ nothing = refl

-- ---- accepted questions in falling order of time

abbrev pub Falling : Questions → Type 0
Falling [] = Unit {0}
Falling (question ∷ earlier) = (is_earlier question.time earlier ≡ false) × Falling earlier

pub falling_descending : (before : Questions) → Falling before → Descending (last_asked before) (sent_over before)
unfolding sent_over
falling_descending [] falls = tt
falling_descending (question ∷ earlier) falls =
    go (heartbeat_over question.time (code_asked question) (sent_over earlier))
    (descending_higher (last_asked earlier) question.time (sent_over earlier) after
    (falling_descending earlier falls.1))
  where
    after : last_asked earlier ≤ question.time
    after = ltb-false question.time (last_asked earlier) (is_earlier-asked question.time earlier ∙ falls.0)

    go : (heartbeat : Heartbeat) → Descending question.time (sent_over earlier)
        → Descending question.time (sent_after heartbeat question.time (code_asked question) (sent_over earlier))
    go H.Information rest = (omega arith, rest)
    go H.Event rest = (omega arith, rest)
    go H.Nothing rest = rest
    go (H.Refused number) rest = rest
