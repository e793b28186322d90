-- What the lanes are told: a law for each way through. Assumes nothing.
use Prim.Native.Nat.{ℕ, zero, suc, ◌+◌, ◌-◌, ◌≤◌, ◌<◌, max}
use mathlib.Core.Bool.{Bool, true, false, cond}
use mathlib.Core.List.{List, [], ◌∷◌}
use mathlib.Core.Path.{◌≡◌, refl, sym, ◌∙◌, ap}
use native.Mathlib.Omega.{arith}
use lib.Dec.{leb}
use borrow.Author.Tests.{lt-ltb, le-ltb, le-leb, lt-leb, eq-eqb, ne_eqb}
use lib.ListN.{get_or, set}
use Rattle.numbers.proofs.Truth.{by_bool}
use Rattle.selector.specs.declared.Selector.{Selector}
use Rattle.selector.specs.Answer.{outgoing_codes}
use Rattle.lane.specs.declared.Tolerance.{Tolerance}
use Rattle.lane.specs.declared.Lane.{Lane}
use Rattle.lane.specs.declared.Judged.{Judged}
use Rattle.lane.specs.Lane.{capped, fresh_lane, shown_next, right_next}
use Rattle.lanes.specs.Value.{index_count, value_index, value_of, Indexed}
use Rattle.lanes.specs.Span.{Span, span_of, state_behind, next_span}
use Rattle.spans.specs.Spans.{spans_from}
use Rattle.verdictlines.specs.declared.Question.{Question}
use Rattle.verdictlines.specs.Told.{Told, AllTold, lane_of, room_of, last_at, placed_at, new_from, pushed, shown_in, span_from, since_span, spans_since, over_spans, lane_told, spans_told, known_to, with_shown, shown_told, lanes_of, places_of, ports_told, answer_told, all_told, span_told, spans_told_all}

module _ (room : List ℕ) (index : ℕ) where
  pub last_at_index : index < index_count → get_or room index 0 ≡ last_at room index
  unfolding last_at
  last_at_index h = rw (lt-ltb index index_count h)

  pub last_at_none : index_count ≤ index → 0 ≡ last_at room index
  unfolding last_at
  last_at_none h = rw (le-ltb index index_count h)

module _ (tolerance : Tolerance) (lane : Lane) (from : ℕ) where
  pub new_from-first : lane.after ≡ 0 → from ≡ new_from tolerance lane from
  unfolding new_from
  new_from-first e = rw (eq-eqb lane.after 0 e)

  pub new_from-later : (floor answer : ℕ) → (lane.after ≡ 0 → ⊥) → floor ≡ capped lane.after tolerance.early
      → answer ≡ max from floor
      → answer ≡ new_from tolerance lane from
  unfolding new_from
  new_from-later floor answer n f e = rw (ne_eqb lane.after 0 n) (e ∙ ap (max from) f)

module _ (question : Question) (number : ℕ) (lane : Lane) (room : List ℕ) (from to value start : ℕ)
    (s : start ≡ new_from question.tolerance lane from) where
  pub pushed-old-lane : to < start → lane ≡ lane_of (pushed question number lane room from to value)
  unfolding pushed
  pushed-old-lane h = rw (← s, lt-ltb to start h)

  pub pushed-old-room : to < start → room ≡ room_of (pushed question number lane room from to value)
  unfolding pushed
  pushed-old-room h = rw (← s, lt-ltb to start h)

  pub pushed-lane : (standing last : ℕ) (judged : Judged) → start ≤ to
      → Indexed (value_index question.view number lane.value) index_count standing
      → last ≡ last_at room standing
      → judged ≡ right_next question.tolerance lane last start to value
      → judged.lane ≡ lane_of (pushed question number lane room from to value)
  unfolding pushed
  pushed-lane standing last judged h p l j =
      rw (← s, le-ltb to start h, ← p.value, ← l) (ap (λ (one : Judged). one.lane) j)

  pub pushed_room : (index over : ℕ) → start ≤ to → Indexed (value_index question.view number value) index_count index
      → over ≡ capped to 1
      → index < index_count
      → set room index over ≡ room_of (pushed question number lane room from to value)
  unfolding pushed placed_at
  pushed_room index over h p o i = rw (← s, le-ltb to start h, ← p.value, lt-ltb index index_count i, o)

  pub pushed-room-none : (index : ℕ) → start ≤ to → Indexed (value_index question.view number value) index_count index
      → index_count ≤ index
      → room ≡ room_of (pushed question number lane room from to value)
  unfolding pushed placed_at
  pushed-room-none index h p i = rw (← s, le-ltb to start h, ← p.value, le-ltb index index_count i)

pub shown_in-made : (question : Question) (number : ℕ) (lane : Lane) (room : List ℕ) (time value index last : ℕ)
    (judged : Judged)
    → Indexed (value_index question.view number value) index_count index
    → last ≡ last_at room index
    → judged ≡ shown_next question.tolerance lane last time value
    → judged.lane ≡ (shown_in question number lane room time value).lane
unfolding shown_in
shown_in-made question number lane room time value index last judged p l j =
    rw (← p.value, ← l) (ap (λ (one : Judged). one.lane) j)

-- ---- spans, one after another

-- the spans that are left, at most so many
unfoldable pub spans_left : ℕ → Span → ℕ → List Span
spans_left zero span until = []
spans_left (suc left) span until = spans_from left span until

-- of one more the first is told, and the others where it ends before `until`
pub left_step : (left : ℕ) (span : Span) (until : ℕ)
    → spans_left (suc left) span until ≡ span ∷ cond (leb until span.to) [] (spans_left left (next_span span until) until)
unfolding spans_left
left_step zero span until = by_bool (leb until span.to) (λ e. rw e) (λ e. rw e)
left_step (suc left) span until = refl

pub left-all : (state : Selector) (since until : ℕ)
    → spans_left 49 (since_span state since until) until ≡ spans_since state since until
unfolding spans_left spans_since
left-all state since until = refl

-- the span that begins behind one, by its parts
pub next-made : (state after : Selector) (from to until end began : ℕ) → after ≡ state_behind state to
    → end ≡ (span_of after until).to
    → began ≡ after.time
    → span_from after began end ≡ next_span (span_from state from to) until
next-made state after from to until end began a e b =
    (λ j. span_from after (b j) (e j)) ∙ ap (λ (one : Selector). span_of one until) a

module _ {S : Type 0} (tell : Span → S → S) (until : ℕ) (whole : S) where
  -- what is left of the spans leads to what all of them lead to
  module _ (left : ℕ) (span : Span) (told : S)
      (going : over_spans tell (spans_left left span until) told ≡ whole) where
    over_none : left ≤ 0 → told ≡ whole
    unfolding over_spans spans_left
    over_none h =
        let none : left ≡ 0 = omega arith in
        sym (ap (λ (n : ℕ). over_spans tell (spans_left n span until) told) none) ∙ going

    module _ (some : 0 < left) where
      over-one : over_spans tell (cond (leb until span.to) [] (spans_left (left - 1) (next_span span until) until))
          (tell span told) ≡ whole
      unfolding over_spans
      over-one =
          let more : left ≡ suc (left - 1) = omega arith in
          sym (ap (λ (n : ℕ). over_spans tell (spans_left n span until) told) more ∙
          ap (λ (spans : List Span). over_spans tell spans told) (left_step (left - 1) span until)) ∙
          going

      over_last : until ≤ span.to → tell span told ≡ whole
      unfolding over_spans
      over_last h = rw (le-leb until span.to h) at over-one

      over-next : (fewer : ℕ) (next : Span) (after : S) → fewer ≡ left - 1 → next ≡ next_span span until
          → after ≡ tell span told
          → span.to < until
          → over_spans tell (spans_left fewer next until) after ≡ whole
      over-next fewer next after f n a h =
          (λ j. over_spans tell (spans_left (f j) (n j) until) (a j)) ∙
          (rw (lt-leb until span.to h) at over-one)

  -- and so does all of them, from the first on
  over_start : (state : Selector) (since to : ℕ) (told : S) → to ≡ (span_of state until).to
      → over_spans tell (spans_since state since until) told ≡ whole
      → over_spans tell (spans_left 49 (span_from state since to) until) told ≡ whole
  over_start state since to told t is =
      ap (λ (spans : List Span). over_spans tell spans told)
      (ap (λ (n : ℕ). spans_left 49 (span_from state since n) until) t ∙ left-all state since until)
      ∙ is

-- of one lane
abbrev pub Going : Question → ℕ → ℕ → Told → ℕ → Span → Lane → List ℕ → Type 0
Going question number until whole left span lane room =
    spans_told question number (spans_left left span until) lane room ≡ whole

pub going_start : (question : Question) (number until : ℕ) (state : Selector) (since to : ℕ) (lane : Lane) (room : List ℕ)
    → to ≡ (span_of state until).to
    → Going question number until (spans_told question number (spans_since state since until) lane room) 49
    (span_from state since to) lane room
going_start question number until state since to lane room t =
    over_start (lane_told question number) until _ state since to _ t refl

module _ (question : Question) (number until : ℕ) (whole : Told) (left : ℕ) (span : Span) (lane : Lane) (room : List ℕ)
    (going : Going question number until whole left span lane room) where
  pub going-lane : left ≤ 0 → lane ≡ lane_of whole
  going-lane h = ap lane_of (over_none (lane_told question number) until whole left span _ going h)

  pub going-room : left ≤ 0 → room ≡ room_of whole
  going-room h = ap room_of (over_none (lane_told question number) until whole left span _ going h)

  module _ (value : ℕ) (shows : value ≡ value_of question.view span.state number) (some : 0 < left)
      (after : Lane) (kept : List ℕ)
      (a : after ≡ lane_of (pushed question number lane room span.from span.to value))
      (k : kept ≡ room_of (pushed question number lane room span.from span.to value)) where
    told-one : record { lane = after; room = kept } ≡
        lane_told question number span (record { lane = lane; room = room })
    told-one =
        (λ j. record { lane = a j; room = k j }) ∙
        ap (λ (n : ℕ). pushed question number lane room span.from span.to n) shows

    pub going-end-lane : until ≤ span.to → after ≡ lane_of whole
    going-end-lane h =
        ap lane_of (told-one ∙ over_last (lane_told question number) until whole left span _ going some h)

    pub going-end-room : until ≤ span.to → kept ≡ room_of whole
    going-end-room h =
        ap room_of (told-one ∙ over_last (lane_told question number) until whole left span _ going some h)

    pub going_on : (fewer : ℕ) (next : Span) → fewer ≡ left - 1 → next ≡ next_span span until → span.to < until
        → Going question number until whole fewer next after kept
    going_on fewer next f n h =
        over-next (lane_told question number) until whole left span _ going some fewer next _ f n told-one h

-- of all lanes
abbrev pub GoingAll : Question → ℕ → AllTold → ℕ → Span → List Lane → List ℕ → Type 0
GoingAll question until whole left span lanes room =
    spans_told_all question (spans_left left span until) lanes room ≡ whole

pub going_start_all : (question : Question) (until : ℕ) (state : Selector) (since to : ℕ) (lanes : List Lane)
    (room : List ℕ)
    → to ≡ (span_of state until).to
    → GoingAll question until (spans_told_all question (spans_since state since until) lanes room) 49
    (span_from state since to) lanes room
going_start_all question until state since to lanes room t =
    over_start (all_told question) until _ state since to _ t refl

module _ (question : Question) (until : ℕ) (whole : AllTold) (left : ℕ) (span : Span) (lanes : List Lane) (room : List ℕ)
    (going : GoingAll question until whole left span lanes room) where
  pub going-lanes : left ≤ 0 → lanes ≡ lanes_of whole
  going-lanes h = ap lanes_of (over_none (all_told question) until whole left span _ going h)

  pub going-places : left ≤ 0 → room ≡ places_of whole
  going-places h = ap places_of (over_none (all_told question) until whole left span _ going h)

  module _ (some : 0 < left) (after : List Lane) (kept : List ℕ)
      (a : after ≡ lanes_of (span_told question span lanes room))
      (k : kept ≡ places_of (span_told question span lanes room)) where
    told-all : record { lanes = after; room = kept } ≡ span_told question span lanes room
    told-all = λ j. record { lanes = a j; room = k j }

    pub going-end-lanes : until ≤ span.to → after ≡ lanes_of whole
    going-end-lanes h = ap lanes_of (told-all ∙ over_last (all_told question) until whole left span _ going some h)

    pub going-end-places : until ≤ span.to → kept ≡ places_of whole
    going-end-places h = ap places_of (told-all ∙ over_last (all_told question) until whole left span _ going some h)

    pub going-on-all : (fewer : ℕ) (next : Span) → fewer ≡ left - 1 → next ≡ next_span span until → span.to < until
        → GoingAll question until whole fewer next after kept
    going-on-all fewer next f n h =
        over-next (all_told question) until whole left span _ going some fewer next _ f n told-all h

-- ---- a value is shown

module _ (question : Question) (number : ℕ) (lane : Lane) (room : List ℕ) (state : Selector)
    (due since right border time value : ℕ) (known : Lane) (kept : List ℕ) where
  told-by : (told : Told) → told ≡ known_to question number lane room state due since right border
      → known ≡ lane_of told
      → kept ≡ room_of told
      → with_shown question number time value (record { lane = known; room = kept }) ≡
      shown_told question number lane room state due since right border time value
  unfolding shown_told
  told-by told is l r =
      (λ j. with_shown question number time value (record { lane = l j; room = r j })) ∙
      ap (with_shown question number time value) is

  module _ (before : border < due) (l : known ≡ lane_of (pushed question number lane room since border right))
      (r : kept ≡ room_of (pushed question number lane room since border right)) where
    quick : pushed question number lane room since border right ≡
        known_to question number lane room state due since right border
    unfolding known_to
    quick = rw (lt-ltb border due before)

    pub quick-lane : (answer : Lane) → answer ≡ (shown_in question number known kept time value).lane
        → answer ≡ lane_of (shown_told question number lane room state due since right border time value)
    quick-lane answer a = a ∙ ap lane_of (told-by _ quick l r)

    pub quick-room : kept ≡ room_of (shown_told question number lane room state due since right border time value)
    quick-room = ap room_of (told-by _ quick l r)

  module _ (come : due ≤ border)
      (l : known ≡ lane_of (spans_told question number (spans_since state since border) lane room))
      (r : kept ≡ room_of (spans_told question number (spans_since state since border) lane room)) where
    slow : spans_told question number (spans_since state since border) lane room ≡
        known_to question number lane room state due since right border
    unfolding known_to
    slow = rw (le-ltb border due come)

    pub slow-lane : (answer : Lane) → answer ≡ (shown_in question number known kept time value).lane
        → answer ≡ lane_of (shown_told question number lane room state due since right border time value)
    slow-lane answer a = a ∙ ap lane_of (told-by _ slow l r)

    pub slow-room : kept ≡ room_of (shown_told question number lane room state due since right border time value)
    slow-room = ap room_of (told-by _ slow l r)

-- ---- all lanes

-- what is left of the ports leads to what all of them lead to
abbrev pub Ports : Question → ℕ → ℕ → List ℕ → AllTold → ℕ → List Lane → List ℕ → Type 0
Ports question from to codes whole number lanes room =
    ports_told question from to codes (16 - number) number lanes room ≡ whole

module _ (question : Question) (from to : ℕ) (codes : List ℕ) (whole : AllTold) (number : ℕ) (lanes : List Lane)
    (room : List ℕ) (ports : Ports question from to codes whole number lanes room) where
  ports-over : 16 ≤ number → record { lanes = lanes; room = room } ≡ whole
  unfolding ports_told
  ports-over h =
      let none : 16 - number ≡ 0 = omega arith in
      sym (ap (λ (left : ℕ). ports_told question from to codes left number lanes room) none) ∙ ports

  pub ports-lanes : 16 ≤ number → lanes ≡ lanes_of whole
  ports-lanes h = ap lanes_of (ports-over h)

  pub ports-room : 16 ≤ number → room ≡ places_of whole
  ports-room h = ap places_of (ports-over h)

  ports-one : (left : ℕ) → ports_told question from to codes (suc left) number lanes room ≡
      ports_told question from to codes left (suc number)
      (set lanes number
      (pushed question number (get_or lanes number fresh_lane) room from to (get_or codes number 0)).lane)
      (pushed question number (get_or lanes number fresh_lane) room from to (get_or codes number 0)).room
  unfolding ports_told
  ports-one left = refl

  pub ports-on : (after : Lane) (kept : List ℕ) → number < 16
      → after ≡ lane_of (pushed question number (get_or lanes number fresh_lane) room from to (get_or codes number 0))
      → kept ≡ room_of (pushed question number (get_or lanes number fresh_lane) room from to (get_or codes number 0))
      → Ports question from to codes whole (number + 1) (set lanes number after) kept
  ports-on after kept h a k =
      let more : 16 - number ≡ suc (16 - (number + 1)) = omega arith in
      let one : number + 1 ≡ suc number = omega arith in
      (λ j. ports_told question from to codes (16 - (number + 1)) (one j) (set lanes number (a j)) (k j)) ∙
      sym (ports-one (16 - (number + 1))) ∙
      sym (ap (λ (left : ℕ). ports_told question from to codes left number lanes room) more) ∙
      ports

-- what a span shows, in all lanes
module _ (question : Question) (span : Span) (lanes : List Lane) (room : List ℕ) where
  module _ (codes : List ℕ) (judged : question.view.codes ≡ true) (is : codes ≡ outgoing_codes span.state) where
    abbrev ports : AllTold
    ports = ports_told question span.from span.to codes 16 0 lanes room

    by_codes : ports ≡ span_told question span lanes room
    unfolding all_told
    by_codes =
        ap (λ (given : List ℕ). ports_told question span.from span.to given 16 0 lanes room) is ∙
        sym (ap (λ (test : Bool). cond test
        (ports_told question span.from span.to (outgoing_codes span.state) 16 0 lanes room)
        (answer_told question span lanes room))
        judged)

    pub codes-lanes : (after : List Lane) → after ≡ lanes_of ports → after ≡ lanes_of (span_told question span lanes room)
    codes-lanes after a = a ∙ ap lanes_of by_codes

    pub codes-room : (kept : List ℕ) → kept ≡ places_of ports → kept ≡ places_of (span_told question span lanes room)
    codes-room kept k = k ∙ ap places_of by_codes

  module _ (value : ℕ) (judged : question.view.codes ≡ false)
      (is : value ≡ value_of question.view span.state 0) where
    abbrev first : Told
    first = pushed question 0 (get_or lanes 0 fresh_lane) room span.from span.to value

    abbrev with_first : Told → AllTold
    with_first told = record { lanes = set lanes 0 told.lane; room = told.room }

    by_answer : record { lanes = set lanes 0 first.lane; room = first.room } ≡ span_told question span lanes room
    unfolding all_told answer_told
    by_answer =
        ap (λ (n : ℕ). with_first (pushed question 0 (get_or lanes 0 fresh_lane) room span.from span.to n)) is ∙
        sym (ap (λ (test : Bool). cond test
        (ports_told question span.from span.to (outgoing_codes span.state) 16 0 lanes room)
        (answer_told question span lanes room))
        judged)

    pub answer-lanes : (after : Lane) → after ≡ lane_of first
        → set lanes 0 after ≡ lanes_of (span_told question span lanes room)
    answer-lanes after a = ap (set lanes 0) a ∙ ap lanes_of by_answer

    pub answer-room : (kept : List ℕ) → kept ≡ room_of first → kept ≡ places_of (span_told question span lanes room)
    answer-room kept k = k ∙ ap places_of by_answer

pub ruleset told-laws = (last_at_index, last_at_none, new_from-first, new_from-later, pushed-old-lane, pushed-old-room, pushed-lane, pushed_room, pushed-room-none, shown_in-made)

pub ruleset shown-told-laws = (quick-lane, quick-room, slow-lane, slow-room)

pub ruleset span-laws = (codes-lanes, codes-room, answer-lanes, answer-room)

pub ruleset ports-laws = (ports-lanes, ports-room, ports-on)
