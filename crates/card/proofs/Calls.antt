-- Calls in a row are steps in a row. Assumes nothing.
use Prim.Native.Nat.{ℕ, ◌+◌, ◌-◌, ◌≤◌, ◌<◌}
use mathlib.Core.Bool.{true, false, ◌&&◌, or-true}
use mathlib.Core.List.{List, [], ◌++◌}
use mathlib.Core.Logic.{◌≢◌}
use mathlib.Core.Path.{◌≡◌, refl, sym, ◌∙◌, ap, subst}
use native.Mathlib.Omega.{arith}
use lib.ListN.{get_or, drop}
use lib.Dec.{eqb, ltb}
use borrow.Author.Tests.{eq-eqb, ne_eqb, eqb-true, ltb-true, lt-ltb, le-ltb}
use Rattle.numbers.specs.declared.Answer.{Answer}
use Rattle.numbers.specs.declared.Event.{Event}
use Rattle.numbers.specs.From.{started, ◌following◌, profile_of}
use Rattle.numbers.specs.declared.profile.Profile.{Profile}
use Rattle.numbers.specs.Inputs.{last_input, time_limit}
use Rattle.numbers.specs.Profile.{last_prov_place, start_number, limits_of, option_one, option_two}
use Rattle.numbers.specs.Refusal.{accepted, argument_out_of_range}
use Rattle.numbers.proofs.Truth.{by_bool, both_first, both-second}
use Rattle.frame.specs.declared.FrameRead.{FrameRead}
use Rattle.frame.specs.Read.{read_code}
use Rattle.frame.specs.Write.{written_length, frame_octets}
use Rattle.selector.specs.declared.Selector.{Selector}
use Rattle.selector.specs.State.{fresh_selector}
use Rattle.selector.specs.Answer.{answer_of, outgoing_codes, outgoing_words}
use Rattle.selector.proofs.Ports.{get_d_ports}
use Rattle.due.specs.Next.{never, next_due}
use Rattle.due.proofs.Calm.{moved_to}
use Rattle.due.proofs.Jump.{each-before, next_due-later}
use Rattle.due.proofs.ServesEachDue.{ticked-each}
use Rattle.events.specs.Refusals.{early_refusal}
use Rattle.events.specs.Step.{Stepped, early_number, step_read, step}
use Rattle.events.specs.Given.{Given, Sequence, tick_at}
use Rattle.events.specs.Sequence.{state_after, number_after, count_after}
use Rattle.events.specs.Due.{most_due}
use Rattle.events.specs.NextDue.{NextRight}
use Rattle.events.specs.Past.{past_of, recorded}
use Rattle.events.specs.Told.{answer_by, code_by, codes_by}
use Rattle.events.proofs.Happened.{happened}
use Rattle.events.proofs.Agrees.{step-accepted, sequence-agrees}
use Rattle.events.proofs.Calm.{accepted_or_not, sequence-calm}
use Rattle.events.proofs.Demand1.{tick_early, tick_state, demand_1_events}
use Rattle.events.proofs.Extra.{sequence-ever}
use Rattle.events.proofs.EventLaws.{late_refusal-other}
use Rattle.events.proofs.NextDue.{next-right}
use Rattle.events.proofs.Demand2.{demand_2_answers}
use Rattle.events.proofs.Demand3.{demand_3}
use Rattle.events.proofs.Demand4.{demand_4}
use Rattle.status.specs.Kept.{input_status}
use Rattle.status.proofs.WhatHappened.{status_right}
use Rattle.quickstep.specs.Again.{says_again, again_own, is_again}
use Rattle.quickstep.specs.Own.{own_step}
use Rattle.quickstep.specs.Watch.{Watch, numbered, due_anew, completed, own_put, own_at, take_step, watch_step}
use Rattle.quickstep.proofs.Due.{again_due-later}
use Rattle.quickstep.proofs.Step.{ever}
use Rattle.quickstep.proofs.SameAsPlain.{Kept, Right, own-early, fresh_kept, take_step-right, watch_step-right, numbered-answer}
use Rattle.card.specs.Lent.{names_option, start_lent, read_for, ranged_watch, event_lent, step_lent}
use Rattle.card.specs.Known.{ends_of, known_of, ends_known, input_known}
use Rattle.card.specs.Calls.{lent_after, latest_number, latest_count, latest_by, StartRight, LentRight, Demand1Lent, Demand2Lent, Demand3Lent, Demand4Lent, NextDueLent, StatusLent}
use Rattle.card.specs.Range.{InRange}
use Rattle.card.proofs.Ports.{port-written}
use Rattle.card.proofs.Range.{step_read-read_for, sequence_named, answer_in_range, in_range_ranged}
use Rattle.card.proofs.Due.{take_step-later}

-- ---- a start

-- the number of a start, of the numbers that C gives
start_number-refused : (option provplace : ℕ) → option ≡ option_two → last_prov_place < provplace
    → start_number option provplace ≡ argument_out_of_range
unfolding start_number
start_number-refused option provplace two above = rw (eq-eqb option option_two two, lt-ltb last_prov_place provplace above)

start_number-starts : (option provplace : ℕ) → (option ≡ option_two → provplace ≤ last_prov_place)
    → start_number option provplace ≡ accepted
unfolding start_number
start_number-starts option provplace within =
    by_bool (eqb option option_two)
    (λ two. rw (two, le-ltb last_prov_place provplace (within (eqb-true option option_two two))))
    (λ other. rw other)

-- option II is an option
names-two : (option : ℕ) → option ≡ option_two → names_option option ≡ true
unfolding names_option
names-two option two = rw (eq-eqb option option_two two, or-true (eqb option option_one))

-- a number that is neither option's names none
pub names-neither : (option : ℕ) → option ≢ option_one → option ≢ option_two → names_option option ≡ false
unfolding names_option
names-neither option one two = rw (ne_eqb option option_one one, ne_eqb option option_two two)

-- L10 in C's hands: a place above 8 starts nothing, nor does a number that is no option's, and any other start is where
-- calls in a row begin.
pub lent_start : (watch : Watch) (option provplace marks : ℕ) → StartRight watch option provplace marks
unfolding start_lent lent_after
lent_start watch option provplace marks =
    record {
      refused = λ two above. rw (names-two option two, start_number-refused option provplace two above);
      neither = λ one two. rw (names-neither option one two);
      starts = λ named within. rw (named, start_number-starts option provplace within);
    }

-- ---- one call

anew-later : (state : Selector) (due time : ℕ) → state.time < due → state.time < next_due state
    → state.time < due_anew state.inputs state.mode state.time due time
unfolding due_anew
anew-later state due time ahead next = by_bool (ltb time due) (λ y. rw y ahead) (λ n. rw n next)

module _ (watch : Watch) (event : Event) (read : FrameRead) (kept : Kept watch)
    (ahead : watch.state.time < watch.due) (late : watch.state.time < never) where
  abbrev state : Selector
  state = watch.state

  taken-later : (take_step watch event read).state.time < (take_step watch event read).due
  unfolding take_step own_put completed own_step
  taken-later =
      accepted_or_not (early_number state event read)
      (λ none.
      subst (λ (then : Selector). then.time < (take_step watch event read).due)
      (sym (take_step-right watch event read kept).state)
      (take_step-later watch event read kept none))
      (λ given. rw (own-early watch event read kept, ne_eqb _ _ given)
      (anew-later state watch.due event.time ahead (next_due-later state late)))

  -- the time that is kept for what is due is still to come
  step-later : (watch_step watch event read).state.time < (watch_step watch event read).due
  unfolding watch_step own_put completed again_own says_again
  step-later =
      let early = early_refusal (limits_of state.profile) state.time (own_at state event).settings.kind event read in
      by_bool (says_again (own_at state event) state.profile state.time watch.due event read)
      (λ y.
      let first : (eqb early accepted && ltb event.time watch.due) ≡ true = both_first (eqb early accepted && ltb event.time watch.due) (is_again (own_at state event) state.profile event read) y in
      let none : early_number state event read ≡ accepted =
      sym (own-early watch event read kept) ∙ eqb-true early accepted (both_first (eqb early accepted) (ltb event.time watch.due) first) in
      let soon : event.time < watch.due =
      ltb-true event.time watch.due (both-second (eqb early accepted) (ltb event.time watch.due) first) in
      rw y (again_due-later watch.due event.kind event.time soon
      (ever state event read watch.due kept.calm kept.due none)))
      (λ n. rw n taken-later)

-- an answer of a state that names inputs is kept
ranged_same : (watch : Watch) → InRange watch.answer → ranged_watch watch ≡ watch
unfolding ranged_watch
ranged_same watch range = rw (in_range_ranged watch.answer range)

-- ---- calls in a row

-- what C holds after calls is what the selector is, and nothing is due before the time that it keeps
record Reached (sequence : Sequence) : Type 0 where
  state : (lent_after sequence).state ≡ state_after sequence
  answer : (lent_after sequence).answer ≡ answer_of (latest_number sequence) (state_after sequence)
  count : (lent_after sequence).count ≡ latest_count sequence
  kept : Kept (lent_after sequence)
  ahead : (lent_after sequence).state.time < (lent_after sequence).due

reached : (sequence : Sequence) → Reached sequence
unfolding lent_after state_after number_after count_after latest_number latest_count step_lent event_lent step
reached (started profile) =
    record {
      state = refl;
      answer = refl;
      count = refl;
      kept = fresh_kept profile;
      ahead = next_due-later (fresh_selector profile) (omega arith);
    }
reached (given following earlier) =
    let before = reached earlier in
    let watch = lent_after earlier in
    let event = given.event in
    let read = read_for event.kind given.frame in
    let range : InRange watch.answer =
    subst InRange (sym before.answer)
    (answer_in_range (latest_number earlier) (state_after earlier) (sequence_named earlier)) in
    let same : watch_step (ranged_watch watch) event read ≡ watch_step watch event read =
    ap (λ (one : Watch). watch_step one event read) (ranged_same watch range) in
    let right : Right (step_read watch.state event read) (watch_step watch event read) =
    watch_step-right watch event read before.kept in
    let plain : step_read watch.state event read ≡ step (state_after earlier) event given.frame =
    ap (λ (state : Selector). step_read state event read) before.state ∙
    step_read-read_for (state_after earlier) event given.frame in
    let late : watch.state.time < never =
    subst (λ (state : Selector). state.time < never) (sym before.state) (sequence-ever earlier) in
    record {
      state = ap (λ (one : Watch). one.state) same ∙ right.state ∙ ap (λ (one : Stepped). one.state) plain;
      answer =
          ap (λ (one : Watch). one.answer) same ∙ right.answer ∙
          ap (λ (one : Stepped). answer_of one.number one.state) plain;
      count = ap (λ (one : Watch). one.count) same ∙ right.count ∙ ap (λ (one : Stepped). one.count) plain;
      kept = subst Kept (sym same) right.kept;
      ahead =
          subst (λ (one : Watch). one.state.time < one.due) (sym same)
          (step-later watch event read before.kept before.ahead late);
    }

-- Calls in a row are steps in a row.
pub lent-right : (sequence : Sequence) → LentRight sequence
lent-right sequence =
    let all = reached sequence in
    record { state = all.state; answer = all.answer; count = all.count; ahead = all.ahead; due = all.kept.due }

module _ (sequence : Sequence) (given : Given) where
  -- one more call
  after-answer : (lent_after (given following sequence)).answer
      ≡ answer_of (number_after given sequence) (state_after (given following sequence))
  unfolding latest_number
  after-answer = (lent-right (given following sequence)).answer

  after-count : (lent_after (given following sequence)).count ≡ count_after given sequence
  unfolding latest_count
  after-count = (lent-right (given following sequence)).count

  -- what is answered after a refusal that leaves a state
  same_answer_lem : (other : Sequence) → state_after (given following sequence) ≡ state_after other
      → (lent_after (given following sequence)).answer
      ≡ numbered (number_after given sequence) (lent_after other).answer
  same_answer_lem other same =
      after-answer ∙
      ap (answer_of (number_after given sequence)) same ∙
      sym (numbered-answer (number_after given sequence) (latest_number other) (state_after other)) ∙
      ap (numbered (number_after given sequence)) (sym (lent-right other).answer)

-- DEMAND 1 in C's hands, after every sequence of calls and any further one.
pub demand_1_lent : (sequence : Sequence) (given : Given) → Demand1Lent sequence given
unfolding answer_of
demand_1_lent sequence given =
    let demand1 = demand_1_events sequence given in
    let demand4 = demand_4 sequence given in
    let ticked = tick_at given.event.time following sequence in
    record {
      number = ap (λ (answer : Answer). answer.number) (after-answer sequence given);
      demand1 = demand1;
      before = λ low. (
        (lent-right (given following sequence)).state ∙ (demand1.before low).0 ∙ sym (lent-right sequence).state,
        same_answer_lem sequence given sequence (demand1.before low).0,
        after-count sequence given ∙ demand4.none low,
      );
      after = λ high. (
        (lent-right (given following sequence)).state ∙ (demand1.after high).0 ∙ sym (lent-right ticked).state,
        same_answer_lem sequence given ticked (demand1.after high).0,
        after-count sequence given ∙
            demand4.ticks (λ low. omega (arith, low.most, high.least)) ∙
            sym (after-count sequence (tick_at given.event.time)),
      );
      taken = λ none.
          after-answer sequence given
          ∙ ap (λ (number : ℕ). answer_of number (state_after (given following sequence))) none
          ∙ (demand_2_answers (given following sequence)).answer accepted
          ∙ ap (answer_by accepted) (demand1.taken none);
    }

-- ---- by what has happened

latest_number-by : (sequence : Sequence) → latest_number sequence ≡ latest_by sequence
unfolding latest_number latest_by
latest_number-by (started profile) = refl
latest_number-by (given following earlier) = (happened earlier).number given

after-codes : (sequence : Sequence) → outgoing_codes (lent_after sequence).state ≡ codes_by (past_of sequence)
after-codes sequence = ap outgoing_codes (lent-right sequence).state ∙ (demand_2_answers sequence).outgoing

-- DEMAND 2 in C's hands, after every sequence of calls.
pub demand_2_lent : (sequence : Sequence) → Demand2Lent sequence
demand_2_lent sequence =
    record {
      answer =
          (lent-right sequence).answer
          ∙ (demand_2_answers sequence).answer (latest_number sequence)
          ∙ ap (λ (number : ℕ). answer_by number (past_of sequence)) (latest_number-by sequence);
      codes = after-codes sequence;
      words = ap outgoing_words (lent-right sequence).state ∙ (demand_2_answers sequence).words;
      frame = λ port event source before answer after write accepts.
          let written = port-written (lent_after sequence).state port event source before answer after write accepts in
          written.1
          ∙ ap (λ (code : ℕ). frame_octets source event code ++ drop written_length before)
          (ap (λ (codes : List ℕ). get_or codes port 0) (after-codes sequence)
          ∙ get_d_ports (code_by (past_of sequence)) 0 port (omega (arith, written.0)));
    }

-- DEMAND 3 in C's hands, after every sequence of calls.
pub demand_3_lent : (sequence : Sequence) → Demand3Lent sequence
unfolding answer_of
demand_3_lent sequence =
    record {
      state = (lent-right sequence).state;
      demand3 = demand_3 sequence;
      selected = ap (λ (answer : Answer). answer.selected) (lent-right sequence).answer;
      switchkind = ap (λ (answer : Answer). answer.switchkind) (lent-right sequence).answer;
      switchinput = ap (λ (answer : Answer). answer.switchinput) (lent-right sequence).answer;
    }

-- L4 in C's hands, after every sequence of calls and any further one.
pub demand_4_lent : (sequence : Sequence) (given : Given) → Demand4Lent sequence given
demand_4_lent sequence given =
    let demand4 = demand_4 sequence given in
    record {
      served = after-count sequence given ∙ demand4.exact;
      most = subst (λ (count : ℕ). count ≤ most_due) (sym (after-count sequence given)) demand4.most;
    }

-- ---- what is next due

module _ (sequence : Sequence) (time : ℕ) (later : (state_after sequence).time ≤ time) (below : time < time_limit)
    (before : time < next_due (state_after sequence)) where
  -- before it a tick moves the time alone
  pub moved : state_after (tick_at time following sequence)
      ≡ moved_to (state_after sequence) (state_after sequence).inputs time
  moved =
      let state = state_after sequence in
      let here : state.time + (time - state.time) ≡ time = omega arith in
      tick_state sequence time later below
      ∙ ticked-each state time (sequence-calm sequence) later (omega arith)
      ∙ each-before state (sequence-calm sequence) (time - state.time) (omega (arith, here))
      ∙ ap (moved_to state state.inputs) here

  accepts : number_after (tick_at time) sequence ≡ accepted
  unfolding number_after
  accepts =
      ap (λ (after : Stepped). after.number)
      (step-accepted (state_after sequence) (tick_at time).event []
      (tick_early (state_after sequence) time (read_code []) later below)
      (sym (late_refusal-other _ _ _ _ (λ k. omega arith) (λ k. omega arith))))

  quiet_answer : (lent_after (tick_at time following sequence)).answer ≡ numbered accepted (lent_after sequence).answer
  unfolding answer_of
  quiet_answer =
      after-answer sequence (tick_at time)
      ∙ ap (λ (number : ℕ). answer_of number (state_after (tick_at time following sequence))) accepts
      ∙ ap (answer_of accepted) moved
      ∙ sym (ap (numbered accepted) (lent-right sequence).answer)

  quiet_codes : outgoing_codes (lent_after (tick_at time following sequence)).state ≡
      outgoing_codes (lent_after sequence).state
  unfolding outgoing_codes
  quiet_codes =
      ap outgoing_codes (lent-right (tick_at time following sequence)).state
      ∙ ap outgoing_codes moved
      ∙ sym (ap outgoing_codes (lent-right sequence).state)

  quiet_words : outgoing_words (lent_after (tick_at time following sequence)).state ≡
      outgoing_words (lent_after sequence).state
  unfolding outgoing_words
  quiet_words =
      ap outgoing_words (lent-right (tick_at time following sequence)).state
      ∙ ap outgoing_words moved
      ∙ sym (ap outgoing_words (lent-right sequence).state)

-- L3 in C's hands, after every sequence of calls.
pub next-due-lent : (sequence : Sequence) → NextDueLent sequence
next-due-lent sequence =
    let due : next_due (lent_after sequence).state ≡ next_due (state_after sequence) =
    ap next_due (lent-right sequence).state in
    record {
      next = subst (NextRight (recorded sequence)) (sym due) (next-right sequence);
      answer = λ time later below before. quiet_answer sequence time later below (omega (arith, due));
      codes = λ time later below before. quiet_codes sequence time later below (omega (arith, due));
      words = λ time later below before. quiet_words sequence time later below (omega (arith, due));
    }

-- ---- what is known of an input

-- WHAT IS KNOWN OF AN INPUT in C's hands, after every sequence of calls.
pub status_lent : (sequence : Sequence) (input : ℕ) → StatusLent sequence input
unfolding ends_known input_known
status_lent sequence input =
    record {
      ends = λ within.
          rw (le-ltb last_input input within)
          (ap (λ (state : Selector). ends_of (input_status state input)) (lent-right sequence).state
          ∙ ap ends_of ((status_right sequence).each input (omega arith)));
      known = λ within.
          rw (le-ltb last_input input within)
          (ap (λ (state : Selector). known_of state.profile (input_status state input)) (lent-right sequence).state
          ∙ ap (λ (profile : Profile). known_of profile (input_status (state_after sequence) input))
          (sequence-agrees sequence).profile
          ∙ ap (known_of (profile_of (recorded sequence))) ((status_right sequence).each input (omega arith)));
    }
