-- What the program carries from line to line: a law for each way through. Assumes nothing.
use Prim.Native.Nat.{ℕ, ◌≤◌, ◌<◌, max}
use mathlib.Core.Bool.{Bool, true, false}
use mathlib.Core.List.{List}
use mathlib.Core.Path.{◌≡◌, ◌∙◌, ap}
use borrow.Author.Tests.{lt-ltb, le-ltb, le-leb, lt-leb, eq-eqb, ne_eqb}
use lib.Dec.{eqb, leb}
use lib.ListN.{get_or, replicate}
use Rattle.std.proofs.Common.{Option, Some, None}
use Rattle.numbers.specs.declared.Answer.{Answer}
use Rattle.numbers.specs.declared.profile.ProvPlace.{ProvPlace}
use Rattle.numbers.specs.Kind.{kind_sending}
use Rattle.eventlog.specs.declared.LineRead.{LineRead}
use Rattle.selector.specs.declared.Selector.{Selector}
use Rattle.selector.specs.Answer.{answer_of, outgoing_codes}
use Rattle.logline.specs.Plain.{no_option}
use Rattle.logline.specs.Watched.{LogWatch, fresh_log}
use Rattle.lane.specs.declared.Lane.{Lane}
use Rattle.lane.specs.Lane.{capped, fresh_lane}
use Rattle.lanes.specs.declared.View.{View}
use Rattle.lanes.specs.Value.{answer_value, code_value}
use Rattle.verdictlines.specs.declared.Question.{Question}
use Rattle.verdictlines.specs.declared.Shows.{Shows}
use Rattle.verdictlines.specs.Told.{spans_since, spans_told_all}
use Rattle.verdictlines.specs.Carried.{fresh_bench}
use Rattle.verdictlines.specs.Bench.{Bench, whole_told, shown_by, right_at, may_show, is_sound, closed_after, is_early, sets_sending, may_change_by, shows_after, happened_after, is_told}

pub shown_by-made : (view : View) (state : Selector) (codes : List ℕ) (answer : Answer) (value : ℕ)
    → codes ≡ outgoing_codes state
    → answer ≡ answer_of 0 state
    → value ≡ answer_value view answer
    → record { codes = codes; value = value } ≡ shown_by view state
shown_by-made view state codes answer value c a v = λ j.
    record { codes = c j; value = (v ∙ ap (answer_value view) a) j }

module _ (view : View) (shows : Shows) (number : ℕ) where
  pub right_at-code : view.codes ≡ true → number < 16 → get_or shows.codes number 0 ≡ right_at view shows number
  unfolding right_at code_value
  right_at-code t h = rw (t, lt-ltb number 16 h)

  pub right_at-none : view.codes ≡ true → 16 ≤ number → 0 ≡ right_at view shows number
  unfolding right_at code_value
  right_at-none t h = rw (t, le-ltb number 16 h)

  pub right_at-answer : view.codes ≡ false → shows.value ≡ right_at view shows number
  unfolding right_at
  right_at-answer t = rw t

module _ (option : ℕ) (lane : Lane) (time border : ℕ) (happened : Bool) (last : ℕ) where
  pub is_sound-option : option ≡ no_option → false ≡ is_sound option lane time border happened last
  unfolding is_sound
  is_sound-option e = rw (eq-eqb option no_option e)

  module _ (n : option ≡ no_option → ⊥) (may : Bool) (m : may ≡ may_show lane time) where
    pub is_sound-early : may ≡ false → false ≡ is_sound option lane time border happened last
    unfolding is_sound
    is_sound-early f = rw (ne_eqb option no_option n, ← m, f)

    pub is_sound-closed : may ≡ true → happened ≡ true
        → leb last border ≡ is_sound option lane time border happened last
    unfolding is_sound
    is_sound-closed t h = rw (ne_eqb option no_option n, ← m, t, h)

    pub is_sound_open : may ≡ true → happened ≡ false → true ≡ is_sound option lane time border happened last
    unfolding is_sound
    is_sound_open t h = rw (ne_eqb option no_option n, ← m, t, h)

module _ (closed border : ℕ) where
  pub closed_after-on : (behind : ℕ) → closed ≤ border → behind ≡ capped border 1 → behind ≡ closed_after closed border
  unfolding closed_after
  closed_after-on behind h b = rw (le-leb closed border h) b

  pub closed_after-same : border < closed → closed ≡ closed_after closed border
  unfolding closed_after
  closed_after-same h = rw (lt-leb closed border h)

module _ (read : Option LineRead) where
  pub sets_sending-event : (said : LineRead) → read ≡ Some said
      → eqb said.event.kind kind_sending ≡ sets_sending read
  unfolding sets_sending
  sets_sending-event said is = rw is

  pub sets_sending-malformed : read ≡ None → false ≡ sets_sending read
  unfolding sets_sending
  sets_sending-malformed is = rw is

  pub may_change-first : (first anew : Bool) → first ≡ true → true ≡ may_change_by first anew read
  unfolding may_change_by
  may_change-first first anew t = rw t

  pub may_change-anew : (first anew : Bool) → first ≡ false → anew ≡ true → true ≡ may_change_by first anew read
  unfolding may_change_by
  may_change-anew first anew f t = rw (f, t)

  pub may_change-sent : (first anew sets : Bool) → first ≡ false → anew ≡ false → sets ≡ sets_sending read
      → sets ≡ may_change_by first anew read
  unfolding may_change_by
  may_change-sent first anew sets f g e = rw (f, g) e

module _ (view : View) (changes : Bool) (before : Shows) (state : Selector) where
  pub shows_after-anew : (shows : Shows) → changes ≡ true → shows ≡ shown_by view state
      → shows ≡ shows_after view changes before state
  unfolding shows_after
  shows_after-anew shows t e = rw t e

  pub shows_after-same : changes ≡ false → before ≡ shows_after view changes before state
  unfolding shows_after
  shows_after-same f = rw f

module _ (number : ℕ) (early : Bool) (e : early ≡ is_early number) where
  pub happened-early : (happened : Bool) → early ≡ true → happened ≡ happened_after happened number
  unfolding happened_after
  happened-early happened t = rw (← e, t)

  pub happened-now : (happened : Bool) → early ≡ false → true ≡ happened_after happened number
  unfolding happened_after
  happened-now happened f = rw (← e, f)

  module _ (changes late : Bool) where
    pub told-early : early ≡ true → false ≡ is_told changes number late
    unfolding is_told
    told-early t = rw (← e, t)

    pub told-late : early ≡ false → late ≡ true → false ≡ is_told changes number late
    unfolding is_told
    told-late f t = rw (← e, f, t)

    pub told-changed : early ≡ false → late ≡ false → changes ≡ is_told changes number late
    unfolding is_told
    told-changed f g = rw (← e, f, g)

-- what is carried before any line, by its parts
pub fresh-made : (view : View) (provplace : ProvPlace) (marks : ℕ) (lane : Lane) (log : LogWatch) (shows : Shows)
    → lane ≡ fresh_lane
    → log ≡ fresh_log provplace marks
    → shows ≡ shown_by view log.watch.state
    → record {
      log = log;
      lanes = replicate 16 lane;
      since = 0;
      shows = shows;
      happened = false;
      closed = 0;
      line = 0;
      trouble = false;
    }
    ≡ fresh_bench view provplace marks
fresh-made view provplace marks lane log shows a l s = λ j.
    record {
      log = l j;
      lanes = replicate 16 (a j);
      since = 0;
      shows = (s ∙ ap (λ (one : LogWatch). shown_by view one.watch.state) l) j;
      happened = false;
      closed = 0;
      line = 0;
      trouble = false;
    }

-- what the lanes are told up to beyond the end, by the sums that the code makes
pub whole-made : (question : Question) (bench : Bench) (room : List ℕ) (end behind time until : ℕ)
    → end ≡ capped question.tolerance.end question.tolerance.early
    → behind ≡ capped end 1
    → time ≡ bench.log.watch.state.time
    → until ≡ max behind time
    → spans_told_all question (spans_since bench.log.watch.state bench.since until) bench.lanes room
    ≡ whole_told question bench room
unfolding whole_told
whole-made question bench room end behind time until e b t u =
    ap
    (λ (n : ℕ). spans_told_all question (spans_since bench.log.watch.state bench.since n) bench.lanes room)
    (u ∙ (λ j. max ((b ∙ ap (λ (n : ℕ). capped n 1) e) j) (t j)))

pub ruleset bench-laws = (shown_by-made, right_at-code, right_at-none, right_at-answer, is_sound-option, is_sound-early, is_sound-closed, is_sound_open, closed_after-on, closed_after-same, sets_sending-event, sets_sending-malformed, may_change-first, may_change-anew, may_change-sent, shows_after-anew, shows_after-same, happened-early, happened-now, told-early, told-late, told-changed)
