-- Document 02, L14: "A line under test must not matter. Technicians connect test sets to inputs that are off."
-- Assumes nothing.
use Rattle.std.specs.Prelude.{ℕ, Bool, true, ◌||◌, ◌⊎◌, ◌≡◌, eqb}
use Rattle.numbers.specs.declared.profile.Limits.{Limits}
use Rattle.numbers.specs.declared.profile.Profile.{Profile}
use Rattle.numbers.specs.From.{started, ◌following◌, profile_of}
use Rattle.numbers.specs.Kind.{kind_lockout, kind_holdoff, kind_wait, kind_fixed_quality, kind_clear_wait, kind_floor, kind_tick}
use Rattle.numbers.specs.Profile.{limits_of}
use Rattle.numbers.specs.Refusal.{accepted}
use Rattle.input.specs.Recorded.{priority_of}
use Rattle.events.specs.Sequence.{Given, Sequence, state_after, number_after}
use Rattle.events.specs.Past.{recorded}
use Rattle.events.specs.Extra.{answer_after, codes_after, words_after}
use Rattle.unit.specs.Unit.{is_report}

-- "signal, code, word and frame events on that input"; in option I a word is no report, and is never accepted
pub record ReportOn (limits : Limits) (input : ℕ) (given : Given) : Type 0 where
  pub report : is_report limits given.event.kind ≡ true
  pub on : given.event.input ≡ input

-- a command that sets nothing that shows of an input that is off: lockout, hold-off, wait, fixed quality, clear wait and
-- floor; the priority is what puts it off, and sending shows in the codes
abbrev pub is_hidden : ℕ → Bool
is_hidden kind =
    eqb kind kind_lockout || eqb kind kind_holdoff || eqb kind kind_wait || eqb kind kind_fixed_quality ||
    eqb kind kind_clear_wait || eqb kind kind_floor

-- beyond the sentence: such a command on that input
pub record HiddenCommandOn (input : ℕ) (given : Given) : Type 0 where
  pub hidden : is_hidden given.event.kind ≡ true
  pub here : given.event.input ≡ input

-- one of a pair: a report on that input, or such a command; or neither, and a tick stands in its place, "of the same
-- length"
abbrev pub OnLine : Limits → ℕ → Given → Type 0
OnLine limits input given =
    ReportOn limits input given ⊎ HiddenCommandOn input given ⊎ (given.event.kind ≡ kind_tick)

-- two such events, each after a sequence of its own: "each pair at the same time and accepted in both"; they may be of
-- two kinds
pub record Pair (input : ℕ) (one : Given) (earlier : Sequence) (other : Given) (otherEarlier : Sequence) : Type 0 where
  pub in_one : OnLine (limits_of (profile_of earlier)) input one
  pub in_other : OnLine (limits_of (profile_of otherEarlier)) input other
  pub time : one.event.time ≡ other.event.time
  pub number : number_after one earlier ≡ accepted
  pub other_number : number_after other otherEarlier ≡ accepted

-- "two event sequences of the same length .., equal but for signal, code, word and frame events on that input"
pub data EqualButFor (input : ℕ) : Sequence → Sequence → Type 0 where
  -- both start fresh, with one profile
  begun : (profile : Profile) → EqualButFor input (started profile) (started profile)
  -- the same event follows in both
  equal : (given : Given) (earlier otherEarlier : Sequence) → EqualButFor input earlier otherEarlier
      → EqualButFor input (given following earlier) (given following otherEarlier)
  -- a pair follows
  paired : (one other : Given) (earlier otherEarlier : Sequence) → Pair input one earlier other otherEarlier
      → EqualButFor input earlier otherEarlier
      → EqualButFor input (one following earlier) (other following otherEarlier)

-- "an input has priority 0 throughout": after every event
abbrev pub OffThroughout : ℕ → Sequence → Type 0
OffThroughout input (started profile) = Unit {0}
OffThroughout input (given following earlier) =
    (priority_of input (recorded (given following earlier)) ≡ 0) × OffThroughout input earlier

-- the two answer lines, the switches and all sixteen outgoing codes are equal after an event, the words of option II
-- too; "Counts of L4 are left out of this"
pub record NothingShows (one : Given) (earlier : Sequence) (other : Given) (otherEarlier : Sequence) : Type 0 where
  pub number : number_after one earlier ≡ number_after other otherEarlier
  pub answer : answer_after one earlier ≡ answer_after other otherEarlier
  pub switch : (state_after (one following earlier)).switch ≡ (state_after (other following otherEarlier)).switch
  pub codes : codes_after one earlier ≡ codes_after other otherEarlier
  pub words : words_after one earlier ≡ words_after other otherEarlier

-- "equal after every event"
abbrev pub NothingEverShows : Sequence → Sequence → Type 0
NothingEverShows (started profile) (started other) = Unit {0}
NothingEverShows (started profile) (other following otherEarlier) = ⊥
NothingEverShows (one following earlier) (started profile) = ⊥
NothingEverShows (one following earlier) (other following otherEarlier) =
    NothingShows one earlier other otherEarlier × NothingEverShows earlier otherEarlier
