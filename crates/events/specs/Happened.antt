-- What the code keeps, and the numbers that it answers, are what has happened, after any sequence of events.
-- Assumes nothing.
use Rattle.std.specs.Prelude.{ℕ, ◌<◌, List, [], ◌∷◌, map, ◌≡◌, get_or}
use Rattle.numbers.specs.declared.quality.Quality.{Quality}
use Rattle.numbers.specs.From.{started, profile_of}
use Rattle.numbers.specs.Profile.{prov_place_of}
use Rattle.numbers.specs.Inputs.{input_count}
use Rattle.input.specs.Recorded.{History, mode_on, time_of, priority_of, is_locked_out, floor_of, PassedAt, Ordered}
use Rattle.choice.specs.Candidate.{nobody, candidate_of}
use Rattle.switch.specs.Choices.{WasLockedRight}
use Rattle.events.specs.Sequence.{Given, Sequence, state_after, number_after}
use Rattle.events.specs.Past.{Made, candidates_by, seen, decided_by, number_by, past_of, recorded, made_in}

-- the latest choice was made on the inputs as the recorded events show them at a time; with none made, nothing is
-- recorded
abbrev pub MadeAt : History → ℕ → List Made → Type 0
MadeAt history time [] = history ≡ started (profile_of history)
MadeAt history time (choice ∷ earlier) = candidates_by choice.history choice.time ≡ candidates_by history time

-- after a sequence of events
pub record Happened (sequence : Sequence) : Type 0 where
  -- the number of any event that comes now is the one that document 01 gives, by what has happened
  pub number : (given : Given) → number_after given sequence ≡ number_by (past_of sequence) given
  -- the recorded events have times that do not fall, and the state is at the time of the last of them
  pub ordered : Ordered (recorded sequence)
  pub time : (state_after sequence).time ≡ time_of (recorded sequence)
  -- the profile is the one that was chosen at the fresh start
  pub profile : (state_after sequence).profile ≡ profile_of sequence
  pub recorded_profile : profile_of (recorded sequence) ≡ profile_of sequence
  -- what the state holds is what the choices made come to
  pub switch : (state_after sequence).switch ≡ (decided_by (made_in sequence)).switch
  pub selection : (state_after sequence).selection ≡ (decided_by (made_in sequence)).selection
  pub waslocked : (state_after sequence).waslocked ≡ (decided_by (made_in sequence)).waslocked
  -- the latest of them was made at the state's time
  pub made_at : MadeAt (recorded sequence) (state_after sequence).time (made_in sequence)
  -- what a choice looks at is by the passed quality that document 01 states of the recorded events, now and at the tick
  -- of an event to come; there is always one, and one only (`demand_2_passed-quality`)
  pub eligibility : (time number : ℕ) → number < input_count → (quality : Quality)
      → PassedAt number (recorded sequence) time quality
      → get_or (candidates_by (recorded sequence) time) number nobody ≡
      candidate_of (prov_place_of (profile_of (recorded sequence))) (floor_of number (recorded sequence)) quality
      (record { 0 = priority_of number (recorded sequence) })
      (is_locked_out number (recorded sequence))
      (mode_on (recorded sequence))
  -- the clock has been locked exactly if it was after one of the choices made
  pub was_locked_right : WasLockedRight (map seen (made_in sequence))
