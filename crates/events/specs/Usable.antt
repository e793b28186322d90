-- Documents 01 and 02 (L9, L10), on the clock: whether something usable is selected, by what has happened alone; and
-- what holds of it after any sequence of events. Assumes nothing.
use Rattle.std.specs.Prelude.{ℕ, ◌≤◌, true, ◌↔◌, ◌≢◌, List, map, ◌≡◌}
use Rattle.numbers.specs.declared.quality.Quality.{Quality}
use Rattle.numbers.specs.From.{profile_of}
use Rattle.numbers.specs.Profile.{limits_of, prov_place_of, last_prov_place}
use Rattle.numbers.specs.Quality.{prov, dus, invalid, failed}
use Rattle.numbers.specs.Refusal.{accepted}
use Rattle.input.specs.Recorded.{History, mode_on, floor_of, fixed_of, time_of, PassedAt}
use Rattle.choice.specs.Rank.{Within}
use Rattle.choice.specs.Choice.{selected}
use Rattle.switch.specs.Choices.{choices_ago, Locked}
use Rattle.selector.specs.Clock.{free_run, holdover, locked}
use Rattle.selector.specs.Answer.{answer_of}
use Rattle.events.specs.Sequence.{Sequence, state_after}
use Rattle.events.specs.Past.{Made, Past, seen, decided_by, past_of, recorded, made_in}
use Rattle.events.specs.Demand3.{StandsForced}

-- ---- usable

-- the selected input and its passed quality
pub record SelectedPasses (past : Past) (number : ℕ) (passed : Quality) : Type 0 where
  pub is_selected : (decided_by past.made).selection ≡ selected number
  pub passes : PassedAt number past.history (time_of past.history) passed

-- "usable": "1 to 4 with mode on, not 7 with mode off"; L9: to the input's floor; L10: with PROV at its place
pub record UsableFrom (history : History) (number : ℕ) (passed : Quality) : Type 0 where
  pub not_failed : passed ≢ failed
  pub within : mode_on history ≡ true → Within (prov_place_of (profile_of history)) (floor_of number history) passed

-- "an input is selected and its passed quality is usable"
pub record SomethingUsable (past : Past) : Type 0 where
  pub number : ℕ
  pub passed : Quality
  pub is_selected : SelectedPasses past number passed
  pub usable : UsableFrom past.history number passed

-- "nothing usable is selected"
abbrev pub NothingUsable : Past → Type 0
NothingUsable past = SomethingUsable past → ⊥

-- ---- the clock is locked exactly then

-- "it was locked after any earlier choice"
abbrev pub EverLocked : List Made → Type 0
EverLocked made = (back : ℕ) × Locked (choices_ago back (map seen made))

-- the clock state that is answered after a sequence of events
abbrev pub clock_state_after : Sequence → ℕ
clock_state_after sequence = (answer_of accepted (state_after sequence)).clockstate

-- after a sequence of events
pub record LockedExactly (sequence : Sequence) : Type 0 where
  -- "02 locked if an input is selected and its passed quality is usable ..;
  pub locks : (clock_state_after sequence ≡ locked) ↔ SomethingUsable (past_of sequence)
  -- otherwise 01 holdover if it was locked after any earlier choice,
  pub holds : NothingUsable (past_of sequence) → EverLocked (made_in sequence) → clock_state_after sequence ≡ holdover
  -- 00 free run if not"
  pub free : NothingUsable (past_of sequence) → (EverLocked (made_in sequence) → ⊥) → clock_state_after sequence ≡ free_run
  -- L9: "so a forced switch onto an input below its floor gives holdover", with mode on: nothing usable is selected
  pub below : (on : ℕ) → StandsForced on (made_in sequence) → mode_on (recorded sequence) ≡ true
      → ((passed : Quality) → PassedAt on (recorded sequence) (time_of (recorded sequence)) passed
      → Within (prov_place_of (profile_of (recorded sequence))) (floor_of on (recorded sequence)) passed → ⊥)
      → NothingUsable (past_of sequence)

-- ---- what is never usable

-- an input after a sequence of events
pub record NeverUsable (sequence : Sequence) (number : ℕ) : Type 0 where
  -- "a floor 1 to 4", in option II "Floors run 1 to 8"; "fixed quality 1 to 5 or none", "1 to 10", none is 0
  pub floor_least : 1 ≤ floor_of number (recorded sequence)
  pub floor_most : floor_of number (recorded sequence) ≤ (limits_of (profile_of sequence)).floor
  pub fixed_most : fixed_of number (recorded sequence) ≤ (limits_of (profile_of sequence)).fixed
  -- "PROV is not usable unless the operator places it"; so it is with mode on
  pub unplaced : mode_on (recorded sequence) ≡ true → prov_place_of (profile_of sequence) ≡ 0
      → UsableFrom (recorded sequence) number prov
      → ⊥
  -- "is usable if that number is smaller than the input's floor": no floor is above 8
  pub placed_last : mode_on (recorded sequence) ≡ true → last_prov_place ≤ prov_place_of (profile_of sequence)
      → UsableFrom (recorded sequence) number prov
      → ⊥
  -- DUS and invalid are above every floor
  pub do_not_use : mode_on (recorded sequence) ≡ true → UsableFrom (recorded sequence) number dus → ⊥
  pub not_valid : mode_on (recorded sequence) ≡ true → UsableFrom (recorded sequence) number invalid → ⊥
