-- Demand 3: "After every event of any sequence from a fresh start, refused ones included, the selection is right, by
-- eligibility worked out from the recorded events with no timers. A switch stands exactly as the document says."
-- Beside this page: `PassedAt`, the passed quality by recorded events alone, and the settings are in
-- `input/specs/Recorded`; `recorded` and `made_in`, the events recorded and the choices made in a sequence, in `Past`.
-- Assumes nothing.
use Rattle.std.specs.Prelude.{ℕ, ◌≤◌, ◌<◌, true, false, List, [], ◌∷◌, ◌⊎◌, ◌↔◌, ◌≢◌, ◌≡◌, Option, None}
use Rattle.numbers.specs.declared.InputNumber.{InputNumber}
use Rattle.numbers.specs.declared.quality.Quality.{Quality}
use Rattle.numbers.specs.Inputs.{input_count}
use Rattle.numbers.specs.Kind.{kind_forced, kind_manual}
use Rattle.numbers.specs.From.{profile_of}
use Rattle.numbers.specs.Profile.{prov_place_of}
use Rattle.numbers.specs.Quality.{failed}
use Rattle.input.specs.Recorded.{History, mode_on, priority_of, is_locked_out, floor_of, PassedAt}
use Rattle.choice.specs.Rank.{rank_of, Within}
use Rattle.choice.specs.Choice.{selected}
use Rattle.switch.specs.declared.Switch.{Switch}
use Rattle.switch.specs.declared.Switch.TheVariants as W
use Rattle.switch.specs.Choices.{forced_on, manual_on, Command, choices_ago}
use Rattle.events.specs.Sequence.{Sequence, state_after}
use Rattle.events.specs.Past.{Made, decided_by, recorded, made_in}

-- ---- eligible and better, by recorded events at a time

-- "priority not 0, not locked"
pub record Admitted (history : History) (number : ℕ) : Type 0 where
  pub is_input : number < input_count
  pub not_off : priority_of number history ≢ 0
  pub not_locked : is_locked_out number history ≡ false

-- "Eligible: priority not 0, not locked, passed quality not 7"; document 02, L9: "With quality mode on, eligible now
-- asks passed quality from 1 to the input's floor"; and L10: PROV that is placed "is usable if that number is smaller
-- than the input's floor"
pub record Eligible (history : History) (time number : ℕ) : Type 0 where
  pub admitted : Admitted history number
  pub quality : Quality
  pub passes : PassedAt number history time quality
  pub not_failed : quality ≢ failed
  pub usable : mode_on history ≡ true → Within (prov_place_of (profile_of history)) (floor_of number history) quality

-- "lower passed quality (mode on only)", by the ranking: by number, with PROV where it is placed
pub record LowerQuality (history : History) (time number other : ℕ) : Type 0 where
  pub mode : mode_on history ≡ true
  pub quality : Quality
  pub other_quality : Quality
  pub passes : PassedAt number history time quality
  pub other_passes : PassedAt other history time other_quality
  pub lower : (rank_of (prov_place_of (profile_of history)) quality).0
      < (rank_of (prov_place_of (profile_of history)) other_quality).0

-- the same passed quality, mode on; with mode off any two are alike
abbrev pub SameQuality : History → ℕ → ℕ → ℕ → Type 0
SameQuality history time number other =
    mode_on history ≡ true
    → (quality : Quality) × (PassedAt number history time quality × PassedAt other history time quality)

-- "Better: lower passed quality (mode on only), then lower priority number"
abbrev pub Better : History → ℕ → ℕ → ℕ → Type 0
Better history time number other =
    LowerQuality history time number other ⊎
    (SameQuality history time number other × (priority_of number history < priority_of other history))

-- ---- what is selected with no switch standing, where `before` was selected at the choice just before

pub record RightlyChosen (history : History) (time : ℕ) (before selection : Option InputNumber) : Type 0 where
  -- nothing exactly if no input is eligible
  pub nothing : (selection ≡ None) ↔ ((number : ℕ) → Eligible history time number → ⊥)
  -- the selected input is eligible
  pub eligible : (number : ℕ) → selection ≡ selected number → Eligible history time number
  -- and no eligible one is better
  pub best : (number other : ℕ) → selection ≡ selected number → Eligible history time other
      → Better history time other number → ⊥
  -- "Full equals: keep the one selected at the choice just before,
  pub kept : (number earlier : ℕ) → selection ≡ selected number → before ≡ selected earlier
      → Eligible history time earlier → (Better history time number earlier → ⊥)
      → number ≡ earlier
  -- otherwise lowest input number"
  pub lowest : (number other : ℕ) → selection ≡ selected number → before ≢ selected number
      → Eligible history time other → (Better history time number other → ⊥)
      → number ≤ other

-- ---- which switch stands, after the choices made, the latest first

-- the latest choice is such a one
abbrev pub Latest : (Made → Type 0) → List Made → Type 0
Latest Such [] = ⊥
Latest Such (choice ∷ earlier) = Such choice

-- a switch of a kind stands on an input: some choice follows its command; no later one follows a command to the switch;
-- and its input passes the switch's test at that choice and at every later one
pub record Stands (kind : ℕ) (Test : History → ℕ → ℕ → Type 0) (on : ℕ) (made : List Made) : Type 0 where
  pub count : ℕ
  pub given : Latest (λ choice. (choice.kind ≡ kind) × (choice.on ≡ on)) (choices_ago count made)
  pub unreplaced : (back : ℕ) → back < count
      → Latest (λ choice. Command choice.kind) (choices_ago back made) → ⊥
  pub unbroken : (back : ℕ) → back ≤ count
      → Latest (λ choice. Test choice.history choice.time on) (choices_ago back made)

-- "stands until cleared, replaced by another forced switch, or its input is off or locked"; a manual one is refused
-- while it stands
abbrev pub StandsForced : ℕ → List Made → Type 0
StandsForced = Stands kind_forced (λ history time number. Admitted history number)

-- "its input is eligible and, mode on, no eligible input has lower passed quality"
pub record Unsurpassed (history : History) (time number : ℕ) : Type 0 where
  pub eligible : Eligible history time number
  pub none : (other : ℕ) → Eligible history time other → LowerQuality history time other number → ⊥

-- "Manual: stands while its input is eligible and, mode on, no eligible input has lower passed quality; a newer manual
-- replaces it"
abbrev pub StandsManual : ℕ → List Made → Type 0
StandsManual = Stands kind_manual Unsurpassed

-- ---- the demand

-- the switch that stands and what is selected are right, by recorded events at a time, after the choices made
pub record RightlyDecided
    (history : History) (time : ℕ) (made : List Made) (switch : Switch) (before selection : Option InputNumber) : Type 0 where
  -- a switch stands exactly as said
  pub forced : (on : ℕ) → (switch ≡ forced_on on) ↔ StandsForced on made
  pub manual : (on : ℕ) → (switch ≡ manual_on on) ↔ StandsManual on made
  -- and selects its own input
  pub by_forced : (on : ℕ) → switch ≡ forced_on on → selection ≡ selected on
  pub by_manual : (on : ℕ) → switch ≡ manual_on on → selection ≡ selected on
  -- with no switch the choice is right
  pub chosen : switch ≡ W.Nothing → RightlyChosen history time before selection

-- what was selected at the choice just before the latest
abbrev pub selected_before : List Made → Option InputNumber
selected_before made = (decided_by (choices_ago 1 made)).selection

-- right at the latest of some choices, by what had been recorded then; before any, no switch and nothing selected
abbrev pub RightAt : List Made → Type 0
RightAt [] = ((decided_by []).switch ≡ W.Nothing) × ((decided_by []).selection ≡ None)
RightAt (choice ∷ earlier) =
    RightlyDecided choice.history choice.time (choice ∷ earlier) (decided_by (choice ∷ earlier)).switch
    (selected_before (choice ∷ earlier)) (decided_by (choice ∷ earlier)).selection

-- after a sequence of events, the empty one and one of refusals alone too
pub record Demand3 (sequence : Sequence) : Type 0 where
  -- what the state holds is right, by the recorded events at its time
  pub state :
      RightlyDecided (recorded sequence) (state_after sequence).time (made_in sequence) (state_after sequence).switch
      (selected_before (made_in sequence)) (state_after sequence).selection
  -- document 02, L3: "Demand 3 holds at every due moment": at each choice made on the way
  pub each : (back : ℕ) → RightAt (choices_ago back (made_in sequence))
