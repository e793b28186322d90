-- Document 01, "The sixteen inputs" and "Choosing": the state, and what a choice and a tick make of it. Cited by
-- `src/lib.rt`. Assumes nothing.
use Rattle.std.specs.Prelude.{ℕ, Bool, true, false, List, map, replicate, None}
use Rattle.numbers.specs.Inputs.{input_count}
use Rattle.numbers.specs.declared.profile.Profile.{Profile}
use Rattle.numbers.specs.Profile.{limits_of, prov_place_of, floor_in}
use Rattle.input.specs.declared.Input.{Input}
use Rattle.input.specs.Record.{fresh_input, input_brought_to, passed_of}
use Rattle.choice.specs.declared.Candidate.{Candidate}
use Rattle.choice.specs.declared.Seen.{Seen}
use Rattle.choice.specs.Candidate.{candidate_of}
use Rattle.switch.specs.declared.AfterChoice.{AfterChoice}
use Rattle.switch.specs.declared.Switch.TheVariants as W
use Rattle.switch.specs.OneChoice.{decide}
use Rattle.selector.specs.declared.Selector.{Selector}

-- "The selector starts at time 0, quality mode on, no switch, nothing selected"; "A profile chosen once"
abbrev pub fresh_selector : Profile → Selector
fresh_selector profile =
    record {
      inputs = replicate input_count fresh_input;
      time = 0;
      switch = W.Nothing;
      selection = None;
      profile = profile;
      mode = true;
      waslocked = false;
    }

-- what a choice looks at of an input
abbrev pub seen_of : Input → Seen
seen_of input =
    record {
      passed = passed_of input;
      priority = input.settings.priority;
      floor = input.settings.floor;
      locked = input.settings.locked;
    }

-- an input as a choice sees it
unfoldable pub candidate_for : Profile → Bool → Input → Candidate
candidate_for profile mode input =
    candidate_of (prov_place_of profile) (floor_in (limits_of profile).freerunning input.settings.floor)
    (passed_of input)
    input.settings.priority
    input.settings.locked
    mode

-- what a choice looks at of all inputs
abbrev pub candidates_of : Profile → List Input → Bool → List Candidate
candidates_of profile inputs mode = map (candidate_for profile mode) inputs

-- what a choice looks at of all inputs of a state
abbrev pub seen_all : Selector → List Candidate
seen_all state = candidates_of state.profile state.inputs state.mode

-- the state with what a choice leaves
abbrev pub with_choice : Selector → AfterChoice → Selector
with_choice state choice =
    record {
      inputs = state.inputs;
      time = state.time;
      switch = choice.switch;
      selection = choice.selection;
      profile = state.profile;
      mode = state.mode;
      waslocked = choice.waslocked;
    }

-- what the switch judged and the choice made come to
abbrev pub after_choice : Selector → AfterChoice
after_choice state =
    decide (candidates_of state.profile state.inputs state.mode) state.switch
    state.selection state.waslocked

-- "the switch judged, the choice made"
unfoldable pub decided : Selector → Selector
decided state = with_choice state (after_choice state)

-- the state with all inputs brought to a time
abbrev pub all_brought_to : Selector → ℕ → Selector
all_brought_to state time =
    record {
      inputs = map (λ (input : Input). input_brought_to input time state.mode) state.inputs;
      time = time;
      switch = state.switch;
      selection = state.selection;
      profile = state.profile;
      mode = state.mode;
      waslocked = state.waslocked;
    }

-- "a tick at its time (all passed qualities brought up to date, the switch judged, the choice made)"
unfoldable pub ticked_once : Selector → ℕ → Selector
ticked_once state time = decided (all_brought_to state time)
