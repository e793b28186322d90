-- The state as three lists of numbers, and the selector that they hold. Of each list sixteen numbers, one of each
-- input, stand for a field; behind them what stands once. Cited by `src/lib.rt`. Assumes nothing.
use Rattle.std.specs.Prelude.{ℕ, ◌+◌, ◌*◌, Bool, not, cond, List, map, eqb, ltb, get_or, set, Option, Some, None}
use Rattle.numbers.specs.declared.InputNumber.{InputNumber}
use Rattle.numbers.specs.declared.profile.Profile.{Profile}
use Rattle.numbers.specs.Inputs.{last_input}
use Rattle.numbers.specs.Quality.{quality}
use Rattle.numbers.specs.Kind.{input_kind_of}
use Rattle.numbers.specs.Profile.{profile_in}
use Rattle.run.specs.declared.Run.{Run}
use Rattle.input.specs.declared.Heard.{Heard}
use Rattle.input.specs.declared.Settings.{Settings}
use Rattle.input.specs.declared.Input.{Input}
use Rattle.input.specs.Record.{fresh_input}
use Rattle.switch.specs.declared.AfterChoice.{AfterChoice}
use Rattle.switch.specs.declared.Switch.{Switch}
use Rattle.switch.specs.declared.Switch.TheVariants as W
use Rattle.selector.specs.declared.Selector.{Selector}
use Rattle.selector.specs.Clock.{ports, switch_forced, switch_manual, selected_number, switch_number, switch_input}

-- a number that says yes: any but 0
abbrev pub is_set : ℕ → Bool
is_set number = not (eqb number 0)

-- the numbers of one input, by field
abbrev pub column : List ℕ → ℕ → ℕ → ℕ
column list at field = get_or list (at + 16 * field) 0

-- the numbers that stand once, behind a place
abbrev pub rest : List ℕ → ℕ → ℕ → ℕ
rest list from field = get_or list (from + field) 0

-- what an input heard, by its fields
abbrev pub heard_in : (ℕ → ℕ) → (ℕ → ℕ) → (ℕ → ℕ) → Heard
heard_in times small wider =
    record {
      framed = times 0;
      frame = quality (small 0);
      linequality = quality (small 1);
      last = wider 0;
      reports = small 2;
      signal = is_set (small 3);
    }

-- the run of an input, by its fields
abbrev pub run_in : (ℕ → ℕ) → (ℕ → ℕ) → Run
run_in times small =
    record { began = times 1; good = quality (small 4); failed = is_set (small 5); up = is_set (small 6) }

-- the settings of an input, by their fields
abbrev pub settings_in : (ℕ → ℕ) → (ℕ → ℕ) → Settings
settings_in small wider =
    record {
      holdoff = wider 1;
      wait = small 7;
      priority = record { 0 = small 8 };
      fixed = quality (small 9);
      floor = small 10;
      kind = input_kind_of (small 11);
      locked = is_set (small 12);
      sending = is_set (small 13);
    }

-- an input, by its fields
abbrev pub input_in : (ℕ → ℕ) → (ℕ → ℕ) → (ℕ → ℕ) → Input
input_in times small wider =
    record { heard = heard_in times small wider; run = run_in times small; settings = settings_in small wider }

-- an input of the state
unfoldable pub input_at : List ℕ → List ℕ → List ℕ → ℕ → Input
input_at times small wider at = input_in (column times at) (column small at) (column wider at)

-- "switch (00 none, 01 forced, 02 manual), its input", read back; any other kind is none, and one on no input too
unfoldable pub switch_of : ℕ → InputNumber → Switch
switch_of kind on =
    cond (ltb last_input on.0) W.Nothing
    (cond (eqb kind switch_forced) (W.Forced on)
    (cond (eqb kind switch_manual) (W.Manual on)
    W.Nothing))

-- what is selected, of whether anything is and its input; nothing where there is no such input
unfoldable pub selection_of : ℕ → InputNumber → Option InputNumber
selection_of selection number =
    cond (ltb last_input number.0) None
    (cond (eqb selection 0) None
    (Some number))

-- 1 where an input is selected
unfoldable pub is_selected : Option InputNumber → ℕ
is_selected None = 0
is_selected (Some number) = 1

-- a state, of its inputs and what stands once
abbrev pub selector_in : List Input → (ℕ → ℕ) → (ℕ → ℕ) → (ℕ → ℕ) → Selector
selector_in inputs times small wider =
    record {
      inputs = inputs;
      time = times 0;
      switch = switch_of (small 2) (record { 0 = small 3 });
      selection = selection_of (small 4) (record { 0 = small 5 });
      profile = profile_in (small 6) (small 7) (wider 0);
      mode = is_set (small 0);
      waslocked = is_set (small 1);
    }

-- the state that three lists hold
unfoldable pub selector_at : List ℕ → List ℕ → List ℕ → Selector
selector_at times small wider =
    selector_in (map (input_at times small wider) ports) (rest times 32) (rest small 224) (rest wider 32)

-- a state with other inputs
abbrev pub with_inputs : Selector → List Input → Selector
with_inputs state inputs =
    record {
      inputs = inputs;
      time = state.time;
      switch = state.switch;
      selection = state.selection;
      profile = state.profile;
      mode = state.mode;
      waslocked = state.waslocked;
    }

-- a state with another input in one place; where there is no such place, the state
abbrev pub with_input : Selector → ℕ → Input → Selector
with_input state at input = with_inputs state (set state.inputs at input)

-- an input whose last frame came at another time
abbrev pub framed_at : Input → ℕ → Input
framed_at input framed =
    record {
      heard =
          record {
            framed = framed;
            frame = input.heard.frame;
            linequality = input.heard.linequality;
            last = input.heard.last;
            reports = input.heard.reports;
            signal = input.heard.signal;
          };
      run = input.run;
      settings = input.settings;
    }

-- a state with such an input in one place
abbrev pub with_framed : Selector → ℕ → ℕ → Selector
with_framed state at framed = with_input state at (framed_at (get_or state.inputs at fresh_input) framed)

-- a state at another time
abbrev pub with_time : Selector → ℕ → Selector
with_time state time =
    record {
      inputs = state.inputs;
      time = time;
      switch = state.switch;
      selection = state.selection;
      profile = state.profile;
      mode = state.mode;
      waslocked = state.waslocked;
    }

-- a state of another profile
abbrev pub with_profile : Selector → Profile → Selector
with_profile state profile =
    record {
      inputs = state.inputs;
      time = state.time;
      switch = state.switch;
      selection = state.selection;
      profile = profile;
      mode = state.mode;
      waslocked = state.waslocked;
    }

-- a state with another quality mode and another switch
abbrev pub with_command : Selector → Bool → Switch → Selector
with_command state mode switch =
    record {
      inputs = state.inputs;
      time = state.time;
      switch = switch;
      selection = state.selection;
      profile = state.profile;
      mode = mode;
      waslocked = state.waslocked;
    }

-- a switch as it is held: none where it is on no input
abbrev pub held_switch : Switch → Switch
held_switch switch = switch_of (switch_number switch) (record { 0 = switch_input switch })

-- what a choice leaves, as it is held: no switch and no selection where there is no such input
abbrev pub held_choice : AfterChoice → AfterChoice
held_choice choice =
    record {
      switch = held_switch choice.switch;
      selection = selection_of (is_selected choice.selection) (record { 0 = selected_number choice.selection });
      waslocked = choice.waslocked;
    }
