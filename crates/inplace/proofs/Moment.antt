-- One moment in place, call by call. Assumes nothing.
use Prim.{tt}
use Prim.Native.Nat.{ℕ}
use mathlib.Core.Bool.{Bool, true, false}
use mathlib.Core.List.{List, map}
use mathlib.Core.Path.{◌≡◌, ap, ◌∙◌}
use lib.ListN.{length, get_or, replicate}
use Rattle.std.specs.Prelude.{Option, None}
use Rattle.numbers.specs.declared.InputNumber.{InputNumber}
use Rattle.input.specs.declared.Input.{Input}
use Rattle.numbers.specs.declared.profile.Profile.{Profile}
use Rattle.input.specs.Record.{fresh_input, input_brought_to}
use Rattle.choice.specs.declared.Candidate.{Candidate}
use Rattle.choice.specs.declared.Leader.{Leader}
use Rattle.choice.specs.Candidate.{nobody}
use Rattle.choice.specs.Leader.{chosen_among}
use Rattle.switch.specs.declared.AfterChoice.{AfterChoice}
use Rattle.switch.specs.declared.Switch.{Switch}
use Rattle.switch.specs.declared.Switch.TheVariants as W
use Rattle.switch.specs.OneChoice.{decide}
use Rattle.switch.specs.OneScan.{decide_by, SeenOn}
use Rattle.selector.specs.declared.Selector.{Selector}
use Rattle.selector.specs.Clock.{selected_number, switch_number, switch_input}
use Rattle.selector.proofs.Scanning.{decided-one}
use Rattle.selector.specs.State.{seen_all, fresh_selector, with_choice, decided, ticked_once}
use Rattle.inplace.specs.Lists.{switch_of, selection_of, is_selected, selector_at, with_inputs, with_time, with_profile, with_command, held_switch, held_choice}
use Rattle.inplace.proofs.Named.{On, switch_of-on, choice-again}

-- the switch that lists hold is on an input
pub switch-on : (times small wider : List ℕ) → On (selector_at times small wider).switch
unfolding selector_at
switch-on times small wider = switch_of-on _ _

-- what a choice sees of a switch's input
switch-seen : (candidates : List Candidate) (switch : Switch) (own : Candidate)
    → own ≡ get_or candidates (switch_input switch) nobody → SeenOn candidates switch own
unfolding switch_input
switch-seen candidates W.Nothing own o = tt
switch-seen candidates (W.Forced on) own o = λ inside. o
switch-seen candidates (W.Manual on) own o = λ inside. o

-- a choice made of what a state on an input has, and held
pub chosen : (state after : Selector) (choice : AfterChoice) (switch : Switch) (selection : Option InputNumber) (waslocked : Bool)
    (number : ℕ) (own : Candidate) (leader : Leader)
    → On state.switch
    → length state.inputs ≡ 16
    → after ≡ with_choice state (held_choice choice)
    → choice ≡ decide_by switch own leader waslocked
    → leader ≡ chosen_among (seen_all state) selection
    → own ≡ get_or (seen_all state) number nobody
    → number ≡ switch_input switch
    → switch ≡ state.switch → selection ≡ state.selection → waslocked ≡ state.waslocked
    → after ≡ decided state
unfolding decided
chosen state after choice switch selection waslocked number own leader on sixteen stored c l o n s e h =
    stored ∙
    ap (with_choice state)
    (ap held_choice
    (made ∙ (λ j. decide (seen_all state) (s j) (e j) (h j))) ∙
    choice-again (seen_all state) state.switch state.selection state.waslocked on)
  where
    made : choice ≡ decide (seen_all state) switch selection waslocked
    made =
        decided-one state.profile state.mode state.inputs switch selection waslocked own leader choice
        (switch-seen (seen_all state) switch own (o ∙ ap (λ x. get_or (seen_all state) x nobody) n))
        l
        c
        sixteen

-- inputs brought to a time, the time stored, a choice made
pub moment : (state brought timed after : Selector) (time : ℕ) (mode : Bool)
    → mode ≡ state.mode
    → brought ≡ with_inputs state (map (λ (input : Input). input_brought_to input time mode) state.inputs)
    → timed ≡ with_time brought time
    → after ≡ decided timed
    → after ≡ ticked_once state time
unfolding ticked_once
moment state brought timed after time mode m b t d =
    d ∙
    ap decided
    (t ∙ ap (λ (one : Selector). with_time one time) b ∙
    (λ j.
    with_time
    (with_inputs state (map (λ (input : Input). input_brought_to input time (m j)) state.inputs))
    time))

-- a fresh state stored part by part
pub fresh-stored : (state inputs timed commanded chosen after : Selector) (profile : Profile)
    → inputs ≡ with_inputs state (replicate 16 fresh_input)
    → timed ≡ with_time inputs 0
    → commanded ≡ with_command timed true (held_switch W.Nothing)
    → chosen
    ≡ with_choice commanded (held_choice (record { switch = W.Nothing; selection = None; waslocked = false }))
    → after ≡ with_profile chosen profile
    → after ≡ fresh_selector profile
unfolding switch_of selection_of is_selected switch_number switch_input selected_number
fresh-stored state inputs timed commanded chosen after profile i t d c p =
    p ∙
    ap (λ (one : Selector). with_profile one profile)
    (c ∙
    ap
    (λ (one : Selector). with_choice one
    (held_choice (record { switch = W.Nothing; selection = None; waslocked = false })))
    (d ∙
    ap (λ (one : Selector). with_command one true (held_switch W.Nothing))
    (t ∙ ap (λ (one : Selector). with_time one 0) i)))
