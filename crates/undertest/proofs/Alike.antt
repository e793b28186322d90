-- Two states that differ in one input alone, and there in no setting that shows of an input that is off: while it is, a
-- choice and a tick leave two such states again. Assumes nothing.
use Prim.Native.Nat.{ℕ, zero, suc, ◌-◌, ◌≤◌, ◌<◌}
use mathlib.Core.Bool.{Bool, false}
use mathlib.Core.List.{List, [], ◌∷◌, map}
use mathlib.Core.Path.{◌≡◌, refl, sym, ◌∙◌, ap, subst}
use mathlib.Core.Logic.{◌⊎◌, inl, inr}
use native.Mathlib.Omega.{arith}
use native.Mathlib.Decide.{ℕ_discrete}
use lib.ListN.{get_or, set}
use lib.Seq.{get_or-set_other, set-set, set-get_or}
use Rattle.numbers.specs.declared.profile.Profile.{Profile}
use Rattle.numbers.specs.declared.kind.InputKind.{InputKind}
use Rattle.numbers.specs.declared.Priority.{Priority}
use Rattle.input.specs.declared.Input.{Input}
use Rattle.input.specs.declared.Settings.{Settings}
use Rattle.input.specs.Record.{fresh_input, input_brought_to}
use Rattle.choice.specs.declared.Candidate.{Candidate}
use Rattle.choice.specs.Candidate.{nobody, is_admitted, candidate_of}
use Rattle.selector.specs.declared.Selector.{Selector}
use Rattle.selector.specs.State.{candidate_for, candidates_of, with_choice, decided, all_brought_to}
use Rattle.selector.specs.State as State
use Rattle.due.specs.Next.{never}
use Rattle.due.specs.Served.{ticked}
use Rattle.due.specs.Each.{state_is_due, one_more, each}
use Rattle.due.proofs.Calm.{moved_to, Calm}
use Rattle.due.proofs.Each.{one_more-due, one_more-brought, one_more-inputs, calm-one_more, calm-each}
use Rattle.due.proofs.ServesEachDue.{ticked-each}
use Rattle.numbers.proofs.Truth.{by_bool}
use Rattle.undertest.proofs.Candidates.{Barred, SameAdmitted, decide-same}

-- ---- lists

pub map-set : {A B : Type 0} (f : A → B) (list : List A) (number : ℕ) (x : A)
    → map f (set list number x) ≡ set (map f list) number (f x)
map-set f [] number x = refl
map-set f (y ∷ list) zero x = refl
map-set f (y ∷ list) (suc number) x = ap (λ (rest : List _). f y ∷ rest) (map-set f list number x)

-- of the settings of an input that is off, what shows: the priority itself, its kind by what is refused with 7, and
-- whether it sends by the codes and words
pub record Shown : Type 0 where
  pub priority : Priority
  pub kind : InputKind
  pub sending : Bool

abbrev pub shown_of : Settings → Shown
shown_of settings = record { priority = settings.priority; kind = settings.kind; sending = settings.sending }

-- of an input of some
abbrev pub shown_at : List Input → ℕ → Shown
shown_at inputs number = shown_of (get_or inputs number fresh_input).settings

-- another record of which the same shows changes nothing that shows
pub set-shown : (inputs : List Input) (input : ℕ) (line : Input) → shown_of line.settings ≡ shown_at inputs input
    → (number : ℕ)
    → shown_at (set inputs input line) number ≡ shown_at inputs number
set-shown [] input line same number = refl
set-shown (x ∷ inputs) zero line same zero = same
set-shown (x ∷ inputs) zero line same (suc number) = refl
set-shown (x ∷ inputs) (suc input) line same zero = refl
set-shown (x ∷ inputs) (suc input) line same (suc number) = set-shown inputs input line same number

-- nor does what changes no settings of any
pub map-shown : (f : Input → Input) → ((input : Input) → (f input).settings ≡ input.settings) → (inputs : List Input)
    → (number : ℕ)
    → shown_at (map f inputs) number ≡ shown_at inputs number
map-shown f keeps [] number = refl
map-shown f keeps (x ∷ inputs) zero = ap shown_of (keeps x)
map-shown f keeps (x ∷ inputs) (suc number) = map-shown f keeps inputs number

-- ---- one input that is off

-- "priority 0"
abbrev pub Off : ℕ → List Input → Type 0
Off input inputs = (shown_at inputs input).priority.0 ≡ 0

-- where the same shows it is off again
pub off_as : (input : ℕ) (inputs others : List Input) → shown_at others input ≡ shown_at inputs input
    → Off input inputs
    → Off input others
off_as input inputs others same off = ap (λ (shown : Shown). shown.priority.0) same ∙ off

-- it is not admitted
pub off_barred : (profile : Profile) (mode : Bool) (inputs : List Input) (input : ℕ) → Off input inputs
    → (get_or (candidates_of profile inputs mode) input nobody).admitted ≡ false
unfolding candidate_for candidate_of is_admitted
off_barred profile mode [] input off = refl
off_barred profile mode (x ∷ inputs) zero off = rw off
off_barred profile mode (x ∷ inputs) (suc input) off = off_barred profile mode inputs input off

-- ---- two states

-- the state with another record of one input
abbrev pub with_record : ℕ → Input → Selector → Selector
with_record input line state = moved_to state (set state.inputs input line) state.time

-- they differ in one input alone, and there in nothing that shows
pub record AlikeButAt (input : ℕ) (one other : Selector) : Type 0 where
  pub line : Input
  pub shown : shown_of line.settings ≡ shown_at one.inputs input
  pub same : other ≡ with_record input line one

-- a state is like itself
pub alike_itself : (input : ℕ) (state : Selector) → AlikeButAt input state state
alike_itself input state =
    record {
      line = get_or state.inputs input fresh_input;
      shown = refl;
      same =
          sym (ap (λ (inputs : List Input). moved_to state inputs state.time)
          (set-get_or state.inputs input fresh_input));
    }

-- and like another that is like it
pub alike-back : (input : ℕ) (one other : Selector) → AlikeButAt input one other → AlikeButAt input other one
alike-back input one other alike =
    record {
      line = line;
      shown =
          sym (ap (λ (state : Selector). shown_at state.inputs input) alike.same ∙
          set-shown one.inputs input alike.line alike.shown input);
      same =
          sym (ap (with_record input line) alike.same ∙
          ap (λ (inputs : List Input). moved_to one inputs one.time)
          (set-set one.inputs input alike.line line ∙ set-get_or one.inputs input fresh_input));
    }
  where
    line : Input
    line = get_or one.inputs input fresh_input

-- what is like one of the two is like the other
pub alike-on : (input : ℕ) (one other third : Selector) → AlikeButAt input one other → AlikeButAt input other third
    → AlikeButAt input one third
alike-on input one other third first second =
    record {
      line = second.line;
      shown =
          second.shown ∙
          ap (λ (state : Selector). shown_at state.inputs input) first.same ∙
          set-shown one.inputs input first.line first.shown input;
      same =
          second.same ∙
          ap (with_record input second.line) first.same ∙
          ap (λ (inputs : List Input). moved_to one inputs one.time)
          (set-set one.inputs input first.line second.line);
    }

module _ (input : ℕ) (line : Input) (state : Selector)
    (shown : shown_of line.settings ≡ shown_at state.inputs input) where
  module _ (off : Off input state.inputs) where
    -- what a choice looks at differs in nothing that is admitted
    pub candidates-same :
        SameAdmitted (candidates_of state.profile state.inputs state.mode)
        (candidates_of state.profile (set state.inputs input line) state.mode)
    candidates-same number = go (ℕ_discrete number input)
      where
        go : Dec (number ≡ input)
            → (get_or (candidates_of state.profile state.inputs state.mode) number nobody ≡
            get_or (candidates_of state.profile (set state.inputs input line) state.mode) number nobody) ⊎
            Barred (get_or (candidates_of state.profile state.inputs state.mode) number nobody)
            (get_or (candidates_of state.profile (set state.inputs input line) state.mode) number nobody)
        go (yes here) =
            inr (record {
              first = rw here (off_barred state.profile state.mode state.inputs input off);
              second =
                  rw here
                  (off_barred state.profile state.mode (set state.inputs input line) input
                  (off_as input state.inputs (set state.inputs input line)
                  (set-shown state.inputs input line shown input)
                  off));
            })
        go (no there) =
            inl (sym
            (ap (λ (candidates : List Candidate). get_or candidates number nobody)
            (map-set (candidate_for state.profile state.mode) state.inputs input line) ∙
            get_or-set_other (candidates_of state.profile state.inputs state.mode) input number
            (candidate_for state.profile state.mode line)
            nobody
            there))

    pub decided-with : decided (with_record input line state) ≡ with_record input line (decided state)
    unfolding decided
    decided-with =
        ap (with_choice (with_record input line state))
        (sym (decide-same _ _ candidates-same state.switch state.selection state.waslocked))

  pub brought-with : (time : ℕ)
      → all_brought_to (with_record input line state) time ≡
      with_record input (input_brought_to line time state.mode) (all_brought_to state time)
  brought-with time = λ j.
      moved_to state (map-set (λ (other : Input). input_brought_to other time state.mode) state.inputs input line j)
      time

-- the input is off in both or in neither
pub alike-off : (input : ℕ) (one other : Selector) → AlikeButAt input one other → Off input one.inputs
    → Off input other.inputs
alike-off input one other alike =
    off_as input one.inputs other.inputs
    (ap (λ (state : Selector). shown_at state.inputs input) alike.same ∙
    set-shown one.inputs input alike.line alike.shown input)

-- ---- a choice, and time going by

input_brought_to-keeps : (time : ℕ) (mode : Bool) (input : Input)
    → (input_brought_to input time mode).settings ≡ input.settings
unfolding input_brought_to
input_brought_to-keeps time mode input = refl

pub brought-shown : (state : Selector) (time number : ℕ)
    → shown_at (all_brought_to state time).inputs number ≡ shown_at state.inputs number
brought-shown state time number =
    map-shown (λ (x : Input). input_brought_to x time state.mode) (input_brought_to-keeps time state.mode)
    state.inputs number

pub alike-decided : (input : ℕ) (one other : Selector) → AlikeButAt input one other → Off input one.inputs
    → AlikeButAt input (decided one) (decided other)
unfolding decided
alike-decided input one other alike off =
    record {
      line = alike.line;
      shown = alike.shown;
      same = ap decided alike.same ∙ decided-with input alike.line one alike.shown off;
    }

alike-brought : (input : ℕ) (one other : Selector) → AlikeButAt input one other → (time : ℕ)
    → AlikeButAt input (all_brought_to one time) (all_brought_to other time)
alike-brought input one other alike time =
    record {
      line = input_brought_to alike.line time one.mode;
      shown =
          ap shown_of (input_brought_to-keeps time one.mode alike.line) ∙ alike.shown ∙
          sym (brought-shown one time input);
      same =
          ap (λ (state : Selector). all_brought_to state time) alike.same ∙
          brought-with input alike.line one alike.shown time;
    }

alike-ticked_once : (input : ℕ) (one other : Selector) → AlikeButAt input one other → Off input one.inputs
    → (time : ℕ)
    → AlikeButAt input (State.ticked_once one time) (State.ticked_once other time)
unfolding State.ticked_once
alike-ticked_once input one other alike off time =
    alike-decided input (all_brought_to one time) (all_brought_to other time) (alike-brought input one other alike time)
    (off_as input one.inputs (all_brought_to one time).inputs (brought-shown one time input) off)

-- a millisecond more is a choice more, due or not: where nothing is due it changes nothing
one_more-ticked_once : (state : Selector) → Calm state → one_more state ≡ State.ticked_once state (suc state.time)
unfolding State.ticked_once
one_more-ticked_once state calm =
    by_bool (state_is_due state (suc state.time))
    (one_more-due state)
    (λ e. sym (calm-one_more state calm).chosen ∙ ap decided (one_more-brought state e))

each-shown : (count : ℕ) (state : Selector) (number : ℕ)
    → shown_at (each count state).inputs number ≡ shown_at state.inputs number
unfolding each
each-shown zero state number = refl
each-shown (suc count) state number =
    ap (λ (inputs : List Input). shown_at inputs number) (one_more-inputs (each count state)) ∙
    brought-shown (each count state) (suc (each count state).time) number ∙
    each-shown count state number

-- so where a millisecond is due in one alone, by the line under test, its choice changes nothing
alike-one_more : (input : ℕ) (one other : Selector) → AlikeButAt input one other → Off input one.inputs → Calm one
    → Calm other
    → AlikeButAt input (one_more one) (one_more other)
alike-one_more input one other alike off calm otherCalm =
    let time : other.time ≡ one.time = ap (λ (state : Selector). state.time) alike.same in
    subst (λ (after : Selector). AlikeButAt input after (one_more other)) (sym (one_more-ticked_once one calm))
    (subst (AlikeButAt input (State.ticked_once one (suc one.time)))
    (sym (one_more-ticked_once other otherCalm ∙ ap (λ (from : ℕ). State.ticked_once other (suc from)) time))
    (alike-ticked_once input one other alike off (suc one.time)))

alike-each : (input : ℕ) (one other : Selector) → AlikeButAt input one other → Off input one.inputs → Calm one
    → Calm other
    → (count : ℕ)
    → AlikeButAt input (each count one) (each count other)
unfolding each
alike-each input one other alike off calm otherCalm zero = alike
alike-each input one other alike off calm otherCalm (suc count) =
    alike-one_more input (each count one) (each count other)
    (alike-each input one other alike off calm otherCalm count)
    (off_as input one.inputs (each count one).inputs (each-shown count one input) off)
    (calm-each count one calm)
    (calm-each count other otherCalm)

-- a tick, with all that it serves
pub alike-served : (input : ℕ) (one other : Selector) → AlikeButAt input one other → Off input one.inputs → Calm one
    → Calm other
    → (time : ℕ) → one.time ≤ time → time < never
    → AlikeButAt input (ticked one time) (ticked other time)
alike-served input one other alike off calm otherCalm time later ever =
    let same : other.time ≡ one.time = ap (λ (state : Selector). state.time) alike.same in
    let count : time - other.time ≡ time - one.time = ap (λ (from : ℕ). time - from) same in
    rw (
      ticked-each one time calm later ever,
      ticked-each other time otherCalm (omega arith) ever,
      count,
    )
    (alike-each input one other alike off calm otherCalm (time - one.time))

pub ticked-shown : (state : Selector) → Calm state → (time : ℕ) → state.time ≤ time → time < never → (number : ℕ)
    → shown_at (ticked state time).inputs number ≡ shown_at state.inputs number
ticked-shown state calm time later ever number =
    ap (λ (after : Selector). shown_at after.inputs number) (ticked-each state time calm later ever) ∙
    each-shown (time - state.time) state number
