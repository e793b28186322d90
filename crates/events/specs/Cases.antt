-- Document 02, L4: the ceiling of 48 is reached. Sixteen Ethernet inputs, good one after the other with quality mode
-- off; a frame for each at 299,000 and on; then mode on. A tick at 700,000 meets sixteen ends of a wait (300,000 and
-- on), sixteen expiries (304,000 and on) and sixteen ends of a hold-off (304,300 and on). Assumes nothing.
use Rattle.std.specs.Prelude.{ℕ, ◌+◌, List, [], ◌∷◌, ◌++◌, map, ◌≡◌}
use Rattle.numbers.specs.declared.profile.Profile.TheVariants as P
use Rattle.numbers.specs.From.{started, ◌following◌}
use Rattle.numbers.specs.Kind.{kind_signal, kind_frame, kind_quality_mode, kind_tick, kind_input_kind}
use Rattle.frame.specs.Cases.{frame_of_size}
use Rattle.events.specs.Sequence.{Given, Sequence, count_after}
use Rattle.events.specs.Due.{most_due}

-- an event with no frame
abbrev pub plain : ℕ → ℕ → ℕ → ℕ → Given
plain kind time input argument =
    record { event = record { kind = kind; time = time; input = input; argument = argument }; frame = [] }

-- a frame for an input
abbrev pub framed : ℕ → ℕ → Given
framed time input =
    record { event = record { kind = kind_frame; time = time; input = input; argument = 0 }; frame = frame_of_size 60 }

-- the sixteen inputs, the last first: sequences have the latest event first
abbrev pub last_first : List ℕ
last_first = 15 ∷ 14 ∷ 13 ∷ 12 ∷ 11 ∷ 10 ∷ 9 ∷ 8 ∷ 7 ∷ 6 ∷ 5 ∷ 4 ∷ 3 ∷ 2 ∷ 1 ∷ 0 ∷ []

-- events given one after the other, the latest first
unfoldable pub all_following : List Given → Sequence → Sequence
all_following [] earlier = earlier
all_following (given ∷ before) earlier = given following all_following before earlier

abbrev pub sixteen_inputs : Sequence
sixteen_inputs =
    all_following
    (plain kind_quality_mode 299015 0 1 ∷
    map (λ (input : ℕ). framed (299000 + input) input) last_first ++
    map (λ (input : ℕ). plain kind_signal input input 0) last_first ++
    map (λ (input : ℕ). plain kind_input_kind 0 input 1) last_first ++
    plain kind_quality_mode 0 0 0 ∷ [])
    (started P.OptionOne)

-- 48 is reached
pub record MostReached : Type 0 where
  pub reached : count_after (plain kind_tick 700000 0 0) sixteen_inputs ≡ most_due
