-- The inputs that a unit names stay among the sixteen, so that C may index by what it reads. Assumes nothing.
use Prim.Native.Nat.{ℕ, ◌≤◌}
use mathlib.Core.Bool.{Bool, true, false, cond}
use mathlib.Core.List.{List, []}
use mathlib.Core.Logic.{◌≢◌, inr}
use mathlib.Core.Path.{◌≡◌, refl}
use lib.Dec.{ltb}
use Rattle.numbers.specs.declared.Event.{Event}
use Rattle.numbers.specs.Kind.{kind_frame}
use Rattle.numbers.specs.Refusal.{accepted}
use Rattle.numbers.proofs.Truth.{flag-most}
use Rattle.frame.specs.declared.FrameRead.{FrameRead}
use Rattle.frame.specs.Read.{read_code}
use Rattle.selector.specs.declared.Selector.{Selector}
use Rattle.selector.specs.Clock.{no_input}
use Rattle.selector.specs.Answer.{answer_of}
use Rattle.events.specs.Given.{tick_at}
use Rattle.onestep.specs.Watched.{watch_at}
use Rattle.unit.specs.declared.Half.{Half}
use Rattle.unit.specs.Kept.{Unit, half_step, step_unit_read, squelched_by}
use Rattle.card.specs.Lent.{event_of, read_for}
use Rattle.card.specs.Range.{IsInput, InRange}
use Rattle.card.proofs.Range.{Named, selector_at_named, step_read_named, read_for-unread, answer_in_range}
use Rattle.unitcard.specs.Lent.{LentUnit, station_half, half_in, squelched_in, source_in, sent_by, unit_in, unit_held, lent_at, step_lent_unit}
use Rattle.unitcard.specs.Range.{AnyLentUnit}

-- what both selectors of a unit name are inputs
record NamedUnit (unit : Unit) : Type 0 where
  equipment : Named unit.equipment
  station : Named unit.station

-- of any unit in C's hands
unit_in_named : (times small wider due told stationTimes stationSmall stationWider stationDue stationTold sent : List ℕ)
    → NamedUnit
    (unit_in (lent_at times small wider due told stationTimes stationSmall stationWider stationDue stationTold sent))
unfolding lent_at watch_at
unit_in_named times small wider due told stationTimes stationSmall stationWider stationDue stationTold sent =
    record {
      equipment = selector_at_named times small wider;
      station = selector_at_named stationTimes stationSmall stationWider;
    }

-- a step of a half leaves such a state
half_step_named : (state : Selector) (goes : Bool) (event : Event) (read : FrameRead) → Named state
    → Named (half_step state goes event read).state
unfolding half_step
half_step_named state true event read named =
    step_read_named _ event read (step_read_named state (tick_at event.time).event (read_code []) named)
half_step_named state false event read named = step_read_named state (tick_at event.time).event (read_code []) named

step_unit_read_named : (unit : Unit) (to : Half) (event : Event) (read : FrameRead) → NamedUnit unit
    → NamedUnit (step_unit_read unit to event read).unit
unfolding step_unit_read
step_unit_read_named unit to event read named =
    record {
      equipment = half_step_named unit.equipment _ event read named.equipment;
      station = half_step_named unit.station _ event read named.station;
    }

-- ---- what C reads

told_or_none : (squelched : Bool) (number : ℕ) → IsInput number → IsInput (cond squelched no_input number)
told_or_none true number is = inr refl
told_or_none false number is = is

-- what C may read of a unit
record Reads (lent : LentUnit) : Type 0 where
  equipment : InRange lent.equipment.answer
  station : InRange lent.station.answer
  source : IsInput (source_in lent)
  squelched : squelched_in lent ≤ 1

unit_held-reads : (equipment station : ℕ) (unit : Unit) → NamedUnit unit → Reads (unit_held equipment station unit)
unfolding unit_held sent_by
unit_held-reads equipment station unit named =
    let answer = answer_of accepted unit.station in
    let squelched = squelched_by answer unit.station.mode unit.station.profile unit.minimum in
    record {
      equipment = answer_in_range equipment unit.equipment named.equipment;
      station = answer_in_range station unit.station named.station;
      source =
          told_or_none squelched answer.selected (answer_in_range accepted unit.station named.station).selected;
      squelched = flag-most squelched;
    }

either-reads : (test : Bool) (one other : LentUnit) → Reads one → Reads other → Reads (cond test one other)
either-reads true one other first second = first
either-reads false one other first second = second

step-reads : (lent : LentUnit) (half kind time input argument : ℕ) (frame : List ℕ) → NamedUnit (unit_in lent)
    → Reads (step_lent_unit lent half kind time input argument frame)
unfolding step_lent_unit
step-reads lent half kind time input argument frame named =
    let event = event_of kind time input argument in
    either-reads (ltb station_half half) _ _ (unit_held-reads _ _ (unit_in lent) named)
    (unit_held-reads _ _ _ (step_unit_read_named (unit_in lent) (half_in half) event (read_for kind frame) named))

step-unread : (lent : LentUnit) (half kind time input argument : ℕ) (frame other : List ℕ) → kind ≢ kind_frame
    → step_lent_unit lent half kind time input argument frame ≡ step_lent_unit lent half kind time input argument other
unfolding step_lent_unit
step-unread lent half kind time input argument frame other none = rw (read_for-unread kind frame other none)

-- Whatever unit came in, C may index by what it reads; and what is lent beside another event than a frame changes
-- nothing.
pub any-lent-unit :
    (times small wider due told stationTimes stationSmall stationWider stationDue stationTold sent : List ℕ)
    (half kind time input argument : ℕ) (frame : List ℕ)
    → AnyLentUnit times small wider due told stationTimes stationSmall stationWider stationDue stationTold sent
    half kind time input argument frame
any-lent-unit times small wider due told stationTimes stationSmall stationWider stationDue stationTold sent
    half kind time input argument frame =
    let lent = lent_at times small wider due told stationTimes stationSmall stationWider stationDue stationTold sent in
    let reads = step-reads lent half kind time input argument frame
    (unit_in_named times small wider due told stationTimes stationSmall stationWider stationDue stationTold sent) in
    record {
      in_range =
          record {
            equipment = reads.equipment;
            station = reads.station;
            source = reads.source;
            squelched = reads.squelched;
            unread = λ other lends. step-unread lent half kind time input argument frame lends other;
          };
    }
