-- One choice by what one scan of the inputs finds: the one that leads, and what a choice sees of the switch's input.
-- Cited by `src/lib.rt`; `decide_by-decide`: it is the choice of `OneChoice`. Assumes nothing.
use Prim.{Unit}
use Rattle.std.specs.Prelude.{Bool, true, false, ◌&&◌, cond, List, leb, ltb, Option, Some, None}
use Rattle.numbers.specs.declared.InputNumber.{InputNumber}
use Rattle.numbers.specs.Inputs.{input_count}
use Rattle.choice.specs.declared.Candidate.{Candidate}
use Rattle.choice.specs.declared.Leader.{Leader}
use Rattle.choice.specs.declared.Rank.{Rank}
use Rattle.choice.specs.Candidate.{is_eligible}
use Rattle.choice.specs.Leader.{SeenAt}
use Rattle.switch.specs.declared.Switch.{Switch}
use Rattle.switch.specs.declared.Switch.TheVariants as W
use Rattle.switch.specs.declared.AfterChoice.{AfterChoice}
use Rattle.switch.specs.OneChoice.{was_locked}

-- "its input is eligible and, mode on, no eligible input has lower passed quality": the best has not
unfoldable pub may_stand : Candidate → Rank → Bool
may_stand own best = is_eligible own && leb own.rank.0 best.0

-- the switch judged
unfoldable pub judged_by : Switch → Candidate → Rank → Switch
judged_by W.Nothing own best = W.Nothing
judged_by (W.Forced on) own best = cond (ltb on.0 input_count && own.admitted) (W.Forced on) W.Nothing
judged_by (W.Manual on) own best = cond (ltb on.0 input_count && may_stand own best) (W.Manual on) W.Nothing

-- the switch's input, or the choice
unfoldable pub selected_from : Switch → Option InputNumber → Option InputNumber
selected_from W.Nothing chosen = chosen
selected_from (W.Forced on) chosen = Some on
selected_from (W.Manual on) chosen = Some on

-- an input is chosen
unfoldable pub any_selected : Option InputNumber → Bool
any_selected None = false
any_selected (Some number) = true

-- "locked if an input is selected and its passed quality is usable"; that of the choice is
unfoldable pub is_locked_by : Switch → Candidate → Option InputNumber → Bool
is_locked_by W.Nothing own chosen = any_selected chosen
is_locked_by (W.Forced on) own chosen = own.usable
is_locked_by (W.Manual on) own chosen = own.usable

-- "the switch judged, the choice made"
unfoldable pub decide_by : Switch → Candidate → Leader → Bool → AfterChoice
decide_by switch own leader waslocked =
    let standing = judged_by switch own leader.rank in
    record {
      switch = standing;
      selection = selected_from standing leader.selection;
      waslocked = was_locked waslocked (is_locked_by standing own leader.selection);
    }

-- a candidate is what a choice sees of the switch's input, where there is one
abbrev pub SeenOn : List Candidate → Switch → Candidate → Type 0
SeenOn candidates W.Nothing own = Unit {0}
SeenOn candidates (W.Forced on) own = SeenAt candidates on own
SeenOn candidates (W.Manual on) own = SeenAt candidates on own
