-- A choice by one scan is the choice of `specs/OneChoice`. Assumes nothing.
use Prim.Native.Nat.{ℕ, ◌≤◌, ◌<◌}
use mathlib.Core.Bool.{Bool, true, false}
use mathlib.Core.List.{List}
use mathlib.Core.Path.{◌≡◌, refl, ap, sym}
use native.Mathlib.Omega.{arith}
use lib.Dec.{ltb}
use lib.ListN.{length, get_or, get_or-eq_default}
use borrow.Author.Tests.{ltb-true, ltb-false}
use Rattle.std.specs.Prelude.{Option, Some, None}
use Rattle.numbers.proofs.Truth.{by_bool, both-second}
use Rattle.numbers.specs.declared.InputNumber.{InputNumber}
use Rattle.numbers.specs.Inputs.{input_count}
use Rattle.choice.specs.declared.Candidate.{Candidate}
use Rattle.choice.specs.declared.Leader.{Leader}
use Rattle.choice.specs.Candidate.{nobody, is_eligible, eligible_among, better_among}
use Rattle.choice.specs.Choice.{choose}
use Rattle.choice.specs.Leader.{chosen_among}
use Rattle.choice.proofs.Leading.{leader-selection, choice-eligible, choice-lowest}
use Rattle.switch.specs.declared.Switch.{Switch}
use Rattle.switch.specs.declared.Switch.TheVariants as W
use Rattle.switch.specs.OneChoice.{manual_may_stand, judged, selected_by, is_clock_locked, was_locked, decide}
use Rattle.switch.specs.OneScan.{may_stand, judged_by, selected_from, any_selected, is_locked_by, decide_by, SeenOn}
use Rattle.switch.proofs.OneChoiceLaws.{after_of}

eligible-usable : (candidate : Candidate) → is_eligible candidate ≡ true → candidate.usable ≡ true
unfolding is_eligible
eligible-usable candidate e = both-second candidate.admitted candidate.usable e

-- what is selected is usable, where all that can be is eligible
any-locked : (candidates : List Candidate) (selection : Option InputNumber)
    → ((number : InputNumber) → selection ≡ Some number → eligible_among candidates number.0 ≡ true)
    → any_selected selection ≡ is_clock_locked candidates selection
unfolding any_selected is_clock_locked
any-locked candidates None eligible = refl
any-locked candidates (Some number) eligible =
    sym (eligible-usable (get_or candidates number.0 nobody) (eligible number refl))

module _ (candidates : List Candidate) (before : Option InputNumber) where
  abbrev leader : Leader
  leader = chosen_among candidates before

  abbrev choice : Option InputNumber
  choice = choose (eligible_among candidates) (better_among candidates) before

  -- where no switch stands
  nothing-stands : (waslocked : Bool)
      → after_of W.Nothing leader.selection (was_locked waslocked (any_selected leader.selection))
      ≡ after_of W.Nothing choice (was_locked waslocked (is_clock_locked candidates choice))
  nothing-stands waslocked =
      rw (
        leader-selection candidates choice,
        any-locked candidates choice (choice-eligible candidates before),
      )

  -- a manual switch may stand on one of the sixteen
  stands_alike : (number : ℕ) → number < input_count
      → may_stand (get_or candidates number nobody) leader.rank ≡ manual_may_stand candidates number
  unfolding may_stand manual_may_stand
  stands_alike number inside =
      by_bool (is_eligible (get_or candidates number nobody))
      (λ e. rw (e, choice-lowest candidates before number inside e))
      (λ e. rw e)

  module _ (count : length candidates ≡ input_count) where
    outside : (number : ℕ) → ltb number input_count ≡ false → get_or candidates number nobody ≡ nobody
    outside number x =
        let k : length candidates ≤ number = omega (arith, count, ltb-false number input_count x) in
        get_or-eq_default candidates nobody k

    manual-outside : (number : ℕ) → ltb number input_count ≡ false → manual_may_stand candidates number ≡ false
    unfolding manual_may_stand is_eligible
    manual-outside number x = rw (outside number x)

    module _ (on : InputNumber) (own : Candidate) (waslocked : Bool) (is : own ≡ get_or candidates on.0 nobody)
        (inside : ltb on.0 input_count ≡ true) where
      forced-stands : (get_or candidates on.0 nobody).admitted ≡ true
          → decide_by (W.Forced on) own leader waslocked ≡ decide candidates (W.Forced on) before waslocked
      unfolding decide_by decide judged_by judged selected_from selected_by is_locked_by is_clock_locked
      forced-stands a = rw (is, inside, a)

      manual-stands : manual_may_stand candidates on.0 ≡ true
          → decide_by (W.Manual on) own leader waslocked ≡ decide candidates (W.Manual on) before waslocked
      unfolding decide_by decide judged_by judged selected_from selected_by is_locked_by is_clock_locked
      manual-stands a = rw (is, inside, stands_alike on.0 (ltb-true on.0 input_count inside), a)

    -- the choice by one scan is the choice
    pub decide_by-decide : (switch : Switch) (own : Candidate) (waslocked : Bool) → SeenOn candidates switch own
        → decide_by switch own leader waslocked ≡ decide candidates switch before waslocked
    unfolding decide_by decide judged_by judged selected_from selected_by is_locked_by
    decide_by-decide W.Nothing own waslocked seen = nothing-stands waslocked
    decide_by-decide (W.Forced on) own waslocked seen =
        by_bool (ltb on.0 input_count)
        (λ x. let is = seen (ltb-true on.0 input_count x) in
        by_bool (get_or candidates on.0 nobody).admitted
        (λ a. forced-stands on own waslocked is x a)
        (λ a. rw (is, x, a) (nothing-stands waslocked)))
        (λ x. let off : (get_or candidates on.0 nobody).admitted ≡ false =
        ap (λ (candidate : Candidate). candidate.admitted) (outside on.0 x) in
        rw (x, off) (nothing-stands waslocked))
    decide_by-decide (W.Manual on) own waslocked seen =
        by_bool (ltb on.0 input_count)
        (λ x. let is = seen (ltb-true on.0 input_count x) in
        by_bool (manual_may_stand candidates on.0)
        (λ a. manual-stands on own waslocked is x a)
        (λ a. rw (is, x, stands_alike on.0 (ltb-true on.0 input_count x), a) (nothing-stands waslocked)))
        (λ x. rw (x, manual-outside on.0 x) (nothing-stands waslocked))
