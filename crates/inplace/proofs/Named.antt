-- What a choice leaves names inputs alone, so that it is found again. Assumes nothing.
use Prim.Native.Nat.{ℕ, ◌<◌}
use mathlib.Core.Bool.{Bool, true, false, cond}
use mathlib.Core.List.{List}
use mathlib.Core.Path.{◌≡◌, refl}
use native.Mathlib.Omega.{arith}
use lib.Dec.{eqb, ltb}
use borrow.Author.Tests.{ltb-false, le-ltb}
use Rattle.std.specs.Prelude.{Option, Some, None}
use Rattle.numbers.specs.declared.InputNumber.{InputNumber}
use Rattle.numbers.specs.Inputs.{last_input, input_count}
use Rattle.numbers.specs.Kind.{kind_forced, kind_manual, kind_clear_switch}
use Rattle.numbers.proofs.Truth.{by_bool}
use Rattle.choice.specs.declared.Candidate.{Candidate}
use Rattle.choice.specs.Candidate.{eligible_among, better_among}
use Rattle.choice.proofs.Choosing.{Inside, choose-inside}
use Rattle.switch.specs.declared.Switch.{Switch}
use Rattle.switch.specs.declared.Switch.TheVariants as W
use Rattle.switch.specs.OneChoice.{forced_may_stand, manual_may_stand, judged, selected_by, decide}
use Rattle.switch.specs.Choices.{commanded}
use Rattle.selector.specs.Clock.{selected_number, switch_number, switch_input}
use Rattle.inplace.specs.Lists.{switch_of, selection_of, is_selected, held_switch, held_choice}

-- ---- what names an input

-- a switch is on one of the inputs
abbrev pub On : Switch → Type 0
On W.Nothing = Unit {0}
On (W.Forced on) = on.0 < input_count
On (W.Manual on) = on.0 < input_count

pub kept_on : (test : Bool) (switch : Switch) → On switch → On (cond test switch W.Nothing)
kept_on true switch on = on
kept_on false switch on = tt

pub switch_of-on : (kind : ℕ) (on : InputNumber) → On (switch_of kind on)
unfolding switch_of
switch_of-on kind on =
    by_bool (ltb last_input on.0) (λ past. rw past tt)
    (λ there. rw there
    (go (eqb kind 1) (eqb kind 2) (omega (arith, ltb-false last_input on.0 there))))
  where
    go : (forced manual : Bool) → on.0 < input_count
        → On (cond forced (W.Forced on) (cond manual (W.Manual on) W.Nothing))
    go true manual few = few
    go false manual few = kept_on manual (W.Manual on) few

pub selection_of-inside : (selection : ℕ) (number : InputNumber) → Inside (selection_of selection number)
unfolding selection_of
selection_of-inside selection number =
    by_bool (ltb last_input number.0) (λ past. rw past tt)
    (λ there. rw there (go (eqb selection 0) (omega (arith, ltb-false last_input number.0 there))))
  where
    go : (none : Bool) → number.0 < input_count → Inside (cond none None (Some number))
    go true few = tt
    go false few = few

-- ---- a choice

pub judged-on : (candidates : List Candidate) (switch : Switch) → On switch → On (judged candidates switch)
unfolding judged
judged-on candidates W.Nothing on = tt
judged-on candidates (W.Forced number) on = kept_on (forced_may_stand candidates number.0) (W.Forced number) on
judged-on candidates (W.Manual number) on = kept_on (manual_may_stand candidates number.0) (W.Manual number) on

pub selected_by-inside : (candidates : List Candidate) (switch : Switch) (before : Option InputNumber) → On switch
    → Inside (selected_by candidates switch before)
unfolding selected_by
selected_by-inside candidates W.Nothing before on =
    choose-inside (eligible_among candidates) (better_among candidates) before
selected_by-inside candidates (W.Forced number) before on = on
selected_by-inside candidates (W.Manual number) before on = on

pub commanded-on : (kind number : ℕ) (switch : Switch) → number < input_count → On switch
    → On (commanded kind number switch)
unfolding commanded
commanded-on kind number switch few on = go (eqb kind kind_forced) (eqb kind kind_manual) (eqb kind kind_clear_switch)
  where
    go : (forced manual clears : Bool)
        → On
        (cond forced (W.Forced (record { 0 = number }))
        (cond manual (W.Manual (record { 0 = number }))
        (cond clears W.Nothing switch)))
    go true manual clears = few
    go false true clears = few
    go false false true = tt
    go false false false = on

-- ---- found again

pub switch_of-back : (switch : Switch) → On switch → held_switch switch ≡ switch
unfolding switch_of switch_number switch_input
switch_of-back W.Nothing on = refl
switch_of-back (W.Forced number) on = rw (le-ltb last_input number.0 (omega arith))
switch_of-back (W.Manual number) on = rw (le-ltb last_input number.0 (omega arith))

pub selection_of-back : (selection : Option InputNumber) → Inside selection
    → selection_of (is_selected selection) (record { 0 = selected_number selection }) ≡ selection
unfolding selection_of is_selected selected_number
selection_of-back None inside = refl
selection_of-back (Some number) inside = rw (le-ltb last_input number.0 (omega arith))

-- a choice from a switch on an input
pub choice-again : (candidates : List Candidate) (switch : Switch) (selection : Option InputNumber) (waslocked : Bool) → On switch
    → held_choice (decide candidates switch selection waslocked) ≡ decide candidates switch selection waslocked
unfolding decide
choice-again candidates switch selection waslocked on =
    let stands : On (judged candidates switch) = judged-on candidates switch on in
    rw (
      switch_of-back (judged candidates switch) stands,
      selection_of-back (selected_by candidates (judged candidates switch) selection)
          (selected_by-inside candidates (judged candidates switch) selection stands),
    )
