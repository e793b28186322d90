-- The station output squelches and tells its source as document 02 says. Cites `happened`, `demand_2_answers` and
-- `demand_3`; of the quality mode that is kept `sequence-agrees`; of usable `nothing-usable`. Assumes nothing.
use Prim.Native.Nat.{ℕ, ◌≤◌, ◌<◌}
use mathlib.Core.Bool.{Bool, true, false, not, ◌&&◌, ◌||◌, cond, true≢false}
use mathlib.Core.List.{List, [], ◌∷◌}
use mathlib.Core.Logic.{◌⊎◌, inl, inr, ◌↔◌}
use mathlib.Core.Path.{◌≡◌, refl, sym, ◌∙◌, ap, subst}
use native.Mathlib.Omega.{arith}
use lib.Dec.{eqb, ltb}
use borrow.Author.Tests.{ltb-true, lt-ltb, ne_eqb}
use Rattle.numbers.specs.declared.quality.Quality.{Quality}
use Rattle.numbers.specs.From.{started, ◌following◌, profile_of}
use Rattle.numbers.specs.Inputs.{input_count}
use Rattle.numbers.specs.Profile.{prov_place_of}
use Rattle.numbers.specs.Quality.{quality, prov}
use Rattle.numbers.specs.Refusal.{accepted}
use Rattle.input.specs.Recorded.{History, mode_on, time_of, passed_at}
use Rattle.numbers.proofs.Truth.{by_bool}
use Rattle.choice.specs.declared.Candidate.{Candidate}
use Rattle.choice.specs.Choice.{selected}
use Rattle.choice.specs.Rank.{is_placed, rank_of}
use Rattle.choice.proofs.Choosing.{selected-injective}
use Rattle.choice.proofs.Places.{rank_placed, rank_numbered}
use Rattle.switch.specs.declared.Switch.{Switch}
use Rattle.switch.specs.declared.Switch.TheVariants as W
use Rattle.switch.specs.Choices.{choices_ago}
use Rattle.selector.specs.declared.Selector.{Selector}
use Rattle.selector.specs.Clock.{no_input, locked, clock_state, clock_quality, selected_number}
use Rattle.selector.specs.Answer.{answer_of}
use Rattle.events.specs.Given.{Sequence}
use Rattle.events.specs.Sequence.{state_after}
use Rattle.events.specs.Past.{Made, Past, decided_by, past_of, recorded, made_in}
use Rattle.events.specs.Told.{candidate_selected, answer_by}
use Rattle.events.specs.Demand3.{Admitted, Latest, Unsurpassed}
use Rattle.events.proofs.Agrees.{sequence-agrees}
use Rattle.events.proofs.Happened.{happened}
use Rattle.events.proofs.Demand2.{demand_2_answers}
use Rattle.events.proofs.Demand3.{demand_3}
use Rattle.events.specs.Usable.{NothingUsable}
use Rattle.events.proofs.Usable.{quality-stated, some-selected, nothing-usable}
use Rattle.unit.specs.declared.Half.TheVariants as H
use Rattle.unit.specs.Unit.{UnitSequence, own_events, own_past, WorseThan, squelched_by, output_by, own_outputs}
use Rattle.unit.specs.Kept.{Unit, is_squelched, source_of}
use Rattle.unit.specs.Sequence.{unit_after, outputs}
use Rattle.unit.specs.Claims.{OutputRight, ProvWorse}
use Rattle.unit.proofs.Halves.{half-after, minimum-after}

-- ---- what the code computes is what has happened

-- the clock is locked exactly if what is selected is usable, and then tells its quality
clock_same : (provplace : ℕ) (minimum own : Quality) (mode waslocked : Bool) (candidate : Candidate)
    → (not (eqb (clock_state candidate.usable waslocked) locked) ||
    (mode && ltb (rank_of provplace minimum).0 (rank_of provplace (clock_quality own mode candidate)).0)) ≡
    (not candidate.usable || (mode && ltb (rank_of provplace minimum).0 (rank_of provplace candidate.quality).0))
unfolding clock_state clock_quality
clock_same provplace minimum own true waslocked candidate =
    by_bool candidate.usable
    (λ u. rw u)
    (λ u. by_bool waslocked (λ h. rw (u, h)) (λ h. rw (u, h)))
clock_same provplace minimum own false waslocked candidate =
    by_bool candidate.usable
    (λ u. rw u)
    (λ u. by_bool waslocked (λ h. rw (u, h)) (λ h. rw (u, h)))

-- a unit whose station selector is after a sequence of events
module _ (unit : Unit) (own : Sequence) (minimum : Quality)
    (state : unit.station ≡ state_after own) (set : unit.minimum ≡ minimum) where
  station-profile : unit.station.profile ≡ profile_of (recorded own)
  station-profile =
      ap (λ (selector : Selector). selector.profile) state ∙
      (happened own).profile ∙
      sym (happened own).recorded_profile

  station-mode : unit.station.mode ≡ mode_on (recorded own)
  station-mode = ap (λ (selector : Selector). selector.mode) state ∙ (sequence-agrees own).mode

  station-answer : answer_of accepted unit.station ≡ answer_by accepted (past_of own)
  station-answer = ap (answer_of accepted) state ∙ (demand_2_answers own).answer accepted

  squelched-own : is_squelched unit ≡ squelched_by minimum (past_of own)
  unfolding is_squelched squelched_by
  squelched-own =
      (λ j. not (eqb (station-answer j).clockstate locked) ||
      (station-mode j &&
      ltb (rank_of (prov_place_of (station-profile j)) (set j)).0
      (rank_of (prov_place_of (station-profile j)) (quality (station-answer j).clockquality)).0)) ∙
      clock_same (prov_place_of (profile_of (recorded own))) minimum _ (mode_on (recorded own)) (decided_by (made_in own)).waslocked
      (candidate_selected (past_of own))

  source-own : source_of unit ≡ (output_by minimum (past_of own)).source
  unfolding source_of
  source-own = λ j. cond (squelched-own j) no_input (station-answer j).selected

module _ (minimum : Quality) (sequence : UnitSequence) where
  abbrev own : Sequence
  own = own_events H.Station sequence

  abbrev unit : Unit
  unit = unit_after minimum sequence

  pub squelched-by : is_squelched unit ≡ squelched_by minimum (past_of own)
  squelched-by = squelched-own unit own minimum (half-after minimum sequence H.Station) (minimum-after minimum sequence)

  pub source-by : source_of unit ≡ (output_by minimum (past_of own)).source
  source-by = source-own unit own minimum (half-after minimum sequence H.Station) (minimum-after minimum sequence)

pub outputs-own : (minimum : Quality) (sequence : UnitSequence) → outputs minimum sequence ≡ own_outputs minimum sequence
unfolding outputs own_outputs
outputs-own minimum (started profile) = refl
outputs-own minimum (addressed following earlier) = λ j.
    record {
      squelched = squelched-by minimum (addressed following earlier) j;
      source = source-by minimum (addressed following earlier) j;
    } ∷
    outputs-own minimum earlier j

-- ---- what is computed is what is stated

module _ (past : Past) where
  abbrev history : History
  history = past.history

  abbrev provplace : ℕ
  provplace = prov_place_of (profile_of history)

  abbrev candidate : Candidate
  candidate = candidate_selected past

  module _ (minimum : Quality) where
    -- what isn't usable squelches
    silent : candidate.usable ≡ false → squelched_by minimum past ≡ true
    unfolding squelched_by
    silent u = rw u

    -- what is usable does not with mode off,
    carries-off : mode_on history ≡ false → candidate.usable ≡ true → squelched_by minimum past ≡ false
    unfolding squelched_by
    carries-off off u = rw (u, off)

    -- and with it on exactly if it is worse
    carries-on : mode_on history ≡ true → candidate.usable ≡ true
        → squelched_by minimum past ≡ ltb (rank_of provplace minimum).0 (rank_of provplace candidate.quality).0
    unfolding squelched_by
    carries-on on u = rw (u, on)

    squelched-off : mode_on history ≡ false → (squelched_by minimum past ≡ true) ↔ NothingUsable past
    squelched-off off = (
      λ s.
          (nothing-usable past).0
          (by_bool candidate.usable (λ u. absurd (true≢false (sym s ∙ carries-off off u))) (λ u. u)),
      λ nothing. silent ((nothing-usable past).1 nothing),
    )

    squelched-on : mode_on history ≡ true
        → (squelched_by minimum past ≡ true) ↔ (NothingUsable past ⊎ WorseThan minimum past)
    squelched-on on = (to, from)
      where
        worse : candidate.usable ≡ true → squelched_by minimum past ≡ true → WorseThan minimum past
        worse u s =
            let some = some-selected past u in
            record {
              number = some.0;
              passed = passed_at some.0 history (time_of history);
              is_selected = some.1;
              worse =
                  subst (λ (told : Quality). (rank_of provplace minimum).0 < (rank_of provplace told).0)
                  (quality-stated past some.0 _ some.1 on)
                  (ltb-true _ _ (sym (carries-on on u) ∙ s));
            }

        to : squelched_by minimum past ≡ true → NothingUsable past ⊎ WorseThan minimum past
        to s = by_bool candidate.usable (λ u. inr (worse u s)) (λ u. inl ((nothing-usable past).0 u))

        from : NothingUsable past ⊎ WorseThan minimum past → squelched_by minimum past ≡ true
        from (inl nothing) = silent ((nothing-usable past).1 nothing)
        from (inr w) =
            by_bool candidate.usable
            (λ u.
            carries-on on u ∙
            lt-ltb _ _
            (subst (λ (told : Quality). (rank_of provplace minimum).0 < (rank_of provplace told).0)
            (sym (quality-stated past w.number w.passed w.is_selected on))
            w.worse))
            silent

    -- what isn't squelched is usable
    carried : squelched_by minimum past ≡ false → candidate.usable ≡ true
    unfolding squelched_by
    carried s =
        by_bool candidate.usable
        (λ u. u)
        (λ u. let k : true ≡ false = rw u at s in absurd (true≢false k))

-- ---- the selected input is one of the sixteen

module _ (own : Sequence) where
  latest_admitted : (on : ℕ) (made : List Made)
      → Latest (λ (choice : Made). Admitted choice.history on) made → on < input_count
  latest_admitted on [] none = absurd none
  latest_admitted on (choice ∷ earlier) admitted = admitted.is_input

  latest_eligible : (on : ℕ) (made : List Made)
      → Latest (λ (choice : Made). Unsurpassed choice.history choice.time on) made → on < input_count
  latest_eligible on [] none = absurd none
  latest_eligible on (choice ∷ earlier) stands = stands.eligible.admitted.is_input

  selected-inside : (number : ℕ) → (state_after own).selection ≡ selected number → number < input_count
  unfolding choices_ago
  selected-inside number here = go (state_after own).switch refl
    where
      is : (on : ℕ) → (state_after own).selection ≡ selected on → on < input_count → number < input_count
      is on there inside =
          let same : number ≡ on = selected-injective number on (sym here ∙ there) in
          omega arith

      go : (switch : Switch) → (state_after own).switch ≡ switch → number < input_count
      go W.Nothing e = (((demand_3 own).state.chosen e).eligible number here).admitted.is_input
      go (W.Forced on) e =
          is on.0 ((demand_3 own).state.by_forced on.0 e)
          (latest_admitted on.0 (made_in own) ((((demand_3 own).state.forced on.0).0 e).unbroken 0 (omega arith)))
      go (W.Manual on) e =
          is on.0 ((demand_3 own).state.by_manual on.0 e)
          (latest_eligible on.0 (made_in own) ((((demand_3 own).state.manual on.0).0 e).unbroken 0 (omega arith)))

-- ---- the source

module _ (own : Sequence) (minimum : Quality) where
  abbrev source : ℕ
  source = (output_by minimum (past_of own)).source

  source-selected : squelched_by minimum (past_of own) ≡ false → (decided_by (made_in own)).selection ≡ selected source
  unfolding selected_number
  source-selected carries =
      let some = some-selected (past_of own) (carried (past_of own) minimum carries) in
      let is : source ≡ some.0 = rw (carries, some.1.is_selected) in
      some.1.is_selected ∙ ap selected (sym is)

  source-none : (source ≡ no_input) ↔ (squelched_by minimum (past_of own) ≡ true)
  source-none = (to, from)
    where
      from : squelched_by minimum (past_of own) ≡ true → source ≡ no_input
      from silent = rw silent

      to : source ≡ no_input → squelched_by minimum (past_of own) ≡ true
      to none =
          by_bool (squelched_by minimum (past_of own))
          (λ silent. silent)
          (λ carries.
          let inside : source < input_count =
          selected-inside own source ((happened own).selection ∙ source-selected carries)
          in
          absurd (omega (arith, none)))

-- THE STATION OUTPUT, for every sequence of the unit's events.
pub output-right : (minimum : Quality) (sequence : UnitSequence) → OutputRight minimum sequence
output-right minimum sequence =
    let past = own_past H.Station sequence in
    record {
      off = λ off. rw (squelched-by minimum sequence) (squelched-off past minimum off);
      on = λ on. rw (squelched-by minimum sequence) (squelched-on past minimum on);
      none =
          rw (squelched-by minimum sequence, source-by minimum sequence)
          (source-none (own_events H.Station sequence) minimum);
      source =
          rw (squelched-by minimum sequence, source-by minimum sequence)
          (source-selected (own_events H.Station sequence) minimum);
      sent = outputs-own minimum sequence;
    }

-- ---- PROV

prov-placed : (provplace : ℕ) → 1 ≤ provplace → is_placed provplace prov ≡ true
unfolding is_placed
prov-placed provplace some = rw (ne_eqb provplace 0 (λ e. omega arith))

other-numbered : (provplace number : ℕ) → number < prov.0 → is_placed provplace (quality number) ≡ false
unfolding is_placed
other-numbered provplace number small = rw (ne_eqb number prov.0 (λ e. omega arith))

-- PROV IS WORSE THAN A MINIMUM exactly where its place is the minimum or a larger number.
pub prov-worse : (provplace minimum : ℕ) → ProvWorse provplace minimum
prov-worse provplace minimum =
    record {
      exact = λ some within.
          let ranked = rank_placed provplace prov (prov-placed provplace some) in
          let numbered = rank_numbered provplace (quality minimum) (other-numbered provplace minimum (omega arith)) in
          (λ worse. omega arith, λ above. omega arith);
    }
