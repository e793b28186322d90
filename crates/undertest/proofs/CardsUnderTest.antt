-- L14 of what C holds. Cites `nothing-shows` and `unit-line_under_test`; of the cards `lent-right` and
-- `half-lent-right`. Assumes nothing.
use Prim.Native.Nat.{ℕ}
use mathlib.Core.List.{List, [], ◌∷◌}
use mathlib.Core.Path.{◌≡◌, refl, sym, ap, ◌∙◌}
use Rattle.numbers.specs.declared.quality.Quality.{Quality}
use Rattle.numbers.specs.From.{started, ◌following◌}
use Rattle.numbers.specs.Kind.{flag}
use Rattle.numbers.specs.Refusal.{accepted}
use Rattle.selector.specs.declared.Selector.{Selector}
use Rattle.selector.specs.Answer.{answer_of, outgoing_codes, outgoing_words}
use Rattle.events.specs.Sequence.{Given, Sequence, state_after}
use Rattle.unit.specs.declared.Half.{Half}
use Rattle.unit.specs.declared.Half.TheVariants as H
use Rattle.unit.specs.Unit.{Addressed, UnitSequence, Telling, Output, own_events}
use Rattle.unit.specs.Sequence.{unit_after, half_after, telling_of, tellings, station_output, outputs}
use Rattle.unit.specs.Kept.{is_squelched, source_of}
use Rattle.unit.proofs.Halves.{half-after, minimum-after}
use Rattle.quickstep.specs.Watch.{Watch}
use Rattle.card.specs.Calls.{lent_after, latest_number}
use Rattle.card.proofs.Calls.{lent-right}
use Rattle.unitcard.specs.Lent.{watch_in, sent_by}
use Rattle.unitcard.specs.Calls.{unit_lent_after, half_latest_number}
use Rattle.unitcard.proofs.Calls.{half-held, half-lent-right, sent-of}
use Rattle.undertest.specs.UnderTest.{EqualButFor, begun, equal, paired, OffThroughout, NothingShows}
use Rattle.undertest.specs.UnitUnderTest as Units
use Rattle.undertest.specs.UnitUnderTest.{UnitsEqualButFor, OffInBoth, NothingShowsOfUnit}
use Rattle.undertest.specs.CardsUnderTest.{NothingShowsInCards, NothingShowsInUnits}
use Rattle.undertest.proofs.UnderTest.{nothing-shows}
use Rattle.undertest.proofs.UnitUnderTest.{unit-line_under_test}

-- ---- a card

card_itself : (watch : Watch) → NothingShowsInCards watch watch
card_itself watch = record { answer = refl; codes = refl; words = refl }

-- what does not show of two selectors does not show of the two cards
shows_in_cards : (one other : Given) (earlier otherEarlier : Sequence) → NothingShows one earlier other otherEarlier
    → NothingShowsInCards (lent_after (one following earlier)) (lent_after (other following otherEarlier))
unfolding latest_number
shows_in_cards one other earlier otherEarlier nothing =
    let here = lent-right (one following earlier) in
    let there = lent-right (other following otherEarlier) in
    record {
      answer = here.answer ∙ nothing.answer ∙ sym there.answer;
      codes = ap outgoing_codes here.state ∙ nothing.codes ∙ sym (ap outgoing_codes there.state);
      words = ap outgoing_words here.state ∙ nothing.words ∙ sym (ap outgoing_words there.state);
    }

-- A LINE UNDER TEST shows in no card.
pub card_under_test : (input : ℕ) (one other : Sequence) → EqualButFor input one other → OffThroughout input one
    → NothingShowsInCards (lent_after one) (lent_after other)
card_under_test input _ _ (begun profile) off = card_itself (lent_after (started profile))
card_under_test input _ _ (equal given earlier otherEarlier before) off =
    shows_in_cards given given earlier otherEarlier
    (nothing-shows input given given earlier otherEarlier (equal given earlier otherEarlier before) off)
card_under_test input _ _ (paired one other earlier otherEarlier pair before) off =
    shows_in_cards one other earlier otherEarlier
    (nothing-shows input one other earlier otherEarlier (paired one other earlier otherEarlier pair before) off)

-- ---- a unit

-- what was told last, by a selector and by the output
abbrev last_told : Telling → List Telling → Telling
last_told none [] = none
last_told none (telling ∷ earlier) = telling

abbrev last_sent : Output → List Output → Output
last_sent none [] = none
last_sent none (sent ∷ earlier) = sent

module _ (minimum : Quality) (half : Half) (none : Telling) (addressed : Addressed) (earlier : UnitSequence) where
  abbrev sequence : UnitSequence
  sequence = addressed following earlier

  abbrev told : Telling
  told = last_told none (tellings minimum half sequence)

  abbrev watch : Watch
  watch = watch_in half (unit_lent_after minimum sequence)

  own : half_after minimum half sequence ≡ state_after (own_events half sequence)
  own = half-after minimum sequence half

  half-told : watch.answer ≡ told.answer
  unfolding tellings half_latest_number
  half-told =
      ap (λ (one : Watch). one.answer) (half-held minimum half sequence)
      ∙ ap (λ (state : Selector). answer_of (half_latest_number minimum half sequence) state) (sym own)

  state : watch.state ≡ half_after minimum half sequence
  state = (half-lent-right minimum half sequence).state ∙ sym own

  half-codes : outgoing_codes watch.state ≡ told.codes
  unfolding tellings
  half-codes = ap outgoing_codes state

  half-words : outgoing_words watch.state ≡ told.words
  unfolding tellings
  half-words = ap outgoing_words state

-- what the octets of an output are, behind a minimum
abbrev sent_of : Quality → Output → List ℕ
sent_of minimum output = minimum.0 ∷ flag output.squelched ∷ output.source ∷ []

module _ (minimum : Quality) (one other : Addressed) (earlier otherEarlier : UnitSequence)
    (nothing : NothingShowsOfUnit minimum (one following earlier) (other following otherEarlier)) where
  shows_in_halves : (half : Half)
      → NothingShowsInCards (watch_in half (unit_lent_after minimum (one following earlier)))
      (watch_in half (unit_lent_after minimum (other following otherEarlier)))
  shows_in_halves half =
      let none : Telling = telling_of accepted (half_after minimum half earlier) in
      let same : last_told none (tellings minimum half (one following earlier))
      ≡ last_told none (tellings minimum half (other following otherEarlier)) =
      ap (last_told none) (nothing.told half) in
      record {
        answer =
            half-told minimum half none one earlier ∙ ap (λ (told : Telling). told.answer) same
            ∙ sym (half-told minimum half none other otherEarlier);
        codes =
            half-codes minimum half none one earlier ∙ ap (λ (told : Telling). told.codes) same
            ∙ sym (half-codes minimum half none other otherEarlier);
        words =
            half-words minimum half none one earlier ∙ ap (λ (told : Telling). told.words) same
            ∙ sym (half-words minimum half none other otherEarlier);
      }

  -- what is sent is the minimum, and what the output sends
  sent-output : (addressed : Addressed) (before : UnitSequence)
      → (unit_lent_after minimum (addressed following before)).sent
      ≡ sent_of minimum (station_output (unit_after minimum (addressed following before)))
  unfolding sent_by is_squelched source_of
  sent-output addressed before =
      sent-of minimum (addressed following before)
      ∙ (λ j. (minimum-after minimum (addressed following before) j).0
      ∷ flag (station_output (unit_after minimum (addressed following before))).squelched
      ∷ (station_output (unit_after minimum (addressed following before))).source
      ∷ [])

  shows_in_units : NothingShowsInUnits (unit_lent_after minimum (one following earlier))
      (unit_lent_after minimum (other following otherEarlier))
  unfolding outputs
  shows_in_units =
      let none : Output = station_output (unit_after minimum earlier) in
      let same : last_sent none (outputs minimum (one following earlier))
      ≡ last_sent none (outputs minimum (other following otherEarlier)) = ap (last_sent none) nothing.sent in
      record {
        equipment = shows_in_halves H.Equipment;
        station = shows_in_halves H.Station;
        sent = sent-output one earlier ∙ ap (sent_of minimum) same ∙ sym (sent-output other otherEarlier);
      }

-- A LINE UNDER TEST shows in no unit.
pub units_under_test : (minimum : Quality) (input : ℕ) (one other : UnitSequence)
    → UnitsEqualButFor input one other → OffInBoth input one
    → NothingShowsInUnits (unit_lent_after minimum one) (unit_lent_after minimum other)
units_under_test minimum input _ _ (Units.begun profile) off =
    let unit = unit_lent_after minimum (started profile) in
    record { equipment = card_itself unit.equipment; station = card_itself unit.station; sent = refl }
units_under_test minimum input _ _ (Units.equal given to other earlier otherEarlier alike before) off =
    shows_in_units minimum _ _ earlier otherEarlier
    (unit-line_under_test minimum input _ _ (Units.equal given to other earlier otherEarlier alike before) off)
units_under_test minimum input _ _ (Units.paired one other earlier otherEarlier pair before) off =
    shows_in_units minimum one other earlier otherEarlier
    (unit-line_under_test minimum input _ _ (Units.paired one other earlier otherEarlier pair before) off)
