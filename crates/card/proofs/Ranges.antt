-- Codes and qualities that C reads are in the header's ranges. Cites `never-usable` and `something_usable` of the clock
-- quality, `demand_2_lent` and `status_lent` of what C reads. Assumes nothing.
use Prim.Native.Nat.{ℕ, zero, suc, ◌+◌, ◌-◌, ◌≤◌}
use mathlib.Core.Bool.{Bool, true, false, not, ◌&&◌, ◌||◌, cond, true≢false, and-false}
use mathlib.Core.List.{List, [], ◌∷◌}
use mathlib.Core.Path.{◌≡◌, refl, sym, ap, subst, ◌∙◌}
use native.Mathlib.Omega.{arith}
use lib.Dec.{eqb, ltb}
use borrow.Author.Tests.{eqb-true, ne_eqb, not-false}
use Rattle.numbers.specs.declared.profile.ProvPlace.{ProvPlace}
use Rattle.numbers.specs.declared.profile.Profile.{Profile}
use Rattle.numbers.specs.declared.profile.Profile.TheVariants as P
use Rattle.numbers.specs.declared.quality.Quality.{Quality}
use Rattle.numbers.specs.Recorded.{Recorded}
use Rattle.numbers.specs.From.{started, ◌following◌, profile_of}
use Rattle.numbers.specs.Codes.{Sign, said_by, codes_of, words, quality_of_code, quality_of_word, said_in}
use Rattle.numbers.specs.Inputs.{last_input, frame_life}
use Rattle.numbers.specs.Kind.{known_row_of, is_known, kind_word, kind_line_code, kind_frame, takes_frames, is_counted, is_frame}
use Rattle.numbers.specs.Profile.{limits_of, number_of_prov_place, prov_place_of, number_in_one, paper_number}
use Rattle.numbers.specs.Quality.{quality, not_told, invalid, failed, prov, is_failed}
use Rattle.frame.specs.Read.{read_code}
use Rattle.numbers.specs.Refusal.{accepted, kind_unknown}
use Rattle.numbers.proofs.Rows.{given-none-first, rising-numbered}
use Rattle.numbers.proofs.Truth.{by_bool, both_first}
use Rattle.run.specs.Moments.{Moment, Moments, fails, raw_quality, each_millisecond}
use Rattle.run.specs.Passed.{good_quality, was_up, passed}
use Rattle.choice.specs.Rank.{is_placed, Within}
use Rattle.input.specs.Recorded.{History, signal_good, mode_on, input_kind, fixed_of, floor_of, forgets, heard, is_third, line_quality, frame_quality, raw_quality_at, moment_of, time_of, moments, moments_until, passed_at, last_argument}
use Rattle.selector.specs.Clock.{clock_quality}
use Rattle.events.specs.Given.{Given, Sequence, as_recorded, recorded_argument}
use Rattle.events.specs.Refusals.{early_rows, frame_event_rows}
use Rattle.events.specs.Past.{Past, early_by, late_by, with_tick, with_event, past_of, recorded}
use Rattle.events.specs.Told.{candidate_selected, quality_by}
use Rattle.events.proofs.Agrees.{recorded-profile}
use Rattle.events.proofs.Usable.{quality-stated, something_usable, never-usable}
use Rattle.sender.proofs.Codes.{code_of_port-small}
use Rattle.status.specs.Status.{status_by}
use Rattle.selector.specs.declared.Selector.{Selector}
use Rattle.numbers.specs.declared.Answer.{Answer}
use Rattle.card.specs.Known.{known_of, input_known}
use Rattle.card.specs.Calls.{lent_after}
use Rattle.card.specs.Ranges.{AnyCodes, last_clock_quality, ClockQualityRanged, last_quality, raw_in, passed_in, QualitiesRanged}
use Rattle.card.proofs.Calls.{demand_2_lent, status_lent}

-- ---- codes

-- ANY STATE: its codes are 0 to 15.
pub any-codes : (state : Selector) → AnyCodes state
any-codes state port = code_of_port-small state port

-- ---- the clock quality

-- what a clock tells by itself
own-least : (profile : Profile) → 1 ≤ (limits_of profile).freerunning.0
unfolding limits_of
own-least P.OptionOne = omega arith
own-least (P.OptionTwo provplace marks) = omega arith

own-most : (profile : Profile) → (limits_of profile).freerunning.0 ≤ last_clock_quality profile
unfolding limits_of last_clock_quality
own-most P.OptionOne = omega arith
own-most (P.OptionTwo provplace marks) = omega arith

-- what is placed is PROV, and in option I nothing is
placed-prov : (provplace : ℕ) (told : Quality) → is_placed provplace told ≡ true → told.0 ≡ prov.0
unfolding is_placed
placed-prov provplace told placed =
    eqb-true told.0 prov.0 (both_first (eqb told.0 prov.0) (not (eqb provplace 0)) placed)

placed-most : (profile : Profile) (told : Quality) → is_placed (prov_place_of profile) told ≡ true
    → told.0 ≤ last_clock_quality profile
unfolding is_placed prov_place_of last_clock_quality
placed-most P.OptionOne told placed = absurd (true≢false (sym placed ∙ and-false (eqb told.0 prov.0)))
placed-most (P.OptionTwo provplace marks) told placed =
    omega (arith, placed-prov (number_of_prov_place provplace) told placed)

floor_most_lem : (profile : Profile) → (limits_of profile).floor ≤ last_clock_quality profile
unfolding limits_of last_clock_quality
floor_most_lem P.OptionOne = omega arith
floor_most_lem (P.OptionTwo provplace marks) = omega arith

module _ (sequence : Sequence) where
  abbrev past : Past
  past = past_of sequence

  abbrev profile : Profile
  profile = profile_of sequence

  same : profile_of past.history ≡ profile
  same = recorded-profile sequence

  read : (lent_after sequence).answer.clockquality ≡ (quality_by past).0
  read = ap (λ (answer : Answer). answer.clockquality) (demand_2_lent sequence).answer

  -- a usable quality that is selected, with mode on
  usable-within : mode_on past.history ≡ true → (candidate_selected past).usable ≡ true
      → (1 ≤ (candidate_selected past).quality.0) × ((candidate_selected past).quality.0 ≤ last_clock_quality profile)
  usable-within on usable =
      let some = (something_usable past).0 usable in
      let told =
      ap (λ (one : Quality). one.0) (quality-stated past some.number some.passed some.is_selected on) in
      let within : Within (prov_place_of profile) (floor_of some.number past.history) some.passed =
      subst (λ (one : Profile). Within (prov_place_of one) (floor_of some.number past.history) some.passed) same
      (some.usable.within on) in
      let floor = (never-usable sequence some.number).floor_most in
      by_bool (is_placed (prov_place_of profile) some.passed)
      (λ placed. (
        omega (arith, told, placed-prov (prov_place_of profile) some.passed placed),
        omega (arith, told, placed-most profile some.passed placed),
      ))
      (λ other.
      let numbered = within.numbered other in
      (omega (arith, told, numbered.0), omega (arith, told, numbered.1, floor, floor_most_lem profile)))

  quality-off : mode_on past.history ≡ false → (quality_by past).0 ≡ 0
  unfolding clock_quality
  quality-off off = rw off

  quality-on : mode_on past.history ≡ true
      → (1 ≤ (quality_by past).0) × ((quality_by past).0 ≤ last_clock_quality profile)
  unfolding clock_quality
  quality-on on =
      by_bool (candidate_selected past).usable
      (λ usable. rw (on, usable) (usable-within on usable))
      (λ other. rw (on, other, same) (own-least profile, own-most profile))

-- THE CLOCK QUALITY that C reads, after every sequence of calls.
pub clock_quality_ranged : (sequence : Sequence) → ClockQualityRanged sequence
clock_quality_ranged sequence =
    record {
      off = λ off. read sequence ∙ quality-off sequence off;
      least = λ on. omega (arith, read sequence, (quality-on sequence on).0);
      most =
          by_bool (mode_on (recorded sequence))
          (λ on. omega (arith, read sequence, (quality-on sequence on).1))
          (λ off. omega (arith, read sequence, quality-off sequence off));
    }

-- ---- raw and passed quality

-- a quality's number on paper is no larger than that of failed
abbrev Ranged : Profile → Quality → Type 0
Ranged profile told = paper_number profile told ≤ last_quality profile

failed_ranged : (profile : Profile) → Ranged profile failed
unfolding paper_number number_in_one last_quality
failed_ranged P.OptionOne = omega arith
failed_ranged (P.OptionTwo provplace marks) = omega arith

untold_ranged : (profile : Profile) → Ranged profile not_told
unfolding paper_number number_in_one last_quality
untold_ranged P.OptionOne = omega arith
untold_ranged (P.OptionTwo provplace marks) = omega arith

invalid_ranged : (profile : Profile) → Ranged profile invalid
unfolding paper_number number_in_one last_quality
invalid_ranged P.OptionOne = omega arith
invalid_ranged (P.OptionTwo provplace marks) = omega arith

fixed_ranged : (profile : Profile) (fixed : ℕ) → fixed ≤ (limits_of profile).fixed → Ranged profile (quality fixed)
unfolding paper_number number_in_one last_quality limits_of
fixed_ranged P.OptionOne fixed most =
    rw (ne_eqb fixed invalid.0 (λ e. omega (arith, e, most)), ne_eqb fixed failed.0 (λ e. omega (arith, e, most)))
    (omega (arith, most))
fixed_ranged (P.OptionTwo provplace marks) fixed most = omega (arith, most)

-- what the rows of a table say
abbrev AllRows : Profile → List Sign → Type 0
AllRows profile [] = Unit {0}
AllRows profile (one ∷ rows) = Ranged profile one.told × AllRows profile rows

said_by_ranged : (profile : Profile) (rows : List Sign) (sign : ℕ) → AllRows profile rows
    → Ranged profile (said_by rows sign)
unfolding said_by
said_by_ranged profile [] sign all = invalid_ranged profile
said_by_ranged profile (one ∷ rows) sign all =
    by_bool (eqb sign one.sign) (λ e. rw e all.0) (λ e. rw e (said_by_ranged profile rows sign all.1))

code_ranged : (profile : Profile) (code : ℕ) → Ranged profile (quality_of_code profile code)
unfolding quality_of_code paper_number number_in_one last_quality
code_ranged P.OptionOne code =
    said_by_ranged P.OptionOne (codes_of P.OptionOne) code
    (omega arith, (omega arith, (omega arith, (omega arith, (omega arith, tt)))))
code_ranged (P.OptionTwo provplace marks) code =
    said_by_ranged (P.OptionTwo provplace marks) (codes_of (P.OptionTwo provplace marks)) code (
      omega arith,
      (
        omega arith,
        (
          omega arith,
          (
            omega arith,
            (omega arith, (omega arith, (omega arith, (omega arith, (omega arith, tt))))),
          ),
        ),
      ),
    )

word_ranged : (provplace : ProvPlace) (marks word : ℕ) → Ranged (P.OptionTwo provplace marks) (quality_of_word word)
unfolding quality_of_word paper_number last_quality
word_ranged provplace marks word =
    said_by_ranged (P.OptionTwo provplace marks) words word (
      omega arith,
      (
        omega arith,
        (
          omega arith,
          (
            omega arith,
            (
              omega arith,
              (omega arith, (omega arith, (omega arith, (omega arith, (omega arith, tt))))),
            ),
          ),
        ),
      ),
    )

-- option I knows no word
words_ranged : (profile : Profile) (kind argument : ℕ) → is_known (limits_of profile) kind ≡ true
    → kind ≡ kind_word
    → Ranged profile (quality_of_word argument)
unfolding known_row_of limits_of
words_ranged P.OptionOne kind argument known word = absurd (true≢false (sym (rw word at known)))
words_ranged (P.OptionTwo provplace marks) kind argument known word = word_ranged provplace marks argument

-- what a report says
said_ranged : (profile : Profile) (kind argument : ℕ) → is_known (limits_of profile) kind ≡ true
    → Ranged profile (said_in profile kind argument)
unfolding said_in
said_ranged profile kind argument known =
    by_bool (eqb kind kind_line_code || eqb kind kind_frame) (λ code. rw code (code_ranged profile argument))
    (λ other.
    by_bool (eqb kind kind_word)
    (λ word. rw (other, word) (words_ranged profile kind argument known (eqb-true kind kind_word word)))
    (λ none. rw (other, none) (untold_ranged profile)))

-- what has been recorded says qualities in range, and fixes one in range for an input
abbrev HistoryRanged : Profile → ℕ → History → Type 0
HistoryRanged profile input (started own) = Unit {0}
HistoryRanged profile input (event following earlier) =
    Ranged profile event.said ×
    (fixed_of input (event following earlier) ≤ (limits_of profile).fixed) ×
    HistoryRanged profile input earlier

-- an event that is not refused with 2 to 13 is of a kind that is known
known-kind : (past : Past) (given : Given) → early_by past given ≡ accepted
    → is_known (limits_of (profile_of past.history)) given.event.kind ≡ true
known-kind past given none =
    let limits = limits_of (profile_of past.history) in
    let rows =
    early_rows limits (time_of past.history) (input_kind given.event.input past.history) given.event in
    let first : not (is_known limits given.event.kind) ≡ false =
    (given-none-first rows (frame_event_rows given.event.kind given.frame)
    (rising-numbered kind_unknown rows (omega arith) refl) none).0 in
    not-false (is_known limits given.event.kind) first

-- what has happened after an event
abbrev past_with : Past → Given → Bool → Bool → Past
past_with past given early late =
    cond (not early) past
    (cond (not late) (with_tick past given.event.time)
    (with_event past (as_recorded (profile_of past.history) given)))

sequence_ranged : (sequence : Sequence) (input : ℕ) → HistoryRanged (profile_of sequence) input (recorded sequence)
unfolding past_of
sequence_ranged (started own) input = tt
sequence_ranged (given following earlier) input =
    go (eqb (early_by past given) accepted) refl (eqb (late_by past given) accepted)
    (never-usable (given following earlier) input).fixed_most
    (sequence_ranged earlier input)
  where
    past : Past
    past = past_of earlier

    profile : Profile
    profile = profile_of earlier

    go : (early : Bool) → eqb (early_by past given) accepted ≡ early → (late : Bool)
        → fixed_of input (past_with past given early late).history ≤ (limits_of profile).fixed
        → HistoryRanged profile input (recorded earlier)
        → HistoryRanged profile input (past_with past given early late).history
    go false refused late fixed before = before
    go true none false fixed before = (untold_ranged profile, fixed, before)
    go true none true fixed before = (
      subst
          (λ (one : Profile). Ranged one
          (said_in (profile_of past.history) given.event.kind
          (recorded_argument given.event.kind given.event.argument (read_code given.frame))))
          (recorded-profile earlier)
          (said_ranged (profile_of past.history) given.event.kind _
          (known-kind past given (eqb-true (early_by past given) accepted none))),
      fixed,
      before,
    )

-- ---- of one input

module _ (profile : Profile) (input : ℕ) where
  abbrev AllSaid : List Recorded → Type 0
  AllSaid [] = Unit {0}
  AllSaid (report ∷ earlier) = Ranged profile report.said × AllSaid earlier

  heard_ranged : (kinds : ℕ → Bool) (history : History) → HistoryRanged profile input history
      → AllSaid (heard input kinds history)
  unfolding heard
  heard_ranged kinds (started own) ranged = tt
  heard_ranged kinds (event following earlier) ranged =
      by_bool (forgets input event (signal_good input earlier))
      (λ forgotten. rw forgotten tt)
      (λ kept.
      by_bool (eqb event.input input && kinds event.kind && signal_good input earlier)
      (λ own. rw (kept, own) (ranged.0, heard_ranged kinds earlier ranged.2))
      (λ other. rw (kept, other) (heard_ranged kinds earlier ranged.2)))

  line_ranged : (reports : List Recorded) → AllSaid reports → Ranged profile (line_quality reports)
  unfolding line_quality
  line_ranged [] all = failed_ranged profile
  line_ranged (report ∷ earlier) all =
      by_bool (is_third report earlier) (λ third. rw third all.0) (λ other. rw other (line_ranged earlier all.1))

  frame_ranged : (reports : List Recorded) (time : ℕ) → AllSaid reports → Ranged profile (frame_quality reports time)
  unfolding frame_quality
  frame_ranged [] time all = failed_ranged profile
  frame_ranged (report ∷ earlier) time all =
      by_bool (ltb time (report.time + frame_life)) (λ lives. rw lives all.0)
      (λ gone. rw gone (failed_ranged profile))

  fixed-within : (history : History) → HistoryRanged profile input history
      → fixed_of input history ≤ (limits_of profile).fixed
  unfolding last_argument
  fixed-within (started own) ranged = omega arith
  fixed-within (event following earlier) ranged = ranged.1

  raw_ranged : (history : History) (time : ℕ) → HistoryRanged profile input history
      → Ranged profile (raw_quality_at input history time)
  unfolding raw_quality_at
  raw_ranged history time ranged =
      by_bool (signal_good input history)
      (λ good.
      by_bool (mode_on history)
      (λ on.
      by_bool (eqb (fixed_of input history) 0)
      (λ none.
      by_bool (takes_frames (input_kind input history))
      (λ frames. rw (good, on, none, frames) (frame_ranged _ time (heard_ranged is_frame history ranged)))
      (λ codes. rw (good, on, none, codes) (line_ranged _ (heard_ranged is_counted history ranged))))
      (λ fixed. rw (good, on, fixed) (fixed_ranged profile (fixed_of input history) (fixed-within history ranged))))
      (λ off. rw (good, off) (untold_ranged profile)))
      (λ fails. rw fails (failed_ranged profile))

  abbrev AllMoments : Moments → Type 0
  AllMoments [] = Unit {0}
  AllMoments (moment ∷ earlier) = Ranged profile moment.raw × AllMoments earlier

  each_ranged : (shown : ℕ → Moment) → ((time : ℕ) → Ranged profile (shown time).raw) → (time count : ℕ)
      → (earlier : Moments) → AllMoments earlier
      → AllMoments (each_millisecond shown time count earlier)
  unfolding each_millisecond
  each_ranged shown all time zero earlier before = before
  each_ranged shown all time (suc count) earlier before =
      (all (suc (time + count)), each_ranged shown all time count earlier before)

  moment_ranged : (history : History) (clears : Bool) → HistoryRanged profile input history → (time : ℕ)
      → Ranged profile (moment_of input history clears time).raw
  unfolding moment_of
  moment_ranged history clears ranged time = raw_ranged history time ranged

  moments_ranged : (history : History) → HistoryRanged profile input history → AllMoments (moments input history)
  unfolding moments
  moments_ranged (started own) ranged = tt
  moments_ranged (event following earlier) ranged = (
    moment_ranged (event following earlier) _ ranged event.time,
    each_ranged (moment_of input earlier false) (moment_ranged earlier false ranged.2) (time_of earlier) _
        (moments input earlier)
        (moments_ranged earlier ranged.2),
  )

  good_ranged : (taken : Moments) → AllMoments taken → Ranged profile (good_quality taken)
  good_ranged [] all = failed_ranged profile
  good_ranged (moment ∷ earlier) all =
      by_bool (is_failed moment.raw) (λ fails. rw fails (good_ranged earlier all.1)) (λ good. rw good all.0)

  now_ranged : (taken : Moments) → AllMoments taken → Ranged profile (raw_quality taken)
  now_ranged [] all = failed_ranged profile
  now_ranged (moment ∷ earlier) all = all.0

  passed_ranged : (taken : Moments) → AllMoments taken → Ranged profile (passed taken)
  passed_ranged taken all =
      by_bool (was_up taken)
      (λ up.
      by_bool (fails taken)
      (λ fail. rw (up, fail) (good_ranged taken all))
      (λ good. rw (up, good) (now_ranged taken all)))
      (λ down. rw down (failed_ranged profile))

  passed_at_ranged : (history : History) (time : ℕ) → HistoryRanged profile input history
      → Ranged profile (passed_at input history time)
  unfolding passed_at moments_until
  passed_at_ranged history time ranged =
      passed_ranged (moments_until input history time)
      (each_ranged (moment_of input history false) (moment_ranged history false ranged) (time_of history)
      (time - time_of history)
      (moments input history)
      (moments_ranged history ranged))

-- RAW AND PASSED QUALITY that C reads, after every sequence of calls.
pub qualities_ranged : (sequence : Sequence) (input : ℕ) → QualitiesRanged sequence input
unfolding status_by
qualities_ranged sequence input =
    record {
      raw = λ within.
          told raw_in within (raw_ranged profile input history (time_of history) (sequence_ranged sequence input));
      passed = λ within.
          told passed_in within (passed_at_ranged profile input history (time_of history) (sequence_ranged sequence input));
    }
  where
    history : History
    history = recorded sequence

    profile : Profile
    profile = profile_of sequence

    known : List ℕ
    known = known_of profile (status_by history input)

    told : (field : List ℕ → ℕ) → input ≤ last_input → field known ≤ last_quality profile
        → field (input_known (lent_after sequence).state input) ≤ last_quality profile
    told field within most =
        let same = ap field ((status_lent sequence input).known within)
        ∙ ap (λ (one : Profile). field (known_of one (status_by history input))) (recorded-profile sequence) in
        omega (arith, same, most)
