-- Document 01, "Numbers of refusal": the rows that an event can meet, in the table's order. Cited by `src/lib.rt`.
-- Assumes nothing.
use Rattle.std.specs.Prelude.{ℕ, Bool, true, false, not, ◌&&◌, ◌||◌, cond, List, [], ◌∷◌, ◌++◌, ◌≡◌, eqb, leb, ltb, get_or}
use Rattle.numbers.specs.declared.Event.{Event}
use Rattle.numbers.specs.declared.kind.InputKind.{InputKind}
use Rattle.numbers.specs.declared.profile.Limits.{Limits}
use Rattle.numbers.specs.Inputs.{time_limit}
use Rattle.numbers.specs.Kind.{known_row_of, is_known, input_refused, argument_refused, takes_codes, takes_frames, takes_words, kind_frame, kind_line_code, kind_word, kind_forced, kind_manual}
use Rattle.numbers.specs.Refusal.{accepted, kind_unknown, time_too_large, time_before_state, input_out_of_range, argument_out_of_range, wrong_input_kind, forced_barred, manual_forced_stands, manual_not_eligible, manual_lower_quality}
use Rattle.numbers.specs.Rows.{Refusal, refusal, first_that_applies}
use Rattle.frame.specs.declared.FrameRead.{FrameRead}
use Rattle.frame.specs.Read.{frame_rows, number_of_read}
use Rattle.choice.specs.declared.Candidate.{Candidate}
use Rattle.choice.specs.declared.Rank.{Rank}
use Rattle.choice.specs.Candidate.{nobody, is_eligible, eligible_among, any_lower}
use Rattle.switch.specs.declared.Switch.{Switch}
use Rattle.switch.specs.declared.Switch.TheVariants as W
use Rattle.switch.specs.OneChoice.{forced_may_stand}

-- "code for an Ethernet input, frame for a line input"; document 02, L12: "A word sent to an input of another kind is
-- refusal 7, a code or frame sent to this kind too"
unfoldable pub is_wrong_kind : ℕ → InputKind → Bool
is_wrong_kind kind inputkind =
    cond (eqb kind kind_line_code) (not (takes_codes inputkind))
    (cond (eqb kind kind_frame) (not (takes_frames inputkind))
    (cond (eqb kind kind_word) (not (takes_words inputkind))
    false))

-- rows 2 to 7, by an option's limits, for a state at a time, whose input has a kind
abbrev pub early_rows : Limits → ℕ → InputKind → Event → List Refusal
early_rows limits time inputkind event =
    refusal kind_unknown (not (is_known limits event.kind)) ∷
    refusal time_too_large (leb time_limit event.time) ∷
    refusal time_before_state (ltb event.time time) ∷
    refusal input_out_of_range (input_refused (known_row_of limits event.kind) event.input) ∷
    refusal argument_out_of_range (argument_refused event.kind (known_row_of limits event.kind) event.argument) ∷
    refusal wrong_input_kind (is_wrong_kind event.kind inputkind) ∷
    []

-- rows 8 to 13, of a frame event alone
abbrev pub frame_event_rows : ℕ → List ℕ → List Refusal
frame_event_rows kind frame = cond (eqb kind kind_frame) (frame_rows frame) []

-- the number of a frame's reading, 8 to 13 where the frame is refused; of a frame event alone
unfoldable pub frame_refusal : ℕ → FrameRead → ℕ
frame_refusal kind read = cond (eqb kind kind_frame) (number_of_read read) accepted

-- rows 8 to 13 by a frame's reading, all that the code has of it: one row, with the number that it was read with
abbrev pub read_row : ℕ → FrameRead → Refusal
read_row kind read = refusal (frame_refusal kind read) (not (eqb (frame_refusal kind read) accepted))

-- the number of an event that is refused before the tick, by its frame's reading
unfoldable pub early_refusal : Limits → ℕ → InputKind → Event → FrameRead → ℕ
early_refusal limits time inputkind event read =
    first_that_applies (early_rows limits time inputkind event ++ read_row event.kind read ∷ [])

-- "a forced switch stands"
unfoldable pub is_forced_switch : Switch → Bool
is_forced_switch W.Nothing = false
is_forced_switch (W.Forced on) = true
is_forced_switch (W.Manual on) = false

-- "14 to 17 are judged after the tick": a forced or a manual switch
unfoldable pub is_judged_late : ℕ → Bool
is_judged_late kind = eqb kind kind_forced || eqb kind kind_manual

-- what one scan of candidates finds: what a choice sees of an input, and the rank below which no eligible one has any
pub record ScannedOn (candidates : List Candidate) (on : ℕ) (own : Candidate) (best : Rank) : Type 0 where
  pub seen : own ≡ get_or candidates on nobody
  pub lowest : is_eligible own ≡ true → ltb best.0 own.rank.0 ≡ any_lower candidates own.rank

-- rows 14 to 17, for the inputs and the switch after the tick
abbrev pub late_rows : List Candidate → Switch → ℕ → ℕ → List Refusal
late_rows candidates switch kind on =
    refusal forced_barred (eqb kind kind_forced && not (forced_may_stand candidates on)) ∷
    refusal manual_forced_stands (eqb kind kind_manual && is_forced_switch switch) ∷
    refusal manual_not_eligible (eqb kind kind_manual && not (eligible_among candidates on)) ∷
    refusal manual_lower_quality (eqb kind kind_manual && any_lower candidates (get_or candidates on nobody).rank) ∷
    []

-- the number of an event that is refused after the tick
unfoldable pub late_refusal : List Candidate → Switch → ℕ → ℕ → ℕ
late_refusal candidates switch kind on = first_that_applies (late_rows candidates switch kind on)
