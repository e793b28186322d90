-- Document 01, "Choosing": eligible and better. Cited by `src/lib.rt`.
-- Assumes nothing.
use Rattle.std.specs.Prelude.{ℕ, zero, suc, Bool, true, false, not, ◌&&◌, ◌||◌, cond, List, ◌≡◌, leb, ltb, eqb, get_or}
use Rattle.numbers.specs.declared.Priority.{Priority}
use Rattle.numbers.specs.Inputs.{input_count}
use Rattle.numbers.specs.Truth.{alike}
use Rattle.numbers.specs.declared.quality.Quality.{Quality}
use Rattle.numbers.specs.Quality.{not_told, failed, is_failed}
use Rattle.choice.specs.declared.Candidate.{Candidate}
use Rattle.choice.specs.declared.Seen.{Seen}
use Rattle.choice.specs.declared.Rank.{Rank}
use Rattle.choice.specs.Rank.{rank_of, floor_rank, Within}

-- "passed quality not 7, and with quality mode on passed quality" from 1 to the input's floor, by rank
unfoldable pub is_usable : Bool → ℕ → Rank → Quality → Bool
is_usable mode floor rank passed =
    not (is_failed passed) && (not mode || (leb 1 rank.0 && leb rank.0 (floor_rank floor)))

-- a choice sees two inputs alike: in all that it looks at
unfoldable pub is_like : Seen → Seen → Bool
is_like seen other =
    eqb seen.passed.0 other.passed.0 && eqb seen.priority.0 other.priority.0 &&
    eqb seen.floor other.floor &&
    alike seen.locked other.locked

-- "priority not 0, not locked"
unfoldable pub is_admitted : Priority → Bool → Bool
is_admitted priority locked = not (eqb priority.0 0) && not locked

-- "lower passed quality (mode on only)": with mode off all rank alike
unfoldable pub ranked_quality : Bool → Quality → Quality
ranked_quality mode passed = cond mode passed not_told

-- what a choice looks at of an input
unfoldable pub candidate_of : ℕ → ℕ → Quality → Priority → Bool → Bool → Candidate
candidate_of provplace floor passed priority locked mode =
    let quality = ranked_quality mode passed in
    let rank = rank_of provplace quality in
    record {
      quality = quality;
      rank = rank;
      priority = priority;
      admitted = is_admitted priority locked;
      usable = is_usable mode floor rank passed;
    }

-- "Eligible: priority not 0, not locked, passed quality not 7, and with quality mode on passed quality" from 1 to the
-- input's floor
unfoldable pub is_eligible : Candidate → Bool
is_eligible candidate = candidate.admitted && candidate.usable

-- the same, said of one input; `eligible-exact`: `is_eligible (candidate_of ..)` exactly where it holds
pub record EligibleCandidate (provplace floor : ℕ) (passed : Quality) (priority : Priority)
    (locked mode : Bool) : Type 0 where
  pub not_off : priority.0 ≡ 0 → ⊥
  pub not_locked : locked ≡ false
  pub not_failed : passed.0 ≡ failed.0 → ⊥
  pub within : mode ≡ true → Within provplace floor passed

-- "Better: lower passed quality (mode on only), then lower priority number"
unfoldable pub is_better : Candidate → Candidate → Bool
is_better candidate other =
    ltb candidate.rank.0 other.rank.0 ||
    (eqb candidate.rank.0 other.rank.0 && ltb candidate.priority.0 other.priority.0)

-- stands where there is no such input
abbrev pub nobody : Candidate
nobody =
    record { quality = not_told; rank = record { 0 = 0 }; priority = record { 0 = 0 }; admitted = false; usable = false }

-- an input is eligible among candidates
abbrev pub eligible_among : List Candidate → ℕ → Bool
eligible_among candidates number = is_eligible (get_or candidates number nobody)

-- an input is better than another among candidates
abbrev pub better_among : List Candidate → ℕ → ℕ → Bool
better_among candidates number other = is_better (get_or candidates number nobody) (get_or candidates other nobody)

-- one was found before, or this one is eligible and ranks lower
unfoldable pub is_lower : Bool → Candidate → Rank → Bool
is_lower found candidate rank = cond (is_eligible candidate && ltb candidate.rank.0 rank.0) true found

-- "an eligible input has lower passed quality (mode on)", among the first `count`
unfoldable pub lower_among : List Candidate → Rank → ℕ → Bool
lower_among candidates rank zero = false
lower_among candidates rank (suc count) =
    is_lower (lower_among candidates rank count) (get_or candidates count nobody) rank

-- the same among all sixteen
abbrev pub any_lower : List Candidate → Rank → Bool
any_lower candidates rank = lower_among candidates rank input_count
