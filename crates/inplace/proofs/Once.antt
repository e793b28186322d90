-- Numbers stored among those that stand once change what stands there, and no input. Assumes nothing.
use Prim.Native.Nat.{ℕ, ◌+◌, ◌*◌, ◌<◌, ◌≤◌}
use mathlib.Core.Bool.{Bool, true, cond, ◌&&◌}
use mathlib.Core.List.{List, [], ◌∷◌}
use mathlib.Core.Path.{◌≡◌, refl, ap, ◌∙◌, fun_ext}
use mir.Val.{bool_byte}
use native.Mathlib.Omega.{arith}
use lib.Dec.{eqb, ltb}
use lib.ListN.{set, length, length-set}
use lib.Seq.{get_or-set_same, get_or-set_other}
use borrow.Author.Tests.{eqb-true, eqb-false, ltb-true}
use Rattle.numbers.proofs.Truth.{by_bool, both_first, both-second}
use Rattle.numbers.proofs.Places.{provplace-read}
use Rattle.numbers.specs.declared.profile.ProvPlace.{ProvPlace}
use Rattle.numbers.specs.declared.profile.Profile.{Profile}
use Rattle.numbers.specs.declared.profile.Profile.TheVariants as P
use Rattle.numbers.specs.Profile.{profile_with, profile_in, option_of, prov_place_of, marks_of}
use Rattle.switch.specs.declared.AfterChoice.{AfterChoice}
use Rattle.switch.specs.declared.Switch.{Switch}
use Rattle.selector.specs.Clock.{selected_number, switch_number, switch_input}
use Rattle.selector.specs.State.{with_choice}
use Rattle.selector.proofs.Ports.{ports-same}
use Rattle.inplace.specs.Lists.{column, rest, input_in, input_at, selector_in, selector_at, is_selected, with_time, with_profile, with_command, held_switch, held_choice}
use Rattle.inplace.proofs.Columns.{put, puts, is_set_byte}

-- numbers stored among those that stand once, one after another, in a list
abbrev pub onces : List ℕ → ℕ → List (ℕ × ℕ) → List ℕ
onces list from [] = list
onces list from (pair ∷ pairs) = onces (set list (from + pair.0) pair.1) from pairs

-- the first fields alone
abbrev cut : ℕ → (ℕ → ℕ) → ℕ → ℕ
cut count fields field = cond (ltb field count) (fields field) 0

-- each place is below the list's end
abbrev pub all_in : ℕ → List (ℕ × ℕ) → Bool
all_in room [] = true
all_in room (pair ∷ pairs) = ltb pair.0 room && all_in room pairs

module _ (count : ℕ) where
  once_column : (list : List ℕ) (place value at : ℕ) → at < 16
      → cut count (column (set list (16 * count + place) value) at) ≡ cut count (column list at)
  once_column list place value at h =
      fun_ext
      (λ field.
      by_bool (ltb field count)
      (λ e.
      let k : field < count = ltb-true field count e in
      rw e (get_or-set_other list (16 * count + place) (at + 16 * field) value 0 (λ q. omega arith)))
      (λ e. rw e))

  pub onces-column : (pairs : List (ℕ × ℕ)) (list : List ℕ) (at : ℕ) → at < 16
      → cut count (column (onces list (16 * count) pairs) at) ≡ cut count (column list at)
  onces-column [] list at h = refl
  onces-column (pair ∷ pairs) list at h =
      onces-column pairs (set list (16 * count + pair.0) pair.1) at h ∙
      once_column list pair.0 pair.1 at h

once_rest : (list : List ℕ) (from place value : ℕ) → from + place < length list
    → rest (set list (from + place) value) from ≡ put (rest list from) place value
once_rest list from place value h =
    fun_ext
    (λ other.
    by_bool (eqb other place)
    (λ e.
    let k : other ≡ place = eqb-true other place e in
    rw (e, k) (get_or-set_same list (from + place) value 0 h))
    (λ e.
    let k : other ≡ place → ⊥ = eqb-false other place e in
    rw e (get_or-set_other list (from + place) (from + other) value 0 (λ q. k (omega arith)))))

pub onces-rest : (from room : ℕ) (pairs : List (ℕ × ℕ)) (list : List ℕ) → all_in room pairs ≡ true
    → from + room ≤ length list
    → rest (onces list from pairs) from ≡ puts (rest list from) pairs
onces-rest from room [] list below long = refl
onces-rest from room (pair ∷ pairs) list below long =
    let a : pair.0 < room = ltb-true _ _ (both_first (ltb pair.0 room) (all_in room pairs) below) in
    let b : all_in room pairs ≡ true = both-second (ltb pair.0 room) (all_in room pairs) below in
    let l : length (set list (from + pair.0) pair.1) ≡ length list = length-set list _ _ in
    onces-rest from room pairs (set list (from + pair.0) pair.1) b (omega arith) ∙
    ap (λ (fields : ℕ → ℕ). puts fields pairs) (once_rest list from pair.0 pair.1 (omega arith))

-- ---- the state

module _ (times small wider : List ℕ) (ts ss ws : List (ℕ × ℕ))
    (tsame : rest (onces times 32 ts) 32 ≡ puts (rest times 32) ts)
    (ssame : rest (onces small 224 ss) 224 ≡ puts (rest small 224) ss)
    (wsame : rest (onces wider 32 ws) 32 ≡ puts (rest wider 32) ws) where
  each : (port : ℕ) → port < 16
      → input_at (onces times 32 ts) (onces small 224 ss) (onces wider 32 ws) port ≡ input_at times small wider port
  unfolding input_at
  each port h = λ j.
      input_in (onces-column 2 ts times port h j) (onces-column 14 ss small port h j) (onces-column 2 ws wider port h j)

  pub selector_once : selector_at (onces times 32 ts) (onces small 224 ss) (onces wider 32 ws)
      ≡ selector_in (selector_at times small wider).inputs (puts (rest times 32) ts) (puts (rest small 224) ss)
      (puts (rest wider 32) ws)
  unfolding selector_at
  selector_once = λ j.
      selector_in
      (ports-same (input_at (onces times 32 ts) (onces small 224 ss) (onces wider 32 ws)) (input_at times small wider) each j)
      (tsame j)
      (ssame j)
      (wsame j)

-- ---- what is stored together

pub time-stored : (times : List ℕ) (time : ℕ) → length times ≡ 33
    → (small wider : List ℕ) → selector_at (set times 32 time) small wider ≡ with_time (selector_at times small wider) time
unfolding selector_at
time-stored times time long small wider =
    let ts : List (ℕ × ℕ) = (0, time) ∷ [] in
    selector_once times small wider ts [] [] (onces-rest 32 1 ts times refl (omega arith)) refl refl

-- the numbers of a choice stored
abbrev pub choice_in : List ℕ → Bool → ℕ → ℕ → ℕ → ℕ → List ℕ
choice_in small waslocked kind on selection number =
    set (set (set (set (set small 225 (bool_byte waslocked)) 226 kind) 227 on) 228 selection) 229 number

pub choice-stored : (small : List ℕ) (choice : AfterChoice) (kind on selection number : ℕ) → length small ≡ 232
    → kind ≡ switch_number choice.switch → on ≡ switch_input choice.switch
    → selection ≡ is_selected choice.selection
    → number ≡ selected_number choice.selection
    → (times wider : List ℕ)
    → selector_at times (choice_in small choice.waslocked kind on selection number) wider
    ≡ with_choice (selector_at times small wider) (held_choice choice)
unfolding selector_at
choice-stored small choice kind on selection number wide k o s n times wider =
    let ss : List (ℕ × ℕ) =
    (1, bool_byte choice.waslocked) ∷ (2, kind) ∷ (3, on) ∷ (4, selection) ∷ (5, number) ∷ [] in
    selector_once times small wider [] ss [] refl (onces-rest 224 8 ss small refl (omega arith)) refl ∙
    rw (is_set_byte choice.waslocked, k, o, s, n)

-- the numbers of a command stored
abbrev pub command_in : List ℕ → Bool → ℕ → ℕ → List ℕ
command_in small mode kind on = set (set (set small 224 (bool_byte mode)) 226 kind) 227 on

pub command-stored : (small : List ℕ) (mode : Bool) (switch : Switch) (kind on : ℕ) → length small ≡ 232
    → kind ≡ switch_number switch → on ≡ switch_input switch
    → (times wider : List ℕ)
    → selector_at times (command_in small mode kind on) wider
    ≡ with_command (selector_at times small wider) mode (held_switch switch)
unfolding selector_at
command-stored small mode switch kind on wide k o times wider =
    let ss : List (ℕ × ℕ) = (0, bool_byte mode) ∷ (2, kind) ∷ (3, on) ∷ [] in
    selector_once times small wider [] ss [] refl (onces-rest 224 8 ss small refl (omega arith)) refl ∙
    rw (is_set_byte mode, k, o)

-- a profile of its numbers
pub profile_in-back : (profile : Profile)
    → profile_in (option_of profile) (prov_place_of profile) (marks_of profile) ≡ profile
unfolding profile_in profile_with option_of prov_place_of marks_of
profile_in-back P.OptionOne = refl
profile_in-back (P.OptionTwo provplace marks) = ap (λ (read : ProvPlace). P.OptionTwo read marks)
    (provplace-read provplace)

pub profile-stored : (small wider : List ℕ) (profile : Profile) (option provplace marks : ℕ) → length small ≡ 232
    → length wider ≡ 33
    → option ≡ option_of profile → provplace ≡ prov_place_of profile → marks ≡ marks_of profile
    → (times : List ℕ)
    → selector_at times (set (set small 230 option) 231 provplace) (set wider 32 marks)
    ≡ with_profile (selector_at times small wider) profile
unfolding selector_at
profile-stored small wider profile option provplace marks wide high o p m times =
    let ss : List (ℕ × ℕ) = (6, option) ∷ (7, provplace) ∷ [] in
    let ws : List (ℕ × ℕ) = (0, marks) ∷ [] in
    selector_once times small wider [] ss ws refl (onces-rest 224 8 ss small refl (omega arith))
    (onces-rest 32 1 ws wider refl (omega arith)) ∙
    rw (o, p, m, profile_in-back profile)
