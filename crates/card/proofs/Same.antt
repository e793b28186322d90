-- Whether a card is sound, a law for each way through the functions that ask it. Assumes nothing.
use Prim.Native.Nat.{ℕ, ◌+◌, ◌≤◌}
use mathlib.Core.Bool.{Bool, true, false, ◌&&◌, beq}
use mathlib.Core.List.{List}
use mathlib.Core.Path.{◌≡◌, refl, ap, ◌∙◌}
use native.Mathlib.Omega.{arith}
use native.Mathlib.Numerals.{add-one}
use lib.Dec.{eqb, leb, ltb}
use lib.ListN.{get_or}
use mir.Val.{bool_byte}
use Rattle.std.specs.Prelude.{Option}
use Rattle.numbers.specs.declared.InputNumber.{InputNumber}
use Rattle.numbers.specs.declared.Answer.{Answer}
use Rattle.numbers.specs.Inputs.{time_limit}
use Rattle.numbers.specs.Kind.{flag}
use Rattle.numbers.specs.Refusal.{accepted}
use Rattle.input.specs.declared.Input.{Input}
use Rattle.input.specs.Record.{fresh_input}
use Rattle.switch.specs.declared.Switch.{Switch}
use Rattle.selector.specs.declared.Selector.{Selector}
use Rattle.selector.specs.Clock.{selected_number, switch_number, switch_input}
use Rattle.selector.specs.Answer.{answer_of}
use Rattle.due.specs.Next.{next_due}
use Rattle.due.specs.Served.{Served, served_of, served, ticked}
use Rattle.quickstep.specs.Watch.{Watch}
use Rattle.card.specs.Sound.{same_run, same_among, same_runs, same_once, same_answer, is_sound}

-- a yes or no as a number
pub bool_byte_flag : (yes : Bool) → bool_byte yes ≡ flag yes
bool_byte_flag true = refl
bool_byte_flag false = refl

-- two of them are the same as their numbers are
same_flag : (one other : Bool) → beq one other ≡ eqb (flag one) (flag other)
same_flag true true = refl
same_flag true false = refl
same_flag false true = refl
same_flag false false = refl

pub same_among-none : (ones others : List Input) → true ≡ same_among ones others 0
unfolding same_among
same_among-none ones others = refl

pub same_among-more : (ones others : List Input) (count : ℕ) (same next : Bool) (one other : Input)
    → same ≡ same_among ones others count
    → one ≡ get_or ones count fresh_input → other ≡ get_or others count fresh_input
    → next ≡ (same && same_run one other)
    → next ≡ same_among ones others (count + 1)
unfolding same_among
same_among-more ones others count same next one other s o t n = rw (add-one count) (n ∙ (λ j. s j && same_run (o j) (t j)))

pub same_among-all : (ones others : List Input) (count : ℕ) (same : Bool) → same ≡ same_among ones others count
    → count ≤ 16 → 16 ≤ count
    → same ≡ same_runs ones others
same_among-all ones others count same s h k = let z : count ≡ 16 = omega arith in s ∙ (rw z)

-- switch, selection and whether the clock was ever locked, call by call
pub once_told : (one other : Selector) (ours theirs : Switch) (mine its : Option InputNumber) (waslocked was : Bool)
    (kind sort on at number place : ℕ)
    → ours ≡ one.switch → theirs ≡ other.switch → mine ≡ one.selection → its ≡ other.selection
    → waslocked ≡ one.waslocked → was ≡ other.waslocked
    → kind ≡ switch_number ours → sort ≡ switch_number theirs → on ≡ switch_input ours → at ≡ switch_input theirs
    → number ≡ selected_number mine → place ≡ selected_number its
    → (eqb kind sort && eqb on at && eqb number place && beq waslocked was) ≡ same_once one other
unfolding same_once
once_told one other ours theirs mine its waslocked was kind sort on at number place o t m i h w k s n a e p =
    rw (k, s, n, a, e, p, o, t, m, i, h, w, same_flag one.waslocked other.waslocked)

-- the whole, call by call
pub sound-told : (watch : Watch) (time next count : ℕ) (answer : Answer) (again : Selector) (runs once told : Bool)
    → time ≡ watch.state.time → next ≡ next_due watch.state → answer ≡ answer_of accepted watch.state
    → served_of again count ≡ served watch.state time
    → runs ≡ same_runs watch.state.inputs again.inputs
    → once ≡ same_once watch.state again
    → told ≡ same_answer watch.answer answer
    → bool_byte (ltb time time_limit && runs && once && ltb time watch.due && leb watch.due next && told)
    ≡ is_sound watch
unfolding is_sound
sound-told watch time next count answer again runs once told t n a s r o d =
    let state = watch.state in
    let there : again ≡ ticked state state.time =
    ap (λ (one : Served). one.state) s ∙ ap (λ (at : ℕ). ticked state at) t in
    ap flag
    (λ j.
    ltb (t j) time_limit && (r ∙ ap (λ (one : Selector). same_runs state.inputs one.inputs) there) j &&
    (o ∙ ap (λ (one : Selector). same_once state one) there) j &&
    ltb (t j) watch.due &&
    leb watch.due (n j) &&
    (d ∙ ap (λ (one : Answer). same_answer watch.answer one) a) j)
