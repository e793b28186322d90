-- The definitions of `specs/`, a law for each turn of the loops of `inplace` that meet them. Assumes nothing.
use Prim.Native.Nat.{ℕ, zero, suc, ◌+◌, ◌-◌, ◌≤◌, ◌<◌}
use mathlib.Core.Bool.{Bool}
use mathlib.Core.List.{List}
use mathlib.Core.Path.{◌≡◌, refl, sym, ◌∙◌, ap}
use native.Mathlib.Omega.{arith}
use native.Mathlib.Numerals.{add-one}
use lib.ListN.{length, get_or}
use borrow.Author.Tests.{le-leb, lt-leb}
use Rattle.input.specs.declared.Input.{Input}
use Rattle.input.specs.Record.{fresh_input}
use Rattle.selector.specs.declared.Selector.{Selector}
use Rattle.selector.specs.State as State
use Rattle.selector.proofs.SelectorLaws.{get_d_any}
use Rattle.due.specs.Next.{never, lesser, next_of, next_among, next_of_all, next_due}
use Rattle.due.specs.Served.{served_of, served_from, served}

-- ---- next_among: the loop of `next_of_all`

pub next_among-none : (inputs : List Input) (mode : Bool) (time : ℕ) → never ≡ next_among inputs mode time 0
unfolding next_among
next_among-none inputs mode time = refl

pub next_among-more : (inputs : List Input) (mode : Bool) (time count due one next : ℕ) (zeroed : Input)
    → due ≡ next_among inputs mode time count
    → one ≡ next_of (get_or inputs count zeroed) mode time → next ≡ lesser due one → length inputs ≡ 16 → count < 16
    → next ≡ next_among inputs mode time (count + 1)
unfolding next_among
next_among-more inputs mode time count due one next zeroed d o n h lt =
    let m : count < length inputs = omega arith in
    let k : get_or inputs count zeroed ≡ get_or inputs count fresh_input = get_d_any inputs count zeroed fresh_input m in
    rw (add-one count) (rw (← k, ← o, ← d) n)

pub next_among-all : (inputs : List Input) (mode : Bool) (time count due : ℕ) → due ≡ next_among inputs mode time count
    → count ≤ 16
    → 16 ≤ count
    → due ≡ next_of_all inputs mode time
next_among-all inputs mode time count due d h k = let z : count ≡ 16 = omega arith in d ∙ (rw z)

pub ruleset nextAmong-laws = (next_among-none, next_among-more, next_among-all)

-- ---- served_from: the loop of `tick`

module _ (state : Selector) (count time : ℕ) where
  served_from-more : (left : ℕ) → next_due state ≤ time
      → served_from (suc left) state count time
      ≡ served_from left (State.ticked_once state (next_due state)) (count + 1) time
  unfolding served_from
  served_from-more left h = rw (le-leb _ _ h)

  served_from-last : (left : ℕ) → time < next_due state
      → served_from left state count time ≡ served_of (State.ticked_once state time) count
  unfolding served_from
  served_from-last zero h = refl
  served_from-last (suc left) h = rw (lt-leb _ _ h)

  served_from_full : served_from 0 state count time ≡ served_of (State.ticked_once state time) count
  unfolding served_from
  served_from_full = refl

-- what is left to do after some turns is what was to be done at first
abbrev pub LeftToDo : Selector → ℕ → Selector → ℕ → Type 0
LeftToDo state time now count = served_from (48 - count) now count time ≡ served state time

module _ (state : Selector) (time : ℕ) where
  pub left-first : LeftToDo state time state 0
  unfolding served
  left-first = refl

  module _ (now : Selector) (count : ℕ) (todo : LeftToDo state time now count) where
    -- a turn
    pub left-turn : (due : ℕ) (next : Selector) → due ≡ next_due now → due ≤ time → count < 48
        → next ≡ State.ticked_once now due
        → LeftToDo state time next (count + 1)
    left-turn due next d h lt n =
        let z : 48 - count ≡ suc (48 - (count + 1)) = omega arith in
        let k : next_due now ≤ time = omega arith in
        ap (λ (s : Selector). served_from (48 - (count + 1)) s (count + 1) time) (n ∙ ap (State.ticked_once now) d) ∙
        sym (served_from-more now count time (48 - (count + 1)) k) ∙
        ap (λ (left : ℕ). served_from left now count time) (sym z) ∙
        todo

    -- the end: nothing more is due
    pub left-last : (due : ℕ) (last : Selector) → due ≡ next_due now → time < due → last ≡ State.ticked_once now time
        → served_of last count ≡ served state time
    left-last due last d h n =
        let k : time < next_due now = omega arith in
        ap (λ (s : Selector). served_of s count) n ∙ sym (served_from-last now count time (48 - count) k) ∙ todo

    -- the end: no more may be served
    pub left_full : (last : Selector) → 48 ≤ count → last ≡ State.ticked_once now time
        → served_of last count ≡ served state time
    left_full last h n =
        let z : 48 - count ≡ 0 = omega arith in
        ap (λ (s : Selector). served_of s count) n ∙
        sym (served_from_full now count time) ∙
        ap (λ (left : ℕ). served_from left now count time) (sym z) ∙
        todo
