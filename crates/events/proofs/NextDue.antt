-- L3: the code's next due time is the least of the due moments by the recorded events. Assumes nothing.
use Prim.Native.Nat.{ℕ, suc, ◌+◌, ◌-◌, ◌<◌}
use mathlib.Core.Bool.{Bool, true, false}
use mathlib.Core.Path.{◌≡◌, refl, sym, ap, subst}
use native.Mathlib.Omega.{arith}
use Rattle.input.specs.Recorded.{time_of}
use Rattle.selector.specs.declared.Selector.{Selector}
use Rattle.due.specs.Next.{never, next_due}
use Rattle.due.specs.Each.{one, due_in}
use Rattle.due.proofs.Jump.{next_due-later, due_in-before, due_in-next}
use Rattle.events.specs.Sequence.{Sequence, state_after}
use Rattle.events.specs.Due.{is_due}
use Rattle.events.specs.NextDue.{NextRight}
use Rattle.events.specs.Past.{recorded, made_in}
use Rattle.events.proofs.Calm.{sequence-calm}
use Rattle.events.proofs.Extra.{sequence-ever}
use Rattle.events.proofs.Agrees.{due-each, sequence-agrees}

-- a test that counts as none fails, one that counts as 1 holds
one_none : (test : Bool) → one test ≡ 0 → test ≡ false
unfolding one
one_none true none = absurd (omega arith)
one_none false none = refl

one-some : (test : Bool) → one test ≡ 1 → test ≡ true
unfolding one
one-some true some = refl
one-some false some = absurd (omega arith)

module _ (sequence : Sequence) where
  abbrev state : Selector
  state = state_after sequence

  abbrev last : ℕ
  last = time_of (recorded sequence)

  here : state.time ≡ last
  here = (sequence-agrees sequence).time

  -- whether a millisecond counts as due is one more due moment or none
  counted : (count : ℕ)
      → due_in (suc count) state ≡ due_in count state + one (is_due (recorded sequence) (suc (last + count)))
  unfolding due_in
  counted count =
      ap (λ (test : Bool). due_in count state + one test)
      (due-each state (recorded sequence) (made_in sequence) (sequence-agrees sequence) count)

  none-due : (count : ℕ) → suc (last + count) < next_due state → is_due (recorded sequence) (suc (last + count)) ≡ false
  none-due count before =
      one_none (is_due (recorded sequence) (suc (last + count)))
      (omega (
        arith,
        counted count,
        due_in-before state (sequence-calm sequence) (suc count) (omega (arith, here)),
        due_in-before state (sequence-calm sequence) count (omega (arith, here)),
      ))

  next-due : (count : ℕ) → next_due state ≡ suc (last + count) → next_due state < never
      → is_due (recorded sequence) (suc (last + count)) ≡ true
  next-due count next ever =
      one-some (is_due (recorded sequence) (suc (last + count)))
      (omega (
        arith,
        counted count,
        due_in-next state (sequence-calm sequence) count (omega (arith, here, next)) ever,
        due_in-before state (sequence-calm sequence) count (omega (arith, here, next)),
      ))

  -- L3, for every sequence of events
  pub next-right : NextRight (recorded sequence) (next_due (state_after sequence))
  next-right =
      let after : last < next_due state = omega (arith, here, next_due-later state (sequence-ever sequence)) in
      record {
        later = after;
        due = λ ever. let count : ℕ = next_due state - suc last in
            let next : next_due state ≡ suc (last + (next_due state - suc last)) = omega arith in
            subst (λ (time : ℕ). is_due (recorded sequence) time ≡ true) (sym next)
            (next-due (next_due state - suc last) next ever);
        none = λ time past before.
            let same : time ≡ suc (last + (time - suc last)) = omega arith in
            subst (λ (moment : ℕ). is_due (recorded sequence) moment ≡ false) (sym same)
            (none-due (time - suc last) (omega arith));
      }
