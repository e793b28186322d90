-- The self-test's definitions, a law for each way through the function that meets it. Assumes nothing.
use Prim.Native.Nat.{ℕ, suc, ◌+◌, ◌≤◌, ◌<◌}
use mathlib.Core.Bool.{Bool, true, ◌&&◌, and-true, and_assoc}
use mathlib.Core.List.{List, []}
use mathlib.Core.Path.{◌≡◌, refl, sym, ◌∙◌, ap}
use native.Mathlib.Numerals.{add-one}
use native.Mathlib.Omega.{arith}
use lib.Dec.{ltb}
use lib.ListN.{length, get_or, drop, drop_of_length-le}
use lib.Seq.{drop-cons}
use mir.Val.{bool_byte}
use borrow.Author.Tests.{ltb-true}
use Rattle.numbers.specs.declared.profile.Profile.TheVariants as P
use Rattle.numbers.specs.Kind.{flag}
use Rattle.frame.specs.Write.{written_length}
use Rattle.numbers.proofs.Truth.{by_bool}
use Rattle.quickstep.specs.Watch.{Watch, fresh_watch}
use Rattle.card.specs.declared.self_test.TestLine.{TestLine}
use Rattle.card.specs.SelfTest.{test_lines, lent_octets, tested_watch, is_told, answered_right, self_test}
use Rattle.card.proofs.Same.{bool_byte_flag}

-- ---- lent_octets

pub lent_octets-most : (octets : ℕ) → lent_octets octets ≤ written_length
unfolding lent_octets
lent_octets-most octets =
    by_bool (ltb octets written_length) (λ short. rw short (omega (arith, ltb-true octets written_length short)))
    (λ long. rw long (omega arith))

-- ---- answered_right: the loop of `self_test`

-- what is left to answer, with what was answered, is the whole
abbrev pub Answered : List TestLine → ℕ → Bool → Watch → Type 0
Answered lines at right watch =
    (right && answered_right (drop at lines) watch) ≡ answered_right lines (fresh_watch P.OptionOne)

answered_no_line : (watch : Watch) → answered_right [] watch ≡ true
unfolding answered_right
answered_no_line watch = refl

pub answered-none : (lines : List TestLine) (watch : Watch) → watch ≡ fresh_watch P.OptionOne → Answered lines 0 true watch
answered-none lines watch fresh = rw fresh

pub answered-more : (lines : List TestLine) (at : ℕ) (right same : Bool) (watch after : Watch) (zeroed : TestLine)
    → Answered lines at right watch → at < length lines
    → after ≡ tested_watch watch (get_or lines at zeroed)
    → same ≡ is_told after.answer (get_or lines at zeroed)
    → Answered lines (at + 1) (right && same) after
unfolding answered_right
answered-more lines at right same watch after zeroed before inside a s =
    rw (add-one at, and_assoc right same (answered_right (drop (suc at) lines) after), s, a)
    (ap (λ (left : List TestLine). right && answered_right left watch) (sym (drop-cons lines at zeroed inside)) ∙ before)

pub answered-all : (lines : List TestLine) (at : ℕ) (right : Bool) (watch : Watch)
    → Answered lines at right watch → length lines ≤ at → lines ≡ test_lines
    → bool_byte right ≡ self_test
unfolding self_test
answered-all lines at right watch before past is =
    bool_byte_flag right
    ∙ ap flag
    (sym (and-true right)
    ∙ ap (λ (rest : Bool). right && rest) (sym (answered_no_line watch))
    ∙ ap (λ (left : List TestLine). right && answered_right left watch) (sym (drop_of_length-le lines past))
    ∙ before
    ∙ ap (λ (whole : List TestLine). answered_right whole (fresh_watch P.OptionOne)) is)
