-- Document 02, L12: "argument any sixteen bits; in option I it stays unknown": of a word no argument is out of range,
-- in either option.
-- Assumes nothing.
use Prim.Native.Nat.{ℕ, ◌≤◌}
use mathlib.Core.Bool.{Bool, true, false, cond}
use mathlib.Core.Path.{◌≡◌}
use native.Mathlib.Omega.{arith}
use borrow.Author.Tests.{le-ltb}
use Rattle.std.proofs.Common.{Option, Some, None}
use Rattle.numbers.specs.declared.profile.Limits.{Limits}
use Rattle.numbers.specs.declared.kind.KindRow.{KindRow}
use Rattle.numbers.specs.Kind.{kind_word, known_row_of, row, is_argument_out, argument_refused}

module _ (argument : ℕ) (inside : argument ≤ 65535) where
  known-or-not : (words : Bool) → argument_refused kind_word (cond words (row 0 65535 false) None) argument ≡ false
  unfolding is_argument_out
  known-or-not true = rw (le-ltb argument 0 (omega arith), le-ltb 65535 argument inside)
  known-or-not false = rw (le-ltb argument 0 (omega arith), le-ltb 65535 argument inside)

  pub word_argument-any : (limits : Limits) → argument_refused kind_word (known_row_of limits kind_word) argument ≡ false
  unfolding known_row_of
  word_argument-any limits = known-or-not limits.words
