-- What the definitions of `specs/Calls` come to, way by way. Assumes nothing.
use Prim.Native.Nat.{ℕ, zero, suc, ◌+◌, ◌-◌, ◌≤◌, ◌<◌, min}
use mathlib.Core.Bool.{Bool, true, false, cond, true≢false}
use mathlib.Core.List.{List}
use mathlib.Core.Path.{◌≡◌, refl, sym, ap, ◌∙◌}
use native.Mathlib.Omega.{arith}
use borrow.Author.Tests.{ltb-true, eq-eqb, ne_eqb}
use lib.Dec.{eqb}
use Rattle.std.specs.Prelude.{Some, None, Result, Ok, Err}
use lib.IntN.{ℤ, pos, negsuc}
use lib.ListN.{length, take, drop, length-drop}
use lib.Seq.{take_all}
use lib.Signed.{lt_z}
use mir.Syntax.{w32}
use mir.Val.{SFits, of_z, to_z}
use mir.Facts.{to_z-of_z}
use Rattle.calls.specs.declared.Ending.{Ending}
use Rattle.calls.specs.declared.Ending.TheVariants.{Whole, Unread, Unwritten, Closed}
use Rattle.calls.specs.declared.Failure.{Failure}
use Rattle.calls.specs.declared.Failure.TheVariants.{Interrupted, NoReader, Failed}
use Rattle.calls.specs.Calls.{
  interrupted,
  no_reader,
  failure_of,
  outcome_of,
  CameTo,
  Delivered,
  is_whole,
  ended_by,
  octets_moved,
  write_ending,
  PartTaken,
  Unsent,
  unwritten,
  closed,
  TextTaken,
  all,
  part,
}

-- ---- failure_of

pub failure_of-interrupted : (error : ℤ) → SFits w32 error → of_z w32 error ≡ interrupted → Interrupted ≡ failure_of error
unfolding failure_of
failure_of-interrupted error fits is =
    let e : error ≡ pos interrupted = sym (to_z-of_z fits) ∙ ap (to_z w32) is in
    rw e

pub failure_of-no_reader : (error : ℤ) → SFits w32 error → of_z w32 error ≡ no_reader → NoReader ≡ failure_of error
unfolding failure_of
failure_of-no_reader error fits is =
    let e : error ≡ pos no_reader = sym (to_z-of_z fits) ∙ ap (to_z w32) is in
    rw e

pub failure_of-failed : (error : ℤ) → (of_z w32 error ≡ interrupted → ⊥) → (of_z w32 error ≡ no_reader → ⊥)
    → Failed ≡ failure_of error
unfolding failure_of
failure_of-failed (pos error) neither nor = rw (ne_eqb error interrupted neither, ne_eqb error no_reader nor)
failure_of-failed (negsuc error) neither nor = refl

-- ---- what a call came to

outcome_of-within : (answer : Result ℕ ℤ) (size : ℕ) → octets_moved (outcome_of answer size) ≤ size
outcome_of-within (Ok octets) size = omega arith
outcome_of-within (Err error) size = omega arith

-- no call moves more than it was lent
came-within : (size : ℕ) (outcome : Result ℕ Failure) → CameTo size outcome → octets_moved outcome ≤ size
came-within size outcome came = rw came.is (outcome_of-within came.answer size)

pub moved-within : (answer : Result ℕ ℤ) (size : ℕ) (outcome : Result ℕ Failure) → outcome ≡ outcome_of answer size
    → octets_moved outcome ≤ size
moved-within answer size outcome is = rw is (outcome_of-within answer size)

pub sum_is : (one other some more : ℕ) → one ≡ other → some ≡ more → one + some ≡ other + more
sum_is one other some more is also = omega arith

-- a call may have failed
pub delivered_failed : (size before after : ℕ) → after ≡ before → Delivered size before (outcome_of (Err (pos 0)) size) after
unfolding failure_of
delivered_failed size before after is =
    record {
      came = record { answer = Err (pos 0); is = refl };
      settled = refl;
      read = omega arith;
    }

-- what was read is within the chunk's buffer
pub delivered_within : {size before after : ℕ} (outcome : Result ℕ Failure) → Delivered size before outcome after
    → octets_moved outcome ≤ size
delivered_within {size} outcome delivered = came-within size outcome delivered.came

-- ---- a part

pub part-within : {size before after : ℕ} {ending : Ending} → PartTaken size before ending after
    → (before ≤ after) × (after ≤ before + size)
part-within {size} taken =
    let within = came-within size taken.outcome taken.came in
    (omega (arith, taken.sent), omega (arith, taken.sent, within))

-- a write that ends the writing took nothing
part_none : {size before after : ℕ} {ending : Ending} → PartTaken size before ending after → is_whole ending ≡ false
    → after ≡ before
part_none {size} {before} taken ends =
    omega (arith, taken.sent, go taken.outcome (rw taken.ended at ends))
  where
    go : (outcome : Result ℕ Failure) → is_whole (write_ending outcome) ≡ false → octets_moved outcome ≡ 0
    go (Ok zero) _ = refl
    go (Ok (suc octets)) whole = absurd (true≢false (rw (ne_eqb (suc octets) 0 (λ none. omega arith)) at whole))
    go (Err Interrupted) whole = absurd (true≢false whole)
    go (Err NoReader) _ = refl
    go (Err Failed) _ = refl

-- and left something unsent
part-unsent : {size before after : ℕ} {ending : Ending} → PartTaken size before ending after → is_whole ending ≡ false
    → Unsent ending
part-unsent taken ends =
    rw taken.ended (go taken.outcome (rw taken.ended at ends))
  where
    go : (outcome : Result ℕ Failure) → is_whole (write_ending outcome) ≡ false → Unsent (write_ending outcome)
    go (Ok zero) _ = unwritten
    go (Ok (suc octets)) whole = absurd (true≢false (rw (ne_eqb (suc octets) 0 (λ none. omega arith)) at whole))
    go (Err Interrupted) whole = absurd (true≢false whole)
    go (Err NoReader) _ = closed
    go (Err Failed) _ = unwritten

-- ---- a text

-- what is left of a text, so much of which was taken
pub rest-is : (text : List ℕ) (start done sent : ℕ) → sent ≡ start + done → done ≤ length text
    → take (length text - done) (drop done text) ≡ drop (sent - start) text
rest-is text start done sent from inside =
    let place : done ≡ sent - start = omega arith in
    take_all (length text - done) (drop done text) (omega (arith, length-drop done text))
    ∙ ap (λ (n : ℕ). drop n text) place

-- after a part of it more was taken, and no more than all
pub rest-on : (text : List ℕ) (start done sent after : ℕ) (ending : Ending) → sent ≡ start + done → done < length text
    → PartTaken (length (take (length text - done) (drop done text))) sent ending after
    → (after ≡ start + (after - start)) × (after - start ≤ length text)
rest-on text start done sent after ending from inside taken =
    let size : length (take (length text - done) (drop done text)) ≡ length text - done =
    ap length (take_all (length text - done) (drop done text) (omega (arith, length-drop done text)))
    ∙ length-drop done text in
    let within = part-within taken in
    (omega (arith, within.0), omega (arith, within.0, within.1, size))

pub text-all : (size before after : ℕ) (ending : Ending) → after ≡ before + size → ending ≡ Whole
    → TextTaken size before ending after
text-all size before after ending is whole = rw (is, whole) all

-- no more is written
pub text-left : (size start done sent : ℕ) → sent ≡ start + done → done < size → TextTaken size start Unwritten sent
text-left size start done sent from less = part Unwritten sent (omega arith) (omega arith) unwritten

pub text-none : (room size start : ℕ) → room < size → TextTaken size start Unwritten start
text-none room size start less = part Unwritten start (omega arith) (omega arith) unwritten

-- a write that ends the writing adds nothing to what was taken
pub text-part : {piece size start done before after : ℕ} {ending : Ending} → before ≡ start + done → done < size
    → PartTaken piece before ending after → is_whole ending ≡ false
    → TextTaken size start ending after
text-part {before = before} {after = after} {ending = ending} from less taken ends =
    let none : after ≡ before = part_none taken ends in
    part ending after (omega arith) (omega arith) (part-unsent taken ends)

pub text-within : {size before after : ℕ} {ending : Ending} → TextTaken size before ending after
    → (before ≤ after) × (after ≤ before + size)
text-within all = (omega arith, omega arith)
text-within (part ending after from less unsent) = (from, omega arith)

-- all of it was taken where the ending says so
pub text-whole : {size before after : ℕ} {ending : Ending} → TextTaken size before ending after
    → is_whole ending ≡ true
    → after ≡ before + size
text-whole all whole = refl
text-whole (part ending after from less unwritten) whole = absurd (true≢false (sym whole))
text-whole (part ending after from less closed) whole = absurd (true≢false (sym whole))

-- and otherwise less
pub text-less : {size before after : ℕ} {ending : Ending} → TextTaken size before ending after
    → is_whole ending ≡ false
    → (after < before + size) × Unsent ending
text-less all ends = absurd (true≢false ends)
text-less (part ending after from less unsent) ends = (less, unsent)

-- the turns go on where all was taken, and otherwise end as the write did
pub ended_by_whole : (ending : Ending) → is_whole ending ≡ true → ended_by ending ≡ None
ended_by_whole Whole _ = refl
ended_by_whole Unread whole = absurd (true≢false (sym whole))
ended_by_whole Unwritten whole = absurd (true≢false (sym whole))
ended_by_whole Closed whole = absurd (true≢false (sym whole))

pub ended_by_cut : (ending : Ending) → is_whole ending ≡ false → ended_by ending ≡ Some ending
ended_by_cut Whole ends = absurd (true≢false ends)
ended_by_cut Unread _ = refl
ended_by_cut Unwritten _ = refl
ended_by_cut Closed _ = refl

pub is_whole_true : (ending : Ending) → is_whole ending ≡ true → ending ≡ Whole
is_whole_true Whole _ = refl
is_whole_true Unread whole = absurd (true≢false (sym whole))
is_whole_true Unwritten whole = absurd (true≢false (sym whole))
is_whole_true Closed whole = absurd (true≢false (sym whole))
