-- Rows of octets: when two are the same, and what a row put into a buffer leaves there.
-- Assumes nothing.
use Prim.Native.Nat.{ℕ, ◌+◌, ◌-◌, ◌≤◌, ◌<◌}
use mathlib.Core.Bool.{Bool, true, false, ◌&&◌, false≢true}
use mathlib.Core.List.{List, [], ◌∷◌, ◌++◌, append_assoc}
use mathlib.Core.Logic.{◌≢◌}
use mathlib.Core.Path.{◌≡◌, refl, sym, ap, ◌∙◌}
use native.Mathlib.Nat.{add_assoc, zero-add}
use native.Mathlib.Omega.{arith}
use borrow.Author.Tests.{eq-eqb, eqb-true}
use lib.Dec.{eqb}
use native.Mathlib.Numerals.{add-one}
use lib.ListN.{length, get_or, set, take, drop, length-append}
use lib.Seq.{paste, paste-suc, take-paste, drop-paste, take-length, drop-drop}
use Rattle.frame.specs.Octets.{same}
use Rattle.frame.specs.Write.{put_octets}

-- ---- same

pub same_true : (one other : List ℕ) → same one other ≡ true → one ≡ other
unfolding same
same_true [] [] _ = refl
same_true [] (other ∷ others) equal = absurd (false≢true equal)
same_true (one ∷ ones) [] equal = absurd (false≢true equal)
same_true (one ∷ ones) (other ∷ others) equal = go (eqb one other) refl (same_true ones others) equal
  where
    go :
        (test : Bool) → eqb one other ≡ test
        → (same ones others ≡ true → ones ≡ others)
        → (test && same ones others) ≡ true
        → one ∷ ones ≡ other ∷ others
    go true first later rest = rw (eqb-true one other first, later rest)
    go false _ _ rest = absurd (false≢true rest)

same_itself : (row : List ℕ) → same row row ≡ true
unfolding same
same_itself [] = refl
same_itself (octet ∷ octets) = rw (eq-eqb octet octet refl) (same_itself octets)

pub same_false : (one other : List ℕ) → same one other ≡ false → one ≢ other
same_false one other differ equal = false≢true (sym differ ∙ ap (same one) (sym equal) ∙ same_itself one)

pub same-other : (one other : List ℕ) → one ≢ other → same one other ≡ false
same-other one other differ = go (same one other) refl
  where
    go : (test : Bool) → same one other ≡ test → same one other ≡ false
    go true equal = absurd (differ (same_true one other equal))
    go false unequal = unequal

-- ---- a row put into a buffer, octet by octet

module _ (before row buffer : List ℕ) (start put : ℕ) (fits : start + length row ≤ length before) where
  pub paste_put :
      put < length row
      → buffer ≡ paste before start row put
      → set buffer (start + put) (get_or row put 0) ≡ paste before start row (put + 1)
  paste_put left holds =
      let inside : start + put < length before = omega arith in
      rw (holds, paste-suc before start row put 0, add-one)

-- ---- two rows put one behind the other are one row

paste_paste : (before front row : List ℕ) (start : ℕ) → start + length front ≤ length before
    → paste (paste before start front (length front)) (start + length front) row (length row)
    ≡ paste before start (front ++ row) (length (front ++ row))
paste_paste before front row start fits =
    let inside : start ≤ length before = omega arith in
    let whole : length front ≤ length front = omega arith in
    rw (
      ← drop-drop (length row) (start + length front) (paste before start front (length front)),
      drop-paste before start front (length front),
      take-paste before start front (length front),
      drop-drop (length row) (start + length front) before,
      take-length front,
      take-length row,
      take-length (front ++ row),
      length-append front row,
      add_assoc start (length front) (length row),
      append_assoc (take start before) front row,
    )

-- rows that together are `front` have been put, and the next octet is number `next`
pub record Put (before : List ℕ) (first : ℕ) (front : List ℕ) (next : ℕ) (buffer : List ℕ) : Type 0 where
  pub content : buffer ≡ put_octets before first front
  pub reached : first + length front ≡ next

pub put-row : (before row after : List ℕ) (first next : ℕ)
    → after ≡ put_octets before first row
    → first + length row ≡ next
    → Put before first row next after
put-row before row after first next row_put reaches = record { content = row_put; reached = reaches }

pub put_next : (before front buffer row after : List ℕ) (first next beyond : ℕ)
    → Put before first front next buffer
    → after ≡ put_octets buffer next row
    → next + length row ≡ beyond
    → 0 < first
    → next ≤ length before + 1
    → Put before first (front ++ row) beyond after
unfolding put_octets
put_next before front buffer row after first next beyond put row_put reaches from-1 fits =
    let place : next - 1 ≡ first - 1 + length front = omega arith in
    record {
      content = rw (row_put, put.content, place, paste_paste before front row (first - 1) (omega arith));
      reached = rw (length-append front row) (omega arith);
    }

-- a row put from octet 1 on is the front of the buffer
pub put_octets-front : (before row : List ℕ) → put_octets before 1 row ≡ row ++ drop (length row) before
unfolding put_octets
put_octets-front before row = rw (take-length row, zero-add (length row))
