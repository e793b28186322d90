-- A program goes on from turn to turn, and ends: what was taken is all that its input is answered with, or the
-- beginning of it. Assumes nothing.
use Prim.Native.Nat.{ℕ, zero, suc, ◌+◌, ◌≤◌}
use mathlib.Core.Bool.{Bool, true, false, true≢false}
use mathlib.Core.List.{List, [], ◌++◌, append_assoc, append-nil}
use mathlib.Core.Path.{◌≡◌, refl, sym, ap, ◌∙◌}
use native.Mathlib.Omega.{arith}
use borrow.Author.Tests.{ne_eqb}
use Rattle.std.specs.Prelude.{Option, Some, None, Result, Ok, Err}
use lib.ListN.{length, take, drop, length-append, take-append-drop}
use lib.Seq.{length-take-le}
use Rattle.calls.specs.declared.Ending.{Ending}
use Rattle.calls.specs.declared.Ending.TheVariants.{Whole, Unread, Unwritten, Closed}
use Rattle.calls.specs.declared.Ended.{Ended}
use Rattle.calls.specs.declared.Failure.{Failure}
use Rattle.calls.specs.Calls.{is_whole, ended_by, read_ending, octets_moved, Delivered, Unsent, unwritten, closed, TextTaken}
use Rattle.calls.specs.Answered.{
  Begins,
  GoesOn,
  TakenUntil,
  all,
  cut,
  stopped,
  unread,
  Answered,
  TurnEnded,
  on,
  over,
  EndedRight,
}
use Rattle.calls.proofs.CallsLaws.{delivered_within, is_whole_true, ended_by_whole, ended_by_cut, text-whole, text-less}

-- ---- a turn

-- a piece was read behind an input
module _ (input chunk : List ℕ) (octets before after : ℕ) (outcome : Result ℕ Failure) (is : before ≡ length input)
    (delivered : Delivered (length chunk) before outcome after) (moved : octets ≡ octets_moved outcome) where
  pub piece-within : octets ≤ length chunk
  piece-within = omega (arith, delivered_within outcome delivered)

  pub piece-count : after ≡ length (input ++ take octets chunk)
  piece-count =
      omega (
        arith,
        delivered.read,
        length-append input (take octets chunk),
        length-take-le octets chunk piece-within,
      )

  pub piece-none : octets ≡ 0 → after ≡ length (input ++ [])
  piece-none none = omega (arith, delivered.read, ap length (append-nil input))

-- where nothing was read, it was the input's end or a read that failed
read_ending_false : (outcome : Result ℕ Failure) → is_whole (read_ending outcome) ≡ false → read_ending outcome ≡ Unread
read_ending_false (Ok zero) ends = absurd (true≢false ends)
read_ending_false (Ok (suc octets)) _ = rw (ne_eqb (suc octets) 0 (λ none. omega arith))
read_ending_false (Err failure) _ = refl

module _ {so_far whole : List ℕ → List ℕ} {Carried : List ℕ → Type 0} where
  -- a read failed
  pub turn-unread : {Before : List ℕ → Type 0} (read sent : ℕ) (outcome : Result ℕ Failure) (ending : Ending)
      → GoesOn so_far Before read sent
      → ending ≡ read_ending outcome
      → is_whole ending ≡ false
      → TurnEnded so_far whole Carried read sent (Some ending)
  turn-unread read sent outcome ending goes is ends =
      let unreadable : ending ≡ Unread = is ∙ read_ending_false outcome (sym (ap is_whole is) ∙ ends) in
      over ending
      (record { input = goes.input; count = goes.count; taken = rw (unreadable, goes.taken) unread })

  -- an input of which a piece more was read, and the text that it is answered with on top of what was taken before
  module _ (input : List ℕ) (text : List ℕ) (before read sent : ℕ) (ending : Ending) (count : read ≡ length input)
      (over-text : TextTaken (length text) before ending sent) where
    -- not all was taken
    pub turn_stopped : is_whole ending ≡ false → before + length text ≡ length (so_far input)
        → TurnEnded so_far whole Carried read sent (Some ending)
    turn_stopped ends size =
        let less = text-less over-text ends in
        over ending
        (record { input = input; count = count; taken = stopped ending sent less.1 (omega (arith, less.0)) })

    -- the piece was answered
    pub turn-taken : (ended : Option Ending) → ended ≡ ended_by ending → before + length text ≡ length (so_far input)
        → Carried input
        → TurnEnded so_far whole Carried read sent ended
    turn-taken ended is size carried = go (is_whole ending) refl
      where
        go : (test : Bool) → is_whole ending ≡ test → TurnEnded so_far whole Carried read sent ended
        go true test =
            rw (is ∙ ended_by_whole ending test)
            (on (record {
              input = input;
              carried = carried;
              count = count;
              taken = text-whole over-text test ∙ size;
            }))
        go false test = rw (is ∙ ended_by_cut ending test) (turn_stopped test size)

    -- the input's end
    pub turn_last : before + length text ≡ length (whole input)
        → TurnEnded so_far whole Carried read sent (Some ending)
    turn_last size = go (is_whole ending) refl
      where
        go : (test : Bool) → is_whole ending ≡ test → TurnEnded so_far whole Carried read sent (Some ending)
        go true test =
            rw (is_whole_true ending test, text-whole over-text test ∙ size)
            (over Whole (record { input = input; count = count; taken = all }))
        go false test =
            let less = text-less over-text test in
            over ending
            (record { input = input; count = count; taken = cut ending sent less.1 (omega (arith, less.0)) })

  pub turn_on : {read sent : ℕ} {ended : Option Ending} → ended ≡ None
      → TurnEnded so_far whole Carried read sent ended
      → GoesOn so_far Carried read sent
  turn_on is (on goes) = goes
  turn_on is (over ending answered) = absurd (cc)

  -- the turns are used up: the input was not read to its end
  pub goes-unread : {read sent : ℕ} → GoesOn so_far Carried read sent
      → Answered so_far whole (record { ending = Unread; read = read; sent = sent })
  goes-unread goes = record { input = goes.input; count = goes.count; taken = rw goes.taken unread }

-- ---- that this is right

-- a text's front is its beginning, and that of any text that begins with it
pub front-begins : (count : ℕ) (text whole : List ℕ) → Begins text whole → Begins (take count text) whole
front-begins count text whole begins = (
  drop count text ++ begins.0,
  (
      begins.1 ∙ ap (λ (one : List ℕ). one ++ begins.0) (sym (take-append-drop count text))
      ∙ append_assoc (take count text) (drop count text) begins.0
      ),
)

abbrev is_unread : Ending → Bool
is_unread Whole = false
is_unread Unread = true
is_unread Unwritten = false
is_unread Closed = false

begins-all : (text : List ℕ) → Begins text text
begins-all text = ([], sym (append-nil text))

unsent-read : (ending : Ending) → Unsent ending → ending ≡ Unread → ⊥
unsent-read _ unwritten is = true≢false (sym (ap is_unread is))
unsent-read _ closed is = true≢false (sym (ap is_unread is))

unsent-whole : (ending : Ending) → Unsent ending → ending ≡ Whole → ⊥
unsent-whole _ unwritten is = true≢false (sym (ap is_whole is))
unsent-whole _ closed is = true≢false (sym (ap is_whole is))

-- WHAT A PROGRAM WRITES IS RIGHT, however it ended: of any program whose answers so far stay, whatever follows
module _ (so_far whole : List ℕ → List ℕ)
    (stays : (input more : List ℕ) → Begins (so_far input) (whole (input ++ more))) where
  pub ended-right : (ended : Ended) → Answered so_far whole ended → EndedRight so_far whole ended
  ended-right ended answered = go ended.ending ended.sent refl refl answered.taken
    where
      input : List ℕ
      input = answered.input

      go : (ending : Ending) (sent : ℕ) → ended.ending ≡ ending → ended.sent ≡ sent
          → TakenUntil so_far whole input ending sent
          → EndedRight so_far whole ended
      go _ _ e s all =
          record {
            input = input;
            text = whole input;
            read = answered.count;
            sent = s;
            at_end = true;
            all = λ _. refl;
            unread = λ is. absurd (true≢false (sym (ap is_unread (sym e ∙ is))));
            last = λ _. begins-all (whole input);
            beginning = λ no. absurd (true≢false no);
          }
      go _ _ e s (cut ending sent unsent less) =
          record {
            input = input;
            text = take sent (whole input);
            read = answered.count;
            sent = s ∙ sym (length-take-le sent (whole input) (omega arith));
            at_end = true;
            all = λ is. absurd (unsent-whole ending unsent (sym e ∙ is));
            unread = λ is. absurd (unsent-read ending unsent (sym e ∙ is));
            last = λ _. front-begins sent (whole input) (whole input) (begins-all (whole input));
            beginning = λ no. absurd (true≢false no);
          }
      go _ _ e s (stopped ending sent unsent less) =
          record {
            input = input;
            text = take sent (so_far input);
            read = answered.count;
            sent = s ∙ sym (length-take-le sent (so_far input) (omega arith));
            at_end = false;
            all = λ is. absurd (unsent-whole ending unsent (sym e ∙ is));
            unread = λ is. absurd (unsent-read ending unsent (sym e ∙ is));
            last = λ no. absurd (true≢false (sym no));
            beginning = λ _ more. front-begins sent (so_far input) (whole (input ++ more)) (stays input more);
          }
      go _ _ e s unread =
          record {
            input = input;
            text = so_far input;
            read = answered.count;
            sent = s;
            at_end = false;
            all = λ is. absurd (true≢false (sym (ap is_whole (sym e ∙ is))));
            unread = λ _. refl;
            last = λ no. absurd (true≢false (sym no));
            beginning = λ _ more. stays input more;
          }
