-- The definitions of `specs/`, a law for each way through where it takes more than they say. Assumes nothing.
use Prim.Native.Nat.{ℕ, ◌≤◌, ◌<◌}
use mathlib.Core.Bool.{Bool, true, false}
use mathlib.Core.List.{List, [], ◌∷◌, ◌++◌, append-nil}
use mathlib.Core.Path.{◌≡◌, refl, sym, ◌∙◌, ap}
use native.Mathlib.Omega.{arith}
use lib.Dec.{eqb, ltb}
use lib.ListN.{length, get_or, set, take, drop}
use lib.Seq.{drop-length}
use Rattle.std.specs.List.{copy_within}
use Rattle.std.proofs.lemmas.List.{set-get_or}
use borrow.Author.Tests.{eq-eqb, ne_eqb, lt-ltb, le-ltb, eqb-true, leb-false, ltb-false, not-false}
use Rattle.numbers.specs.Inputs.{last_input, input_count, time_limit}
use Rattle.numbers.specs.Refusal.{accepted, time_too_large, argument_out_of_range}
use Rattle.numbers.proofs.Rows.{none-exact}
use Rattle.numbers.proofs.Truth.{by_bool}
use Rattle.frame.specs.Write.{Writing, written_length, source_length, largest_code, WriteFrame}
use Rattle.frame.proofs.WriteLaws.{write_answer-written}
use Rattle.selector.specs.declared.Selector.{Selector}
use Rattle.selector.specs.Answer.{outgoing_codes}
use Rattle.selector.proofs.SelectorLaws.{get_d_any, get_d_past}
use Rattle.sender.specs.declared.Heartbeat.{Heartbeat}
use Rattle.sender.specs.declared.Heartbeat.TheVariants as H
use Rattle.sender.specs.declared.Sender.{Sender}
use Rattle.sender.specs.declared.Senders.{Senders}
use Rattle.sender.specs.Heartbeat.{Question, question_of, question_rows, code_asked, question_number, content_by}
use Rattle.sender.specs.Sender.{Asked, AskedOne, fresh_sender, heartbeat_of, after_heartbeat, sender_at, asked_number, with_sender, answered_with, asked, AskSenders, last_asked, one_number, one_with, asked_one, AskOne}
use Rattle.sender.proofs.Codes.{code_of_port-small}

-- ---- ten times

-- nine of ten times moved behind, and one in front: the ten latest
pub latest_ten : (times moved : List ℕ) (time : ℕ) → length times ≡ 10 → moved ≡ copy_within times 0 9 1
    → set moved 0 time ≡ take 10 (time ∷ times)
latest_ten [] moved time size _ = absurd (omega arith)
latest_ten (x ∷ rest) moved time size is =
    let nine : 9 ≡ length rest = omega arith in
    let none : drop 9 rest ≡ [] = ap (λ (n : ℕ). drop n rest) nine ∙ drop-length rest in
    rw is
    (ap (λ (tail : List ℕ). time ∷ (take 9 (x ∷ rest) ++ tail)) none
    ∙ ap (λ (tail : List ℕ). time ∷ tail) (append-nil (take 9 (x ∷ rest))))

-- ---- content_by

module _ (heartbeat : Heartbeat) (event : Bool) (code : ℕ) (source before : List ℕ) (written : Writing) (after : List ℕ)
    (write : WriteFrame before source event code written after)
    (small : code ≤ largest_code) (six : length source ≡ source_length) (long : written_length ≤ length before) where
  pub content_by-information : heartbeat ≡ H.Information → event ≡ false → after ≡ content_by heartbeat code source before
  content_by-information case flag =
      write.content ∙ (rw (write_answer-written before source code small six long, case, flag))

  pub content_by-event : heartbeat ≡ H.Event → event ≡ true → after ≡ content_by heartbeat code source before
  content_by-event case flag =
      write.content ∙ (rw (write_answer-written before source code small six long, case, flag))

pub ruleset contentBy-laws = (content_by-information, content_by-event)

-- ---- what an accepted question brings

-- a question that no row refuses; `early` says whether its time is earlier than that of the port's last one
pub record Fit (early : Bool) (port time room octets : ℕ) : Type 0 where
  pub in_time : time < time_limit
  pub after : early ≡ false
  pub inside : port ≤ last_input
  pub long : written_length ≤ room
  pub six : octets ≡ source_length

pub question_number-fit : (early : Bool) (port time room octets : ℕ)
    → question_number early port time room octets ≡ accepted
    → Fit early port time room octets
unfolding question_number
question_number-fit early port time room octets none =
    let rows = (none-exact time_too_large (question_rows early port time room octets) (omega arith) refl).0 none in
    record {
      in_time = leb-false _ _ rows.0;
      after = rows.1.0;
      inside = ltb-false _ _ rows.1.1.0;
      long = ltb-false _ _ rows.1.1.1.0;
      six = eqb-true _ _ (not-false _ rows.1.1.1.1.0);
    }

module _ (asked port time room octets number : ℕ)
    (given : number ≡ question_number (ltb time asked) port time room octets) (none : number ≡ accepted) where
  fit : Fit (ltb time asked) port time room octets
  fit = question_number-fit _ port time room octets (sym given ∙ none)

  pub source-six : octets ≡ source_length
  source-six = fit.six

  pub buffer-long : written_length ≤ room
  buffer-long = fit.long

pub ruleset lent-laws = (source-six, buffer-long)

-- ---- one sender by itself

pub last_asked-port : (sender : Sender) (port : ℕ) → port ≤ last_input → sender.asked ≡ last_asked sender port
unfolding last_asked
last_asked-port sender port inside = rw (le-ltb _ _ inside)

module _ (sender : Sender) (port time code : ℕ) (source before : List ℕ) (last number : ℕ)
    (l : last ≡ last_asked sender port)
    (given : number ≡ question_number (ltb time last) port time (length before) (length source)) where
  one_same : number ≡ one_number sender port time source before
  one_same = given ∙ ap (λ (one : ℕ). question_number (ltb time one) port time (length before) (length source)) l

  pub one-refused : (number ≡ accepted → ⊥)
      → AskOne sender port time code source before (one_with sender (H.Refused number)) before
  unfolding asked_one
  one-refused refused =
      record { answered = rw (← one_same, ne_eqb _ _ refused); content = rw (← one_same, ne_eqb _ _ refused) }

  pub one_no_code : number ≡ accepted → largest_code < code
      → AskOne sender port time code source before (one_with sender (H.Refused argument_out_of_range)) before
  unfolding asked_one
  one_no_code none above =
      record {
        answered = rw (← one_same, eq-eqb _ _ none, lt-ltb _ _ above);
        content = rw (← one_same, eq-eqb _ _ none, lt-ltb _ _ above);
      }

  pub one-accepted : (heartbeat : Heartbeat) (next : Sender) (after : List ℕ) → number ≡ accepted → code ≤ largest_code
      → heartbeat ≡ heartbeat_of sender time code → next ≡ after_heartbeat heartbeat sender time code
      → after ≡ content_by heartbeat code source before
      → AskOne sender port time code source before (one_with next heartbeat) after
  unfolding asked_one
  one-accepted heartbeat next after none small beat kept content =
      record {
        answered = rw (← one_same, eq-eqb _ _ none, le-ltb _ _ small, kept, beat);
        content = content ∙ (rw (← one_same, eq-eqb _ _ none, le-ltb _ _ small, beat));
      }

-- ---- AskSenders

module _ (senders : Senders) (port time : ℕ) (state : Selector) (source before : List ℕ) where
  abbrev question : Question
  question = question_of port time state source before

  module _ (sixteen : length senders.ports ≡ input_count) where
    -- a port above 15 has no sender
    pub ask_no_port : (number : ℕ) → last_input < port
        → number ≡ question_number (ltb time 0) port time (length before) (length source)
        → AskSenders senders question (answered_with senders (H.Refused number)) before
    unfolding asked
    ask_no_port number past given =
        let beyond : length senders.ports ≤ port = omega arith in
        let same : number ≡ asked_number senders question =
        given ∙ (rw (get_d_past senders.ports port fresh_sender beyond)) in
        let refused : number ≡ accepted → ⊥ =
        λ none. let fit = question_number-fit _ _ _ _ _ (sym given ∙ none) in omega (arith, fit.inside) in
        record { answered = rw (← same, ne_eqb _ _ refused); content = rw (← same, ne_eqb _ _ refused) }

    module _ (inside : port ≤ last_input) where
      -- what is asked of a port's sender by itself
      abbrev asked_there : AskedOne
      asked_there = asked_one (sender_at senders port) port time (code_asked question) source before

      one-number : one_number (sender_at senders port) port time source before ≡ asked_number senders question
      one-number =
          ap (λ (last : ℕ). question_number (ltb time last) port time (length before) (length source))
          (sym (last_asked-port (sender_at senders port) port inside))

      -- any other's sender is asked by itself
      asked-there : asked senders question ≡ answered_with (with_sender senders port asked_there.sender) asked_there.heartbeat
      unfolding asked asked_one
      asked-there =
          by_bool (eqb (asked_number senders question) accepted)
          (λ none. rw (one-number, none, le-ltb _ _ (code_of_port-small state port)))
          (λ refused.
          rw (one-number, refused)
          (ap (λ (ports : List Sender). answered_with (record { ports = ports }) (H.Refused (asked_number senders question)))
          (sym (set-get_or senders.ports port fresh_sender))))

      pub ask-port : (zeroed : Sender) (codes : List ℕ) (next : Sender) (heartbeat : Heartbeat) (after : List ℕ)
          → codes ≡ outgoing_codes state
          → AskOne (get_or senders.ports port zeroed) port time (get_or codes port 0) source before (one_with next heartbeat) after
          → AskSenders senders question (answered_with (with_sender senders port next) heartbeat) after
      ask-port zeroed codes next heartbeat after told one =
          let within : port < length senders.ports = omega arith in
          let found : get_or senders.ports port zeroed ≡ sender_at senders port =
          get_d_any senders.ports port zeroed fresh_sender within in
          let code : get_or codes port 0 ≡ code_asked question = rw told in
          let same : asked_one (get_or senders.ports port zeroed) port time (get_or codes port 0) source before ≡ asked_there =
          rw (found, code) in
          let answer : one_with next heartbeat ≡ asked_there = one.answered ∙ same in
          record {
            answered =
                ap (λ (one : AskedOne). answered_with (with_sender senders port one.sender) one.heartbeat) answer
                ∙ sym asked-there;
            content =
                one.content
                ∙ ap (λ (one : AskedOne). content_by one.heartbeat (get_or codes port 0) source before) same
                ∙ ap (λ (number : ℕ). content_by asked_there.heartbeat number source before) code
                ∙ ap (λ (answer : Asked). content_by answer.heartbeat (code_asked question) source before) (sym asked-there);
          }

  -- the promise admits one answer and one content
  pub ask_senders_unique : (one other : Asked) (after later : List ℕ) → AskSenders senders question one after
      → AskSenders senders question other later
      → (one ≡ other) × (after ≡ later)
  ask_senders_unique one other after later first second =
      (first.answered ∙ sym second.answered, first.content ∙ sym second.content)
