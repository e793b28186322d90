-- One sender in C's hands, a law for each way through the functions that lend it. Assumes nothing.
use Prim.Native.Nat.{ℕ, ◌≤◌, ◌<◌}
use mathlib.Core.List.{List}
use mathlib.Core.Path.{◌≡◌, refl, sym, ap, ◌∙◌}
use native.Mathlib.Omega.{arith}
use lib.ListN.{get_or, length}
use Rattle.numbers.specs.Inputs.{last_input}
use Rattle.selector.specs.declared.Selector.{Selector}
use Rattle.selector.specs.Answer.{outgoing_codes}
use Rattle.selector.proofs.SelectorLaws.{get_d_past}
use Rattle.sender.specs.declared.Heartbeat.{Heartbeat}
use Rattle.sender.specs.declared.Sender.{Sender}
use Rattle.sender.specs.Heartbeat.{code_of_port}
use Rattle.sender.specs.Sender.{one_with, AskedOne, AskOne}
use Rattle.card.specs.Asking.{sender_times, sender_numbers, heartbeat_told, AskLent}

-- ---- the code of a port

codes-length : (state : Selector) → length (outgoing_codes state) ≡ 16
unfolding outgoing_codes
codes-length state = refl

module _ (state : Selector) (port : ℕ) where
  pub code-none : last_input < port → 0 ≡ code_of_port state port
  code-none past =
      let l : length (outgoing_codes state) ≤ port = omega (arith, codes-length state) in
      sym (get_d_past (outgoing_codes state) port 0 l)

  pub code-there : (codes : List ℕ) → codes ≡ outgoing_codes state → get_or codes port 0 ≡ code_of_port state port
  code-there codes c = ap (λ (list : List ℕ). get_or list port 0) c

pub ruleset code_laws = (code-none, code-there)

-- ---- a question, call by call

pub asked-lent : (sender before : Sender) (state : Selector) (port time : ℕ) (source buffer : List ℕ) (code : ℕ)
    (next : Sender) (heartbeat : Heartbeat) (frames : List ℕ) (answer : ℕ) (after : List ℕ)
    → before ≡ sender
    → code ≡ code_of_port state port
    → AskOne before port time code source buffer (one_with next heartbeat) after
    → frames ≡ sender_times next
    → answer ≡ heartbeat_told heartbeat
    → AskLent sender state port time source buffer frames (sender_numbers next) answer after
asked-lent sender before state port time source buffer code next heartbeat frames answer after b c a f t =
    go (rw (b, c) at a)
  where
    go : AskOne sender port time (code_of_port state port) source buffer (one_with next heartbeat) after
        → AskLent sender state port time source buffer frames (sender_numbers next) answer after
    go one =
        record {
          times = f ∙ ap (λ (told : AskedOne). sender_times told.sender) one.answered;
          numbers = ap (λ (told : AskedOne). sender_numbers told.sender) one.answered;
          answered = t ∙ ap (λ (told : AskedOne). heartbeat_told told.heartbeat) one.answered;
          content = one.content;
        }
