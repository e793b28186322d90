-- The definitions of `specs/`, a law for each way through the function that meets it. Assumes nothing.
use Prim.Native.Nat.{ℕ, ◌≤◌, ◌<◌}
use mathlib.Core.Bool.{Bool, true, false}
use mathlib.Core.List.{List}
use mathlib.Core.Path.{◌≡◌, sym, ◌∙◌, ap}
use lib.ListN.{get_or}
use borrow.Author.Tests.{eq-eqb, ne_eqb, lt-ltb, le-ltb}
use Rattle.numbers.specs.declared.Answer.{Answer}
use Rattle.numbers.specs.declared.profile.Profile.{Profile}
use Rattle.numbers.specs.Inputs.{last_input}
use Rattle.numbers.specs.Profile.{start_number, profile_in}
use Rattle.numbers.specs.Refusal.{accepted, input_out_of_range, argument_out_of_range}
use Rattle.frame.specs.Write.{Writing, WriteFrame}
use Rattle.selector.specs.declared.Selector.{Selector}
use Rattle.selector.specs.Answer.{answer_of, outgoing_codes}
use Rattle.quickstep.specs.Watch.{Watch, watch_of, fresh_watch}
use Rattle.sender.specs.Heartbeat.{code_of_port}
use Rattle.card.specs.Lent.{with_number, names_option, start_lent, is_ranged, ranged_watch, number_of_write, WritePort}

-- ---- start_lent

module _ (watch : Watch) (option provplace marks : ℕ) (named : Bool) (is : named ≡ names_option option) where
  pub start_neither : (kept : Watch) → named ≡ false → kept ≡ with_number watch argument_out_of_range
      → kept ≡ start_lent watch option provplace marks
  unfolding start_lent
  start_neither kept other k = k ∙ (rw (← is, other))

  module _ (chosen : named ≡ true) (number : ℕ) (n : number ≡ start_number option provplace) where
    pub start_fresh : (profile : Profile) → profile ≡ profile_in option provplace marks → (new : Watch)
        → number ≡ accepted → new ≡ fresh_watch profile
        → new ≡ start_lent watch option provplace marks
    unfolding start_lent
    start_fresh profile p new a f =
        f ∙
        ap fresh_watch p ∙
        (rw (← is, chosen, eq-eqb (start_number option provplace) accepted (sym n ∙ a)))

    pub start_refused : (kept : Watch) → (number ≡ accepted → ⊥) → kept ≡ with_number watch number
        → kept ≡ start_lent watch option provplace marks
    unfolding start_lent
    start_refused kept a k =
        k ∙ ap (λ (given : ℕ). with_number watch given) n
        ∙ (rw (← is, chosen, ne_eqb (start_number option provplace) accepted (λ e. a (n ∙ e))))

-- ---- ranged_watch

module _ (watch : Watch) (ranged : Bool) (is : ranged ≡ is_ranged watch.answer) where
  pub ranged_kept : ranged ≡ true → watch ≡ ranged_watch watch
  unfolding ranged_watch
  ranged_kept y = rw (← is, y)

  pub ranged_anew : (answer : Answer) (after : Watch) → ranged ≡ false → answer ≡ answer_of accepted watch.state
      → after ≡ watch_of watch.state watch.due answer 0
      → after ≡ ranged_watch watch
  unfolding ranged_watch
  ranged_anew answer after n a e =
      e ∙ ap (λ (told : Answer). watch_of watch.state watch.due told 0) a ∙ (rw (← is, n))

-- ---- WritePort

module _ (state : Selector) (port : ℕ) (event : Bool) (source before : List ℕ) where
  pub write_port_no_port :
      (answer : ℕ) → last_input < port → answer ≡ input_out_of_range
      → WritePort state port event source before answer before
  write_port_no_port answer p a = record { answered = rw (lt-ltb _ _ p, a); content = rw (lt-ltb _ _ p) }

  pub write_port_port : (codes : List ℕ) (written : Writing) (answer : ℕ) (after : List ℕ)
      → port ≤ last_input → codes ≡ outgoing_codes state
      → WriteFrame before source event (get_or codes port 0) written after → answer ≡ number_of_write written
      → WritePort state port event source before answer after
  write_port_port codes written answer after p c w a =
      let code : get_or codes port 0 ≡ code_of_port state port = rw c in
      record {
        answered = rw (le-ltb _ _ p, a, w.answered, code);
        content = rw (le-ltb _ _ p, w.content, code);
      }

pub ruleset writePort-laws = (write_port_no_port, write_port_port)
