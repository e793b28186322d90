-- 08FF goes out exactly with sending off or for STU, and what a port tells of the clock reads back. Cites
-- `demand_2_answers` and `never-usable`. Assumes nothing.
use Prim.Native.Nat.{ℕ, zero, suc, ◌≤◌, ◌<◌}
use mathlib.Core.Bool.{Bool, true, false, not, ◌&&◌, ◌||◌}
use mathlib.Core.Logic.{◌⊎◌, inl, inr, ◌≢◌}
use mathlib.Core.Path.{◌≡◌, refl, sym, ◌∙◌, ap, subst}
use native.Mathlib.Omega.{arith}
use lib.Dec.{eqb}
use lib.ListN.{get_or}
use borrow.Author.Tests.{eqb-true, eqb-false}
use Rattle.numbers.specs.declared.quality.Quality.{Quality}
use Rattle.numbers.specs.declared.profile.ProvPlace.{ProvPlace}
use Rattle.numbers.specs.declared.profile.Profile.{Profile}
use Rattle.numbers.specs.declared.profile.Profile.TheVariants as P
use Rattle.numbers.specs.From.{profile_of}
use Rattle.numbers.specs.Inputs.{input_count}
use Rattle.numbers.specs.Profile.{limits_of, number_of_prov_place, prov_place_of, marks_of, halved, is_marked, told_by}
use Rattle.numbers.specs.Quality.{quality, stu, tnc, st3e, st4, prov}
use Rattle.numbers.specs.Codes.{said_by, sign_of, quality_of_code, code_of_quality, quality_of_word, word_of_quality, word_stu}
use Rattle.numbers.proofs.Truth.{by_bool, both_first}
use Rattle.input.specs.Recorded.{mode_on, is_sending, floor_of}
use Rattle.choice.specs.Rank.{is_placed, Within}
use Rattle.selector.specs.Clock.{clock_quality, outgoing_code, outgoing_word}
use Rattle.selector.proofs.Ports.{get_d_ports}
use Rattle.events.specs.Sequence.{Sequence}
use Rattle.events.specs.Past.{Past, past_of, recorded}
use Rattle.events.specs.Told.{candidate_selected, quality_by, told_at, is_selected_port, code_by, word_by}
use Rattle.events.specs.Outgoing.{TellsClock, word_at, code_at, OutgoingRight}
use Rattle.events.proofs.Agrees.{recorded-profile}
use Rattle.events.proofs.Demand2.{demand_2_answers}
use Rattle.events.proofs.Usable.{quality-stated, something_usable, floor_range}

-- ---- tables read back, by the number of a quality

-- one of the first nine numbers
nine : (C : ℕ → Type 0) (number : ℕ) → 1 ≤ number → number ≤ 9 → C 1 → C 2 → C 3 → C 4 → C 5 → C 6 → C 7 → C 8 → C 9
    → C number
nine C number h k one two three four five six seven eight last =
    at 1 h one (λ a. at 2 a two (λ b. at 3 b three (λ c. at 4 c four (λ d. at 5 d five (λ e. at 6 e six
    (λ f. at 7 f seven (λ g. at 8 g eight (λ i. at 9 i last (λ j. absurd (omega (arith, k, j)))))))))))
  where
    later : (known : ℕ) → known ≤ number → (number ≡ known → ⊥) → suc known ≤ number
    later known low other = omega arith

    at : (known : ℕ) → known ≤ number → C known → (suc known ≤ number → C number) → C number
    at known low here other =
        by_bool (eqb number known)
        (λ same. subst C (sym (eqb-true number known same)) here)
        (λ no. other (later known low (eqb-false number known no)))

word-back : (number : ℕ) → 1 ≤ number → number ≤ 9
    → quality_of_word (word_of_quality (quality number)) ≡ quality number
unfolding quality_of_word word_of_quality said_by sign_of
word-back number h k =
    nine (λ number. quality_of_word (word_of_quality (quality number)) ≡ quality number) number h k
    refl refl refl refl refl refl refl refl refl

code-back-one : (number : ℕ) → 1 ≤ number → number ≤ 4
    → quality_of_code P.OptionOne (code_of_quality P.OptionOne (quality number)) ≡ quality number
unfolding quality_of_code code_of_quality said_by sign_of
code-back-one number h k =
    nine (λ number. number ≤ 4 → quality_of_code P.OptionOne (code_of_quality P.OptionOne (quality number)) ≡ quality number)
    number h (omega arith)
    (λ _. refl) (λ _. refl) (λ _. refl) (λ _. refl)
    (λ h. absurd (omega arith)) (λ h. absurd (omega arith)) (λ h. absurd (omega arith)) (λ h. absurd (omega arith))
    (λ h. absurd (omega arith))
    k

code-back-two : (provplace : ProvPlace) (marks number : ℕ) → 1 ≤ number → number ≤ 9 → (number ≡ 8 → ⊥)
    → quality_of_code (P.OptionTwo provplace marks) (code_of_quality (P.OptionTwo provplace marks) (quality number)) ≡ quality number
unfolding quality_of_code code_of_quality said_by sign_of
code-back-two provplace marks number h k other =
    nine
    (λ number. (number ≡ 8 → ⊥)
    → quality_of_code (P.OptionTwo provplace marks) (code_of_quality (P.OptionTwo provplace marks) (quality number)) ≡ quality number)
    number h k
    (λ _. refl) (λ _. refl) (λ _. refl) (λ _. refl) (λ _. refl) (λ _. refl) (λ _. refl)
    (λ no. absurd (no refl))
    (λ _. refl)
    other

-- ---- the quality that is told

-- option I has no marks
halved-zero : (port : ℕ) → halved port 0 ≡ 0
unfolding halved
halved-zero zero = refl
halved-zero (suc port) = rw (halved-zero port)

unmarked : (port : ℕ) → is_marked 0 port ≡ false
unmarked port = rw (halved-zero port)

-- what is told of a clock: a number from 1 to the last floor, or PROV's in option II
abbrev Telling : Profile → ℕ → Type 0
Telling P.OptionOne number = (1 ≤ number) × (number ≤ 4)
Telling (P.OptionTwo provplace marks) number = (1 ≤ number) × (number ≤ 9)

-- what is within a floor is such a number
within-telling : (profile : Profile) (floor : ℕ) (passed : Quality) → floor ≤ (limits_of profile).floor
    → Within (prov_place_of profile) floor passed → Telling profile passed.0
unfolding limits_of prov_place_of is_placed
within-telling P.OptionOne floor passed most within =
    by_bool (eqb passed.0 prov.0)
    (λ e. let h = within.numbered (rw e) in (h.0, omega (arith, h.1, most)))
    (λ e. let h = within.numbered (rw e) in (h.0, omega (arith, h.1, most)))
within-telling (P.OptionTwo provplace marks) floor passed most within =
    by_bool (is_placed (number_of_prov_place provplace) passed)
    (λ p.
    let e : passed.0 ≡ 9 = eqb-true _ _ (both_first (eqb passed.0 prov.0) (not (eqb (number_of_prov_place provplace) 0)) p) in
    (omega arith, omega arith))
    (λ p. let h = within.numbered p in (h.0, omega (arith, h.1, most)))

own-telling : (profile : Profile) → Telling profile (limits_of profile).freerunning.0
unfolding limits_of
own-telling P.OptionOne = (omega arith, omega arith)
own-telling (P.OptionTwo provplace marks) = (omega arith, omega arith)

-- a marked port tells ST3 for two of them
told_by-telling : (profile : Profile) (port : ℕ) (told : Quality) → Telling profile told.0
    → Telling profile (told_by (is_marked (marks_of profile) port) told).0
unfolding told_by marks_of
told_by-telling P.OptionOne port told h = rw (unmarked port) h
told_by-telling (P.OptionTwo provplace marks) port told h =
    by_bool (is_marked marks port && (eqb told.0 tnc.0 || eqb told.0 st3e.0))
    (λ e. rw e (omega arith, omega arith))
    (λ e. rw e h)

nine-telling : (profile : Profile) (number : ℕ) → Telling profile number → (1 ≤ number) × (number ≤ 9)
nine-telling P.OptionOne number h = (h.0, omega (arith, h.1))
nine-telling (P.OptionTwo provplace marks) number h = h

code-telling : (profile : Profile) (told : Quality) → Telling profile told.0 → told ≢ st4
    → quality_of_code profile (code_of_quality profile told) ≡ told
code-telling P.OptionOne told h other = code-back-one told.0 h.0 h.1
code-telling (P.OptionTwo provplace marks) told h other =
    code-back-two provplace marks told.0 h.0 h.1 (λ e. other (λ j. record { 0 = e j }))

-- ---- why 08FF goes out

abbrev StuBy : Bool → Bool → Bool → ℕ → Type 0
StuBy mode sending is_selected word =
    (sending ≡ false) ⊎ ((sending ≡ true) × (mode ≡ true) × (is_selected ≡ false) × (word ≡ word_stu))

outgoing-stu : (mode sending is_selected : Bool) (word : ℕ) → outgoing_word mode sending is_selected word ≡ word_stu
    → StuBy mode sending is_selected word
unfolding outgoing_word
outgoing-stu mode false is_selected word e = inl refl
outgoing-stu true true false word e = inr (refl, refl, refl, e)
outgoing-stu true true true word e = absurd (omega (arith, e))
outgoing-stu false true is_selected word e = absurd (omega (arith, e))

-- ---- the theorem

module _ (sequence : Sequence) (port : ℕ) (inside : port < input_count) where
  abbrev past : Past
  past = past_of sequence

  abbrev profile : Profile
  profile = profile_of (recorded sequence)

  -- with mode on the clock quality is such a number
  clock_telling : mode_on (recorded sequence) ≡ true → Telling profile (quality_by past).0
  unfolding clock_quality
  clock_telling on =
      by_bool (candidate_selected past).usable
      (λ u.
      let some = (something_usable past).0 u in
      rw (on, u, quality-stated past some.number some.passed some.is_selected on)
      (within-telling profile (floor_of some.number (recorded sequence)) some.passed
      (floor_range sequence some.number).1
      (some.usable.within on)))
      (λ u. rw (on, u) (own-telling profile))

  told-telling : mode_on (recorded sequence) ≡ true → Telling profile (told_at past port).0
  told-telling on = told_by-telling profile port (quality_by past) (clock_telling on)

  word-by : word_at sequence port ≡ word_by past port
  word-by = ap (λ (words : _). get_or words port 0) (demand_2_answers sequence).words ∙ get_d_ports (word_by past) 0 port inside

  code_by_lem : code_at sequence port ≡ code_by past port
  code_by_lem = ap (λ (codes : _). get_or codes port 0) (demand_2_answers sequence).outgoing ∙ get_d_ports (code_by past) 0 port inside

  word-told : TellsClock past port → word_by past port ≡ word_of_quality (told_at past port)
  unfolding word_by outgoing_word
  word-told tells = rw (tells.sending, tells.mode, tells.other)

  code-told : TellsClock past port → code_by past port ≡ code_of_quality profile (told_at past port)
  unfolding code_by outgoing_code
  code-told tells = rw (tells.sending, tells.mode, tells.other)

  word-reads : TellsClock past port → quality_of_word (word_of_quality (told_at past port)) ≡ told_at past port
  word-reads tells =
      let h = nine-telling profile _ (told-telling tells.mode) in
      word-back (told_at past port).0 h.0 h.1

  stu-off : is_sending port (recorded sequence) ≡ false → word_by past port ≡ word_stu
  unfolding word_by outgoing_word
  stu-off off = rw off

  stu-to : word_by past port ≡ word_stu
      → (is_sending port (recorded sequence) ≡ false) ⊎ (TellsClock past port × (told_at past port ≡ stu))
  unfolding word_by quality_of_word said_by
  stu-to e =
      go
      (outgoing-stu (mode_on (recorded sequence)) (is_sending port (recorded sequence)) (is_selected_port past port)
      (word_of_quality (told_at past port))
      e)
    where
      go : StuBy (mode_on (recorded sequence)) (is_sending port (recorded sequence)) (is_selected_port past port)
          (word_of_quality (told_at past port))
          → (is_sending port (recorded sequence) ≡ false) ⊎ (TellsClock past port × (told_at past port ≡ stu))
      go (inl off) = inl off
      go (inr (s, m, p, z)) =
          let tells : TellsClock past port = record { sending = s; mode = m; other = p } in
          inr (tells, sym (word-reads tells) ∙ ap quality_of_word z)

  stu-from : (is_sending port (recorded sequence) ≡ false) ⊎ (TellsClock past port × (told_at past port ≡ stu))
      → word_by past port ≡ word_stu
  unfolding word_of_quality sign_of
  stu-from (inl off) = stu-off off
  stu-from (inr (tells, e)) = word-told tells ∙ ap word_of_quality e

  -- L12: 08FF exactly with sending off or for STU; what a port tells of the clock reads back
  pub outgoing-right : OutgoingRight sequence port
  outgoing-right =
      record {
        exactly = (λ e. stu-to (sym word-by ∙ e), λ why. word-by ∙ stu-from why);
        word_back = λ tells. ap quality_of_word (word-by ∙ word-told tells) ∙ word-reads tells;
        code_back = λ tells other.
            subst (λ (own : Profile). quality_of_code own (code_at sequence port) ≡ told_at past port)
            (recorded-profile sequence)
            (ap (quality_of_code profile) (code_by_lem ∙ code-told tells) ∙
            code-telling profile (told_at past port) (told-telling tells.mode) other);
      }
