-- What a choice sees of the inputs, and what demand 3 says of them: the same, by the recorded events at any time.
-- Assumes nothing.
use Prim.Native.Nat.{ℕ, ◌<◌}
use mathlib.Core.Bool.{Bool, true, false, not, ◌&&◌, true≢false}
use mathlib.Core.List.{List, [], ◌∷◌, map}
use mathlib.Core.Logic.{inl, inr, ◌↔◌}
use mathlib.Core.Path.{◌≡◌, refl, sym, ◌∙◌, ap, subst}
use native.Mathlib.Omega.{arith}
use lib.Dec.{eqb, ltb}
use lib.ListN.{get_or}
use borrow.Author.Tests.{ltb-true, ltb-false, eqb-false, ne_eqb, not-true}
use Rattle.numbers.proofs.Truth.{by_bool, both_first, both-second}
use Rattle.numbers.specs.declared.quality.Quality.{Quality}
use Rattle.numbers.specs.Inputs.{input_count}
use Rattle.numbers.specs.From.{profile_of}
use Rattle.numbers.specs.Profile.{prov_place_of}
use Rattle.numbers.specs.Quality.{not_told}
use Rattle.run.proofs.Exact.{passed_unique, passed-exact}
use Rattle.input.specs.Recorded.{History, mode_on, priority_of, is_locked_out, floor_of, moments_until, PassedAt, passed_at}
use Rattle.choice.specs.declared.Candidate.{Candidate}
use Rattle.choice.specs.declared.Rank.{Rank}
use Rattle.choice.specs.Rank.{rank_of}
use Rattle.choice.specs.Candidate as Seen
use Rattle.choice.specs.Candidate.{nobody, is_admitted, ranked_quality, candidate_of, is_eligible, eligible_among, better_among, any_lower}
use Rattle.choice.proofs.Places.{ranks}
use Rattle.choice.proofs.Ranks.{eligible-exact, Before, is_better-exact, lower-found}
use Rattle.switch.specs.OneChoice.{forced_may_stand, manual_may_stand}
use Rattle.switch.proofs.Standing.{Passes}
use Rattle.switch.proofs.Selecting.{manual_may_stand-eligible, manual_may_stand-lower, eligible-admitted}
use Rattle.selector.proofs.SelectorLaws.{get_d_past}
use Rattle.selector.proofs.Ports.{get_d_ports}
use Rattle.events.specs.Past.{Made, candidate_by, candidates_by, seen}
use Rattle.events.specs.Happened.{MadeAt}
use Rattle.events.specs.Demand3.{Admitted, Eligible, LowerQuality, SameQuality, Better, Unsurpassed}

-- ---- passed quality

module _ (history : History) (time number : ℕ) where
  pub passed_at_passes : PassedAt number history time (passed_at number history time)
  unfolding passed_at
  passed_at_passes = passed-exact (moments_until number history time)

  pub passed_at_only : (quality : Quality) → PassedAt number history time quality
      → quality ≡ passed_at number history time
  unfolding passed_at
  passed_at_only quality passes = passed_unique (moments_until number history time) quality passes

module _ (history : History) (time : ℕ) where
  -- an input as a choice sees it
  shown-at : (number : ℕ) → number < input_count
      → get_or (candidates_by history time) number nobody ≡ candidate_by history time number
  shown-at number inside = get_d_ports (candidate_by history time) nobody number inside

  -- the quality that document 01 states is the one that the candidates are computed with
  pub candidate-stated : (number : ℕ) → number < input_count → (quality : Quality) → PassedAt number history time quality
      → get_or (candidates_by history time) number nobody ≡
      candidate_of (prov_place_of (profile_of history)) (floor_of number history) quality
      (record { 0 = priority_of number history }) (is_locked_out number history) (mode_on history)
  unfolding candidate_by
  candidate-stated number inside quality states =
      shown-at number inside ∙
      ap
      (λ (passes : Quality). candidate_of (prov_place_of (profile_of history)) (floor_of number history) passes
      (record { 0 = priority_of number history }) (is_locked_out number history) (mode_on history))
      (sym (passed_at_only history time number quality states))

  -- ---- "priority not 0, not locked"

  -- an input that is neither off nor locked is one of the sixteen
  pub admitted-inside : (number : ℕ) → forced_may_stand (candidates_by history time) number ≡ true → number < input_count
  admitted-inside number x =
      by_bool (ltb number input_count) (ltb-true number input_count)
      (λ e.
      let none : get_or (candidates_by history time) number nobody ≡ nobody =
      get_d_past (candidates_by history time) number nobody (ltb-false number input_count e)
      in
      absurd (true≢false (sym x ∙ ap (λ (candidate : Candidate). candidate.admitted) none)))

  admitted-at : (number : ℕ) → number < input_count
      → forced_may_stand (candidates_by history time) number ≡
      (not (eqb (priority_of number history) 0) && not (is_locked_out number history))
  unfolding candidate_by candidate_of is_admitted
  admitted-at number inside = ap (λ (candidate : Candidate). candidate.admitted) (shown-at number inside)

  pub admitted-exact : (number : ℕ)
      → (forced_may_stand (candidates_by history time) number ≡ true) ↔ Admitted history number
  admitted-exact number = (to, from)
    where
      to : forced_may_stand (candidates_by history time) number ≡ true → Admitted history number
      to x =
          let inside : number < input_count = admitted-inside number x in
          let both : (not (eqb (priority_of number history) 0) && not (is_locked_out number history)) ≡ true =
          sym (admitted-at number inside) ∙ x
          in
          record {
            is_input = inside;
            not_off =
                eqb-false (priority_of number history) 0
                (not-true _ (both_first _ (not (is_locked_out number history)) both));
            not_locked =
                not-true (is_locked_out number history)
                (both-second (not (eqb (priority_of number history) 0)) _ both);
          }

      from : Admitted history number → forced_may_stand (candidates_by history time) number ≡ true
      from a = admitted-at number a.is_input ∙ rw (ne_eqb (priority_of number history) 0 a.not_off, a.not_locked)

  -- ---- eligible

  pub eligible-stated : (number : ℕ)
      → (eligible_among (candidates_by history time) number ≡ true) ↔ Eligible history time number
  eligible-stated number = (to, from)
    where
      to : eligible_among (candidates_by history time) number ≡ true → Eligible history time number
      to x =
          let admitted : Admitted history number =
          (admitted-exact number).0 (eligible-admitted (candidates_by history time) number x)
          in
          let quality : Quality = passed_at number history time in
          let passes : PassedAt number history time quality = passed_at_passes history time number in
          let parts : Seen.EligibleCandidate (prov_place_of (profile_of history)) (floor_of number history) quality
          (record { 0 = priority_of number history }) (is_locked_out number history) (mode_on history) =
          (eligible-exact (prov_place_of (profile_of history)) (floor_of number history) quality
          (record { 0 = priority_of number history }) (is_locked_out number history) (mode_on history)).0
          (sym (ap is_eligible (candidate-stated number admitted.is_input quality passes)) ∙ x)
          in
          record {
            admitted = admitted;
            quality = quality;
            passes = passes;
            not_failed = λ e. parts.not_failed (ap (λ (q : Quality). q.0) e);
            usable = parts.within;
          }

      from : Eligible history time number → eligible_among (candidates_by history time) number ≡ true
      from e =
          ap is_eligible (candidate-stated number e.admitted.is_input e.quality e.passes) ∙
          (eligible-exact (prov_place_of (profile_of history)) (floor_of number history) e.quality
          (record { 0 = priority_of number history }) (is_locked_out number history) (mode_on history)).1
          (record {
            not_off = e.admitted.not_off;
            not_locked = e.admitted.not_locked;
            not_failed = λ z. e.not_failed (λ j. record { 0 = z j });
            within = e.usable;
          })

  -- ---- better

  -- the place of PROV
  abbrev provplace : ℕ
  provplace = prov_place_of (profile_of history)

  -- the rank and the priority that a choice compares
  ranked-at : (number : ℕ) → number < input_count → (quality : Quality) → PassedAt number history time quality
      → (get_or (candidates_by history time) number nobody).rank ≡ rank_of provplace (ranked_quality (mode_on history) quality)
  unfolding candidate_of
  ranked-at number inside quality passes =
      ap (λ (candidate : Candidate). candidate.rank) (candidate-stated number inside quality passes)

  priority-at : (number : ℕ) → number < input_count
      → (get_or (candidates_by history time) number nobody).priority.0 ≡ priority_of number history
  unfolding candidate_of
  priority-at number inside =
      ap (λ (candidate : Candidate). candidate.priority.0)
      (candidate-stated number inside (passed_at number history time) (passed_at_passes history time number))

  -- with mode on it is the passed quality's, with mode off the same for all
  ranked-on : (number : ℕ) → number < input_count → mode_on history ≡ true → (quality : Quality)
      → PassedAt number history time quality
      → (get_or (candidates_by history time) number nobody).rank.0 ≡ (rank_of provplace quality).0
  unfolding ranked_quality
  ranked-on number inside on quality passes =
      ap (λ (ranked : Rank). ranked.0) (ranked-at number inside quality passes) ∙ rw on refl

  ranked-off : (number : ℕ) → number < input_count → mode_on history ≡ false
      → (get_or (candidates_by history time) number nobody).rank.0 ≡ (rank_of provplace not_told).0
  unfolding ranked_quality
  ranked-off number inside off =
      ap (λ (ranked : Rank). ranked.0)
      (ranked-at number inside (passed_at number history time) (passed_at_passes history time number)) ∙
      rw off refl

  module _ (number other : ℕ) (inside : number < input_count) (inside' : other < input_count) where
    abbrev ranked : ℕ → ℕ
    ranked input = (get_or (candidates_by history time) input nobody).rank.0

    pub lower-stated : (ranked number < ranked other) ↔ LowerQuality history time number other
    lower-stated = (to, from)
      where
        to : ranked number < ranked other → LowerQuality history time number other
        to x =
            by_bool (mode_on history)
            (λ on. record {
              mode = on;
              quality = passed_at number history time;
              other_quality = passed_at other history time;
              passes = passed_at_passes history time number;
              other_passes = passed_at_passes history time other;
              lower =
                  omega (
                    arith,
                    x,
                    ranked-on number inside on _ (passed_at_passes history time number),
                    ranked-on other inside' on _ (passed_at_passes history time other),
                  );
            })
            (λ off. absurd (omega (arith, x, ranked-off number inside off, ranked-off other inside' off)))

        from : LowerQuality history time number other → ranked number < ranked other
        from l =
            omega (
              arith,
              l.lower,
              ranked-on number inside l.mode l.quality l.passes,
              ranked-on other inside' l.mode l.other_quality l.other_passes,
            )

    same-stated : (ranked number ≡ ranked other) ↔ SameQuality history time number other
    same-stated = (to, from)
      where
        to : ranked number ≡ ranked other → SameQuality history time number other
        to x on =
            let same : (passed_at other history time).0 ≡ (passed_at number history time).0 =
            (ranks provplace).injective (passed_at other history time) (passed_at number history time)
            (sym (ranked-on other inside' on _ (passed_at_passes history time other)) ∙ sym x ∙
            ranked-on number inside on _ (passed_at_passes history time number))
            in (
              passed_at number history time,
              (
                passed_at_passes history time number,
                subst (PassedAt other history time) (λ j. record { 0 = same j }) (passed_at_passes history time other),
              ),
            )

        from : SameQuality history time number other → ranked number ≡ ranked other
        from same =
            by_bool (mode_on history)
            (λ on. ranked-on number inside on (same on).0 (same on).1.0 ∙
            sym (ranked-on other inside' on (same on).0 (same on).1.1))
            (λ off. ranked-off number inside off ∙ sym (ranked-off other inside' off))

    pub better-stated : (better_among (candidates_by history time) number other ≡ true) ↔ Better history time number other
    better-stated = (λ x. to ((is_better-exact _ _).0 x), λ b. (is_better-exact _ _).1 (from b))
      where
        to : Before (get_or (candidates_by history time) number nobody) (get_or (candidates_by history time) other nobody)
            → Better history time number other
        to (inl lower) = inl (lower-stated.0 lower)
        to (inr same) =
            inr (
              same-stated.0 same.0,
              omega (arith, same.1, priority-at number inside, priority-at other inside'),
            )

        from : Better history time number other
            → Before (get_or (candidates_by history time) number nobody) (get_or (candidates_by history time) other nobody)
        from (inl lower) = inl (lower-stated.1 lower)
        from (inr same) =
            inr (
              same-stated.1 same.0,
              omega (arith, same.1, priority-at number inside, priority-at other inside'),
            )

  -- ---- a manual switch

  pub unsurpassed_exact : (number : ℕ)
      → (manual_may_stand (candidates_by history time) number ≡ true) ↔ Unsurpassed history time number
  unfolding manual_may_stand
  unsurpassed_exact number = (to, from)
    where
      to : manual_may_stand (candidates_by history time) number ≡ true → Unsurpassed history time number
      to x =
          let eligible : Eligible history time number =
          (eligible-stated number).0 (manual_may_stand-eligible (candidates_by history time) number x)
          in
          record {
            eligible = eligible;
            none = λ other e lower.
                omega (
                  arith,
                  manual_may_stand-lower (candidates_by history time) number x other e.admitted.is_input
                      ((eligible-stated other).1 e),
                  (lower-stated other number e.admitted.is_input eligible.admitted.is_input).1 lower,
                );
          }

      from : Unsurpassed history time number → manual_may_stand (candidates_by history time) number ≡ true
      from u =
          by_bool (any_lower (candidates_by history time) (get_or (candidates_by history time) number nobody).rank)
          (λ some.
          let found =
          lower-found (candidates_by history time) (get_or (candidates_by history time) number nobody).rank some
          in
          absurd
          (u.none found.0 ((eligible-stated found.0).0 found.2.is_eligible)
          ((lower-stated found.0 number found.1 u.eligible.admitted.is_input).0 found.2.is_lower)))
          (λ none. rw ((eligible-stated number).1 u.eligible, none))

-- ---- the latest choice made

-- a test at the latest choice is a test of the inputs as the recorded events show them
pub passes-made : (test : List Candidate → ℕ → Bool) (number time : ℕ) (history : History) (made : List Made)
    → MadeAt history time made → Passes test number (map seen made) → test (candidates_by history time) number ≡ true
passes-made test number time history [] here passes = absurd passes
passes-made test number time history (choice ∷ earlier) here passes =
    ap (λ (candidates : List Candidate). test candidates number) (sym here) ∙ passes
