-- What the code keeps is what the moments gone by come to: one moment at a time, and any stretch with no event at once.
-- Assumes nothing.
use Prim.Native.Nat.{ℕ, zero, suc, ◌+◌, ◌-◌, ◌≤◌}
use mathlib.Core.Bool.{Bool, true, false, not, ◌&&◌, ◌||◌, cond, true≢false, false≢true}
use mathlib.Core.List.{[], ◌∷◌}
use mathlib.Core.Path.{◌≡◌, refl, sym, ◌∙◌, ap, subst}
use native.Mathlib.Omega.{arith}
use native.Mathlib.Nat.{add-zero, add-suc}
use lib.Dec.{leb, leb-suc-suc}
use borrow.Author.Tests.{leb-true, leb-false, le-leb, lt-leb}
use Rattle.numbers.specs.declared.quality.Quality.{Quality}
use Rattle.numbers.specs.Quality.{failed, is_failed}
use Rattle.numbers.specs.Inputs.{frame_life}
use Rattle.run.specs.declared.Forecast.{Forecast}
use Rattle.run.specs.declared.Run.{Run}
use Rattle.run.specs.Moments.{Moment, Moments, raw_quality, fails, each_millisecond}
use Rattle.numbers.specs.Truth.{alike}
use Rattle.run.specs.Passed.{run_began, good_quality, was_up, passed}
use Rattle.run.specs.Run.{run_of, fresh_run, is_expired, raw_at, moment_at, began_after, is_up_after, last_good, at_moment, up_before, brought_to, passed_quality}
use Rattle.numbers.proofs.Truth.{by_bool}

-- ---- the run kept of any moments

-- one moment taken, whatever it shows
unfoldable pub taken : Moment → Run → Run
taken moment run =
    let fails = is_failed moment.raw in
    let began = began_after run.failed run.began fails moment.time in
    run_of began (last_good run.good moment.raw) fails
    (cond fails
    (cond (leb (began + moment.holdoff) moment.time) false run.up)
    (cond (moment.clears || leb (began + moment.wait) moment.time) true run.up))

-- the run kept of moments
unfoldable pub kept : Moments → Run
kept [] = fresh_run
kept (moment ∷ earlier) = taken moment (kept earlier)

-- the run that the moments define
unfoldable pub defined : Moments → Run
defined moments = run_of (run_began moments) (good_quality moments) (fails moments) (was_up moments)

began_alike : (was now : Bool) (began time : ℕ) → began_after was began now time ≡ cond (alike now was) began time
unfolding began_after
began_alike true true began time = refl
began_alike true false began time = refl
began_alike false true began time = refl
began_alike false false began time = refl

is_up_after-defined : (fails down wait clears up : Bool)
    → cond fails (cond down false up) (cond (clears || wait) true up) ≡
    cond (fails && down) false (cond (not fails && (wait || clears)) true up)
is_up_after-defined true true wait clears up = refl
is_up_after-defined true false wait clears up = refl
is_up_after-defined false down true true up = refl
is_up_after-defined false down true false up = refl
is_up_after-defined false down false true up = refl
is_up_after-defined false down false false up = refl

kept_step : (moment : Moment) (earlier : Moments) → taken moment (defined earlier) ≡ defined (moment ∷ earlier)
unfolding taken defined last_good
kept_step moment earlier =
    rw (began_alike (fails earlier) (is_failed moment.raw) (run_began earlier) moment.time)
    (ap
    (λ (up : Bool). run_of
    (cond (alike (is_failed moment.raw) (fails earlier)) (run_began earlier) moment.time)
    (good_quality (moment ∷ earlier))
    (is_failed moment.raw)
    up)
    (is_up_after-defined (is_failed moment.raw) _ _ moment.clears (was_up earlier)))

pub kept-defined : (moments : Moments) → kept moments ≡ defined moments
unfolding kept defined
kept-defined [] = refl
kept-defined (moment ∷ earlier) = ap (taken moment) (kept-defined earlier) ∙ kept_step moment earlier

pub passed-defined : (moments : Moments) → passed_quality (kept moments) ≡ passed moments
unfolding defined passed_quality
passed-defined moments =
    rw (kept-defined moments) (ap (λ (quality : Quality). cond (was_up moments) quality failed) (good-now moments))
  where
    twice : (test : Bool) (x y : Quality) → cond test x y ≡ cond test (cond test x y) y
    twice true x y = refl
    twice false x y = refl

    good-now : (any : Moments) → good_quality any ≡ cond (fails any) (good_quality any) (raw_quality any)
    good-now [] = refl
    good-now (moment ∷ earlier) = twice (is_failed moment.raw) (good_quality earlier) moment.raw

-- an event's own moment
pub at_moment-taken : (run : Run) (forecast : Forecast) (time : ℕ) (clears : Bool)
    → at_moment run forecast time clears ≡ taken (moment_at forecast clears time) run
unfolding at_moment taken is_up_after
at_moment-taken run forecast time clears = refl

-- ---- one millisecond more

abbrev forecast_of : ℕ → ℕ → ℕ → Quality → Bool → Forecast
forecast_of framed holdoff wait quality expires =
    record { framed = framed; holdoff = holdoff; wait = wait; quality = quality; expires = expires }

-- a timer that is judged each millisecond needs judging only at the last
timer : (end time : ℕ) (x up : Bool)
    → cond (leb end (suc time)) x (cond (leb end time) x up) ≡ cond (leb end (suc time)) x up
timer end time x up =
    by_bool (leb end (suc time))
    (λ e. rw e)
    (λ e. let e' : leb end time ≡ false = lt-leb end time (omega (arith, leb-false end (suc time) e)) in rw (e, e'))

-- the run fits the forecast at a time
pub record Fits (forecast : Forecast) (run : Run) (time : ℕ) : Type 0 where
  pub fails : run.failed ≡ is_failed (raw_at forecast time)
  pub good : run.failed ≡ false → run.good ≡ forecast.quality

module _ (f h w : ℕ) (q : Quality) (s : ℕ) (g : Quality) (time : ℕ) (u : Bool) where
  more-failed : (x : Bool) → is_failed (raw_at (forecast_of f h w q x) (suc time)) ≡ true
      → at_moment (brought_to (run_of s g true u) (forecast_of f h w q x) time) (forecast_of f h w q x) (suc time) false ≡
      brought_to (run_of s g true u) (forecast_of f h w q x) (suc time)
  unfolding at_moment brought_to began_after last_good is_up_after
  more-failed x e = rw e (ap (λ (b : Bool). run_of s g true b) (timer (s + h) time false u))

  more-counts : (x : Bool) → is_failed q ≡ false → g ≡ q → (x && leb (f + frame_life) time) ≡ false
      → (x && leb (f + frame_life) (suc time)) ≡ false
      → at_moment (brought_to (run_of s g false u) (forecast_of f h w q x) time) (forecast_of f h w q x) (suc time) false ≡
      brought_to (run_of s g false u) (forecast_of f h w q x) (suc time)
  unfolding at_moment brought_to began_after last_good is_up_after is_expired raw_at
  more-counts x e k a b = rw (a, b, e, k) (ap (λ (b : Bool). run_of s q false b) (timer (s + w) time true u))

  more-gone : leb (f + frame_life) time ≡ true → leb (f + frame_life) (suc time) ≡ true
      → at_moment (brought_to (run_of s g false u) (forecast_of f h w q true) time) (forecast_of f h w q true)
      (suc time) false ≡
      brought_to (run_of s g false u) (forecast_of f h w q true) (suc time)
  unfolding at_moment brought_to began_after last_good is_up_after is_expired raw_at
  more-gone a b = rw (a, b) (ap (λ (b : Bool). run_of (f + frame_life) g true b) (timer (f + frame_life + h) time false _))

  more-expires : leb (f + frame_life) time ≡ false → leb (f + frame_life) (suc time) ≡ true
      → at_moment (brought_to (run_of s g false u) (forecast_of f h w q true) time) (forecast_of f h w q true)
      (suc time) false ≡
      brought_to (run_of s g false u) (forecast_of f h w q true) (suc time)
  unfolding at_moment brought_to began_after last_good is_up_after is_expired raw_at up_before
  more-expires a b =
      let i : f + frame_life ≡ suc time =
      omega (arith, leb-true (f + frame_life) (suc time) b, leb-false (f + frame_life) time a) in
      rw (a, b, i, leb-suc-suc (s + w) time) refl

stays-failed : (forecast : Forecast) (from time : ℕ) → from ≤ time → true ≡ is_failed (raw_at forecast from)
    → is_failed (raw_at forecast time) ≡ true
unfolding raw_at is_expired
stays-failed forecast from time later e = go forecast.expires e
  where
    go : (x : Bool) → true ≡ is_failed (cond (x && leb (forecast.framed + frame_life) from) failed forecast.quality)
        → is_failed (cond (x && leb (forecast.framed + frame_life) time) failed forecast.quality) ≡ true
    go false k = sym k
    go true k =
        by_bool (leb (forecast.framed + frame_life) time) (λ y. rw y)
        (λ y. let z : leb (forecast.framed + frame_life) from ≡ false =
        lt-leb (forecast.framed + frame_life) from
        (omega (arith, leb-false (forecast.framed + frame_life) time y)) in
        let k' : true ≡ is_failed forecast.quality = rw z at k in rw y (sym k'))

not_failed_lem : (x : Bool) (q : Quality) → false ≡ is_failed (cond x failed q) → is_failed q ≡ false
not_failed_lem true q k = absurd (false≢true k)
not_failed_lem false q k = sym k

-- one millisecond more, whatever the run and the forecast
brought-any : (f h w : ℕ) (q : Quality) (x : Bool) (s : ℕ) (g : Quality) (b u : Bool) (from time : ℕ) → from ≤ time
    → Fits (forecast_of f h w q x) (run_of s g b u) from
    → at_moment (brought_to (run_of s g b u) (forecast_of f h w q x) time) (forecast_of f h w q x) (suc time) false ≡
    brought_to (run_of s g b u) (forecast_of f h w q x) (suc time)
unfolding raw_at is_expired
brought-any f h w q x s g true u from time later fit =
    more-failed f h w q s g time u x (stays-failed (forecast_of f h w q x) from (suc time) (omega arith) fit.fails)
brought-any f h w q false s g false u from time later fit =
    more-counts f h w q s g time u false (not_failed_lem false q fit.fails) (fit.good refl) refl refl
brought-any f h w q true s g false u from time later fit =
    by_bool (leb (f + frame_life) time)
    (λ a. more-gone f h w q s g time u a
    (le-leb (f + frame_life) (suc time) (omega (arith, leb-true (f + frame_life) time a))))
    (λ a. by_bool (leb (f + frame_life) (suc time))
    (λ b. more-expires f h w q s g time u a b)
    (λ b. more-counts f h w q s g time u true (not_failed_lem (leb (f + frame_life) from) q fit.fails)
    (fit.good refl) a b))

pub brought_to-suc : (run : Run) (forecast : Forecast) (from time : ℕ) → from ≤ time → Fits forecast run from
    → at_moment (brought_to run forecast time) forecast (suc time) false ≡ brought_to run forecast (suc time)
brought_to-suc run forecast from time later fit =
    brought-any forecast.framed forecast.holdoff forecast.wait forecast.quality forecast.expires
    run.began run.good
    run.failed
    run.up
    from
    time
    later
    fit

-- ---- nothing is due

-- at the time itself nothing is due: the run is what a moment with this forecast left
pub record Settled (forecast : Forecast) (run : Run) (time : ℕ) : Type 0 where
  pub fits : Fits forecast run time
  pub held_off : run.failed ≡ true → run.began + forecast.holdoff ≤ time → run.up ≡ false
  pub waited : run.failed ≡ false → run.began + forecast.wait ≤ time → run.up ≡ true

-- a judgement that is already made
judged : (test x up : Bool) → (test ≡ true → up ≡ x) → cond test x up ≡ up
judged true x up f = sym (f refl)
judged false x up f = refl

zero-any : (f h w : ℕ) (q : Quality) (x : Bool) (s : ℕ) (g : Quality) (b u : Bool) (time : ℕ)
    → Settled (forecast_of f h w q x) (run_of s g b u) time
    → brought_to (run_of s g b u) (forecast_of f h w q x) time ≡ run_of s g b u
unfolding brought_to is_up_after is_expired raw_at
zero-any f h w q x s g true u time c =
    ap (λ (b : Bool). run_of s g true b)
    (judged (leb (s + h) time) false u (λ e. c.held_off refl (leb-true (s + h) time e)))
zero-any f h w q false s g false u time c =
    ap (λ (b : Bool). run_of s g false b)
    (judged (leb (s + w) time) true u (λ e. c.waited refl (leb-true (s + w) time e)))
zero-any f h w q true s g false u time c =
    by_bool (leb (f + frame_life) time)
    (λ e. let z : false ≡ true = rw e at c.fits.fails in absurd (false≢true z))
    (λ e. rw e
    (ap (λ (b : Bool). run_of s g false b)
    (judged (leb (s + w) time) true u (λ k. c.waited refl (leb-true (s + w) time k)))))

pub brought_to-settled : (run : Run) (forecast : Forecast) (time : ℕ) → Settled forecast run time
    → brought_to run forecast time ≡ run
brought_to-settled run forecast time c =
    zero-any forecast.framed forecast.holdoff forecast.wait forecast.quality forecast.expires
    run.began run.good
    run.failed
    run.up
    time
    c

good-raw : (test : Bool) (q : Quality) → is_failed (cond test failed q) ≡ false → cond test failed q ≡ q
good-raw true q e = absurd (true≢false e)
good-raw false q e = refl

raw_at-good : (forecast : Forecast) (time : ℕ) → is_failed (raw_at forecast time) ≡ false
    → raw_at forecast time ≡ forecast.quality
unfolding raw_at
raw_at-good forecast time e = good-raw (is_expired forecast time) forecast.quality e

good-taken : (test : Bool) (good q : Quality) → is_failed (cond test failed q) ≡ false
    → cond (is_failed (cond test failed q)) good (cond test failed q) ≡ q
good-taken test good q e = rw e (good-raw test q e)

held_off-taken : (fails ended x up : Bool) → fails ≡ true → ended ≡ true → cond fails (cond ended false up) x ≡ false
held_off-taken fails ended x up e k = rw (e, k)

waited-taken : (fails x clears ended up : Bool) → fails ≡ false → ended ≡ true
    → cond fails x (cond (clears || ended) true up) ≡ true
waited-taken fails x true ended up e k = rw e
waited-taken fails x false ended up e k = rw (e, k)

-- any moment leaves nothing due at its time
pub settled-at_moment : (run : Run) (forecast : Forecast) (time : ℕ) (clears : Bool)
    → Settled forecast (at_moment run forecast time clears) time
unfolding at_moment last_good is_up_after raw_at
settled-at_moment run forecast time clears =
    record {
      fits =
          record { fails = refl; good = λ e. good-taken (is_expired forecast time) run.good forecast.quality e };
      held_off = λ e k. held_off-taken _ _ _ _ e (le-leb _ time k);
      waited = λ e k. waited-taken _ _ clears _ _ e (le-leb _ time k);
    }

again-any : (f h w : ℕ) (q : Quality) (x : Bool) (s : ℕ) (g : Quality) (b u : Bool) (time : ℕ)
    → Settled (forecast_of f h w q x) (run_of s g b u) time
    → at_moment (run_of s g b u) (forecast_of f h w q x) time false ≡ run_of s g b u
unfolding at_moment began_after last_good is_up_after
again-any f h w q x s g true u time c =
    rw (← c.fits.fails)
    (ap (λ (b : Bool). run_of s g true b)
    (judged (leb (s + h) time) false u (λ e. c.held_off refl (leb-true (s + h) time e))))
again-any f h w q x s g false u time c =
    let k : raw_at (forecast_of f h w q x) time ≡ g = good-now (sym c.fits.fails) ∙ sym (c.fits.good refl) in
    rw (← c.fits.fails)
    (λ j. run_of s (k j) false (judged (leb (s + w) time) true u (λ e. c.waited refl (leb-true (s + w) time e)) j))
  where
    good-now : is_failed (raw_at (forecast_of f h w q x) time) ≡ false → raw_at (forecast_of f h w q x) time ≡ q
    good-now = raw_at-good (forecast_of f h w q x) time

-- one moment more where nothing is due changes nothing
pub at_moment-settled : (run : Run) (forecast : Forecast) (time : ℕ) → Settled forecast run time
    → at_moment run forecast time false ≡ run
at_moment-settled run forecast time c =
    again-any forecast.framed forecast.holdoff forecast.wait forecast.quality forecast.expires
    run.began run.good
    run.failed
    run.up
    time
    c

-- a fresh run, where raw quality is failed
pub settled-fresh : (forecast : Forecast) → is_failed (raw_at forecast 0) ≡ true → Settled forecast fresh_run 0
settled-fresh forecast e =
    record {
      fits = record { fails = sym e; good = λ k. absurd (true≢false k) };
      held_off = λ k l. refl;
      waited = λ k l. absurd (true≢false k);
    }

-- ---- a stretch with no event

-- milliseconds one by one come to one step
pub kept-each : (forecast : Forecast) (time count : ℕ) (moments : Moments) → Settled forecast (kept moments) time
    → kept (each_millisecond (moment_at forecast false) time count moments)
    ≡ brought_to (kept moments) forecast (time + count)
unfolding kept each_millisecond
kept-each forecast time zero moments c = rw add-zero (sym (brought_to-settled (kept moments) forecast time c))
kept-each forecast time (suc count) moments c =
    ap (taken (moment_at forecast false (suc (time + count)))) (kept-each forecast time count moments c) ∙
    sym (at_moment-taken (brought_to (kept moments) forecast (time + count)) forecast (suc (time + count)) false) ∙
    brought_to-suc (kept moments) forecast time (time + count) (omega arith) c.fits ∙
    ap (brought_to (kept moments) forecast) (sym (add-suc time count))

-- ---- two pieces

settled-add : (run : Run) (forecast : Forecast) (time count : ℕ) → Settled forecast run time
    → Settled forecast (brought_to run forecast (time + count)) (time + count)
settled-add run forecast time zero c = rw (add-zero, brought_to-settled run forecast time c) c
settled-add run forecast time (suc count) c =
    rw (add-suc time count, ← brought_to-suc run forecast time (time + count) (omega arith) c.fits)
    (settled-at_moment (brought_to run forecast (time + count)) forecast (suc (time + count)) false)

pub settled-brought_to : (run : Run) (forecast : Forecast) (from time : ℕ) → from ≤ time → Settled forecast run from
    → Settled forecast (brought_to run forecast time) time
settled-brought_to run forecast from time later c =
    let z : from + (time - from) ≡ time = omega arith in
    subst (λ (x : ℕ). Settled forecast (brought_to run forecast x) x) z (settled-add run forecast from (time - from) c)

twice-add : (run : Run) (forecast : Forecast) (from time count : ℕ) → from ≤ time → Settled forecast run from
    → brought_to (brought_to run forecast time) forecast (time + count) ≡ brought_to run forecast (time + count)
twice-add run forecast from time zero later c =
    rw add-zero (brought_to-settled (brought_to run forecast time) forecast time
    (settled-brought_to run forecast from time later c))
twice-add run forecast from time (suc count) later c =
    rw (add-suc time count)
    (sym
    (brought_to-suc (brought_to run forecast time) forecast time (time + count) (omega arith)
    (settled-brought_to run forecast from time later c).fits) ∙
    ap (λ (x : Run). at_moment x forecast (suc (time + count)) false) (twice-add run forecast from time count later c) ∙
    brought_to-suc run forecast from (time + count) (omega arith) c.fits)

-- time going by in two pieces is time going by in one
pub brought_to-brought_to : (run : Run) (forecast : Forecast) (from time later : ℕ) → from ≤ time → time ≤ later
    → Settled forecast run from → brought_to (brought_to run forecast time) forecast later ≡ brought_to run forecast later
brought_to-brought_to run forecast from time later i j c =
    let z : time + (later - time) ≡ later = omega arith in
    subst (λ (x : ℕ). brought_to (brought_to run forecast time) forecast x ≡ brought_to run forecast x) z
    (twice-add run forecast from time (later - time) i c)
