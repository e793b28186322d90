-- The stretches are exact: what is stated in `specs/Exact`. `Agrees` is what holds after anything that a lane was told.
-- Assumes nothing.
use Prim.Native.Nat.{ℕ, zero, suc, ◌+◌, ◌-◌, ◌≤◌, ◌<◌, min, max}
use mathlib.Core.Bool.{Bool, true, false, false≢true}
use mathlib.Core.List.{List, [], ◌∷◌}
use mathlib.Core.Logic.{◌⊎◌, inl, inr, ⊎_elim}
use mathlib.Core.Path.{◌≡◌, refl, sym, ◌∙◌, ap, subst}
use native.Mathlib.Nat.{le-min, le_trans, min-le_left, min-le_right}
use native.Mathlib.Omega.{arith}
use borrow.Author.Tests.{lt-ltb, eq-eqb, ne_eqb, ltb-true, ltb-false, leb-true, leb-false, eqb-true, eqb-false}
use lib.Dec.{eqb, leb, ltb}
use Rattle.lane.specs.declared.Tolerance.{Tolerance}
use Rattle.lane.specs.declared.Stretch.{Stretch}
use Rattle.lane.specs.declared.Lane.{Lane}
use Rattle.lane.specs.declared.Judged.{Judged}
use Rattle.lane.specs.Shown.{Telling, Tellings, ToldAt, ToldLast, Stands, Good, Wrong}
use Rattle.lane.specs.Lane.{capped, none, bad_from, wrong_from, wrong_until, goes_on, with_stretch, wrong_count, marked, first_after, told_lane, shown_next, known_lane, over_at, right_next}
use Rattle.lane.specs.History.{Happening, is_right, is_shown, Happenings, RightIn, tellings, last_right, lane_after, ended_after, stretches_after, reached_by, after_by, farthest, Orderly, Near}
use Rattle.lane.specs.Exact.{In, InAny, OverBefore, Apart, lengths, FirstAt, WrongShown, Valued, Exact}

cons_not_nil : {telling : Telling} {told : Tellings} → telling ∷ told ≡ [] → ⊥
cons_not_nil {telling} {told} e = let z : ◌≡◌ {A = ℕ} 0 1 = cc in omega arith

-- ---- cases

pub by_bool : {C : Type 0} (test : Bool) → (test ≡ true → C) → (test ≡ false → C) → C
by_bool true f g = f refl
by_bool false f g = g refl

-- less, or not
pub by_less : {C : Type 0} (a b : ℕ) → (a < b → C) → (b ≤ a → C) → C
by_less a b f g = by_bool (ltb a b) (λ t. f (ltb-true a b t)) (λ t. g (ltb-false a b t))

-- the same, or not
pub by_same : {C : Type 0} (a b : ℕ) → (a ≡ b → C) → ((a ≡ b → ⊥) → C) → C
by_same a b f g = by_bool (eqb a b) (λ t. f (eqb-true a b t)) (λ t. g (eqb-false a b t))

-- ---- what marking keeps

goes-apart : (stretch : Stretch) (from : ℕ) → goes_on stretch from ≡ false → stretch.from < stretch.until
    → stretch.until < from
unfolding goes_on
goes-apart stretch from g n =
    let h : leb from stretch.until ≡ false = rw (lt-ltb stretch.from stretch.until n) at g in
    leb-false from stretch.until h

-- the stretches before one that begins anew
anew-most : (stretch : Stretch) (from size : ℕ) → stretch.from ≤ stretch.until - 1 → stretch.from ≤ from
    → size ≤ stretch.from
    → (stretch.from < stretch.until → stretch.until < from)
    → (stretch.until - stretch.from) + size ≤ from
anew-most stretch from size some behind most apart =
    by_less stretch.from stretch.until
    (λ n. let k = apart n in omega arith)
    (λ n. omega arith)

goes-joined : (stretch : Stretch) (from : ℕ) → goes_on stretch from ≡ true
    → (stretch.from < stretch.until) × (from ≤ stretch.until)
unfolding goes_on
goes-joined stretch from g =
    by_bool (ltb stretch.from stretch.until)
    (λ t. (
      ltb-true stretch.from stretch.until t,
      leb-true from stretch.until (rw t at g),
    ))
    (λ t. let h : false ≡ true = rw t at g in absurd (false≢true h))

module _ (lane : Lane) (from until value : ℕ) where
  marked-kept : {A : Type 0} (part : Lane → A)
      → ((stretch : Stretch) (wrongms : ℕ) → part (with_stretch lane stretch wrongms) ≡ part lane)
      → part (marked lane from until value).lane ≡ part lane
  unfolding marked
  marked-kept part keeps =
      by_bool (leb until from)
      (λ t. rw t refl)
      (λ t. rw t
      (by_bool (goes_on lane.stretch from)
      (λ g. rw g (keeps _ _))
      (λ g. rw g (keeps _ _))))

-- wrong milliseconds from one to before another
abbrev Between : ℕ → ℕ → ℕ → Type 0
Between from until time = (from ≤ time) × (time < until)

between_in : (start bad limit end time : ℕ) → start ≤ time → bad ≤ time → time < limit → time ≤ end → end ≤ farthest
    → Between (max start bad) (min limit (capped end 1)) time
between_in start bad limit end time s b l e f = (omega arith, omega arith)

-- what a millisecond between them is
record IsBetween (start bad limit end time : ℕ) : Type 0 where
  begun : start ≤ time
  past : bad ≤ time
  before : time < limit
  judged : time ≤ end

between_out : (start bad limit end time : ℕ) → Between (max start bad) (min limit (capped end 1)) time
    → IsBetween start bad limit end time
between_out start bad limit end time b =
    record { begun = omega arith; past = omega arith; before = omega arith; judged = omega arith }

max-out : (one other most : ℕ) → max one other ≤ most → (one ≤ most) × (other ≤ most)
max-out one other most h = (omega arith, omega arith)

sub_out : (one other most : ℕ) → one - other ≤ most → one ≤ most + other
sub_out one other most h = omega arith

min-more : (one other end : ℕ) → one ≤ other → min one end ≤ min other end
min-more one other end h = omega arith

min-out : (next end until time : ℕ) → until ≤ min next (suc end) → time < until → (time < next) × (time ≤ end)
min-out next end until time m t = (omega arith, omega arith)

lt_more : {time one other : ℕ} → time < one → one ≤ other → time < other
lt_more t m = omega arith

sub-most : (over to after early : ℕ) → over ≤ to → over - early ≤ max after (to - early)
sub-most over to after early h = omega arith

now-most : (when end next : ℕ) → suc when ≤ next → min (capped when 1) (capped end 1) ≤ min next (suc end)
now-most when end next h = omega arith

-- marking adds just these milliseconds
module _ (lane : Lane) (from until value : ℕ) (behind : lane.stretch.from ≤ from) (Rest : Type 0) (time : ℕ) where
  mark-only : In (marked lane from until value).lane.stretch time
      ⊎ (In (marked lane from until value).ended time ⊎ Rest)
      → (In lane.stretch time ⊎ Rest) ⊎ Between from until time
  unfolding marked goes_on
  mark-only =
      by_bool (leb until from)
      (λ t. rw t (⊎_elim (λ i. inl (inl i)) (⊎_elim (λ i. absurd (omega arith)) (λ r. inl (inr r)))))
      (λ t. let some = leb-false until from t in
      by_bool (goes_on lane.stretch from)
      (λ g. rw (t, g)
      (⊎_elim
      (λ i. by_less time lane.stretch.until (λ l. inl (inl (i.0, l)))
      (λ l. let joined = goes-joined lane.stretch from g in inr (omega arith, omega arith)))
      (⊎_elim (λ i. absurd (omega arith)) (λ r. inl (inr r)))))
      (λ g. rw (t, g)
      (⊎_elim (λ i. inr i) (⊎_elim (λ i. inl (inl i)) (λ r. inl (inr r))))))

  mark-all : (In lane.stretch time ⊎ Rest) ⊎ Between from until time
      → In (marked lane from until value).lane.stretch time
      ⊎ (In (marked lane from until value).ended time ⊎ Rest)
  unfolding marked goes_on
  mark-all =
      by_bool (leb until from)
      (λ t. let none-new = leb-true until from t in
      rw t (⊎_elim (⊎_elim (λ i. inl i) (λ r. inr (inr r))) (λ i. absurd (omega arith))))
      (λ t. by_bool (goes_on lane.stretch from)
      (λ g. rw (t, g)
      (⊎_elim (⊎_elim (λ i. inl (omega arith)) (λ r. inr (inr r))) (λ i. inl (omega arith))))
      (λ g. rw (t, g)
      (⊎_elim (⊎_elim (λ i. inr (inl i)) (λ r. inr (inr r))) (λ i. inl i))))

-- where the latest stretch ends after marking
pub record Ends (stretch : Stretch) (limit : ℕ) : Type 0 where
  pub some : stretch.from ≤ stretch.until - 1
  pub most : stretch.until ≤ limit

mark-ends : (lane : Lane) (from until value : ℕ) (before after : ℕ) → Ends lane.stretch before → before ≤ after
    → until ≤ after
    → Ends (marked lane from until value).lane.stretch after
unfolding marked
mark-ends lane from until value before after e b u =
    by_bool (leb until from)
    (λ t. rw t (record { some = e.some; most = omega arith }))
    (λ t. let some = leb-false until from t in
    by_bool (goes_on lane.stretch from)
    (λ g. rw (t, g) (record { some = omega arith; most = omega arith }))
    (λ g. rw (t, g) (record { some = omega arith; most = omega arith })))

-- ---- the stretches are apart, and counted

record Tidy (lane : Lane) (rest : List Stretch) : Type 0 where
  over : OverBefore rest lane.stretch.from
  apart : Apart rest
  counted : lane.wrongms ≡ lengths rest
  most : lengths rest ≤ lane.stretch.from

over-later : (rest : List Stretch) (time later : ℕ) → time ≤ later → OverBefore rest time → OverBefore rest later
over-later [] time later h o = tt
over-later (stretch ∷ rest) time later h o =
    (λ n. let k = o.0 n in omega arith, over-later rest time later h o.1)

tidy-same : (lane other : Lane) {rest : List Stretch} → lane.stretch ≡ other.stretch → lane.wrongms ≡ other.wrongms
    → Tidy lane rest
    → Tidy other rest
tidy-same lane other {rest} s c t =
    record {
      over = subst (λ (x : Stretch). OverBefore rest x.from) s t.over;
      apart = t.apart;
      counted = sym c ∙ t.counted;
      most = subst (λ (x : Stretch). lengths rest ≤ x.from) s t.most;
    }

tidy-none : (lane other : Lane) {rest : List Stretch} → lane.stretch ≡ other.stretch → lane.wrongms ≡ other.wrongms
    → Tidy lane rest
    → Tidy other (none ∷ rest)
tidy-none lane other {rest} s c t =
    let k = tidy-same lane other s c t in
    record {
      over = (λ n. absurd (omega arith), k.over);
      apart = (λ n. absurd (omega arith), k.apart);
      counted = let e = k.counted in omega arith;
      most = let m = k.most in omega arith;
    }

tidy-count : (lane : Lane) (rest : List Stretch) (limit : ℕ) → Ends lane.stretch limit → limit ≤ suc farthest
    → Tidy lane rest
    → wrong_count lane ≡ lengths (lane.stretch ∷ rest)
tidy-count lane rest limit e l t =
    let some = e.some in
    let end = e.most in
    let wrongms = t.counted in
    let most = t.most in
    omega arith

tidy-mark : (lane : Lane) (from until value limit : ℕ) {rest : List Stretch} → Ends lane.stretch limit
    → limit ≤ suc farthest
    → lane.stretch.from ≤ from
    → Tidy lane rest
    → Tidy (marked lane from until value).lane ((marked lane from until value).ended ∷ rest)
unfolding marked
tidy-mark lane from until value limit {rest} e l b t =
    by_bool (leb until from)
    (λ n. rw n (tidy-none lane lane refl refl t))
    (λ n. by_bool (goes_on lane.stretch from)
    (λ g. rw (n, g)
    (record {
      over = (λ m. absurd (omega arith), t.over);
      apart = (λ m. absurd (omega arith), t.apart);
      counted = let k = t.counted in omega arith;
      most = let k = t.most in omega arith;
    }))
    (λ g. rw (n, g)
    (record {
      over = (λ m. goes-apart lane.stretch from g m, over-later rest lane.stretch.from from b t.over);
      apart = (λ m. t.over, t.apart);
      counted = tidy-count lane rest limit e l t;
      most = anew-most lane.stretch from (lengths rest) e.some b t.most (goes-apart lane.stretch from g);
    })))

shown-tidy : (tolerance : Tolerance) (lane : Lane) (last when shown limit : ℕ) {rest : List Stretch}
    → Ends lane.stretch limit
    → limit ≤ suc farthest
    → lane.stretch.from ≤ when
    → Tidy lane rest
    → Tidy (shown_next tolerance lane last when shown).lane ((shown_next tolerance lane last when shown).ended ∷ rest)
unfolding shown_next
shown-tidy tolerance lane last when shown limit e l b t =
    tidy-mark (told_lane lane when (capped when 1) shown) _ _ shown limit e l (omega arith)
    (tidy-same lane (told_lane lane when (capped when 1) shown) refl refl t)

-- what the stretches tell after marking
valued-mark : (Has : ℕ → ℕ → Type 0) (lane : Lane) (from until value : ℕ) (rest : List Stretch)
    → (lane.stretch.from < lane.stretch.until → Has lane.stretch.from lane.stretch.value)
    → Valued Has rest
    → (Between from until from → Has from value)
    → Valued Has ((marked lane from until value).lane.stretch ∷ (marked lane from until value).ended ∷ rest)
unfolding marked
valued-mark Has lane from until value rest old v new =
    by_bool (leb until from)
    (λ t. rw t (old, (λ n. absurd (omega arith), v)))
    (λ t. let some = leb-false until from t in
    by_bool (goes_on lane.stretch from)
    (λ g. rw (t, g) (λ n. old (goes-joined lane.stretch from g).0, (λ n. absurd (omega arith), v)))
    (λ g. rw (t, g) (λ n. new (omega arith, omega arith), (old, v))))

shown-valued : (Has : ℕ → ℕ → Type 0) (tolerance : Tolerance) (lane : Lane) (last when shown : ℕ) (rest : List Stretch)
    → (lane.stretch.from < lane.stretch.until → Has lane.stretch.from lane.stretch.value)
    → Valued Has rest
    → (Between (wrong_from tolerance last when) (wrong_until tolerance (capped when 1)) (wrong_from tolerance last when)
    → Has (wrong_from tolerance last when) shown)
    → Valued Has
    ((shown_next tolerance lane last when shown).lane.stretch ∷ (shown_next tolerance lane last when shown).ended ∷ rest)
unfolding shown_next
shown-valued Has tolerance lane last when shown rest old v new =
    valued-mark Has (told_lane lane when (capped when 1) shown) _ _ shown rest old v new

module _ (tolerance : Tolerance) (lane : Lane) (last from to value : ℕ) where
  right_next-kept : {A : Type 0} (part : Lane → A)
      → ((given : Lane) (stretch : Stretch) (wrongms : ℕ) → part (with_stretch given stretch wrongms) ≡ part given)
      → part (right_next tolerance lane last from to value).lane ≡ part (known_lane lane to)
  unfolding right_next
  right_next-kept part keeps =
      by_bool (eqb lane.after 0)
      (λ t. rw t refl)
      (λ t. rw t (marked-kept (known_lane lane to) _ _ _ part (keeps (known_lane lane to))))

  right_next-after : (right_next tolerance lane last from to value).lane.after ≡ lane.after
  right_next-after = right_next-kept (λ (l : Lane). l.after) (λ l s c. refl)

  right_next-first : (right_next tolerance lane last from to value).lane.first ≡ lane.first
  right_next-first = right_next-kept (λ (l : Lane). l.first) (λ l s c. refl)

  right_next-reached : (right_next tolerance lane last from to value).lane.reached ≡ to
  right_next-reached = right_next-kept (λ (l : Lane). l.reached) (λ l s c. refl)

  right_next-value : (right_next tolerance lane last from to value).lane.value ≡ lane.value
  right_next-value = right_next-kept (λ (l : Lane). l.value) (λ l s c. refl)

module _ (tolerance : Tolerance) (lane : Lane) (last time value : ℕ) where
  shown_next-kept : {A : Type 0} (part : Lane → A)
      → ((given : Lane) (stretch : Stretch) (wrongms : ℕ) → part (with_stretch given stretch wrongms) ≡ part given)
      → part (shown_next tolerance lane last time value).lane ≡ part (told_lane lane time (capped time 1) value)
  unfolding shown_next
  shown_next-kept part keeps =
      marked-kept (told_lane lane time (capped time 1) value) _ _ _ part
      (keeps (told_lane lane time (capped time 1) value))

  shown_next-after : (shown_next tolerance lane last time value).lane.after ≡ capped time 1
  shown_next-after = shown_next-kept (λ (l : Lane). l.after) (λ l s c. refl)

  shown_next-first : (shown_next tolerance lane last time value).lane.first ≡ first_after lane time
  shown_next-first = shown_next-kept (λ (l : Lane). l.first) (λ l s c. refl)

  shown_next-reached : (shown_next tolerance lane last time value).lane.reached ≡ lane.reached
  shown_next-reached = shown_next-kept (λ (l : Lane). l.reached) (λ l s c. refl)

  shown_next-value : (shown_next tolerance lane last time value).lane.value ≡ value
  shown_next-value = shown_next-kept (λ (l : Lane). l.value) (λ l s c. refl)

-- ---- when a value was right last

-- what was shown last
last_shown : Happenings → ℕ
last_shown [] = 0
last_shown (is_right from to right ∷ earlier) = last_shown earlier
last_shown (is_shown time shown ∷ earlier) = shown

module _ (tolerance : Tolerance) where
  last-most : (happenings : Happenings) (value : ℕ) → Orderly tolerance happenings
      → last_right happenings value ≤ suc (reached_by happenings)
  unfolding last_right
  last-most [] value o = omega arith
  last-most (is_right from to right ∷ earlier) value o =
      let before = last-most earlier value o.4 in
      by_bool (eqb right value)
      (λ t. rw t (omega arith))
      (λ t. rw t (omega arith))
  last-most (is_shown time shown ∷ earlier) value o = last-most earlier value o.1

  right-last : (happenings : Happenings) (moment value : ℕ) → Orderly tolerance happenings
      → RightIn happenings moment value
      → moment < last_right happenings value
  unfolding last_right
  right-last [] moment value o r = absurd r
  right-last (is_right from to right ∷ earlier) moment value o (inl r) = rw (eq-eqb right value r.2) (omega arith)
  right-last (is_right from to right ∷ earlier) moment value o (inr r) =
      let before = right-last earlier moment value o.4 r in
      let most = last-most earlier value o.4 in
      by_bool (eqb right value)
      (λ t. rw t (omega arith))
      (λ t. rw t before)
  right-last (is_shown time shown ∷ earlier) moment value o r = right-last earlier moment value o.1 r

  last-right : (happenings : Happenings) (moment value : ℕ) → Orderly tolerance happenings
      → suc moment ≡ last_right happenings value
      → RightIn happenings moment value
  unfolding last_right
  last-right [] moment value o e = absurd (omega arith)
  last-right (is_right from to right ∷ earlier) moment value o e =
      by_bool (eqb right value)
      (λ t. let k : suc moment ≡ suc to = rw t at e in
      inl (omega arith, omega arith, eqb-true right value t))
      (λ t. let k : suc moment ≡ last_right earlier value = rw t at e in
      inr (last-right earlier moment value o.4 k))
  last-right (is_shown time shown ∷ earlier) moment value o e = last-right earlier moment value o.1 e

  -- ---- what is good

  -- a value is good at a millisecond, where it is known what is right to EARLY behind it and no further
  good-last : (happenings : Happenings) (time value : ℕ) → Orderly tolerance happenings
      → reached_by happenings ≤ time + tolerance.early
      → Good tolerance (RightIn happenings) time value
      → (0 < last_right happenings value) × (time < last_right happenings value + tolerance.late)
  good-last happenings time value o r g =
      let last = right-last happenings g.0 value o g.3 in
      let late = g.1 in
      (omega arith, omega arith)

  last-good : (happenings : Happenings) (time value last : ℕ) → Orderly tolerance happenings
      → reached_by happenings ≤ time + tolerance.early
      → last ≡ last_right happenings value
      → 0 < last
      → time < last + tolerance.late
      → Good tolerance (RightIn happenings) time value
  last-good happenings time value zero o r e p l = absurd (omega arith)
  last-good happenings time value (suc moment) o r e p l =
      let most : suc moment ≤ suc (reached_by happenings) = rw e (last-most happenings value o) in
      (moment, omega arith, omega arith, last-right happenings moment value o e)

  module _ (near : Near tolerance) where
    -- from when on a value is not good any more
    bad_good : (last time : ℕ) → last ≤ suc farthest → bad_from tolerance.late last ≤ time → 0 < last
        → time < last + tolerance.late
        → ⊥
    unfolding bad_from
    bad_good last time most b p l =
        let n : last ≡ 0 → ⊥ = λ e. omega arith in
        let late = near.late in
        let c : capped last tolerance.late ≤ time = rw (ne_eqb last 0 n) at b in
        omega arith

    good_bad : (last time : ℕ) → ((0 < last) × (time < last + tolerance.late) → ⊥)
        → bad_from tolerance.late last ≤ time
    unfolding bad_from
    good_bad last time g =
        by_same last 0
        (λ e. rw (eq-eqb last 0 e) (omega arith))
        (λ n. rw (ne_eqb last 0 n)
        (by_less time (last + tolerance.late)
        (λ l. absurd (g (omega arith, l)))
        (λ l. omega arith)))

  -- ---- what stands

  after-most : (happenings : Happenings) → Orderly tolerance happenings
      → after_by happenings ≤ suc (reached_by happenings - tolerance.early)
  after-most [] o = omega arith
  after-most (is_right from to value ∷ earlier) o = let before = after-most earlier o.4 in omega arith
  after-most (is_shown time value ∷ earlier) o = omega arith

  reached-most : (happenings : Happenings) → Orderly tolerance happenings → reached_by happenings ≤ farthest
  reached-most [] o = omega arith
  reached-most (is_right from to value ∷ earlier) o = o.2
  reached-most (is_shown time value ∷ earlier) o = reached-most earlier o.1

  told-before : (happenings : Happenings) (time value : ℕ) → Orderly tolerance happenings
      → ToldAt (tellings happenings) time value
      → time < after_by happenings
  told-before [] time value o t = absurd t
  told-before (is_right from to right ∷ earlier) time value o t = told-before earlier time value o.4 t
  told-before (is_shown when shown ∷ earlier) time value o (inl t) = let e = t.0 in omega arith
  told-before (is_shown when shown ∷ earlier) time value o (inr t) =
      let before = told-before earlier time value o.1 t in
      let most = after-most earlier o.1 in
      let reached = o.0 in
      omega arith

  told-there : (happenings : Happenings) (time : ℕ) → after_by happenings ≡ suc time
      → (value : ℕ) × ToldAt (tellings happenings) time value
  told-there [] time e = absurd (omega arith)
  told-there (is_right from to right ∷ earlier) time e = told-there earlier time e
  told-there (is_shown when shown ∷ earlier) time e = (shown, inl (omega arith, refl))

  told-last : (happenings : Happenings) (time value : ℕ) → after_by happenings ≤ time
      → ToldLast (tellings happenings) time value
      → (0 < after_by happenings) × (value ≡ last_shown happenings)
  unfolding last_shown
  told-last [] time value a t = absurd t
  told-last (is_right from to right ∷ earlier) time value a t = told-last earlier time value a t
  told-last (is_shown when shown ∷ earlier) time value a (inl t) = (omega arith, sym t.1)
  told-last (is_shown when shown ∷ earlier) time value a (inr t) = let n = t.0 in absurd (omega arith)

  last-told : (happenings : Happenings) (time : ℕ) → after_by happenings ≤ time → 0 < after_by happenings
      → ToldLast (tellings happenings) time (last_shown happenings)
  unfolding last_shown
  last-told [] time a p = absurd (omega arith)
  last-told (is_right from to right ∷ earlier) time a p = last-told earlier time a p
  last-told (is_shown when shown ∷ earlier) time a p = inl (a, refl)

  -- behind the last thing shown that alone stands
  stands-last : (happenings : Happenings) (time value : ℕ) → Orderly tolerance happenings
      → after_by happenings ≤ time
      → Stands (tellings happenings) time value
      → (0 < after_by happenings) × (value ≡ last_shown happenings)
  stands-last happenings time value o a (inl t) =
      let before = told-before happenings time value o t in absurd (omega arith)
  stands-last happenings time value o a (inr t) = told-last happenings time value a t.1

  last-stands : (happenings : Happenings) (time : ℕ) → Orderly tolerance happenings
      → after_by happenings ≤ time
      → 0 < after_by happenings
      → Stands (tellings happenings) time (last_shown happenings)
  last-stands happenings time o a p =
      inr
      (λ value t. let before = told-before happenings time value o t in omega arith, last-told happenings time a p)

  -- ---- what the lane keeps

  kept-after : (happenings : Happenings) → Orderly tolerance happenings
      → (lane_after tolerance happenings).after ≡ after_by happenings
  unfolding lane_after
  kept-after [] o = refl
  kept-after (is_right from to value ∷ earlier) o =
      right_next-after tolerance (lane_after tolerance earlier) _ from to value ∙ kept-after earlier o.4
  kept-after (is_shown time value ∷ earlier) o =
      shown_next-after tolerance (lane_after tolerance earlier) (last_right earlier value) time value
      ∙ (let most = reached-most earlier o.1 in let reached = o.0 in omega arith)

  kept-reached : (happenings : Happenings) → (lane_after tolerance happenings).reached ≡ reached_by happenings
  unfolding lane_after
  kept-reached [] = refl
  kept-reached (is_right from to value ∷ earlier) =
      right_next-reached tolerance (lane_after tolerance earlier) _ from to value
  kept-reached (is_shown time value ∷ earlier) =
      shown_next-reached tolerance (lane_after tolerance earlier) (last_right earlier value) time value
      ∙ kept-reached earlier

  kept-value : (happenings : Happenings) → (lane_after tolerance happenings).value ≡ last_shown happenings
  unfolding lane_after last_shown
  kept-value [] = refl
  kept-value (is_right from to value ∷ earlier) =
      right_next-value tolerance (lane_after tolerance earlier) _ from to value ∙ kept-value earlier
  kept-value (is_shown time value ∷ earlier) =
      shown_next-value tolerance (lane_after tolerance earlier) (last_right earlier value) time value

-- ---- after anything that a lane was told

-- the first millisecond that is not judged
abbrev next_by : Tolerance → Happenings → ℕ
next_by tolerance happenings = max (after_by happenings) (reached_by happenings - tolerance.early)

abbrev WrongIn : Tolerance → Happenings → ℕ → Type 0
WrongIn tolerance happenings time = Wrong tolerance (RightIn happenings) (tellings happenings) time

-- the stretches are right as far as it was judged
record Agrees (tolerance : Tolerance) (happenings : Happenings) (stretch : Stretch) (ended : List Stretch)
    : Type 0 where
  ends : Ends stretch (min (next_by tolerance happenings) (suc tolerance.end))
  within : (time : ℕ) → InAny (stretch ∷ ended) time
      → (time < next_by tolerance happenings) × (time ≤ tolerance.end)
  accused : (time : ℕ) → time < next_by tolerance happenings → time ≤ tolerance.end
      → WrongIn tolerance happenings time
      → InAny (stretch ∷ ended) time
  guilty : (time : ℕ) → InAny (stretch ∷ ended) time → WrongIn tolerance happenings time

-- the same once something was judged
abbrev AgreesNext : Tolerance → Happenings → Judged → List Stretch → Type 0
AgreesNext tolerance happenings judged rest = Agrees tolerance happenings judged.lane.stretch (judged.ended ∷ rest)

agrees-mark : (tolerance : Tolerance) (before after : Happenings) (lane : Lane) (from until value : ℕ)
    (rest : List Stretch)
    (a : Agrees tolerance before lane.stretch rest) → lane.stretch.from ≤ from
    → next_by tolerance before ≤ next_by tolerance after
    → until ≤ min (next_by tolerance after) (suc tolerance.end)
    → ((time : ℕ) → time < next_by tolerance after → time ≤ tolerance.end → WrongIn tolerance after time
    → InAny (lane.stretch ∷ rest) time ⊎ Between from until time)
    → ((time : ℕ) → InAny (lane.stretch ∷ rest) time → WrongIn tolerance after time)
    → ((time : ℕ) → Between from until time → WrongIn tolerance after time)
    → AgreesNext tolerance after (marked lane from until value) rest
agrees-mark tolerance before after lane from until value rest a behind more most accuse still new =
    record {
      ends =
          mark-ends lane from until value (min (next_by tolerance before) (suc tolerance.end))
          (min (next_by tolerance after) (suc tolerance.end)) a.ends
          (min-more (next_by tolerance before) (next_by tolerance after) (suc tolerance.end) more)
          most;
      within = λ time i. ⊎_elim (λ old. (lt_more (a.within time old).0 more, (a.within time old).1))
          (λ b. min-out (next_by tolerance after) tolerance.end until time most b.1)
          (mark-only lane from until value behind (InAny rest time) time i);
      accused = λ time t e w. mark-all lane from until value behind (InAny rest time) time (accuse time t e w);
      guilty = λ time i. ⊎_elim (still time) (new time)
          (mark-only lane from until value behind (InAny rest time) time i);
    }

-- a stretch begins no later than where it is judged next
behind_start : (stretch : Stretch) (next end start bad : ℕ) → Ends stretch (min next (suc end)) → next ≡ start
    → stretch.from ≤ max start bad
behind_start stretch next end start bad e s = let h = e.some in let k = e.most in omega arith

limit_most : (over to after early end : ℕ) → over ≤ to → end ≤ farthest
    → min (over - early) (capped end 1) ≤ min (max after (to - early)) (suc end)
limit_most over to after early end h f =
    le-min (le_trans (min-le_left (over - early) (capped end 1)) (sub-most over to after early h))
    (let k = min-le_right (over - early) (capped end 1) in omega arith)

without-none : {Rest : Type 0} {One : Type 0} {time : ℕ} → One ⊎ (In none time ⊎ Rest) → One ⊎ Rest
without-none (inl i) = inl i
without-none (inr (inl i)) = absurd (omega arith)
without-none (inr (inr r)) = inr r

module _ (tolerance : Tolerance) (near : Near tolerance) where
  silent-nothing : (happenings : Happenings) → Orderly tolerance happenings → after_by happenings ≡ 0
      → (time value : ℕ) → Stands (tellings happenings) time value → ⊥
  silent-nothing happenings o e time value s =
      let k = (stands-last tolerance happenings time value o (omega arith) s).0 in omega arith

  -- ---- it is known that a value is right

  module _ (earlier : Happenings) (from to right : ℕ)
      (o : Orderly tolerance (is_right from to right ∷ earlier)) where
    good_more : (time value : ℕ) → Good tolerance (RightIn earlier) time value
        → Good tolerance (RightIn (is_right from to right ∷ earlier)) time value
    good_more time value g = (g.0, g.1, g.2, inr g.3)

    good-before : (time value : ℕ) → time < next_by tolerance earlier
        → Good tolerance (RightIn (is_right from to right ∷ earlier)) time value
        → Good tolerance (RightIn earlier) time value
    good-before time value n g =
        let reached = o.0 in
        let after = o.3 in
        let soon = g.2 in
        (g.0, g.1, g.2, ⊎_elim (λ r. let begun = r.0 in absurd (omega arith)) (λ r. r) g.3)

    good_cases : (time value : ℕ)
        → Good tolerance (RightIn (is_right from to right ∷ earlier)) time value
        → ((right ≡ value) × (from ≤ time + tolerance.early)) ⊎ Good tolerance (RightIn earlier) time value
    good_cases time value g =
        let soon = g.2 in
        ⊎_elim (λ r. let begun = r.0 in inl (r.2, omega arith)) (λ r. inr (g.0, g.1, g.2, r)) g.3

    good-now : (time value : ℕ) → time + tolerance.early < to → right ≡ value → from ≤ time + tolerance.early
        → Good tolerance (RightIn (is_right from to right ∷ earlier)) time value
    good-now time value t e f = (time + tolerance.early, omega arith, omega arith, inl (f, omega arith, e))

    wrong-before : (time : ℕ) → time < next_by tolerance earlier
        → WrongIn tolerance (is_right from to right ∷ earlier) time
        → WrongIn tolerance earlier time
    wrong-before time n w = (w.0, w.1, λ g. w.2 (good_more time w.0 g))

    wrong-still : (time : ℕ) → time < next_by tolerance earlier → WrongIn tolerance earlier time
        → WrongIn tolerance (is_right from to right ∷ earlier) time
    wrong-still time n w = (w.0, w.1, λ g. w.2 (good-before time w.0 n g))

    module _ (lane : Lane) (last : ℕ) (after : lane.after ≡ after_by earlier)
        (reached : lane.reached ≡ reached_by earlier)
        (value : lane.value ≡ last_shown earlier)
        (kept : last ≡ last_right earlier (last_shown earlier)) where
      abbrev begin : ℕ
      begin = wrong_from tolerance last (max lane.after (lane.reached - tolerance.early))

      abbrev over : ℕ
      over = wrong_until tolerance (over_at lane.value from to right - tolerance.early)

      last-near : last ≤ suc farthest
      last-near =
          let most = last-most tolerance earlier (last_shown earlier) o.4 in
          let far = reached-most tolerance earlier o.4 in
          omega arith

      over-most : over_at lane.value from to right ≤ to
      unfolding over_at
      over-most =
          by_bool (eqb lane.value right) (λ t. rw t o.1) (λ t. rw t (omega arith))

      -- a wrong millisecond that is judged now is marked
      wrong-marked : (time : ℕ) → next_by tolerance earlier ≤ time
          → time < next_by tolerance (is_right from to right ∷ earlier)
          → time ≤ tolerance.end
          → WrongIn tolerance (is_right from to right ∷ earlier) time
          → Between begin over time
      unfolding over_at
      wrong-marked time n t e w =
          let stands = stands-last tolerance earlier time w.0 o.4 (omega arith) w.1 in
          let same : w.0 ≡ last_shown earlier = stands.1 in
          let late = near.end in
          let bad : bad_from tolerance.late last ≤ time =
          good_bad tolerance near last time
          (λ g. w.2 (good_more time w.0
          (last-good tolerance earlier time w.0 last o.4 (omega arith) (kept ∙ ap (last_right earlier) (sym same))
          g.0 g.1))) in
          let until : time < over_at lane.value from to right - tolerance.early =
          by_bool (eqb lane.value right)
          (λ q. rw q
          (by_less time (from - tolerance.early) (λ l. l)
          (λ l. absurd (w.2 (good-now time w.0 (omega arith)
          (sym (eqb-true lane.value right q) ∙ value ∙ sym same) (omega arith))))))
          (λ q. rw q (omega arith)) in
          between_in (max lane.after (lane.reached - tolerance.early)) (bad_from tolerance.late last)
          (over_at lane.value from to right - tolerance.early) tolerance.end time
          (rw (after, reached) n) bad until
          e near.end

      -- and what is marked now is wrong
      marked-shown : (time : ℕ) → 0 < after_by earlier → Between begin over time
          → WrongShown tolerance (is_right from to right ∷ earlier) time (last_shown earlier)
      unfolding over_at
      marked-shown time told b =
          let is =
          between_out (max lane.after (lane.reached - tolerance.early)) (bad_from tolerance.late last)
          (over_at lane.value from to right - tolerance.early) tolerance.end time b in
          let start = max-out lane.after (lane.reached - tolerance.early) time is.begun in
          let known : reached_by earlier ≤ time + tolerance.early =
          rw (← reached) (sub_out lane.reached tolerance.early time start.1) in
          let stands = last-stands tolerance earlier time o.4 (rw (← after) start.0) told in
          let bad : bad_from tolerance.late last ≤ time = is.past in
          let limit : time < over_at lane.value from to right - tolerance.early = is.before in (
            stands,
            λ g. ⊎_elim
                (λ r. let q : eqb lane.value right ≡ true = eq-eqb lane.value right (value ∙ sym r.0) in
                let l : time < from - tolerance.early = rw q at limit in
                let f = r.1 in
                omega arith)
                (λ r. let k = good-last tolerance earlier time (last_shown earlier) o.4 known r in
                bad_good tolerance near last time last-near bad (rw kept k.0) (rw kept k.1))
                (good_cases time (last_shown earlier) g),
          )

      marked-wrong : (time : ℕ) → 0 < after_by earlier → Between begin over time
          → WrongIn tolerance (is_right from to right ∷ earlier) time
      marked-wrong time told b = let w = marked-shown time told b in (last_shown earlier, w.0, w.1)

  -- where nothing is shown nothing is judged
  right-silent : (lane : Lane) (last from to right : ℕ) → lane.after ≡ 0
      → right_next tolerance lane last from to right ≡ record { lane = known_lane lane to; ended = none }
  unfolding right_next
  right-silent lane last from to right e = rw (eq-eqb lane.after 0 e)

  right-judged : (lane : Lane) (last from to right : ℕ) → (lane.after ≡ 0 → ⊥)
      → right_next tolerance lane last from to right
      ≡ marked (known_lane lane to)
      (wrong_from tolerance last (max lane.after (lane.reached - tolerance.early)))
      (wrong_until tolerance (over_at lane.value from to right - tolerance.early)) lane.value
  unfolding right_next
  right-judged lane last from to right n = rw (ne_eqb lane.after 0 n)

  next_more : (earlier : Happenings) (from to right : ℕ) → Orderly tolerance (is_right from to right ∷ earlier)
      → next_by tolerance earlier ≤ next_by tolerance (is_right from to right ∷ earlier)
  next_more earlier from to right o = let begun = o.0 in let ended = o.1 in omega arith

  right-told : (earlier : Happenings) (from to right : ℕ) (o : Orderly tolerance (is_right from to right ∷ earlier))
      (lane : Lane) (last : ℕ) (rest : List Stretch) → lane.after ≡ after_by earlier
      → lane.reached ≡ reached_by earlier
      → lane.value ≡ last_shown earlier
      → last ≡ last_right earlier (last_shown earlier)
      → 0 < after_by earlier
      → Agrees tolerance earlier lane.stretch rest
      → AgreesNext tolerance (is_right from to right ∷ earlier)
      (marked (known_lane lane to) (wrong_from tolerance last (max lane.after (lane.reached - tolerance.early)))
      (wrong_until tolerance (over_at lane.value from to right - tolerance.early)) lane.value)
      rest
  right-told earlier from to right o lane last rest after reached value kept told a =
      let start = max lane.after (lane.reached - tolerance.early) in
      let same : start ≡ next_by tolerance earlier = rw (after, reached) in
      let limit = over_at lane.value from to right - tolerance.early in
      let far = over-most earlier from to right o lane last after reached value kept in
      agrees-mark tolerance earlier (is_right from to right ∷ earlier) (known_lane lane to) _ _ lane.value rest a
      (behind_start lane.stretch (next_by tolerance earlier) tolerance.end start
      (bad_from tolerance.late last) a.ends (sym same))
      (next_more earlier from to right o)
      (limit_most (over_at lane.value from to right) to (after_by earlier) tolerance.early
      tolerance.end far near.end)
      (λ time t e w. by_less time (next_by tolerance earlier)
      (λ n. inl (a.accused time n e (wrong-before earlier from to right o time n w)))
      (λ n. inr (wrong-marked earlier from to right o lane last after reached value kept time n t e w)))
      (λ time i. wrong-still earlier from to right o time (a.within time i).0 (a.guilty time i))
      (λ time b. marked-wrong earlier from to right o lane last after reached value kept time told b)

  right-agrees : (earlier : Happenings) (from to right : ℕ) (o : Orderly tolerance (is_right from to right ∷ earlier))
      (lane : Lane) (last : ℕ) (rest : List Stretch) → lane.after ≡ after_by earlier
      → lane.reached ≡ reached_by earlier
      → lane.value ≡ last_shown earlier
      → last ≡ last_right earlier (last_shown earlier)
      → Agrees tolerance earlier lane.stretch rest
      → AgreesNext tolerance (is_right from to right ∷ earlier) (right_next tolerance lane last from to right) rest
  right-agrees earlier from to right o lane last rest after reached value kept a =
      by_same lane.after 0
      (λ e. rw (right-silent lane last from to right e)
      (let silent : after_by earlier ≡ 0 = sym after ∙ e in
      let more = next_more earlier from to right o in
      let nothing : (time : ℕ) → WrongIn tolerance (is_right from to right ∷ earlier) time → ⊥ =
      λ time w. silent-nothing earlier o.4 silent time w.0 w.1 in
      record {
        ends = record { some = a.ends.some; most = let most = a.ends.most in omega arith };
        within = λ time i. let w = a.within time (without-none i) in (omega arith, omega arith);
        accused = λ time t e w. absurd (nothing time w);
        guilty = λ time i. absurd
            (silent-nothing earlier o.4 silent time (a.guilty time (without-none i)).0
            (a.guilty time (without-none i)).1);
      }))
      (λ n. rw (right-judged lane last from to right n)
      (right-told earlier from to right o lane last rest after reached value kept
      (let m : after_by earlier ≡ 0 → ⊥ = λ e. n (after ∙ e) in omega arith)
      a))

  -- ---- a value is shown

  module _ (earlier : Happenings) (when shown : ℕ) (o : Orderly tolerance (is_shown when shown ∷ earlier)) where
    -- before it nothing changes
    stands-before : (time value : ℕ) → time < when → Stands (tellings (is_shown when shown ∷ earlier)) time value
        → Stands (tellings earlier) time value
    stands-before time value t (inl (inl e)) = let k = e.0 in absurd (omega arith)
    stands-before time value t (inl (inr e)) = inl e
    stands-before time value t (inr (n, inl e)) = let k = e.0 in absurd (omega arith)
    stands-before time value t (inr (n, inr e)) = inr (λ v k. n v (inr k), e.1)

    stands-still : (time value : ℕ) → time < when → Stands (tellings earlier) time value
        → Stands (tellings (is_shown when shown ∷ earlier)) time value
    stands-still time value t (inl e) = inl (inr e)
    stands-still time value t (inr (n, e)) =
        inr (λ v. ⊎_elim (λ k. let h = k.0 in omega arith) (λ k. n v k), inr (omega arith, e))

    -- at that millisecond it stands with what was told then
    stands-now : (value : ℕ) → Stands (tellings (is_shown when shown ∷ earlier)) when value
        → (shown ≡ value) ⊎ ToldAt (tellings earlier) when value
    stands-now value (inl (inl e)) = inl e.1
    stands-now value (inl (inr e)) = inr e
    stands-now value (inr (n, e)) = absurd (n shown (inl (refl, refl)))

    known-now : reached_by earlier ≤ when + tolerance.early
    known-now = let reached = o.0 in omega arith

    after-now : after_by earlier ≤ suc when
    after-now = let reached = o.0 in let most = after-most tolerance earlier o.1 in omega arith

    next-now : next_by tolerance earlier ≤ suc when
    next-now = let reached = o.0 in let most = after-now in omega arith

    when_most : when ≤ farthest
    when_most = let reached = o.0 in let most = reached-most tolerance earlier o.1 in omega arith

    shown-now : (value : ℕ) → when < next_by tolerance earlier → WrongShown tolerance earlier when value
        → WrongShown tolerance (is_shown when shown ∷ earlier) when value
    shown-now value n w =
        let reached = o.0 in
        let most = after-now in (
          ⊎_elim (λ s. inl (inr s))
              (λ s. let there = told-there tolerance earlier when (omega arith) in absurd (s.0 there.0 there.1))
              w.0,
          w.1,
        )

    module _ (last : ℕ) (kept : last ≡ last_right earlier shown) where
      bad_now : (Good tolerance (RightIn earlier) when shown → ⊥) → bad_from tolerance.late last ≤ when
      bad_now g =
          good_bad tolerance near last when
          (λ k. g (last-good tolerance earlier when shown last o.1 known-now kept k.0 k.1))

      now_bad : bad_from tolerance.late last ≤ when → Good tolerance (RightIn earlier) when shown → ⊥
      now_bad b g =
          let k = good-last tolerance earlier when shown o.1 known-now g in
          let most : last ≤ suc farthest =
          (let m = last-most tolerance earlier shown o.1 in
          let f = reached-most tolerance earlier o.1 in
          omega arith) in
          bad_good tolerance near last when most b (rw kept k.0) (rw kept k.1)

      -- the milliseconds marked for what is shown: its own, or none
      abbrev Now : ℕ → Type 0
      Now time = Between (max when (bad_from tolerance.late last))
          (min (capped when 1) (capped tolerance.end 1)) time

      now-only : (time : ℕ) → Now time → (when ≡ time) × (bad_from tolerance.late last ≤ when)
      now-only time b =
          let is = between_out when (bad_from tolerance.late last) (capped when 1) tolerance.end time b in
          let begun = is.begun in
          let before = is.before in
          let past = is.past in
          (omega arith, omega arith)

      module _ (stretch : Stretch) (rest : List Stretch) (a : Agrees tolerance earlier stretch rest) where
        accuse-now : when ≤ tolerance.end → WrongIn tolerance (is_shown when shown ∷ earlier) when
            → InAny (stretch ∷ rest) when ⊎ Now when
        accuse-now e w =
            ⊎_elim
            (λ s. let bad = bad_now (λ g. w.2 (subst (λ v. Good tolerance (RightIn earlier) when v) s g)) in
            let far = when_most in
            inr (between_in when (bad_from tolerance.late last) (capped when 1) tolerance.end when
            (omega arith) bad (omega arith) e near.end))
            (λ s. let told = told-before tolerance earlier when w.0 o.1 s in
            inl (a.accused when (omega arith) e (w.0, inl s, w.2)))
            (stands-now w.0 w.1)

        accuse : (time : ℕ) → time < next_by tolerance (is_shown when shown ∷ earlier) → time ≤ tolerance.end
            → WrongIn tolerance (is_shown when shown ∷ earlier) time
            → InAny (stretch ∷ rest) time ⊎ Now time
        accuse time t e w =
            let reached = o.0 in
            by_less time when
            (λ n. inl (a.accused time (omega arith) e (w.0, stands-before time w.0 n w.1, w.2)))
            (λ n. let same : when ≡ time = omega arith in
            subst (λ m. InAny (stretch ∷ rest) m ⊎ Now m) same
            (accuse-now (omega arith)
            (subst (λ m. WrongIn tolerance (is_shown when shown ∷ earlier) m) (sym same) w)))

        still-now : when < next_by tolerance earlier → WrongIn tolerance earlier when
            → WrongIn tolerance (is_shown when shown ∷ earlier) when
        still-now n w =
            let reached = o.0 in
            let most = after-now in (
              w.0,
              ⊎_elim (λ s. inl (inr s))
                  (λ s. let there = told-there tolerance earlier when (omega arith) in
                  absurd (s.0 there.0 there.1))
                  w.1,
              w.2,
            )

        still : (time : ℕ) → InAny (stretch ∷ rest) time → WrongIn tolerance (is_shown when shown ∷ earlier) time
        still time i =
            let within = (a.within time i).0 in
            let w = a.guilty time i in
            let next = next-now in
            by_less time when
            (λ n. (w.0, stands-still time w.0 n w.1, w.2))
            (λ n. let same : when ≡ time = (let l : time < suc when = lt_more within next in omega arith) in
            subst (λ m. WrongIn tolerance (is_shown when shown ∷ earlier) m) same
            (still-now (rw same within) (subst (λ m. WrongIn tolerance earlier m) (sym same) w)))

        new : (time : ℕ) → Now time → WrongIn tolerance (is_shown when shown ∷ earlier) time
        new time b =
            let k = now-only time b in
            subst (λ m. WrongIn tolerance (is_shown when shown ∷ earlier) m) k.0
            (shown, inl (inl (refl, refl)), now_bad k.1)

  shown-agrees : (earlier : Happenings) (when shown : ℕ) (o : Orderly tolerance (is_shown when shown ∷ earlier))
      (lane : Lane) (last : ℕ) (rest : List Stretch) → last ≡ last_right earlier shown
      → Agrees tolerance earlier lane.stretch rest
      → AgreesNext tolerance (is_shown when shown ∷ earlier) (shown_next tolerance lane last when shown) rest
  unfolding shown_next
  shown-agrees earlier when shown o lane last rest kept a =
      let next = next-now earlier when shown o in
      let far = when_most earlier when shown o in
      agrees-mark tolerance earlier (is_shown when shown ∷ earlier) (told_lane lane when (capped when 1) shown)
      _ _ shown rest a
      (let some = a.ends.some in let most = a.ends.most in omega arith)
      (omega arith)
      (now-most when tolerance.end (next_by tolerance (is_shown when shown ∷ earlier)) (omega arith))
      (accuse earlier when shown o last kept lane.stretch rest a)
      (still earlier when shown o last kept lane.stretch rest a)
      (new earlier when shown o last kept lane.stretch rest a)

  -- ---- any sequence

  agrees : (happenings : Happenings) → Orderly tolerance happenings
      → Agrees tolerance happenings (lane_after tolerance happenings).stretch (ended_after tolerance happenings)
  unfolding lane_after ended_after
  agrees [] o =
      record {
        ends = record { some = omega arith; most = omega arith };
        within = λ time. ⊎_elim (λ i. absurd (omega arith)) (λ i. absurd i);
        accused = λ time t e w. ⊎_elim (λ s. absurd s) (λ s. absurd s.1) w.1;
        guilty = λ time. ⊎_elim (λ i. absurd (omega arith)) (λ i. absurd i);
      }
  agrees (is_right from to right ∷ earlier) o =
      right-agrees earlier from to right o (lane_after tolerance earlier)
      (last_right earlier (lane_after tolerance earlier).value) (ended_after tolerance earlier)
      (kept-after tolerance earlier o.4)
      (kept-reached tolerance earlier)
      (kept-value tolerance earlier)
      (ap (last_right earlier) (kept-value tolerance earlier))
      (agrees earlier o.4)
  agrees (is_shown when shown ∷ earlier) o =
      shown-agrees earlier when shown o (lane_after tolerance earlier) (last_right earlier shown)
      (ended_after tolerance earlier)
      refl
      (agrees earlier o.1)

  -- ---- the stretches are apart, and counted

  tidy : (happenings : Happenings) → Orderly tolerance happenings
      → Tidy (lane_after tolerance happenings) (ended_after tolerance happenings)
  unfolding lane_after ended_after
  tidy [] o = record { over = tt; apart = tt; counted = refl; most = omega arith }
  tidy (is_right from to right ∷ earlier) o =
      let lane = lane_after tolerance earlier in
      let last = last_right earlier lane.value in
      let t = tidy earlier o.4 in
      let ends = (agrees earlier o.4).ends in
      let start = max lane.after (lane.reached - tolerance.early) in
      let same : next_by tolerance earlier ≡ start =
      rw (kept-after tolerance earlier o.4, kept-reached tolerance earlier) in
      by_same lane.after 0
      (λ e. subst (λ (j : Judged). Tidy j.lane (j.ended ∷ ended_after tolerance earlier))
      (sym (right-silent lane last from to right e)) (tidy-none lane (known_lane lane to) refl refl t))
      (λ n. subst (λ (j : Judged). Tidy j.lane (j.ended ∷ ended_after tolerance earlier))
      (sym (right-judged lane last from to right n))
      (tidy-mark (known_lane lane to) _ _ lane.value (min (next_by tolerance earlier) (suc tolerance.end)) ends
      (let k = near.end in omega arith)
      (behind_start lane.stretch (next_by tolerance earlier) tolerance.end start (bad_from tolerance.late last)
      ends same)
      (tidy-same lane (known_lane lane to) refl refl t)))
  tidy (is_shown when shown ∷ earlier) o =
      let lane = lane_after tolerance earlier in
      let ends = (agrees earlier o.1).ends in
      let next = next-now earlier when shown o in
      shown-tidy tolerance lane (last_right earlier shown) when shown
      (min (next_by tolerance earlier) (suc tolerance.end)) ends
      (let k = near.end in omega arith)
      (omega arith)
      (tidy earlier o.1)

  -- ---- what a stretch tells

  -- what was wrong as far as it was judged stays so
  shown-still : (happening : Happening) (earlier : Happenings) → Orderly tolerance (happening ∷ earlier)
      → (time value : ℕ) → time < next_by tolerance earlier
      → WrongShown tolerance earlier time value
      → WrongShown tolerance (happening ∷ earlier) time value
  shown-still (is_right from to right) earlier o time value n w =
      (w.0, λ g. w.1 (good-before earlier from to right o time value n g))
  shown-still (is_shown when shown) earlier o time value n w =
      by_less time when
      (λ l. (stands-still earlier when shown o time value l w.0, w.1))
      (λ l. let next = next-now earlier when shown o in
      let same : when ≡ time = (let k : time < suc when = lt_more n next in omega arith) in
      subst (λ m. WrongShown tolerance (is_shown when shown ∷ earlier) m value) same
      (shown-now earlier when shown o value (rw same n)
      (subst (λ m. WrongShown tolerance earlier m value) (sym same) w)))

  valued-more : (happening : Happening) (earlier : Happenings) → Orderly tolerance (happening ∷ earlier)
      → (list : List Stretch) → ((time : ℕ) → InAny list time → time < next_by tolerance earlier)
      → Valued (WrongShown tolerance earlier) list
      → Valued (WrongShown tolerance (happening ∷ earlier)) list
  valued-more happening earlier o [] within v = tt
  valued-more happening earlier o (stretch ∷ rest) within v = (
    λ n. shown-still happening earlier o stretch.from stretch.value
        (within stretch.from (inl (omega arith, n))) (v.0 n),
    valued-more happening earlier o rest (λ time i. within time (inr i)) v.1,
  )

  valued : (happenings : Happenings) → Orderly tolerance happenings
      → Valued (WrongShown tolerance happenings) (stretches_after tolerance happenings)
  unfolding lane_after ended_after
  valued [] o = (λ n. absurd (omega arith), tt)
  valued (is_right from to right ∷ earlier) o =
      let lane = lane_after tolerance earlier in
      let last = last_right earlier lane.value in
      let value : lane.value ≡ last_shown earlier = kept-value tolerance earlier in
      let after = kept-after tolerance earlier o.4 in
      let more =
      valued-more (is_right from to right) earlier o (stretches_after tolerance earlier)
      (λ time i. ((agrees earlier o.4).within time i).0)
      (valued earlier o.4) in
      by_same lane.after 0
      (λ e. subst (λ (j : Judged). Valued (WrongShown tolerance (is_right from to right ∷ earlier))
      (j.lane.stretch ∷ j.ended ∷ ended_after tolerance earlier))
      (sym (right-silent lane last from to right e)) (more.0, (λ n. absurd (omega arith), more.1)))
      (λ n. subst (λ (j : Judged). Valued (WrongShown tolerance (is_right from to right ∷ earlier))
      (j.lane.stretch ∷ j.ended ∷ ended_after tolerance earlier))
      (sym (right-judged lane last from to right n))
      (valued-mark (WrongShown tolerance (is_right from to right ∷ earlier)) (known_lane lane to) _ _ lane.value
      (ended_after tolerance earlier) more.0 more.1
      (λ b. subst (λ v. WrongShown tolerance (is_right from to right ∷ earlier)
      (wrong_from tolerance last (max lane.after (lane.reached - tolerance.early))) v) (sym value)
      (marked-shown earlier from to right o lane last after (kept-reached tolerance earlier) value
      (ap (last_right earlier) value) (wrong_from tolerance last (max lane.after (lane.reached - tolerance.early)))
      (let m : after_by earlier ≡ 0 → ⊥ = λ e. n (after ∙ e) in omega arith) b))))
  valued (is_shown when shown ∷ earlier) o =
      let lane = lane_after tolerance earlier in
      let last = last_right earlier shown in
      let more =
      valued-more (is_shown when shown) earlier o (stretches_after tolerance earlier)
      (λ time i. ((agrees earlier o.1).within time i).0)
      (valued earlier o.1) in
      shown-valued (WrongShown tolerance (is_shown when shown ∷ earlier)) tolerance lane last when shown
      (ended_after tolerance earlier) more.0 more.1
      (λ b. let k = now-only earlier when shown o last refl _ b in
      subst (λ m. WrongShown tolerance (is_shown when shown ∷ earlier) m shown) k.0
      (inl (inl (refl, refl)), now_bad earlier when shown o last refl k.1))

  -- ---- what was shown first

  silent-empty : (happenings : Happenings) → after_by happenings ≡ 0 → tellings happenings ≡ []
  silent-empty [] e = refl
  silent-empty (is_right from to right ∷ earlier) e = silent-empty earlier e
  silent-empty (is_shown when shown ∷ earlier) e = absurd (omega arith)

  empty-silent : (happenings : Happenings) → tellings happenings ≡ [] → after_by happenings ≡ 0
  empty-silent [] e = refl
  empty-silent (is_right from to right ∷ earlier) e = empty-silent earlier e
  empty-silent (is_shown when shown ∷ earlier) e = absurd (cons_not_nil e)

  first_more : (told : Tellings) (telling : Telling) (time : ℕ) → FirstAt told time → FirstAt (telling ∷ told) time
  first_more [] telling time f = absurd f
  first_more (other ∷ earlier) telling time f = f

  kept-first : (happenings : Happenings) → Orderly tolerance happenings → (after_by happenings ≡ 0 → ⊥)
      → FirstAt (tellings happenings) (lane_after tolerance happenings).first
  unfolding lane_after first_after
  kept-first [] o n = absurd (n refl)
  kept-first (is_right from to right ∷ earlier) o n =
      subst (λ t. FirstAt (tellings earlier) t)
      (sym (right_next-first tolerance (lane_after tolerance earlier) _ from to right))
      (kept-first earlier o.4 n)
  kept-first (is_shown when shown ∷ earlier) o n =
      let lane = lane_after tolerance earlier in
      let after : lane.after ≡ after_by earlier = kept-after tolerance earlier o.1 in
      let made : (lane_after tolerance (is_shown when shown ∷ earlier)).first ≡ first_after lane when =
      shown_next-first tolerance lane (last_right earlier shown) when shown in
      by_same (after_by earlier) 0
      (λ e. let first : first_after lane when ≡ when = rw (eq-eqb lane.after 0 (after ∙ e)) in
      subst (λ t. FirstAt (record { time = when; value = shown } ∷ tellings earlier) t) (sym (made ∙ first))
      (subst (λ t. FirstAt (record { time = when; value = shown } ∷ t) when) (sym (silent-empty earlier e)) refl))
      (λ m. let first : first_after lane when ≡ lane.first =
      rw (ne_eqb lane.after 0 (λ e. m (sym after ∙ e))) in
      subst (λ t. FirstAt (record { time = when; value = shown } ∷ tellings earlier) t) (sym (made ∙ first))
      (first_more (tellings earlier) (record { time = when; value = shown }) lane.first (kept-first earlier o.1 m)))

  -- THE STRETCHES ARE EXACT, once it is known what is right to beyond EARLY behind the end.
  pub lane-exact : (happenings : Happenings) → Orderly tolerance happenings
      → tolerance.end + tolerance.early < reached_by happenings
      → Exact tolerance happenings
  lane-exact happenings o whole =
      let a = agrees happenings o in
      let t = tidy happenings o in
      let end = near.end in
      record {
        wrong = λ time.
            (λ w. let e = w.0 in a.accused time (omega arith) e w.1, λ i. ((a.within time i).1, a.guilty time i));
        apart = (λ n. t.over, t.apart);
        wrongms = tidy-count (lane_after tolerance happenings) (ended_after tolerance happenings) _ a.ends
            (omega arith) t;
        value = valued happenings o;
        silent = (
          λ e. silent-empty happenings (sym (kept-after tolerance happenings o) ∙ e),
          λ e. kept-after tolerance happenings o ∙ empty-silent happenings e,
        );
        first = λ n. kept-first happenings o (λ e. n (kept-after tolerance happenings o ∙ e));
      }
