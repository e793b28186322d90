-- Laws of text written from a place, of numbers in decimal, and of numbers read. Assumes nothing.
use Prim.Native.Nat.{ℕ, suc, ◌+◌, ◌*◌, ◌-◌, ◌<◌, ◌≤◌}
use mathlib.Core.Bool.{Bool, true, false, cond, ◌&&◌, and-false}
use mathlib.Core.List.{List, [], ◌∷◌, ◌++◌, append_assoc, append-nil}
use mathlib.Core.Path.{◌≡◌, refl, ap, sym, subst, ◌∙◌}
use native.Mathlib.Nat.{add-zero}
use native.Mathlib.Numerals.{add-one}
use native.Mathlib.Omega.{arith}
use borrow.Author.Tests.{leb-true, le-leb, lt-leb, lt-ltb}
use borrow.Rule.Slice.PartMut.{mid_of, put_mid, Post-is}
use lib.Dec.{leb, ltb}
use lib.ListN.{length, get_or, take, drop, set, replicate, length-append, length-drop, length-set, length-replicate, take-append-drop, drop_of_length-le}
use lib.Seq.{length-take-le, take_at, take_all, take-length, take-suc, drop-length, drop-cons, drop_at, drop-append-add, drop-drop, append_snoc, set_split}
use Rattle.digits.specs.declared.decimal.DecimalText.{DecimalText}
use Rattle.digits.specs.Digits.{upper_digit, lower_digit, digits_of, numeral0, numeral9, is_between, is_numeral, space, all_numerals}
use Rattle.digits.specs.Decimal.{decimal_places, decimal_of, decimal, decimal_value}
use Rattle.digits.proofs.Decimals.{places-enough, decimal_of-length}
use Rattle.std.specs.Prelude.{Option, None, Some}
use Rattle.text.specs.Text.{widest_number, spaced_numbers, numbers_text, with_text, has_room, roomed_text, PutNumbers, read_number}
use Rattle.text.specs.PutAt.{next_text, Put}

-- ---- with_text

-- no text
pub with_text-none : (place : ℕ) (out : List ℕ) → with_text place [] out ≡ out
with_text-none place out = rw (append-nil, add-zero place) (take-append-drop place out)

module _ (place : ℕ) (out : List ℕ) where
  -- the output keeps its length
  pub with_text-length : (text : List ℕ) → place + length text ≤ length out → length (with_text place text out) ≡ length
      out
  with_text-length text fits =
      rw (length-append, length-append)
      (omega (arith, length-take-le place out (omega arith), length-drop (place + length text) out))

  -- text behind text
  pub with_text-more : (one other : List ℕ) → place ≤ length out
      → with_text (place + length one) other (with_text place one out) ≡ with_text place (one ++ other) out
  with_text-more one other room =
      let front = take place out ++ one in
      let size : length front ≡ place + length one =
      length-append (take place out) one ∙ ap (λ (n : ℕ). n + length one) (length-take-le place out room) in
      let end : length front + length other ≡ place + length (one ++ other) =
      omega (arith, size, length-append one other) in
      rw (
        take_at front (drop (place + length one) out) (place + length one) size,
        ← size,
        drop-append-add front (drop (length front) out) (length other),
        drop-drop (length other) (length front) out,
        end,
      )
      (ap (λ (text : List ℕ). text ++ drop (place + length (one ++ other)) out) (append_assoc (take place out) one
      other))

  -- one character
  pub with_text-set : (character : ℕ) → place < length out → set out place character ≡ with_text place (character ∷ [])
      out
  with_text-set character inside =
      set_split out place character inside
      ∙ sym (append_snoc (take place out) character (drop (suc place) out))
      ∙ ap (λ (n : ℕ). take place out ++ (character ∷ []) ++ drop n out) (sym (add-one place))

  -- a text copied to the front of the part that runs from a place to the end
  pub with_text-part : (text part : List ℕ) → place ≤ length out
      → part ≡ take (length text) text ++ drop (length text) (mid_of place (length out - place) out)
      → put_mid place (length out - place) out part ≡ with_text place text out
  with_text-part text part inside copied =
      let whole : mid_of place (length out - place) out ≡ drop place out =
      take_all (length out - place) (drop place out) (omega (arith, length-drop place out)) in
      let is : part ≡ text ++ drop (place + length text) out =
      copied ∙ rw (take-length text, whole, drop-drop (length text) place out) in
      rw (is, Post-is place (length out) out inside, drop-length out, append-nil)
      (sym (append_assoc (take place out) text (drop (place + length text) out)))

-- ---- a number in decimal

-- where it stands in its twenty places
pub record DecimalPart (number : ℕ) (written : DecimalText) : Type 0 where
  pub places : written.start + length (decimal_of number) ≡ decimal_places
  pub size : length written.text ≡ decimal_places
  pub digits : drop written.start written.text ≡ decimal_of number

module _ (number : ℕ) (small : number < 18446744073709551616) where
  pub decimal_of-short : length (decimal_of number) ≤ decimal_places
  decimal_of-short = decimal_of-length 19 number (places-enough number small)

  -- what stands from its start on is the number
  pub decimal-text : (written : DecimalText) → written ≡ decimal number → DecimalPart number written
  unfolding decimal
  decimal-text written is =
      let size : ℕ = decimal_places - length (decimal_of number) in
      let start : written.start ≡ size = ap (λ (t : DecimalText). t.start) is in
      let text : written.text ≡ replicate size 0 ++ decimal_of number = ap (λ (t : DecimalText). t.text) is in
      record {
        places = omega (arith, start, decimal_of-short);
        size =
            omega (
              arith,
              ap length text,
              length-append (replicate size 0) (decimal_of number),
              length-replicate {A = ℕ} size 0,
              decimal_of-short,
            );
        digits =
            (λ j. drop (start j) (text j)) ∙ drop_at (replicate size 0) (decimal_of number) size (length-replicate {A =
            ℕ} size 0);
      }

-- ---- Put

-- a number's digits, copied
pub written-decimal : (number place copied : ℕ) (digits out part : List ℕ) → place ≤ length out
    → digits ≡ decimal_of number
    → copied ≡ length digits
    → part ≡ take (length digits) digits ++ drop (length digits) (mid_of place (length out - place) out)
    → Put (decimal_of number) place out (place + copied) (put_mid place (length out - place) out part)
written-decimal number place copied digits out part inside is count copies =
    record {
      past = ap (λ (n : ℕ). place + n) (count ∙ ap length is);
      content =
          with_text-part place out (decimal_of number) part inside
          (copies
          ∙ ap (λ (t : List ℕ). take (length t) t ++ drop (length t) (mid_of place (length out - place) out)) is);
    }

-- a space and a number
pub written-spaced : (number place end : ℕ) (out after : List ℕ)
    → place < length out
    → Put (decimal_of number) (place + 1) (set out place space) end after
    → Put (next_text true number) place out end after
unfolding next_text
written-spaced number place end out after inside put =
    record {
      past = omega (arith, put.past);
      content =
          put.content
          ∙ ap (λ (t : List ℕ). with_text (place + 1) (decimal_of number) t) (with_text-set place out space inside)
          ∙ with_text-more place out (space ∷ []) (decimal_of number) (omega arith);
    }

pub written-first : (number place end : ℕ) (out after : List ℕ)
    → Put (decimal_of number) place out end after → Put (next_text false number) place out end after
unfolding next_text
written-first number place end out after put = record { past = put.past; content = put.content }

pub next_text-short : (behind : Bool) (number : ℕ) → number < 18446744073709551616
    → length (next_text behind number) ≤ widest_number
unfolding next_text
next_text-short true number small = omega (arith, decimal_of-short number small)
next_text-short false number small = omega (arith, decimal_of-short number small)

-- ---- numbers_text

spaced_numbers_snoc : (numbers : List ℕ) (number : ℕ)
    → spaced_numbers (numbers ++ (number ∷ [])) ≡ spaced_numbers numbers ++ (space ∷ decimal_of number)
unfolding spaced_numbers
spaced_numbers_snoc [] number = append-nil (space ∷ decimal_of number)
spaced_numbers_snoc (n ∷ ns) number =
    ap (λ (text : List ℕ). (space ∷ decimal_of n) ++ text) (spaced_numbers_snoc ns number)
    ∙ sym (append_assoc (space ∷ decimal_of n) (spaced_numbers ns) (space ∷ decimal_of number))

-- one number more
pub numbers_text_snoc : (numbers : List ℕ) (number : ℕ)
    → numbers_text (numbers ++ (number ∷ [])) ≡ numbers_text numbers ++ next_text (ltb 0 (length numbers)) number
unfolding numbers_text spaced_numbers next_text
numbers_text_snoc [] number = append-nil (decimal_of number)
numbers_text_snoc (n ∷ ns) number =
    ap (λ (text : List ℕ). decimal_of n ++ text) (spaced_numbers_snoc ns number)
    ∙ sym (append_assoc (decimal_of n) (spaced_numbers ns) (space ∷ decimal_of number))
    ∙ rw (lt-ltb 0 (suc (length ns)) (omega arith))

-- a text ends inside the output that it was written to
pub put-inside : (text : List ℕ) (place : ℕ) (before : List ℕ) (end : ℕ) (after : List ℕ) → place ≤ length before
    → Put text place before end after → end ≤ length after
put-inside text place before end after inside put =
    let behind = drop (place + length text) before in
    omega (
      arith,
      put.past,
      ap length put.content,
      length-append (take place before ++ text) behind,
      length-append (take place before) text,
      length-take-le place before inside,
    )

-- ---- PutNumbers

-- what holds at each turn of `put_all`
pub record PutSoFar (numbers : List ℕ) (place : ℕ) (before : List ℕ) (taken end : ℕ) (after : List ℕ) : Type 0 where
  pub within : taken ≤ length numbers
  pub size : length after ≡ length before
  pub short : end ≤ place + widest_number * taken
  pub past : end ≡ place + length (numbers_text (take taken numbers))
  pub content : after ≡ with_text place (numbers_text (take taken numbers)) before

pub put_start : (numbers : List ℕ) (place : ℕ) (before : List ℕ) → PutSoFar numbers place before 0 place before
unfolding numbers_text
put_start numbers place before =
    record {
      within = omega arith;
      size = refl;
      short = omega arith;
      past = sym (add-zero place);
      content = sym (with_text-none place before);
    }

module _ {numbers : List ℕ} {place : ℕ} {before : List ℕ} {taken end : ℕ} {after : List ℕ}
    (so_far : PutSoFar numbers place before taken end after)
    (room : place + widest_number * length numbers ≤ length before) where
  pub put-room : taken < length numbers → end + widest_number ≤ length after
  put-room more = omega (arith, so_far.short, so_far.size)

  pub put_next : (next : ℕ) (later : List ℕ) → taken < length numbers
      → get_or numbers taken 0 < 18446744073709551616
      → Put (next_text (ltb 0 taken) (get_or numbers taken 0)) end after next later
      → length later ≡ length after
      → PutSoFar numbers place before (taken + 1) next later
  put_next next later more small put same =
      let text = numbers_text (take taken numbers) in
      let number = next_text (ltb 0 taken) (get_or numbers taken 0) in
      let passed = length-take-le taken numbers (omega arith) in
      let is : numbers_text (take (taken + 1) numbers) ≡ text ++ number =
      ap (λ (n : ℕ). numbers_text (take n numbers)) (add-one taken)
      ∙ ap numbers_text (take-suc numbers taken 0 more)
      ∙ numbers_text_snoc (take taken numbers) (get_or numbers taken 0)
      ∙ ap (λ (n : ℕ). text ++ next_text (ltb 0 n) (get_or numbers taken 0)) passed in
      record {
        within = omega arith;
        size = same ∙ so_far.size;
        short = omega (arith, so_far.short, put.past, next_text-short (ltb 0 taken) (get_or numbers taken 0) small);
        past = omega (arith, put.past, so_far.past, ap length is, length-append text number);
        content =
            put.content
            ∙ (λ j. with_text (so_far.past j) number (so_far.content j))
            ∙ with_text-more place before text number (omega arith)
            ∙ ap (λ (t : List ℕ). with_text place t before) (sym is);
      }

  pub put-end : length numbers ≤ taken → PutNumbers numbers place before end after
  unfolding roomed_text has_room
  put-end all =
      let done : take taken numbers ≡ numbers = take_all taken numbers all in
      record {
        past =
            rw (le-leb (place + widest_number * length numbers) (length before) room)
            (so_far.past ∙ ap (λ (ns : List ℕ). place + length (numbers_text ns)) done);
        short = omega (arith, so_far.short, so_far.within);
        content =
            rw (le-leb (place + widest_number * length numbers) (length before) room)
            (so_far.content ∙ ap (λ (ns : List ℕ). with_text place (numbers_text ns) before) done);
      }

-- no room
pub put-none : (numbers : List ℕ) (place : ℕ) (before : List ℕ)
    → length before < place + widest_number * length numbers → PutNumbers numbers place before place before
unfolding roomed_text has_room
put-none numbers place before tight =
    record {
      past = rw (lt-leb (place + widest_number * length numbers) (length before) tight) (sym (add-zero place));
      short = omega arith;
      content =
          rw (lt-leb (place + widest_number * length numbers) (length before) tight) (sym (with_text-none place before));
    }

-- ---- read_number

-- what reading the rest comes to, once a value has been passed
unfoldable pub read_on : ℕ → List ℕ → ℕ → Option ℕ
read_on value rest most =
    cond (all_numerals rest && leb (decimal_value value rest) most) (Some (decimal_value value rest))
    None

pub read_number-none : (text : List ℕ) (most : ℕ) → length text ≡ 0 → None ≡ read_number text most
unfolding read_number
read_number-none [] most none = refl
read_number-none (c ∷ cs) most none = absurd (omega arith)

pub read_number-some : (text : List ℕ) (most : ℕ) → (length text ≡ 0 → ⊥) → read_number text most ≡ read_on 0 text most
unfolding read_number read_on
read_number-some text most some = rw (lt-ltb 0 (length text) (omega (arith, some)))

-- a value never falls
decimal_value-least : (passed : ℕ) (text : List ℕ) → passed ≤ decimal_value passed text
unfolding decimal_value
decimal_value-least passed [] = omega arith
decimal_value-least passed (c ∷ cs) = omega (arith, decimal_value-least (passed * 10 + (c - numeral0)) cs)

module _ (text : List ℕ) (most value passed : ℕ) (inside : passed < length text) where
  abbrev character : ℕ
  character = get_or text passed 0

  abbrev rest : List ℕ
  rest = drop (suc passed) text

  -- a character that is no numeral
  pub read_on_low : character < numeral0 → None ≡ read_on value (drop passed text) most
  unfolding read_on all_numerals is_numeral is_between
  read_on_low low = rw (drop-cons text passed 0 inside, lt-leb numeral0 character low)

  pub read_on_high : numeral9 < character → None ≡ read_on value (drop passed text) most
  unfolding read_on all_numerals is_numeral is_between
  read_on_high high =
      rw (drop-cons text passed 0 inside, lt-leb character numeral9 high, and-false (leb numeral0 character))

  -- too large a value
  pub read_on_over : most < value * 10 + (character - numeral0) → None ≡ read_on value (drop passed text) most
  unfolding read_on decimal_value
  read_on_over over =
      let large : most < decimal_value (value * 10 + (character - numeral0)) rest =
      omega (arith, decimal_value-least (value * 10 + (character - numeral0)) rest) in
      rw (
        drop-cons text passed 0 inside,
        lt-leb (decimal_value (value * 10 + (character - numeral0)) rest) most large,
        and-false (all_numerals (character ∷ rest)),
      )

  -- a digit more
  pub read_on_next : numeral0 ≤ character → character ≤ numeral9
      → read_on value (drop passed text) most
      ≡ read_on (value * 10 + (character - numeral0)) (drop (passed + 1) text) most
  unfolding read_on all_numerals is_numeral is_between decimal_value
  read_on_next low high =
      rw (drop-cons text passed 0 inside, le-leb numeral0 character low, le-leb character numeral9 high, add-one passed)

-- what holds at each turn of `read_number`
pub record Reading (text : List ℕ) (most value passed : ℕ) : Type 0 where
  pub fits : value ≤ most
  pub rest : read_number text most ≡ read_on value (drop passed text) most

pub read_on_end : (text : List ℕ) (most value passed : ℕ) → length text ≤ passed → value ≤ most
    → Some value ≡ read_on value (drop passed text) most
unfolding read_on all_numerals decimal_value
read_on_end text most value passed over fits = rw (drop_of_length-le text over, le-leb value most fits)

-- a number that was read is no larger than the largest
pub read_number-most : (text : List ℕ) (most number : ℕ) → Some number ≡ read_number text most → number ≤ most
unfolding read_number
read_number-most text most number is =
    go (ltb 0 (length text) && all_numerals text) (leb (decimal_value 0 text) most) refl is
  where
    go : (formed fits : Bool) → leb (decimal_value 0 text) most ≡ fits
        → Some number ≡ cond (formed && fits) (Some (decimal_value 0 text)) None → number ≤ most
    go true true fits is =
        let value : number ≡ decimal_value 0 text = cc in
        omega (arith, leb-true (decimal_value 0 text) most fits)
    go true false _ is = absurd (let z : ◌≡◌ {A = ℕ} 0 1 = cc in omega arith)
    go false fits _ is = absurd (let z : ◌≡◌ {A = ℕ} 0 1 = cc in omega arith)

-- ---- one answer

pub put_unique : (numbers : List ℕ) (place : ℕ) (before : List ℕ) (end other : ℕ) (after later : List ℕ)
    → PutNumbers numbers place before end after → PutNumbers numbers place before other later → (end ≡ other) × (after
    ≡ later)
put_unique numbers place before end other after later one two =
    (one.past ∙ sym two.past, one.content ∙ sym two.content)

-- ---- a text put together

module _ {before between after : List ℕ} {place middle end : ℕ} {one other : List ℕ} where
  -- a text, and another behind it
  pub written-more : place ≤ length before
      → Put one place before middle between → Put other middle between end after
      → Put (one ++ other) place before end after
  written-more inside first second =
      record {
        past = omega (arith, first.past, second.past, length-append one other);
        content =
            second.content
            ∙ (λ j. with_text (first.past j) other (first.content j))
            ∙ with_text-more place before one other inside;
      }

-- a character
pub written-set : (out : List ℕ) (place character : ℕ) → place < length out
    → Put (character ∷ []) place out (place + 1) (set out place character)
written-set out place character inside = record { past = refl; content = with_text-set place out character inside }

-- numbers that have room
pub written-numbers : (numbers : List ℕ) (place : ℕ) (before : List ℕ) (end : ℕ) (after : List ℕ)
    → place + widest_number * length numbers ≤ length before
    → PutNumbers numbers place before end after → Put (numbers_text numbers) place before end after
unfolding roomed_text has_room
written-numbers numbers place before end after room put =
    let has = le-leb (place + widest_number * length numbers) (length before) room in
    record { past = rw has at put.past; content = rw has at put.content }

-- ---- a number as two digits

pub digits-size : (out : List ℕ) (upper lower feed : ℕ) → length (set (set (set out 0 upper) 1 lower) 2 feed) ≡ length
    out
digits-size out upper lower feed =
    length-set (set (set out 0 upper) 1 lower) 2 feed ∙ length-set (set out 0 upper) 1 lower ∙ length-set out 0 upper

-- two digits, and a character behind them
pub put-digits : (number upper lower feed : ℕ) (out : List ℕ)
    → upper ≡ upper_digit number → lower ≡ lower_digit number → 3 ≤ length out
    → Put (digits_of (number ∷ []) ++ (feed ∷ [])) 0 out 3 (set (set (set out 0 upper) 1 lower) 2 feed)
unfolding digits_of
put-digits number upper lower feed out isUpper is_lower room =
    let one = set out 0 upper in
    let two = set one 1 lower in
    let size : length two ≡ length out = length-set one 1 lower ∙ length-set out 0 upper in
    subst (λ (text : List ℕ). Put text 0 out 3 (set two 2 feed)) (λ j. isUpper j ∷ is_lower j ∷ feed ∷ [])
    (written-more (omega arith)
    (written-more (omega arith)
    (written-set out 0 upper (omega arith))
    (written-set one 1 lower (omega (arith, length-set out 0 upper))))
    (written-set two 2 feed (omega (arith, size))))

-- ---- a test that a number tells

pub test_true : (test : Bool) (number one other : ℕ) → number ≡ cond test one other → (number ≡ other → ⊥) → test ≡ true
test_true true number one other is differs = refl
test_true false number one other is differs = absurd (differs is)

pub test_false : (test : Bool) (number one other : ℕ) → number ≡ cond test one other → (one ≡ other → ⊥) → number ≡
    other
    → test ≡ false
test_false true number one other is differs same = absurd (differs (sym is ∙ same))
test_false false number one other is differs same = refl
