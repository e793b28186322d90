-- A question as a line of text, `? PORT TIME LENGTH SOURCE`: the paper of readings of document 02, "Programs". Cited by
-- `src/lib.rt`. A character is its number in ASCII. Assumes nothing.
use Rattle.std.specs.Prelude.{ℕ, suc, ◌+◌, ◌-◌, ◌%◌, ◌^◌, Bool, false, not, ◌&&◌, cond, Option, None, Some, List, [], ◌∷◌, eqb, leb, ltb, length, get_or, take, drop}
use Rattle.digits.specs.Decimal.{decimal_value}
use Rattle.digits.specs.Digits.{all_digits, space, all_numerals}
use Rattle.questions.specs.declared.PartRead.{PartRead}
use Rattle.questions.specs.declared.QuestionRead.{QuestionRead}

-- the mark that a question begins with
abbrev pub mark : ℕ
mark = 63

-- "`-` for no octets"
abbrev pub dash : ℕ
dash = 45

-- a "line that begins with `?`": it goes to the senders, any other to the selector
unfoldable pub is_asked : List ℕ → Bool
is_asked [] = false
is_asked (character ∷ rest) = eqb character mark

-- how many characters a text's first part has: those before the first space, or all
unfoldable pub part_length : List ℕ → ℕ
part_length [] = 0
part_length (character ∷ rest) = cond (eqb character space) 0 (suc (part_length rest))

-- a text's first part
abbrev pub first_part : List ℕ → List ℕ
first_part text = take (part_length text) text

-- whether a space ends it
abbrev pub has_more : List ℕ → Bool
has_more text = ltb (part_length text) (length text)

-- what follows that space
abbrev pub other_parts : List ℕ → List ℕ
other_parts text = drop (suc (part_length text)) text

-- the number that decimal digits say
abbrev pub number_said : List ℕ → ℕ
number_said text = decimal_value 0 text

-- "its numbers are decimal digits, below 2^64"
unfoldable pub is_number : List ℕ → Bool
is_number text = not (eqb (length text) 0) && all_numerals text && ltb (number_said text) (2 ^ 64)

-- "SOURCE is an even number of lowercase digits, 2 to 64, or `-` for no octets"
unfoldable pub is_source : List ℕ → Bool
is_source text =
    cond (eqb (length text) 1) (eqb (get_or text 0 0) dash)
    (leb 2 (length text) && leb (length text) 64 && eqb (length text % 2) 0 && all_digits text)

-- whether a text begins with the mark alone
unfoldable pub has_mark : List ℕ → Bool
has_mark text = eqb (part_length text) 1 && eqb (get_or text 0 0) mark

-- a part that is a number and that a space ends
abbrev pub is_number_part : List ℕ → Bool
is_number_part text = is_number (first_part text) && has_more text

-- "Any other line that begins with `?`" is none
unfoldable pub read_question : List ℕ → Option QuestionRead
read_question line =
    let first = other_parts line in
    let second = other_parts first in
    let third = other_parts second in
    let source = other_parts third in
    cond
    (has_mark line && has_more line && is_number_part first && is_number_part second && is_number_part third
    && is_source source)
    (Some
    (record {
      port = number_said (first_part first);
      time = number_said (first_part second);
      room = number_said (first_part third);
      start = length line - length source;
    }))
    None

-- ---- the code's parts of it

-- where the part from a place ends
abbrev pub part_end : List ℕ → ℕ → ℕ
part_end text start = start + part_length (drop start text)

-- the number that the part from a place says, and the place after the space that ends it
abbrev pub part_at : List ℕ → ℕ → PartRead
part_at line start = record { value = number_said (first_part (drop start line)); next = part_end line start + 1 }

-- the number from a place that a space ends, if there is one
unfoldable pub read_part : List ℕ → ℕ → Option PartRead
read_part line start = cond (is_number_part (drop start line)) (Some (part_at line start)) None
