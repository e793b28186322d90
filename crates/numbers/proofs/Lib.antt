-- The tables of codes and words, by computation; the tests on a row of the table of kinds; that no report says failed;
-- of rows of refusals, that the first that applies is the smallest; that no place of PROV is above 8; that of a word no
-- argument is out of range. `Truth`: tests, by their cases.
pub mod Truth
pub mod Rows
pub mod Cases
pub mod Places
pub mod Told
pub mod Words
