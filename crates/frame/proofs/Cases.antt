-- The table of frames, by computation. Assumes nothing.
use mathlib.Core.Path.{refl}
use Rattle.numbers.specs.Rows.{first_that_applies}
use Rattle.frame.specs.Octets.{same}
use Rattle.frame.specs.Read.{right_length, right_destination, right_protocol, right_organisation, right_version, right_tlv, frame_number, read_code}
use Rattle.frame.specs.Cases.{ReadCases}

pub read_cases_hold : ReadCases
unfolding
    read_code frame_number first_that_applies
    right_length right_destination right_protocol right_organisation right_version right_tlv same
read_cases_hold = record { read = refl }
