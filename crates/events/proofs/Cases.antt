-- L4: 48 due moments in one tick, by computation. Assumes nothing.
use mathlib.Core.Path.{refl}
use Rattle.numbers.specs.Codes.{said_by, quality_of_code, quality_of_word, said_in}
use Rattle.numbers.specs.Profile.{limits_of, prov_place_of, floor_in}
use Rattle.numbers.specs.Kind.{known_row_of, input_kind_of, is_argument_out, is_input_out}
use Rattle.numbers.specs.Rows.{first_that_applies}
use Rattle.frame.specs.Octets.{same}
use Rattle.frame.specs.Read.{right_length, right_destination, right_protocol, right_organisation, right_version, right_tlv, frame_number, read_code}
use Rattle.run.specs.Run.{is_expired, raw_at, began_after, is_up_after, last_good, at_moment, up_before, brought_to, passed_quality}
use Rattle.input.specs.Record.{equal_count, line_after, heard_after, settings_after, quality_now, can_expire, forecast, input_at_moment, input_brought_to, after_event, takes, record_after}
use Rattle.choice.specs.Candidate.{is_usable, is_admitted, ranked_quality, candidate_of, is_eligible, is_better, is_lower, lower_among}
use Rattle.choice.specs.Rank.{is_placed, rank_of}
use Rattle.choice.specs.Choice.{seeded, offered, scanned, choose}
use Rattle.switch.specs.Choices.{commanded}
use Rattle.switch.specs.OneChoice.{manual_may_stand, judged, selected_by, is_clock_locked, was_locked, decide}
use Rattle.selector.specs.State.{candidate_for, decided, ticked_once}
use Rattle.due.specs.Next.{lesser, sum_or_never, if_later, timer_due, frame_due, next_of, next_among}
use Rattle.due.specs.Served.{served_from, served}
use Rattle.events.specs.Refusals.{is_wrong_kind, frame_refusal, early_refusal, is_forced_switch, late_refusal}
use Rattle.events.specs.Step.{is_held_in_byte, held_argument, input_after, inputs_after, mode_after, recorded_argument, at_its_moment, step_read, step}
use Rattle.events.specs.Sequence as S
use Rattle.events.specs.Cases.{all_following, MostReached}

pub most-reached : MostReached
unfolding
    S.count_after S.state_after step
    step_read at_its_moment commanded recorded_argument mode_after inputs_after input_after held_argument is_held_in_byte
    late_refusal is_forced_switch early_refusal frame_refusal is_wrong_kind first_that_applies is_input_out is_argument_out known_row_of
    served served_from next_among next_of frame_due timer_due if_later sum_or_never lesser
    ticked_once decided candidate_for decide was_locked is_clock_locked selected_by judged manual_may_stand
    choose scanned offered seeded lower_among is_lower is_better is_eligible candidate_of ranked_quality is_admitted is_usable
    is_placed rank_of
    record_after takes after_event input_brought_to input_at_moment forecast can_expire quality_now settings_after heard_after
    line_after equal_count
    passed_quality brought_to up_before at_moment last_good is_up_after began_after raw_at is_expired
    read_code frame_number right_length right_destination right_protocol right_organisation right_version right_tlv same
    said_in quality_of_code quality_of_word said_by limits_of prov_place_of floor_in input_kind_of all_following
most-reached = record { reached = refl }
