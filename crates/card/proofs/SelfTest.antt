-- The self-test is passed: by computation of the definitions. Assumes nothing.
use mathlib.Core.Path.{◌≡◌, refl}
use Rattle.numbers.specs.Profile.{limits_of, prov_place_of, marks_of, floor_in}
use Rattle.numbers.specs.Codes.{said_by, quality_of_code, quality_of_word, said_in}
use Rattle.numbers.specs.Kind.{known_row_of, input_kind_of, is_argument_out, is_input_out}
use Rattle.numbers.specs.Rows.{first_that_applies}
use Rattle.frame.specs.Octets.{same}
use Rattle.frame.specs.Read.{right_length, right_destination, right_protocol, right_organisation, right_version, right_tlv, frame_number, read_code}
use Rattle.frame.specs.Write.{header_octets, data_octets, frame_octets, write_answer}
use Rattle.run.specs.Run.{is_expired, raw_at, began_after, is_up_after, last_good, at_moment, up_before, brought_to, passed_quality}
use Rattle.input.specs.Record.{equal_count, line_after, heard_after, settings_after, quality_now, can_expire, forecast, input_at_moment, input_brought_to, after_event, takes, record_after}
use Rattle.choice.specs.Candidate.{is_usable, is_admitted, ranked_quality, candidate_of, is_eligible, is_better, is_lower, lower_among, is_like}
use Rattle.choice.specs.Rank.{is_placed, rank_of}
use Rattle.choice.specs.Choice.{seeded, offered, scanned, choose}
use Rattle.switch.specs.Choices.{commanded}
use Rattle.switch.specs.OneChoice.{manual_may_stand, judged, selected_by, is_clock_locked, was_locked, decide}
use Rattle.selector.specs.State.{candidate_for, decided, ticked_once}
use Rattle.selector.specs.Answer.{selected_candidate, answer_of}
use Rattle.selector.specs.Clock.{clock_state, clock_quality, selected_number, switch_number, switch_input}
use Rattle.due.specs.Next.{lesser, sum_or_never, if_later, timer_due, frame_due, next_of, next_among}
use Rattle.due.specs.Served.{served_from, served}
use Rattle.events.specs.Refusals.{is_wrong_kind, frame_refusal, early_refusal, is_forced_switch, late_refusal}
use Rattle.events.specs.Step.{is_held_in_byte, held_argument, input_after, inputs_after, mode_after, at_its_moment, step_read}
use Rattle.events.specs.Given.{recorded_argument}
use Rattle.quickstep.specs.Again.{code_again, frame_again, read_again, is_again, says_again, again_input, again_due, again_own}
use Rattle.quickstep.specs.Own.{is_command, is_served, seen_alike, own_take, own_step}
use Rattle.quickstep.specs.Watch.{due_anew, due_after, served_watch, completed, own_put, take_step, watch_step}
use Rattle.card.specs.Lent.{is_ranged, ranged_watch, event_lent, read_for, step_lent}
use Rattle.card.specs.SelfTest.{lent_octets, test_frame, tested_watch, is_told, answered_right, self_test, SelfTestRight}

passed : self_test ≡ 1
unfolding
    self_test answered_right is_told tested_watch test_frame lent_octets
    step_lent event_lent is_ranged ranged_watch watch_step take_step own_put completed served_watch due_anew due_after
    own_step own_take seen_alike is_served is_command again_own again_input again_due says_again is_again read_again
    code_again frame_again
    read_for
    write_answer frame_octets data_octets header_octets
    read_code frame_number right_length right_destination right_protocol right_organisation right_version right_tlv same
    step_read at_its_moment commanded recorded_argument mode_after inputs_after input_after held_argument is_held_in_byte
    late_refusal is_forced_switch early_refusal frame_refusal is_wrong_kind first_that_applies is_input_out is_argument_out known_row_of
    answer_of switch_input switch_number selected_number clock_quality clock_state selected_candidate
    served served_from next_among next_of frame_due timer_due if_later sum_or_never lesser
    ticked_once decided candidate_for decide was_locked is_clock_locked selected_by judged manual_may_stand
    is_like choose scanned offered seeded lower_among is_lower is_better is_eligible candidate_of ranked_quality is_admitted
    is_usable is_placed rank_of
    record_after takes after_event input_brought_to input_at_moment forecast can_expire quality_now settings_after heard_after
    line_after equal_count
    passed_quality brought_to up_before at_moment last_good is_up_after began_after raw_at is_expired
    said_in quality_of_code quality_of_word said_by limits_of prov_place_of marks_of floor_in input_kind_of
passed = refl

-- THE SELF-TEST is passed.
pub lent-test-right : SelfTestRight
lent-test-right = record { passes = passed }
